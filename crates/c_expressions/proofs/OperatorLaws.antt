-- The operators and their numbers.
use Rattle.std.proofs.Common.{◌≡◌, ℕ, ◌<◌, ◌≤◌, Bool, true, false, cond, nat_eq, Some, refl, arith}
use Rattle.std.specs.Prelude.{◌⊎◌}
use Rattle.std.proofs.Common.{inl, inr}
use Rattle.std.proofs.lemmas.Bool.{eqb-true}
use Rattle.c_lang.specs.declared.expr.Op.{Op}
use Rattle.c_lang.specs.declared.expr.Op.TheVariants as op
use Rattle.c_lang.specs.Operators.{level}
use Rattle.c_grammar.specs.Tokens.{operator_number}
use Rattle.c_expressions.specs.Code.ExpressionReading.{operator_at}

pub operator_at-number : (o : Op) → operator_at (operator_number o) ≡ Some o
operator_at-number op.Add = refl
operator_at-number op.Sub = refl
operator_at-number op.Mul = refl
operator_at-number op.Div = refl
operator_at-number op.Rem = refl
operator_at-number op.Lt = refl
operator_at-number op.Gt = refl
operator_at-number op.Le = refl
operator_at-number op.Ge = refl
operator_at-number op.Eq = refl
operator_at-number op.Ne = refl
operator_at-number op.And = refl
operator_at-number op.Or = refl

pub level_small : (o : Op) → level o < 7
level_small op.Add = omega arith
level_small op.Sub = omega arith
level_small op.Mul = omega arith
level_small op.Div = omega arith
level_small op.Rem = omega arith
level_small op.Lt = omega arith
level_small op.Gt = omega arith
level_small op.Le = omega arith
level_small op.Ge = omega arith
level_small op.Eq = omega arith
level_small op.Ne = omega arith
level_small op.And = omega arith
level_small op.Or = omega arith

pub level_positive : (o : Op) → 1 ≤ level o
level_positive op.Add = omega arith
level_positive op.Sub = omega arith
level_positive op.Mul = omega arith
level_positive op.Div = omega arith
level_positive op.Rem = omega arith
level_positive op.Lt = omega arith
level_positive op.Gt = omega arith
level_positive op.Le = omega arith
level_positive op.Ge = omega arith
level_positive op.Eq = omega arith
level_positive op.Ne = omega arith
level_positive op.And = omega arith
level_positive op.Or = omega arith

pub no_index : (o : Op) → nat_eq (operator_number o) 4 ≡ false
no_index op.Add = refl
no_index op.Sub = refl
no_index op.Mul = refl
no_index op.Div = refl
no_index op.Rem = refl
no_index op.Lt = refl
no_index op.Gt = refl
no_index op.Le = refl
no_index op.Ge = refl
no_index op.Eq = refl
no_index op.Ne = refl
no_index op.And = refl
no_index op.Or = refl

-- which way a test went
pub chosen : {A : Type 0} (b : Bool) (x y z : A) → cond b x y ≡ z → ((b ≡ true) × (x ≡ z)) ⊎ ((b ≡ false) × (y ≡ z))
chosen true x y z e = inl (refl, e)
chosen false x y z e = inr (refl, e)

pub number-operator_at : (k : ℕ) (o : Op) → operator_at k ≡ Some o → k ≡ operator_number o
number-operator_at k o e = grind (arith, chosen, eqb-true)
