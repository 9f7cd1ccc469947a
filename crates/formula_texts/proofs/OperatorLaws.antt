-- Operators and marks.
use Rattle.std.proofs.Common.{◌≡◌, ℕ, ◌<◌, ◌≤◌, eqb, List, [], ◌∷◌, Option, Some, None, refl, sym, ap, ◌∙◌, arith, inl, inr}
use Rattle.std.specs.Prelude.{if◌then◌else◌, ◌==◌}
use Rattle.std.proofs.lemmas.Bool.{eqb-true}
use Rattle.c_lexer.proofs.Cases.{chosen}
use Rattle.formula_texts.specs.declared.token.Token.{Token}
use Rattle.formula_texts.specs.declared.token.Token.TheVariants as token
use Rattle.formula_texts.specs.declared.token.Operator.{Operator}
use Rattle.formula_texts.specs.declared.token.Operator.TheVariants as op
use Rattle.formula_texts.specs.declared.token.Mark.{Mark}
use Rattle.formula_texts.specs.declared.token.Mark.TheVariants as mark
use Rattle.formula_texts.specs.Grammar.{level, ◌>>=◌}
use Rattle.formula_texts.specs.Code.Reading.{mark_number, mark_by, after, operator_of, next_by, next_operator}

pub level_small : (o : Operator) → level o < 7
level_small op.Or = omega arith
level_small op.And = omega arith
level_small op.Less = omega arith
level_small op.AtMost = omega arith
level_small op.Greater = omega arith
level_small op.AtLeast = omega arith
level_small op.Equal = omega arith
level_small op.Unequal = omega arith
level_small op.Plus = omega arith
level_small op.Minus = omega arith
level_small op.TightMinus = omega arith
level_small op.Times = omega arith

pub level_positive : (o : Operator) → 1 ≤ level o
level_positive op.Or = omega arith
level_positive op.And = omega arith
level_positive op.Less = omega arith
level_positive op.AtMost = omega arith
level_positive op.Greater = omega arith
level_positive op.AtLeast = omega arith
level_positive op.Equal = omega arith
level_positive op.Unequal = omega arith
level_positive op.Plus = omega arith
level_positive op.Minus = omega arith
level_positive op.TightMinus = omega arith
level_positive op.Times = omega arith

-- no operator binds as `not` does
pub level_apart : (o : Operator) → level o ≤ 3 → level o < 3
level_apart op.Or h = omega arith
level_apart op.And h = omega arith
level_apart op.Less h = omega arith
level_apart op.AtMost h = omega arith
level_apart op.Greater h = omega arith
level_apart op.AtLeast h = omega arith
level_apart op.Equal h = omega arith
level_apart op.Unequal h = omega arith
level_apart op.Plus h = omega arith
level_apart op.Minus h = omega arith
level_apart op.TightMinus h = omega arith
level_apart op.Times h = omega arith

pub bind_some : {A B : Type 0} (r : Option A) (f : A → Option B) (y : B) → (r >>= f) ≡ Some y → (x : A) × (r ≡ Some x) × (f x ≡ Some y)
bind_some (Some x) f y e = (x, refl, e)
bind_some None f y e = absurd cc

-- ---- marks by number

mark_at : ℕ → Mark
mark_at n =
    if n == 0 then mark.RoundOpen else
    (if n == 1 then mark.RoundClose else
    (if n == 2 then mark.SquareOpen else
    (if n == 3 then mark.SquareClose else
    (if n == 4 then mark.Comma else
    (if n == 5 then mark.Slash else mark.Percent)))))

mark_back : (m : Mark) → mark_at (mark_number m) ≡ m
unfolding mark_at
mark_back mark.RoundOpen = refl
mark_back mark.RoundClose = refl
mark_back mark.SquareOpen = refl
mark_back mark.SquareClose = refl
mark_back mark.Comma = refl
mark_back mark.Slash = refl
mark_back mark.Percent = refl

pub same_mark : (m k : Mark) → mark_number m ≡ mark_number k → m ≡ k
same_mark m k e = sym (mark_back m) ∙ ap mark_at e ∙ mark_back k

some_is : {A : Type 0} (x y : A) → Some x ≡ Some y → x ≡ y
some_is x y e = cc

mark_by-is : (m : Mark) (t : Token) (ts rest : List Token) → mark_by m t ts ≡ Some rest → (t ≡ token.Mark m) × (ts ≡ rest)
mark_by-is m (token.Mark k) ts rest e =
    elim (chosen (eqb (mark_number k) (mark_number m)) (Some ts) None (Some rest) e) [
      | inl h ↦ (ap token.Mark (same_mark k m (eqb-true _ _ h.0)), some_is ts rest h.1)
      | inr h ↦ absurd (let f = h.1 in cc)
    ]
mark_by-is m (token.Base x) ts rest e = absurd cc
mark_by-is m (token.Count n) ts rest e = absurd cc
mark_by-is m (token.Number z) ts rest e = absurd cc
mark_by-is m (token.Operator o) ts rest e = absurd cc
mark_by-is m token.Not ts rest e = absurd cc
mark_by-is m token.Null ts rest e = absurd cc
mark_by-is m token.True ts rest e = absurd cc
mark_by-is m token.False ts rest e = absurd cc
mark_by-is m token.Truth ts rest e = absurd cc
mark_by-is m token.Store ts rest e = absurd cc

pub after-is : (m : Mark) (ts rest : List Token) → after m ts ≡ Some rest → ts ≡ token.Mark m ∷ rest
after-is m [] rest e = absurd cc
after-is m (t ∷ ts) rest e =
    let h = mark_by-is m t ts rest e in
    ap (λ (x : Token). x ∷ ts) h.0 ∙ ap (λ (x : List Token). token.Mark m ∷ x) h.1

operator-is : (t : Token) (ts us : List Token) (o : Operator) → next_by (operator_of t) ts ≡ Some (o, us) → (t ≡ token.Operator o) × (ts ≡ us)
operator-is (token.Operator k) ts us o e = let h = some_is (k, ts) (o, us) e in (ap (λ (x : Operator × List Token). token.Operator x.0) h, ap (λ (x : Operator × List Token). x.1) h)
operator-is (token.Mark k) ts us o e = absurd cc
operator-is (token.Base x) ts us o e = absurd cc
operator-is (token.Count n) ts us o e = absurd cc
operator-is (token.Number z) ts us o e = absurd cc
operator-is token.Not ts us o e = absurd cc
operator-is token.Null ts us o e = absurd cc
operator-is token.True ts us o e = absurd cc
operator-is token.False ts us o e = absurd cc
operator-is token.Truth ts us o e = absurd cc
operator-is token.Store ts us o e = absurd cc

pub next-is : (ts us : List Token) (o : Operator) → next_operator ts ≡ Some (o, us) → ts ≡ token.Operator o ∷ us
next-is [] us o e = absurd cc
next-is (t ∷ ts) us o e =
    let h = operator-is t ts us o e in
    ap (λ (x : Token). x ∷ ts) h.0 ∙ ap (λ (x : List Token). token.Operator o ∷ x) h.1
