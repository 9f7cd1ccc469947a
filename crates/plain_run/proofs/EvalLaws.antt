-- What a level of an expression gives, by what its operands give.
use Rattle.std.proofs.Common.{◌≡◌, ℤ, pos, Bool, true, false, not, ◌&&◌, ◌||◌, if◌then◌else◌, Some, None, Ok, Err, refl, sym, ap, ap₂, ◌∙◌}
use Rattle.c_lang.specs.Names.{Bytes}
use Rattle.c_lang.specs.Trees.{expression_of}
use Rattle.c_lang.specs.Evaluation.{Look, and_then, applied, element_at, ev, joined}
use Rattle.c_lang.specs.Values.{Value, Answer, Num, is_zero, negated, number, truth}
use Rattle.c_lang.specs.declared.event.Trap.{Trap}
use Rattle.c_lang.specs.declared.expr.Expr.{Expr}
use Rattle.c_lang.specs.declared.expr.Expr.TheVariants as expr
use Rattle.c_lang.specs.declared.expr.Op.{Op}
use Rattle.c_lang.specs.declared.expr.Op.TheVariants as op
use Rattle.c_lang.proofs.TreeLemmas.{expression_of-Lit, expression_of-Var, expression_of-Elem, expression_of-Neg, expression_of-Not, expression_of-Bin}
use Rattle.plain_run.specs.Code.Arithmetic.{settled}

module _ {F : Type 0} (same : F → F → Bool) where
  -- `&&` and `||`, where the left operand is 0 and where it isn't
  abbrev both : Bool → Answer F → Answer F
  both z b = if z then truth false else and_then b (λ w. truth (not (is_zero (number w))))

  abbrev either : Bool → Answer F → Answer F
  either z b = if z then and_then b (λ w. truth (not (is_zero (number w)))) else truth true

  open_both : (z : Bool) (b : Answer F) → None ≡ (if z then Some (pos 0) else None) → and_then b (λ w. truth (not z && not (is_zero (number w)))) ≡ both z b
  open_both true b is = cc
  open_both false b is = refl

  open_either : (z : Bool) (b : Answer F) → None ≡ (if z then None else Some (pos 1)) → and_then b (λ w. truth (not z || not (is_zero (number w)))) ≡ either z b
  open_either true b is = refl
  open_either false b is = cc

  settled_both : (z : Bool) (b : Answer F) (n : ℤ) → Some n ≡ (if z then Some (pos 0) else None) → Ok (Num n) ≡ both z b
  settled_both true b n is = cc
  settled_both false b n is = cc

  settled_either : (z : Bool) (b : Answer F) (n : ℤ) → Some n ≡ (if z then None else Some (pos 1)) → Ok (Num n) ≡ either z b
  settled_either true b n is = cc
  settled_either false b n is = cc

  -- an operator that its left operand decides, one that it doesn't, and one whose left operand fails
  pub joined-settled : (o : Op) (v : Value F) (b : Answer F) (n : ℤ) → Some n ≡ settled o (number v) → Ok (Num n) ≡ joined same o (Ok v) b
  joined-settled op.And v b n is = settled_both (is_zero (number v)) b n is
  joined-settled op.Or v b n is = settled_either (is_zero (number v)) b n is
  joined-settled op.Mul v b n is = cc
  joined-settled op.Div v b n is = cc
  joined-settled op.Rem v b n is = cc
  joined-settled op.Add v b n is = cc
  joined-settled op.Sub v b n is = cc
  joined-settled op.Lt v b n is = cc
  joined-settled op.Le v b n is = cc
  joined-settled op.Gt v b n is = cc
  joined-settled op.Ge v b n is = cc
  joined-settled op.Eq v b n is = cc
  joined-settled op.Ne v b n is = cc

  pub joined-open : (o : Op) (v : Value F) (b : Answer F) → None ≡ settled o (number v) → and_then b (λ w. applied same o v w) ≡ joined same o (Ok v) b
  joined-open op.And v b is = open_both (is_zero (number v)) b is
  joined-open op.Or v b is = open_either (is_zero (number v)) b is
  joined-open op.Mul v b is = refl
  joined-open op.Div v b is = refl
  joined-open op.Rem v b is = refl
  joined-open op.Add v b is = refl
  joined-open op.Sub v b is = refl
  joined-open op.Lt v b is = refl
  joined-open op.Le v b is = refl
  joined-open op.Gt v b is = refl
  joined-open op.Ge v b is = refl
  joined-open op.Eq v b is = refl
  joined-open op.Ne v b is = refl

  joined-fails : (o : Op) (t : Trap) (b : Answer F) → Err t ≡ joined same o (Err t) b
  joined-fails op.Mul t b = refl
  joined-fails op.Div t b = refl
  joined-fails op.Rem t b = refl
  joined-fails op.Add t b = refl
  joined-fails op.Sub t b = refl
  joined-fails op.Lt t b = refl
  joined-fails op.Le t b = refl
  joined-fails op.Gt t b = refl
  joined-fails op.Ge t b = refl
  joined-fails op.Eq t b = refl
  joined-fails op.Ne t b = refl
  joined-fails op.And t b = refl
  joined-fails op.Or t b = refl

  module _ (look : Look F) where
    abbrev pub value : Expr → Answer F
    value e = ev same look (expression_of e)

    pub in_literal : {e : Expr} {z : ℤ} → e ≡ expr.Lit z → Ok (Num z) ≡ value e
    in_literal {e} {z} is = sym (ap (ev same look) (ap expression_of is ∙ expression_of-Lit z))

    pub in_variable : {e : Expr} {x : Bytes} {v : Value F} → e ≡ expr.Var x → v ≡ look.value x → Ok v ≡ value e
    in_variable {e} {x} {v} is is_value = ap (λ w. Ok w) is_value ∙ sym (ap (ev same look) (ap expression_of is ∙ expression_of-Var x))

    -- j is what the code evaluates for i
    in_elements : {e i j : Expr} {a : Bytes} {r : Answer F} → e ≡ expr.Elem a i → j ≡ i → r ≡ and_then (value j) (λ v. element_at (look.elements a) (number v)) → r ≡ value e
    in_elements {e} {i} {j} {a} {r} is at gives =
        gives ∙ ap (λ x. and_then (value x) (λ v. element_at (look.elements a) (number v))) at ∙ sym (ap (ev same look) (ap expression_of is ∙ expression_of-Elem a i))

    pub in_element : {e i j : Expr} {a : Bytes} {v : Value F} {z : ℤ} {r : Answer F} → e ≡ expr.Elem a i → j ≡ i → Ok v ≡ value j → z ≡ number v
        → r ≡ element_at (look.elements a) z → r ≡ value e
    in_element {e} {i} {j} {a} {v} {z} {r} is at is_value is_number gives =
        in_elements is at (gives ∙ ap (element_at (look.elements a)) is_number ∙ ap (λ w. and_then w (λ v. element_at (look.elements a) (number v))) is_value)

    pub element_fails : {e i j : Expr} {a : Bytes} {t : Trap} → e ≡ expr.Elem a i → j ≡ i → Err t ≡ value j → Err t ≡ value e
    element_fails {e} {i} {j} {a} {t} is at fails = in_elements is at (ap (λ w. and_then w (λ v. element_at (look.elements a) (number v))) fails)

    in_negations : {e i j : Expr} {r : Answer F} → e ≡ expr.Neg i → j ≡ i → r ≡ and_then (value j) (λ v. negated (number v)) → r ≡ value e
    in_negations {e} {i} {j} {r} is at gives =
        gives ∙ ap (λ x. and_then (value x) (λ v. negated (number v))) at ∙ sym (ap (ev same look) (ap expression_of is ∙ expression_of-Neg i))

    pub in_negation : {e i j : Expr} {v : Value F} {r : Answer F} → e ≡ expr.Neg i → j ≡ i → Ok v ≡ value j → r ≡ negated (number v) → r ≡ value e
    in_negation {e} {i} {j} {v} {r} is at is_value gives = in_negations is at (gives ∙ ap (λ w. and_then w (λ v. negated (number v))) is_value)

    pub negation_fails : {e i j : Expr} {t : Trap} → e ≡ expr.Neg i → j ≡ i → Err t ≡ value j → Err t ≡ value e
    negation_fails {e} {i} {j} {t} is at fails = in_negations is at (ap (λ w. and_then w (λ v. negated (number v))) fails)

    in_nots : {e i j : Expr} {r : Answer F} → e ≡ expr.Not i → j ≡ i → r ≡ and_then (value j) (λ v. truth (is_zero (number v))) → r ≡ value e
    in_nots {e} {i} {j} {r} is at gives =
        gives ∙ ap (λ x. and_then (value x) (λ v. truth (is_zero (number v)))) at ∙ sym (ap (ev same look) (ap expression_of is ∙ expression_of-Not i))

    pub in_not : {e i j : Expr} {v : Value F} {r : Answer F} → e ≡ expr.Not i → j ≡ i → Ok v ≡ value j → r ≡ truth (is_zero (number v)) → r ≡ value e
    in_not {e} {i} {j} {v} {r} is at is_value gives = in_nots is at (gives ∙ ap (λ w. and_then w (λ v. truth (is_zero (number v)))) is_value)

    pub not_fails : {e i j : Expr} {t : Trap} → e ≡ expr.Not i → j ≡ i → Err t ≡ value j → Err t ≡ value e
    not_fails {e} {i} {j} {t} is at fails = in_nots is at (ap (λ w. and_then w (λ v. truth (is_zero (number v)))) fails)

    in_binaries : {e x y i j : Expr} {o : Op} {r : Answer F} → e ≡ expr.Bin o x y → i ≡ x → j ≡ y → r ≡ joined same o (value i) (value j) → r ≡ value e
    in_binaries {e} {x} {y} {i} {j} {o} {r} is at_left at_right gives =
        gives ∙ ap₂ (λ a b. joined same o (value a) (value b)) at_left at_right ∙ sym (ap (ev same look) (ap expression_of is ∙ expression_of-Bin o x y))

    pub in_binary : {e x y i j : Expr} {o : Op} {v : Value F} {r : Answer F} → e ≡ expr.Bin o x y → i ≡ x → j ≡ y → Ok v ≡ value i → r ≡ joined same o (Ok v) (value j) → r ≡ value e
    in_binary {e} {x} {y} {i} {j} {o} {v} {r} is at_left at_right is_value gives =
        in_binaries is at_left at_right (gives ∙ ap (λ w. joined same o w (value j)) is_value)

    pub binary_fails : {e x i : Expr} (y : Expr) {o : Op} {t : Trap} → e ≡ expr.Bin o x y → i ≡ x → Err t ≡ value i → Err t ≡ value e
    binary_fails {e} {x} {i} y {o} {t} is at_left fails =
        in_binaries is at_left refl (joined-fails o t (value y) ∙ ap (λ w. joined same o w (value y)) fails)

    pub open_right : (e : Expr) (o : Op) (v : Value F) {w : Value F} {r : Answer F} → r ≡ applied same o v w → Ok w ≡ value e → None ≡ settled o (number v) → r ≡ joined same o (Ok v) (value e)
    open_right e o v {w} {r} gives is_value opens = gives ∙ ap (λ b. and_then b (λ u. applied same o v u)) is_value ∙ joined-open o v (value e) opens

    pub right_fails : (e : Expr) (o : Op) (v : Value F) {t : Trap} → Err t ≡ value e → None ≡ settled o (number v) → Err t ≡ joined same o (Ok v) (value e)
    right_fails e o v {t} fails opens = ap (λ b. and_then b (λ u. applied same o v u)) fails ∙ joined-open o v (value e) opens
