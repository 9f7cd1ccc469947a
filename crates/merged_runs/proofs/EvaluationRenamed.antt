-- An expression under other names has the answer under other names.
use Rattle.std.proofs.Common.{◌≡◌, ℤ, pos, negsuc, ◌+ℤ◌, ◌-ℤ◌, ◌*ℤ◌, int_lt, int_le, int_div, int_rem, ◌&&◌, ◌||◌, Bool, true, false, not, if◌then◌else◌, List, Option, Some, None, Ok, Err, slice_get, refl, ap, ap₂, ◌∙◌}
use Rattle.c_lang.specs.Names.{Bytes}
use Rattle.c_lang.specs.Trees.{Expression, literal, variable, element, function, null, negation, logical_not, binary, expression_of}
use Rattle.c_lang.specs.Values.{Value, Num, Code, Null, Answer, number, is_zero, in_range, truth, fits_int, negated, sum, difference, product, quotient, remainder}
use Rattle.c_lang.specs.Evaluation.{Look, and_then, element_at, found_element, same_value, applied, joined, ev}
use Rattle.c_lang.specs.declared.event.Trap.TheVariants.{Overflow, Divide}
use Rattle.c_lang.specs.declared.expr.Expr.TheVariants as expr
use Rattle.c_lang.specs.declared.expr.Op.{Op}
use Rattle.c_lang.specs.declared.expr.Op.TheVariants as op
use Rattle.c_lang.proofs.TreeLemmas.{expression_of-Lit, expression_of-Var, expression_of-Bin}
use Rattle.merged_program.specs.Expressions.{renamed}

module _ {F G : Type 0} (m : F → G) where
  abbrev pub renamed_value : Value F → Value G
  renamed_value (Num z) = Num z
  renamed_value (Code f) = Code (m f)
  renamed_value Null = Null

  abbrev pub renamed_answer : Answer F → Answer G
  renamed_answer (Ok v) = Ok (renamed_value v)
  renamed_answer (Err t) = Err t

  pub number-renamed : (v : Value F) → number (renamed_value v) ≡ number v
  number-renamed (Num z) = refl
  number-renamed (Code f) = refl
  number-renamed Null = refl

  -- the names under ρ stand in the second for what they stand for in the first
  pub record Carries (ρ κ : Bytes → Bytes) (l : Look F) (k : Look G) : Type 0 where
    pub value : (x : Bytes) → k.value (ρ x) ≡ renamed_value (l.value x)
    pub elements : (x : Bytes) → k.elements (ρ x) ≡ l.elements x
    pub code : (x : Bytes) → k.code (κ x) ≡ m (l.code x)

  module _ (same : F → F → Bool) (same' : G → G → Bool) (alike : (a b : F) → same' (m a) (m b) ≡ same a b) where
    same_value-renamed : (a b : Value F) → same_value same' (renamed_value a) (renamed_value b) ≡ same_value same a b
    same_value-renamed (Num a) (Num b) = refl
    same_value-renamed (Num a) (Code g) = refl
    same_value-renamed (Num a) Null = refl
    same_value-renamed (Code f) (Num b) = refl
    same_value-renamed (Code f) (Code g) = alike f g
    same_value-renamed (Code f) Null = refl
    same_value-renamed Null (Num b) = refl
    same_value-renamed Null (Code g) = refl
    same_value-renamed Null Null = refl

    found_element-renamed : (o : Option ℤ) → found_element o ≡ renamed_answer (found_element o)
    found_element-renamed (Some z) = refl
    found_element-renamed None = refl

    element_at-renamed : (elements : List ℤ) (z : ℤ) → element_at elements z ≡ renamed_answer (element_at elements z)
    element_at-renamed elements (pos n) = found_element-renamed (slice_get elements n)
    element_at-renamed elements (negsuc n) = refl

    chosen : (b : Bool) (x y : Answer G) (u v : Answer F) → x ≡ renamed_answer u → y ≡ renamed_answer v
        → (if b then x else y) ≡ renamed_answer (if b then u else v)
    chosen true x y u v p q = p
    chosen false x y u v p q = q

    in_range-renamed : (z : ℤ) → in_range z ≡ renamed_answer (in_range z)
    in_range-renamed z = chosen (fits_int z) (Ok (Num z)) (Err Overflow) (Ok (Num z)) (Err Overflow) refl refl

    quotient-renamed : (a b : ℤ) → quotient a b ≡ renamed_answer (quotient a b)
    quotient-renamed a b = chosen (is_zero b) (Err Divide) (in_range (int_div a b)) (Err Divide) (in_range (int_div a b)) refl (in_range-renamed (int_div a b))

    remainder-renamed : (a b : ℤ) → remainder a b ≡ renamed_answer (remainder a b)
    remainder-renamed a b =
        chosen (is_zero b) (Err Divide) _ (Err Divide) _ refl
        (chosen (fits_int (int_div a b)) (Ok (Num (int_rem a b))) (Err Overflow) (Ok (Num (int_rem a b))) (Err Overflow) refl refl)

    module _ (v w : Value F) where
      on_numbers : (g : ℤ → ℤ → Answer G) (f : ℤ → ℤ → Answer F) → ((a b : ℤ) → g a b ≡ renamed_answer (f a b))
          → g (number (renamed_value v)) (number (renamed_value w)) ≡ renamed_answer (f (number v) (number w))
      on_numbers g f h = ap₂ g (number-renamed v) (number-renamed w) ∙ h (number v) (number w)

    applied-renamed : (o : Op) (v w : Value F) → applied same' o (renamed_value v) (renamed_value w) ≡ renamed_answer (applied same o v w)
    applied-renamed op.Mul v w = on_numbers v w product product (λ a b. in_range-renamed (a *ℤ b))
    applied-renamed op.Div v w = on_numbers v w quotient quotient quotient-renamed
    applied-renamed op.Rem v w = on_numbers v w remainder remainder remainder-renamed
    applied-renamed op.Add v w = on_numbers v w sum sum (λ a b. in_range-renamed (a +ℤ b))
    applied-renamed op.Sub v w = on_numbers v w difference difference (λ a b. in_range-renamed (a -ℤ b))
    applied-renamed op.Lt v w = on_numbers v w (λ a b. truth (int_lt a b)) (λ a b. truth (int_lt a b)) (λ a b. refl)
    applied-renamed op.Le v w = on_numbers v w (λ a b. truth (int_le a b)) (λ a b. truth (int_le a b)) (λ a b. refl)
    applied-renamed op.Gt v w = on_numbers v w (λ a b. truth (int_lt b a)) (λ a b. truth (int_lt b a)) (λ a b. refl)
    applied-renamed op.Ge v w = on_numbers v w (λ a b. truth (int_le b a)) (λ a b. truth (int_le b a)) (λ a b. refl)
    applied-renamed op.Eq v w = ap truth (same_value-renamed v w)
    applied-renamed op.Ne v w = ap (λ b. truth (not b)) (same_value-renamed v w)
    applied-renamed op.And v w =
        on_numbers v w (λ a b. truth (not (is_zero a) && not (is_zero b))) (λ a b. truth (not (is_zero a) && not (is_zero b))) (λ a b. refl)
    applied-renamed op.Or v w =
        on_numbers v w (λ a b. truth (not (is_zero a) || not (is_zero b))) (λ a b. truth (not (is_zero a) || not (is_zero b))) (λ a b. refl)

    then-renamed : (a : Answer F) (g : Value G → Answer G) (f : Value F → Answer F) → ((v : Value F) → g (renamed_value v) ≡ renamed_answer (f v))
        → and_then (renamed_answer a) g ≡ renamed_answer (and_then a f)
    then-renamed (Ok v) g f h = h v
    then-renamed (Err t) g f h = refl

    strict : (o : Op) (a b : Answer F) →
        and_then (renamed_answer a) (λ v. and_then (renamed_answer b) (λ w. applied same' o v w)) ≡ renamed_answer (and_then a (λ v. and_then b (λ w. applied same o v w)))
    strict o a b = then-renamed a _ _ (λ v. then-renamed b _ _ (λ w. applied-renamed o v w))

    joined-renamed : (o : Op) (a b : Answer F) → joined same' o (renamed_answer a) (renamed_answer b) ≡ renamed_answer (joined same o a b)
    joined-renamed op.And a b = then-renamed a _ _ (λ v.
        ap (λ z. if is_zero z then truth false else and_then (renamed_answer b) (λ w. truth (not (is_zero (number w))))) (number-renamed v)
        ∙ chosen (is_zero (number v)) _ _ _ _ refl (then-renamed b _ _ (λ w. ap (λ z. truth (not (is_zero z))) (number-renamed w))))
    joined-renamed op.Or a b = then-renamed a _ _ (λ v.
        ap (λ z. if is_zero z then and_then (renamed_answer b) (λ w. truth (not (is_zero (number w)))) else truth true) (number-renamed v)
        ∙ chosen (is_zero (number v)) _ _ _ _ (then-renamed b _ _ (λ w. ap (λ z. truth (not (is_zero z))) (number-renamed w))) refl)
    joined-renamed op.Mul a b = strict op.Mul a b
    joined-renamed op.Div a b = strict op.Div a b
    joined-renamed op.Rem a b = strict op.Rem a b
    joined-renamed op.Add a b = strict op.Add a b
    joined-renamed op.Sub a b = strict op.Sub a b
    joined-renamed op.Lt a b = strict op.Lt a b
    joined-renamed op.Le a b = strict op.Le a b
    joined-renamed op.Gt a b = strict op.Gt a b
    joined-renamed op.Ge a b = strict op.Ge a b
    joined-renamed op.Eq a b = strict op.Eq a b
    joined-renamed op.Ne a b = strict op.Ne a b

    pub ev-renamed : (ρ κ : Bytes → Bytes) (l : Look F) (k : Look G) → Carries ρ κ l k → (e : Expression)
        → ev same' k (renamed ρ κ e) ≡ renamed_answer (ev same l e)
    ev-renamed ρ κ l k c (literal z) = refl
    ev-renamed ρ κ l k c (variable x) = ap Ok (c.value x)
    ev-renamed ρ κ l k c (element a i) =
        ap (λ r. and_then r (λ v. element_at (k.elements (ρ a)) (number v))) (ev-renamed ρ κ l k c i)
        ∙ then-renamed (ev same l i) _ _ (λ v. ap₂ element_at (c.elements a) (number-renamed v) ∙ element_at-renamed (l.elements a) (number v))
    ev-renamed ρ κ l k c (function f) = ap (λ h. Ok (Code h)) (c.code f)
    ev-renamed ρ κ l k c null = refl
    ev-renamed ρ κ l k c (negation e) =
        ap (λ r. and_then r (λ v. negated (number v))) (ev-renamed ρ κ l k c e)
        ∙ then-renamed (ev same l e) _ _ (λ v. ap negated (number-renamed v) ∙ in_range-renamed (pos 0 -ℤ number v))
    ev-renamed ρ κ l k c (logical_not e) =
        ap (λ r. and_then r (λ v. truth (is_zero (number v)))) (ev-renamed ρ κ l k c e)
        ∙ then-renamed (ev same l e) _ _ (λ v. ap (λ z. truth (is_zero z)) (number-renamed v))
    ev-renamed ρ κ l k c (binary o a b) =
        ap₂ (joined same' o) (ev-renamed ρ κ l k c a) (ev-renamed ρ κ l k c b) ∙ joined-renamed o (ev same l a) (ev same l b)

-- the answers of the expressions that the merged program adds
module _ {F : Type 0} (same : F → F → Bool) (k : Look F) where
  pub ev-Var : (x : Bytes) → ev same k (expression_of (expr.Var x)) ≡ Ok (k.value x)
  ev-Var x = ap (ev same k) (expression_of-Var x)

  pub ev-Lit : (z : ℤ) → ev same k (expression_of (expr.Lit z)) ≡ Ok (Num z)
  ev-Lit z = ap (ev same k) (expression_of-Lit z)

  -- a comparison of a variable with a number
  pub ev-test : (o : Op) (x : Bytes) (z : ℤ)
      → ev same k (expression_of (expr.Bin o (expr.Var x) (expr.Lit z))) ≡ joined same o (Ok (k.value x)) (Ok (Num z))
  ev-test o x z =
      ap (ev same k) (expression_of-Bin o (expr.Var x) (expr.Lit z)) ∙ ap₂ (joined same o) (ev-Var x) (ev-Lit z)
