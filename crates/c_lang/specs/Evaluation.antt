-- The value of an expression, or its first trap. C11 6.5, cut to the subset; the order of
-- evaluation and the traps are the subset's own.
use Rattle.std.specs.Prelude.{ℤ, pos, negsuc, Bool, true, false, not, ◌||◌, ◌&&◌, int_lt, int_le, if◌then◌else◌, List, slice_get, Option, Some, None, Ok, Err}
use Rattle.std.specs.Ordering.{int_eq}
use Rattle.c_lang.specs.Names.{Bytes}
use Rattle.c_lang.specs.Trees.{Expression, literal, variable, element, function, null, negation, logical_not, binary}
use Rattle.c_lang.specs.Values.{Value, Num, Code, Null, Answer, number, is_zero, truth, negated, sum, difference, product, quotient, remainder}
use Rattle.c_lang.specs.declared.event.Trap.TheVariants.{Index}
use Rattle.c_lang.specs.declared.expr.Op.{Op}
use Rattle.c_lang.specs.declared.expr.Op.TheVariants as op

-- what names stand for: a variable's value, an array's elements, a function
pub record Look (F : Type 0) : Type 0 where
  pub value : Bytes → Value F
  pub elements : Bytes → List ℤ
  pub code : Bytes → F

-- the first trap is the answer
abbrev pub and_then : {F : Type 0} → Answer F → (Value F → Answer F) → Answer F
and_then (Ok v) go = go v
and_then (Err t) go = Err t

abbrev pub found_element : {F : Type 0} → Option ℤ → Answer F
found_element (Some z) = Ok (Num z)
found_element None = Err Index

abbrev pub element_at : {F : Type 0} → List ℤ → ℤ → Answer F
element_at elements (pos n) = found_element (slice_get elements n)
element_at elements (negsuc n) = Err Index

abbrev pub same_value : {F : Type 0} → (F → F → Bool) → Value F → Value F → Bool
same_value same (Num a) (Num b) = int_eq a b
same_value same (Code f) (Code g) = same f g
same_value same Null Null = true
same_value same _ _ = false

-- an operator on the values of both operands
abbrev pub applied : {F : Type 0} → (F → F → Bool) → Op → Value F → Value F → Answer F
applied same op.Mul a b = product (number a) (number b)
applied same op.Div a b = quotient (number a) (number b)
applied same op.Rem a b = remainder (number a) (number b)
applied same op.Add a b = sum (number a) (number b)
applied same op.Sub a b = difference (number a) (number b)
applied same op.Lt a b = truth (int_lt (number a) (number b))
applied same op.Le a b = truth (int_le (number a) (number b))
applied same op.Gt a b = truth (int_lt (number b) (number a))
applied same op.Ge a b = truth (int_le (number b) (number a))
applied same op.Eq a b = truth (same_value same a b)
applied same op.Ne a b = truth (not (same_value same a b))
applied same op.And a b = truth (not (is_zero (number a)) && not (is_zero (number b)))
applied same op.Or a b = truth (not (is_zero (number a)) || not (is_zero (number b)))

-- `&&` and `||` read the right operand only where the left one doesn't decide
abbrev pub joined : {F : Type 0} → (F → F → Bool) → Op → Answer F → Answer F → Answer F
joined same op.And a b =
    and_then a (λ v. if is_zero (number v) then truth false else and_then b (λ w. truth (not (is_zero (number w)))))
joined same op.Or a b =
    and_then a (λ v. if is_zero (number v) then and_then b (λ w. truth (not (is_zero (number w)))) else truth true)
joined same o a b = and_then a (λ v. and_then b (λ w. applied same o v w))

-- `same` compares functions
abbrev pub ev : {F : Type 0} → (F → F → Bool) → Look F → Expression → Answer F
ev same look (literal z) = Ok (Num z)
ev same look (variable x) = Ok (look.value x)
ev same look (element a i) = and_then (ev same look i) (λ v. element_at (look.elements a) (number v))
ev same look (function f) = Ok (Code (look.code f))
ev same look null = Ok Null
ev same look (negation e) = and_then (ev same look e) (λ v. negated (number v))
ev same look (logical_not e) = and_then (ev same look e) (λ v. truth (is_zero (number v)))
ev same look (binary o a b) = joined same o (ev same look a) (ev same look b)
