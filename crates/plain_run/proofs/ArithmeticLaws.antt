-- An operator's number is its value.
use Rattle.std.proofs.Common.{◌≡◌, ℤ, pos, ◌+ℤ◌, ◌-ℤ◌, ◌*ℤ◌, Bool, true, false, if◌then◌else◌, Ok, Err, refl, sym, ap, ap₂, ◌∙◌, int_div, int_rem}
use Rattle.c_lang.specs.Values as spec
use Rattle.c_lang.specs.Values.{fits_int, is_zero}
use Rattle.c_lang.specs.Evaluation as evaluation
use Rattle.c_lang.specs.Evaluation.{same_value}
use Rattle.c_lang.specs.declared.event.Trap.TheVariants.{Overflow, Divide}
use Rattle.c_lang.specs.declared.expr.Op.{Op}
use Rattle.c_lang.specs.declared.expr.Op.TheVariants as op
use Rattle.plain_run.specs.declared.value.Value.{Value}
use Rattle.plain_run.specs.declared.value.Value.TheVariants.{Num, Code, Null}
use Rattle.plain_run.specs.Code.Arithmetic as ints
use Rattle.plain_run.specs.Code.Arithmetic.{Number, numbered}
use Rattle.plain_run.specs.Values.{seen_value, number_of}

pub number-seen : {X F : Type 0} (see : X → F) (v : Value X) → spec.number (seen_value see v) ≡ number_of v
number-seen see (Num z) = refl
number-seen see (Code f) = refl
number-seen see Null = refl

module _ {F : Type 0} where
  numbered-if : (b : Bool) (m n : Number) → numbered {F = F} (if b then m else n) ≡ (if b then numbered m else numbered n)
  numbered-if true m n = refl
  numbered-if false m n = refl

  numbered-in_int : (z : ℤ) → numbered {F = F} (ints.in_int z) ≡ spec.in_range z
  numbered-in_int z = numbered-if (fits_int z) (Ok z) (Err Overflow)

  pub numbered-negated : (z : ℤ) → numbered {F = F} (ints.negated z) ≡ spec.negated z
  numbered-negated z = numbered-in_int (pos 0 -ℤ z)

  quotients : (b z : ℤ) → numbered {F = F} (if is_zero b then Err Divide else ints.in_int z) ≡ (if is_zero b then Err Divide else spec.in_range z)
  quotients b z = numbered-if (is_zero b) (Err Divide) (ints.in_int z) ∙ ap (λ (r : spec.Answer F). if is_zero b then Err Divide else r) (numbered-in_int z)

  remainders : (a b : ℤ) → numbered {F = F} (ints.remainder a b) ≡ spec.remainder a b
  remainders a b =
      numbered-if (is_zero b) (Err Divide) (if fits_int (int_div a b) then Ok (int_rem a b) else Err Overflow)
      ∙ ap (λ (r : spec.Answer F). if is_zero b then Err Divide else r) (numbered-if (fits_int (int_div a b)) (Ok (int_rem a b)) (Err Overflow))

  numbered-applied : (same : F → F → Bool) (o : Op) (v w : spec.Value F)
      → numbered (ints.applied o (spec.number v) (spec.number w) (same_value same v w)) ≡ evaluation.applied same o v w
  numbered-applied same op.Mul v w = numbered-in_int (spec.number v *ℤ spec.number w)
  numbered-applied same op.Div v w = quotients (spec.number w) (int_div (spec.number v) (spec.number w))
  numbered-applied same op.Rem v w = remainders (spec.number v) (spec.number w)
  numbered-applied same op.Add v w = numbered-in_int (spec.number v +ℤ spec.number w)
  numbered-applied same op.Sub v w = numbered-in_int (spec.number v -ℤ spec.number w)
  numbered-applied same op.Lt v w = refl
  numbered-applied same op.Le v w = refl
  numbered-applied same op.Gt v w = refl
  numbered-applied same op.Ge v w = refl
  numbered-applied same op.Eq v w = refl
  numbered-applied same op.Ne v w = refl
  numbered-applied same op.And v w = refl
  numbered-applied same op.Or v w = refl

  pub applied-seen : {X : Type 0} (see : X → F) (same : F → F → Bool) (o : Op) (v w : Value X) (b : Bool) (n : Number)
      → b ≡ same_value same (seen_value see v) (seen_value see w) → n ≡ ints.applied o (number_of v) (number_of w) b
      → numbered n ≡ evaluation.applied same o (seen_value see v) (seen_value see w)
  applied-seen see same o v w b n test is =
      ap (numbered {F = F}) (is ∙ ap (ints.applied o (number_of v) (number_of w)) test
      ∙ ap₂ (λ x y. ints.applied o x y (same_value same (seen_value see v) (seen_value see w))) (sym (number-seen see v)) (sym (number-seen see w)))
      ∙ numbered-applied same o (seen_value see v) (seen_value see w)
