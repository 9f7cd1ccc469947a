-- What is known of an array is its elements up to the last one that isn't 0, and one fact of the others.
use Rattle.std.proofs.Common.{◌≡◌, ℕ, suc, ℤ, pos, ◌+◌, Bool, true, false, ◌&&◌, if◌then◌else◌, List, [], ◌∷◌, ◌++◌, length, arith, refl, sym, ap, ap₂, ◌∙◌}
use Rattle.std.specs.Ordering.{int_eq}
use Rattle.terms.specs.declared.sym.Sym.{Sym}
use Rattle.weakest_preconditions.specs.Conditions.{all_zero, elements_are}
use Rattle.initial_conditions.specs.Code.Elements.{without_trailing_zeros, element_is, each_is, others_are_zero}

in_two_parts : (a : Sym) (n k : ℕ) (zs : List ℤ) → elements_are a n k zs
    ≡ each_is a k (without_trailing_zeros zs) ++ (others_are_zero a (k + length (without_trailing_zeros zs)) n ∷ [])
in_two_parts a n k [] = let here : k ≡ k + 0 = omega arith in ap (λ m. others_are_zero a m n ∷ []) here
in_two_parts a n k (z ∷ zs) = by (all_zero (z ∷ zs)) (in_two_parts a n (suc k) zs)
  where
    by : (b : Bool) → elements_are a n (suc k) zs ≡ each_is a (suc k) (without_trailing_zeros zs) ++ (others_are_zero a (suc k + length (without_trailing_zeros zs)) n ∷ [])
        → (if b then others_are_zero a k n ∷ [] else element_is a k z ∷ elements_are a n (suc k) zs)
        ≡ each_is a k (if b then [] else z ∷ without_trailing_zeros zs) ++ (others_are_zero a (k + length (if b then [] else z ∷ without_trailing_zeros zs)) n ∷ [])
    by true rest = let here : k ≡ k + 0 = omega arith in ap (λ m. others_are_zero a m n ∷ []) here
    by false rest =
        let next : suc k + length (without_trailing_zeros zs) ≡ k + suc (length (without_trailing_zeros zs)) = omega arith in
        ap (λ fs. element_is a k z ∷ fs) (rest ∙ ap (λ m. each_is a (suc k) (without_trailing_zeros zs) ++ (others_are_zero a m n ∷ [])) next)

-- from the first place on
pub from_the_start : (a : Sym) (n : ℕ) (zs : List ℤ) → elements_are a n 0 zs
    ≡ each_is a 0 (without_trailing_zeros zs) ++ (others_are_zero a (length (without_trailing_zeros zs)) n ∷ [])
from_the_start a n zs =
    let here : 0 + length (without_trailing_zeros zs) ≡ length (without_trailing_zeros zs) = omega arith in
    in_two_parts a n 0 zs ∙ ap (λ m. each_is a 0 (without_trailing_zeros zs) ++ (others_are_zero a m n ∷ [])) here

-- ---- from the end

all_zero_more : (zs : List ℤ) (z : ℤ) → all_zero (zs ++ (z ∷ [])) ≡ (all_zero zs && int_eq z (pos 0))
all_zero_more [] z = by (int_eq z (pos 0))
  where
    by : (b : Bool) → (b && true) ≡ b
    by true = refl
    by false = refl
all_zero_more (y ∷ zs) z = ap (λ b. int_eq y (pos 0) && b) (all_zero_more zs z) ∙ turned (int_eq y (pos 0))
  where
    turned : (b : Bool) → (b && (all_zero zs && int_eq z (pos 0))) ≡ ((b && all_zero zs) && int_eq z (pos 0))
    turned true = refl
    turned false = refl

-- a last element that is 0 is left off
zero_is_last : (zs : List ℤ) (z : ℤ) → int_eq z (pos 0) ≡ true → without_trailing_zeros (zs ++ (z ∷ [])) ≡ without_trailing_zeros zs
zero_is_last [] z e = ap (λ b. if b && true then [] else z ∷ []) e
zero_is_last (y ∷ zs) z e =
    ap₂ (λ b (rest : List ℤ). if int_eq y (pos 0) && b then [] else y ∷ rest)
    (all_zero_more zs z ∙ ap (λ b. all_zero zs && b) e ∙ and_true (all_zero zs)) (zero_is_last zs z e)
  where
    and_true : (b : Bool) → (b && true) ≡ b
    and_true true = refl
    and_true false = refl

-- any other one stays, with all before it
other_is_last : (zs : List ℤ) (z : ℤ) → int_eq z (pos 0) ≡ false → without_trailing_zeros (zs ++ (z ∷ [])) ≡ zs ++ (z ∷ [])
other_is_last [] z e = ap (λ b. if b && true then [] else z ∷ []) e
other_is_last (y ∷ zs) z e =
    ap₂ (λ b (rest : List ℤ). if b then [] else y ∷ rest)
    (ap (λ b. int_eq y (pos 0) && b) (all_zero_more zs z ∙ ap (λ b. all_zero zs && b) e ∙ and_false (all_zero zs)) ∙ and_false (int_eq y (pos 0)))
    (other_is_last zs z e)
  where
    and_false : (b : Bool) → (b && false) ≡ false
    and_false true = refl
    and_false false = refl

-- the last element is looked at
pub goes_on : (kept rest all : List ℤ) (z : ℤ) → kept ≡ rest ++ (z ∷ []) → int_eq z (pos 0) ≡ true
    → without_trailing_zeros kept ≡ without_trailing_zeros all → without_trailing_zeros rest ≡ without_trailing_zeros all
goes_on kept rest all z is e same = sym (zero_is_last rest z e) ∙ ap without_trailing_zeros (sym is) ∙ same

pub stops : (kept rest all : List ℤ) (z : ℤ) → kept ≡ rest ++ (z ∷ []) → int_eq z (pos 0) ≡ false
    → without_trailing_zeros kept ≡ without_trailing_zeros all → kept ≡ without_trailing_zeros all
stops kept rest all z is e same = is ∙ sym (other_is_last rest z e) ∙ ap without_trailing_zeros (sym is) ∙ same
