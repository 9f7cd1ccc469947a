-- Numbers and lists of numbers in words.
use Rattle.std.proofs.Common.{◌≡◌, refl, sym, ap, ◌∙◌, subst, ℕ, suc, ◌<◌, arith, ℤ, pos, negsuc, List, [], ◌∷◌, ◌++◌, length, Bool, true, false, Option, Some, None, option_map}
use Rattle.std.proofs.Common.{◌≢◌}
use Rattle.std.proofs.lemmas.Int.{ints}
use Rattle.std.proofs.lemmas.List.Sums.{fails_before_first}
use Rattle.std.proofs.lemmas.List.Splits.{slice_split_none, slice_split_first}
use Rattle.std.specs.List.{position_or_len, before_first, after_first}
use Rattle.std.proofs.lemmas.Bool.Decides.{nat_tests}
use Rattle.std.specs.Char.{digit_value}
use mir.Syntax.{w32}
use mir.Val.{SFits as FitsSigned}
use Rattle.std.specs.Prelude.{nat_lt, ◌==◌, ◌&&◌, if◌then◌else◌, bytes_eq}
use Rattle.std.specs.Fmt.{decimal, signed_decimal}
use Rattle.std.specs.Str.Parse.{IsNumeral, without_leading_sign, signed_digits_value}
use Rattle.std.proofs.lemmas.Fmt.{decimal_is_IsNumeral}
use Rattle.std.proofs.lemmas.Slice.Eq.{bytes_eq-Decides}
use Rattle.c_lang.specs.Names.{Bytes}
use Rattle.c_lang.specs.Values.{fits_int}
use Rattle.top_call.specs.Numbers.{number_of, pieces, with_number, all_numbers}

-- a digit is no sign
no-digit : (d k : ℕ) → digit_value d < 10 → digit_value k ≡ 36 → (d == k) ≡ false
no-digit d k digit none =
    let apart : d ≢ k = λ (same : d ≡ k). let large : digit_value d ≡ 36 = rw same none in omega (arith, digit, large) in
    grind (arith, nat_tests, apart)

-- what is written as a number has digits alone behind its sign
no-sign : (ds : List ℕ) → IsNumeral 10 ds → without_leading_sign ds ≡ ds
no-sign [] h = let never : 0 < 0 = h.0 in absurd (omega (arith, never))
no-sign (d ∷ ds) h =
    let minus = no-digit d 45 h.1.0 refl in
    let plus = no-digit d 43 h.1.0 refl in
    rw (minus, plus) refl

pub has-digits : (z : ℤ) → fits_int z ≡ true → IsNumeral 10 (without_leading_sign (signed_decimal z))
has-digits (pos n) fits =
    let test : nat_lt n 2147483648 ≡ true = fits in
    let small : n < 2147483648 = grind (arith, nat_tests, test) in
    let is = (decimal_is_IsNumeral n (omega (arith, small))).0 in
    subst (λ ds. IsNumeral 10 ds) (sym (no-sign (decimal n) is)) is
has-digits (negsuc n) fits =
    let test : nat_lt n 2147483648 ≡ true = fits in
    let small : n < 2147483648 = grind (arith, nat_tests, test) in
    (decimal_is_IsNumeral (suc n) (omega (arith, small))).0

none-by : (test : Bool) (z : ℤ) → (test ≡ true → ⊥) → (if test then Some z else None) ≡ None
none-by true z never = absurd (never refl)
none-by false z never = refl

both : (a b : Bool) → (a && b) ≡ true → (a ≡ true) × (b ≡ true)
both true b h = (refl, h)
both false b h = absurd cc

fits-signed : (z : ℤ) → fits_int z ≡ true → FitsSigned w32 z
fits-signed (pos n) fits = let test : nat_lt n 2147483648 ≡ true = fits in let small : n < 2147483648 = grind (arith, nat_tests, test) in omega (arith, ints, small)
fits-signed (negsuc n) fits = let test : nat_lt n 2147483648 ≡ true = fits in let small : n < 2147483648 = grind (arith, nat_tests, test) in omega (arith, ints, small)

-- where `parse` reads none, none is written
pub not-number : (text : Bytes) → (IsNumeral 10 (without_leading_sign text) × FitsSigned w32 (signed_digits_value 10 text) → ⊥) → number_of text ≡ None
not-number text unread =
    let z = signed_digits_value 10 text in
    none-by (fits_int z && bytes_eq (signed_decimal z) text) z (λ yes.
    let h = both (fits_int z) (bytes_eq (signed_decimal z) text) yes in
    let same : signed_decimal z ≡ text = (bytes_eq-Decides (signed_decimal z) text).0 h.1 in
    unread (subst (λ t. IsNumeral 10 (without_leading_sign t)) same (has-digits z h.0), fits-signed z h.0))

-- ---- lists

pub with_number-append : (zs : List ℤ) (z : ℤ) (o : Option (List ℤ)) → option_map (λ ys. zs ++ ys) (with_number (Some z) o) ≡ option_map (λ ys. (zs ++ z ∷ []) ++ ys) o
with_number-append zs z None = refl
with_number-append zs z (Some ys) = ap (λ (xs : List ℤ). Some xs) (append-one zs)
  where
    append-one : (zs : List ℤ) → zs ++ z ∷ ys ≡ (zs ++ z ∷ []) ++ ys
    append-one [] = refl
    append-one (y ∷ zs) = ap (λ xs. y ∷ xs) (append-one zs)

-- the test of a comma
abbrev comma : ℕ → Bool
comma byte = byte == 44

-- one piece more: the list is none where it is none, and goes on where it is a number
pub no-number : (front rest : Bytes) → position_or_len comma rest < length rest → front ≡ before_first comma rest → number_of front ≡ None
    → all_numbers (pieces rest) ≡ None
no-number front rest there is none =
    let same : number_of (before_first comma rest) ≡ None = rw is at none in
    rw (slice_split_first comma rest 0 there, same) refl

pub one-number : (zs : List ℤ) (z : ℤ) (front back rest : Bytes) → position_or_len comma rest < length rest → front ≡ before_first comma rest
    → back ≡ after_first comma rest → number_of front ≡ Some z
    → option_map (λ ys. (zs ++ z ∷ []) ++ ys) (all_numbers (pieces back)) ≡ option_map (λ ys. zs ++ ys) (all_numbers (pieces rest))
one-number zs z front back rest there is_front is_back number =
    let same : number_of (before_first comma rest) ≡ Some z = rw is_front at number in
    let whole : all_numbers (pieces rest) ≡ with_number (Some z) (all_numbers (pieces (after_first comma rest))) = rw (slice_split_first comma rest 0 there, same) refl in
    rw (is_back, whole) (sym (with_number-append zs z (all_numbers (pieces (after_first comma rest)))))

-- the last piece
last-piece : (rest : Bytes) → position_or_len comma rest ≡ length rest → pieces rest ≡ rest ∷ []
last-piece rest ends = slice_split_none comma rest (λ k d below. fails_before_first comma rest k d (rw ends below))

pub last-none : (rest : Bytes) → position_or_len comma rest ≡ length rest → number_of rest ≡ None → all_numbers (pieces rest) ≡ None
last-none rest ends none = rw (last-piece rest ends, none) refl

pub last-number : (zs : List ℤ) (z : ℤ) (rest : Bytes) → position_or_len comma rest ≡ length rest → number_of rest ≡ Some z
    → option_map (λ ys. zs ++ ys) (all_numbers (pieces rest)) ≡ Some (zs ++ z ∷ [])
last-number zs z rest ends number = rw (last-piece rest ends, number) refl

-- the rest has no list, so the whole has none
pub none-of-rest : (zs : List ℤ) (rest whole : Option (List ℤ)) → option_map (λ ys. zs ++ ys) rest ≡ whole → rest ≡ None → whole ≡ None
none-of-rest zs rest whole is none = sym is ∙ ap (option_map (λ ys. zs ++ ys)) none
