-- The numbers in the texts of multipliers.
use Rattle.std.specs.Prelude.{ℕ, ◌+◌, ◌-◌, ◌*◌, ◌^◌, ◌&&◌, ◌==◌, ℤ, pos, neg_ℤ, List, [], ◌∷◌, Option, None, Some, Bool, if◌then◌else◌, nat_le, option_map, option_and_then}

abbrev pub is_digit : ℕ → Bool
is_digit byte = nat_le 48 byte && nat_le byte 57

-- one digit more, unless the number passes 2^100
abbrev pub with_digit : ℕ → ℕ → Option ℕ
with_digit digit so_far =
    if is_digit digit && nat_le (10 * so_far + (digit - 48)) (2 ^ 100) then Some (10 * so_far + (digit - 48)) else None

-- the number of these digits behind a number
abbrev pub digits_from : Option ℕ → List ℕ → Option ℕ
digits_from so_far [] = so_far
digits_from so_far (digit ∷ digits) = digits_from (option_and_then (with_digit digit) so_far) digits

-- digits that don't begin with a zero
abbrev pub positive_in : List ℕ → Option ℕ
positive_in [] = None
positive_in (first ∷ rest) = if first == 48 then None else digits_from (Some 0) (first ∷ rest)

abbrev pub zero_in : List ℕ → Option ℤ
zero_in [] = Some (pos 0)
zero_in (x ∷ xs) = None

-- `0`, or an optional `-` and digits without leading zero, at most 2^100 in size
abbrev pub multiplier_in : List ℕ → Option ℤ
multiplier_in [] = None
multiplier_in (first ∷ rest) =
    if first == 45 then option_map (λ n. neg_ℤ (pos n)) (positive_in rest)
    else (if first == 48 then zero_in rest else option_map pos (positive_in (first ∷ rest)))
