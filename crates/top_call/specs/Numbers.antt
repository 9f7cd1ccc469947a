-- Numbers and lists of numbers in words.
use Rattle.std.specs.Prelude.{ℕ, nat_le, ℤ, pos, negsuc, ◌&&◌, ◌==◌, if◌then◌else◌, List, [], ◌∷◌, length, Option, Some, None, bytes_eq, option_map, codes}
use Rattle.std.specs.List.{slice_split}
use Rattle.std.specs.Fmt.{signed_decimal}
use Rattle.std.specs.Str.Parse.{signed_digits_value}
use Rattle.c_lang.specs.Names.{Bytes}
use Rattle.c_lang.specs.Values.{fits_int}

-- the most answers of a list, the most steps of a run, and its steps where the words give none
abbrev pub answer_limit : ℕ
answer_limit = 1000000

abbrev pub step_limit : ℕ
step_limit = 10000000

abbrev pub default_steps : ℕ
default_steps = 1000000

-- an `int` that is written as it would be printed: `0`, or digits without a leading zero, and `-` in
-- front of a number below 0
abbrev pub number_of : Bytes → Option ℤ
number_of text =
    let z = signed_digits_value 10 text in if fits_int z && bytes_eq (signed_decimal z) text then Some z else None

-- what stands between the commas, from the text's start to its end
abbrev pub pieces : Bytes → List Bytes
pieces text = slice_split (λ byte. byte == 44) text

-- all of them are numbers
abbrev pub with_number : Option ℤ → Option (List ℤ) → Option (List ℤ)
with_number (Some z) (Some zs) = Some (z ∷ zs)
with_number (Some z) None = None
with_number None zs = None

abbrev pub all_numbers : List Bytes → Option (List ℤ)
all_numbers [] = Some []
all_numbers (piece ∷ pieces) = with_number (number_of piece) (all_numbers pieces)

-- no more of them than a list may have
abbrev pub if_few : Option (List ℤ) → Option (List ℤ)
if_few None = None
if_few (Some zs) = if nat_le (length zs) answer_limit then Some zs else None

-- `none`, or numbers with a comma between each two
abbrev pub answers_of : Bytes → Option (List ℤ)
answers_of text = if bytes_eq text (codes "none") then Some [] else if_few (all_numbers (pieces text))

-- none of them below 0
abbrev pub naturals : List ℤ → Option (List ℕ)
naturals [] = Some []
naturals (pos n ∷ zs) = option_map (λ ns. n ∷ ns) (naturals zs)
naturals (negsuc n ∷ zs) = None

abbrev pub if_naturals : Option (List ℤ) → Option (List ℕ)
if_naturals None = None
if_naturals (Some zs) = naturals zs

-- `none`, or the numbers of points with a comma between each two
abbrev pub points_of : Bytes → Option (List ℕ)
points_of text = if bytes_eq text (codes "none") then Some [] else if_naturals (all_numbers (pieces text))

-- 1 to 10,000,000
abbrev pub if_steps : Option ℤ → Option ℕ
if_steps None = None
if_steps (Some (negsuc n)) = None
if_steps (Some (pos n)) = if nat_le 1 n && nat_le n step_limit then Some n else None

abbrev pub steps_of : Bytes → Option ℕ
steps_of text = if_steps (number_of text)
