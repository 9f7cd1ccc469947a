-- What the numbers and strings of a text are, where it is written out.
use Rattle.std.proofs.Common.{◌≡◌, [], ◌∷◌, None, Some, codes, refl, option_map, pos}
use Rattle.serde_json.specs.Read.{read}
use Rattle.serde_json.proofs.OnLiterals.{serde_json_on_literals}
use Rattle.cert_form.specs.Code.Reading.{whole_in, multiplier_at}

largest : option_map whole_in (read (codes "4294967295")) ≡ Some (Some 4294967295)
unfolding serde_json_on_literals
largest = refl

too_large : option_map whole_in (read (codes "4294967296")) ≡ Some None
unfolding serde_json_on_literals
too_large = refl

with_point : option_map whole_in (read (codes "7.0")) ≡ Some None
unfolding serde_json_on_literals
with_point = refl

with_exponent : option_map whole_in (read (codes "7e0")) ≡ Some None
unfolding serde_json_on_literals
with_exponent = refl

minus_zero : option_map whole_in (read (codes "-0")) ≡ Some None
unfolding serde_json_on_literals
minus_zero = refl

leading_zero : read (codes "07") ≡ None
unfolding serde_json_on_literals
leading_zero = refl

plus : read (codes "+7") ≡ None
unfolding serde_json_on_literals
plus = refl

-- the string of an escaped 1
escaped : option_map multiplier_at (read (34 ∷ 92 ∷ 117 ∷ 48 ∷ 48 ∷ 51 ∷ 49 ∷ 34 ∷ [])) ≡ Some (Some (pos 1))
unfolding serde_json_on_literals
escaped = refl

-- the string -0
minus_zero_text : option_map multiplier_at (read (34 ∷ 45 ∷ 48 ∷ 34 ∷ [])) ≡ Some None
unfolding serde_json_on_literals
minus_zero_text = refl

-- the string 01
leading_zero_text : option_map multiplier_at (read (34 ∷ 48 ∷ 49 ∷ 34 ∷ [])) ≡ Some None
unfolding serde_json_on_literals
leading_zero_text = refl

-- a string of half a surrogate pair
half_pair : read (34 ∷ 92 ∷ 117 ∷ 100 ∷ 56 ∷ 48 ∷ 48 ∷ 34 ∷ []) ≡ None
unfolding serde_json_on_literals
half_pair = refl
