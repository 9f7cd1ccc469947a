-- The text that is written for certificates, and which of them it is read back as.
use Rattle.std.specs.Prelude.{◌≡◌, ◌<◌, ◌≤◌, ◌^◌, ℕ, ℤ, nat_abs, List, [], ◌∷◌, ◌++◌, map, Option, None, Some, true, All, ⊤}
use Rattle.std.specs.Str.Lossy.{utf8_lossy}
use Rattle.std.specs.Fmt.{signed_decimal}
use Rattle.serde_json.specs.Data.{Data, null, number, string, array, unsigned}
use Rattle.serde_json.specs.View.{items_of}
use Rattle.serde_json.specs.Written.{compact_text}
use Rattle.formula_texts.specs.Written.{form_text, term_text, name_text, has_form_text, has_term_text, has_name_text}
use Rattle.cert_form.specs.declared.cert.Cert.{Cert}
use Rattle.cert_form.specs.declared.cert.Rule.{Rule}
use Rattle.cert_form.specs.Certificates.{Part, word, whole, multiplier, sum, form, term, name, parts}

abbrev pub list_data : {X : Type 0} → (X → Data) → List X → Data
list_data f xs = array (items_of (map f xs))

-- A name that isn't writable may be no text.
abbrev pub text_data : List ℕ → Data
text_data text = string (utf8_lossy text)

abbrev pub whole_data : ℕ → Data
whole_data n = number (unsigned n)

abbrev pub multiplier_data : ℤ → Data
multiplier_data z = string (signed_decimal z)

abbrev pub pair_data : ℕ × ℤ → Data
pair_data p = array (items_of (whole_data p.0 ∷ multiplier_data p.1 ∷ []))

abbrev pub part_data : Part → Data
part_data (word text) = string text
part_data (whole n) = whole_data n
part_data (multiplier z) = multiplier_data z
part_data (sum pairs) = list_data pair_data pairs
part_data (form f) = text_data (form_text f)
part_data (term t) = text_data (term_text t)
part_data (name x) = text_data (name_text x)

abbrev pub rule_data : Rule → Data
rule_data rule = list_data part_data (parts rule)

abbrev pub cert_data : Option Cert → Data
cert_data None = null
cert_data (Some cert) = list_data rule_data cert.rules

-- compact JSON and one line feed
abbrev pub certs_text : List (Option Cert) → List ℕ
certs_text certs = compact_text (list_data cert_data certs) ++ 10 ∷ []

-- ---- what can be written

abbrev pub IsWritablePair : ℕ × ℤ → Type 0
IsWritablePair p = (p.0 < 2 ^ 32) × (nat_abs p.1 ≤ 2 ^ 100)

abbrev pub IsWritablePart : Part → Type 0
IsWritablePart (word text) = ⊤
IsWritablePart (whole n) = n < 2 ^ 32
IsWritablePart (multiplier z) = nat_abs z ≤ 2 ^ 100
IsWritablePart (sum pairs) = All IsWritablePair pairs
IsWritablePart (form f) = has_form_text f ≡ true
IsWritablePart (term t) = has_term_text t ≡ true
IsWritablePart (name x) = has_name_text x ≡ true

-- its numbers are in range, and its forms, terms and names have texts
abbrev pub IsWritableRule : Rule → Type 0
IsWritableRule rule = All IsWritablePart (parts rule)

abbrev pub IsWritable : Option Cert → Type 0
IsWritable None = ⊤
IsWritable (Some cert) = All IsWritableRule cert.rules
