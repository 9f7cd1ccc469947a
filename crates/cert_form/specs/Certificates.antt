-- Which texts are which lists of certificates. A text is one JSON array with, for each condition,
-- `null` or the array of a certificate's rules.
use Rattle.std.specs.Prelude.{◌≡◌, ◌<◌, ◌≤◌, ◌^◌, ◌⊎◌, ℕ, ℤ, nat_abs, List, [], ◌∷◌, length, Option, None, Some, Result, Ok, Err, codes, ⊤}
use Rattle.std.specs.Str.{IsUtf8}
use Rattle.std.specs.Fmt.{signed_decimal}
use Rattle.serde_json.specs.Data.{Data, null, number, string, array, unsigned, Items, no_items, item}
use Rattle.serde_json.specs.Read.{read}
use Rattle.c_lang.specs.Limits.{size_limit}
use Rattle.c_lang.specs.Refusals.{refused_at, past_limit, bad_certificates}
use Rattle.c_lang.specs.declared.unit.Pos.{Pos}
use Rattle.c_lang.specs.declared.unit.Unit.TheVariants.{Certs}
use Rattle.c_lang.specs.declared.refusal.Refusal.{Refusal}
use Rattle.c_lang.specs.declared.refusal.Fail.{Fail}
use Rattle.c_lang.specs.declared.refusal.Fail.TheVariants.{NoMemory, Refused}
use Rattle.terms.specs.Trees.{FormTree, TermTree}
use Rattle.terms.specs.declared.sym.Sym.{Sym}
use Rattle.formula_texts.specs.Texts.{IsFormText, IsTermText, IsNameText}
use Rattle.cert_form.specs.declared.cert.Cert.{Cert}
use Rattle.cert_form.specs.declared.cert.Rule.{Rule}
use Rattle.cert_form.specs.declared.cert.Rule.TheVariants.{Close, Both, Case, Cut, Round, RangeName, RangeRead, Same, Read, Inst, Truth, Divide}

-- what stands in the array of a rule
pub data Part : Type 0 where
  word : List ℕ → Part
  whole : ℕ → Part
  multiplier : ℤ → Part
  sum : List (ℕ × ℤ) → Part
  form : FormTree → Part
  term : TermTree → Part
  name : Sym → Part

-- the array of each rule
abbrev pub parts : Rule → List Part
parts (Close pairs) = word (codes "close") ∷ sum pairs ∷ []
parts (Both i) = word (codes "both") ∷ whole i ∷ []
parts (Case i) = word (codes "case") ∷ whole i ∷ []
parts (Cut f) = word (codes "cut") ∷ form f ∷ []
parts (Round pairs d) = word (codes "round") ∷ sum pairs ∷ multiplier d ∷ []
parts (RangeName x) = word (codes "range") ∷ name x ∷ []
parts (RangeRead i k) = word (codes "range") ∷ whole i ∷ whole k ∷ []
parts (Same i j) = word (codes "same") ∷ whole i ∷ whole j ∷ []
parts (Read i k) = word (codes "read") ∷ whole i ∷ whole k ∷ []
parts (Inst i t) = word (codes "inst") ∷ whole i ∷ term t ∷ []
parts (Truth i k) = word (codes "truth") ∷ whole i ∷ whole k ∷ []
parts (Divide i k) = word (codes "divide") ∷ whole i ∷ whole k ∷ []

-- a whole number below 2^32 in digits alone: with a point, an exponent or a `-` it isn't `unsigned`
abbrev pub IsWhole : ℕ → Data → Type 0
IsWhole n d = (d ≡ number (unsigned n)) × (n < 2 ^ 32)

-- a string with `0`, or with digits without leading zero and perhaps a `-` before them
abbrev pub IsMultiplier : ℤ → Data → Type 0
IsMultiplier z d = (d ≡ string (signed_decimal z)) × (nat_abs z ≤ 2 ^ 100)

-- a string with a text of which P holds
abbrev pub IsString : (List ℕ → Type 0) → Data → Type 0
IsString P d = (text : List ℕ) × (d ≡ string text) × P text

-- the items stand for these, one for one
abbrev pub Each : {X : Type 0} → (X → Data → Type 0) → List X → Items → Type 0
Each Is [] no_items = ⊤
Each Is [] (item d ds) = ⊥
Each Is (x ∷ xs) no_items = ⊥
Each Is (x ∷ xs) (item d ds) = Is x d × Each Is xs ds

-- an array whose items stand for these
abbrev pub IsArray : {X : Type 0} → (X → Data → Type 0) → List X → Data → Type 0
IsArray Is xs d = (ds : Items) × (d ≡ array ds) × Each Is xs ds

-- the number of a fact and its multiplier
abbrev pub IsPair : ℕ × ℤ → Data → Type 0
IsPair p d = (i m : Data) × (d ≡ array (item i (item m no_items))) × IsWhole p.0 i × IsMultiplier p.1 m

-- what stands for a part
abbrev pub IsPart : Part → Data → Type 0
IsPart (word text) d = d ≡ string text
IsPart (whole n) d = IsWhole n d
IsPart (multiplier z) d = IsMultiplier z d
IsPart (sum pairs) d = IsArray IsPair pairs d
IsPart (form f) d = IsString (λ text. IsFormText text f) d
IsPart (term t) d = IsString (λ text. IsTermText text t) d
IsPart (name x) d = IsString (λ text. IsNameText text x) d

-- what stands for a rule, and for a condition's certificate or its absence
abbrev pub IsRule : Rule → Data → Type 0
IsRule rule d = IsArray IsPart (parts rule) d

abbrev pub IsCert : Option Cert → Data → Type 0
IsCert None d = d ≡ null
IsCert (Some cert) d = IsArray IsRule cert.rules d

-- the text is of these certificates; `read` gives the value of a text of JSON
abbrev pub AreCerts : List ℕ → List (Option Cert) → Type 0
AreCerts text certs = (d : Data) × IsUtf8 text × (read text ≡ Some d) × IsArray IsCert certs d

-- the position of every refusal
abbrev pub first_line : Pos
first_line = record { unit = Certs; line = 1 }

-- why a text is refused: it is too long, or else it is of no certificates
abbrev pub Refuses : List ℕ → Refusal → Type 0
Refuses text why =
    (size_limit Certs < length text) × (why ≡ refused_at past_limit first_line)
    ⊎ (length text ≤ size_limit Certs) × ((certs : List (Option Cert)) → AreCerts text certs → ⊥) × (why ≡ refused_at bad_certificates first_line)

-- what reading a text answers
abbrev pub IsAnswer : List ℕ → Result (List (Option Cert)) Fail → Type 0
IsAnswer text (Ok certs) = (length text ≤ size_limit Certs) × AreCerts text certs
IsAnswer text (Err NoMemory) = ⊤
IsAnswer text (Err (Refused why)) = Refuses text why
