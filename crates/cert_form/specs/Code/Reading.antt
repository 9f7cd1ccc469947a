-- What the reader finds in the data of JSON.
use Rattle.std.specs.Prelude.{◌≡◌, ◌⊎◌, ℕ, ◌^◌, ℤ, List, [], ◌∷◌, ◌++◌, Option, None, Some, if◌then◌else◌, nat_lt, option_map, option_and_then, bytes_eq, codes}
use Rattle.serde_json.specs.Data.{Data, Items, no_items, item}
use Rattle.serde_json.specs.Find.{as_number, as_u64, as_str, as_array}
use Rattle.terms.specs.Trees.{TermTree}
use Rattle.cert_form.specs.Certificates.{Part, whole, multiplier, sum, form, term, name, Each, IsPart}
use Rattle.cert_form.specs.Code.Numbers.{multiplier_in}
use Rattle.cert_form.specs.declared.cert.Rule.{Rule}
use Rattle.cert_form.specs.declared.cert.Rule.TheVariants as rule
use Rattle.cert_form.specs.declared.word.Word.{Word}
use Rattle.cert_form.specs.declared.word.Word.TheVariants.{Close, Both, Case, Cut, Round, Range, Same, Read, Inst, Truth, Divide}

-- something of which `Is` holds, or there is nothing
abbrev pub Found : {X : Type 0} → (X → Type 0) → Option X → Type 0
Found {X = X} Is None = (x : X) → Is x → ⊥
Found Is (Some x) = Is x

abbrev pub whole_in : Data → Option ℕ
whole_in d = option_and_then (λ n. if nat_lt n (2 ^ 32) then Some n else None) (option_and_then as_u64 (as_number d))

abbrev pub multiplier_at : Data → Option ℤ
multiplier_at d = option_and_then multiplier_in (as_str d)

-- the only item, and the two items
abbrev pub single : Items → Option Data
single (item d no_items) = Some d
single _ = None

abbrev pub double : Items → Option (Data × Data)
double (item d (item e no_items)) = Some (d, e)
double _ = None

abbrev pub together : {X Y : Type 0} → Option X → Option Y → Option (X × Y)
together (Some x) (Some y) = Some (x, y)
together _ _ = None

abbrev pub each : {X : Type 0} → (Data → Option X) → Items → Option (List X)
each f no_items = Some []
each f (item d ds) = option_and_then (λ x. option_map (λ xs. x ∷ xs) (each f ds)) (f d)

-- these, and then what is left
abbrev pub after : {X : Type 0} → List X → Option (List X) → Option (List X)
after done left = option_map (λ rest. done ++ rest) left

abbrev pub pair_in : Data → Option (ℕ × ℤ)
pair_in d = option_and_then (λ two. together (whole_in two.0) (multiplier_at two.1)) (option_and_then double (as_array d))

abbrev pub sum_in : Data → Option (List (ℕ × ℤ))
sum_in d = option_and_then (each pair_in) (as_array d)

-- ---- the items behind a rule's word

abbrev pub only_whole : Items → Option ℕ
only_whole args = option_and_then whole_in (single args)

abbrev pub two_wholes : Items → Option (ℕ × ℕ)
two_wholes args = option_and_then (λ two. together (whole_in two.0) (whole_in two.1)) (double args)

abbrev pub only_sum : Items → Option (List (ℕ × ℤ))
only_sum args = option_and_then sum_in (single args)

abbrev pub sum_and_multiplier : Items → Option (List (ℕ × ℤ) × ℤ)
sum_and_multiplier args = option_and_then (λ two. together (sum_in two.0) (multiplier_at two.1)) (double args)

abbrev pub word_in : List ℕ → Option Word
word_in text =
    if bytes_eq text (codes "close") then Some Close
    else (if bytes_eq text (codes "both") then Some Both
    else (if bytes_eq text (codes "case") then Some Case
    else (if bytes_eq text (codes "cut") then Some Cut
    else (if bytes_eq text (codes "round") then Some Round
    else (if bytes_eq text (codes "range") then Some Range
    else (if bytes_eq text (codes "same") then Some Same
    else (if bytes_eq text (codes "read") then Some Read
    else (if bytes_eq text (codes "inst") then Some Inst
    else (if bytes_eq text (codes "truth") then Some Truth
    else (if bytes_eq text (codes "divide") then Some Divide
    else None))))))))))

-- the text of the first item, and the items behind it
abbrev pub word_first : Items → Option (List ℕ × Items)
word_first no_items = None
word_first (item d args) = option_map (λ text. (text, args)) (as_str d)

-- the rule is `make x`, and the items stand for the parts of x
abbrev pub Makes : {X : Type 0} → (X → Rule) → (X → List Part) → Items → Rule → Type 0
Makes {X = X} make parts args r = (x : X) × (r ≡ make x) × Each IsPart (parts x) args

-- the rule has this word, and these items behind it
abbrev pub IsOf : Word → Items → Rule → Type 0
IsOf Close args r = Makes rule.Close (λ s. sum s ∷ []) args r
IsOf Both args r = Makes rule.Both (λ i. whole i ∷ []) args r
IsOf Case args r = Makes rule.Case (λ i. whole i ∷ []) args r
IsOf Cut args r = Makes rule.Cut (λ f. form f ∷ []) args r
IsOf Round args r = Makes {X = List (ℕ × ℤ) × ℤ} (λ p. rule.Round p.0 p.1) (λ p. sum p.0 ∷ multiplier p.1 ∷ []) args r
IsOf Range args r = Makes rule.RangeName (λ x. name x ∷ []) args r ⊎ Makes {X = ℕ × ℕ} (λ p. rule.RangeRead p.0 p.1) (λ p. whole p.0 ∷ whole p.1 ∷ []) args r
IsOf Same args r = Makes {X = ℕ × ℕ} (λ p. rule.Same p.0 p.1) (λ p. whole p.0 ∷ whole p.1 ∷ []) args r
IsOf Read args r = Makes {X = ℕ × ℕ} (λ p. rule.Read p.0 p.1) (λ p. whole p.0 ∷ whole p.1 ∷ []) args r
IsOf Inst args r = Makes {X = ℕ × TermTree} (λ p. rule.Inst p.0 p.1) (λ p. whole p.0 ∷ term p.1 ∷ []) args r
IsOf Truth args r = Makes {X = ℕ × ℕ} (λ p. rule.Truth p.0 p.1) (λ p. whole p.0 ∷ whole p.1 ∷ []) args r
IsOf Divide args r = Makes {X = ℕ × ℕ} (λ p. rule.Divide p.0 p.1) (λ p. whole p.0 ∷ whole p.1 ∷ []) args r
