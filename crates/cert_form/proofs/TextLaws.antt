-- Strings and arrays of JSON, and what they hold.
use Rattle.std.proofs.Common.{◌≡◌, ◌∙◌, ℕ, List, Option, None, Some, sym, ap, subst}
use Rattle.std.specs.Prelude.{MatchOption}
use Rattle.serde_json.specs.Data.{Data, null, boolean, number, string, array, object, Items}
use Rattle.serde_json.specs.Find.{as_str, as_array}
use Rattle.cert_form.specs.Certificates.{IsString}
use Rattle.cert_form.specs.Code.Reading.{Found}

pub string-is : (d : Data) (text : List ℕ) → as_str d ≡ Some text → d ≡ string text
string-is null text e = absurd (cc)
string-is (boolean b) text e = absurd (cc)
string-is (number n) text e = absurd (cc)
string-is (string s) text e = cc
string-is (array ds) text e = absurd (cc)
string-is (object ms) text e = absurd (cc)

pub array-is : (d : Data) (ds : Items) → as_array d ≡ Some ds → d ≡ array ds
array-is null ds e = absurd (cc)
array-is (boolean b) ds e = absurd (cc)
array-is (number n) ds e = absurd (cc)
array-is (string s) ds e = absurd (cc)
array-is (array es) ds e = cc
array-is (object ms) ds e = absurd (cc)

pub no-text : {X : Type 0} (P : List ℕ → X → Type 0) (d : Data) → as_str d ≡ None → (x : X) → IsString (λ text. P text x) d → ⊥
no-text P d none x h = let both = sym none ∙ ap as_str h.1 in absurd (cc)

pub found-text : {X : Type 0} (P : List ℕ → X → Type 0) (d : Data) (text : List ℕ) (o : Option X) → as_str d ≡ Some text
    → MatchOption o ((x : X) → P text x → ⊥) (λ x. P text x) → Found (λ x. IsString (λ t. P t x) d) o
found-text P d text None is found = λ x h.
    let both : Some text ≡ Some h.0 = sym is ∙ ap as_str h.1 in
    let same : text ≡ h.0 = cc in
    found x (subst (λ t. P t x) (sym same) h.2)
found-text P d text (Some x) is found = (text, string-is d text is, found)
