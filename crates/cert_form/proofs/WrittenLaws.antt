-- What is written is read back.
use Rattle.std.proofs.Common.{◌≡◌, ◌∙◌, ◌≤◌, ℕ, zero, suc, ℤ, List, [], ◌∷◌, ◌++◌, Option, None, Some, false, map, refl, ap, arith}
use Rattle.std.specs.Prelude.{All, IsUtf8}
use Rattle.std.proofs.lemmas.List.Elements.{All-head, All-tail}
use Rattle.std.specs.Str.{IsAscii}
use Rattle.std.proofs.lemmas.Str.{IsUtf8-append, IsUtf8-from_ascii, utf8_lossy-IsUtf8}
use Rattle.serde_json.specs.Data.{Data, string, depth, items_depth}
use Rattle.serde_json.specs.Read.{read, max_depth}
use Rattle.serde_json.specs.View.{items_of}
use Rattle.serde_json.specs.Written.{has_float, items_have_float}
use Rattle.formula_texts.specs.Written.{form_text, term_text, name_text}
use Rattle.cert_form.specs.Certificates.{Part, word, whole, multiplier, sum, form, term, name, parts, Each, IsArray, IsPair, IsPart, IsRule, IsCert, AreCerts}
use Rattle.cert_form.specs.Written.{IsWritablePair, IsWritablePart, IsWritableRule, IsWritable, list_data, pair_data, part_data, rule_data, cert_data}
use Rattle.cert_form.specs.declared.cert.Cert.{Cert}
use Rattle.cert_form.specs.declared.cert.Rule.{Rule}
use Rattle.cert_form.proofs.FormulaLaws.{form-read, term-read, name-read, form-utf8, term-utf8, name-utf8}
use Rattle.cert_form.proofs.LineFeed.{read-feed}

each-written : {X : Type 0} (Is : X → Data → Type 0) (data_of : X → Data) (P : X → Type 0) → ((x : X) → P x → Is x (data_of x))
    → (xs : List X) → All P xs → Each Is xs (items_of (map data_of xs))
each-written Is data_of P written [] h = tt
each-written Is data_of P written (x ∷ xs) h = (written x (All-head P x xs h), each-written Is data_of P written xs (All-tail P x xs h))

list-written : {X : Type 0} (Is : X → Data → Type 0) (data_of : X → Data) (P : X → Type 0) → ((x : X) → P x → Is x (data_of x))
    → (xs : List X) → All P xs → IsArray Is xs (list_data data_of xs)
list-written Is data_of P written xs h = (items_of (map data_of xs), refl, each-written Is data_of P written xs h)

pair-written : (p : ℕ × ℤ) → IsWritablePair p → IsPair p (pair_data p)
pair-written p h = (_, _, refl, (refl, h.0), (refl, h.1))

part-written : (p : Part) → IsWritablePart p → IsPart p (part_data p)
part-written (word text) h = refl
part-written (whole n) h = (refl, h)
part-written (multiplier z) h = (refl, h)
part-written (sum pairs) h = list-written IsPair pair_data IsWritablePair pair-written pairs h
part-written (form f) h = (form_text f, ap string (utf8_lossy-IsUtf8 (form_text f) (form-utf8 f h)), form-read f h)
part-written (term t) h = (term_text t, ap string (utf8_lossy-IsUtf8 (term_text t) (term-utf8 t h)), term-read t h)
part-written (name x) h = (name_text x, ap string (utf8_lossy-IsUtf8 (name_text x) (name-utf8 x h)), name-read x h)

rule-written : (rule : Rule) → IsWritableRule rule → IsRule rule (rule_data rule)
rule-written rule h = list-written IsPart part_data IsWritablePart part-written (parts rule) h

cert-written : (cert : Option Cert) → IsWritable cert → IsCert cert (cert_data cert)
cert-written None h = refl
cert-written (Some cert) h = list-written IsRule rule_data IsWritableRule rule-written cert.rules h

-- ---- depth, and no floats

each-depth : {X : Type 0} (data_of : X → Data) (k : ℕ) → ((x : X) → depth (data_of x) ≤ k) → (xs : List X) → items_depth (items_of (map data_of xs)) ≤ k
each-depth data_of k h [] = omega arith
each-depth data_of k h (x ∷ xs) = let one = h x in let rest = each-depth data_of k h xs in omega arith

part-depth : (p : Part) → depth (part_data p) ≤ 2
part-depth (word text) = omega arith
part-depth (whole n) = omega arith
part-depth (multiplier z) = omega arith
part-depth (sum pairs) = let h = each-depth pair_data 1 (λ p. omega arith) pairs in omega arith
part-depth (form f) = omega arith
part-depth (term t) = omega arith
part-depth (name x) = omega arith

rule-depth : (rule : Rule) → depth (rule_data rule) ≤ 3
rule-depth rule = let h = each-depth part_data 2 part-depth (parts rule) in omega arith

cert-depth : (cert : Option Cert) → depth (cert_data cert) ≤ 4
cert-depth None = omega arith
cert-depth (Some cert) = let h = each-depth rule_data 3 rule-depth cert.rules in omega arith

pub certs-depth : (certs : List (Option Cert)) → depth (list_data cert_data certs) ≤ max_depth
certs-depth certs = let h = each-depth cert_data 4 cert-depth certs in omega arith

each-whole : {X : Type 0} (data_of : X → Data) → ((x : X) → has_float (data_of x) ≡ false) → (xs : List X) → items_have_float (items_of (map data_of xs)) ≡ false
each-whole data_of h [] = refl
each-whole data_of h (x ∷ xs) = rw (h x) (each-whole data_of h xs)

part-whole : (p : Part) → has_float (part_data p) ≡ false
part-whole (word text) = refl
part-whole (whole n) = refl
part-whole (multiplier z) = refl
part-whole (sum pairs) = each-whole pair_data (λ p. refl) pairs
part-whole (form f) = refl
part-whole (term t) = refl
part-whole (name x) = refl

cert-whole : (cert : Option Cert) → has_float (cert_data cert) ≡ false
cert-whole None = refl
cert-whole (Some cert) = each-whole rule_data (λ rule. each-whole part_data part-whole (parts rule)) cert.rules

pub certs-whole : (certs : List (Option Cert)) → has_float (list_data cert_data certs) ≡ false
certs-whole certs = each-whole cert_data cert-whole certs

-- ---- the text

feed-ascii : IsAscii (10 ∷ [])
feed-ascii zero = omega arith
feed-ascii (suc i) = omega arith

pub text-written : (certs : List (Option Cert)) (text : List ℕ) → All IsWritable certs → IsUtf8 text → read text ≡ Some (list_data cert_data certs)
    → AreCerts (text ++ 10 ∷ []) certs
text-written certs text writable utf8 reads = (
  list_data cert_data certs,
  IsUtf8-append text (10 ∷ []) utf8 (IsUtf8-from_ascii (10 ∷ []) feed-ascii),
  read-feed text ∙ reads,
  list-written IsCert cert_data IsWritable cert-written certs writable,
)
