-- A text is one list of certificates.
use Rattle.std.proofs.Common.{◌≡◌, ◌∙◌, inl, inr, ℕ, ℤ, List, [], ◌∷◌, Option, None, Some, refl, sym, ap, ap₂, subst}
use Rattle.serde_json.specs.Data.{Data, string, array, Items, no_items, item}
use Rattle.terms.specs.Trees.{FormTree, TermTree}
use Rattle.terms.specs.declared.sym.Sym.{Sym}
use Rattle.formula_texts.specs.Texts.{IsFormText, IsTermText, IsNameText}
use Rattle.cert_form.specs.Certificates.{Part, whole, multiplier, sum, form, term, name, Each, IsArray, IsPart, IsRule, IsCert, AreCerts, IsString}
use Rattle.cert_form.specs.Code.Reading.{Makes, IsOf}
use Rattle.cert_form.specs.declared.cert.Cert.{Cert}
use Rattle.cert_form.specs.declared.cert.Rule.{Rule}
use Rattle.cert_form.specs.declared.cert.Rule.TheVariants as rule
use Rattle.cert_form.specs.declared.word.Word.{Word}
use Rattle.cert_form.specs.declared.word.Word.TheVariants.{Close, Both, Case, Cut, Round, Range, Same, Read, Inst, Truth, Divide}
use Rattle.cert_form.proofs.Deciding.{unique}
use Rattle.cert_form.proofs.FormulaLaws.{one_form, one_term, one_name}
use Rattle.cert_form.proofs.PartLaws.{only_whole-decides, only_sum-decides, two_wholes-decides, sum_and_multiplier-decides, whole-decides}
use Rattle.cert_form.proofs.RuleLaws.{split, same-spelling}

-- ---- parts

text-unique : {X : Type 0} (P : List ℕ → X → Type 0) → ((text : List ℕ) (x y : X) → P text x → P text y → x ≡ y)
    → (d : Data) (x y : X) → IsString (λ text. P text x) d → IsString (λ text. P text y) d → x ≡ y
text-unique P one d x y h k =
    let both : string h.0 ≡ string k.0 = sym h.1 ∙ k.1 in
    let same : h.0 ≡ k.0 = cc in
    one k.0 x y (subst (λ t. P t x) same h.2) k.2

form-unique : (d : Data) (f g : FormTree) → IsPart (form f) d → IsPart (form g) d → f ≡ g
form-unique = text-unique (λ t f. IsFormText t f) one_form

term-unique : (d : Data) (t u : TermTree) → IsPart (term t) d → IsPart (term u) d → t ≡ u
term-unique = text-unique (λ t f. IsTermText t f) one_term

name-unique : (d : Data) (x y : Sym) → IsPart (name x) d → IsPart (name y) d → x ≡ y
name-unique = text-unique (λ t f. IsNameText t f) one_name

one-unique : {X : Type 0} (part : X → Part) → ((d : Data) (x y : X) → IsPart (part x) d → IsPart (part y) d → x ≡ y)
    → (args : Items) (x y : X) → Each IsPart (part x ∷ []) args → Each IsPart (part y ∷ []) args → x ≡ y
one-unique part one no_items x y h k = absurd h
one-unique part one (item d ds) x y h k = one d x y h.0 k.0

inst-unique : (args : Items) (p q : ℕ × TermTree) → Each IsPart (whole p.0 ∷ term p.1 ∷ []) args → Each IsPart (whole q.0 ∷ term q.1 ∷ []) args → p ≡ q
inst-unique no_items p q h k = absurd h
inst-unique (item d no_items) p q h k = absurd h.1
inst-unique (item d (item e ds)) p q h k =
    ap₂ (λ (i : ℕ) (t : TermTree). (i, t)) (unique whole-decides d p.0 q.0 h.0 k.0) (term-unique e p.1 q.1 h.1.0 k.1.0)

one-or-two : (x : Sym) (p : ℕ × ℕ) (args : Items) → Each IsPart (name x ∷ []) args → Each IsPart (whole p.0 ∷ whole p.1 ∷ []) args → ⊥
one-or-two x p no_items h k = h
one-or-two x p (item d no_items) h k = k.1
one-or-two x p (item d (item e ds)) h k = h.1

-- ---- rules

made-unique : {X : Type 0} (make : X → Rule) (of : X → List Part) (args : Items) (r s : Rule)
    → ((x y : X) → Each IsPart (of x) args → Each IsPart (of y) args → x ≡ y) → Makes make of args r → Makes make of args s → r ≡ s
made-unique make of args r s one h k = h.1 ∙ ap make (one h.0 k.0 h.2 k.2) ∙ sym k.1

of-unique : (w : Word) (args : Items) (r s : Rule) → IsOf w args r → IsOf w args s → r ≡ s
of-unique Close args r s h k = made-unique rule.Close (λ s. sum s ∷ []) args r s (λ x y. unique only_sum-decides args x y) h k
of-unique Both args r s h k = made-unique rule.Both (λ i. whole i ∷ []) args r s (λ x y. unique only_whole-decides args x y) h k
of-unique Case args r s h k = made-unique rule.Case (λ i. whole i ∷ []) args r s (λ x y. unique only_whole-decides args x y) h k
of-unique Cut args r s h k = made-unique rule.Cut (λ f. form f ∷ []) args r s (λ x y. one-unique form form-unique args x y) h k
of-unique Round args r s h k = made-unique {X = List (ℕ × ℤ) × ℤ} (λ p. rule.Round p.0 p.1) (λ p. sum p.0 ∷ multiplier p.1 ∷ []) args r s (λ x y. unique sum_and_multiplier-decides args x y) h k
of-unique Range args r s (inl h) (inl k) = made-unique rule.RangeName (λ x. name x ∷ []) args r s (λ x y. one-unique name name-unique args x y) h k
of-unique Range args r s (inl h) (inr k) = absurd (one-or-two h.0 k.0 args h.2 k.2)
of-unique Range args r s (inr h) (inl k) = absurd (one-or-two k.0 h.0 args k.2 h.2)
of-unique Range args r s (inr h) (inr k) = made-unique {X = ℕ × ℕ} (λ p. rule.RangeRead p.0 p.1) (λ p. whole p.0 ∷ whole p.1 ∷ []) args r s (λ x y. unique two_wholes-decides args x y) h k
of-unique Same args r s h k = made-unique {X = ℕ × ℕ} (λ p. rule.Same p.0 p.1) (λ p. whole p.0 ∷ whole p.1 ∷ []) args r s (λ x y. unique two_wholes-decides args x y) h k
of-unique Read args r s h k = made-unique {X = ℕ × ℕ} (λ p. rule.Read p.0 p.1) (λ p. whole p.0 ∷ whole p.1 ∷ []) args r s (λ x y. unique two_wholes-decides args x y) h k
of-unique Inst args r s h k = made-unique {X = ℕ × TermTree} (λ p. rule.Inst p.0 p.1) (λ p. whole p.0 ∷ term p.1 ∷ []) args r s (inst-unique args) h k
of-unique Truth args r s h k = made-unique {X = ℕ × ℕ} (λ p. rule.Truth p.0 p.1) (λ p. whole p.0 ∷ whole p.1 ∷ []) args r s (λ x y. unique two_wholes-decides args x y) h k
of-unique Divide args r s h k = made-unique {X = ℕ × ℕ} (λ p. rule.Divide p.0 p.1) (λ p. whole p.0 ∷ whole p.1 ∷ []) args r s (λ x y. unique two_wholes-decides args x y) h k

rule-unique : (d : Data) (r s : Rule) → IsRule r d → IsRule s d → r ≡ s
rule-unique d r s h k =
    let a = split r h.0 h.2 in
    let b = split s k.0 k.2 in
    let whole = sym (h.1 ∙ ap array a.whole) ∙ (k.1 ∙ ap array b.whole) in
    let same = same-spelling a.spelling b.spelling a.args b.args whole in
    of-unique b.spelling b.args r s (subst (λ w. IsOf w b.args r) same.0 (subst (λ ds. IsOf a.spelling ds r) same.1 a.rest)) b.rest

-- ---- lists

each-unique : {X : Type 0} (Is : X → Data → Type 0) → ((d : Data) (x y : X) → Is x d → Is y d → x ≡ y)
    → (ds : Items) (xs ys : List X) → Each Is xs ds → Each Is ys ds → xs ≡ ys
each-unique Is one no_items [] [] h k = refl
each-unique Is one no_items [] (y ∷ ys) h k = absurd k
each-unique Is one no_items (x ∷ xs) ys h k = absurd h
each-unique Is one (item d ds) [] ys h k = absurd h
each-unique Is one (item d ds) (x ∷ xs) [] h k = absurd k
each-unique Is one (item d ds) (x ∷ xs) (y ∷ ys) h k = ap₂ (λ z zs. z ∷ zs) (one d x y h.0 k.0) (each-unique Is one ds xs ys h.1 k.1)

array-unique : {X : Type 0} (Is : X → Data → Type 0) → ((d : Data) (x y : X) → Is x d → Is y d → x ≡ y)
    → (d : Data) (xs ys : List X) → IsArray Is xs d → IsArray Is ys d → xs ≡ ys
array-unique Is one d xs ys h k =
    let both : array h.0 ≡ array k.0 = sym h.1 ∙ k.1 in
    let same : h.0 ≡ k.0 = cc in
    each-unique Is one k.0 xs ys (subst (λ ds. Each Is xs ds) same h.2) k.2

cert-unique : (d : Data) (a b : Option Cert) → IsCert a d → IsCert b d → a ≡ b
cert-unique d None None h k = refl
cert-unique d None (Some b) h k = let both = sym h ∙ k.1 in absurd (cc)
cert-unique d (Some a) None h k = let both = sym k ∙ h.1 in absurd (cc)
cert-unique d (Some a) (Some b) h k = ap (λ (rs : List Rule). Some (record { rules = rs })) (array-unique IsRule rule-unique d a.rules b.rules h k)

pub certs-unique : (text : List ℕ) (some other : List (Option Cert)) → AreCerts text some → AreCerts text other → some ≡ other
certs-unique text some other h k =
    let both = sym h.2 ∙ k.2 in
    let same : h.0 ≡ k.0 = cc in
    array-unique IsCert cert-unique k.0 some other (subst (λ d. IsArray IsCert some d) same h.3) k.3
