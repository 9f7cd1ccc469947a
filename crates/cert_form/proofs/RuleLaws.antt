-- A rule is read by its word.
use Rattle.std.proofs.Common.{◌≡◌, ◌∙◌, inl, inr, ℕ, ℤ, List, [], ◌∷◌, Option, None, Some, Bool, true, false, option_map, codes, refl, sym, ap, subst, if◌then◌else◌}
use Rattle.std.specs.Prelude.{bytes_eq}
use Rattle.serde_json.specs.Data.{Data, string, array, Items, no_items, item}
use Rattle.serde_json.specs.Find.{as_str, as_array}
use Rattle.std.proofs.lemmas.Slice.Eq.{bytes_eq-Decides}
use Rattle.terms.specs.Trees.{TermTree}
use Rattle.cert_form.specs.Certificates.{Part, word, whole, multiplier, sum, term, name, parts, IsPart, IsRule, Each}
use Rattle.cert_form.specs.Code.Reading.{Found, Makes, IsOf, single, double, whole_in, word_in, word_first, only_whole, two_wholes, only_sum, sum_and_multiplier}
use Rattle.cert_form.specs.declared.cert.Rule.{Rule}
use Rattle.cert_form.specs.declared.cert.Rule.TheVariants as rule
use Rattle.cert_form.specs.declared.word.Word.{Word}
use Rattle.cert_form.specs.declared.word.Word.TheVariants.{Close, Both, Case, Cut, Round, Range, Same, Read, Inst, Truth, Divide}
use Rattle.cert_form.proofs.Deciding.{found-made}
use Rattle.cert_form.proofs.PartLaws.{single-is, double-is, whole-decides, only_whole-decides, only_sum-decides, two_wholes-decides, sum_and_multiplier-decides}
use Rattle.cert_form.proofs.TextLaws.{string-is}

-- ---- words

abbrev pub spelled : Word → List ℕ
spelled Close = codes "close"
spelled Both = codes "both"
spelled Case = codes "case"
spelled Cut = codes "cut"
spelled Round = codes "round"
spelled Range = codes "range"
spelled Same = codes "same"
spelled Read = codes "read"
spelled Inst = codes "inst"
spelled Truth = codes "truth"
spelled Divide = codes "divide"

word-of-spelled : (w : Word) → word_in (spelled w) ≡ Some w
word-of-spelled Close = refl
word-of-spelled Both = refl
word-of-spelled Case = refl
word-of-spelled Cut = refl
word-of-spelled Round = refl
word-of-spelled Range = refl
word-of-spelled Same = refl
word-of-spelled Read = refl
word-of-spelled Inst = refl
word-of-spelled Truth = refl
word-of-spelled Divide = refl

word-step : (text known : List ℕ) (v w : Word) (rest : Option Word) → known ≡ spelled v → (rest ≡ Some w → text ≡ spelled w)
    → (if bytes_eq text known then Some v else rest) ≡ Some w → text ≡ spelled w
word-step text known v w rest is behind e = from (bytes_eq text known) refl e
  where
    from : (b : Bool) → bytes_eq text known ≡ b → (if b then Some v else rest) ≡ Some w → text ≡ spelled w
    from true same e =
        let equal : text ≡ known = (bytes_eq-Decides text known).0 same in
        let which : v ≡ w = cc in
        equal ∙ is ∙ ap spelled which
    from false same e = behind e

word-is : (text : List ℕ) (w : Word) → word_in text ≡ Some w → text ≡ spelled w
word-is text w =
    word-step text (codes "close") Close w _ refl
    (word-step text (codes "both") Both w _ refl
    (word-step text (codes "case") Case w _ refl
    (word-step text (codes "cut") Cut w _ refl
    (word-step text (codes "round") Round w _ refl
    (word-step text (codes "range") Range w _ refl
    (word-step text (codes "same") Same w _ refl
    (word-step text (codes "read") Read w _ refl
    (word-step text (codes "inst") Inst w _ refl
    (word-step text (codes "truth") Truth w _ refl
    (word-step text (codes "divide") Divide w None refl (λ e. absurd (cc))))))))))))

-- ---- a rule's array, by its word

pub record IsSplit (ds : Items) (r : Rule) : Type 0 where
  pub spelling : Word
  pub args : Items
  pub whole : ds ≡ item (string (spelled spelling)) args
  pub rest : IsOf spelling args r

pub split : (r : Rule) (ds : Items) → Each IsPart (parts r) ds → IsSplit ds r
split (rule.Close s) (item d args) h = record { spelling = Close; args = args; whole = ap (λ e. item e args) h.0; rest = (s, refl, h.1) }
split (rule.Both i) (item d args) h = record { spelling = Both; args = args; whole = ap (λ e. item e args) h.0; rest = (i, refl, h.1) }
split (rule.Case i) (item d args) h = record { spelling = Case; args = args; whole = ap (λ e. item e args) h.0; rest = (i, refl, h.1) }
split (rule.Cut f) (item d args) h = record { spelling = Cut; args = args; whole = ap (λ e. item e args) h.0; rest = (f, refl, h.1) }
split (rule.Round s z) (item d args) h = record { spelling = Round; args = args; whole = ap (λ e. item e args) h.0; rest = ((s, z), refl, h.1) }
split (rule.RangeName x) (item d args) h = record { spelling = Range; args = args; whole = ap (λ e. item e args) h.0; rest = inl (x, refl, h.1) }
split (rule.RangeRead i k) (item d args) h = record { spelling = Range; args = args; whole = ap (λ e. item e args) h.0; rest = inr ((i, k), refl, h.1) }
split (rule.Same i j) (item d args) h = record { spelling = Same; args = args; whole = ap (λ e. item e args) h.0; rest = ((i, j), refl, h.1) }
split (rule.Read i k) (item d args) h = record { spelling = Read; args = args; whole = ap (λ e. item e args) h.0; rest = ((i, k), refl, h.1) }
split (rule.Inst i t) (item d args) h = record { spelling = Inst; args = args; whole = ap (λ e. item e args) h.0; rest = ((i, t), refl, h.1) }
split (rule.Truth i k) (item d args) h = record { spelling = Truth; args = args; whole = ap (λ e. item e args) h.0; rest = ((i, k), refl, h.1) }
split (rule.Divide i k) (item d args) h = record { spelling = Divide; args = args; whole = ap (λ e. item e args) h.0; rest = ((i, k), refl, h.1) }
split (rule.Close s) no_items h = absurd h
split (rule.Both i) no_items h = absurd h
split (rule.Case i) no_items h = absurd h
split (rule.Cut f) no_items h = absurd h
split (rule.Round s z) no_items h = absurd h
split (rule.RangeName x) no_items h = absurd h
split (rule.RangeRead i k) no_items h = absurd h
split (rule.Same i j) no_items h = absurd h
split (rule.Read i k) no_items h = absurd h
split (rule.Inst i t) no_items h = absurd h
split (rule.Truth i k) no_items h = absurd h
split (rule.Divide i k) no_items h = absurd h

-- one word and the same items
pub same-spelling : (v w : Word) (ds es : Items) → array (item (string (spelled v)) ds) ≡ array (item (string (spelled w)) es) → (v ≡ w) × (ds ≡ es)
same-spelling v w ds es e =
    let text : spelled v ≡ spelled w = cc in
    let both = sym (word-of-spelled v) ∙ ap word_in text ∙ word-of-spelled w in
    (cc, cc)

made : {X : Type 0} (make : X → Rule) (rest : X → List Part) (text : List ℕ) (args : Items) (r : Rule)
    → ((x : X) → parts (make x) ≡ word text ∷ rest x) → Makes make rest args r → Each IsPart (parts r) (item (string text) args)
made make rest text args r same h =
    let all : Each IsPart (word text ∷ rest h.0) (item (string text) args) = (refl, h.2) in
    let these : Each IsPart (parts (make h.0)) (item (string text) args) = subst (λ ps. Each IsPart ps (item (string text) args)) (sym (same h.0)) all in
    subst (λ s. Each IsPart (parts s) (item (string text) args)) (sym h.1) these

join : (w : Word) (args : Items) (r : Rule) → IsOf w args r → Each IsPart (parts r) (item (string (spelled w)) args)
join Close args r h = made _ _ (spelled Close) args r (λ x. refl) h
join Both args r h = made _ _ (spelled Both) args r (λ x. refl) h
join Case args r h = made _ _ (spelled Case) args r (λ x. refl) h
join Cut args r h = made _ _ (spelled Cut) args r (λ x. refl) h
join Round args r h = made _ _ (spelled Round) args r (λ x. refl) h
join Range args r (inl h) = made _ _ (spelled Range) args r (λ x. refl) h
join Range args r (inr h) = made _ _ (spelled Range) args r (λ x. refl) h
join Same args r h = made _ _ (spelled Same) args r (λ x. refl) h
join Read args r h = made _ _ (spelled Read) args r (λ x. refl) h
join Inst args r h = made _ _ (spelled Inst) args r (λ x. refl) h
join Truth args r h = made _ _ (spelled Truth) args r (λ x. refl) h
join Divide args r h = made _ _ (spelled Divide) args r (λ x. refl) h

-- ---- what is read of a rule's array

abbrev after_word : List ℕ → Items → Data
after_word text args = array (item (string text) args)

record IsRead (text : List ℕ) (args : Items) (r : Rule) : Type 0 where
  spelling : Word
  given : word_in text ≡ Some spelling
  rest : IsOf spelling args r

read-back : (text : List ℕ) (args : Items) (r : Rule) → IsRule r (after_word text args) → IsRead text args r
read-back text args r h =
    let parts = split r h.0 h.2 in
    let whole : after_word text args ≡ array (item (string (spelled parts.spelling)) parts.args) = h.1 ∙ ap array parts.whole in
    let same_text : text ≡ spelled parts.spelling = cc in
    let same_args : args ≡ parts.args = cc in
    record {
      spelling = parts.spelling;
      given = ap word_in same_text ∙ word-of-spelled parts.spelling;
      rest = subst (λ ds. IsOf parts.spelling ds r) (sym same_args) parts.rest;
    }

pub found-word : (text : List ℕ) (args : Items) (w : Word) (o : Option Rule) → word_in text ≡ Some w → Found (IsOf w args) o
    → Found (λ r. IsRule r (array (item (string text) args))) o
found-word text args w None is h = λ r e.
    let read = read-back text args r e in
    let both : Some w ≡ Some read.spelling = sym is ∙ read.given in
    let same : w ≡ read.spelling = cc in
    h r (subst (λ v. IsOf v args r) (sym same) read.rest)
found-word text args w (Some r) is h =
    (item (string text) args, refl, subst (λ t. Each IsPart (parts r) (item (string t) args)) (sym (word-is text w is)) (join w args r h))

pub no-word : (text : List ℕ) (args : Items) → word_in text ≡ None → (r : Rule) → IsRule r (array (item (string text) args)) → ⊥
no-word text args none r h =
    let both = sym none ∙ (read-back text args r h).given in
    absurd (cc)

pub no-first : (ds : Items) → word_first ds ≡ None → (r : Rule) → IsRule r (array ds) → ⊥
no-first ds none r h =
    let parts = split r h.0 h.2 in
    let whole : array ds ≡ array (item (string (spelled parts.spelling)) parts.args) = h.1 ∙ ap array parts.whole in
    let same : ds ≡ item (string (spelled parts.spelling)) parts.args = cc in
    let both = sym none ∙ ap word_first same in
    absurd (cc)

pub first-is : (ds : Items) (p : List ℕ × Items) → word_first ds ≡ Some p → ds ≡ item (string p.0) p.1
first-is no_items p e = absurd (cc)
first-is (item d args) p e = from (as_str d) refl e
  where
    from : (o : Option (List ℕ)) → as_str d ≡ o → option_map (λ text. (text, args)) o ≡ Some p → item d args ≡ item (string p.0) p.1
    from None is e = absurd (cc)
    from (Some text) is e =
        let same : (text, args) ≡ p = cc in
        ap (λ d. item d args) (string-is d text is) ∙ ap (λ (q : List ℕ × Items). item (string q.0) q.1) same

pub no-array : (d : Data) → as_array d ≡ None → (r : Rule) → IsRule r d → ⊥
no-array d none r h = let both = sym none ∙ ap as_array h.1 in absurd (cc)

-- ---- one text behind a word

pub no-one : {X : Type 0} (make : X → Rule) (part : X → Part) (args : Items) (d : Data) → single args ≡ Some d → ((x : X) → IsPart (part x) d → ⊥)
    → (r : Rule) → Makes make (λ x. part x ∷ []) args r → ⊥
no-one make part args d is nothing r h =
    let all = subst (λ ds. Each IsPart (part h.0 ∷ []) ds) (single-is args d is) h.2 in
    nothing h.0 all.0

pub no-two : (args : Items) (d e : Data) (i : ℕ) → double args ≡ Some (d, e) → whole_in d ≡ Some i → ((t : TermTree) → IsPart (term t) e → ⊥)
    → (r : Rule) → IsOf Inst args r → ⊥
no-two args d e i is whole_is nothing r h =
    let all = subst (λ ds. Each IsPart (whole h.0.0 ∷ term h.0.1 ∷ []) ds) (double-is args (d, e) is) h.2 in
    nothing h.0.1 all.1.0

pub some-two : (args : Items) (d e : Data) (i : ℕ) (t : TermTree) → double args ≡ Some (d, e) → whole_in d ≡ Some i → IsPart (term t) e → IsOf Inst args (rule.Inst i t)
some-two args d e i t is whole_is text =
    let all : Each IsPart (whole i ∷ term t ∷ []) (item d (item e no_items)) = (whole-decides.sound d i whole_is, (text, tt)) in
    ((i, t), refl, subst (λ ds. Each IsPart (whole i ∷ term t ∷ []) ds) (sym (double-is args (d, e) is)) all)

-- ---- what is found behind a word

pub found-close : (args : Items) (o : Option Rule) → o ≡ option_map rule.Close (only_sum args) → Found (IsOf Close args) o
found-close = found-made rule.Close (λ s. sum s ∷ []) only_sum only_sum-decides

pub found-both : (args : Items) (o : Option Rule) → o ≡ option_map rule.Both (only_whole args) → Found (IsOf Both args) o
found-both = found-made rule.Both (λ i. whole i ∷ []) only_whole only_whole-decides

pub found-case : (args : Items) (o : Option Rule) → o ≡ option_map rule.Case (only_whole args) → Found (IsOf Case args) o
found-case = found-made rule.Case (λ i. whole i ∷ []) only_whole only_whole-decides

pub found-round : (args : Items) (o : Option Rule) → o ≡ option_map (λ p. rule.Round p.0 p.1) (sum_and_multiplier args) → Found (IsOf Round args) o
found-round = found-made {X = List (ℕ × ℤ) × ℤ} (λ p. rule.Round p.0 p.1) (λ p. sum p.0 ∷ multiplier p.1 ∷ []) sum_and_multiplier sum_and_multiplier-decides

found-wholes : (make : ℕ → ℕ → Rule) (args : Items) (o : Option Rule) → o ≡ option_map (λ p. make p.0 p.1) (two_wholes args)
    → Found (Makes {X = ℕ × ℕ} (λ p. make p.0 p.1) (λ p. whole p.0 ∷ whole p.1 ∷ []) args) o
found-wholes make = found-made {X = ℕ × ℕ} (λ p. make p.0 p.1) (λ p. whole p.0 ∷ whole p.1 ∷ []) two_wholes two_wholes-decides

pub found-range_read : (args : Items) (o : Option Rule) → o ≡ option_map (λ p. rule.RangeRead p.0 p.1) (two_wholes args)
    → Found (Makes {X = ℕ × ℕ} (λ p. rule.RangeRead p.0 p.1) (λ p. whole p.0 ∷ whole p.1 ∷ []) args) o
found-range_read = found-wholes rule.RangeRead

pub found-same : (args : Items) (o : Option Rule) → o ≡ option_map (λ p. rule.Same p.0 p.1) (two_wholes args) → Found (IsOf Same args) o
found-same = found-wholes rule.Same

pub found-read : (args : Items) (o : Option Rule) → o ≡ option_map (λ p. rule.Read p.0 p.1) (two_wholes args) → Found (IsOf Read args) o
found-read = found-wholes rule.Read

pub found-truth : (args : Items) (o : Option Rule) → o ≡ option_map (λ p. rule.Truth p.0 p.1) (two_wholes args) → Found (IsOf Truth args) o
found-truth = found-wholes rule.Truth

pub found-divide : (args : Items) (o : Option Rule) → o ≡ option_map (λ p. rule.Divide p.0 p.1) (two_wholes args) → Found (IsOf Divide args) o
found-divide = found-wholes rule.Divide

pub ruleset found_rules = (found-close, found-both, found-case, found-round, found-same, found-read, found-truth, found-divide)

-- ---- the two kinds of a range

single-some : (part : Part) (args : Items) → single args ≡ None → Each IsPart (part ∷ []) args → ⊥
single-some part no_items none h = h
single-some part (item d no_items) none h = absurd (cc)
single-some part (item d (item e es)) none h = h.1

pub found-range_name : (args : Items) (d : Data) (o : Option Rule) → single args ≡ Some d
    → Found (Makes rule.RangeName (λ x. name x ∷ []) (item d no_items)) o → Found (IsOf Range args) o
found-range_name args d o is h =
    subst (λ ds. Found (IsOf Range ds) o) (sym (single-is args d is)) (from o h)
  where
    from : (o : Option Rule) → Found (Makes rule.RangeName (λ x. name x ∷ []) (item d no_items)) o → Found (IsOf Range (item d no_items)) o
    from None h = λ r these. elim these [ inl m ↦ h r m | inr m ↦ m.2.1 ]
    from (Some r) h = inl h

pub found-range : (args : Items) (o : Option Rule) → single args ≡ None → o ≡ option_map (λ p. rule.RangeRead p.0 p.1) (two_wholes args)
    → Found (IsOf Range args) o
found-range args o none e = from o (found-range_read args o e)
  where
    from : (o : Option Rule) → Found (Makes {X = ℕ × ℕ} (λ p. rule.RangeRead p.0 p.1) (λ p. whole p.0 ∷ whole p.1 ∷ []) args) o → Found (IsOf Range args) o
    from None h = λ r these. elim these [ inl m ↦ single-some (name m.0) args none m.2 | inr m ↦ h r m ]
    from (Some r) h = inr h
