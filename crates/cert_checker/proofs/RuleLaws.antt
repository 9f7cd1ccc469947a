-- Where the facts of a branch hold, so do those of a child, whatever the rule.
use Rattle.std.proofs.Common.{◌≡◌, ◌∙◌, ℕ, ◌^◌, ◌<◌, ℤ, pos, negsuc, neg_ℤ, ◌+ℤ◌, ◌-ℤ◌, ◌≤ℤ◌, ◌<ℤ◌, int_le, Bool, true, false, not, ◌&&◌, ◌||◌, if◌then◌else◌, IsTrue, List, [], ◌∷◌, ◌++◌, map, Option, Some, None, filter_map, ap, sym, subst, refl, arith, ◌⊎◌, inl, inr, All}
use Rattle.std.specs.Prelude.{option_and_then, option_map, slice_get, unsigned_abs}
use Rattle.std.specs.Ordering.{int_eq}
use Rattle.std.proofs.lemmas.Int.{ints}
use Rattle.std.proofs.lemmas.Bool.Decides.{Decides-int_eq, nat_tests}
use Rattle.std.proofs.lemmas.List.Elements.{All-nil, All-cons, All-head, All-tail, All-append}
use Rattle.std.proofs.lemmas.Option.{same_Some}
use Rattle.c_lang.specs.Values.{fits_int}
use Rattle.linear_rows.specs.Numbers.{is_zero}
use Rattle.terms.specs.declared.sym.Sym.{Sym}
use Rattle.terms.specs.declared.sequent.Sort.{Sort}
use Rattle.terms.specs.declared.sequent.Sort.TheVariants as sort
use Rattle.terms.specs.Symbols.{same_sym}
use Rattle.terms.specs.Names.{terms_in_form}
use Rattle.terms.specs.declared.fact.Fact.{Fact}
use Rattle.terms.specs.Trees.{TermTree, number, name, divided, remainder, FormTree, always, never, equal, denied, both, either}
use Rattle.terms.specs.declared.fact.Fact.TheVariants as fact
use Rattle.terms.specs.Truth.{Interpretation, remainder_of, number_of, term_at, form_at, FactAt}
use Rattle.terms.specs.Validity.{HasSort, InRange}
use Rattle.terms.specs.Valuations.{is_small}
use Rattle.cert_checker.proofs.Choices.{by_bool}
use Rattle.terms.specs.Code.SymbolLaws.{same_sym-equal}
use Rattle.cert_checker.specs.Rows.{Line, plain_at, combination}
use Rattle.cert_checker.specs.Places.{truths_in, by_number, division_of}
use Rattle.cert_checker.specs.Rules.{Children, on_plain, is_contradiction, are_opposite, is_once, closes_as_written, closes_by_sum, close, both_parts, each_case, cut, may_round, rounded, round, bounds_of, bounds_in, within_bounds, range_of_name, exchange, true_or_false, split_truth, division, divide_by, divide, forms_of, children}
use Rattle.cert_form.specs.declared.cert.Rule.{Rule}
use Rattle.cert_form.specs.declared.cert.Rule.TheVariants as rule
use Rattle.cert_checker.specs.Fails.{Fails}
use Rattle.cert_checker.proofs.Choices.{and_left, and_right, and_true}
use Rattle.terms.specs.Code.EqualityLaws.{same_form-equal}
use Rattle.cert_checker.proofs.CombinationLaws.{plain-true, combination-at, false-nowhere}
use Rattle.cert_checker.proofs.QuotientLaws.{divided-parts, has_remainder}
use Rattle.cert_checker.proofs.RoundingLaws.{rounded-true}
use Rattle.cert_checker.proofs.PlaceLaws.{gathered, KeepsTruth, truth-keeps, exchanged_form-at}

abbrev AreTrue : Interpretation → List FormTree → Type 0
AreTrue v [] = Unit {0}
AreTrue v (f ∷ fs) = IsTrue (form_at v f) × AreTrue v fs

-- the forms of some child are true
abbrev OneIsTrue : Interpretation → List (List FormTree) → Type 0
OneIsTrue v [] = ⊥
OneIsTrue v (forms ∷ rest) = AreTrue v forms ⊎ OneIsTrue v rest

-- where the rule applies, some child is true
abbrev pub HasTrueChild : Interpretation → Children → Type 0
HasTrueChild v None = Unit {0}
HasTrueChild v (Some made) = OneIsTrue v made

then-true : {X : Type 0} (v : Interpretation) (give : X → Children) (o : Option X) → ((x : X) → o ≡ Some x → HasTrueChild v (give x)) → HasTrueChild v (option_and_then give o)
then-true v give None h = tt
then-true v give (Some x) h = h x refl

on_plain-true : (v : Interpretation) (facts : List Fact) (i : ℕ) (apply : FormTree → Children) → All (FactAt v) facts
    → ((f : FormTree) → IsTrue (form_at v f) → HasTrueChild v (apply f)) → HasTrueChild v (on_plain facts i apply)
on_plain-true v facts i apply all h = then-true v apply (plain_at facts i) (λ f is. h f (plain-true v facts i f all is))

if-true : (v : Interpretation) (b : Bool) (made : List (List FormTree)) → (b ≡ true → OneIsTrue v made) → HasTrueChild v (if b then Some made else None)
if-true v true made h = h refl
if-true v false made h = tt

-- ---- Close

false-true : (b : Bool) → b ≡ true → not b ≡ true → ⊥
false-true true h k = absurd (let e : false ≡ true = k in cc)
false-true false h k = absurd (let e : false ≡ true = h in cc)

contradiction-false : (v : Interpretation) (o : Option FormTree) → is_contradiction o ≡ true → ((f : FormTree) → o ≡ Some f → IsTrue (form_at v f)) → ⊥
contradiction-false v (Some never) h holds = let e : false ≡ true = holds never refl in absurd cc
contradiction-false v (Some (denied always)) h holds = let e : false ≡ true = holds (denied always) refl in absurd cc
contradiction-false v o h holds = absurd cc

opposite-false : (v : Interpretation) (o p : Option FormTree) → are_opposite o p ≡ true → ((f : FormTree) → o ≡ Some f → IsTrue (form_at v f))
    → ((f : FormTree) → p ≡ Some f → IsTrue (form_at v f)) → ⊥
opposite-false v (Some f) (Some (denied g)) h first second = false-true (form_at v f) (first f refl)
    (subst (λ k. not (form_at v k) ≡ true) (sym (same_form-equal f g h)) (second (denied g) refl))
opposite-false v o p h first second = absurd cc

written-false : (v : Interpretation) (facts : List Fact) (pairs : List (ℕ × ℤ)) → All (FactAt v) facts → closes_as_written facts pairs ≡ true → ⊥
written-false v facts [] all h = absurd cc
written-false v facts (p ∷ []) all h = contradiction-false v (plain_at facts p.0) (and_right (is_once p) (is_contradiction (plain_at facts p.0)) h)
    (λ f is. plain-true v facts p.0 f all is)
written-false v facts (p ∷ q ∷ []) all h = opposite-false v (plain_at facts p.0) (plain_at facts q.0)
    (and_right (is_once p && is_once q) (are_opposite (plain_at facts p.0) (plain_at facts q.0)) h)
    (λ f is. plain-true v facts p.0 f all is) (λ f is. plain-true v facts q.0 f all is)
written-false v facts (p ∷ q ∷ r ∷ rest) all h = absurd cc

sum-false : (v : Interpretation) (facts : List Fact) (pairs : List (ℕ × ℤ)) → All (FactAt v) facts → closes_by_sum (combination facts pairs) ≡ true → ⊥
sum-false v facts pairs all h = go (combination facts pairs) refl h
  where
    go : (o : Option Line) → combination facts pairs ≡ o → closes_by_sum o ≡ true → ⊥
    go None is h = absurd cc
    go (Some line) is h = false-nowhere v line h (combination-at v facts pairs line all is)

either-one : (a b : Bool) → (a || b) ≡ true → (a ≡ true) ⊎ (b ≡ true)
either-one true b h = inl refl
either-one false b h = inr h

close-true : (v : Interpretation) (facts : List Fact) (pairs : List (ℕ × ℤ)) → All (FactAt v) facts → HasTrueChild v (close facts pairs)
close-true v facts pairs all = if-true v (closes_by_sum (combination facts pairs) || closes_as_written facts pairs) []
    (λ h. elim (either-one (closes_by_sum (combination facts pairs)) (closes_as_written facts pairs) h) [
      | inl e ↦ sum-false v facts pairs all e
      | inr e ↦ written-false v facts pairs all e
    ])

-- ---- Both, Case, Cut

not-either : (a b : Bool) → not (a || b) ≡ true → (not a ≡ true) × (not b ≡ true)
not-either true b h = absurd cc
not-either false b h = (refl, h)

not-both : (a b : Bool) → not (a && b) ≡ true → (not a ≡ true) ⊎ (not b ≡ true)
not-both true b h = inr h
not-both false b h = inl refl

twice : (a : Bool) → not (not a) ≡ true → a ≡ true
twice true h = refl
twice false h = h

le-test : (a b : ℤ) → a ≤ℤ b → IsTrue (int_le a b)
le-test a b h = grind (arith, ints, h)

same-le : (a b : ℤ) → a ≡ b → a ≤ℤ b
same-le a b e = omega (arith, ints)

two-ways : (a b : ℤ) → IsTrue (int_eq a b) → IsTrue (int_le a b) × IsTrue (int_le b a)
two-ways a b h = let same = (Decides-int_eq a b).0 h in (le-test a b (same-le a b same), le-test b a (same-le b a (sym same)))

both_parts-true : (v : Interpretation) (f : FormTree) → IsTrue (form_at v f) → HasTrueChild v (both_parts f)
both_parts-true v (both f g) h = inl (and_left (form_at v f) (form_at v g) h, (and_right (form_at v f) (form_at v g) h, tt))
both_parts-true v (denied (either f g)) h = let parts = not-either (form_at v f) (form_at v g) h in inl (parts.0, (parts.1, tt))
both_parts-true v (equal a b) h = let ways = two-ways (term_at v a) (term_at v b) h in inl (ways.0, (ways.1, tt))
both_parts-true v (denied (denied f)) h = inl (twice (form_at v f) h, tt)
both_parts-true v f h = tt

apart : (a b : ℤ) → (a ≡ b → ⊥) → ((a +ℤ pos 1) ≤ℤ b) ⊎ ((b +ℤ pos 1) ≤ℤ a)
apart a b h = go (int_le (a +ℤ pos 1) b) refl
  where
    go : (t : Bool) → int_le (a +ℤ pos 1) b ≡ t → ((a +ℤ pos 1) ≤ℤ b) ⊎ ((b +ℤ pos 1) ≤ℤ a)
    go true e = inl (let le : (a +ℤ pos 1) ≤ℤ b = grind (arith, ints, e) in le)
    go false e = inr (let less : b <ℤ (a +ℤ pos 1) = grind (arith, ints, e) in omega (arith, ints))

not-equal : (a b : ℤ) → not (int_eq a b) ≡ true → a ≡ b → ⊥
not-equal a b h e = false-true (int_eq a b) ((Decides-int_eq a b).1 e) h

each_case-true : (v : Interpretation) (f : FormTree) → IsTrue (form_at v f) → HasTrueChild v (each_case f)
each_case-true v (either f g) h = elim (either-one (form_at v f) (form_at v g) h) [
  | inl e ↦ inl (e, tt)
  | inr e ↦ inr (inl (e, tt))
]
each_case-true v (denied (both f g)) h = elim (not-both (form_at v f) (form_at v g) h) [
  | inl e ↦ inl (e, tt)
  | inr e ↦ inr (inl (e, tt))
]
each_case-true v (denied (equal a b)) h = elim (apart (term_at v a) (term_at v b) (not-equal (term_at v a) (term_at v b) h)) [
  | inl e ↦ inl (le-test (term_at v a +ℤ pos 1) (term_at v b) e, tt)
  | inr e ↦ inr (inl (le-test (term_at v b +ℤ pos 1) (term_at v a) e, tt))
]
each_case-true v f h = tt

cut-true : (v : Interpretation) (f : FormTree) → HasTrueChild v (cut f)
cut-true v f = by_bool (form_at v f) (λ e. inl (e, tt)) (λ e. inr (inl (ap not e, tt)))

-- ---- Round

round-true : (v : Interpretation) (facts : List Fact) (pairs : List (ℕ × ℤ)) (d : ℤ) → All (FactAt v) facts → HasTrueChild v (option_and_then (round d) (combination facts pairs))
round-true v facts pairs d all = then-true v (round d) (combination facts pairs)
    (λ line is. if-true v (may_round d line) ((rounded d line ∷ []) ∷ []) (λ may. inl (rounded-true v d line may (combination-at v facts pairs line all is), tt)))

-- ---- Range of a name

-- the name is within the bounds
abbrev IsWithin : Interpretation → Sym → ℤ × ℤ → Type 0
IsWithin v x bounds = (bounds.0 ≤ℤ v.value x) × (v.value x ≤ℤ bounds.1)

int-bounds : (z : ℤ) → IsTrue (fits_int z) → (neg_ℤ (pos (2 ^ 31)) ≤ℤ z) × (z ≤ℤ (pos (2 ^ 31) -ℤ pos 1))
int-bounds (pos n) h = let less : n < 2 ^ 31 = grind (arith, nat_tests, h) in (omega (arith, ints), omega (arith, ints))
int-bounds (negsuc n) h = let less : n < 2 ^ 31 = grind (arith, nat_tests, h) in (omega (arith, ints), omega (arith, ints))

sort-within : (v : Interpretation) (x : Sym) (s : Sort) (bounds : ℤ × ℤ) → HasSort v x s → bounds_of s ≡ Some bounds → IsWithin v x bounds
sort-within v x sort.Whole bounds has e = subst (IsWithin v x) (same_Some _ bounds e) (int-bounds (v.value x) has)
sort-within v x (sort.Code n) bounds has e = subst (IsWithin v x) (same_Some (pos 0, pos n) bounds e) has
sort-within v x (sort.Row n) bounds has e = absurd cc

entry-within : (v : Interpretation) (x : Sym) (entry : Sym × Sort) (bounds : ℤ × ℤ) → HasSort v entry.0 entry.1 → bounds_in x entry ≡ Some bounds → IsWithin v x bounds
entry-within v x entry bounds has e = go (same_sym x entry.0) refl e
  where
    go : (b : Bool) → same_sym x entry.0 ≡ b → (if b then bounds_of entry.1 else None) ≡ Some bounds → IsWithin v x bounds
    go true same e = sort-within v x entry.1 bounds (subst (λ y. HasSort v y entry.1) (sym (same_sym-equal x entry.0 same)) has) e
    go false same e = absurd cc

range-true : (v : Interpretation) (sorts : List (Sym × Sort)) (x : Sym) → InRange v sorts → HasTrueChild v (range_of_name sorts x)
range-true v sorts x in_range = then-true v (within_bounds (name x)) (slice_get (filter_map (bounds_in x) sorts) 0)
    (λ bounds is. let within = gathered (λ entry. HasSort v entry.0 entry.1) (IsWithin v x) (bounds_in x) (λ entry bounds has e. entry-within v x entry bounds has e) sorts in_range 0 bounds is in
    inl (le-test bounds.0 (v.value x) within.0, (le-test (v.value x) bounds.1 within.1, tt)))

-- ---- Same

exchange-true : (v : Interpretation) (e f : FormTree) → IsTrue (form_at v e) → IsTrue (form_at v f) → HasTrueChild v (exchange e f)
exchange-true v (equal a b) f h k = inl (exchanged_form-at v a b ((Decides-int_eq (term_at v a) (term_at v b)).0 h) f ∙ k, tt)
exchange-true v e f h k = tt

same-true : (v : Interpretation) (facts : List Fact) (i j : ℕ) → All (FactAt v) facts → HasTrueChild v (on_plain facts i (λ e. on_plain facts j (exchange e)))
same-true v facts i j all = on_plain-true v facts i (λ e. on_plain facts j (exchange e)) all (λ e h. on_plain-true v facts j (exchange e) all (λ f k. exchange-true v e f h k))

-- ---- Truth

split_truth-true : (v : Interpretation) (k : ℕ) (f : FormTree) → IsTrue (form_at v f) → HasTrueChild v (split_truth k f)
split_truth-true v k f h = then-true v true_or_false (slice_get (truths_in f) k) (λ place is. split v f place (truth-keeps v f k place is) h)
  where
    split : (v : Interpretation) (f : FormTree) (place : FormTree × (TermTree → FormTree)) → KeepsTruth v f place → IsTrue (form_at v f) → HasTrueChild v (true_or_false place)
    split v f place keeps h = by_bool (form_at v place.0)
        (λ e. inl (e, (keeps (number (pos 1)) (ap number_of (sym e)) ∙ h, tt)))
        (λ e. inr (inl (ap not e, (keeps (number (pos 0)) (ap number_of (sym e)) ∙ h, tt))))

-- ---- Divide

both-tests : (a b c : ℤ) → a ≤ℤ b → b ≤ℤ c → (int_le a b && int_le b c) ≡ true
both-tests a b c h k = and_true (int_le a b) (int_le b c) (le-test a b h) (le-test b c k)

first-true : (a b : Bool) → a ≡ true → (a || b) ≡ true
first-true true b h = refl
first-true false b h = absurd cc

second-true : (a b : Bool) → b ≡ true → (a || b) ≡ true
second-true true b h = refl
second-true false b h = h

division-true : (v : Interpretation) (a : TermTree) (d : ℤ) → is_zero d ≡ false → AreTrue v (division a d)
division-true v a d nonzero = (
  (Decides-int_eq (term_at v a) _).1 (divided-parts (term_at v a) d),
  (
    elim ((has_remainder (term_at v a) d nonzero).signs) [
      | inl up ↦ first-true _ _ (and_true (int_le (pos 0) (term_at v a)) _ (le-test (pos 0) (term_at v a) up.0)
          (both-tests (pos 0) (remainder_of (term_at v a) d) (pos (unsigned_abs d) -ℤ pos 1) up.1 up.2))
      | inr down ↦ second-true _ _ (and_true (int_le (term_at v a) (negsuc 0)) _ (le-test (term_at v a) (negsuc 0) down.0)
          (both-tests (pos 1 -ℤ pos (unsigned_abs d)) (remainder_of (term_at v a) d) (pos 0) down.1 down.2))
    ],
    tt,
  ),
)

-- what is divided by stands there as a number other than 0
abbrev IsNonzero : TermTree × ℤ → Type 0
IsNonzero p = is_zero p.1 ≡ false

by_number-nonzero : (t u : TermTree) (p : TermTree × ℤ) → by_number t u ≡ Some p → IsNonzero p
by_number-nonzero t (number d) p e = go (is_zero d) refl e
  where
    go : (b : Bool) → is_zero d ≡ b → (if b then None else Some (t, d)) ≡ Some p → IsNonzero p
    go true is e = absurd cc
    go false is e = subst IsNonzero (same_Some (t, d) p e) is
by_number-nonzero t u p e = absurd cc

division_of-nonzero : (t : TermTree) (p : TermTree × ℤ) → division_of t ≡ Some p → IsNonzero p
division_of-nonzero (divided t u) p e = by_number-nonzero t u p e
division_of-nonzero (remainder t u) p e = by_number-nonzero t u p e
division_of-nonzero t p e = absurd cc

everywhere : (ts : List TermTree) → All (λ t. Unit {0}) ts
everywhere ts k d h = tt

divide-true : (v : Interpretation) (k : ℕ) (f : FormTree) → HasTrueChild v (divide k f)
divide-true v k f = then-true v divide_by (slice_get (filter_map division_of (terms_in_form f)) k)
    (λ p is. if-true v (is_small p.1) (division p.0 p.1 ∷ []) (λ small. inl (division-true v p.0 p.1
    (gathered (λ t. Unit {0}) IsNonzero division_of (λ t p given e. division_of-nonzero t p e) (terms_in_form f) (everywhere (terms_in_form f)) k p is))))

-- ---- every rule

pub rule-true : (v : Interpretation) (sorts : List (Sym × Sort)) (facts : List Fact) → InRange v sorts → All (FactAt v) facts → (r : Rule) → HasTrueChild v (forms_of sorts facts r)
rule-true v sorts facts in_range all (rule.Close pairs) = close-true v facts pairs all
rule-true v sorts facts in_range all (rule.Both i) = on_plain-true v facts i both_parts all (both_parts-true v)
rule-true v sorts facts in_range all (rule.Case i) = on_plain-true v facts i each_case all (each_case-true v)
rule-true v sorts facts in_range all (rule.Cut f) = cut-true v f
rule-true v sorts facts in_range all (rule.Round pairs d) = round-true v facts pairs d all
rule-true v sorts facts in_range all (rule.RangeName x) = range-true v sorts x in_range
rule-true v sorts facts in_range all (rule.RangeRead i k) = tt
rule-true v sorts facts in_range all (rule.Same i j) = same-true v facts i j all
rule-true v sorts facts in_range all (rule.Read i k) = tt
rule-true v sorts facts in_range all (rule.Inst i t) = tt
rule-true v sorts facts in_range all (rule.Truth i k) = on_plain-true v facts i (split_truth k) all (split_truth-true v k)
rule-true v sorts facts in_range all (rule.Divide i k) = on_plain-true v facts i (divide k) all (λ f h. divide-true v k f)

-- ---- where all children fail, so does the branch

are-facts : (v : Interpretation) (forms : List FormTree) → AreTrue v forms → All (FactAt v) (map fact.Plain forms)
are-facts v [] h = All-nil (FactAt v)
are-facts v (f ∷ fs) h = All-cons (FactAt v) (fact.Plain f) (map fact.Plain fs) h.0 (are-facts v fs h.1)

one-holds : (v : Interpretation) (facts : List Fact) (made : List (List FormTree)) → All (FactAt v) facts → OneIsTrue v made
    → All (λ added. Fails v (facts ++ added)) (map (map fact.Plain) made) → ⊥
one-holds v facts [] all h fail = h
one-holds v facts (forms ∷ rest) all (inl here) fail = All-head (λ added. Fails v (facts ++ added)) (map fact.Plain forms) (map (map fact.Plain) rest) fail
    (All-append (FactAt v) facts (map fact.Plain forms) all (are-facts v forms here))
one-holds v facts (forms ∷ rest) all (inr later) fail = one-holds v facts rest all later (All-tail (λ added. Fails v (facts ++ added)) (map fact.Plain forms) (map (map fact.Plain) rest) fail)

-- A branch fails where all its children do.
pub rule-sound : (v : Interpretation) (sorts : List (Sym × Sort)) (facts : List Fact) (r : Rule) (made : List (List Fact)) → InRange v sorts → children sorts facts r ≡ Some made
    → All (λ added. Fails v (facts ++ added)) made → Fails v facts
rule-sound v sorts facts r made in_range e fail all = go (forms_of sorts facts r) (rule-true v sorts facts in_range all r) e
  where
    go : (o : Children) → HasTrueChild v o → option_map (map (map fact.Plain)) o ≡ Some made → ⊥
    go None h e = absurd cc
    go (Some forms) h e = one-holds v facts forms all h (subst (All (λ added. Fails v (facts ++ added))) (sym (same_Some (map (map fact.Plain) forms) made e)) fail)
