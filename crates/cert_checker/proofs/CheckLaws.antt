-- A sequent whose certificate checks is valid, and rules that check for the children of a rule check behind it.
use Rattle.std.proofs.Common.{◌≡◌, ◌∙◌, ℤ, pos, ◌+ℤ◌, ◌≤ℤ◌, ◌<ℤ◌, int_le, Bool, true, false, not, ◌||◌, if◌then◌else◌, IsTrue, List, [], ◌∷◌, ◌++◌, map, filter, Option, Some, None, ap, sym, subst, refl, arith, All, append_assoc}
use Rattle.std.specs.List.{list_any, AllZip}
use Rattle.std.proofs.lemmas.Int.{ints}
use Rattle.std.proofs.lemmas.List.Elements.{All-nil, All-cons, All-head, All-tail, All-append, All-filter, All-weaker}
use Rattle.std.proofs.lemmas.List.{append-nil}
use Rattle.c_lang.specs.Values.{fits_int}
use Rattle.terms.specs.declared.fact.Fact.{Fact}
use Rattle.terms.specs.declared.fact.Fact.TheVariants as fact
use Rattle.terms.specs.declared.sequent.Sequent.{Sequent}
use Rattle.terms.specs.declared.sequent.Sort.{Sort}
use Rattle.terms.specs.declared.sequent.Sort.TheVariants as sort
use Rattle.terms.specs.declared.sym.Sym.{Sym}
use Rattle.terms.specs.Symbols.{same_sym}
use Rattle.terms.specs.Names.{Occurrence, as_number, as_array, symbol, is_number, term_names, form_names, occurs_among, occurs_in_fact, occurs_in_sequent}
use Rattle.terms.specs.Trees.{TermTree, name, plus, FormTree, at_most, denied}
use Rattle.terms.specs.Truth.{Interpretation, with_value, term_at, form_at, FactAt, AgreesAt}
use Rattle.terms.specs.Replacing.{number_by, replaced_form}
use Rattle.terms.specs.Validity.{HasSort, InRange, Valid}
use Rattle.terms.specs.Code.SymbolLaws.{same_sym-refl}
use Rattle.cert_form.specs.declared.cert.Rule.{Rule}
use Rattle.cert_form.specs.declared.cert.Cert.{Cert}
use Rattle.cert_checker.specs.Rules.{one, children}
use Rattle.cert_checker.specs.Fails.{Fails}
use Rattle.cert_checker.specs.Checks.{fresh, denied_fact, opening, goes_on, checks, one_after_another, has_fresh_name, Checks}
use Rattle.cert_checker.proofs.Choices.{by_bool, and_left, and_right, or_left, or_right, All-left, All-right, All-none}
use Rattle.terms.proofs.NameLaws.{form_at-agree, term_at-agree, FactAt-agree, AgreesAt-both}
use Rattle.terms.proofs.ReplacingLaws.{form_at-number_by}
use Rattle.cert_checker.proofs.RuleLaws.{rule-sound}

-- ---- where the rules check, every branch fails

unmapped : {X Y : Type 0} (P : Y → Type 0) (f : X → Y) (xs : List X) → All P (map f xs) → All (λ x. P (f x)) xs
unmapped P f [] all = All-nil (λ x. P (f x))
unmapped P f (x ∷ xs) all = All-cons (λ x. P (f x)) x xs (All-head P (f x) (map f xs) all) (unmapped P f xs (All-tail P (f x) (map f xs) all))

one-rule : (v : Interpretation) (sorts : List (Sym × Sort)) (r : Rule) (facts : List Fact) (waiting : List (List Fact)) (rest : List (List Fact) → Bool) → InRange v sorts
    → ((branches : List (List Fact)) → rest branches ≡ true → All (Fails v) branches) → goes_on rest facts waiting (children sorts facts r) ≡ true → All (Fails v) (facts ∷ waiting)
one-rule v sorts r facts waiting rest in_range later h = go (children sorts facts r) refl h
  where
    go : (o : Option (List (List Fact))) → children sorts facts r ≡ o → goes_on rest facts waiting o ≡ true → All (Fails v) (facts ∷ waiting)
    go None is h = absurd cc
    go (Some made) is h =
        let all = later (map (λ forms. facts ++ forms) made ++ waiting) h in
        All-cons (Fails v) facts waiting
        (rule-sound v sorts facts r made in_range is (unmapped (Fails v) (λ forms. facts ++ forms) made (All-left (Fails v) (map (λ forms. facts ++ forms) made) waiting all)))
        (All-right (Fails v) (map (λ forms. facts ++ forms) made) waiting all)

pub checked-fail : (v : Interpretation) (sorts : List (Sym × Sort)) → InRange v sorts → (rules : List Rule) (branches : List (List Fact)) → checks sorts rules branches ≡ true
    → All (Fails v) branches
checked-fail v sorts in_range [] [] h = All-nil (Fails v)
checked-fail v sorts in_range [] (b ∷ bs) h = absurd cc
checked-fail v sorts in_range (r ∷ rs) [] h = absurd cc
checked-fail v sorts in_range (r ∷ rs) (b ∷ bs) h = one-rule v sorts r b bs (checks sorts rs) in_range (checked-fail v sorts in_range rs) h

opening-fails : (v : Interpretation) (s : Sequent) (cert : Cert) → InRange v s.sorts → Checks s cert → Fails v (opening s)
opening-fails v s cert in_range h = All-head (Fails v) (opening s) [] (checked-fail v s.sorts in_range cert.rules (opening s ∷ [])
    (and_right (has_fresh_name s s.goal) (checks s.sorts cert.rules (opening s ∷ [])) h.is_checked))

-- ---- the name that is new

other-value : (v : Interpretation) (x y : Sym) (n : ℤ) → same_sym x y ≡ false → (with_value v x n).value y ≡ v.value y
other-value v x y n e = ap (λ b. if b then n else v.value y) e

own-value : (v : Interpretation) (x : Sym) (n : ℤ) → (with_value v x n).value x ≡ n
own-value v x n = ap (λ b. if b then n else v.value x) (same_sym-refl x)

sort-stays : (v : Interpretation) (x : Sym) (n : ℤ) (y : Sym) (s : Sort) → same_sym x y ≡ false → HasSort v y s → HasSort (with_value v x n) y s
sort-stays v x n y sort.Whole e h = subst (λ z. IsTrue (fits_int z)) (sym (other-value v x y n e)) h
sort-stays v x n y (sort.Code m) e h = subst (λ z. (pos 0 ≤ℤ z) × (z ≤ℤ pos m)) (sym (other-value v x y n e)) h
sort-stays v x n y (sort.Row m) e h = h

range-stays : (v : Interpretation) (x : Sym) (n : ℤ) (sorts : List (Sym × Sort)) → list_any (λ entry. same_sym x entry.0) sorts ≡ false → InRange v sorts
    → InRange (with_value v x n) sorts
range-stays v x n [] none h = All-nil (λ entry. HasSort (with_value v x n) entry.0 entry.1)
range-stays v x n (entry ∷ rest) none h = All-cons (λ entry. HasSort (with_value v x n) entry.0 entry.1) entry rest
    (sort-stays v x n entry.0 entry.1 (or_left (same_sym x entry.0) (list_any (λ entry. same_sym x entry.0) rest) none) (All-head (λ entry. HasSort v entry.0 entry.1) entry rest h))
    (range-stays v x n rest (or_right (same_sym x entry.0) (list_any (λ entry. same_sym x entry.0) rest) none) (All-tail (λ entry. HasSort v entry.0 entry.1) entry rest h))

agrees : (v : Interpretation) (x : Sym) (n : ℤ) (o : Occurrence) → same_sym x (symbol o) ≡ false → AgreesAt v (with_value v x n) o
agrees v x n (as_number y) e = sym (other-value v x y n e)
agrees v x n (as_array y) e = λ k. refl

names-agree : (v : Interpretation) (x : Sym) (n : ℤ) (names : List Occurrence) → occurs_among x names ≡ false → All (AgreesAt v (with_value v x n)) names
names-agree v x n names none = All-none (λ o. same_sym x (symbol o)) (AgreesAt v (with_value v x n)) (agrees v x n) names none

-- the names of a fact with a bound name, apart
record PartsAgree (v w : Interpretation) (lo hi : TermTree) (f : FormTree) : Type 0 where
  low : All (AgreesAt v w) (term_names lo)
  high : All (AgreesAt v w) (term_names hi)
  body : All (AgreesAt v w) (form_names f)

parts-agree : (v : Interpretation) (x : Sym) (n : ℤ) (y : Sym) (lo hi : TermTree) (f : FormTree) → occurs_in_fact x (fact.All y lo hi f) ≡ false → PartsAgree v (with_value v x n) lo hi f
parts-agree v x n y lo hi f none =
    let bounds = or_right (same_sym x y) (occurs_among x (term_names lo) || (occurs_among x (term_names hi) || occurs_among x (form_names f))) none in
    let rest = or_right (occurs_among x (term_names lo)) (occurs_among x (term_names hi) || occurs_among x (form_names f)) bounds in record {
      low = names-agree v x n (term_names lo) (or_left (occurs_among x (term_names lo)) (occurs_among x (term_names hi) || occurs_among x (form_names f)) bounds);
      high = names-agree v x n (term_names hi) (or_left (occurs_among x (term_names hi)) (occurs_among x (form_names f)) rest);
      body = names-agree v x n (form_names f) (or_right (occurs_among x (term_names hi)) (occurs_among x (form_names f)) rest);
    }

fact-stays : (v : Interpretation) (x : Sym) (n : ℤ) (f : Fact) → occurs_in_fact x f ≡ false → FactAt v f → FactAt (with_value v x n) f
fact-stays v x n (fact.Plain f) none h = FactAt-agree v (with_value v x n) (fact.Plain f) (names-agree v x n (form_names f) none) h
fact-stays v x n (fact.All y lo hi f) none h =
    let P = AgreesAt v (with_value v x n) in
    let parts = parts-agree v x n y lo hi f none in
    let free : List Occurrence = filter (λ o. not (is_number y o)) (form_names f) in
    FactAt-agree v (with_value v x n) (fact.All y lo hi f)
    (All-append P (term_names lo) (term_names hi ++ free) parts.low
    (All-append P (term_names hi) free parts.high (All-filter (λ o. not (is_number y o)) P (form_names f) parts.body))) h

facts-stay : (v : Interpretation) (x : Sym) (n : ℤ) (facts : List Fact) → list_any (occurs_in_fact x) facts ≡ false → All (FactAt v) facts → All (FactAt (with_value v x n)) facts
facts-stay v x n [] none h = All-nil (FactAt (with_value v x n))
facts-stay v x n (f ∷ fs) none h = All-cons (FactAt (with_value v x n)) f fs
    (fact-stays v x n f (or_left (occurs_in_fact x f) (list_any (occurs_in_fact x) fs) none) (All-head (FactAt v) f fs h))
    (facts-stay v x n fs (or_right (occurs_in_fact x f) (list_any (occurs_in_fact x) fs) none) (All-tail (FactAt v) f fs h))

-- ---- the denied goal

to_false : (b : Bool) → not b ≡ true → b ≡ false
to_false true h = sym h
to_false false h = refl

low-test : (a b n : ℤ) → a ≤ℤ n → b ≡ n → IsTrue (int_le a b)
low-test a b n h e = let le : a ≤ℤ b = omega (arith, ints) in grind (arith, ints, le)

high-test : (a b n : ℤ) → n <ℤ b → a ≡ n → IsTrue (int_le (a +ℤ pos 1) b)
high-test a b n h e = let le : (a +ℤ pos 1) ≤ℤ b = omega (arith, ints) in grind (arith, ints, le)

-- where the body is false at a number, the denied goal is true with the new name for it
denied-at : (v : Interpretation) (z x : Sym) (lo hi : TermTree) (f : FormTree) (n : ℤ) → occurs_in_fact z (fact.All x lo hi f) ≡ false
    → term_at v lo ≤ℤ n → n <ℤ term_at v hi → form_at (with_value v x n) f ≡ false
    → IsTrue (int_le (term_at (with_value v z n) lo) ((with_value v z n).value z)) × IsTrue (int_le ((with_value v z n).value z +ℤ pos 1) (term_at (with_value v z n) hi))
    × IsTrue (not (form_at (with_value v z n) (replaced_form (number_by x (name z)) f)))
denied-at v z x lo hi f n none from to is =
    let w : Interpretation = with_value v z n in
    let P = AgreesAt v w in
    let parts = parts-agree v z n x lo hi f none in
    let low : term_at w lo ≡ term_at v lo = sym (term_at-agree v w lo parts.low) in
    let high : term_at w hi ≡ term_at v hi = sym (term_at-agree v w hi parts.high) in
    let body : form_at w (replaced_form (number_by x (name z)) f) ≡ form_at (with_value v x n) f =
    form_at-number_by x (name z) w f ∙ ap (λ k. form_at (with_value w x k) f) (own-value v z n)
    ∙ sym (form_at-agree (with_value v x n) (with_value w x n) f
    (All-weaker P (AgreesAt (with_value v x n) (with_value w x n)) (λ o same. AgreesAt-both v w x n o (λ e. same)) (form_names f) parts.body)) in (
      low-test (term_at w lo) (w.value z) n (subst (λ a. a ≤ℤ n) (sym low) from) (own-value v z n),
      high-test (w.value z) (term_at w hi) n (subst (λ b. n <ℤ b) (sym high) to) (own-value v z n),
      ap not (body ∙ is),
    )

plain-goal : (v : Interpretation) (s : Sequent) (f : FormTree) → s.goal ≡ fact.Plain f → Fails v (opening s) → All (FactAt v) s.hyps → FactAt v (fact.Plain f)
plain-goal v s f is fail hyps = by_bool (form_at v f) (λ e. e)
    (λ e. absurd (fail (All-append (FactAt v) s.hyps (denied_fact s.goal) hyps (subst (λ g. All (FactAt v) (denied_fact g)) (sym is)
    (All-cons (FactAt v) (fact.Plain (denied f)) [] (ap not e) (All-nil (FactAt v)))))))

three : (P : Fact → Type 0) (f g h : Fact) → P f → P g → P h → All P (f ∷ g ∷ h ∷ [])
three P f g h p q r = All-cons P f (g ∷ h ∷ []) p (All-cons P g (h ∷ []) q (All-cons P h [] r (All-nil P)))

all-goal : (v : Interpretation) (s : Sequent) (x : Sym) (lo hi : TermTree) (f : FormTree) → s.goal ≡ fact.All x lo hi f → occurs_in_sequent fresh s ≡ false
    → InRange v s.sorts → ((w : Interpretation) → InRange w s.sorts → Fails w (opening s)) → All (FactAt v) s.hyps → FactAt v (fact.All x lo hi f)
all-goal v s x lo hi f is none in_range fail hyps = λ n from to. by_bool (form_at (with_value v x n) f) (λ e. e)
    (λ e. let w : Interpretation = with_value v fresh n in
    let inside = or_right (list_any (λ entry. same_sym fresh entry.0) s.sorts) (list_any (occurs_in_fact fresh) s.hyps || occurs_in_fact fresh s.goal) none in
    let goal = or_right (list_any (occurs_in_fact fresh) s.hyps) (occurs_in_fact fresh s.goal) inside in
    let parts = denied-at v fresh x lo hi f n (ap (occurs_in_fact fresh) (sym is) ∙ goal) from to e in
    absurd (fail w (range-stays v fresh n s.sorts (or_left (list_any (λ entry. same_sym fresh entry.0) s.sorts) (list_any (occurs_in_fact fresh) s.hyps || occurs_in_fact fresh s.goal) none) in_range)
    (All-append (FactAt w) s.hyps (denied_fact s.goal)
    (facts-stay v fresh n s.hyps (or_left (list_any (occurs_in_fact fresh) s.hyps) (occurs_in_fact fresh s.goal) inside) hyps)
    (subst (λ g. All (FactAt w) (denied_fact g)) (sym is)
    (three (FactAt w) (fact.Plain (at_most lo (name fresh))) (fact.Plain (at_most (plus (name fresh) one) hi)) (fact.Plain (denied (replaced_form (number_by x (name fresh)) f))) parts.0 parts.1 parts.2)))))

goal-follows : (s : Sequent) (cert : Cert) → Checks s cert → (v : Interpretation) → InRange v s.sorts → All (FactAt v) s.hyps → (goal : Fact) → s.goal ≡ goal → FactAt v goal
goal-follows s cert h v in_range hyps (fact.Plain f) is = plain-goal v s f is (opening-fails v s cert in_range h) hyps
goal-follows s cert h v in_range hyps (fact.All x lo hi f) is = all-goal v s x lo hi f is
    (to_false (occurs_in_sequent fresh s) (subst (λ g. has_fresh_name s g ≡ true) is (and_left (has_fresh_name s s.goal) (checks s.sorts cert.rules (opening s ∷ [])) h.is_checked)))
    in_range (λ w range. opening-fails w s cert range h) hyps

-- A sequent whose certificate checks is valid.
pub checked-valid : (s : Sequent) (cert : Cert) → Checks s cert → Valid s
checked-valid s cert h = record { follows = λ v in_range hyps. goal-follows s cert h v in_range hyps s.goal refl }

-- ---- rules one behind the other

checks-more : (sorts : List (Sym × Sort)) (more rs : List Rule) (facts : List Fact) (waiting others : List (List Fact))
    → ((branches : List (List Fact)) → checks sorts rs branches ≡ true → checks sorts (rs ++ more) (branches ++ others) ≡ true)
    → (o : Option (List (List Fact))) → goes_on (checks sorts rs) facts waiting o ≡ true → goes_on (checks sorts (rs ++ more)) facts (waiting ++ others) o ≡ true
checks-more sorts more rs facts waiting others later None h = absurd cc
checks-more sorts more rs facts waiting others later (Some made) h =
    subst (λ branches. checks sorts (rs ++ more) branches ≡ true) (append_assoc (map (λ forms. facts ++ forms) made) waiting others) (later (map (λ forms. facts ++ forms) made ++ waiting) h)

pub checks-append : (sorts : List (Sym × Sort)) (more : List Rule) (others : List (List Fact)) → checks sorts more others ≡ true
    → (rules : List Rule) (branches : List (List Fact)) → checks sorts rules branches ≡ true → checks sorts (rules ++ more) (branches ++ others) ≡ true
checks-append sorts more others k [] [] h = k
checks-append sorts more others k [] (b ∷ bs) h = absurd cc
checks-append sorts more others k (r ∷ rs) [] h = absurd cc
checks-append sorts more others k (r ∷ rs) (b ∷ bs) h = checks-more sorts more rs b bs others (checks-append sorts more others k rs) (children sorts b r) h

children-check : (sorts : List (Sym × Sort)) (facts : List Fact) (parts : List (List Rule)) (made : List (List Fact)) → AllZip (λ rules forms. checks sorts rules ((facts ++ forms) ∷ []) ≡ true) parts made
    → checks sorts (one_after_another parts) (map (λ forms. facts ++ forms) made) ≡ true
children-check sorts facts [] [] h = refl
children-check sorts facts [] (forms ∷ made) h = absurd h
children-check sorts facts (rules ∷ parts) [] h = absurd h
children-check sorts facts (rules ∷ parts) (forms ∷ made) h = checks-append sorts (one_after_another parts) (map (λ forms. facts ++ forms) made) (children-check sorts facts parts made h.1)
    rules ((facts ++ forms) ∷ []) h.0

-- A rule that applies, followed by rules that check for its children in order, checks.
pub followed-checks : (sorts : List (Sym × Sort)) (facts : List Fact) (r : Rule) (made : List (List Fact)) (parts : List (List Rule)) → children sorts facts r ≡ Some made
    → AllZip (λ rules forms. checks sorts rules ((facts ++ forms) ∷ []) ≡ true) parts made → checks sorts (r ∷ one_after_another parts) (facts ∷ []) ≡ true
followed-checks sorts facts r made parts is h = ap (goes_on (checks sorts (one_after_another parts)) facts []) is
    ∙ ap (checks sorts (one_after_another parts)) (append-nil (map (λ forms. facts ++ forms) made)) ∙ children-check sorts facts parts made h
