-- The worth of a term and the truth of a formula depend on the free names alone.
use Rattle.std.proofs.Common.{◌≡◌, ℤ, Bool, true, false, not, ◌&&◌, ◌||◌, ◌+ℤ◌, ◌-ℤ◌, ◌*ℤ◌, ◌≤ℤ◌, ◌<ℤ◌, int_le, if◌then◌else◌, IsTrue, refl, sym, ap, ap₂, ◌∙◌, subst, List, [], ◌∷◌, ◌++◌, filter, cond, All}
use Rattle.std.specs.Ordering.{int_eq}
use Rattle.std.proofs.lemmas.List.Elements.{All-nil, All-cons, All-head, All-tail}
use Rattle.terms.specs.declared.sym.Sym.{Sym}
use Rattle.terms.specs.declared.fact.Fact.{Fact}
use Rattle.terms.specs.declared.fact.Fact.TheVariants as fact
use Rattle.terms.specs.Symbols.{same_sym}
use Rattle.terms.specs.Trees.{TermTree, number, name, plus, minus, times, divided, remainder, read, truth, ArrayTree, array, stored, FormTree, always, never, at_most, equal, denied, both, either}
use Rattle.terms.specs.Names.{Occurrence, as_number, as_array, term_names, array_names, form_names, fact_names, is_number}
use Rattle.terms.specs.Truth.{Interpretation, with_value, quotient_of, remainder_of, number_of, term_at, array_at, form_at, FactAt, AgreesAt}
use Rattle.terms.proofs.Choices.{by_bool, All-left, All-right}

module _ (v w : Interpretation) where
  mutual
    pub term_at-agree : (t : TermTree) → All (AgreesAt v w) (term_names t) → term_at v t ≡ term_at w t
    term_at-agree (number z) h = refl
    term_at-agree (name x) h = All-head (AgreesAt v w) (as_number x) [] h
    term_at-agree (plus t u) h = ap₂ (λ x y. x +ℤ y) (term_at-agree t (All-left (AgreesAt v w) (term_names t) (term_names u) h)) (term_at-agree u (All-right (AgreesAt v w) (term_names t) (term_names u) h))
    term_at-agree (minus t u) h = ap₂ (λ x y. x -ℤ y) (term_at-agree t (All-left (AgreesAt v w) (term_names t) (term_names u) h)) (term_at-agree u (All-right (AgreesAt v w) (term_names t) (term_names u) h))
    term_at-agree (times t u) h = ap₂ (λ x y. x *ℤ y) (term_at-agree t (All-left (AgreesAt v w) (term_names t) (term_names u) h)) (term_at-agree u (All-right (AgreesAt v w) (term_names t) (term_names u) h))
    term_at-agree (divided t u) h = ap₂ quotient_of (term_at-agree t (All-left (AgreesAt v w) (term_names t) (term_names u) h)) (term_at-agree u (All-right (AgreesAt v w) (term_names t) (term_names u) h))
    term_at-agree (remainder t u) h = ap₂ remainder_of (term_at-agree t (All-left (AgreesAt v w) (term_names t) (term_names u) h)) (term_at-agree u (All-right (AgreesAt v w) (term_names t) (term_names u) h))
    term_at-agree (read a i) h =
        array_at-agree a (term_at v i) (All-left (AgreesAt v w) (array_names a) (term_names i) h)
        ∙ ap (array_at w a) (term_at-agree i (All-right (AgreesAt v w) (array_names a) (term_names i) h))
    term_at-agree (truth f) h = ap number_of (form_at-agree f h)

    pub array_at-agree : (a : ArrayTree) (k : ℤ) → All (AgreesAt v w) (array_names a) → array_at v a k ≡ array_at w a k
    array_at-agree (array x) k h = All-head (AgreesAt v w) (as_array x) [] h k
    array_at-agree (stored a i t) k h =
        let parts : All (AgreesAt v w) (term_names i ++ term_names t) = All-right (AgreesAt v w) (array_names a) (term_names i ++ term_names t) h in
        λ j. if int_eq (term_at-agree i (All-left (AgreesAt v w) (term_names i) (term_names t) parts) j) k
        then term_at-agree t (All-right (AgreesAt v w) (term_names i) (term_names t) parts) j
        else array_at-agree a k (All-left (AgreesAt v w) (array_names a) (term_names i ++ term_names t) h) j

    pub form_at-agree : (f : FormTree) → All (AgreesAt v w) (form_names f) → form_at v f ≡ form_at w f
    form_at-agree always h = refl
    form_at-agree never h = refl
    form_at-agree (at_most t u) h = ap₂ int_le (term_at-agree t (All-left (AgreesAt v w) (term_names t) (term_names u) h)) (term_at-agree u (All-right (AgreesAt v w) (term_names t) (term_names u) h))
    form_at-agree (equal t u) h = ap₂ int_eq (term_at-agree t (All-left (AgreesAt v w) (term_names t) (term_names u) h)) (term_at-agree u (All-right (AgreesAt v w) (term_names t) (term_names u) h))
    form_at-agree (denied f) h = ap not (form_at-agree f h)
    form_at-agree (both f g) h = ap₂ (λ x y. x && y) (form_at-agree f (All-left (AgreesAt v w) (form_names f) (form_names g) h)) (form_at-agree g (All-right (AgreesAt v w) (form_names f) (form_names g) h))
    form_at-agree (either f g) h = ap₂ (λ x y. x || y) (form_at-agree f (All-left (AgreesAt v w) (form_names f) (form_names g) h)) (form_at-agree g (All-right (AgreesAt v w) (form_names f) (form_names g) h))

-- ---- under a bound number

-- a name other than x stands for the same where x is given a number
pub AgreesAt-with_value : (v : Interpretation) (x : Sym) (n : ℤ) (o : Occurrence) → is_number x o ≡ false → AgreesAt (with_value v x n) v o
AgreesAt-with_value v x n (as_number y) e = ap (λ b. if b then n else v.value y) e
AgreesAt-with_value v x n (as_array y) e = λ k. refl

given_both : (b : Bool) (n a c : ℤ) → (b ≡ false → a ≡ c) → (if b then n else a) ≡ (if b then n else c)
given_both true n a c h = refl
given_both false n a c h = h refl

pub AgreesAt-both : (v w : Interpretation) (x : Sym) (n : ℤ) (o : Occurrence) → (is_number x o ≡ false → AgreesAt v w o) → AgreesAt (with_value v x n) (with_value w x n) o
AgreesAt-both v w x n (as_number y) h = given_both (same_sym x y) n (v.value y) (w.value y) h
AgreesAt-both v w x n (as_array y) h = h refl

-- what holds wherever a test passes, where P holds of those that fail it
pub All-but : {X : Type 0} (test : X → Bool) (P Q : X → Type 0) → ((x : X) → (test x ≡ false → P x) → Q x)
    → (xs : List X) → All P (filter (λ x. not (test x)) xs) → All Q xs
All-but test P Q go [] h = All-nil Q
All-but test P Q go (x ∷ xs) h = All-cons Q x xs
    (go x (λ e. All-head P x (filter (λ y. not (test y)) xs) (subst (λ b. All P (cond (not b) (x ∷ filter (λ y. not (test y)) xs) (filter (λ y. not (test y)) xs))) e h)))
    (All-but test P Q go xs (by_bool (test x)
    (λ e. subst (λ b. All P (cond (not b) (x ∷ filter (λ y. not (test y)) xs) (filter (λ y. not (test y)) xs))) e h)
    (λ e. All-tail P x (filter (λ y. not (test y)) xs) (subst (λ b. All P (cond (not b) (x ∷ filter (λ y. not (test y)) xs) (filter (λ y. not (test y)) xs))) e h))))

-- where two interpretations agree on the free names of a fact, it is true at both or at neither
pub FactAt-agree : (v w : Interpretation) (f : Fact) → All (AgreesAt v w) (fact_names f) → FactAt v f → FactAt w f
FactAt-agree v w (fact.Plain f) h true_at_v = subst IsTrue (form_at-agree v w f h) true_at_v
FactAt-agree v w (fact.All x lo hi f) h true_at_v = λ n from to.
    let rest : All (AgreesAt v w) (term_names hi ++ filter (λ o. not (is_number x o)) (form_names f)) =
    All-right (AgreesAt v w) (term_names lo) (term_names hi ++ filter (λ o. not (is_number x o)) (form_names f)) h in
    let in_body : All (AgreesAt (with_value v x n) (with_value w x n)) (form_names f) =
    All-but (is_number x) (AgreesAt v w) (AgreesAt (with_value v x n) (with_value w x n)) (AgreesAt-both v w x n) (form_names f)
    (All-right (AgreesAt v w) (term_names hi) (filter (λ o. not (is_number x o)) (form_names f)) rest) in
    subst IsTrue (form_at-agree (with_value v x n) (with_value w x n) f in_body)
    (true_at_v n
    (subst (λ z. z ≤ℤ n) (sym (term_at-agree v w lo (All-left (AgreesAt v w) (term_names lo) (term_names hi ++ filter (λ o. not (is_number x o)) (form_names f)) h))) from)
    (subst (λ z. n <ℤ z) (sym (term_at-agree v w hi (All-left (AgreesAt v w) (term_names hi) (filter (λ o. not (is_number x o)) (form_names f)) rest))) to))

-- agreement has no direction
pub AgreesAt-back : (v w : Interpretation) (o : Occurrence) → AgreesAt v w o → AgreesAt w v o
AgreesAt-back v w (as_number x) h = sym h
AgreesAt-back v w (as_array x) h = λ k. sym (h k)
