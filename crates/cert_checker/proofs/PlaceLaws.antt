-- A formula in which a term has another of the same worth in its place is worth the same.
use Rattle.std.proofs.Common.{◌≡◌, ◌∙◌, ℕ, zero, suc, ℤ, ◌+ℤ◌, ◌-ℤ◌, ◌*ℤ◌, Bool, not, ◌&&◌, ◌||◌, int_le, if◌then◌else◌, List, [], ◌∷◌, ◌++◌, Option, Some, None, filter_map, ap, ap₂, sym, subst, refl, All}
use Rattle.std.specs.Prelude.{slice_get}
use Rattle.std.specs.List.{cons_option}
use Rattle.std.specs.Ordering.{int_eq}
use Rattle.std.proofs.lemmas.List.Elements.{All-nil, All-cons, All-head, All-tail, All-append, All-map, All-weaker}
use Rattle.std.proofs.lemmas.Option.{same_Some}
use Rattle.terms.specs.Trees.{TermTree, number, name, plus, minus, times, divided, remainder, read, truth, ArrayTree, array, stored, FormTree, always, never, at_most, equal, denied, both, either}
use Rattle.terms.specs.Truth.{Interpretation, quotient_of, remainder_of, number_of, term_at, array_at, form_at}
use Rattle.cert_checker.proofs.Choices.{by_bool}
use Rattle.terms.specs.Equality.{same_term}
use Rattle.cert_checker.specs.Places.{Place, within, itself_and, places_in_term, places_in_array, places_in_form, truth_at, truths_in, exchanged_term, exchanged_array, exchanged_form, unless_same}
use Rattle.terms.specs.Code.EqualityLaws.{same_term-equal}

-- a term worth the same may stand at the place
abbrev KeepsWorth : {Whole V : Type 0} → Interpretation → (Whole → V) → Whole → Place Whole → Type 0
KeepsWorth v worth whole p = (t : TermTree) → term_at v t ≡ term_at v p.0 → worth (p.1 t) ≡ worth whole

within-keeps : {Part Whole V W : Type 0} (v : Interpretation) (at : Part → V) (at_whole : Whole → W) (whole : Part → Whole) (step : V → W)
    → ((x : Part) → at_whole (whole x) ≡ step (at x)) → (part : Part) (ps : List (Place Part)) → All (KeepsWorth v at part) ps
    → All (KeepsWorth v at_whole (whole part)) (within whole ps)
within-keeps v at at_whole whole step is part ps all = All-map (KeepsWorth v at_whole (whole part)) (λ p. (p.0, λ t. whole (p.1 t))) ps
    (All-weaker (KeepsWorth v at part) (λ p. KeepsWorth v at_whole (whole part) (p.0, λ t. whole (p.1 t)))
    (λ p keeps t e. is (p.1 t) ∙ ap step (keeps t e) ∙ sym (is part)) ps all)

itself-keeps : (v : Interpretation) (t : TermTree) (ps : List (Place TermTree)) → All (KeepsWorth v (term_at v) t) ps → All (KeepsWorth v (term_at v) t) (itself_and t ps)
itself-keeps v t ps all = All-cons (KeepsWorth v (term_at v) t) (t, λ w. w) ps (λ u e. e) all

abbrev TermKeeps : Interpretation → TermTree → List (Place TermTree) → Type 0
TermKeeps v t ps = All (KeepsWorth v (term_at v) t) ps

abbrev ArrayKeeps : Interpretation → ArrayTree → List (Place ArrayTree) → Type 0
ArrayKeeps v a ps = All (KeepsWorth v (array_at v) a) ps

abbrev FormKeeps : Interpretation → FormTree → List (Place FormTree) → Type 0
FormKeeps v f ps = All (KeepsWorth v (form_at v) f) ps

-- an operation on two terms
two-terms : {Whole W : Type 0} (v : Interpretation) (at : Whole → W) (whole : TermTree → TermTree → Whole) (op : ℤ → ℤ → W)
    → ((t u : TermTree) → at (whole t u) ≡ op (term_at v t) (term_at v u)) → (t u : TermTree) (ps qs : List (Place TermTree)) → TermKeeps v t ps → TermKeeps v u qs
    → All (KeepsWorth v at (whole t u)) (within (λ w. whole w u) ps ++ within (whole t) qs)
two-terms v at whole op is t u ps qs one two = All-append (KeepsWorth v at (whole t u)) (within (λ w. whole w u) ps) (within (whole t) qs)
    (within-keeps v (term_at v) at (λ w. whole w u) (λ z. op z (term_at v u)) (λ w. is w u) t ps one)
    (within-keeps v (term_at v) at (whole t) (op (term_at v t)) (is t) u qs two)

two-forms : (v : Interpretation) (whole : FormTree → FormTree → FormTree) (op : Bool → Bool → Bool)
    → ((f g : FormTree) → form_at v (whole f g) ≡ op (form_at v f) (form_at v g)) → (f g : FormTree) (ps qs : List (Place FormTree)) → FormKeeps v f ps → FormKeeps v g qs
    → FormKeeps v (whole f g) (within (λ h. whole h g) ps ++ within (whole f) qs)
two-forms v whole op is f g ps qs one two = All-append (KeepsWorth v (form_at v) (whole f g)) (within (λ h. whole h g) ps) (within (whole f) qs)
    (within-keeps v (form_at v) (form_at v) (λ h. whole h g) (λ b. op b (form_at v g)) (λ h. is h g) f ps one)
    (within-keeps v (form_at v) (form_at v) (whole f) (op (form_at v f)) (is f) g qs two)

-- a row with the number at an index
abbrev with_element : (ℤ → ℤ) → ℤ → ℤ → ℤ → ℤ
with_element row i z k = if int_eq i k then z else row k

mutual
  pub term-keeps : (v : Interpretation) (t : TermTree) → TermKeeps v t (places_in_term t)
  term-keeps v (number z) = itself-keeps v (number z) [] (All-nil (KeepsWorth v (term_at v) (number z)))
  term-keeps v (name x) = itself-keeps v (name x) [] (All-nil (KeepsWorth v (term_at v) (name x)))
  term-keeps v (plus t u) = itself-keeps v (plus t u) _ (two-terms v (term_at v) plus (λ y z. y +ℤ z) (λ t u. refl) t u (places_in_term t) (places_in_term u) (term-keeps v t) (term-keeps v u))
  term-keeps v (minus t u) = itself-keeps v (minus t u) _ (two-terms v (term_at v) minus (λ y z. y -ℤ z) (λ t u. refl) t u (places_in_term t) (places_in_term u) (term-keeps v t) (term-keeps v u))
  term-keeps v (times t u) = itself-keeps v (times t u) _ (two-terms v (term_at v) times (λ y z. y *ℤ z) (λ t u. refl) t u (places_in_term t) (places_in_term u) (term-keeps v t) (term-keeps v u))
  term-keeps v (divided t u) = itself-keeps v (divided t u) _ (two-terms v (term_at v) divided quotient_of (λ t u. refl) t u (places_in_term t) (places_in_term u) (term-keeps v t) (term-keeps v u))
  term-keeps v (remainder t u) = itself-keeps v (remainder t u) _ (two-terms v (term_at v) remainder remainder_of (λ t u. refl) t u (places_in_term t) (places_in_term u) (term-keeps v t) (term-keeps v u))
  term-keeps v (read a i) = itself-keeps v (read a i) _ (All-append (KeepsWorth v (term_at v) (read a i)) (within (λ b. read b i) (places_in_array a)) (within (read a) (places_in_term i))
      (within-keeps v (array_at v) (term_at v) (λ b. read b i) (λ row. row (term_at v i)) (λ b. refl) a (places_in_array a) (array-keeps v a))
      (within-keeps v (term_at v) (term_at v) (read a) (array_at v a) (λ t. refl) i (places_in_term i) (term-keeps v i)))
  term-keeps v (truth f) = itself-keeps v (truth f) _ (within-keeps v (form_at v) (term_at v) truth number_of (λ g. refl) f (places_in_form f) (form-keeps v f))

  pub array-keeps : (v : Interpretation) (a : ArrayTree) → ArrayKeeps v a (places_in_array a)
  array-keeps v (array x) = All-nil (KeepsWorth v (array_at v) (array x))
  array-keeps v (stored a i t) = All-append (KeepsWorth v (array_at v) (stored a i t)) (within (λ b. stored b i t) (places_in_array a))
      (within (λ w. stored a w t) (places_in_term i) ++ within (stored a i) (places_in_term t))
      (within-keeps v (array_at v) (array_at v) (λ b. stored b i t) (λ row. with_element row (term_at v i) (term_at v t)) (λ b. refl) a (places_in_array a) (array-keeps v a))
      (two-terms v (array_at v) (stored a) (with_element (array_at v a)) (λ w u. refl) i t (places_in_term i) (places_in_term t) (term-keeps v i) (term-keeps v t))

  pub form-keeps : (v : Interpretation) (f : FormTree) → FormKeeps v f (places_in_form f)
  form-keeps v always = All-nil (KeepsWorth v (form_at v) always)
  form-keeps v never = All-nil (KeepsWorth v (form_at v) never)
  form-keeps v (at_most t u) = two-terms v (form_at v) at_most int_le (λ t u. refl) t u (places_in_term t) (places_in_term u) (term-keeps v t) (term-keeps v u)
  form-keeps v (equal t u) = two-terms v (form_at v) equal int_eq (λ t u. refl) t u (places_in_term t) (places_in_term u) (term-keeps v t) (term-keeps v u)
  form-keeps v (denied f) = within-keeps v (form_at v) (form_at v) denied not (λ g. refl) f (places_in_form f) (form-keeps v f)
  form-keeps v (both f g) = two-forms v both (λ b c. b && c) (λ f g. refl) f g (places_in_form f) (places_in_form g) (form-keeps v f) (form-keeps v g)
  form-keeps v (either f g) = two-forms v either (λ b c. b || c) (λ f g. refl) f g (places_in_form f) (places_in_form g) (form-keeps v f) (form-keeps v g)

-- ---- what is gathered from a list

-- what holds of all that a list's elements give holds of the k-th
pub gathered : {X Y : Type 0} (Q : X → Type 0) (P : Y → Type 0) (give : X → Option Y) → ((x : X) (y : Y) → Q x → give x ≡ Some y → P y)
    → (xs : List X) → All Q xs → (k : ℕ) (y : Y) → slice_get (filter_map give xs) k ≡ Some y → P y
gathered Q P give says [] all k y e = absurd cc
gathered {Y = Y} Q P give says (x ∷ xs) all k y e = go (give x) refl (gathered Q P give says xs (All-tail Q x xs all)) k e
  where
    go : (o : Option Y) → give x ≡ o → ((k : ℕ) (y : Y) → slice_get (filter_map give xs) k ≡ Some y → P y)
        → (k : ℕ) → slice_get (cons_option o (filter_map give xs)) k ≡ Some y → P y
    go None is later k e = later k y e
    go (Some z) is later zero e = says x y (All-head Q x xs all) (is ∙ e)
    go (Some z) is later (suc k) e = later k y e

-- the form stays as true where its `truth` has a number that is worth it
abbrev pub KeepsTruth : Interpretation → FormTree → FormTree × (TermTree → FormTree) → Type 0
KeepsTruth v f place = (t : TermTree) → term_at v t ≡ number_of (form_at v place.0) → form_at v (place.1 t) ≡ form_at v f

truth-place : (v : Interpretation) (f : FormTree) (t : TermTree) (put : TermTree → FormTree) (q : FormTree × (TermTree → FormTree))
    → KeepsWorth v (form_at v) f (t, put) → truth_at (t, put) ≡ Some q → KeepsTruth v f q
truth-place v f (truth g) put q keeps e = subst (KeepsTruth v f) (same_Some (g, put) q e) (λ t h. keeps t h)
truth-place v f t put q keeps e = absurd cc

pub truth-keeps : (v : Interpretation) (f : FormTree) (k : ℕ) (q : FormTree × (TermTree → FormTree)) → slice_get (truths_in f) k ≡ Some q → KeepsTruth v f q
truth-keeps v f k q e = gathered (KeepsWorth v (form_at v) f) (KeepsTruth v f) truth_at (λ p q keeps is. truth-place v f p.0 p.1 q keeps is) (places_in_form f) (form-keeps v f) k q e

-- ---- every occurrence

unless-same : (v : Interpretation) (a b t other : TermTree) → term_at v a ≡ term_at v b → term_at v other ≡ term_at v t → term_at v (unless_same a b t other) ≡ term_at v t
unless-same v a b t other e h = by_bool (same_term a t)
    (λ is. ap (λ c. term_at v (if c then b else other)) is ∙ sym e ∙ ap (term_at v) (same_term-equal a t is))
    (λ isnt. ap (λ c. term_at v (if c then b else other)) isnt ∙ h)

mutual
  pub exchanged_term-at : (v : Interpretation) (a b : TermTree) → term_at v a ≡ term_at v b → (t : TermTree) → term_at v (exchanged_term a b t) ≡ term_at v t
  exchanged_term-at v a b e (number z) = unless-same v a b (number z) (number z) e refl
  exchanged_term-at v a b e (name x) = unless-same v a b (name x) (name x) e refl
  exchanged_term-at v a b e (plus t u) = unless-same v a b (plus t u) (plus (exchanged_term a b t) (exchanged_term a b u)) e (ap₂ (λ y z. y +ℤ z) (exchanged_term-at v a b e t) (exchanged_term-at v a b e u))
  exchanged_term-at v a b e (minus t u) = unless-same v a b (minus t u) (minus (exchanged_term a b t) (exchanged_term a b u)) e (ap₂ (λ y z. y -ℤ z) (exchanged_term-at v a b e t) (exchanged_term-at v a b e u))
  exchanged_term-at v a b e (times t u) = unless-same v a b (times t u) (times (exchanged_term a b t) (exchanged_term a b u)) e (ap₂ (λ y z. y *ℤ z) (exchanged_term-at v a b e t) (exchanged_term-at v a b e u))
  exchanged_term-at v a b e (divided t u) = unless-same v a b (divided t u) (divided (exchanged_term a b t) (exchanged_term a b u)) e (ap₂ quotient_of (exchanged_term-at v a b e t) (exchanged_term-at v a b e u))
  exchanged_term-at v a b e (remainder t u) = unless-same v a b (remainder t u) (remainder (exchanged_term a b t) (exchanged_term a b u)) e (ap₂ remainder_of (exchanged_term-at v a b e t) (exchanged_term-at v a b e u))
  exchanged_term-at v a b e (read r i) = unless-same v a b (read r i) (read (exchanged_array a b r) (exchanged_term a b i)) e
      (ap₂ (λ (row : ℤ → ℤ) k. row k) (exchanged_array-at v a b e r) (exchanged_term-at v a b e i))
  exchanged_term-at v a b e (truth f) = unless-same v a b (truth f) (truth (exchanged_form a b f)) e (ap number_of (exchanged_form-at v a b e f))

  pub exchanged_array-at : (v : Interpretation) (a b : TermTree) → term_at v a ≡ term_at v b → (r : ArrayTree) → array_at v (exchanged_array a b r) ≡ array_at v r
  exchanged_array-at v a b e (array x) = refl
  exchanged_array-at v a b e (stored r i t) = λ j k. if int_eq (exchanged_term-at v a b e i j) k then exchanged_term-at v a b e t j else exchanged_array-at v a b e r j k

  pub exchanged_form-at : (v : Interpretation) (a b : TermTree) → term_at v a ≡ term_at v b → (f : FormTree) → form_at v (exchanged_form a b f) ≡ form_at v f
  exchanged_form-at v a b e always = refl
  exchanged_form-at v a b e never = refl
  exchanged_form-at v a b e (at_most t u) = ap₂ int_le (exchanged_term-at v a b e t) (exchanged_term-at v a b e u)
  exchanged_form-at v a b e (equal t u) = ap₂ int_eq (exchanged_term-at v a b e t) (exchanged_term-at v a b e u)
  exchanged_form-at v a b e (denied f) = ap not (exchanged_form-at v a b e f)
  exchanged_form-at v a b e (both f g) = ap₂ (λ x y. x && y) (exchanged_form-at v a b e f) (exchanged_form-at v a b e g)
  exchanged_form-at v a b e (either f g) = ap₂ (λ x y. x || y) (exchanged_form-at v a b e f) (exchanged_form-at v a b e g)
