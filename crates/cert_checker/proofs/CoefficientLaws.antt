-- What multiples are worth is what their coefficients are worth.
use Rattle.std.proofs.Common.{◌≡◌, ◌∙◌, ℤ, pos, ◌+ℤ◌, ◌*ℤ◌, Bool, true, false, not, ◌||◌, cond, if◌then◌else◌, List, [], ◌∷◌, map, filter, ap, ap₂, sym, subst, refl, arith}
use Rattle.std.specs.List.{list_any}
use Rattle.std.proofs.lemmas.Int.{ints}
use Rattle.std.proofs.Math.IntN.{zero-*ℤ}
use Rattle.linear_rows.proofs.Ring.{dist}
use Rattle.terms.specs.Trees.{TermTree}
use Rattle.terms.specs.Truth.{Interpretation, term_at}
use Rattle.cert_checker.proofs.Choices.{by_bool}
use Rattle.terms.specs.Equality.{same_term}
use Rattle.cert_checker.specs.Linear.{Multiple, atoms, coefficient, coefficients}
use Rattle.cert_checker.specs.Worth.{weighed, worth}
use Rattle.terms.specs.Code.EqualityLaws.{same_term-equal, same_term-refl}

-- the terms with their coefficients in a list
abbrev with_coefficients : List TermTree → List Multiple → List Multiple
with_coefficients ts ms = map (λ t. (t, coefficient t ms)) ts

-- what a multiple adds to the coefficient of a term
abbrev given : TermTree → Multiple → ℤ
given t m = if same_term t m.0 then m.1 else pos 0

-- what a multiple adds to the worth of terms with their coefficients
abbrev share : (TermTree → ℤ) → Multiple → List TermTree → ℤ
share f m [] = pos 0
share f m (t ∷ ts) = given t m *ℤ f t +ℤ share f m ts

by_fours : (p q r s : ℤ) → (p +ℤ q) +ℤ (r +ℤ s) ≡ (p +ℤ r) +ℤ (q +ℤ s)
by_fours p q r s = omega (arith, ints)

zero-sum : (b : ℤ) → pos 0 +ℤ b ≡ b
zero-sum b = omega (arith, ints)

sum-zero : (a b : ℤ) → b ≡ pos 0 → a +ℤ b ≡ a
sum-zero a b e = omega (arith, ints)

sum-of-zeros : (a b : ℤ) → a ≡ pos 0 → b ≡ pos 0 → a +ℤ b ≡ pos 0
sum-of-zeros a b e h = omega (arith, ints)

zero-first : (a b : ℤ) → a ≡ pos 0 → a +ℤ b ≡ b
zero-first a b e = omega (arith, ints)

weighed-none : (f : TermTree → ℤ) (ts : List TermTree) → weighed f (with_coefficients ts []) ≡ pos 0
weighed-none f [] = refl
weighed-none f (t ∷ ts) = sum-of-zeros (pos 0 *ℤ f t) (weighed f (with_coefficients ts [])) (zero-*ℤ (f t)) (weighed-none f ts)

weighed-more : (f : TermTree → ℤ) (ts : List TermTree) (m : Multiple) (ms : List Multiple)
    → weighed f (with_coefficients ts (m ∷ ms)) ≡ share f m ts +ℤ weighed f (with_coefficients ts ms)
weighed-more f [] m ms = refl
weighed-more f (t ∷ ts) m ms = ap₂ (λ y z. y +ℤ z) (dist (given t m) (coefficient t ms) (f t)) (weighed-more f ts m ms)
    ∙ by_fours (given t m *ℤ f t) (coefficient t ms *ℤ f t) (share f m ts) (weighed f (with_coefficients ts ms))

same_term-swap : (t u : TermTree) → same_term t u ≡ false → same_term u t ≡ false
same_term-swap t u e = by_bool (same_term u t)
    (λ h. absurd (let other : true ≡ false = sym (same_term-refl t) ∙ ap (same_term t) (sym (same_term-equal u t h)) ∙ e in cc))
    (λ h. h)

given-other : (t : TermTree) (m : Multiple) → same_term t m.0 ≡ false → given t m ≡ pos 0
given-other t m e = ap (λ b. if b then m.1 else pos 0) e

given-same : (t : TermTree) (m : Multiple) → same_term t m.0 ≡ true → given t m ≡ m.1
given-same t m e = ap (λ b. if b then m.1 else pos 0) e

none : (f : TermTree → ℤ) (t : TermTree) (m : Multiple) → same_term t m.0 ≡ false → given t m *ℤ f t ≡ pos 0
none f t m e = ap (λ z. z *ℤ f t) (given-other t m e) ∙ zero-*ℤ (f t)

-- where the term itself is left out
share-without : (f : TermTree → ℤ) (m : Multiple) (ts : List TermTree) → share f m (filter (λ t. not (same_term m.0 t)) ts) ≡ pos 0
share-without f m [] = refl
share-without f m (t ∷ ts) = by_bool (same_term m.0 t)
    (λ e. ap (λ b. share f m (cond (not b) (t ∷ filter (λ t. not (same_term m.0 t)) ts) (filter (λ t. not (same_term m.0 t)) ts))) e ∙ share-without f m ts)
    (λ e. ap (λ b. share f m (cond (not b) (t ∷ filter (λ t. not (same_term m.0 t)) ts) (filter (λ t. not (same_term m.0 t)) ts))) e
    ∙ sum-of-zeros (given t m *ℤ f t) (share f m (filter (λ t. not (same_term m.0 t)) ts)) (none f t m (same_term-swap m.0 t e)) (share-without f m ts))

-- where another term is left out
share-without-other : (f : TermTree → ℤ) (m : Multiple) (u : TermTree) → same_term u m.0 ≡ false → (ts : List TermTree)
    → share f m (filter (λ t. not (same_term u t)) ts) ≡ share f m ts
share-without-other f m u other [] = refl
share-without-other f m u other (t ∷ ts) = by_bool (same_term u t)
    (λ e. ap (λ b. share f m (cond (not b) (t ∷ filter (λ t. not (same_term u t)) ts) (filter (λ t. not (same_term u t)) ts))) e ∙ share-without-other f m u other ts
    ∙ sym (zero-first (given t m *ℤ f t) (share f m ts) (none f t m (ap (λ w. same_term w m.0) (sym (same_term-equal u t e)) ∙ other))))
    (λ e. ap (λ b. share f m (cond (not b) (t ∷ filter (λ t. not (same_term u t)) ts) (filter (λ t. not (same_term u t)) ts))) e
    ∙ ap (λ z. given t m *ℤ f t +ℤ z) (share-without-other f m u other ts))

abbrev is_among : Multiple → List Multiple → Bool
is_among m ms = list_any (λ p. same_term p.0 m.0) ms

or-other : (a b : Bool) → (a || b) ≡ true → a ≡ false → b ≡ true
or-other true b h e = absurd cc
or-other false b h e = h

share-whole : (f : TermTree → ℤ) (m : Multiple) (ms : List Multiple) → is_among m ms ≡ true → share f m (atoms ms) ≡ m.1 *ℤ f m.0
share-whole f m [] h = absurd cc
share-whole f m (p ∷ ps) h = by_bool (same_term p.0 m.0)
    (λ e. let same : p.0 ≡ m.0 = same_term-equal p.0 m.0 e in
    sum-zero (given p.0 m *ℤ f p.0) (share f m (filter (λ t. not (same_term p.0 t)) (atoms ps)))
    (subst (λ u. share f m (filter (λ t. not (same_term u t)) (atoms ps)) ≡ pos 0) (sym same) (share-without f m (atoms ps)))
    ∙ ap₂ (λ y u. y *ℤ f u) (given-same p.0 m e) same)
    (λ e. zero-first (given p.0 m *ℤ f p.0) (share f m (filter (λ t. not (same_term p.0 t)) (atoms ps))) (none f p.0 m e)
    ∙ share-without-other f m p.0 e (atoms ps) ∙ share-whole f m ps (or-other (same_term p.0 m.0) (is_among m ps) h e))

abbrev AreAmong : List Multiple → List Multiple → Type 0
AreAmong all [] = Unit {0}
AreAmong all (m ∷ ms) = (is_among m all ≡ true) × AreAmong all ms

or-true : (a b : Bool) → b ≡ true → (a || b) ≡ true
or-true true b h = refl
or-true false b h = h

or-first : (a b : Bool) → a ≡ true → (a || b) ≡ true
or-first true b h = refl
or-first false b h = absurd cc

AreAmong-more : (p : Multiple) (all ms : List Multiple) → AreAmong all ms → AreAmong (p ∷ all) ms
AreAmong-more p all [] h = tt
AreAmong-more p all (m ∷ ms) h = (or-true (same_term p.0 m.0) (is_among m all) h.0, AreAmong-more p all ms h.1)

AreAmong-itself : (ms : List Multiple) → AreAmong ms ms
AreAmong-itself [] = tt
AreAmong-itself (m ∷ ms) = (or-first (same_term m.0 m.0) (is_among m ms) (same_term-refl m.0), AreAmong-more m ms ms (AreAmong-itself ms))

weighed-among : (f : TermTree → ℤ) (all ms : List Multiple) → AreAmong all ms → weighed f (with_coefficients (atoms all) ms) ≡ weighed f ms
weighed-among f all [] h = weighed-none f (atoms all)
weighed-among f all (m ∷ ms) h = weighed-more f (atoms all) m ms ∙ ap₂ (λ y z. y +ℤ z) (share-whole f m all h.0) (weighed-among f all ms h.1)

pub weighed-coefficients : (f : TermTree → ℤ) (ms : List Multiple) → weighed f (coefficients ms) ≡ weighed f ms
weighed-coefficients f ms = weighed-among f ms ms (AreAmong-itself ms)

pub worth-coefficients : (v : Interpretation) (ms : List Multiple) → worth v (coefficients ms) ≡ worth v ms
worth-coefficients v = weighed-coefficients (term_at v)
