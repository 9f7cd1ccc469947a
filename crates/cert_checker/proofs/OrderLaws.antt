-- The parts of a row are the multiples with coefficients other than 0, in the order of their first places.
use Rattle.std.proofs.Common.{◌≡◌, ◌∙◌, ℕ, ◌+◌, ◌<◌, ◌≤◌, zero, suc, ℤ, Bool, true, false, not, ◌&&◌, ◌||◌, cond, if◌then◌else◌, nat_eq, nat_lt, List, [], ◌∷◌, ◌++◌, map, filter, length, get_or, ap, ap₂, sym, subst, refl, arith, inl, inr}
use Rattle.std.specs.List.{AllByRecursion, IsDistinct}
use Rattle.std.proofs.lemmas.List.{append-nil}
use Rattle.std.proofs.lemmas.List.Folds.{list_any-append}
use Rattle.linear_rows.specs.declared.row.Row.{Row}
use Rattle.linear_rows.specs.Numbers.{is_zero}
use Rattle.linear_rows.specs.Sums.{Part, From, coefficient}
use Rattle.linear_rows.proofs.FormLaws.{unit}
use Rattle.terms.specs.Equality.{same_term}
use Rattle.terms.specs.Code.EqualityLaws.{same_term-equal, same_term-refl}
use Rattle.terms.specs.Trees.{TermTree}
use Rattle.cert_checker.specs.Linear.{Multiple, atoms, coefficients}
use Rattle.cert_checker.specs.Linear.{coefficient as term_coefficient}
use Rattle.cert_checker.specs.Rows.{Line}
use Rattle.cert_checker.specs.Numbering.{atom_number, has_atom, with_atoms, at_point}
use Rattle.cert_checker.specs.Code.Combined.{sum_for, IsCombined}
use Rattle.cert_checker.specs.Code.Rounding.{zero_term, multiple_of}
use Rattle.cert_checker.proofs.Choices.{by_bool}
use Rattle.cert_checker.proofs.NumberingLaws.{number-first, number-later}
use Rattle.cert_checker.proofs.PlaceInAtoms.{number-below}
use Rattle.cert_checker.proofs.SizeLaws.{numbers-found, row-coefficient, coefficient-number, coefficient-first, coefficient-before}
use Rattle.cert_checker.proofs.DistinctLaws.{distinct-atoms}

-- ---- numbered atoms are the atoms in order

filter-same : (p q : TermTree → Bool) → ((t : TermTree) → p t ≡ q t) → (ts : List TermTree) → filter p ts ≡ filter q ts
filter-same p q same [] = refl
filter-same p q same (t ∷ ts) = ap₂ (λ b rest. cond b (t ∷ rest) rest) (same t) (filter-same p q same ts)

filter-twice : (p q : TermTree → Bool) (ts : List TermTree) → filter p (filter q ts) ≡ filter (λ t. q t && p t) ts
filter-twice p q [] = refl
filter-twice p q (t ∷ ts) = by_bool (q t)
    (λ e. ap (λ b. filter p (cond b (t ∷ filter q ts) (filter q ts))) e ∙ ap (λ rest. cond (p t) (t ∷ rest) rest) (filter-twice p q ts)
    ∙ sym (ap (λ b. cond (b && p t) (t ∷ filter (λ t. q t && p t) ts) (filter (λ t. q t && p t) ts)) e))
    (λ e. ap (λ b. filter p (cond b (t ∷ filter q ts) (filter q ts))) e ∙ filter-twice p q ts
    ∙ sym (ap (λ b. cond (b && p t) (t ∷ filter (λ t. q t && p t) ts) (filter (λ t. q t && p t) ts)) e))

filter-all : (ts : List TermTree) → filter (λ t. true) ts ≡ ts
filter-all [] = refl
filter-all (t ∷ ts) = ap (λ l. t ∷ l) (filter-all ts)

abbrev is_new : List TermTree → TermTree → Bool
is_new us t = not (has_atom us t)

-- a term that is there already is never new
known-other : (us : List TermTree) (u t : TermTree) → has_atom us u ≡ true → (not (same_term u t) && is_new us t) ≡ is_new us t
known-other us u t h = by_bool (same_term u t)
    (λ e. ap (λ b. not b && is_new us t) e ∙ sym (ap not (ap (has_atom us) (sym (same_term-equal u t e)) ∙ h)))
    (λ e. ap (λ b. not b && is_new us t) e)

or-false : (a : Bool) → (a || false) ≡ a
or-false true = refl
or-false false = refl

de-morgan : (a b : Bool) → (not b && not a) ≡ not (a || b)
de-morgan true true = refl
de-morgan true false = refl
de-morgan false b = and-true-right (not b)
  where
    and-true-right : (c : Bool) → (c && true) ≡ c
    and-true-right true = refl
    and-true-right false = refl

new-other : (us : List TermTree) (u t : TermTree) → (not (same_term u t) && is_new us t) ≡ is_new (us ++ (u ∷ [])) t
new-other us u t = de-morgan (has_atom us t) (same_term u t) ∙ ap not (sym (list_any-append (λ w. same_term w t) us (u ∷ []) ∙ ap (λ b. has_atom us t || b) (or-false (same_term u t))))

cons-append : (us rest : List TermTree) (u : TermTree) → (us ++ (u ∷ [])) ++ rest ≡ us ++ (u ∷ rest)
cons-append [] rest u = refl
cons-append (w ∷ ws) rest u = ap (λ l. w ∷ l) (cons-append ws rest u)

pub with_atoms-are : (us : List TermTree) (ms : List Multiple) → with_atoms us ms ≡ us ++ filter (is_new us) (atoms ms)
unfolding with_atoms
with_atoms-are us [] = sym (append-nil us)
with_atoms-are us (m ∷ ms) = go (has_atom us m.0) refl (with_atoms-are us ms) (with_atoms-are (us ++ (m.0 ∷ [])) ms)
  where
    go : (b : Bool) → has_atom us m.0 ≡ b → with_atoms us ms ≡ us ++ filter (is_new us) (atoms ms)
        → with_atoms (us ++ (m.0 ∷ [])) ms ≡ (us ++ (m.0 ∷ [])) ++ filter (is_new (us ++ (m.0 ∷ []))) (atoms ms)
        → with_atoms (if b then us else us ++ (m.0 ∷ [])) ms ≡ us ++ cond (not b) (m.0 ∷ filter (is_new us) (filter (λ t. not (same_term m.0 t)) (atoms ms))) (filter (is_new us) (filter (λ t. not (same_term m.0 t)) (atoms ms)))
    go true e one two = one ∙ ap (λ l. us ++ l) (sym (filter-twice (is_new us) (λ t. not (same_term m.0 t)) (atoms ms) ∙ filter-same (λ t. not (same_term m.0 t) && is_new us t) (is_new us) (λ t. known-other us m.0 t e) (atoms ms)))
    go false e one two = two ∙ cons-append us (filter (is_new (us ++ (m.0 ∷ []))) (atoms ms)) m.0
        ∙ ap (λ l. us ++ (m.0 ∷ l)) (sym (filter-twice (is_new us) (λ t. not (same_term m.0 t)) (atoms ms) ∙ filter-same (λ t. not (same_term m.0 t) && is_new us t) (is_new (us ++ (m.0 ∷ []))) (λ t. new-other us m.0 t) (atoms ms)))

pub atoms-are : (ms : List Multiple) → with_atoms [] ms ≡ atoms ms
atoms-are ms = with_atoms-are [] ms ∙ filter-all (atoms ms)

-- ---- terms by their numbers

abbrev IsFrom : (ℕ → TermTree) → ℕ → List TermTree → Type 0
IsFrom f low [] = Unit {0}
IsFrom f low (t ∷ ts) = (t ≡ f low) × IsFrom f (suc low) ts

abbrev Below : ℕ → List Part → Type 0
Below bound [] = Unit {0}
Below bound (p ∷ ps) = (p.0 < bound) × Below bound ps

abbrev is_used : Multiple → Bool
is_used m = not (is_zero m.1)

abbrev counted : (TermTree → ℤ) → TermTree → Multiple
counted c t = (t, c t)

skip : (m : Multiple) (ms : List Multiple) → is_zero m.1 ≡ true → filter is_used (m ∷ ms) ≡ filter is_used ms
skip m ms e = ap (λ b. cond (not b) (m ∷ filter is_used ms) (filter is_used ms)) e

keep : (m : Multiple) (ms : List Multiple) → is_zero m.1 ≡ false → filter is_used (m ∷ ms) ≡ m ∷ filter is_used ms
keep m ms e = ap (λ b. cond (not b) (m ∷ filter is_used ms) (filter is_used ms)) e

apart : (a b : ℕ) → a < b → nat_eq a b ≡ false
apart a b h = grind (arith, h)

tells : (a b : ℕ) → nat_eq a b ≡ true → a ≡ b
tells a b e = grind (arith, e)

differ : (a b : ℕ) → nat_eq a b ≡ false → b ≤ a → b < a
differ a b e h = grind (arith, e)

no-room : (low n : ℕ) → low ≤ n → n < low + 0 → ⊥
no-room low n h k = omega arith

one-later : (low n : ℕ) → low + suc n ≡ suc low + n
one-later low n = omega arith

room : (low n : ℕ) → low < low + suc n
room low n = omega arith

same-le : (n : ℕ) → n ≤ n
same-le n = omega arith

le-later : (low n : ℕ) → suc low ≤ n → low ≤ n
le-later low n h = omega arith

lt-from : (low n : ℕ) → suc low ≤ n → low < n
lt-from low n h = omega arith

abbrev Counts : (ℕ → TermTree) → (TermTree → ℤ) → ℕ → ℕ → List Part → Type 0
Counts f c low bound parts = (n : ℕ) → low ≤ n → n < bound → c (f n) ≡ coefficient n parts

in-order : (f : ℕ → TermTree) (c : TermTree → ℤ) (low : ℕ) (ts : List TermTree) (parts : List Part) → IsFrom f low ts → From low parts → Counts f c low (low + length ts) parts
    → Below (low + length ts) parts → filter is_used (map (counted c) ts) ≡ map (λ p. (f p.0, p.1)) parts
in-order f c low [] [] is from counts below = refl
in-order f c low [] (x ∷ xs) is from counts below = absurd (no-room low x.0 from.0 below.0)
in-order f c low (t ∷ ts) [] is from counts below =
    skip (t, c t) (map (counted c) ts) (ap is_zero (ap c is.0 ∙ counts low (same-le low) (room low (length ts))))
    ∙ in-order f c (suc low) ts [] is.1 tt (λ n h k. counts n (le-later low n h) (subst (λ b. n < b) (sym (one-later low (length ts))) k)) tt
in-order f c low (t ∷ ts) (x ∷ xs) is from counts below = by_bool (nat_eq x.0 low)
    (λ e. let here : x.0 ≡ low = tells x.0 low e in
    let worth : c t ≡ x.1 = ap c is.0 ∙ counts low (same-le low) (room low (length ts)) ∙ ap (λ n. coefficient n (x ∷ xs)) (sym here) ∙ coefficient-first x xs in
    keep (t, c t) (map (counted c) ts) (ap is_zero worth ∙ from.1)
    ∙ ap₂ (λ m rest. m ∷ rest) (ap₂ (λ u z. (u, z)) (is.0 ∙ ap f (sym here)) worth)
    (in-order f c (suc low) ts xs is.1 (subst (λ n. From (suc n) xs) here from.2)
    (λ n h k. counts n (le-later low n h) (subst (λ b. n < b) (sym (one-later low (length ts))) k)
    ∙ ap (λ b. if b then x.1 else coefficient n xs) (apart x.0 n (subst (λ a. a < n) (sym here) (lt-from low n h))))
    (subst (λ b. Below b xs) (one-later low (length ts)) below.1)))
    (λ e. let later : suc low ≤ x.0 = less (differ x.0 low e from.0) in
    skip (t, c t) (map (counted c) ts) (ap is_zero (ap c is.0 ∙ counts low (same-le low) (room low (length ts)) ∙ coefficient-before low (suc low) (x ∷ xs) (room-one low) (later, from.1, from.2)))
    ∙ in-order f c (suc low) ts (x ∷ xs) is.1 (later, from.1, from.2) (λ n h k. counts n (le-later low n h) (subst (λ b. n < b) (sym (one-later low (length ts))) k))
    (subst (λ b. Below b (x ∷ xs)) (one-later low (length ts)) below))
  where
    less : {a b : ℕ} → a < b → suc a ≤ b
    less h = omega arith

    room-one : (n : ℕ) → n < suc n
    room-one n = omega arith

-- ---- the numbers of distinct atoms

below-one : (n m : ℕ) → suc n < suc m → n < m
below-one n m h = omega arith

all-at : (P : TermTree → Type 0) (xs : List TermTree) (n : ℕ) (d : TermTree) → AllByRecursion P xs → n < length xs → P (get_or xs n d)
all-at P [] n d all h = absurd (omega arith)
all-at P (x ∷ xs) zero d all h = all.0
all-at P (x ∷ xs) (suc n) d all h = all-at P xs n d all.1 (below-one n (length xs) h)

or-first : (a b : Bool) → a ≡ true → (a || b) ≡ true
or-first true b h = refl
or-first false b h = absurd cc

or-second : (a b : Bool) → b ≡ true → (a || b) ≡ true
or-second true b h = refl
or-second false b h = h

add-one : (n : ℕ) → 1 + n ≡ suc n
add-one n = omega arith

distinct-number : (us : List TermTree) (n : ℕ) → IsDistinct same_term us → n < length us → (has_atom us (get_or us n zero_term) ≡ true) × (atom_number us (get_or us n zero_term) ≡ n)
unfolding IsDistinct
distinct-number [] n d h = absurd (omega arith)
distinct-number (u ∷ us) zero d h = (or-first (same_term u u) (has_atom us u) (same_term-refl u), number-first u us u (same_term-refl u))
distinct-number (u ∷ us) (suc n) d h =
    let rest = distinct-number us n d.1 (below-one n (length us) h) in (
      or-second (same_term u (get_or us n zero_term)) (has_atom us (get_or us n zero_term)) rest.0,
      number-later u us (get_or us n zero_term) (all-at (λ w. same_term u w ≡ false) us n zero_term d.0 (below-one n (length us) h)) ∙ ap (λ k. 1 + k) rest.1 ∙ add-one n,
    )

is-from : (f : ℕ → TermTree) (low : ℕ) (us : List TermTree) → ((k : ℕ) → k < length us → get_or us k zero_term ≡ f (low + k)) → IsFrom f low us
is-from f low [] h = tt
is-from f low (u ∷ us) h = (h 0 (first (length us)) ∙ ap f (plus-zero low), is-from f (suc low) us (λ k l. h (suc k) (more k (length us) l) ∙ ap f (one-later low k)))
  where
    first : (n : ℕ) → 0 < suc n
    first n = omega arith

    plus-zero : (n : ℕ) → n + 0 ≡ n
    plus-zero n = omega arith

    more : (a b : ℕ) → a < b → suc a < suc b
    more a b h = omega arith

all-below : (bound low : ℕ) (parts : List Part) → From low parts → ((n : ℕ) → is_zero (coefficient n parts) ≡ false → n < bound) → Below bound parts
all-below bound low [] from h = tt
all-below bound low (x ∷ xs) from h = (
  h x.0 (ap is_zero (coefficient-first x xs) ∙ from.1),
  all-below bound (suc x.0) xs from.2 (λ n e. by_bool (nat_eq x.0 n)
      (λ same. absurd (let other : true ≡ false = sym (ap is_zero (coefficient-before n (suc x.0) xs (subst (λ k. k < suc x.0) (tells x.0 n same) (less x.0)) from.2)) ∙ e in cc))
      (λ other. h n (ap (λ b. is_zero (if b then x.1 else coefficient n xs)) other ∙ e))),
)
  where
    less : (n : ℕ) → n < suc n
    less n = omega arith

below-test : (a b : ℕ) → nat_lt a b ≡ true → a < b
below-test a b h = grind (arith, h)

zero-plus : (n : ℕ) → n ≡ 0 + n
zero-plus n = omega arith

none : IsDistinct same_term []
unfolding IsDistinct
none = tt

pub used-parts : (line : Line) (row : Row) (us : List TermTree) → IsCombined line row us → filter is_used (coefficients line.multiples) ≡ map (multiple_of us) row.parts
used-parts line row us c =
    let distinct : IsDistinct same_term us = subst (IsDistinct same_term) (sym c.atoms_are) (distinct-atoms [] line.multiples none) in
    ap (λ ts. filter is_used (map (counted (λ t. term_coefficient t line.multiples)) ts)) (sym (c.atoms_are ∙ atoms-are line.multiples))
    ∙ in-order (λ n. get_or us n zero_term) (λ t. term_coefficient t line.multiples) 0 us row.parts
    (is-from (λ n. get_or us n zero_term) 0 us (λ k h. ap (λ n. get_or us n zero_term) (zero-plus k))) c.is_row.in_form
    (λ n h k. let number = distinct-number us n distinct (subst (λ b. n < b) (sym (zero-plus (length us))) k) in
    sym (coefficient-number us (get_or us n zero_term) line.multiples number.0 c.is_row.numbered) ∙ ap (λ m. at_point (unit m) us line.multiples) number.1 ∙ sym (row-coefficient us (sum_for line) row c.is_row n))
    (subst (λ b. Below b row.parts) (zero-plus (length us)) (all-below (length us) 0 row.parts c.is_row.in_form
    (λ n e. elim (numbers-found us n line.multiples c.is_row.numbered) [
      | inl zero_there ↦ absurd (let other : true ≡ false = sym (ap is_zero (row-coefficient us (sum_for line) row c.is_row n ∙ zero_there)) ∙ e in cc)
      | inr found ↦ subst (λ m. m < length us) found.is (below-test (atom_number us found.atom) (length us) (number-below us found.atom ∙ found.has))
    ])))
