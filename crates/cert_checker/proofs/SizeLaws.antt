-- A row of a sum is within sizes exactly where the sum is.
use Rattle.std.proofs.Common.{◌≡◌, ◌∙◌, ℕ, ◌<◌, ◌^◌, suc, ℤ, pos, negsuc, ◌+ℤ◌, ◌*ℤ◌, Bool, true, false, not, ◌&&◌, ◌||◌, cond, if◌then◌else◌, nat_eq, nat_le, List, [], ◌∷◌, map, filter, ap, ap₂, sym, refl, arith, ◌⊎◌, inl, inr, lit<}
use Rattle.std.proofs.lemmas.Bool.Decides.{nat_tests}
use Rattle.std.specs.Prelude.{unsigned_abs}
use Rattle.std.specs.List.{list_any, list_all}
use Rattle.std.proofs.lemmas.Int.{ints}
use Rattle.std.proofs.Math.IntN.{*ℤ-zero}
use Rattle.linear_rows.specs.declared.row.Row.{Row}
use Rattle.linear_rows.specs.Numbers.{fits}
use Rattle.linear_rows.specs.Sums.{Part, From, all_fit, row_fits, coefficient}
use Rattle.linear_rows.proofs.Ring.{times-one}
use Rattle.linear_rows.proofs.FormLaws.{unit, dot-unit}
use Rattle.terms.specs.Equality.{same_term}
use Rattle.terms.specs.Code.EqualityLaws.{same_term-equal, same_term-refl}
use Rattle.terms.specs.Trees.{TermTree}
use Rattle.terms.specs.Valuations.{is_small}
use Rattle.cert_checker.specs.Linear.{Multiple, Sum, atoms, are_small, sum_is_small}
use Rattle.cert_checker.specs.Linear.{coefficient as term_coefficient}
use Rattle.cert_checker.specs.Numbering.{atom_number, has_atom, at_point, have_numbers}
use Rattle.cert_checker.specs.Code.SumRows.{IsSumRow}
use Rattle.cert_checker.proofs.Choices.{by_bool, and_left, and_right, and_true}
use Rattle.cert_checker.proofs.NumberingLaws.{number-tells}

-- ---- one number

pub small-fits : (z : ℤ) → is_small z ≡ fits z
unfolding is_small
small-fits (pos n) = refl
small-fits (negsuc n) = refl

small-zero : is_small (pos 0) ≡ true
unfolding is_small
small-zero = refl

-- ---- coefficients of a row

abbrev AllFitAt : List Part → Type 0
AllFitAt parts = (n : ℕ) → fits (coefficient n parts) ≡ true

fits-at : (parts : List Part) → all_fit parts ≡ true → AllFitAt parts
fits-at [] h n = refl
fits-at (x ∷ xs) h n = by_bool (nat_eq x.0 n)
    (λ e. ap (λ b. fits (if b then x.1 else coefficient n xs)) e ∙ and_left (fits x.1) (all_fit xs) h)
    (λ e. ap (λ b. fits (if b then x.1 else coefficient n xs)) e ∙ fits-at xs (and_right (fits x.1) (all_fit xs) h) n)

pub coefficient-before : (n low : ℕ) (parts : List Part) → n < low → From low parts → coefficient n parts ≡ pos 0
coefficient-before n low [] h from = refl
coefficient-before n low (x ∷ xs) h from =
    let first = from.0 in
    ap (λ b. if b then x.1 else coefficient n xs) (apart x.0 n (omega arith)) ∙ coefficient-before n (suc x.0) xs (omega arith) from.2
  where
    apart : (a b : ℕ) → b < a → nat_eq a b ≡ false
    apart a b h = grind (arith, h)

pub coefficient-first : (x : Part) (xs : List Part) → coefficient x.0 (x ∷ xs) ≡ x.1
coefficient-first x xs = same x.0 x.1 (coefficient x.0 xs)
  where
    same : (a : ℕ) (c e : ℤ) → (if nat_eq a a then c else e) ≡ c
    same a c e = grind arith

fit-rest : (n low : ℕ) (x : Part) (xs : List Part) → From low (x ∷ xs) → fits (coefficient n (x ∷ xs)) ≡ true → fits (coefficient n xs) ≡ true
fit-rest n low x xs from h = by_bool (nat_eq x.0 n)
    (λ e. ap fits (coefficient-before n (suc x.0) xs (under x.0 n e) from.2))
    (λ e. ap (λ b. fits (if b then x.1 else coefficient n xs)) (sym e) ∙ h)
  where
    under : (a b : ℕ) → nat_eq a b ≡ true → b < suc a
    under a b e = let same : a ≡ b = grind (arith, e) in omega arith

all-fit : (low : ℕ) (parts : List Part) → From low parts → AllFitAt parts → all_fit parts ≡ true
all-fit low [] from h = refl
all-fit low (x ∷ xs) from h = and_true (fits x.1) (all_fit xs) (ap fits (sym (coefficient-first x xs)) ∙ h x.0) (all-fit (suc x.0) xs from.2 (λ n. fit-rest n low x xs from (h n)))

-- ---- coefficients of multiples

abbrev pub is_among : TermTree → List Multiple → Bool
is_among t ms = list_any (λ m. same_term m.0 t) ms

or-other : (a b : Bool) → (a || b) ≡ true → a ≡ false → b ≡ true
or-other true b h e = absurd cc
or-other false b h e = h

or-none : (a b : Bool) → (a || b) ≡ false → (a ≡ false) × (b ≡ false)
or-none true b h = absurd cc
or-none false b h = (refl, h)

or-first : (a b : Bool) → a ≡ true → (a || b) ≡ true
or-first true b h = refl
or-first false b h = absurd cc

or-second : (a b : Bool) → b ≡ true → (a || b) ≡ true
or-second true b h = refl
or-second false b h = h

same-turned : (t u : TermTree) → same_term t u ≡ same_term u t
same-turned t u = by_bool (same_term t u)
    (λ e. e ∙ sym (ap (λ w. same_term u w) (same_term-equal t u e) ∙ same_term-refl u))
    (λ e. by_bool (same_term u t) (λ k. ap (λ w. same_term w u) (sym (same_term-equal u t k)) ∙ same_term-refl u ∙ sym k) (λ k. e ∙ sym k))

sum-of-zeros : (a b : ℤ) → a ≡ pos 0 → b ≡ pos 0 → a +ℤ b ≡ pos 0
sum-of-zeros a b e h = omega (arith, ints)

pub absent : (t : TermTree) (ms : List Multiple) → is_among t ms ≡ false → term_coefficient t ms ≡ pos 0
absent t [] h = refl
absent t (m ∷ ms) h = let none = or-none (same_term m.0 t) (is_among t ms) h in
    sum-of-zeros (if same_term t m.0 then m.1 else pos 0) (term_coefficient t ms) (ap (λ b. if b then m.1 else pos 0) (same-turned t m.0 ∙ none.0)) (absent t ms none.1)

among-kept : (u t : TermTree) (ts : List TermTree) → same_term u t ≡ false → has_atom ts t ≡ true → has_atom (filter (λ w. not (same_term u w)) ts) t ≡ true
among-kept u t [] other h = absurd cc
among-kept u t (w ∷ ws) other h = by_bool (same_term u w)
    (λ e. ap (λ b. has_atom (cond (not b) (w ∷ filter (λ w. not (same_term u w)) ws) (filter (λ w. not (same_term u w)) ws)) t) e
    ∙ among-kept u t ws other (or-other (same_term w t) (has_atom ws t) h (ap (λ x. same_term x t) (sym (same_term-equal u w e)) ∙ other)))
    (λ e. ap (λ b. has_atom (cond (not b) (w ∷ filter (λ w. not (same_term u w)) ws) (filter (λ w. not (same_term u w)) ws)) t) e
    ∙ by_bool (same_term w t) (λ k. or-first (same_term w t) _ k) (λ k. or-second (same_term w t) _ (among-kept u t ws other (or-other (same_term w t) (has_atom ws t) h k))))

pub among-atoms : (t : TermTree) (ms : List Multiple) → is_among t ms ≡ true → has_atom (atoms ms) t ≡ true
among-atoms t [] h = absurd cc
among-atoms t (m ∷ ms) h = by_bool (same_term m.0 t)
    (λ e. or-first (same_term m.0 t) (has_atom (filter (λ w. not (same_term m.0 w)) (atoms ms)) t) e)
    (λ e. or-second (same_term m.0 t) (has_atom (filter (λ w. not (same_term m.0 w)) (atoms ms)) t) (among-kept m.0 t (atoms ms) e (among-atoms t ms (or-other (same_term m.0 t) (is_among t ms) h e))))

abbrev small_in : List Multiple → TermTree → Bool
small_in ms t = is_small (term_coefficient t ms)

small-map : (ms : List Multiple) (ts : List TermTree) → list_all (λ (m : Multiple). is_small m.1) (map (λ t. (t, term_coefficient t ms)) ts) ≡ list_all (small_in ms) ts
small-map ms [] = refl
small-map ms (t ∷ ts) = ap (λ b. small_in ms t && b) (small-map ms ts)

pub all-has : (test : TermTree → Bool) (ts : List TermTree) (t : TermTree) → list_all test ts ≡ true → has_atom ts t ≡ true → test t ≡ true
all-has test [] t all h = absurd cc
all-has test (u ∷ us) t all h = by_bool (same_term u t)
    (λ e. ap test (sym (same_term-equal u t e)) ∙ and_left (test u) (list_all test us) all)
    (λ e. all-has test us t (and_right (test u) (list_all test us) all) (or-other (same_term u t) (has_atom us t) h e))

small-at : (ms : List Multiple) → are_small ms ≡ true → (t : TermTree) → small_in ms t ≡ true
small-at ms h t = by_bool (is_among t ms)
    (λ e. all-has (small_in ms) (atoms ms) t (sym (small-map ms (atoms ms)) ∙ h) (among-atoms t ms e))
    (λ e. ap is_small (absent t ms e) ∙ small-zero)

all-small-in : (ms : List Multiple) (ts : List TermTree) (test : TermTree → Bool) → ((t : TermTree) → test t ≡ true → small_in ms t ≡ true) → list_all test ts ≡ true → list_all (small_in ms) ts ≡ true
all-small-in ms [] test says h = refl
all-small-in ms (t ∷ ts) test says h = and_true (small_in ms t) (list_all (small_in ms) ts) (says t (and_left (test t) (list_all test ts) h)) (all-small-in ms ts test says (and_right (test t) (list_all test ts) h))

list_all-filter : (test keep : TermTree → Bool) (ts : List TermTree) → list_all test ts ≡ true → list_all test (filter keep ts) ≡ true
list_all-filter test keep [] h = refl
list_all-filter test keep (t ∷ ts) h = by_bool (keep t)
    (λ e. ap (λ b. list_all test (cond b (t ∷ filter keep ts) (filter keep ts))) e
    ∙ and_true (test t) (list_all test (filter keep ts)) (and_left (test t) (list_all test ts) h) (list_all-filter test keep ts (and_right (test t) (list_all test ts) h)))
    (λ e. ap (λ b. list_all test (cond b (t ∷ filter keep ts) (filter keep ts))) e ∙ list_all-filter test keep ts (and_right (test t) (list_all test ts) h))

pub atoms-numbered : (us : List TermTree) (ms : List Multiple) → have_numbers us ms ≡ true → list_all (has_atom us) (atoms ms) ≡ true
atoms-numbered us [] h = refl
atoms-numbered us (m ∷ ms) h = and_true (has_atom us m.0) (list_all (has_atom us) (filter (λ t. not (same_term m.0 t)) (atoms ms))) (and_left (has_atom us m.0) (have_numbers us ms) h)
    (list_all-filter (has_atom us) (λ t. not (same_term m.0 t)) (atoms ms) (atoms-numbered us ms (and_right (has_atom us m.0) (have_numbers us ms) h)))

-- ---- both

one-if : (b : Bool) (c : ℤ) → c *ℤ (if b then pos 1 else pos 0) ≡ (if b then c else pos 0)
one-if true c = times-one c
one-if false c = *ℤ-zero c

nat-same : (n : ℕ) → nat_eq n n ≡ true
nat-same n = grind arith

tells-equal : (a b : ℕ) → nat_eq a b ≡ true → a ≡ b
tells-equal a b e = grind (arith, e)

-- whether two atoms have one number
same-number : (us : List TermTree) (t w : TermTree) → has_atom us t ≡ true → has_atom us w ≡ true → nat_eq (atom_number us w) (atom_number us t) ≡ same_term t w
same-number us t w h k = by_bool (same_term t w)
    (λ e. ap (λ x. nat_eq (atom_number us x) (atom_number us t)) (sym (same_term-equal t w e)) ∙ nat-same (atom_number us t) ∙ sym e)
    (λ e. by_bool (nat_eq (atom_number us w) (atom_number us t))
    (λ n. absurd (let other : true ≡ false = sym (same_term-refl t) ∙ ap (same_term t) (number-tells us t w h k (sym (tells-equal (atom_number us w) (atom_number us t) n))) ∙ e in cc))
    (λ n. n ∙ sym e))

-- the coefficient of a numbered atom
pub coefficient-number : (us : List TermTree) (t : TermTree) (ms : List Multiple) → has_atom us t ≡ true → have_numbers us ms ≡ true → at_point (unit (atom_number us t)) us ms ≡ term_coefficient t ms
coefficient-number us t [] h k = refl
coefficient-number us t (m ∷ ms) h k = ap₂ (λ y z. y +ℤ z)
    (ap (λ b. m.1 *ℤ (if b then pos 1 else pos 0)) (same-number us t m.0 h (and_left (has_atom us m.0) (have_numbers us ms) k)) ∙ one-if (same_term t m.0) m.1)
    (coefficient-number us t ms h (and_right (has_atom us m.0) (have_numbers us ms) k))

-- an atom of the multiples that has the number
pub record HasNumber (us : List TermTree) (n : ℕ) (ms : List Multiple) : Type 0 where
  pub atom : TermTree
  pub has : has_atom us atom ≡ true
  pub is : atom_number us atom ≡ n

pub numbers-found : (us : List TermTree) (n : ℕ) (ms : List Multiple) → have_numbers us ms ≡ true → (at_point (unit n) us ms ≡ pos 0) ⊎ HasNumber us n ms
numbers-found us n [] k = inl refl
numbers-found us n (m ∷ ms) k = by_bool (nat_eq (atom_number us m.0) n)
    (λ e. inr (record { atom = m.0; has = and_left (has_atom us m.0) (have_numbers us ms) k; is = tells-equal (atom_number us m.0) n e }))
    (λ e. elim (numbers-found us n ms (and_right (has_atom us m.0) (have_numbers us ms) k)) [
      | inl none ↦ inl (sum-of-zeros (m.1 *ℤ unit n (atom_number us m.0)) (at_point (unit n) us ms) (ap (λ b. m.1 *ℤ (if b then pos 1 else pos 0)) e ∙ *ℤ-zero m.1) none)
      | inr found ↦ inr (record { atom = found.atom; has = found.has; is = found.is })
    ])

pub row-coefficient : (us : List TermTree) (s : Sum) (row : Row) → IsSumRow us s row → (n : ℕ) → coefficient n row.parts ≡ at_point (unit n) us s.multiples
row-coefficient us s row is n = sym (dot-unit n 0 row.parts is.in_form) ∙ is.parts (unit n)

small-fit : (us : List TermTree) (s : Sum) (row : Row) → IsSumRow us s row → are_small s.multiples ≡ true → all_fit row.parts ≡ true
small-fit us s row is small = all-fit 0 row.parts is.in_form (λ n. ap fits (row-coefficient us s row is n) ∙
    elim (numbers-found us n s.multiples is.numbered) [
      | inl none ↦ ap fits none
      | inr found ↦ ap (λ k. fits (at_point (unit k) us s.multiples)) (sym found.is) ∙ ap fits (coefficient-number us found.atom s.multiples found.has is.numbered)
          ∙ sym (small-fits (term_coefficient found.atom s.multiples)) ∙ small-at s.multiples small found.atom
    ])

fit-small : (us : List TermTree) (s : Sum) (row : Row) → IsSumRow us s row → all_fit row.parts ≡ true → are_small s.multiples ≡ true
fit-small us s row is fit = small-map s.multiples (atoms s.multiples) ∙ all-small-in s.multiples (atoms s.multiples) (has_atom us)
    (λ t h. small-fits (term_coefficient t s.multiples) ∙ ap fits (sym (coefficient-number us t s.multiples h is.numbered) ∙ sym (row-coefficient us s row is (atom_number us t)))
    ∙ fits-at row.parts fit (atom_number us t)) (atoms-numbered us s.multiples is.numbered)

pub same-bool : (a b : Bool) → (a ≡ true → b ≡ true) → (b ≡ true → a ≡ true) → a ≡ b
same-bool true b h k = sym (h refl)
same-bool false true h k = absurd (let e : false ≡ true = k refl in cc)
same-bool false false h k = refl

-- The row is within sizes exactly where the sum is.
pub row-size : (us : List TermTree) (s : Sum) (row : Row) → IsSumRow us s row → row_fits row ≡ sum_is_small s
row-size us s row is = ap₂ (λ a b. a && b) (same-bool (all_fit row.parts) (are_small s.multiples) (fit-small us s row is) (small-fit us s row is)) (ap fits is.bound ∙ sym (small-fits s.constant))

-- ---- the size of a small number

pub small-size : (z : ℤ) → is_small z ≡ true → unsigned_abs z < 2 ^ 127
unfolding is_small
small-size z h = below (unsigned_abs z) (2 ^ 100) (2 ^ 127) h (lit< tt)
  where
    below : (n m k : ℕ) → nat_le n m ≡ true → m < k → n < k
    below n m k e h = grind (arith, nat_tests)

small-fits-turned : (z : ℤ) → fits z ≡ is_small z
small-fits-turned z = sym (small-fits z)

pub ruleset small_numbers = (small-fits)
