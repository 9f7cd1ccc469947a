-- Numbers of atoms, and the rows of sums over them.
use Rattle.std.proofs.Common.{◌≡◌, ◌∙◌, ℕ, ◌+◌, ◌≤◌, ℤ, pos, ◌+ℤ◌, ◌*ℤ◌, Bool, true, false, not, ◌||◌, cond, List, [], ◌∷◌, ◌++◌, ap, ap₂, sym, subst, refl, arith}
use Rattle.std.proofs.lemmas.Int.{ints}
use Rattle.std.proofs.lemmas.List.Folds.{list_any-append, list_all-append}
use Rattle.linear_rows.specs.declared.row.Row.{Row}
use Rattle.linear_rows.specs.Sums.{plus_times}
use Rattle.linear_rows.proofs.SumLaws.{dot-sums}
use Rattle.linear_rows.proofs.FormLaws.{From-sums}
use Rattle.terms.specs.Equality.{same_term}
use Rattle.terms.specs.Code.EqualityLaws.{same_term-equal, same_term-refl}
use Rattle.terms.specs.Trees.{TermTree}
use Rattle.cert_checker.specs.Linear.{Multiple, Sum, scaled_multiples, scaled_sum, number_sum, atom_sum, total}
use Rattle.cert_checker.specs.Numbering.{atom_number, has_atom, at_point, have_numbers}
use Rattle.cert_checker.specs.Code.SumRows.{IsSumRow}
use Rattle.cert_checker.proofs.Choices.{by_bool, and_left, and_right, and_true}
use Rattle.cert_checker.proofs.WorthLaws.{weighed-append, weighed-scaled, one-times}

-- ---- numbers

abbrev is_it : TermTree → TermTree → Bool
is_it t u = same_term u t

pub number-first : (u : TermTree) (us : List TermTree) (t : TermTree) → same_term u t ≡ true → atom_number (u ∷ us) t ≡ 0
number-first u us t e = ap (λ b. cond (not b) (1 + atom_number us t) 0) e

pub number-later : (u : TermTree) (us : List TermTree) (t : TermTree) → same_term u t ≡ false → atom_number (u ∷ us) t ≡ 1 + atom_number us t
number-later u us t e = ap (λ b. cond (not b) (1 + atom_number us t) 0) e

or-other : (a b : Bool) → (a || b) ≡ true → a ≡ false → b ≡ true
or-other true b h e = absurd cc
or-other false b h e = h

or-none : (a b : Bool) → (a || b) ≡ false → (a ≡ false) × (b ≡ false)
or-none true b h = absurd cc
or-none false b h = (refl, h)

pub number-grown : (us more : List TermTree) (t : TermTree) → has_atom us t ≡ true → atom_number (us ++ more) t ≡ atom_number us t
number-grown [] more t h = absurd cc
number-grown (u ∷ us) more t h = by_bool (same_term u t)
    (λ e. number-first u (us ++ more) t e ∙ sym (number-first u us t e))
    (λ e. number-later u (us ++ more) t e ∙ ap (λ n. 1 + n) (number-grown us more t (or-other (same_term u t) (has_atom us t) h e)) ∙ sym (number-later u us t e))

not-next : (a : ℕ) → 0 ≡ 1 + a → ⊥
not-next a e = omega arith

not-first : (a : ℕ) → 1 + a ≡ 0 → ⊥
not-first a e = omega arith

same-next : (a b : ℕ) → 1 + a ≡ 1 + b → a ≡ b
same-next a b e = omega arith

pub number-tells : (us : List TermTree) (t w : TermTree) → has_atom us t ≡ true → has_atom us w ≡ true → atom_number us t ≡ atom_number us w → t ≡ w
number-tells [] t w h k e = absurd cc
number-tells (u ∷ us) t w h k e = by_bool (same_term u t)
    (λ one. by_bool (same_term u w)
    (λ two. sym (same_term-equal u t one) ∙ same_term-equal u w two)
    (λ two. absurd (not-next (atom_number us w) (sym (number-first u us t one) ∙ e ∙ number-later u us w two))))
    (λ one. by_bool (same_term u w)
    (λ two. absurd (not-first (atom_number us t) (sym (number-later u us t one) ∙ e ∙ number-first u us w two)))
    (λ two. number-tells us t w (or-other (same_term u t) (has_atom us t) h one) (or-other (same_term u w) (has_atom us w) k two)
    (same-next (atom_number us t) (atom_number us w) (sym (number-later u us t one) ∙ e ∙ number-later u us w two))))

-- ---- growth

or-true-left : (a b : Bool) → a ≡ true → (a || b) ≡ true
or-true-left true b h = refl
or-true-left false b h = absurd cc

or-true-right : (a b : Bool) → b ≡ true → (a || b) ≡ true
or-true-right true b h = refl
or-true-right false b h = h

pub has-grown : (us more : List TermTree) (t : TermTree) → has_atom us t ≡ true → has_atom (us ++ more) t ≡ true
has-grown us more t h = list_any-append (is_it t) us more ∙ or-true-left (has_atom us t) (has_atom more t) h

pub has-itself : (us : List TermTree) (t : TermTree) → has_atom (us ++ (t ∷ [])) t ≡ true
has-itself us t = list_any-append (is_it t) us (t ∷ []) ∙ or-true-right (has_atom us t) (has_atom (t ∷ []) t) (or-true-left (same_term t t) false (same_term-refl t))

pub numbers-grown : (us more : List TermTree) (ms : List Multiple) → have_numbers us ms ≡ true → have_numbers (us ++ more) ms ≡ true
numbers-grown us more [] h = refl
numbers-grown us more (m ∷ ms) h = and_true (has_atom (us ++ more) m.0) (have_numbers (us ++ more) ms) (has-grown us more m.0 (and_left (has_atom us m.0) (have_numbers us ms) h))
    (numbers-grown us more ms (and_right (has_atom us m.0) (have_numbers us ms) h))

point-grown : (point : ℕ → ℤ) (us more : List TermTree) (ms : List Multiple) → have_numbers us ms ≡ true → at_point point (us ++ more) ms ≡ at_point point us ms
point-grown point us more [] h = refl
point-grown point us more (m ∷ ms) h = ap₂ (λ n z. m.1 *ℤ point n +ℤ z) (number-grown us more m.0 (and_left (has_atom us m.0) (have_numbers us ms) h))
    (point-grown point us more ms (and_right (has_atom us m.0) (have_numbers us ms) h))

pub row-grown : (us more : List TermTree) (s : Sum) (row : Row) → IsSumRow us s row → IsSumRow (us ++ more) s row
row-grown us more s row is = record {
  in_form = is.in_form;
  parts = λ point. is.parts point ∙ sym (point-grown point us more s.multiples is.numbered);
  bound = is.bound;
  numbered = numbers-grown us more s.multiples is.numbered;
}

-- ---- rows of sums

abbrev number_row : ℤ → Row
number_row z = record { parts = []; bound = z; equal = true }

pub number-is : (us : List TermTree) (z : ℤ) → IsSumRow us (number_sum z) (number_row z)
number-is us z = record { in_form = tt; parts = λ point. refl; bound = refl; numbered = refl }

zero-le : (n : ℕ) → 0 ≤ n
zero-le n = omega arith

abbrev atom_row : ℕ → Row
atom_row n = record { parts = (n, pos 1) ∷ []; bound = pos 0; equal = true }

pub atom-is : (us : List TermTree) (t : TermTree) → has_atom us t ≡ true → IsSumRow us (atom_sum t) (atom_row (atom_number us t))
atom-is us t h = record { in_form = (zero-le (atom_number us t), refl, tt); parts = λ point. refl; bound = refl; numbered = and_true (has_atom us t) true h refl }

numbers-append : (us : List TermTree) (xs ys : List Multiple) → have_numbers us xs ≡ true → have_numbers us ys ≡ true → have_numbers us (xs ++ ys) ≡ true
numbers-append us xs ys h k = list_all-append (λ m. has_atom us m.0) xs ys ∙ and_true (have_numbers us xs) (have_numbers us ys) h k

pub numbers-scaled : (us : List TermTree) (c : ℤ) (ms : List Multiple) → have_numbers us ms ≡ true → have_numbers us (scaled_multiples c ms) ≡ true
numbers-scaled us c [] h = refl
numbers-scaled us c (m ∷ ms) h = and_true (has_atom us m.0) (have_numbers us (scaled_multiples c ms)) (and_left (has_atom us m.0) (have_numbers us ms) h)
    (numbers-scaled us c ms (and_right (has_atom us m.0) (have_numbers us ms) h))

pub plus-is : (us : List TermTree) (l r : Sum) (left right : Row) (c : ℤ) → IsSumRow us l left → IsSumRow us r right → IsSumRow us (total l (scaled_sum c r)) (plus_times left c right)
plus-is us l r left right c one two = record {
  in_form = From-sums c left.parts 0 right.parts one.in_form two.in_form;
  parts = λ point. dot-sums point c left.parts right.parts ∙ ap₂ (λ y z. y +ℤ c *ℤ z) (one.parts point) (two.parts point)
      ∙ ap (λ z. at_point point us l.multiples +ℤ z) (sym (weighed-scaled (λ t. point (atom_number us t)) c r.multiples))
      ∙ sym (weighed-append (λ t. point (atom_number us t)) l.multiples (scaled_multiples c r.multiples));
  bound = ap₂ (λ y z. y +ℤ c *ℤ z) one.bound two.bound;
  numbered = numbers-append us l.multiples (scaled_multiples c r.multiples) one.numbered (numbers-scaled us c r.multiples two.numbered);
}

once : (ms : List Multiple) → scaled_multiples (pos 1) ms ≡ ms
once [] = refl
once (m ∷ ms) = ap₂ (λ z rest. (m.0, z) ∷ rest) (one-times m.1) (once ms)

scaled-once : (s : Sum) → scaled_sum (pos 1) s ≡ s
scaled-once s = λ i. record { multiples = once s.multiples i; constant = one-times s.constant i }

pub total-is : (us : List TermTree) (l r : Sum) (left right : Row) → IsSumRow us l left → IsSumRow us r right → IsSumRow us (total l r) (plus_times left (pos 1) right)
total-is us l r left right one two = subst (λ s. IsSumRow us (total l s) (plus_times left (pos 1) right)) (scaled-once r) (plus-is us l r left right (pos 1) one two)

zero-plus : (z : ℤ) → pos 0 +ℤ z ≡ z
zero-plus z = omega (arith, ints)

from-nothing : (s : Sum) → total (number_sum (pos 0)) s ≡ s
from-nothing s = λ i. record { multiples = s.multiples; constant = zero-plus s.constant i }

pub scaled-is : (us : List TermTree) (s : Sum) (row : Row) (c : ℤ) → IsSumRow us s row → IsSumRow us (scaled_sum c s) (plus_times (number_row (pos 0)) c row)
scaled-is us s row c is = subst (λ r. IsSumRow us r (plus_times (number_row (pos 0)) c row)) (from-nothing (scaled_sum c s)) (plus-is us (number_sum (pos 0)) s (number_row (pos 0)) row c (number-is us (pos 0)) is)
