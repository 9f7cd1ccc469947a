-- Steps come to the same where one of them is taken.
use Rattle.std.proofs.Common.{◌≡◌, ◌∙◌, ◌≤◌, ℤ, pos, negsuc, neg_ℤ, ◌+ℤ◌, ◌-ℤ◌, ◌*ℤ◌, Bool, true, false, ◌&&◌, if◌then◌else◌, List, [], ◌∷◌, ◌++◌, reverse, length, Some, Result, Ok, Err, ap, ap₂, sym, subst, refl, arith}
use Rattle.std.specs.List.{list_all, AllZip}
use Rattle.std.proofs.lemmas.Int.{ints}
use Rattle.std.proofs.lemmas.List.{append-nil}
use Rattle.std.proofs.lemmas.List.Folds.{list_all-append}
use Rattle.linear_rows.specs.declared.row.Row.{Row}
use Rattle.linear_rows.specs.declared.row.RowFail.{RowFail}
use Rattle.linear_rows.specs.declared.row.RowFail.TheVariants.{NoMemory, Wide}
use Rattle.linear_rows.specs.Sums.{row_fits, plus_times}
use Rattle.terms.specs.Trees.{TermTree, number, name, plus, minus, times, divided, remainder, read, truth}
use Rattle.cert_checker.specs.declared.step.Step.{Step}
use Rattle.cert_checker.specs.declared.step.Step.TheVariants as step
use Rattle.cert_checker.specs.declared.step.Operation.{Operation}
use Rattle.cert_checker.specs.declared.step.Operation.TheVariants as operation
use Rattle.cert_checker.specs.Linear.{Multiple, Sum, scaled_multiples, number_sum, atom_sum, scaled_sum, total, difference, sum_of, linear_terms, sum_is_small}
use Rattle.cert_checker.specs.Numbering.{atom_number, has_atom, with_atom, with_atoms, at_point, have_numbers}
use Rattle.cert_checker.specs.Code.SumRows.{IsSumRow}
use Rattle.cert_checker.specs.Code.Steps.{number_row, atom_row, turned, less_one, literal_of, operands, sums_behind, rows_behind, first_fits, first_small, sum_after, are_small_after, atoms_after, Goal, ComesTo, GoesOn, IsApplied, Shape, a_number, a_total, a_difference, a_multiple, an_atom, product_shape, shape_of, opened_steps, opened_rows, opened_atoms, opened_fits, IsOpened}
use Rattle.cert_checker.proofs.Choices.{and_right, and_true}
use Rattle.cert_checker.proofs.NumberingLaws.{row-grown, has-itself, number-is, atom-is, plus-is, total-is, scaled-is, numbers-scaled}
use Rattle.cert_checker.proofs.WorthLaws.{weighed-append, weighed-scaled, minus-one}
use Rattle.linear_rows.proofs.SumLaws.{dot-sums}
use Rattle.linear_rows.proofs.FormLaws.{From-sums}
use Rattle.cert_checker.proofs.SizeLaws.{row-size}

-- ---- atoms in order

pub with_atoms-append : (us : List TermTree) (xs ys : List Multiple) → with_atoms us (xs ++ ys) ≡ with_atoms (with_atoms us xs) ys
unfolding with_atoms
with_atoms-append us [] ys = refl
with_atoms-append us (x ∷ xs) ys = with_atoms-append (with_atom us x.0) xs ys

pub with_atoms-scaled : (us : List TermTree) (c : ℤ) (ms : List Multiple) → with_atoms us (scaled_multiples c ms) ≡ with_atoms us ms
unfolding with_atoms
with_atoms-scaled us c [] = refl
with_atoms-scaled us c (m ∷ ms) = with_atoms-scaled (with_atom us m.0) c ms

with_atoms-none : (us : List TermTree) → with_atoms us [] ≡ us
unfolding with_atoms
with_atoms-none us = refl

with_atoms-one : (us : List TermTree) (t : TermTree) → with_atoms us (atom_sum t).multiples ≡ with_atom us t
unfolding with_atoms
with_atoms-one us t = refl

-- ---- what a term's shape says

abbrev terms_small : TermTree → Bool
terms_small t = list_all (λ u. sum_is_small (sum_of u)) (linear_terms t)

abbrev sum_by : Shape → TermTree → Sum
sum_by (a_number z) t = number_sum z
sum_by (a_total t u) w = total (sum_of t) (sum_of u)
sum_by (a_difference t u) w = difference (sum_of t) (sum_of u)
sum_by (a_multiple z t) w = scaled_sum z (sum_of t)
sum_by an_atom t = atom_sum t

abbrev small_by : Shape → TermTree → Bool
small_by (a_number z) t = sum_is_small (number_sum z)
small_by (a_total t u) w = sum_is_small (total (sum_of t) (sum_of u)) && (terms_small t && terms_small u)
small_by (a_difference t u) w = sum_is_small (difference (sum_of t) (sum_of u)) && (terms_small t && terms_small u)
small_by (a_multiple z t) w = sum_is_small (scaled_sum z (sum_of t)) && (sum_is_small (number_sum z) && terms_small t)
small_by an_atom t = sum_is_small (atom_sum t)

pub and-true : (a : Bool) → (a && true) ≡ a
and-true true = refl
and-true false = refl

pub and-turn : (a b : Bool) → (a && b) ≡ (b && a)
and-turn true b = sym (and-true b)
and-turn false true = refl
and-turn false false = refl

small-two : (t u : TermTree) (b : Bool) → (b && list_all (λ w. sum_is_small (sum_of w)) (linear_terms t ++ linear_terms u)) ≡ (b && (terms_small t && terms_small u))
small-two t u b = ap (λ c. b && c) (list_all-append (λ w. sum_is_small (sum_of w)) (linear_terms t) (linear_terms u))

record ByShape (t : TermTree) (s : Shape) : Type 0 where
  sum : sum_of t ≡ sum_by s t
  small : terms_small t ≡ small_by s t

one-only : (a : Bool) → (a && true) ≡ a
one-only a = and-true a

by-product : (t u : TermTree) → ByShape (times t u) (product_shape (literal_of t) (literal_of u) t u)
by-product (number z) u = record { sum = refl; small = refl }
by-product t (number z) = record { sum = refl; small = small-two t (number z) (sum_is_small (scaled_sum z (sum_of t))) ∙ ap (λ b. sum_is_small (scaled_sum z (sum_of t)) && b) (ap (λ b. terms_small t && b) (and-true (sum_is_small (number_sum z))) ∙ and-turn (terms_small t) (sum_is_small (number_sum z))) }
by-product t u = record { sum = refl; small = one-only (sum_is_small (atom_sum (times t u))) }

by-shape : (t : TermTree) → ByShape t (shape_of t)
by-shape (number z) = record { sum = refl; small = one-only (sum_is_small (number_sum z)) }
by-shape (plus t u) = record { sum = refl; small = small-two t u (sum_is_small (total (sum_of t) (sum_of u))) }
by-shape (minus t u) = record { sum = refl; small = small-two t u (sum_is_small (difference (sum_of t) (sum_of u))) }
by-shape (times t u) = by-product t u
by-shape (name x) = record { sum = refl; small = one-only (sum_is_small (atom_sum (name x))) }
by-shape (divided t u) = record { sum = refl; small = one-only (sum_is_small (atom_sum (divided t u))) }
by-shape (remainder t u) = record { sum = refl; small = one-only (sum_is_small (atom_sum (remainder t u))) }
by-shape (read a i) = record { sum = refl; small = one-only (sum_is_small (atom_sum (read a i))) }
by-shape (truth f) = record { sum = refl; small = one-only (sum_is_small (atom_sum (truth f))) }

-- ---- more atoms

pub has-with : (us : List TermTree) (t : TermTree) → has_atom (with_atom us t) t ≡ true
has-with us t = go (has_atom us t) refl
  where
    go : (b : Bool) → has_atom us t ≡ b → has_atom (if b then us else us ++ (t ∷ [])) t ≡ true
    go true e = e
    go false e = has-itself us t

row-with : (us : List TermTree) (t : TermTree) (s : Sum) (row : Row) → IsSumRow us s row → IsSumRow (with_atom us t) s row
row-with us t s row is = go (has_atom us t)
  where
    go : (b : Bool) → IsSumRow (if b then us else us ++ (t ∷ [])) s row
    go true = is
    go false = row-grown us (t ∷ []) s row is

rows-with : (us : List TermTree) (t : TermTree) (sums : List Sum) (rows : List Row) → AllZip (IsSumRow us) sums rows → AllZip (IsSumRow (with_atom us t)) sums rows
rows-with us t [] [] h = h
rows-with us t [] (row ∷ rows) h = absurd h
rows-with us t (s ∷ sums) [] h = absurd h
rows-with us t (s ∷ sums) (row ∷ rows) h = (row-with us t s row h.0, rows-with us t sums rows h.1)

-- ---- a term is taken

true-first : (a b c : Bool) → (a && b) ≡ c → a ≡ true → b ≡ c
true-first true b c h e = h
true-first false b c h e = absurd (let other : false ≡ true = e in cc)

false-first : (a b c : Bool) → (a && b) ≡ c → a ≡ false → c ≡ false
false-first true b c h e = absurd (let other : true ≡ false = e in cc)
false-first false b c h e = sym h

total-order : (a b s r c : Bool) → ((s && (a && b)) && r) ≡ c → (a && (b && (s && r))) ≡ c
total-order true true s r c h = ap (λ x. x && r) (sym (and-true s)) ∙ h
total-order true false s r c h = sym (ap (λ x. x && r) (and-turn s false)) ∙ h
total-order false b s r c h = sym (ap (λ x. x && r) (and-turn s false)) ∙ h

multiple-order : (n a s r c : Bool) → ((s && (n && a)) && r) ≡ c → n ≡ true → (a && (s && r)) ≡ c
multiple-order true true s r c h e = ap (λ x. x && r) (sym (and-true s)) ∙ h
multiple-order true false s r c h e = sym (ap (λ x. x && r) (and-turn s false)) ∙ h
multiple-order false a s r c h e = absurd (let other : false ≡ true = e in cc)

multiple-false : (n a s r c : Bool) → ((s && (n && a)) && r) ≡ c → n ≡ false → c ≡ false
multiple-false true a s r c h e = absurd (let other : true ≡ false = e in cc)
multiple-false false a s r c h e = sym (sym (ap (λ x. x && r) (and-turn s false)) ∙ h)

pub number-small : (us : List TermTree) (z : ℤ) → row_fits (number_row z) ≡ sum_is_small (number_sum z)
number-small us z = row-size us (number_sum z) (number_row z) (number-is us z)

atom-small : (us : List TermTree) (t : TermTree) → sum_is_small (atom_sum t) ≡ true
atom-small us t = sym (row-size (with_atom us t) (atom_sum t) (atom_row (atom_number (with_atom us t) t)) (atom-is (with_atom us t) t (has-with us t)))

open-comes : (goal : Goal) (t : TermTree) (s : Shape) → ByShape t s → opened_fits s ≡ true → (steps : List Step) (rows : List Row) (atoms : List TermTree)
    → ComesTo goal (step.Term t ∷ steps) rows atoms → ComesTo goal (opened_steps s steps) (opened_rows s t atoms rows) (opened_atoms s t atoms)
unfolding sum_after are_small_after atoms_after
open-comes goal t (a_number z) by fit steps rows atoms c = record {
  sums = number_sum z ∷ c.sums;
  stand = (number-is atoms z, c.stand);
  fit = and_true (row_fits (number_row z)) (list_all row_fits rows) fit c.fit;
  sum = subst (λ s. sum_after steps (s ∷ c.sums) ≡ Some goal.sum) by.sum c.sum;
  small = true-first (terms_small t) (are_small_after steps (number_sum z ∷ c.sums)) goal.small (subst (λ s. (terms_small t && are_small_after steps (s ∷ c.sums)) ≡ goal.small) by.sum c.small)
      (by.small ∙ sym (number-small atoms z) ∙ fit);
  numbered = ap (atoms_after steps) (sym (with_atoms-none atoms)) ∙ subst (λ s. atoms_after steps (with_atoms atoms s.multiples) ≡ goal.atoms) by.sum c.numbered;
}
open-comes goal t (a_total u w) by fit steps rows atoms c = record {
  sums = c.sums;
  stand = c.stand;
  fit = c.fit;
  sum = subst (λ s. sum_after steps (s ∷ c.sums) ≡ Some goal.sum) by.sum c.sum;
  small = total-order (terms_small u) (terms_small w) (sum_is_small (total (sum_of u) (sum_of w))) (are_small_after steps (total (sum_of u) (sum_of w) ∷ c.sums)) goal.small
      (ap (λ b. b && are_small_after steps (total (sum_of u) (sum_of w) ∷ c.sums)) (sym by.small) ∙ subst (λ s. (terms_small t && are_small_after steps (s ∷ c.sums)) ≡ goal.small) by.sum c.small);
  numbered = ap (atoms_after steps) (sym (with_atoms-append atoms (sum_of u).multiples (sum_of w).multiples))
      ∙ subst (λ s. atoms_after steps (with_atoms atoms s.multiples) ≡ goal.atoms) by.sum c.numbered;
}
open-comes goal t (a_difference u w) by fit steps rows atoms c = record {
  sums = c.sums;
  stand = c.stand;
  fit = c.fit;
  sum = subst (λ s. sum_after steps (s ∷ c.sums) ≡ Some goal.sum) by.sum c.sum;
  small = total-order (terms_small u) (terms_small w) (sum_is_small (difference (sum_of u) (sum_of w))) (are_small_after steps (difference (sum_of u) (sum_of w) ∷ c.sums)) goal.small
      (ap (λ b. b && are_small_after steps (difference (sum_of u) (sum_of w) ∷ c.sums)) (sym by.small) ∙ subst (λ s. (terms_small t && are_small_after steps (s ∷ c.sums)) ≡ goal.small) by.sum c.small);
  numbered = ap (atoms_after steps) (sym (with_atoms-append atoms (sum_of u).multiples (scaled_multiples (negsuc 0) (sum_of w).multiples) ∙ with_atoms-scaled (with_atoms atoms (sum_of u).multiples) (negsuc 0) (sum_of w).multiples))
      ∙ subst (λ s. atoms_after steps (with_atoms atoms s.multiples) ≡ goal.atoms) by.sum c.numbered;
}
open-comes goal t (a_multiple z u) by fit steps rows atoms c = record {
  sums = c.sums;
  stand = c.stand;
  fit = c.fit;
  sum = subst (λ s. sum_after steps (s ∷ c.sums) ≡ Some goal.sum) by.sum c.sum;
  small = multiple-order (sum_is_small (number_sum z)) (terms_small u) (sum_is_small (scaled_sum z (sum_of u))) (are_small_after steps (scaled_sum z (sum_of u) ∷ c.sums)) goal.small
      (ap (λ b. b && are_small_after steps (scaled_sum z (sum_of u) ∷ c.sums)) (sym by.small) ∙ subst (λ s. (terms_small t && are_small_after steps (s ∷ c.sums)) ≡ goal.small) by.sum c.small)
      (sym (number-small atoms z) ∙ fit);
  numbered = ap (atoms_after steps) (sym (with_atoms-scaled atoms z (sum_of u).multiples))
      ∙ subst (λ s. atoms_after steps (with_atoms atoms s.multiples) ≡ goal.atoms) by.sum c.numbered;
}
open-comes goal t an_atom by fit steps rows atoms c = record {
  sums = atom_sum t ∷ c.sums;
  stand = (atom-is (with_atom atoms t) t (has-with atoms t), rows-with atoms t c.sums rows c.stand);
  fit = c.fit;
  sum = subst (λ s. sum_after steps (s ∷ c.sums) ≡ Some goal.sum) by.sum c.sum;
  small = true-first (terms_small t) (are_small_after steps (atom_sum t ∷ c.sums)) goal.small (subst (λ s. (terms_small t && are_small_after steps (s ∷ c.sums)) ≡ goal.small) by.sum c.small)
      (by.small ∙ atom-small atoms t);
  numbered = ap (atoms_after steps) (sym (with_atoms-one atoms t)) ∙ subst (λ s. atoms_after steps (with_atoms atoms s.multiples) ≡ goal.atoms) by.sum c.numbered;
}

open-wide : (goal : Goal) (t : TermTree) (s : Shape) → ByShape t s → opened_fits s ≡ false → (steps : List Step) (rows : List Row) (atoms : List TermTree)
    → ComesTo goal (step.Term t ∷ steps) rows atoms → goal.small ≡ false
unfolding sum_after are_small_after atoms_after
open-wide goal t (a_number z) by wide steps rows atoms c = false-first (terms_small t) (are_small_after steps (sum_of t ∷ c.sums)) goal.small c.small (by.small ∙ sym (number-small atoms z) ∙ wide)
open-wide goal t (a_multiple z u) by wide steps rows atoms c = multiple-false (sum_is_small (number_sum z)) (terms_small u) (sum_is_small (scaled_sum z (sum_of u))) (are_small_after steps (sum_of t ∷ c.sums)) goal.small
    (ap (λ b. b && are_small_after steps (sum_of t ∷ c.sums)) (sym by.small) ∙ c.small) (sym (number-small atoms z) ∙ wide)
open-wide goal t (a_total u w) by wide steps rows atoms c = absurd (let other : true ≡ false = wide in cc)
open-wide goal t (a_difference u w) by wide steps rows atoms c = absurd (let other : true ≡ false = wide in cc)
open-wide goal t an_atom by wide steps rows atoms c = absurd (let other : true ≡ false = wide in cc)

pub term-taken : (goal : Goal) (t : TermTree) (steps more : List Step) (rows done : List Row) (atoms numbered : List TermTree) (result : Result (Unit {0}) RowFail)
    → ComesTo goal (step.Term t ∷ steps) rows atoms → IsOpened (shape_of t) t steps rows atoms result more done numbered → GoesOn goal result more done numbered
term-taken goal t steps more rows done atoms numbered (Ok u) c h =
    subst (λ l. ComesTo goal l done numbered) (sym h.steps_are) (subst (λ l. ComesTo goal (opened_steps (shape_of t) steps) l numbered) (sym h.rows_are)
    (subst (λ l. ComesTo goal (opened_steps (shape_of t) steps) (opened_rows (shape_of t) t atoms rows) l) (sym h.atoms_are)
    (open-comes goal t (shape_of t) (by-shape t) h.fits steps rows atoms c)))
term-taken goal t steps more rows done atoms numbered (Err Wide) c h = open-wide goal t (shape_of t) (by-shape t) h steps rows atoms c
term-taken goal t steps more rows done atoms numbered (Err NoMemory) c h = tt

-- ---- an operation is taken

minus-one-sum : (r l c : ℤ) (m : ℤ) → m ≡ neg_ℤ l +ℤ pos 1 → r +ℤ m ≡ neg_ℤ l +ℤ (r +ℤ pos 1)
minus-one-sum r l c m e = omega (arith, ints)

less-one : (l : ℤ) → neg_ℤ (l -ℤ pos 1) ≡ neg_ℤ l +ℤ pos 1
less-one l = omega (arith, ints)

swap : (p q : ℤ) → p +ℤ q ≡ q +ℤ (p +ℤ pos 0)
swap p q = omega (arith, ints)

turned-row : (us : List TermTree) (s r : Sum) (left right : Row) → IsSumRow us s left → IsSumRow us r right → IsSumRow us (turned s r) (plus_times right (negsuc 0) (less_one left))
turned-row us s r left right one two = record {
  in_form = From-sums (negsuc 0) right.parts 0 left.parts two.in_form one.in_form;
  parts = λ point. dot-sums point (negsuc 0) right.parts left.parts ∙ ap₂ (λ y z. y +ℤ negsuc 0 *ℤ z) (two.parts point) (one.parts point)
      ∙ swap (at_point point us r.multiples) (negsuc 0 *ℤ at_point point us s.multiples)
      ∙ sym (weighed-append (λ t. point (atom_number us t)) (scaled_multiples (negsuc 0) s.multiples) (r.multiples ++ [])
      ∙ ap₂ (λ y z. y +ℤ z) (weighed-scaled (λ t. point (atom_number us t)) (negsuc 0) s.multiples) (weighed-append (λ t. point (atom_number us t)) r.multiples []));
  bound = ap₂ (λ y z. y +ℤ negsuc 0 *ℤ (z -ℤ pos 1)) two.bound one.bound
      ∙ minus-one-sum r.constant s.constant (pos 0) (negsuc 0 *ℤ (s.constant -ℤ pos 1)) (minus-one (s.constant -ℤ pos 1) ∙ less-one s.constant)
      ∙ ap (λ z. z +ℤ (r.constant +ℤ pos 1)) (sym (minus-one s.constant));
  numbered = list_all-append (λ (m : Multiple). has_atom us m.0) (scaled_multiples (negsuc 0) s.multiples) (r.multiples ++ [])
      ∙ and_true (have_numbers us (scaled_multiples (negsuc 0) s.multiples)) (have_numbers us (r.multiples ++ [])) (numbers-scaled us (negsuc 0) s.multiples one.numbered)
      (ap (have_numbers us) (append-nil r.multiples) ∙ two.numbered);
}

-- behind an operation stands the row of its sum
record IsBehind (o : Operation) (atoms : List TermTree) (sums : List Sum) (rows : List Row) : Type 0 where
  stand : AllZip (IsSumRow atoms) (sums_behind o sums) (rows_behind o rows)
  size : first_fits (rows_behind o rows) ≡ first_small (sums_behind o sums)
  rest : first_fits (rows_behind o rows) ≡ true → list_all row_fits (rows_behind o rows) ≡ true
  enough : operands o ≤ length rows
  sum : (steps : List Step) → sum_after (step.Apply o ∷ steps) sums ≡ sum_after steps (sums_behind o sums)

two-there : {X : Type 0} (x y : X) (xs : List X) → 2 ≤ length (x ∷ (y ∷ xs))
two-there x y xs = omega arith

one-there : {X : Type 0} (x : X) (xs : List X) → 1 ≤ length (x ∷ xs)
one-there x xs = omega arith

drop-two : (a b c : Bool) → (a && (b && c)) ≡ true → c ≡ true
drop-two a b c h = and_right b c (and_right a (b && c) h)

behind : (o : Operation) (atoms : List TermTree) (sums : List Sum) (rows : List Row) (steps : List Step) (s : Sum) → AllZip (IsSumRow atoms) sums rows → list_all row_fits rows ≡ true
    → sum_after (step.Apply o ∷ steps) sums ≡ Some s → IsBehind o atoms sums rows
unfolding sum_after
behind operation.Add atoms (r ∷ l ∷ sums) (right ∷ left ∷ rows) steps s h fit e =
    let row = total-is atoms l r left right h.1.0 h.0 in record {
      stand = (row, h.1.1);
      size = row-size atoms (total l r) (plus_times left (pos 1) right) row;
      rest = λ k. and_true (row_fits (plus_times left (pos 1) right)) (list_all row_fits rows) k (drop-two (row_fits right) (row_fits left) (list_all row_fits rows) fit);
      enough = two-there right left rows;
      sum = λ steps. refl;
    }
behind operation.Subtract atoms (r ∷ l ∷ sums) (right ∷ left ∷ rows) steps s h fit e =
    let row = plus-is atoms l r left right (negsuc 0) h.1.0 h.0 in record {
      stand = (row, h.1.1);
      size = row-size atoms (difference l r) (plus_times left (negsuc 0) right) row;
      rest = λ k. and_true (row_fits (plus_times left (negsuc 0) right)) (list_all row_fits rows) k (drop-two (row_fits right) (row_fits left) (list_all row_fits rows) fit);
      enough = two-there right left rows;
      sum = λ steps. refl;
    }
behind operation.Turn atoms (r ∷ l ∷ sums) (right ∷ left ∷ rows) steps s h fit e =
    let row = turned-row atoms l r left right h.1.0 h.0 in record {
      stand = (row, h.1.1);
      size = row-size atoms (turned l r) (plus_times right (negsuc 0) (less_one left)) row;
      rest = λ k. and_true (row_fits (plus_times right (negsuc 0) (less_one left))) (list_all row_fits rows) k (drop-two (row_fits right) (row_fits left) (list_all row_fits rows) fit);
      enough = two-there right left rows;
      sum = λ steps. refl;
    }
behind (operation.Scale z) atoms (s ∷ sums) (row ∷ rows) steps goal h fit e =
    let made = scaled-is atoms s row z h.0 in record {
      stand = (made, h.1);
      size = row-size atoms (scaled_sum z s) (plus_times (number_row (pos 0)) z row) made;
      rest = λ k. and_true (row_fits (plus_times (number_row (pos 0)) z row)) (list_all row_fits rows) k (and_right (row_fits row) (list_all row_fits rows) fit);
      enough = one-there row rows;
      sum = λ steps. refl;
    }
behind operation.Add atoms [] rows steps s h fit e = absurd cc
behind operation.Add atoms (r ∷ []) rows steps s h fit e = absurd cc
behind operation.Add atoms (r ∷ l ∷ sums) [] steps s h fit e = absurd h
behind operation.Add atoms (r ∷ l ∷ sums) (row ∷ []) steps s h fit e = absurd h.1
behind operation.Subtract atoms [] rows steps s h fit e = absurd cc
behind operation.Subtract atoms (r ∷ []) rows steps s h fit e = absurd cc
behind operation.Subtract atoms (r ∷ l ∷ sums) [] steps s h fit e = absurd h
behind operation.Subtract atoms (r ∷ l ∷ sums) (row ∷ []) steps s h fit e = absurd h.1
behind operation.Turn atoms [] rows steps s h fit e = absurd cc
behind operation.Turn atoms (r ∷ []) rows steps s h fit e = absurd cc
behind operation.Turn atoms (r ∷ l ∷ sums) [] steps s h fit e = absurd h
behind operation.Turn atoms (r ∷ l ∷ sums) (row ∷ []) steps s h fit e = absurd h.1
behind (operation.Scale z) atoms [] rows steps s h fit e = absurd cc
behind (operation.Scale z) atoms (r ∷ sums) [] steps s h fit e = absurd h

comes-behind : (goal : Goal) (o : Operation) (steps : List Step) (rows : List Row) (atoms : List TermTree) (c : ComesTo goal (step.Apply o ∷ steps) rows atoms) → IsBehind o atoms c.sums rows
comes-behind goal o steps rows atoms c = behind o atoms c.sums rows steps goal.sum c.stand c.fit c.sum

pub enough-rows : (goal : Goal) (o : Operation) (steps : List Step) (rows : List Row) (atoms : List TermTree) → ComesTo goal (step.Apply o ∷ steps) rows atoms → operands o ≤ length rows
enough-rows goal o steps rows atoms c = (comes-behind goal o steps rows atoms c).enough

pub operation-taken : (goal : Goal) (o : Operation) (steps : List Step) (rows new : List Row) (atoms : List TermTree) (result : Result (Unit {0}) RowFail)
    → ComesTo goal (step.Apply o ∷ steps) rows atoms → IsApplied (rows_behind o rows) result new → GoesOn goal result steps (reverse new) atoms
unfolding are_small_after atoms_after
operation-taken goal o steps rows new atoms (Ok u) c h =
    let b = comes-behind goal o steps rows atoms c in
    subst (λ l. ComesTo goal steps l atoms) (sym h.0) (record {
      sums = sums_behind o c.sums;
      stand = b.stand;
      fit = b.rest h.1;
      sum = sym (b.sum steps) ∙ c.sum;
      small = true-first (first_small (sums_behind o c.sums)) (are_small_after steps (sums_behind o c.sums)) goal.small c.small (sym b.size ∙ h.1);
      numbered = c.numbered;
    })
operation-taken goal o steps rows new atoms (Err Wide) c h =
    let b = comes-behind goal o steps rows atoms c in
    false-first (first_small (sums_behind o c.sums)) (are_small_after steps (sums_behind o c.sums)) goal.small c.small (sym b.size ∙ h)
operation-taken goal o steps rows new atoms (Err NoMemory) c h = tt
