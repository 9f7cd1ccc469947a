-- The rows of comparisons.
use Rattle.std.proofs.Common.{◌≡◌, ◌∙◌, zero, suc, ℤ, pos, negsuc, neg_ℤ, Bool, true, false, ◌&&◌, List, [], ◌∷◌, ◌++◌, reverse, Option, Some, None, Ok, Err, ap, ap₂, sym, subst, refl}
use Rattle.std.specs.Prelude.{unsigned_abs, option_and_then, is_some, if◌then◌else◌}
use Rattle.std.specs.List.{list_all}
use Rattle.std.proofs.lemmas.List.{append-nil}
use Rattle.std.proofs.lemmas.List.Folds.{list_all-append}
use Rattle.linear_rows.specs.declared.row.Row.{Row}
use Rattle.linear_rows.specs.declared.row.RowFail.{RowFail}
use Rattle.linear_rows.specs.declared.row.RowFail.TheVariants.{NoMemory, Wide}
use Rattle.linear_rows.specs.Numbers.{fits}
use Rattle.linear_rows.specs.Sums.{all_fit}
use Rattle.terms.specs.Trees.{TermTree, FormTree, at_most, equal, denied}
use Rattle.terms.specs.Valuations.{is_small}
use Rattle.cert_checker.specs.declared.row.Comparison.{Comparison}
use Rattle.cert_checker.specs.declared.row.Relation.{Relation}
use Rattle.cert_checker.specs.declared.row.Relation.TheVariants as relation
use Rattle.cert_checker.specs.declared.step.Step.{Step}
use Rattle.cert_checker.specs.declared.step.Step.TheVariants as step
use Rattle.cert_checker.specs.declared.step.Operation.{Operation}
use Rattle.cert_checker.specs.Linear.{Multiple, Sum, scaled_multiples, difference, sum_of, sum_is_small, are_small, linear_terms}
use Rattle.cert_checker.specs.Rows.{Line, line_is_small, line_of, has_small_numbers, row_of}
use Rattle.cert_checker.specs.Numbering.{with_atoms, IsRow, IsRowOf}
use Rattle.cert_checker.specs.Code.Steps.{turned, sum_after, are_small_after, atoms_after, Goal, ComesTo, HasGoal, IsMade, Makes}
use Rattle.cert_checker.specs.Code.Comparisons.{comparison_of, operation_of, compared_sum, line_by, line_in, is_small_comparison, IsCompared, is_equality, at_zero, steps_of}
use Rattle.cert_checker.proofs.Choices.{and_left, and_right, and_true}
use Rattle.cert_checker.proofs.SizeLaws.{small-fits}
use Rattle.cert_checker.proofs.GoalLaws.{with_atoms-append, with_atoms-scaled, and-turn}

same-size : (z : ℤ) → unsigned_abs (neg_ℤ z) ≡ unsigned_abs z
same-size (pos zero) = refl
same-size (pos (suc n)) = refl
same-size (negsuc n) = refl

neg-small : (z : ℤ) → is_small (neg_ℤ z) ≡ is_small z
unfolding is_small
neg-small (pos zero) = refl
neg-small (pos (suc n)) = refl
neg-small (negsuc n) = refl

neg-fits : (z : ℤ) → fits (neg_ℤ z) ≡ fits z
neg-fits z = sym (small-fits (neg_ℤ z)) ∙ neg-small z ∙ small-fits z

-- ---- the goal of a comparison

abbrev pub goal_of : Comparison → List TermTree → Goal
goal_of c atoms = record { sum = compared_sum c.relation c.left c.right; small = are_small_after (steps_of c) []; atoms = atoms_after (steps_of c) atoms }

sum-is : (r : Relation) (t u : TermTree) → sum_after (steps_of (record { left = t; right = u; relation = r })) [] ≡ Some (compared_sum r t u)
unfolding sum_after
sum-is relation.AtMost t u = refl
sum-is relation.More t u = refl
sum-is relation.Equal t u = refl

pub comes-to : (c : Comparison) (atoms : List TermTree) → ComesTo (goal_of c atoms) (steps_of c) [] atoms
comes-to c atoms = record { sums = []; stand = tt; fit = refl; sum = sum-is c.relation c.left c.right; small = refl; numbered = refl }

pub has-goal : (c : Comparison) (atoms : List TermTree) (steps : List Step) → steps ≡ steps_of c → HasGoal steps [] atoms
has-goal c atoms steps e = subst (λ l. HasGoal l [] atoms) (sym e) (record { goal = goal_of c atoms; comes = comes-to c atoms })

abbrev small_terms : TermTree → Bool
small_terms t = list_all (λ w. sum_is_small (sum_of w)) (linear_terms t)

small-order : (a b s : Bool) → (a && (b && (s && true))) ≡ (s && (a && b))
small-order true true s = refl
small-order true false s = sym (and-turn s false)
small-order false b s = sym (and-turn s false)

small-steps : (r : Relation) (t u : TermTree) → are_small_after (steps_of (record { left = t; right = u; relation = r })) [] ≡ (sum_is_small (compared_sum r t u) && (small_terms t && small_terms u))
unfolding are_small_after
small-steps relation.AtMost t u = small-order (small_terms t) (small_terms u) (sum_is_small (difference (sum_of t) (sum_of u)))
small-steps relation.More t u = small-order (small_terms t) (small_terms u) (sum_is_small (turned (sum_of t) (sum_of u)))
small-steps relation.Equal t u = small-order (small_terms t) (small_terms u) (sum_is_small (difference (sum_of t) (sum_of u)))

small-line : (r : Relation) (s : Sum) → line_is_small (line_by r s) ≡ sum_is_small s
small-line relation.AtMost s = ap (λ b. are_small s.multiples && b) (neg-small s.constant)
small-line relation.More s = ap (λ b. are_small s.multiples && b) (neg-small s.constant)
small-line relation.Equal s = ap (λ b. are_small s.multiples && b) (neg-small s.constant)

small-is : (c : Comparison) (atoms : List TermTree) → (goal_of c atoms).small ≡ is_small_comparison c
small-is c atoms = small-steps c.relation c.left c.right ∙ ap₂ (λ a b. a && b) (sym (small-line c.relation (compared_sum c.relation c.left c.right)))
    (sym (list_all-append (λ w. sum_is_small (sum_of w)) (linear_terms c.left) (linear_terms c.right)))

atoms-both : (us : List TermTree) (k : ℤ) (xs ys : List Multiple) → with_atoms (with_atoms us xs) ys ≡ with_atoms us (xs ++ scaled_multiples k ys)
atoms-both us k xs ys = sym (with_atoms-append us xs (scaled_multiples k ys) ∙ with_atoms-scaled (with_atoms us xs) k ys)

atoms-turned : (us : List TermTree) (k : ℤ) (xs ys : List Multiple) → with_atoms (with_atoms us xs) ys ≡ with_atoms us (scaled_multiples k xs ++ (ys ++ []))
atoms-turned us k xs ys = sym (with_atoms-append us (scaled_multiples k xs) (ys ++ []) ∙ ap (λ l. with_atoms l (ys ++ [])) (with_atoms-scaled us k xs) ∙ ap (with_atoms (with_atoms us xs)) (append-nil ys))

atoms-are : (r : Relation) (t u : TermTree) (us : List TermTree) → atoms_after (steps_of (record { left = t; right = u; relation = r })) us ≡ with_atoms us (line_by r (compared_sum r t u)).multiples
unfolding atoms_after
atoms-are relation.AtMost t u us = atoms-both us (negsuc 0) (sum_of t).multiples (sum_of u).multiples
atoms-are relation.More t u us = atoms-turned us (negsuc 0) (sum_of t).multiples (sum_of u).multiples
atoms-are relation.Equal t u us = atoms-both us (negsuc 0) (sum_of t).multiples (sum_of u).multiples

line-row : (r : Relation) (s : Sum) (us : List TermTree) (row : Row) (c : Comparison) (atoms : List TermTree) → IsMade (record { sum = s; small = (goal_of c atoms).small; atoms = (goal_of c atoms).atoms }) row us
    → IsRow us (line_by r s) (at_zero row (is_equality r))
line-row relation.AtMost s us row c atoms made = record { in_form = made.is_row.in_form; fits = and_true (all_fit row.parts) (fits (neg_ℤ row.bound)) (and_left (all_fit row.parts) (fits row.bound) made.fits) (neg-fits row.bound ∙ and_right (all_fit row.parts) (fits row.bound) made.fits); parts = made.is_row.parts; bound = ap neg_ℤ made.is_row.bound; equal = refl }
line-row relation.More s us row c atoms made = record { in_form = made.is_row.in_form; fits = and_true (all_fit row.parts) (fits (neg_ℤ row.bound)) (and_left (all_fit row.parts) (fits row.bound) made.fits) (neg-fits row.bound ∙ and_right (all_fit row.parts) (fits row.bound) made.fits); parts = made.is_row.parts; bound = ap neg_ℤ made.is_row.bound; equal = refl }
line-row relation.Equal s us row c atoms made = record { in_form = made.is_row.in_form; fits = and_true (all_fit row.parts) (fits (neg_ℤ row.bound)) (and_left (all_fit row.parts) (fits row.bound) made.fits) (neg-fits row.bound ∙ and_right (all_fit row.parts) (fits row.bound) made.fits); parts = made.is_row.parts; bound = ap neg_ℤ made.is_row.bound; equal = refl }

pub compared-row : (c : Comparison) (old new : List TermTree) (sum row : Row) → row ≡ at_zero sum (is_equality c.relation) → IsMade (goal_of c old) sum new → IsCompared c old (Ok row) new
compared-row c old new sum row is made = (
  subst (IsRow new (line_in c)) (sym is) (line-row c.relation (compared_sum c.relation c.left c.right) new sum c old made),
  sym (small-is c old) ∙ made.small,
  made.atoms_are ∙ atoms-are c.relation c.left c.right old,
)

pub compared-fails : (c : Comparison) (old new : List TermTree) (fail : RowFail) → Makes (goal_of c old) (Err fail) new → IsCompared c old (Err fail) new
compared-fails c old new Wide h = sym (small-is c old) ∙ h
compared-fails c old new NoMemory h = tt

pub steps-are : (c : Comparison) (steps items : List Step) (o : Operation) → steps ≡ step.Term c.left ∷ (step.Term c.right ∷ (step.Apply o ∷ reverse items)) → o ≡ operation_of c.relation → items ≡ [] → steps ≡ steps_of c
steps-are c steps items o e same none = e ∙ ap₂ (λ p l. step.Term c.left ∷ (step.Term c.right ∷ (step.Apply p ∷ reverse l))) same none

-- ---- the row of a form

record SaysLine (f : FormTree) (c : Comparison) : Type 0 where
  line : line_of f ≡ Some (line_in c)
  small : has_small_numbers f (line_in c) ≡ is_small_comparison c

abbrev TellsLine : FormTree → Option Comparison → Type 0
TellsLine f None = line_of f ≡ None
TellsLine f (Some c) = SaysLine f c

tells : (f : FormTree) → TellsLine f (comparison_of f)
tells (at_most t u) = record { line = refl; small = refl }
tells (equal t u) = record { line = refl; small = refl }
tells (denied (at_most t u)) = record { line = refl; small = refl }
tells (denied f) = refl
tells f = refl

row-kept : (f : FormTree) (line : Line) → line_of f ≡ Some line → has_small_numbers f line ≡ true → row_of f ≡ Some line
row-kept f line e h = ap (λ o. option_and_then (λ l. if has_small_numbers f l then Some l else None) o) e ∙ ap (λ b. if b then Some line else None) h

row-lost : (f : FormTree) (line : Line) → line_of f ≡ Some line → has_small_numbers f line ≡ false → row_of f ≡ None
row-lost f line e h = ap (λ o. option_and_then (λ l. if has_small_numbers f l then Some l else None) o) e ∙ ap (λ b. if b then Some line else None) h

pub no-row : (f : FormTree) → None ≡ comparison_of f → line_of f ≡ None
no-row f e = subst (TellsLine f) (sym e) (tells f)

pub form-row : (f : FormTree) (c : Comparison) (old new : List TermTree) (row : Row) → Some c ≡ comparison_of f → IsCompared c old (Ok row) new → IsRowOf f old (Ok (Some row)) new
form-row f c old new row e h = let says : SaysLine f c = subst (TellsLine f) (sym e) (tells f) in (line_in c, row-kept f (line_in c) says.line (says.small ∙ h.1), h.0, h.2)

pub form-fails : (f : FormTree) (c : Comparison) (old new kept : List TermTree) (fail : RowFail) → Some c ≡ comparison_of f → IsCompared c old (Err fail) new → kept ≡ old → IsRowOf f old (Err fail) kept
form-fails f c old new kept Wide e h same = let says : SaysLine f c = subst (TellsLine f) (sym e) (tells f) in (ap is_some says.line, row-lost f (line_in c) says.line (says.small ∙ h), same)
form-fails f c old new kept NoMemory e h same = same
