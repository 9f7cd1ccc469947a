-- Forms that have rows, by their two terms.
use Rattle.std.specs.Prelude.{◌≡◌, neg_ℤ, Bool, true, false, ◌&&◌, List, [], ◌∷◌, ◌++◌, Option, Some, None, Result, Ok, Err, ⊤}
use Rattle.std.specs.List.{list_all}
use Rattle.linear_rows.specs.declared.row.Row.{Row}
use Rattle.linear_rows.specs.declared.row.RowFail.{RowFail}
use Rattle.linear_rows.specs.declared.row.RowFail.TheVariants.{NoMemory, Wide}
use Rattle.terms.specs.Trees.{TermTree, FormTree, at_most, equal, denied}
use Rattle.cert_checker.specs.declared.row.Comparison.{Comparison}
use Rattle.cert_checker.specs.declared.row.Relation.{Relation}
use Rattle.cert_checker.specs.declared.row.Relation.TheVariants as relation
use Rattle.cert_checker.specs.declared.step.Step.{Step}
use Rattle.cert_checker.specs.declared.step.Step.TheVariants as step
use Rattle.cert_checker.specs.declared.step.Operation.{Operation}
use Rattle.cert_checker.specs.declared.step.Operation.TheVariants as operation
use Rattle.cert_checker.specs.Linear.{Sum, difference, sum_of, sum_is_small, linear_terms}
use Rattle.cert_checker.specs.Rows.{Line, at_most_zero, equal_to_zero, line_is_small}
use Rattle.cert_checker.specs.Numbering.{with_atoms, IsRow}
use Rattle.cert_checker.specs.Code.Steps.{turned}

abbrev pub comparison : Relation → TermTree → TermTree → Comparison
comparison r t u = record { left = t; right = u; relation = r }

abbrev pub denied_comparison : FormTree → Option Comparison
denied_comparison (at_most t u) = Some (comparison relation.More t u)
denied_comparison f = None

abbrev pub comparison_of : FormTree → Option Comparison
comparison_of (at_most t u) = Some (comparison relation.AtMost t u)
comparison_of (equal t u) = Some (comparison relation.Equal t u)
comparison_of (denied f) = denied_comparison f
comparison_of f = None

abbrev pub operation_of : Relation → Operation
operation_of relation.AtMost = operation.Subtract
operation_of relation.More = operation.Turn
operation_of relation.Equal = operation.Subtract

abbrev pub compared_sum : Relation → TermTree → TermTree → Sum
compared_sum relation.AtMost t u = difference (sum_of t) (sum_of u)
compared_sum relation.More t u = turned (sum_of t) (sum_of u)
compared_sum relation.Equal t u = difference (sum_of t) (sum_of u)

abbrev pub line_by : Relation → Sum → Line
line_by relation.AtMost s = at_most_zero s
line_by relation.More s = at_most_zero s
line_by relation.Equal s = equal_to_zero s

abbrev pub line_in : Comparison → Line
line_in c = line_by c.relation (compared_sum c.relation c.left c.right)

abbrev pub terms_are_small : TermTree → TermTree → Bool
terms_are_small t u = list_all (λ w. sum_is_small (sum_of w)) (linear_terms t ++ linear_terms u)

abbrev pub is_small_comparison : Comparison → Bool
is_small_comparison c = line_is_small (line_in c) && terms_are_small c.left c.right

-- the row of a comparison
abbrev pub IsCompared : Comparison → List TermTree → Result Row RowFail → List TermTree → Type 0
IsCompared c old (Ok row) new = IsRow new (line_in c) row × (is_small_comparison c ≡ true) × (new ≡ with_atoms old (line_in c).multiples)
IsCompared c old (Err Wide) new = is_small_comparison c ≡ false
IsCompared c old (Err NoMemory) new = ⊤

abbrev pub is_equality : Relation → Bool
is_equality relation.AtMost = false
is_equality relation.More = false
is_equality relation.Equal = true

-- a row of a sum that is at most 0, or is 0
abbrev pub at_zero : Row → Bool → Row
at_zero row b = record { parts = row.parts; bound = neg_ℤ row.bound; equal = b }

-- the steps of a comparison, the next first
abbrev pub steps_of : Comparison → List Step
steps_of c = step.Term c.left ∷ (step.Term c.right ∷ (step.Apply (operation_of c.relation) ∷ []))
