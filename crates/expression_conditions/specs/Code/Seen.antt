-- What the code's conditions stand for.
use Rattle.std.specs.Prelude.{List, map}
use Rattle.c_lang.specs.Trees.{expression_of}
use Rattle.expression_conditions.specs.declared.owed.Given as code_given
use Rattle.expression_conditions.specs.declared.owed.Given.TheVariants as given
use Rattle.expression_conditions.specs.declared.owed.Goal as code_goal
use Rattle.expression_conditions.specs.declared.owed.Goal.TheVariants as goal
use Rattle.expression_conditions.specs.declared.owed.Owed as code
use Rattle.expression_conditions.specs.Numbers.{Numbers}
use Rattle.expression_conditions.specs.Owed.{Owed}
use Rattle.expression_conditions.specs.Code.Due.{Given, holds, fails, Goal, in_range, quotient_in_range, not_zero, within, Due, due_owed}

abbrev pub seen_given : code_given.Given → Given
seen_given (given.Holds e) = holds (expression_of e.now)
seen_given (given.Fails e) = fails (expression_of e.now)

abbrev pub seen_goal : code_goal.Goal → Goal
seen_goal (goal.InRange e) = in_range (expression_of e.now)
seen_goal (goal.QuotientInRange a b) = quotient_in_range (expression_of a.now) (expression_of b.now)
seen_goal (goal.NotZero e) = not_zero (expression_of e.now)
seen_goal (goal.Within a i) = within a.now (expression_of i.now)

abbrev pub seen_owed : code.Owed → Due
seen_owed o = record { given = map seen_given o.given; goal = seen_goal o.goal }

abbrev pub formulas : Numbers → List code.Owed → List Owed
formulas n all = map (due_owed n) (map seen_owed all)
