-- The conditions that an expression owes, by the expressions that they speak of.
use Rattle.std.specs.Prelude.{List, [], ◌∷◌, ◌++◌, map}
use Rattle.c_lang.specs.Names.{Bytes}
use Rattle.c_lang.specs.Trees.{Expression, literal, variable, element, function, null, negation, logical_not, binary}
use Rattle.c_lang.specs.declared.expr.Op.{Op}
use Rattle.c_lang.specs.declared.expr.Op.TheVariants as op
use Rattle.terms.specs.declared.sequent.What.{What}
use Rattle.terms.specs.declared.sequent.What.TheVariants as what
use Rattle.terms.specs.Trees.{FormTree, divided, denied}
use Rattle.expression_conditions.specs.Numbers.{Numbers}
use Rattle.expression_conditions.specs.Meanings.{val, form}
use Rattle.expression_conditions.specs.Owed.{Owed, fits, is_divisor, is_index}

-- an operand of `&&` that holds, or one of `||` that doesn't
pub data Given : Type 0 where
  holds : Expression → Given
  fails : Expression → Given

pub data Goal : Type 0 where
  in_range : Expression → Goal
  quotient_in_range : Expression → Expression → Goal
  not_zero : Expression → Goal
  within : Bytes → Expression → Goal

pub record Due : Type 0 where
  pub given : List Given
  pub goal : Goal

-- ---- their formulas

abbrev pub given_form : Numbers → Given → FormTree
given_form n (holds e) = form n e
given_form n (fails e) = denied (form n e)

abbrev pub goal_owed : Numbers → Goal → Owed
goal_owed n (in_range e) = fits (val n e)
goal_owed n (quotient_in_range a b) = fits (divided (val n a) (val n b))
goal_owed n (not_zero e) = is_divisor (val n e)
goal_owed n (within a i) = is_index n a (val n i)

abbrev pub goal_what : Goal → What
goal_what (in_range e) = what.Overflow
goal_what (quotient_in_range a b) = what.Overflow
goal_what (not_zero e) = what.Divide
goal_what (within a i) = what.Index

abbrev pub due_owed : Numbers → Due → Owed
due_owed n d = record (goal_owed n d.goal) { given = map (given_form n) d.given }

-- ---- which there are, where something is given already

-- an operator's own, where the whole expression is e
abbrev pub operator_due : List Given → Op → Expression → Expression → Expression → List Due
operator_due g op.Add e a b = (record { given = g; goal = in_range e }) ∷ []
operator_due g op.Sub e a b = (record { given = g; goal = in_range e }) ∷ []
operator_due g op.Mul e a b = (record { given = g; goal = in_range e }) ∷ []
operator_due g op.Div e a b = (record { given = g; goal = not_zero b }) ∷ ((record { given = g; goal = quotient_in_range a b }) ∷ [])
operator_due g op.Rem e a b = (record { given = g; goal = not_zero b }) ∷ ((record { given = g; goal = quotient_in_range a b }) ∷ [])
operator_due g o e a b = []

-- what is given where a right operand is evaluated
abbrev pub given_right : List Given → Op → Expression → List Given
given_right g op.And a = g ++ (holds a ∷ [])
given_right g op.Or a = g ++ (fails a ∷ [])
given_right g o a = g

abbrev pub due : List Given → Expression → List Due
due g (literal z) = []
due g (variable x) = []
due g (element a i) = due g i ++ ((record { given = g; goal = within a i }) ∷ [])
due g (function f) = []
due g null = []
due g (negation e) = due g e ++ ((record { given = g; goal = in_range (negation e) }) ∷ [])
due g (logical_not e) = due g e
due g (binary o a b) = due g a ++ (due (given_right g o a) b ++ operator_due g o (binary o a b) a b)
