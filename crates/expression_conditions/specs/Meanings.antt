-- What an expression stands for in formulas, where each name stands for its current value.
use Rattle.std.specs.Prelude.{pos}
use Rattle.c_lang.specs.Names.{Bytes}
use Rattle.c_lang.specs.Trees.{Expression, literal, variable, element, function, null, negation, logical_not, binary}
use Rattle.c_lang.specs.declared.expr.Op.{Op}
use Rattle.c_lang.specs.declared.expr.Op.TheVariants as op
use Rattle.terms.specs.declared.sym.Sym.{Sym}
use Rattle.terms.specs.Trees.{TermTree, number, name, plus, minus, times, divided, remainder, read, truth, array, FormTree, at_most, equal, denied, both, either}
use Rattle.expression_conditions.specs.declared.meaning.Meaning.{Meaning}
use Rattle.expression_conditions.specs.declared.meaning.Meaning.TheVariants as meant
use Rattle.expression_conditions.specs.Numbers.{Numbers}

-- a condition as a number
abbrev pub as_number : Meaning → TermTree
as_number (meant.Number t) = t
as_number (meant.Condition f) = truth f

-- a number as a condition
abbrev pub as_condition : Meaning → FormTree
as_condition (meant.Number t) = denied (equal t (number (pos 0)))
as_condition (meant.Condition f) = f

-- `t < u`
abbrev pub below : TermTree → TermTree → FormTree
below t u = at_most (plus t (number (pos 1))) u

abbrev pub operated : Op → Meaning → Meaning → Meaning
operated op.Mul a b = meant.Number (times (as_number a) (as_number b))
operated op.Div a b = meant.Number (divided (as_number a) (as_number b))
operated op.Rem a b = meant.Number (remainder (as_number a) (as_number b))
operated op.Add a b = meant.Number (plus (as_number a) (as_number b))
operated op.Sub a b = meant.Number (minus (as_number a) (as_number b))
operated op.Lt a b = meant.Condition (below (as_number a) (as_number b))
operated op.Le a b = meant.Condition (at_most (as_number a) (as_number b))
operated op.Gt a b = meant.Condition (below (as_number b) (as_number a))
operated op.Ge a b = meant.Condition (at_most (as_number b) (as_number a))
operated op.Eq a b = meant.Condition (equal (as_number a) (as_number b))
operated op.Ne a b = meant.Condition (denied (equal (as_number a) (as_number b)))
operated op.And a b = meant.Condition (both (as_condition a) (as_condition b))
operated op.Or a b = meant.Condition (either (as_condition a) (as_condition b))

-- the current value of a name
abbrev pub current : Bytes → Sym
current x = record { base = x; count = 0 }

abbrev pub meaning : Numbers → Expression → Meaning
meaning n (literal z) = meant.Number (number z)
meaning n (variable x) = meant.Number (name (current x))
meaning n (element a i) = meant.Number (read (array (current a)) (as_number (meaning n i)))
meaning n (function f) = meant.Number (number (n.function f))
meaning n null = meant.Number (number (pos 0))
meaning n (negation e) = meant.Number (minus (number (pos 0)) (as_number (meaning n e)))
meaning n (logical_not e) = meant.Condition (denied (as_condition (meaning n e)))
meaning n (binary o a b) = operated o (meaning n a) (meaning n b)

-- the expression as a number, and as a condition
abbrev pub val : Numbers → Expression → TermTree
val n e = as_number (meaning n e)

abbrev pub form : Numbers → Expression → FormTree
form n e = as_condition (meaning n e)
