-- The conditions that expressions owe, in the order of evaluation: the left operand's, the right one's, the operator's.
use Rattle.std.specs.Prelude.{ℤ, pos, negsuc, ◌-ℤ◌, List, [], ◌∷◌, ◌++◌, map, flat_map}
use Rattle.c_lang.specs.Names.{Bytes}
use Rattle.c_lang.specs.Trees.{Expression, literal, variable, element, function, null, negation, logical_not, binary}
use Rattle.c_lang.specs.declared.expr.Op.{Op}
use Rattle.c_lang.specs.declared.expr.Op.TheVariants as op
use Rattle.terms.specs.declared.sequent.What.{What}
use Rattle.terms.specs.declared.sequent.What.TheVariants as what
use Rattle.terms.specs.Trees.{TermTree, number, plus, minus, times, divided, FormTree, at_most, equal, denied, both}
use Rattle.expression_conditions.specs.Numbers.{Numbers}
use Rattle.expression_conditions.specs.Meanings.{val, form}

-- what has to hold, where what is given holds
pub record Owed : Type 0 where
  pub given : List FormTree
  pub goal : FormTree
  pub what : What

-- one that nothing is given for
abbrev pub owed : FormTree → What → Owed
owed f w = record { given = []; goal = f; what = w }

-- the same, where one thing more is given
abbrev pub under : FormTree → Owed → Owed
under f o = record o { given = f ∷ o.given }

abbrev pub least_int : ℤ
least_int = negsuc 2147483647

abbrev pub greatest_int : ℤ
greatest_int = pos 2147483647

-- the number fits an `int`
abbrev pub fits : TermTree → Owed
fits t = owed (both (at_most (number least_int) t) (at_most t (number greatest_int))) what.Overflow

abbrev pub is_divisor : TermTree → Owed
is_divisor t = owed (denied (equal t (number (pos 0)))) what.Divide

-- the index is one of an array's
abbrev pub is_index : Numbers → Bytes → TermTree → Owed
is_index n a i = owed (both (at_most (number (pos 0)) i) (at_most i (number (n.length a -ℤ pos 1)))) what.Index

-- what an operator owes, its operands aside; of a remainder the quotient has to fit
abbrev pub operator_owes : Op → TermTree → TermTree → List Owed
operator_owes op.Add t u = fits (plus t u) ∷ []
operator_owes op.Sub t u = fits (minus t u) ∷ []
operator_owes op.Mul t u = fits (times t u) ∷ []
operator_owes op.Div t u = is_divisor u ∷ (fits (divided t u) ∷ [])
operator_owes op.Rem t u = is_divisor u ∷ (fits (divided t u) ∷ [])
operator_owes o t u = []

-- what a right operand owes behind a left one: `&&` and `||` evaluate it only where the left one doesn't decide
abbrev pub behind : Op → FormTree → List Owed → List Owed
behind op.And left l = map (under left) l
behind op.Or left l = map (under (denied left)) l
behind o left l = l

abbrev pub own : Numbers → Expression → List Owed
own n (literal z) = []
own n (variable x) = []
own n (element a i) = own n i ++ (is_index n a (val n i) ∷ [])
own n (function f) = []
own n null = []
own n (negation e) = own n e ++ (fits (minus (number (pos 0)) (val n e)) ∷ [])
own n (logical_not e) = own n e
own n (binary o a b) = own n a ++ (behind o (form n a) (own n b) ++ operator_owes o (val n a) (val n b))

-- expressions one after the other
abbrev pub own_all : Numbers → List Expression → List Owed
own_all n es = flat_map (own n) es

-- an assignment of the value e to the element i of a
abbrev pub own_element : Numbers → Bytes → Expression → Expression → List Owed
own_element n a i e = own n i ++ (own n e ++ (is_index n a (val n i) ∷ []))
