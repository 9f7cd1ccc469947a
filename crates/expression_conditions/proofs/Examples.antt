use Rattle.std.proofs.Common.{◌≡◌, refl, pos, negsuc, [], ◌∷◌, codes}
use Rattle.c_lang.specs.Names.{Bytes}
use Rattle.c_lang.specs.Trees.{Expression, literal, variable, element, negation, logical_not, binary}
use Rattle.c_lang.specs.declared.expr.Op.TheVariants as op
use Rattle.terms.specs.declared.sequent.What.TheVariants as what
use Rattle.terms.specs.Trees.{TermTree, number, name, plus, minus, divided, remainder, read, truth, array, FormTree, at_most, equal, denied, both, either}
use Rattle.expression_conditions.specs.Numbers.{Numbers}
use Rattle.expression_conditions.specs.Meanings.{val, form, current}
use Rattle.expression_conditions.specs.Owed.{own}

abbrev n : Numbers
n = record { function = λ f. pos 3; length = λ a. pos 8 }

abbrev x : Bytes
x = codes "x"

abbrev y : Bytes
y = codes "y"

-- x < 8 && y % x == 0
abbrev e : Expression
e = binary op.And (binary op.Lt (variable x) (literal (pos 8))) (binary op.Eq (binary op.Rem (variable y) (variable x)) (literal (pos 0)))

a1 : form n e ≡ both (at_most (plus (name (current x)) (number (pos 1))) (number (pos 8))) (equal (remainder (name (current y)) (name (current x))) (number (pos 0)))
a1 = refl

a2 : val n e ≡ truth (form n e)
a2 = refl

abbrev hyp : FormTree
hyp = at_most (plus (name (current x)) (number (pos 1))) (number (pos 8))

a3 : own n e ≡ (record { given = hyp ∷ []; goal = denied (equal (name (current x)) (number (pos 0))); what = what.Divide }) ∷ ((record { given = hyp ∷ []; goal = both (at_most (number (negsuc 2147483647)) (divided (name (current y)) (name (current x)))) (at_most (divided (name (current y)) (name (current x))) (number (pos 2147483647))); what = what.Overflow }) ∷ [])
a3 = refl

-- ! a[x] || -x
abbrev o : Expression
o = binary op.Or (logical_not (element y (variable x))) (negation (variable x))

abbrev r : TermTree
r = read (array (current y)) (name (current x))

b1 : form n o ≡ either (denied (denied (equal r (number (pos 0))))) (denied (equal (minus (number (pos 0)) (name (current x))) (number (pos 0))))
b1 = refl

b2 : own n o ≡ (record { given = []; goal = both (at_most (number (pos 0)) (name (current x))) (at_most (name (current x)) (number (pos 7))); what = what.Index })
    ∷ ((record { given = denied (denied (denied (equal r (number (pos 0))))) ∷ []; goal = both (at_most (number (negsuc 2147483647)) (minus (number (pos 0)) (name (current x)))) (at_most (minus (number (pos 0)) (name (current x))) (number (pos 2147483647))); what = what.Overflow }) ∷ [])
b2 = refl
