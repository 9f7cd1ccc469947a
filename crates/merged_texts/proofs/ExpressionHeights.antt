-- The printed text of an expression is no higher than the tree that it was read from: brackets that grouping needs
-- stood in the tree.
use Rattle.std.specs.Prelude.{◌≡◌, ◌≤◌, ◌+◌, max, ℕ, nat_lt, Bool, true, false, cond, map}
use Rattle.std.proofs.Common.{refl, arith}
use Rattle.std.proofs.lemmas.Bool.{le-ltb}
use Rattle.c_lang.specs.Operators.{level}
use Rattle.c_lang.specs.Trees.{Expression, literal, variable, binary, expression_of}
use Rattle.c_lang.specs.Trees as mirrored
use Rattle.c_lang.proofs.TreeLemmas.{expression_of-Lit, expression_of-Var, expression_of-Elem, expression_of-Neg, expression_of-Not, expression_of-Bin}
use Rattle.c_grammar.specs.Expressions.{Tree, number, name, element, brackets, negation, logical_not, joined, height, IsGrouped, expr_of}
use Rattle.c_grammar.specs.Expressions as e
use Rattle.c_grammar.specs.Separated.{Separated, last, more, parts_of, Each}
use Rattle.c_grammar.specs.Statements.{Arguments, nothing, given, AreArguments, exprs_of, part_height, tallest}
use Rattle.merge_printer.specs.Expressions.{binds}
use Rattle.merge_printer.specs.Heights.{height_in_place, expression_height, arguments_height}

-- its height, and that in a place that asks for no more than the tree has
pub record IsLow (a : Expression) (least_most high : ℕ) : Type 0 where
  pub low : expression_height a ≤ high
  pub placed : (least : ℕ) → least ≤ least_most → height_in_place least (binds a) (expression_height a) ≤ high

-- no brackets where it binds tightly enough
unbracketed : (least binding h : ℕ) → least ≤ binding → height_in_place least binding h ≡ h
unbracketed least binding h le = rw (le-ltb _ _ le) refl

placed_most : (least binding h : ℕ) → height_in_place least binding h ≤ h + 1
placed_most least binding h = by_test (nat_lt binding least)
  where
    by_test : (b : Bool) → cond b (h + 1) h ≤ h + 1
    by_test true = omega arith
    by_test false = omega arith

of_height : (a : Expression) (high : ℕ) → expression_height a ≤ high → IsLow a (binds a) high
of_height a high le = record { low = le; placed = λ least few. omega (arith, le, unbracketed least (binds a) (expression_height a) few) }

abbrev pub mirror : Tree → Expression
mirror t = expression_of (expr_of t)

pub tree_low : (t : Tree) → IsGrouped t → IsLow (mirror t) (e.binds t) (height t)
tree_low (number at z) h = rw (expression_of-Lit z) (of_height (literal z) 1 (omega arith))
tree_low (name at x) h = rw (expression_of-Var x) (of_height (variable x) 1 (omega arith))
tree_low (element at x o t c) h =
    let index = tree_low t h in
    rw (expression_of-Elem x (expr_of t)) (of_height (mirrored.element x (mirror t)) (height t + 1) (omega (arith, index.low)))
tree_low (brackets o t c) h =
    let inner = tree_low t h in
    record {
      low = omega (arith, inner.low);
      placed = λ least few. omega (arith, inner.low, placed_most least (binds (mirror t)) (expression_height (mirror t)));
    }
tree_low (negation at t) h =
    let inner = (tree_low t h.1).placed 7 h.0 in
    rw (expression_of-Neg (expr_of t)) (of_height (mirrored.negation (mirror t)) (height t + 1) (omega (arith, inner)))
tree_low (logical_not at t) h =
    let inner = (tree_low t h.1).placed 7 h.0 in
    rw (expression_of-Not (expr_of t)) (of_height (mirrored.logical_not (mirror t)) (height t + 1) (omega (arith, inner)))
tree_low (joined a at o b) h =
    let left = (tree_low a h.2).placed (level o) h.0 in
    let right = (tree_low b h.3).placed (level o + 1) (omega (arith, h.1)) in
    rw (expression_of-Bin o (expr_of a) (expr_of b)) (of_height (binary o (mirror a) (mirror b)) (max (height a) (height b) + 1) (omega (arith, left, right)))

-- ---- arguments

several_low : (ts : Separated Tree) → Each IsGrouped ts → arguments_height (map expression_of (map expr_of (parts_of ts))) ≤ max 1 (tallest ts)
several_low (last t) h = let one = (tree_low t h).low in omega (arith, one)
several_low (more t at ts) h =
    let one = (tree_low t h.0).low in
    let rest = several_low ts h.1 in
    omega (arith, one, rest)

pub arguments_low : (a : Arguments) → AreArguments a → arguments_height (map expression_of (exprs_of a)) ≤ part_height a
arguments_low nothing h = omega arith
arguments_low (given ts) h = several_low ts h
