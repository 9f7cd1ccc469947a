-- Worked examples, computed.
use Rattle.std.proofs.Common.{◌≡◌, ℕ, pos, negsuc, true, List, [], ◌∷◌, map, length, codes, Some, refl}
use Rattle.std.specs.Fmt.{digits}
use Rattle.c_lang.specs.Names.{Bytes}
use Rattle.c_lang.specs.Trees.{Expression, literal, variable, binary, Statements, set, call, call_by, if_else, while_loop, return_with, assert_that, input, output, none, more}
use Rattle.c_lang.specs.declared.expr.Op.TheVariants as op
use Rattle.c_lang.specs.declared.unit.Pos.{Pos}
use Rattle.c_lang.specs.declared.unit.Unit.TheVariants as unit
use Rattle.c_lang.specs.declared.stmt.Kind.TheVariants as kind
use Rattle.c_lang.specs.declared.stmt.Dest.TheVariants as dest
use Rattle.terms.specs.declared.fact.Fact.{Fact}
use Rattle.terms.specs.declared.fact.Fact.TheVariants as fact
use Rattle.terms.specs.declared.sequent.What.TheVariants as what
use Rattle.terms.specs.Trees.{TermTree, number, name, plus, read, array, at_most, equal, denied, both}
use Rattle.expression_conditions.specs.Meanings.{current}
use Rattle.loop_invariants.specs.EntryNames.{bound, global_at_entry, result_base, parameter_at_entry}
use Rattle.loop_invariants.specs.Context.{Context}
use Rattle.weakest_preconditions.specs.Annotating.{start, annotated_all}
use Rattle.weakest_preconditions.specs.Wp.{Condition, wp_all}
use Rattle.weakest_preconditions.specs.Conditions.{elements_are}

abbrev at : ℕ → Pos
at n = record { unit = unit.Old; line = n }

abbrev x : Bytes
x = codes "x"

abbrev g : Bytes
g = codes "g"

abbrev f : Bytes
f = codes "f"

abbrev h : Bytes
h = codes "h"

-- f asks `$1 <= 5`, promises `$r == pre(g)` and `$r == $1`, and may change g; h is another function that p may reach
abbrev c : Context
c = record {
  numbers = record { function = λ y. pos 7; length = λ a. pos 3 };
  globals = g ∷ [];
  gives = λ y. true;
  needs = λ y. fact.Plain (at_most (name (parameter_at_entry 1)) (number (pos 5))) ∷ [];
  promises = λ y. fact.Plain (equal (name (current result_base)) (name (global_at_entry g))) ∷ (fact.Plain (equal (name (current result_base)) (name (parameter_at_entry 1))) ∷ []);
  assigns = λ y. g ∷ [];
  reached = λ n. f ∷ (h ∷ []);
  invariants = λ y n. fact.Plain (at_most (number (pos 0)) (name (current x))) ∷ [];
}

abbrev conditions_of : Statements → List Condition
conditions_of body = wp_all c f (annotated_all c f start body) [] []

abbrev fits : TermTree → Fact
fits t = fact.Plain (both (at_most (number (negsuc 2147483647)) t) (at_most t (number (pos 2147483647))))

abbrev goal : ℕ → List Fact → Fact → Condition
goal n hyps f = record { hyps = hyps; goal = f; label = record { pos = at n; what = what.Assert } }

abbrev declares : ℕ → Expression → Statements → Statements
declares n e rest = more (set (at n) (dest.Fresh kind.Int x) e) rest

-- `int x = 1; client_out(x + 1);` has one condition
one_overflow : conditions_of (declares 1 (literal (pos 1)) (more (output (at 2) (binary op.Add (variable x) (literal (pos 1)))) none))
    ≡ record { hyps = []; goal = fits (plus (number (pos 1)) (number (pos 1))); label = record { pos = at 2; what = what.Overflow } } ∷ []
one_overflow = refl

abbrev k_is_one : Expression
k_is_one = binary op.Eq (variable (codes "k")) (literal (pos 1))

abbrev choosing : ℕ → Statements → Statements
choosing n rest = more (if_else (at n) k_is_one (more (set (at n) (dest.Into x) (literal (pos 2))) none) none) rest

-- three `if`s before an `assert` make eight conditions
eight : length (conditions_of (more (input (at 1) (dest.Fresh kind.Int (codes "k"))) (declares 2 (literal (pos 0))
    (choosing 3 (choosing 4 (choosing 5 (more (assert_that (at 6) (literal (pos 1))) none))))))) ≡ 8
eight = refl

-- behind a call that may change g, `g` is another value than before; an argument and what g was are in the promises
behind_a_call : conditions_of (declares 1 (variable g) (more (call (at 2) dest.Nowhere f (literal (pos 4) ∷ []))
    (more (assert_that (at 3) (binary op.Eq (variable g) (variable x))) none)))
    ≡ record { hyps = []; goal = fact.Plain (at_most (number (pos 4)) (number (pos 5))); label = record { pos = at 2; what = what.Requires } }
    ∷ (goal 3 (fact.Plain (equal (name (record { base = result_base; count = 1 })) (name (current g)))
    ∷ (fact.Plain (equal (name (record { base = result_base; count = 1 })) (number (pos 4))) ∷ []))
    (fact.Plain (equal (name (record { base = g; count = 1 })) (name (current g)))) ∷ [])
unfolding digits
behind_a_call = refl

-- a loop asks its invariants where it begins and where its body goes round, and has fresh names inside and behind it
around_a_loop : conditions_of (declares 1 (literal (pos 0)) (more (while_loop (at 2) (binary op.Le (variable x) (literal (pos 9)))
    (more (set (at 3) (dest.Into x) (literal (pos 4))) none)) (more (assert_that (at 5) (literal (pos 1))) none)))
    ≡ record { hyps = []; goal = fact.Plain (at_most (number (pos 0)) (number (pos 0))); label = record { pos = at 2; what = what.InvariantEntry } }
    ∷ (record {
      hyps = fact.Plain (at_most (number (pos 0)) (name (record { base = x; count = 1 }))) ∷ (fact.Plain (at_most (name (record { base = x; count = 1 })) (number (pos 9))) ∷ []);
      goal = fact.Plain (at_most (number (pos 0)) (number (pos 4)));
      label = record { pos = at 2; what = what.InvariantKept };
    }
    ∷ (goal 5 (fact.Plain (at_most (number (pos 0)) (name (record { base = x; count = 1 }))) ∷ (fact.Plain (denied (at_most (name (record { base = x; count = 1 })) (number (pos 9)))) ∷ []))
    (fact.Plain (denied (equal (number (pos 1)) (number (pos 0))))) ∷ []))
around_a_loop = refl

-- a call through a pointer: null, what each function asks, and what follows it once for each
through_a_pointer : length (conditions_of (more (call_by (at 1) dest.Nowhere (codes "p") (literal (pos 4) ∷ []))
    (more (assert_that (at 2) (literal (pos 1))) none))) ≡ 5
through_a_pointer = refl

-- a `return` gives each promise with its value
returning_three : map (λ s. s.goal) (conditions_of (more (return_with (at 1) (Some (literal (pos 3)))) none))
    ≡ fact.Plain (equal (number (pos 3)) (name (global_at_entry g))) ∷ (fact.Plain (equal (number (pos 3)) (name (parameter_at_entry 1))) ∷ [])
unfolding digits
returning_three = refl

-- `int a[3] = {1};` at the start
start_of_array : elements_are (current (codes "a")) 3 0 (pos 1 ∷ (pos 0 ∷ (pos 0 ∷ [])))
    ≡ fact.Plain (equal (read (array (current (codes "a"))) (number (pos 0))) (number (pos 1)))
    ∷ (fact.All bound (number (pos 1)) (number (pos 3)) (equal (read (array (current (codes "a"))) (name bound)) (number (pos 0))) ∷ [])
start_of_array = refl
