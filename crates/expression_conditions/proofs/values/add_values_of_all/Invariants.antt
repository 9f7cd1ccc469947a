use Rattle.std.proofs.Common.{◌≡◌, ◌||◌, map, drop}
use Rattle.c_lang.specs.Names.{Bytes}
use Rattle.c_lang.specs.Trees.{expression_of}
use Rattle.expression_conditions.specs.Candidates.{some_names}
use Rattle.expression_conditions.specs.Code.Sets.{has}
use Rattle.expression_conditions.proofs.values.add_values_of_all.Given as goal

abbrev pub invariant-loop-expr : goal.invariant-loop-expr
invariant-loop-expr l = (x : Bytes)
    → (some_names x (map expression_of l.exprs) || has l.initial.set x) ≡ (some_names x (map expression_of (drop l.expr-index l.exprs)) || has l.set x)
