use Rattle.std.proofs.Common.{◌≡◌, ◌||◌, drop}
use Rattle.c_lang.specs.Names.{Bytes}
use Rattle.terms.specs.Code.Occurrences.{nodes_pass}
use Rattle.expression_conditions.specs.Meanings.{current}
use Rattle.weakest_preconditions.specs.Conditions.{is_array}
use Rattle.initial_conditions.specs.Code.Arrays.{has}
use Rattle.initial_conditions.proofs.arrays.add_nodes.Given as goal

-- what is found so far and what is left give the whole
abbrev pub invariant-loop-node : goal.invariant-loop-node
invariant-loop-node l = (x : Bytes) →
    (has l.table x || nodes_pass (is_array (current x)) (drop l.node-index l.nodes)) ≡ (has l.initial.table x || nodes_pass (is_array (current x)) l.nodes)
