use Rattle.std.proofs.Common.{◌≡◌, [], drop}
use Rattle.terms.specs.Code.Rewriting.{put_nodes}
use Rattle.weakest_preconditions.specs.Changing.{change}
use Rattle.weakest_preconditions.specs.Conditions.{initial_numbers}
use Rattle.initial_conditions.proofs.numbers.nodes_at_start.Given as goal

-- the nodes so far and those to come
abbrev pub invariant-loop-node : goal.invariant-loop-node
invariant-loop-node l = put_nodes (change (initial_numbers l.names)) l.out.items (drop l.node-index l.nodes)
    ≡ put_nodes (change (initial_numbers l.names)) [] l.nodes
