use Rattle.std.proofs.Common.{◌≡◌, drop}
use Rattle.std.specs.Option.{option_copied}
use Rattle.terms.specs.Names.{with_names}
use Rattle.terms.specs.Code.Occurrences.{nodes_names}
use Rattle.terms.proofs.names.add_nodes.Given as goal

abbrev pub invariant-loop-node : goal.invariant-loop-node
invariant-loop-node l =
    with_names l.initial.names.items (nodes_names (option_copied l.bound) l.nodes)
    ≡ with_names l.names.items (nodes_names (option_copied l.bound) (drop l.node-index l.nodes))
