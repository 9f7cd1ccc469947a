use Rattle.std.proofs.Common.{◌≡◌, [], drop}
use Rattle.std.specs.Option.{option_copied}
use Rattle.terms.specs.Code.Rewriting.{change_of, change_below, put_nodes}
use Rattle.terms.proofs.replace.replaced_nodes.Given as goal

abbrev pub invariant-loop-node : goal.invariant-loop-node
invariant-loop-node l =
    put_nodes (change_below (option_copied l.bound) (change_of l.by)) l.out.items (drop l.node-index l.nodes)
    ≡ put_nodes (change_below (option_copied l.bound) (change_of l.by)) [] l.nodes
