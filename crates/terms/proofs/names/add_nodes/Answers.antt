use Rattle.std.proofs.Common.{◌≤◌, length, arith}
use Rattle.std.specs.Option.{option_copied}
use Rattle.terms.specs.Code.Occurrences.{node_names}
use Rattle.terms.proofs.FreeLaws.{gather_more, gather_end}
use Rattle.terms.proofs.names.add_nodes.Goals as goal

pub loop-node-preserved : goal.loop-node-preserved
loop-node-preserved c = gather_more (λ n. node_names (option_copied c.args.bound) n.kind) c.args.names.now.items c.loop-node.names.items c.add_node.new.names.items c.args.nodes.now c.loop-node.node-index c.node-item.result
    c.loop-node-test.true c.node-item.is c.loop-node.invariant c.in_ok-add_node.ensures

pub returns : goal.returns
returns c =
    let past : length c.args.nodes.now ≤ c.loop-node.node-index = omega (arith, c.loop-node-test.false) in
    gather_end (λ n. node_names (option_copied c.args.bound) n.kind) c.args.names.now.items c.loop-node.names.items c.args.nodes.now c.loop-node.node-index past c.loop-node.invariant
