use Rattle.std.proofs.Common.{length, get_or, ap, ◌∙◌, arith}
use Rattle.std.proofs.Math.Dec.{ltb}
use Rattle.control_flow.proofs.GraphLaws.{look}
use Rattle.control_flow.proofs.graph.Graph.node.Goals as goal

pub returns : goal.returns
returns c = look c.args.self.now c.args.number c.get.result c.args.self.now.ordered
    (c.get.ensures.lookup.0 ∙ ap (λ l. ltb c.args.number (length l)) c.deref.ensures.value)
    (λ d. c.get.ensures.lookup.4 (omega arith) d ∙ ap (λ l. get_or l c.args.number d) c.deref.ensures.value)
