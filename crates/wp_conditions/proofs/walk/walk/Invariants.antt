use Rattle.std.proofs.Common.{◌≡◌, map, length}
use Rattle.symbolic_state.specs.Steps.{finished}
use Rattle.control_flow.specs.Seen.{conditions_in}
use Rattle.wp_conditions.specs.Code.Edges.{context_for}
use Rattle.wp_conditions.specs.Code.Growing.{grown}
use Rattle.wp_conditions.specs.Code.Waiting.{left, Stacked, seen_stack}
use Rattle.wp_conditions.proofs.walk.walk.Given as goal

-- what is left leads to the whole
abbrev pub invariant-loop : goal.invariant-loop
invariant-loop l = record {
  whole : grown l.site.0 l.site.2 l.made (left (context_for l.site) (conditions_in l.graph) l.state (seen_stack l.waiting.items))
      ≡ grown l.site.0 l.site.2 l.initial.made (map (finished l.initial.state) (conditions_in l.graph l.graph.entry));
  stacked : Stacked (length l.state) (seen_stack l.waiting.items);
}
