use Rattle.std.proofs.Common.{◌≡◌, List, ◌∷◌, None, length, sym, subst, ap, ◌∙◌}
use Rattle.weakest_preconditions.specs.Wp.{Condition}
use Rattle.control_flow.specs.Seen.{conditions_in}
use Rattle.wp_conditions.specs.Code.Edges.{context_for}
use Rattle.wp_conditions.specs.Code.Growing.{grown}
use Rattle.wp_conditions.specs.Code.Waiting.{left, Stacked, seen_waiting, seen_stack}
use Rattle.wp_conditions.proofs.GrowingLaws.{full_stays}
use Rattle.wp_conditions.proofs.WalkLaws.{seen_pushed, is_none_of}
use Rattle.wp_conditions.proofs.walk.walk.Goals as goal

pub returns-then-is_full : goal.returns-then-is_full
returns-then-is_full c =
    let none : c.loop.made ≡ None = is_none_of c.loop.made c.if-is_full.ensures in
    let rest : List Condition = left (context_for c.args.site.now) (conditions_in c.args.graph.now) c.loop.state (seen_stack c.loop.waiting.items) in
    none ∙ sym (full_stays c.args.site.now.0 c.args.site.now.2 rest)
    ∙ ap (λ m. grown c.args.site.now.0 c.args.site.now.2 m rest) (sym none) ∙ c.loop.invariant.whole

pub go-requires-clause-stacked : goal.go-requires-clause-stacked
go-requires-clause-stacked c =
    let popped : seen_stack c.loop.waiting.items ≡ seen_waiting c.in-Some.entry ∷ seen_stack c.pop.new.self.items
    = ap seen_stack c.in-Some.ensures.items ∙ seen_pushed c.pop.new.self.items c.in-Some.entry in
    subst (λ ws. Stacked (length c.loop.state) ws) popped c.loop.invariant.stacked

pub loop-preserved : goal.loop-preserved
loop-preserved c =
    let popped : seen_stack c.loop.waiting.items ≡ seen_waiting c.in-Some.entry ∷ seen_stack c.pop.new.self.items
    = ap seen_stack c.in-Some.ensures.items ∙ seen_pushed c.pop.new.self.items c.in-Some.entry in
    record {
      whole = c.in_ok-go.ensures.made
          ∙ ap (λ ws. grown c.args.site.now.0 c.args.site.now.2 c.loop.made (left (context_for c.args.site.now) (conditions_in c.args.graph.now) c.loop.state ws)) (sym popped)
          ∙ c.loop.invariant.whole;
      stacked = c.in_ok-go.ensures.stacked;
    }
