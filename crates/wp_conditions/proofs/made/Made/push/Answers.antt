use Rattle.std.proofs.Common.{◌≡◌, ◌+◌, ◌≤◌, sym, subst}
use Rattle.terms.specs.Sizes.{sequent_size}
use Rattle.weakest_preconditions.specs.Conditions.{node_limit, sequents_size}
use Rattle.wp_conditions.specs.Code.Growing.{HasRoom}
use Rattle.wp_conditions.proofs.GrowingLaws.{grows}
use Rattle.wp_conditions.proofs.made.Made.push.Goals as goal

pub invariant_of-self-2 : goal.invariant_of-self-2
invariant_of-self-2 c =
    subst (λ l. (c.self.inside.nodes + c.size-size.result ≡ sequents_size l) × (sequents_size l ≤ node_limit)) (sym c.in_ok-push.ensures.items)
    (grows c.self.inside.is_full c.self.inside.list.items c.args.sequent c.self.inside.nodes c.size-size.result
    (subst (λ m. HasRoom m (sequent_size c.args.sequent)) (sym c.self.view_is) c.requires) c.self.invariant.0 c.self.invariant.1 c.size-size.ensures)
