use Rattle.std.proofs.Common.{◌∙◌}
use Rattle.loop_invariants.proofs.ListingLaws.{some_value}
use Rattle.loop_invariants.proofs.assigned.Listing.misses_reached.Goals as goal

pub returns : goal.returns
returns c = c.misses_assigned_by.ensures ∙ some_value c.args.self.now c.args.arity
