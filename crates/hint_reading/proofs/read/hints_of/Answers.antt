use Rattle.std.proofs.Common.{sym, subst}
use Rattle.loop_invariants.specs.Hints.{HintsBind}
use Rattle.hint_reading.proofs.FitLaws.{items_bind}
use Rattle.hint_reading.proofs.read.hints_of.Goals as goal

pub into_hints-requires : goal.into_hints-requires
into_hints-requires c = subst HintsBind (sym c.in_ok-parts.ensures.1) (items_bind c.args.names.now c.args.items.now c.in_ok-parts.ensures.0)
