use Rattle.std.proofs.Common.{◌≡◌, take, []}
use Rattle.std.specs.Prelude.{filter}
use Rattle.linear_certs.specs.Stages.{kept_once, lacks}
use Rattle.linear_certs.proofs.stage.lacking.Given as goal

abbrev pub invariant-loop-entry : goal.invariant-loop-entry
invariant-loop-entry l = l.next.items ≡ kept_once [] (filter (lacks l.atom) (take l.entry-index l.stage))
