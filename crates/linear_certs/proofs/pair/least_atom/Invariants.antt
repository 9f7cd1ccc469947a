use Rattle.std.proofs.Common.{◌≡◌, drop}
use Rattle.linear_certs.specs.Stages.{smaller, least_atom}
use Rattle.linear_certs.proofs.pair.least_atom.Given as goal

abbrev pub invariant-loop-entry : goal.invariant-loop-entry
invariant-loop-entry l = least_atom l.entries ≡ smaller l.least (least_atom (drop l.entry-index l.entries))
