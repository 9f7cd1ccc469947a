use Rattle.std.proofs.Common.{◌≡◌, take}
use Rattle.loop_invariants.proofs.copy.copied_contracts.Given as goal

abbrev pub invariant-loop-entry : goal.invariant-loop-entry
invariant-loop-entry l = l.made.items ≡ take l.entry-index l.contracts
