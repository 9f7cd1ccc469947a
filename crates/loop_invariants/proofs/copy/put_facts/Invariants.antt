use Rattle.std.proofs.Common.{◌≡◌, ◌++◌, take}
use Rattle.loop_invariants.proofs.copy.put_facts.Given as goal

abbrev pub invariant-loop-fact : goal.invariant-loop-fact
invariant-loop-fact l = l.out.items ≡ l.initial.out.items ++ take l.fact-index l.facts
