use Rattle.std.proofs.Common.{take}
use Rattle.linear_certs.specs.Answers.{coordinate}
use Rattle.linear_certs.specs.Code.Limits.{IsBest}
use Rattle.linear_certs.proofs.limit.tightest.Given as goal

abbrev pub invariant-loop-entry : goal.invariant-loop-entry
invariant-loop-entry l = IsBest l.lower l.atom (coordinate l.nums) l.den (take l.entry-index l.entries) l.best
