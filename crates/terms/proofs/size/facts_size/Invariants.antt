use Rattle.std.proofs.Common.{◌≡◌, ◌+◌, ◌-◌, ◌^◌, ◌≤◌, drop, min}
use Rattle.terms.specs.Sizes.{facts_size}
use Rattle.terms.proofs.size.facts_size.Given as goal

abbrev pub invariant-loop-fact : goal.invariant-loop-fact
invariant-loop-fact l =
    (l.total ≤ 2 ^ 64 - 1) × (min (l.total + facts_size (drop l.fact-index l.facts)) (2 ^ 64 - 1) ≡ min (facts_size l.facts) (2 ^ 64 - 1))
