use Rattle.std.proofs.Common.{◌≡◌, flat_map, take}
use Rattle.hint_reading.specs.Code.Parts.{facts_by}
use Rattle.hint_reading.proofs.clauses.facts_in.Given as goal

abbrev pub invariant-loop-clause : goal.invariant-loop-clause
invariant-loop-clause l = l.facts.items ≡ flat_map (λ c. facts_by l.role c.kind) (take l.clause-index l.clauses)
