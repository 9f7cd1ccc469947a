use Rattle.std.proofs.Common.{drop}
use Rattle.cert_checker.specs.Code.Combined.{IsAdding}
use Rattle.cert_checker.proofs.combination.combined.Given as goal

abbrev pub invariant-loop-pair : goal.invariant-loop-pair
invariant-loop-pair l = IsAdding l.fn.facts l.fn.pairs (drop l.pair-index l.fn.pairs) l.sum l.atoms.items
