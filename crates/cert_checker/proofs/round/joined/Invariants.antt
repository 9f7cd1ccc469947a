use Rattle.std.proofs.Common.{◌≡◌, map, take}
use Rattle.std.specs.List.{fold}
use Rattle.terms.specs.Trees.{plus}
use Rattle.cert_checker.specs.Code.Rounding.{part_term}
use Rattle.cert_checker.proofs.round.joined.Given as goal

abbrev pub invariant-loop-part : goal.invariant-loop-part
invariant-loop-part l = l.sum ≡ fold plus l.initial.sum (map (part_term l.fn.atoms l.fn.by) (take l.part-index l.rest))
