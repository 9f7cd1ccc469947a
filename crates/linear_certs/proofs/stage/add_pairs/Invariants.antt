use Rattle.std.proofs.Common.{◌≡◌, take}
use Rattle.std.specs.List.{All}
use Rattle.linear_certs.specs.Stages.{kept_once, pairs_of}
use Rattle.linear_certs.specs.Code.Building.{IsGood}
use Rattle.linear_certs.proofs.stage.add_pairs.Given as goal

abbrev pub invariant-loop-lower : goal.invariant-loop-lower
invariant-loop-lower l = (l.next.items ≡ kept_once l.fn.next.items (pairs_of l.atom (take l.lower-index l.stage) l.upper)) × All (IsGood l.rows) l.next.items
