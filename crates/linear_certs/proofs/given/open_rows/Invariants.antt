use Rattle.std.proofs.Common.{◌≡◌, take, length, []}
use Rattle.std.specs.List.{All}
use Rattle.linear_certs.specs.Stages.{kept_once, opened}
use Rattle.linear_certs.specs.Code.Building.{IsGood}
use Rattle.linear_certs.proofs.given.open_rows.Given as goal

abbrev pub invariant-loop-number : goal.invariant-loop-number
invariant-loop-number l = (l.kept.items ≡ kept_once [] (opened (length l.rows) 0 (take l.number l.rows))) × All (IsGood l.rows) l.kept.items
