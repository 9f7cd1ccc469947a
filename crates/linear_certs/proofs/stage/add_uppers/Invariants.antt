use Rattle.std.proofs.Common.{◌≡◌, take, []}
use Rattle.std.specs.Prelude.{filter}
use Rattle.std.specs.List.{All, flat_map}
use Rattle.linear_certs.specs.Stages.{kept_once, pairs_of, is_upper, lacks}
use Rattle.linear_certs.specs.Code.Building.{IsGood}
use Rattle.linear_certs.proofs.stage.add_uppers.Given as goal

abbrev pub invariant-loop-upper : goal.invariant-loop-upper
invariant-loop-upper l = (l.next.items ≡ kept_once (kept_once [] (filter (lacks l.atom) l.stage)) (flat_map (pairs_of l.atom l.stage) (filter (is_upper l.atom) (take l.upper-index l.stage)))) × All (IsGood l.rows) l.next.items
