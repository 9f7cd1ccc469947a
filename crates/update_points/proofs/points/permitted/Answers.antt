use Rattle.std.proofs.Common.{ap}
use Rattle.std.specs.Option.{option_copied}
use Rattle.update_points.proofs.PointLaws.{permitted-is}
use Rattle.update_points.proofs.points.permitted.Goals as goal

pub returns-in_ok-set_of-in-Some : goal.returns-in_ok-set_of-in-Some
returns-in_ok-set_of-in-Some c =
    permitted-is c.args.numbers c.in-Some.listed.now c.in_ok-set_of-in-Some.field-0 (option_copied c.args.listed) c.are_points.result
    (ap option_copied c.in-Some.is) c.are_points.ensures c.if-not-are_points.false c.in_ok-set_of-in-Some.ensures
