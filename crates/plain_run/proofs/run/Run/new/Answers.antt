use Rattle.std.proofs.Common.{map, reverse, ap₂, ap}
use Rattle.plain_run.specs.Steps.{Live}
use Rattle.plain_run.specs.Code.Frames.{seen_frame}
use Rattle.plain_run.proofs.run.Run.new.Goals as goal

pub returns-clause-config : goal.returns-clause-config
returns-clause-config g c = λ N.
    let see = g.E.Look.seen in
    ap₂ (λ t fs. Live (g.E.Look.state c.args.environment) t fs) (c.in_ok-top.ensures N) (ap (λ items. reverse (map (seen_frame see) items)) c.new.ensures.items)
