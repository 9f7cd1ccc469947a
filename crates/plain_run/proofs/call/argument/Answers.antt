use Rattle.std.proofs.Common.{Some, sym, ap, ◌∙◌}
use Rattle.std.proofs.lemmas.Option.{slice_get-get_or}
use Rattle.plain_run.proofs.CallLaws.{argument_at}
use Rattle.plain_run.proofs.call.argument.Goals as goal

pub returns-in-Some : goal.returns-in-Some
returns-in-Some g c =
    let v = c.in-Some.value.now in
    argument_at g.E.Look.seen.function c.args.args.now c.args.at v
    (ap Some (c.in-Some.ensures.lookup.3.1 v) ∙ sym (slice_get-get_or c.args.args.now c.args.at v c.in-Some.ensures.lookup.3.0))
