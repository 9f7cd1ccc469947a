use Rattle.std.proofs.Common.{◌≡◌, List, map, Some, ap, ◌∙◌, rules}
use Rattle.c_lang.specs.Names.{Bytes}
use Rattle.c_lang.specs.declared.stmt.Kind.{Kind}
use Rattle.plain_run.specs.Steps.{bound}
use Rattle.plain_run.specs.Code.Frames.{dest_of, seen_items}
use Rattle.plain_run.specs.Values.{seen_value}
use Rattle.plain_run.proofs.CallLaws.{frame-declared}
use Rattle.plain_run.proofs.call.frame_of.Goals as goal

pub returns-in_ok-locals-in-Some : goal.returns-in_ok-locals-in-Some
returns-in_ok-locals-in-Some g c = λ N.
    let see = g.E.Look.seen in
    let vs = map (seen_value see.function) c.args.args.now in
    let declared : c.args.definition.func ≡ Some c.in-Some.func = search rules in
    frame-declared see N c.args.definition c.in-Some.func vs (dest_of c.args.dest) c.in_ok-locals-in-Some.locals.entries (seen_items c.in_ok-rest-in-Some.rest.items)
    declared (λ x. c.in_ok-locals-in-Some.ensures x ∙ ap (λ (ps : List (Kind × Bytes)). bound ps vs x) c.as_slice.ensures) c.in_ok-rest-in-Some.ensures
