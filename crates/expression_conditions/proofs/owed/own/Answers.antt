use Rattle.std.proofs.Common.{◌++◌, [], map, ap, ◌∙◌}
use Rattle.c_lang.specs.Trees.{expression_of}
use Rattle.expression_conditions.specs.Code.Due.{due_owed, due}
use Rattle.expression_conditions.specs.Code.Seen.{seen_owed}
use Rattle.expression_conditions.proofs.DueLaws.{due-own}
use Rattle.expression_conditions.proofs.owed.own.Goals as goal

pub returns : goal.returns
returns c = λ n.
    let e = expression_of c.args.expr.now in
    ap (map (due_owed n)) (c.in_ok-gather.ensures ∙ ap (λ items. map seen_owed items ++ due [] e) c.new-all.ensures.items)
    ∙ due-own n e
