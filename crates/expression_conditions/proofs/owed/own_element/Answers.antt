use Rattle.std.proofs.Common.{◌≡◌, ◌++◌, ◌∷◌, [], map, ap, ◌∙◌}
use Rattle.c_lang.specs.Trees.{expression_of}
use Rattle.expression_conditions.specs.Code.Due.{due_owed, due, within}
use Rattle.expression_conditions.specs.Code.Seen.{seen_owed}
use Rattle.expression_conditions.proofs.DueLaws.{due-element}
use Rattle.expression_conditions.proofs.owed.own_element.Goals as goal

pub returns : goal.returns
returns c = λ n.
    let i = expression_of c.args.index.now in
    let e = expression_of c.args.value.now in
    let first : map seen_owed c.gather.new.out.items ≡ due [] i =
    c.in_ok-gather.ensures ∙ ap (λ items. map seen_owed items ++ due [] i) c.new-all.ensures.items in
    let second : map seen_owed c.gather-2.new.out.items ≡ due [] i ++ due [] e =
    c.in_ok-gather-2.ensures ∙ ap (λ x. x ++ due [] e) first in
    ap (map (due_owed n)) (c.in_ok-push.ensures ∙ ap (λ x. x ++ (record { given = []; goal = within c.args.array.now i }) ∷ []) second)
    ∙ due-element n c.args.array.now i e
