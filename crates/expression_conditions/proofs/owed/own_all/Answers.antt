use Rattle.std.proofs.Common.{◌≡◌, map, ap, ◌∙◌}
use Rattle.std.proofs.lemmas.Result.{IfOk-weaker}
use Rattle.c_lang.specs.Trees.{expression_of}
use Rattle.expression_conditions.specs.Numbers.{Numbers}
use Rattle.expression_conditions.specs.Owed as spec
use Rattle.expression_conditions.specs.Code.Due.{due_owed}
use Rattle.expression_conditions.specs.Code.Seen.{formulas}
use Rattle.expression_conditions.proofs.DueLaws.{due-all}
use Rattle.expression_conditions.proofs.owed.own_all.Goals as goal

pub returns : goal.returns
returns c = IfOk-weaker c.gather_all.result _ (λ all. (n : Numbers) → formulas n all.items ≡ spec.own_all n (map expression_of c.args.exprs.now))
    (λ all is n. ap (map (due_owed n)) is ∙ due-all n (map expression_of c.args.exprs.now)) c.gather_all.ensures
