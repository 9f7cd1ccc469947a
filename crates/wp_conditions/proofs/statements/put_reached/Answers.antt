use Rattle.std.proofs.Common.{◌≡◌, OnOk, List, map, length, sym, ap, subst, ◌∙◌, rules}
use Rattle.std.proofs.lemmas.List.{length-map}
use Rattle.c_lang.specs.Trees.{expression_of}
use Rattle.c_lang.specs.Names.{Bytes}
use Rattle.c_lang.specs.declared.program.Func.{Func}
use Rattle.expression_conditions.specs.Meanings.{val}
use Rattle.expression_conditions.specs.Numbers.{numbers_in}
use Rattle.weakest_preconditions.specs.Wp.{Condition, implies, is_function, asked}
use Rattle.symbolic_state.specs.Steps.{finished}
use Rattle.wp_conditions.specs.Code.Edges.{context_for}
use Rattle.wp_conditions.specs.Code.Growing.{grown_each}
use Rattle.wp_conditions.proofs.GrowingLaws.{each_is}
use Rattle.wp_conditions.proofs.statements.put_reached.Goals as goal

pub returns-clause-made : goal.returns-clause-made
returns-clause-made c =
    let asks : Bytes → List Condition = λ f. implies (is_function (context_for c.args.site.now) c.args.pointer.now f)
    (asked (context_for c.args.site.now) c.args.pos f (map (val (numbers_in c.args.site.now.0)) (map expression_of c.args.args.now))) in
    let funcs : map (λ (d : Func). d.name) (map (λ f. f.now) c.deref.result.now) ≡ (context_for c.args.site.now).reached (length c.args.args.now) = search rules in
    let count : length c.args.args.now ≡ length (map expression_of c.args.args.now) = sym (length-map c.args.args.now expression_of) in
    subst (λ m. OnOk c.put_asked_all.result (c.put_asked_all.new.made ≡ m))
    (ap (grown_each c.args.site.now.0 c.args.site.now.2 c.args.made.now (λ f. map (finished c.args.state.now) (asks f))) (funcs ∙ ap (context_for c.args.site.now).reached count)
    ∙ each_is c.args.site.now.0 c.args.site.now.2 c.args.made.now (finished c.args.state.now) asks ((context_for c.args.site.now).reached (length (map expression_of c.args.args.now))))
    c.put_asked_all.ensures.made
