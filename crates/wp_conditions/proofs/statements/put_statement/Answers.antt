use Rattle.std.proofs.Common.{◌≡◌, OnOk, map, sym, subst, ap, ◌∙◌}
use Rattle.c_lang.specs.Trees.{expression_of}
use Rattle.weakest_preconditions.specs.Annotated.{call, call_by}
use Rattle.annotated_bodies.specs.declared.annotated.Annotated.{out-Annotated}
use Rattle.annotated_bodies.specs.Seen.{seen_annotated}
use Rattle.wp_conditions.specs.Code.Edges.{context_for, here}
use Rattle.wp_conditions.specs.Code.Growing.{grown}
use Rattle.wp_conditions.proofs.SeenLaws.{seen_call, seen_call_by}
use Rattle.wp_conditions.proofs.statements.put_statement.Goals as goal

pub returns-in-Call-clause-made : goal.returns-in-Call-clause-made
returns-in-Call-clause-made c =
    let seen : seen_annotated c.args.annotated.now ≡ call c.in-Call.pos c.in-Call.dest c.in-Call.callee (map expression_of c.as_slice.result.now)
    (out-Annotated c.args.annotated.now).outcome (out-Annotated c.args.annotated.now).fresh
    = seen_call c.args.annotated.now c.in-Call.pos c.in-Call.dest c.in-Call.callee c.in-Call.args c.in-Call.is
    ∙ ap (λ es. call c.in-Call.pos c.in-Call.dest c.in-Call.callee (map expression_of es) (out-Annotated c.args.annotated.now).outcome (out-Annotated c.args.annotated.now).fresh) (sym c.as_slice.ensures) in
    subst (λ t. OnOk c.put_call.result (c.put_call.new.made ≡ grown c.args.site.now.0 c.args.site.now.2 c.args.made.now
    (here (context_for c.args.site.now) c.args.site.now.2.name t c.args.state.now))) (sym seen) c.put_call.ensures.made

pub returns-in-CallBy-clause-made : goal.returns-in-CallBy-clause-made
returns-in-CallBy-clause-made c =
    let seen : seen_annotated c.args.annotated.now ≡ call_by c.in-CallBy.pos c.in-CallBy.dest c.in-CallBy.pointer (map expression_of c.as_slice-in-CallBy.result.now)
    (out-Annotated c.args.annotated.now).outcome (out-Annotated c.args.annotated.now).fresh
    = seen_call_by c.args.annotated.now c.in-CallBy.pos c.in-CallBy.dest c.in-CallBy.pointer c.in-CallBy.args c.in-CallBy.is
    ∙ ap (λ es. call_by c.in-CallBy.pos c.in-CallBy.dest c.in-CallBy.pointer (map expression_of es) (out-Annotated c.args.annotated.now).outcome (out-Annotated c.args.annotated.now).fresh) (sym c.as_slice-in-CallBy.ensures) in
    subst (λ t. OnOk c.put_call_by.result (c.put_call_by.new.made ≡ grown c.args.site.now.0 c.args.site.now.2 c.args.made.now
    (here (context_for c.args.site.now) c.args.site.now.2.name t c.args.state.now))) (sym seen) c.put_call_by.ensures.made
