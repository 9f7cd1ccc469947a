use Rattle.std.proofs.Common.{◌≡◌, List, map, sym, ap, ◌∙◌, rules}
use Rattle.c_lang.specs.Trees.{expression_of}
use Rattle.terms.specs.Trees.{TermTree}
use Rattle.expression_conditions.specs.Meanings.{val}
use Rattle.expression_conditions.specs.Numbers.{numbers_in}
use Rattle.weakest_preconditions.specs.Wp.{is_function, asked}
use Rattle.symbolic_state.specs.Steps.{finished}
use Rattle.wp_conditions.specs.Code.Edges.{context_for, given_step}
use Rattle.wp_conditions.specs.Code.Growing.{grown}
use Rattle.wp_conditions.proofs.EdgeLaws.{given}
use Rattle.wp_conditions.proofs.statements.put_asked_by.Goals as goal

pub returns-clause-made : goal.returns-clause-made
returns-clause-made c =
    let args : List TermTree = map (val (numbers_in c.args.site.now.0)) (map expression_of c.args.args.now) in
    let steps : c.assume_reached.new.state ≡ given_step (is_function (context_for c.args.site.now) c.args.pointer.now c.args.callee.now) c.args.state.now = search rules in
    let whole : c.put_asked.new.made ≡ grown c.args.site.now.0 c.args.site.now.2 c.args.made.now
    (map (finished c.assume_reached.new.state) (asked (context_for c.args.site.now) c.args.pos c.args.callee.now args)) = search rules in
    whole ∙ ap (grown c.args.site.now.0 c.args.site.now.2 c.args.made.now)
    (ap (λ s. map (finished s) (asked (context_for c.args.site.now) c.args.pos c.args.callee.now args)) steps
    ∙ sym (given c.args.state.now (is_function (context_for c.args.site.now) c.args.pointer.now c.args.callee.now) (asked (context_for c.args.site.now) c.args.pos c.args.callee.now args)))
