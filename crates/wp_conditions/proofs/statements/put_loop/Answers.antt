use Rattle.std.proofs.Common.{◌≡◌, length, ap₂, ◌∙◌, rules}
use Rattle.symbolic_state.specs.Steps.{outermost}
use Rattle.wp_conditions.specs.Code.Edges.{turn_steps}
use Rattle.wp_conditions.proofs.StepLaws.{turned, taken_back}
use Rattle.wp_conditions.proofs.statements.put_loop.Goals as goal

pub returns-clause-state : goal.returns-clause-state
returns-clause-state c =
    let steps : c.turn.new.state ≡ turn_steps c.args.invariants.now c.args.fresh.now c.args.state.now = search rules in
    let mark : c.mark-mark.result ≡ length c.args.state.now = search rules in
    c.cut_back.ensures ∙ ap₂ outermost mark steps
    ∙ taken_back c.args.state.now (turn_steps c.args.invariants.now c.args.fresh.now c.args.state.now) (turned c.args.invariants.now _ c.args.state.now)
