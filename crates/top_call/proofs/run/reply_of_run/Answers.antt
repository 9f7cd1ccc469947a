use Rattle.std.proofs.Common.{◌∙◌, ap, subst, inr, refl, List, ℤ}
use Rattle.c_lang.specs.declared.event.Event.{Event}
use Rattle.plain_run.specs.PlainRun.{events}
use Rattle.run_replay.specs.Replays.{IsPlainClose, StaysShallow}
use Rattle.top_call.specs.Shown.{run_lines}
use Rattle.top_call.proofs.run.reply_of_run.Goals as goal

pub returns-clause-reply : goal.returns-clause-reply
returns-clause-reply c = λ text is.
    let P = c.args.typed.now.program in
    let n = c.args.run.now.steps in
    let close = c.in_ok-replay.replay.close in
    let answers = c.deref.ensures.value in
    inr (
      c.in_ok-replay_text.field-0.items,
      record {
        program = P;
        close = close;
        has_program = is;
        shallow = subst (λ (a : List ℤ). StaysShallow P a n) answers c.in_ok-replay.ensures.shallow;
        closes = subst (λ (a : List ℤ). IsPlainClose P a n close) answers c.in_ok-replay.ensures.close;
        are_lines =
            c.in_ok-replay_text.ensures
            ∙ ap (λ (shown : List Event). run_lines shown close) (c.in_ok-replay.ensures.events ∙ ap (λ (a : List ℤ). events P a n) answers);
      },
      refl,
    )
