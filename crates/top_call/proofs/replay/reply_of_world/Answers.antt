use Rattle.std.proofs.Common.{◌∙◌, ap, subst, inr, refl, List, ℤ}
use Rattle.c_lang.specs.declared.event.Event.{Event}
use Rattle.run_replay.specs.Replays.{IsUpdatedClose, UpdatedStaysShallow}
use Rattle.update_semantics.specs.UpdatingRun.{events_updating}
use Rattle.update_semantics.specs.Worlds.{world_of}
use Rattle.top_call.specs.Shown.{run_lines}
use Rattle.top_call.proofs.replay.reply_of_world.Goals as goal

pub returns-clause-reply : goal.returns-clause-reply
returns-clause-reply c = λ ts is.
    let W = world_of c.args.world.now in
    let n = c.args.replay.now.steps in
    let close = c.in_ok-shown.shown.close in
    let answers = c.deref.ensures.value in
    inr (
      c.in_ok-replay_text.field-0.items,
      record {
        world = W;
        close = close;
        accepted = is;
        shallow = subst (λ (a : List ℤ). UpdatedStaysShallow W a n) answers c.in_ok-shown.ensures.shallow;
        closes = subst (λ (a : List ℤ). IsUpdatedClose W a n close) answers c.in_ok-shown.ensures.close;
        are_lines =
            c.in_ok-replay_text.ensures
            ∙ ap (λ (shown : List Event). run_lines shown close) (c.in_ok-shown.ensures.events ∙ ap (λ (a : List ℤ). events_updating W a n) answers);
      },
      refl,
    )
