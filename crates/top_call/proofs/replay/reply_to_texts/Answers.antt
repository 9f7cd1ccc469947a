use Rattle.std.proofs.Common.{inl, subst, sym}
use Rattle.update_semantics.specs.Worlds.{World, world_of}
use Rattle.front_end.specs.Worlds.{IsAccepted}
use Rattle.top_call.specs.Seen.{seen_texts, seen_replay}
use Rattle.top_call.proofs.AcceptedLemmas.{accepted_of_texts, refused_of_texts}
use Rattle.top_call.proofs.replay.reply_to_texts.Goals as goal

pub returns-in-Ok-clause-reply : goal.returns-in-Ok-clause-reply
returns-in-Ok-clause-reply c =
    let ts = seen_texts c.args.texts.now in
    let accepted = accepted_of_texts _ _ _ _ c.listed.ensures c.texts.ensures _ c.in-Ok.ensures in
    c.reply_of_world.ensures.reply ts (subst (λ (w : World). IsAccepted (seen_replay c.args.replay.now).points ts (world_of w)) (sym c.get.ensures) accepted)

pub returns-in-Ok-clause-deep : goal.returns-in-Ok-clause-deep
returns-in-Ok-clause-deep c =
    let ts = seen_texts c.args.texts.now in
    let accepted = accepted_of_texts _ _ _ _ c.listed.ensures c.texts.ensures _ c.in-Ok.ensures in
    c.reply_of_world.ensures.deep ts (subst (λ (w : World). IsAccepted (seen_replay c.args.replay.now).points ts (world_of w)) (sym c.get.ensures) accepted)

pub returns-in_ok-refuse-in-Err-Refused-clause-reply : goal.returns-in_ok-refuse-in-Err-Refused-clause-reply
returns-in_ok-refuse-in-Err-Refused-clause-reply c =
    let refused = c.in-Err-Refused in
    inl (
      refused.refusal,
      refused_of_texts _ _ _ _ c.listed.ensures c.texts.ensures refused.refusal
          (rw refused.field-0-is at refused.ensures),
      c.in_ok-refuse-in-Err-Refused.ensures,
    )
