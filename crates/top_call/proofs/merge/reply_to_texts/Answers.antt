use Rattle.std.proofs.Common.{inl, subst, sym}
use Rattle.std.proofs.lemmas.Result.{IfOk-weaker}
use Rattle.update_semantics.specs.Worlds.{World, world_of}
use Rattle.front_end.specs.Worlds.{IsAccepted}
use Rattle.top_call.specs.Seen.{seen_texts, seen_merge}
use Rattle.top_call.proofs.AcceptedLemmas.{accepted_of_texts, refused_of_texts}
use Rattle.top_call.proofs.merge.reply_to_texts.Goals as goal

pub returns-in-Ok : goal.returns-in-Ok
returns-in-Ok c =
    let ts = seen_texts c.args.texts.now in
    let accepted = accepted_of_texts _ _ _ _ c.listed.ensures c.texts.ensures _ c.in-Ok.ensures in
    c.reply_of_world.ensures ts (subst (λ (w : World). IsAccepted (seen_merge c.args.request.now).points ts (world_of w)) (sym c.get.ensures) accepted)

pub returns-in-Err-Refused : goal.returns-in-Err-Refused
returns-in-Err-Refused c =
    let refused = c.in-Err-Refused in
    IfOk-weaker c.refuse.result _ _
    (λ reply is. inl (
      refused.refusal,
      refused_of_texts _ _ _ _ c.listed.ensures c.texts.ensures refused.refusal
          (rw refused.field-0-is at refused.ensures),
      is,
    )) c.refuse.ensures
