use Rattle.std.proofs.lemmas.Result.{err_from_is_err_and}
use Rattle.top_call.specs.Seen.{seen_texts}
use Rattle.top_call.proofs.RunLemmas.{IsErrOf-other, deep-stop}
use Rattle.top_call.proofs.replay.replay_reply.Goals as goal

pub returns-in_err-texts-clause-deep : goal.returns-in_err-texts-clause-deep
returns-in_err-texts-clause-deep g c =
    let p = err_from_is_err_and c.from_residual.result c.from_residual.ensures.1 in
    rw (p.1, p.2) (λ deep. absurd (c.in_err-texts.ensures.shallow (IsErrOf-other _ _ deep)))

pub returns-in_err-reply_to_texts-clause-deep : goal.returns-in_err-reply_to_texts-clause-deep
returns-in_err-reply_to_texts-clause-deep g c =
    let p = err_from_is_err_and c.from_residual-in_err-reply_to_texts.result c.from_residual-in_err-reply_to_texts.ensures.1 in
    rw (p.1, p.2) (λ deep. (
      seen_texts c.in_ok-texts.texts,
      c.in_ok-texts.ensures.texts,
      c.in_err-reply_to_texts.ensures.deep (deep-stop _ deep),
    ))

pub returns-clause-reply : goal.returns-clause-reply
returns-clause-reply g c = (seen_texts c.in_ok-texts.texts, c.in_ok-texts.ensures.texts, c.in_ok-reply_to_texts.ensures.reply)
