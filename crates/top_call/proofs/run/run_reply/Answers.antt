use Rattle.std.proofs.Common.{subst}
use Rattle.std.proofs.lemmas.Result.{err_from_is_err_and}
use Rattle.top_call.specs.Words.{Text}
use Rattle.top_call.specs.Run.{Runs, GoesTooDeep}
use Rattle.top_call.specs.Seen.{seen_run, seen_reply}
use Rattle.top_call.proofs.RunLemmas.{IsErrOf-other, deep-stop}
use Rattle.top_call.proofs.run.run_reply.Goals as goal

pub returns-in_err-text-clause-deep : goal.returns-in_err-text-clause-deep
returns-in_err-text-clause-deep g c =
    let p = err_from_is_err_and c.from_residual.result c.from_residual.ensures.1 in
    rw (p.1, p.2) (λ deep. absurd (c.in_err-text.ensures.shallow (IsErrOf-other _ _ deep)))

pub returns-in_err-reply_to_text-clause-deep : goal.returns-in_err-reply_to_text-clause-deep
returns-in_err-reply_to_text-clause-deep g c =
    let p = err_from_is_err_and c.from_residual-in_err-reply_to_text.result c.from_residual-in_err-reply_to_text.ensures.1 in
    rw (p.1, p.2) (λ deep. (
      c.in_ok-text.text.items,
      c.in_ok-text.ensures.text,
      subst (λ (text : Text). GoesTooDeep (seen_run c.args.run.now) text) c.deref.ensures.value (c.in_err-reply_to_text.ensures.deep (deep-stop _ deep)),
    ))

pub returns-clause-reply : goal.returns-clause-reply
returns-clause-reply g c = (
  c.in_ok-text.text.items,
  c.in_ok-text.ensures.text,
  subst (λ (text : Text). Runs (seen_run c.args.run.now) text (seen_reply c.in_ok-reply_to_text.field-0)) c.deref.ensures.value c.in_ok-reply_to_text.ensures.reply,
)
