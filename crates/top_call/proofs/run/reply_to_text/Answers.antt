use Rattle.std.proofs.Common.{inl}
use Rattle.c_lang.specs.declared.unit.Unit.TheVariants.{Merge}
use Rattle.front_end.proofs.TypedTextLemmas.{has-program, is-refused}
use Rattle.top_call.proofs.run.reply_to_text.Goals as goal

pub returns-in-Ok-clause-reply : goal.returns-in-Ok-clause-reply
returns-in-Ok-clause-reply c = c.reply_of_run.ensures.reply c.args.text.now (has-program Merge c.args.text.now c.in-Ok.typed.program c.in-Ok.ensures.answer c.in-Ok.ensures.only)

pub returns-in-Ok-clause-deep : goal.returns-in-Ok-clause-deep
returns-in-Ok-clause-deep c = c.reply_of_run.ensures.deep c.args.text.now (has-program Merge c.args.text.now c.in-Ok.typed.program c.in-Ok.ensures.answer c.in-Ok.ensures.only)

pub returns-in_ok-refuse-in-Err-Refused-clause-reply : goal.returns-in_ok-refuse-in-Err-Refused-clause-reply
returns-in_ok-refuse-in-Err-Refused-clause-reply c =
    let refused = c.in-Err-Refused in
    inl (
      refused.refusal,
      is-refused Merge c.args.text.now refused.field-0 refused.refusal refused.field-0-is refused.ensures.answer refused.ensures.only,
      c.in_ok-refuse-in-Err-Refused.ensures,
    )
