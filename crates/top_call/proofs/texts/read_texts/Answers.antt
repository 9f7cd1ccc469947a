use Rattle.std.proofs.Common.{arith, refl}
use Rattle.std.proofs.lemmas.Result.{err_from_is_err_and}
use Rattle.top_call.proofs.ReadLemmas.{third, behind-three, Rose-later}
use Rattle.top_call.proofs.texts.read_texts.Goals as goal

pub returns-in_err-xform-clause-cause : goal.returns-in_err-xform-clause-cause
returns-in_err-xform-clause-cause g c =
    let p = err_from_is_err_and c.from_residual-in_err-xform.result c.from_residual-in_err-xform.ensures.1 in
    rw (p.1, p.2) (λ failed. (Rose-later _ _ _ (omega (arith, c.in_ok-old.ensures.later, c.in_ok-new.ensures.later)) (c.in_err-xform.ensures.rose (rw failed refl)), third _ _ _ _ _ (c.in_err-xform.ensures.asked (rw failed refl))))

pub returns-in_err-client-clause-cause : goal.returns-in_err-client-clause-cause
returns-in_err-client-clause-cause g c =
    let p = err_from_is_err_and c.from_residual-in_err-client.result c.from_residual-in_err-client.ensures.1 in
    rw (p.1, p.2) (λ failed.
    let cause = c.in_err-client.ensures.cause failed in (
      Rose-later _ _ _ (omega (arith, c.in_ok-old.ensures.later, c.in_ok-new.ensures.later, c.in_ok-xform.ensures.later)) cause.0,
      behind-three _ _ _ _ _ cause.1,
    ))
