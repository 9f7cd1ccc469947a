use Rattle.std.proofs.Common.{Ok, subst, FitsSigned, w32, refl, sym, rules}
use Rattle.std.proofs.lemmas.Int.{to_z-of_z}
use Rattle.plain_run.specs.Code.Actions as spec
use Rattle.plain_run.specs.Code.Performed.{HasDone}
use Rattle.plain_run.proofs.run.Run.perform.Goals as goal

pub returns-in_ok-store-in-Store-clause-done : goal.returns-in_ok-store-in-Store-clause-done
returns-in_ok-store-in-Store-clause-done g c = rw c.in-Store.is (c.in_ok-store-in-Store.ensures.done, refl)

pub returns-in-Call-clause-done : goal.returns-in-Call-clause-done
returns-in-Call-clause-done g c = rw c.in-Call.is (c.call.ensures.done c.args.answers.now)

pub returns-in-Return-clause-done : goal.returns-in-Return-clause-done
returns-in-Return-clause-done g c = rw c.in-Return.is (c.give_back.ensures.done c.args.answers.now)

pub returns-in-Output-clause-done : goal.returns-in-Output-clause-done
returns-in-Output-clause-done g c =
    let m = c.args.self.now in
    let n = c.output.new.self in
    let number = c.in-Output.number in
    let fits : FitsSigned w32 number = search rules in
    let answers = c.args.answers.now in
    rw c.in-Output.is
    (subst (λ z. HasDone g.E.Look.seen (g.E.Look.rules m.environment) (g.E.Look.state m.environment) m.stack (spec.Output z) answers (Ok c.output.result)
    (g.E.Look.state n.environment) n.stack answers) (to_z-of_z w32 number fits) (c.output.ensures.done answers))

pub returns-in-Skip-clause-done : goal.returns-in-Skip-clause-done
returns-in-Skip-clause-done g c = rw c.in-Skip.is (c.pass.ensures.config, refl)

pub returns-in-Enter-clause-done : goal.returns-in-Enter-clause-done
returns-in-Enter-clause-done g c = rw c.in-Enter.is (c.enter.ensures.done c.args.answers.now)

pub returns-in-Loop-clause-done : goal.returns-in-Loop-clause-done
returns-in-Loop-clause-done g c = rw c.in-Loop.is (c.enter_loop.ensures.done c.args.answers.now)

pub returns-in-Leave-clause-done : goal.returns-in-Leave-clause-done
returns-in-Leave-clause-done g c = rw c.in-Leave.is (c.leave_loop.ensures.done c.args.answers.now)

pub returns-in-StoreElement-clause-done : goal.returns-in-StoreElement-clause-done
returns-in-StoreElement-clause-done g c =
    let at_fits : FitsSigned w32 c.in-StoreElement.at = search rules in
    let fits : FitsSigned w32 c.in-StoreElement.element = search rules in
    rw c.in-StoreElement.is
    (rw (sym (to_z-of_z w32 c.in-StoreElement.at at_fits)) (rw (sym (to_z-of_z w32 c.in-StoreElement.element fits)) (c.store_element.ensures.done c.args.answers.now)))

pub returns-in-Fault-clause-done : goal.returns-in-Fault-clause-done
returns-in-Fault-clause-done g c = rw c.in-Fault.is (c.fault.ensures.done c.args.answers.now)

pub returns-in-Update-clause-done : goal.returns-in-Update-clause-done
returns-in-Update-clause-done g c = rw c.in-Update.is (c.update.ensures.done c.args.answers.now)

pub returns-in-Input-clause-done : goal.returns-in-Input-clause-done
returns-in-Input-clause-done g c = rw c.in-Input.is c.input.ensures.done

pub returns-in-Choice-clause-done : goal.returns-in-Choice-clause-done
returns-in-Choice-clause-done g c = rw c.in-Choice.is c.choice.ensures.done

pub returns-in-Ask-clause-done : goal.returns-in-Ask-clause-done
returns-in-Ask-clause-done g c = rw c.in-Ask.is c.ask.ensures.done
