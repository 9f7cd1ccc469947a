use Rattle.std.proofs.Common.{◌≡◌, Err, List, IfOk, ◌∙◌, subst}
use Rattle.c_lang.specs.declared.program.Program.{Program}
use Rattle.hint_texts.specs.declared.hints.Item.{Item}
use Rattle.loop_invariants.specs.Fitting.{Fit}
use Rattle.hint_reading.specs.Reading.{IsAnswer}
use Rattle.hint_reading.specs.Code.Parts.{IsCheckedFor}
use Rattle.hint_reading.proofs.ReadingLaws.{not_items, as_answer, only, fits}
use Rattle.hint_reading.proofs.read.read_hints.Goals as goal

pub returns-in-Err-clause-answer : goal.returns-in-Err-clause-answer
returns-in-Err-clause-answer c =
    let same : c.in_ok-names.names ≡ c.args.program.now.program = c.in_ok-names.ensures ∙ c.program.ensures.program in
    subst (λ (p : Program). IsAnswer p c.args.bytes.now (Err c.in-Err.fail)) same (not_items c.in_ok-names.names c.args.bytes.now c.in-Err.fail c.in-Err.ensures.answer)

pub returns-clause-answer : goal.returns-clause-answer
returns-clause-answer c =
    let same : c.in_ok-names.names ≡ c.args.program.now.program = c.in_ok-names.ensures ∙ c.program.ensures.program in
    let checked : IsCheckedFor c.in_ok-names.names c.in-Ok.items c.checked.result
    = subst (λ (items : List Item). IsCheckedFor c.in_ok-names.names items c.checked.result) c.as_slice.ensures c.checked.ensures in
    subst (λ (p : Program). IsAnswer p c.args.bytes.now c.checked.result) same
    (as_answer c.in_ok-names.names c.args.bytes.now c.in-Ok.items c.checked.result c.in-Ok.ensures.answer.0 c.in-Ok.ensures.answer.1 checked)

pub returns-clause-fit : goal.returns-clause-fit
returns-clause-fit c =
    let same : c.in_ok-names.names ≡ c.args.program.now.program = c.in_ok-names.ensures ∙ c.program.ensures.program in
    subst (λ (p : Program). IfOk c.checked.result (λ hints. Fit p hints)) same (fits c.in_ok-names.names c.as_slice.result.now c.checked.result c.checked.ensures)

pub returns-in-Err-clause-only : goal.returns-in-Err-clause-only
returns-in-Err-clause-only c hints short are = only c.args.program.now.program c.args.bytes.now (Err c.in-Err.fail) (returns-in-Err-clause-answer c) hints short are

pub returns-clause-only : goal.returns-clause-only
returns-clause-only c hints short are = only c.args.program.now.program c.args.bytes.now c.checked.result (returns-clause-answer c) hints short are
