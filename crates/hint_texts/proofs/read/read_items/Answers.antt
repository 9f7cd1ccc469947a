use Rattle.std.proofs.Common.{◌≤◌, length, refl, sym, ◌∙◌, arith, inr}
use Rattle.std.proofs.lemmas.Bool.Decides.{nat_tests}
use Rattle.name_tables.specs.Declarations.{function_number}
use Rattle.hint_texts.proofs.FrontLaws.{some_is}
use Rattle.hint_texts.proofs.TextLaws.{hints_again, hints_is, hints_never}
use Rattle.hint_texts.proofs.read.read_items.Goals as goal

pub returns-in-Ok-clause-answer : goal.returns-in-Ok-clause-answer
returns-in-Ok-clause-answer c =
    let few : length c.args.bytes.now ≤ 262144 = grind (arith, nat_tests, c.if-bytes-limit_of.false, c.limit_of.ensures) in
    (few, hints_is (function_number c.args.names.now) c.args.bytes.now c.in-Ok.items c.in-Ok.ensures)

pub returns-in-Ok-clause-only : goal.returns-in-Ok-clause-only
returns-in-Ok-clause-only c = λ items within are.
    some_is c.in-Ok.items items (sym c.in-Ok.ensures ∙ hints_again (function_number c.args.names.now) c.args.bytes.now items are)

pub returns-in-Err-NoText-clause-answer : goal.returns-in-Err-NoText-clause-answer
returns-in-Err-NoText-clause-answer c =
    let few : length c.args.bytes.now ≤ 262144 = grind (arith, nat_tests, c.if-bytes-limit_of.false, c.limit_of.ensures) in
    let nothing = rw c.in-Err-NoText.field-0-is at c.in-Err-NoText.ensures in
    rw c.refused-in-Err-NoText.ensures (inr (few, hints_never (function_number c.args.names.now) c.args.bytes.now nothing, c.in-Err-NoText.line, refl))

pub returns-in-Err-NoText-clause-only : goal.returns-in-Err-NoText-clause-only
returns-in-Err-NoText-clause-only c = λ items within are.
    let nothing = rw c.in-Err-NoText.field-0-is at c.in-Err-NoText.ensures in
    absurd (hints_never (function_number c.args.names.now) c.args.bytes.now nothing items are)
