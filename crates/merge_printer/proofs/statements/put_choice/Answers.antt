use Rattle.merge_printer.proofs.Appends.{five}
use Rattle.merge_printer.proofs.statements.put_choice.Goals as goal

pub returns : goal.returns
returns c =
    five _ _ _ _ _ _ _ _ _ _ _ _ c.in_ok-put_position.ensures c.in_ok-put_target.ensures c.in_ok-put_text.ensures
    c.in_ok-put_number.ensures c.put_text-2.ensures
