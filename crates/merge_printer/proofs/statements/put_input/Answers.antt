use Rattle.merge_printer.proofs.Appends.{three}
use Rattle.merge_printer.proofs.statements.put_input.Goals as goal

pub returns : goal.returns
returns c = three _ _ _ _ _ _ _ _ c.in_ok-put_position.ensures c.in_ok-put_target.ensures c.put_text.ensures
