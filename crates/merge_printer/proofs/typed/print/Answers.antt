use Rattle.merge_printer.proofs.typed.print.Goals as goal
use Rattle.merge_printer.proofs.TypedLaw.{typed_answer}

pub returns-clause-checked : goal.returns-clause-checked
returns-clause-checked c = typed_answer _ _ _ c.requires c.program.ensures.program c.program_text.ensures
