use Rattle.merge_printer.proofs.program.print_program.Goals as goal
use Rattle.merge_printer.proofs.PrintLaw.{answer}

-- src/program.rt:40:1
pub returns-clause-parses : goal.returns-clause-parses
returns-clause-parses c = answer _ _ c.requires c.program_text.ensures
