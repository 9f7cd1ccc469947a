-- Programs whose printed text is read back as the same program.
use Rattle.std.specs.Prelude.{◌≡◌, ◌≤◌, List, []}
use Rattle.c_lang.specs.declared.unit.Unit.TheVariants.{Merge}
use Rattle.c_lang.specs.Limits.{height_limit}
use Rattle.c_lang.specs.declared.program.Program.{Program}
use Rattle.c_grammar.specs.Lexed.{Lexed}
use Rattle.c_grammar.specs.declared.token.Token.{Token}
use Rattle.c_grammar.specs.Nesting.{IsNested}
use Rattle.c_grammar.specs.Written.{IsWritten}
use Rattle.merge_printer.specs.Heights.{funcs_height}
use Rattle.c_lang.specs.Positions.{ProgramHasPositions}
use Rattle.merge_printer.specs.Programs.{program_text}

-- It is written in unit Merge and nothing is refused of it, its positions can be printed, and its text is at
-- most 72 high and has at most 72 brackets open.
pub record IsPrintable (P : Program) : Type 0 where
  pub accepted : P.early ≡ []
  pub written : IsWritten Merge P
  pub positions : ProgramHasPositions P
  pub low : funcs_height P.funcs ≤ height_limit Merge
  pub nested : (tokens : List Token) → Lexed Merge (program_text P) tokens → IsNested (height_limit Merge) tokens
