-- A program that fits, whose positions can be printed, and which is low enough, can be printed.
use Rattle.std.specs.Prelude.{◌≤◌, List}
use Rattle.std.proofs.Common.{subst, arith}
use Rattle.std.proofs.lemmas.List.Elements.{Contains-get_or}
use Rattle.c_lang.specs.Positions.{ProgramHasPositions}
use Rattle.c_lang.specs.declared.unit.Unit.TheVariants.{Merge}
use Rattle.c_lang.specs.declared.program.Program.{Program}
use Rattle.c_grammar.specs.Nesting.{IsNested}
use Rattle.c_grammar.specs.declared.token.Token.{Token}
use Rattle.c_lexer.proofs.LexLaws.{one_list}
use Rattle.c_parser.proofs.OpenBrackets.{few_open}
use Rattle.c_types.specs.Plain.{plain}
use Rattle.merge_printer.specs.Heights.{funcs_height}
use Rattle.merge_printer.specs.Printable.{IsPrintable}
use Rattle.merge_printer.specs.Programs.{program_text}
use Rattle.merge_printer.proofs.ProgramLaw.{ProgramFits, prints_program}

fitting_prints : (P : Program) → ProgramFits P → ProgramHasPositions P → funcs_height P.funcs ≤ 68 → IsPrintable P
fitting_prints P fits at low =
    let text = program_text P in
    -- a statement within the limit, and two brackets around it
    let lower = prints_program P fits at 70 (omega (arith, low)) in
    let whole = prints_program P fits at 72 (omega (arith, low)) in
    record {
      accepted = fits.early;
      written = record {
        tokens = whole.tokens;
        given = λ k d lt. record { bytes = text; size = tt; tokens = whole.tokens; lexed = whole.lexed; there = Contains-get_or whole.tokens k d lt };
        gram = whole.gram;
      };
      positions = at;
      low = omega (arith, low);
      nested = λ tokens lexed. subst (λ (ts : List Token). IsNested 72 ts) (one_list Merge text lower.tokens tokens lower.lexed lexed) (few_open Merge 70 lower.tokens P lower.gram);
    }

pub prints : (P : Program) → ProgramFits (plain P) → ProgramHasPositions (plain P) → funcs_height (plain P).funcs ≤ 68 → IsPrintable (plain P)
prints P = fitting_prints (plain P)
