use Rattle.std.proofs.Common.{sym, ◌∙◌}
use Rattle.c_parser.proofs.ParsedLaws.{none_read, taken, only, never, refused}
use Rattle.c_parser.proofs.WrittenLaws.{written_by}
use Rattle.c_parser.proofs.parser.parse.Goals as goal

pub returns-in-Ok-clause-answer : goal.returns-in-Ok-clause-answer
returns-in-Ok-clause-answer c =
    taken c.args.unit c.args.deep c.args.tokens.now c.in-Ok.program (sym c.too_deep.ensures ∙ c.in_default.is) c.in-Ok.ensures

pub returns-in-Ok-clause-only : goal.returns-in-Ok-clause-only
returns-in-Ok-clause-only c = λ other parsed. only c.args.unit c.args.deep c.args.tokens.now c.in-Ok.program other c.in-Ok.ensures parsed

pub returns-in-Err-Syntax-clause-answer : goal.returns-in-Err-Syntax-clause-answer
returns-in-Err-Syntax-clause-answer c =
    refused c.args.unit c.args.deep c.args.tokens.now c.place.result c.at-in-Err-Syntax.result (sym c.too_deep.ensures ∙ c.in_default.is) (none_read c.in-Err-Syntax.field-0 c.in-Err-Syntax.left _ c.in-Err-Syntax.field-0-is c.in-Err-Syntax.ensures) c.place.ensures
    c.at-in-Err-Syntax.ensures

pub returns-in-Err-Syntax-clause-only : goal.returns-in-Err-Syntax-clause-only
returns-in-Err-Syntax-clause-only c = λ other parsed. absurd (never c.args.unit c.args.deep c.args.tokens.now other (none_read c.in-Err-Syntax.field-0 c.in-Err-Syntax.left _ c.in-Err-Syntax.field-0-is c.in-Err-Syntax.ensures) parsed)

pub returns-in-Ok-clause-written : goal.returns-in-Ok-clause-written
returns-in-Ok-clause-written c = λ low given.
    written_by c.args.unit c.args.deep c.args.tokens.now c.in-Ok.program low given
    (taken c.args.unit c.args.deep c.args.tokens.now c.in-Ok.program (sym c.too_deep.ensures ∙ c.in_default.is) c.in-Ok.ensures).gram
