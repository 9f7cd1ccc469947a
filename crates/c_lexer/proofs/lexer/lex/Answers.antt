use Rattle.std.proofs.Common.{◌<◌, ◌≤◌, length, arith}
use Rattle.c_lang.specs.Limits.{size_limit}
use Rattle.c_grammar.specs.Lexed.{too_long}
use Rattle.c_lexer.proofs.LexLaws.{answers, given_by, only, first, spans_of}
use Rattle.c_lexer.proofs.lexer.lex.Goals as goal

pub returns-then-bytes-limit_of-clause-answer : goal.returns-then-bytes-limit_of-clause-answer
returns-then-bytes-limit_of-clause-answer c =
    let long : size_limit c.args.unit < length c.args.bytes.now = omega arith in
    rw c.refused.ensures (too_long long)

pub returns-clause-answer : goal.returns-clause-answer
returns-clause-answer c =
    let within : length c.args.bytes.now ≤ size_limit c.args.unit = omega arith in
    answers c.args.unit c.args.bytes.now c.cut.result within c.cut.ensures

pub returns-clause-only : goal.returns-clause-only
returns-clause-only c tokens within is = only c.args.unit c.args.bytes.now c.cut.result c.cut.ensures tokens is

pub returns-clause-first : goal.returns-clause-first
returns-clause-first c =
    let within : length c.args.bytes.now ≤ size_limit c.args.unit = omega arith in
    first c.args.unit c.args.bytes.now c.cut.result within c.cut.ensures

pub returns-clause-spans : goal.returns-clause-spans
returns-clause-spans c = spans_of c.args.unit c.args.bytes.now c.cut.result c.cut.ensures

pub returns-clause-given : goal.returns-clause-given
returns-clause-given c =
    let within : length c.args.bytes.now ≤ size_limit c.args.unit = omega arith in
    given_by c.args.unit c.args.bytes.now c.cut.result within c.cut.ensures
