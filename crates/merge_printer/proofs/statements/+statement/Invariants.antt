use Rattle.std.proofs.Common.{◌≡◌, ◌++◌, map, drop}
use Rattle.c_lang.specs.Trees.{statement_of, statements}
use Rattle.merge_printer.specs.Statements.{statements_text}
use Rattle.merge_printer.proofs.statements.+statement.Given as goal

abbrev pub invariant-put_statements-loop-stmt : goal.invariant-put_statements-loop-stmt
invariant-put_statements-loop-stmt l =
    l.out.items ++ statements_text (statements (map statement_of (drop l.stmt-index l.stmts)))
    ≡ l.initial.out.items ++ statements_text (statements (map statement_of l.stmts))
