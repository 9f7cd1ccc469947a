use Rattle.std.proofs.Common.{◌≡◌, ◌++◌, map, drop}
use Rattle.c_lang.specs.Trees.{expression_of}
use Rattle.merge_printer.specs.Expressions.{more_expressions}
use Rattle.merge_printer.proofs.expressions.put_more_expressions.Given as goal

abbrev pub invariant-loop-expr : goal.invariant-loop-expr
invariant-loop-expr l =
    l.out.items ++ more_expressions (map expression_of (drop l.expr-index l.exprs))
    ≡ l.initial.out.items ++ more_expressions (map expression_of l.exprs)
