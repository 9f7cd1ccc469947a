use Rattle.std.proofs.Common.{◌≡◌, ◌++◌, map, drop}
use Rattle.c_lang.specs.Trees.{statement_of, statements}
use Rattle.update_points.specs.Points.{points_in}
use Rattle.update_points.proofs.gathering.+gather.Given as goal

abbrev pub invariant-gather_in-loop-stmt : goal.invariant-gather_in-loop-stmt
invariant-gather_in-loop-stmt l =
    l.points.items ++ points_in (statements (map statement_of (drop l.stmt-index l.stmts)))
    ≡ l.initial.points.items ++ points_in (statements (map statement_of l.stmts))
