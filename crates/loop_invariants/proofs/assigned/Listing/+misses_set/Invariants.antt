use Rattle.std.proofs.Common.{◌≡◌, map, drop}
use Rattle.c_lang.specs.Trees.{statement_of, statements}
use Rattle.loop_invariants.specs.SetNames.{sets_in}
use Rattle.loop_invariants.specs.Code.Listing.{some_missing, context_by}
use Rattle.loop_invariants.proofs.assigned.Listing.+misses_set.Given as goal

abbrev pub invariant-misses_set_in-loop-stmt : goal.invariant-misses_set_in-loop-stmt
invariant-misses_set_in-loop-stmt l = some_missing l.self (sets_in (context_by l.self) (statements (map statement_of l.stmts)))
    ≡ some_missing l.self (sets_in (context_by l.self) (statements (map statement_of (drop l.stmt-index l.stmts))))
