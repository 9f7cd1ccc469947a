use denote.Param.Weighed.{most}
use Rattle.std.proofs.Common.{◌≡◌, ◌+◌, ◌*◌, max, map, drop}
use Rattle.c_lang.specs.Names.{Bytes}
use Rattle.c_lang.specs.Trees.{statement_of, statements}
use Rattle.c_lang.proofs.stmt.Stmt.TheLaws.{the_size}
use Rattle.name_tables.specs.Tables.{found}
use Rattle.weakest_preconditions.specs.Sorts.{or_else, local_kind_in}
use Rattle.condition_sorts.proofs.kinds.+add_kinds.Given as goal

-- what is found so far and what is left give the whole
abbrev pub invariant-add_kinds_in-loop-stmt : goal.invariant-add_kinds_in-loop-stmt
invariant-add_kinds_in-loop-stmt l = (x : Bytes) →
    or_else (found l.table x) (local_kind_in x (statements (map statement_of (drop l.stmt-index l.stmts))))
    ≡ or_else (found l.initial.table x) (local_kind_in x (statements (map statement_of l.stmts)))

abbrev pub decreases-add_kinds : goal.decreases-add_kinds
decreases-add_kinds l = 3 * goal.size-add_kinds l

abbrev pub decreases-add_kinds_in : goal.decreases-add_kinds_in
decreases-add_kinds_in l = 3 * goal.size-add_kinds_in l + 1

abbrev pub decreases-add_kinds_of_two : goal.decreases-add_kinds_of_two
decreases-add_kinds_of_two l = 3 * max (most (λ s. the_size s) l.first.now) (most (λ s. the_size s) l.second.now) + 2
