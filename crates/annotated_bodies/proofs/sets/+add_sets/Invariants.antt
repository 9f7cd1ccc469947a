use denote.Param.Weighed.{most}
use Rattle.std.proofs.Common.{◌≡◌, ◌+◌, ◌*◌, ◌++◌, max, map, drop}
use Rattle.c_lang.specs.Trees.{statement_of, statements}
use Rattle.c_lang.proofs.stmt.Stmt.TheLaws.{the_size}
use Rattle.loop_invariants.specs.SetNames as set_names
use Rattle.annotated_bodies.specs.Sources.{context_in, names_in}
use Rattle.annotated_bodies.proofs.sets.+add_sets.Given as goal

abbrev pub invariant-add_sets_in-loop-stmt : goal.invariant-add_sets_in-loop-stmt
invariant-add_sets_in-loop-stmt l =
    names_in l.out.items ++ set_names.sets_in (context_in l.context) (statements (map statement_of (drop l.stmt-index l.stmts)))
    ≡ names_in l.initial.out.items ++ set_names.sets_in (context_in l.context) (statements (map statement_of l.stmts))

abbrev pub decreases-add_sets : goal.decreases-add_sets
decreases-add_sets l = 3 * goal.size-add_sets l

abbrev pub decreases-add_sets_in : goal.decreases-add_sets_in
decreases-add_sets_in l = 3 * goal.size-add_sets_in l + 1

abbrev pub decreases-add_sets_of_two : goal.decreases-add_sets_of_two
decreases-add_sets_of_two l = 3 * max (most (λ s. the_size s) l.first.now) (most (λ s. the_size s) l.second.now) + 2
