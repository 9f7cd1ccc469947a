use denote.Param.Weighed.{most}
use Rattle.std.proofs.Common.{◌≡◌, ◌+◌, ◌*◌, ◌++◌, max, drop}
use Rattle.c_lang.proofs.stmt.Stmt.TheLaws.{the_size}
use Rattle.update_semantics.specs.Linked.{provenance_of}
use Rattle.merged_program.specs.Code.Built as built
use Rattle.merged_program.proofs.statements.+merged.Given as goal

abbrev pub invariant-body-loop-s : goal.invariant-body-loop-s
invariant-body-loop-s l =
    l.all ++ built.statements l.meanings (provenance_of l.origin) (drop l.s-index l.stmts) ≡ built.statements l.meanings (provenance_of l.origin) l.stmts

abbrev pub decreases-merged : goal.decreases-merged
decreases-merged l = 3 * goal.size-merged l

abbrev pub decreases-body : goal.decreases-body
decreases-body l = 3 * goal.size-body l + 1

abbrev pub decreases-one : goal.decreases-one
decreases-one l = 3 * goal.size-one l + 1

abbrev pub decreases-if_else : goal.decreases-if_else
decreases-if_else l = 3 * max (most (λ s. the_size s) l.yes.now) (most (λ s. the_size s) l.no.now) + 2

abbrev pub decreases-while_loop : goal.decreases-while_loop
decreases-while_loop l = 3 * most (λ s. the_size s) l.turn.now + 2

abbrev pub decreases-pick : goal.decreases-pick
decreases-pick l = 3 * max (the_size l.after.now) (the_size l.before.now) + 2
