use denote.Param.Weighed.{most}
use Rattle.std.proofs.Common.{◌≡◌, ◌+◌, ◌*◌, ◌++◌, max, drop}
use Rattle.c_lang.proofs.stmt.Stmt.TheLaws.{the_size}
use Rattle.version_names.specs.Parts.{parts_in}
use Rattle.client_specs.specs.Code.Built as built
use Rattle.client_specs.proofs.spelled_statements.+statement.Given as goal

abbrev pub invariant-body-loop-s : goal.invariant-body-loop-s
invariant-body-loop-s l =
    l.all ++ built.statements (parts_in l.links) l.here (drop l.s-index l.stmts) ≡ built.statements (parts_in l.links) l.initial.here l.stmts

abbrev pub decreases-statement : goal.decreases-statement
decreases-statement l = 3 * goal.size-statement l

abbrev pub decreases-body : goal.decreases-body
decreases-body l = 3 * goal.size-body l + 1

abbrev pub decreases-boxed_statement : goal.decreases-boxed_statement
decreases-boxed_statement l = 3 * goal.size-boxed_statement l + 1

abbrev pub decreases-if_else : goal.decreases-if_else
decreases-if_else l = 3 * max (most (λ s. the_size s) l.yes.now) (most (λ s. the_size s) l.no.now) + 2

abbrev pub decreases-while_loop : goal.decreases-while_loop
decreases-while_loop l = 3 * most (λ s. the_size s) l.turn.now + 2

abbrev pub decreases-pick : goal.decreases-pick
decreases-pick l = 3 * max (the_size l.after.now) (the_size l.before.now) + 2
