use denote.Param.Weighed.{most}
use Rattle.std.proofs.Common.{◌≡◌, ◌+◌, ◌*◌, max, map, drop}
use Rattle.c_lang.specs.Trees.{statement_of, statements}
use Rattle.c_lang.proofs.stmt.Stmt.TheLaws.{the_size}
use Rattle.weakest_preconditions.specs.Annotating as spec
use Rattle.annotated_bodies.specs.Places.{seen_place}
use Rattle.annotated_bodies.specs.Sources.{context_in}
use Rattle.annotated_bodies.proofs.BodyLaws.{ahead}
use Rattle.annotated_bodies.proofs.annotating.+annotated.Given as goal

abbrev pub invariant-annotated_all-loop-stmt : goal.invariant-annotated_all-loop-stmt
invariant-annotated_all-loop-stmt l =
    let c = context_in l.context in
    let at = seen_place l.initial.place in
    let whole = statements (map statement_of l.stmts) in
    let rest = statements (map statement_of (drop l.stmt-index l.stmts)) in
    record {
      made : ahead l.all.items (spec.annotated_all c l.func (seen_place l.place) rest) ≡ spec.annotated_all c l.func at whole;
      place : spec.past_all c rest (seen_place l.place) ≡ spec.past_all c whole at;
    }

abbrev pub decreases-annotated : goal.decreases-annotated
decreases-annotated l = 3 * goal.size-annotated l

abbrev pub decreases-annotated_all : goal.decreases-annotated_all
decreases-annotated_all l = 3 * goal.size-annotated_all l + 1

abbrev pub decreases-if_else : goal.decreases-if_else
decreases-if_else l = 3 * max (most (λ s. the_size s) l.yes.now) (most (λ s. the_size s) l.no.now) + 2

abbrev pub decreases-while_loop : goal.decreases-while_loop
decreases-while_loop l = 3 * most (λ s. the_size s) l.turn.now + 2
