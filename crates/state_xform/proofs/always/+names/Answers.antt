use Rattle.c_lang.specs.Trees.{statement_of}
use Rattle.state_xform.specs.Code.Walk.{walk}
use Rattle.state_xform.proofs.AllLaws.{found-first, found-more}
use Rattle.state_xform.proofs.always.+names.Goals as goal

pub names_in-loop-stmt-preserved : goal.names_in-loop-stmt-preserved
names_in-loop-stmt-preserved t c =
    found-more c.loop-stmt.names c.in_ok-names.names c.loop-stmt.yielded c.in-Some.stmt
    (found-first c.in_ok-first.first c.loop-stmt.names c.in_ok-names.names (λ x. walk x (statement_of c.in-Some.stmt.now)) c.in_ok-names.ensures
    c.in_ok-first.ensures)
    c.loop-stmt.invariant
