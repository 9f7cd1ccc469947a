use Rattle.std.proofs.Common.{map}
use Rattle.c_lang.specs.Trees.{statement_of, statements}
use Rattle.state_xform.specs.Code.AllNames.{IsFound}
use Rattle.state_xform.specs.Code.Walk.{walk_all}
use Rattle.state_xform.proofs.AllLaws.{passed}
use Rattle.state_xform.proofs.always.+names.Given as goal

abbrev pub invariant-names_in-loop-stmt : goal.invariant-names_in-loop-stmt
invariant-names_in-loop-stmt l =
    IsFound l.names (λ x. walk_all x (statements (map statement_of (passed l.yielded))))
