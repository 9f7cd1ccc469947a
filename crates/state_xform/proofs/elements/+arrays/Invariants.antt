use Rattle.std.proofs.Common.{◌≡◌, ◌||◌, drop, map}
use Rattle.c_lang.specs.Names.{Bytes}
use Rattle.c_lang.specs.Trees.{statement_of, statements}
use Rattle.state_xform.specs.Code.NameSets.{has}
use Rattle.state_xform.specs.Elements as spec
use Rattle.state_xform.proofs.elements.+arrays.Given as goal

abbrev pub invariant-add_in-loop-stmt : goal.invariant-add_in-loop-stmt
invariant-add_in-loop-stmt l = (x : Bytes) →
    (spec.sets_element_in x (statements (map statement_of (drop l.stmt-index l.stmts))) || has l.names x)
    ≡ (spec.sets_element_in x (statements (map statement_of l.stmts)) || has l.initial.names x)
