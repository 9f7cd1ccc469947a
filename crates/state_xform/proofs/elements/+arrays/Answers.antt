use Rattle.std.proofs.Common.{map}
use Rattle.std.proofs.lemmas.Result.{on_ok_weaker}
use Rattle.c_lang.specs.Trees.{statement_of, statements}
use Rattle.c_lang.proofs.TreeLemmas.{statement_of-If}
use Rattle.state_xform.specs.Code.NameSets.{has}
use Rattle.state_xform.specs.Elements.{sets_element_in}
use Rattle.state_xform.proofs.AllLaws.{both_added}
use Rattle.state_xform.proofs.elements.+arrays.Goals as goal

pub add_at-returns-in_ok-add_in-in-If : goal.add_at-returns-in_ok-add_in-in-If
add_at-returns-in_ok-add_in-in-If t c =
    rw (c.in-If.is, statement_of-If c.in-If.pos c.in-If.cond c.in-If.yes c.in-If.no, ← c.as_slice.ensures, ← c.as_slice-in-If.ensures)
    (on_ok_weaker c.add_in-in-If.result
    (both_added (λ x. sets_element_in x (statements (map statement_of c.as_slice-in-If.result.now)))
    (λ x. sets_element_in x (statements (map statement_of c.as_slice.result.now)))
    (has c.args.names.now) (has c.add_in.new.names) (has c.add_in-in-If.new.names) c.in_ok-add_in-in-If.ensures)
    c.add_in-in-If.ensures)
