use Rattle.state_xform.specs.Transformers.{is_filled}
use Rattle.state_xform.specs.Code.NameSets.{has}
use Rattle.state_xform.proofs.AllLaws.{elements-more}
use Rattle.state_xform.proofs.elements.element_names.Goals as goal

pub loop-func-preserved : goal.loop-func-preserved
loop-func-preserved c =
    elements-more c.args.funcs.now c.loop-func.func-index c.func-item.result c.as_slice.result.now (λ x. is_filled c.args.funcs.now x)
    (has c.loop-func.names) (has c.add_in.new.names) c.loop-func-test.true c.func-item.is c.as_slice.ensures c.in_ok-add_in.ensures c.loop-func.invariant
