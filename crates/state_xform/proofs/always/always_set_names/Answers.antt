use Rattle.state_xform.proofs.AllLaws.{always-common}
use Rattle.state_xform.proofs.always.always_set_names.Goals as goal

pub returns : goal.returns
returns c = always-common c.in_ok-names.names c.common.result c.args.body.now c.in_ok-names.ensures c.common.ensures
