use Rattle.std.proofs.Common.{◌∙◌}
use Rattle.state_xform.proofs.NameLaws.{stands-seen}
use Rattle.state_xform.proofs.names.NameSet.contains.Goals as goal

pub returns-else-self : goal.returns-else-self
returns-else-self c =
    rw (← c.self.view_is, c.if-self.false) (c.contains.ensures ∙ stands-seen c.args.name.now c.self.inside.listed.keys)
