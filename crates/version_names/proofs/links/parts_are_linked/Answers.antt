use Rattle.version_names.proofs.links.parts_are_linked.Goals as goal

pub returns : goal.returns
returns c = λ first second links is. is.parts
