use Rattle.std.proofs.Common.{◌∙◌, ap}
use Rattle.version_names.specs.Home.{Home, Both, same_home}
use Rattle.update_semantics.specs.Worlds.{world_of}
use Rattle.merged_program.proofs.LinkLaws.{shared_code}
use Rattle.merged_program.proofs.globals.is_shared_code.Goals as goal

pub returns : goal.returns
returns c =
    let W = world_of c.args.meanings.now in
    c.is_shared.ensures ∙ ap (λ (h : Home). same_home h Both) c.part.ensures ∙ shared_code W.first W.second c.args.name.now
