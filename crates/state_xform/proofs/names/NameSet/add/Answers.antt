use Rattle.std.proofs.Common.{◌∙◌, ap}
use Rattle.std.specs.List.{list_any}
use Rattle.std.specs.Str.{bytes_eq}
use Rattle.state_xform.proofs.NameLaws.{names_of, past, seen-insert}
use Rattle.state_xform.proofs.names.NameSet.add.Goals as goal

pub returns-in_ok-insert : goal.returns-in_ok-insert
returns-in_ok-insert c x =
    rw (← c.self.view_is)
    (past c.self.inside.all (bytes_eq x c.args.name.now) (list_any (bytes_eq x) (names_of c.self.inside.listed.keys)) _
    (ap (λ ks. list_any (bytes_eq x) (names_of ks)) c.in_ok-insert.ensures.keys ∙ seen-insert x c.self.inside.listed.keys c.args.name))
