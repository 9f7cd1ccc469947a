use Rattle.std.proofs.Common.{◌∙◌, ap, rules}
use Rattle.std.specs.List.{list_any}
use Rattle.std.specs.Str.{bytes_eq}
use Rattle.std.proofs.lemmas.Fn.{filter_same}
use Rattle.state_xform.specs.Code.NameSets.{has}
use Rattle.state_xform.proofs.NameLaws.{names_of, seen-filter}
use Rattle.state_xform.proofs.names.NameSet.common.Goals as goal

pub returns : goal.returns
returns c x =
    let kept = filter_same _ (λ k. has c.args.other k.now) _ (λ k b f' call. search rules) _ _ c.retain.ensures.filtered in
    rw (← c.self.view_is, c.if-self.false)
    (ap (λ ks. list_any (bytes_eq x) (names_of ks)) kept ∙ seen-filter (has c.args.other) x c.self.inside.listed.keys)
