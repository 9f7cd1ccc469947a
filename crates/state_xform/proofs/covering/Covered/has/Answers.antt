use Rattle.std.proofs.Common.{◌≡◌, ◌∙◌, ap, inl, inr}
use Rattle.version_names.specs.Merged as merged
use Rattle.version_names.specs.declared.part.Origin.TheVariants.{New}
use Rattle.state_xform.specs.Paths.{always_set}
use Rattle.state_xform.proofs.covering.Covered.has.Goals as goal

pub returns-in-Int : goal.returns-in-Int
returns-in-Int c = λ fs body covered.
    let set : c.contains-in-Int.result ≡ always_set (merged.merged_name New c.args.g.now.name) body =
    c.contains-in-Int.ensures ∙ covered.always c.in_ok-name.name ∙ ap (λ x. always_set x body) c.in_ok-name.ensures in
    elim c.in-Int.is [
      | inl (z, is) ↦ rw is set
      | inr (n, f, is) ↦ rw is set
    ]
