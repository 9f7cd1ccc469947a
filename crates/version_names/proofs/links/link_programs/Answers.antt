use Rattle.std.proofs.Common.{◌∙◌, ap, ap₂, map}
use Rattle.version_names.specs.Code.Declarations.{declared_global, declared_func}
use Rattle.version_names.specs.Parts.{changed_by}
use Rattle.version_names.specs.Code.Statuses.{statuses_of}
use Rattle.version_names.proofs.StatusLaws.{is-linked}
use Rattle.version_names.proofs.links.link_programs.Goals as goal

pub returns : goal.returns
returns c =
    is-linked c.args.first.now c.args.second.now _
    (c.in_ok-cells.ensures ∙ ap₂ (λ olds news. statuses_of (map declared_global olds) (map declared_global news)) c.as_slice.ensures c.as_slice-2.ensures)
    (c.in_ok-codes.ensures ∙ ap₂ (λ olds news. statuses_of (map declared_func olds) (map declared_func news)) c.as_slice-3.ensures c.as_slice-4.ensures)
    (c.in_ok-changed.ensures ∙ ap (changed_by _) c.as_slice-5.ensures)
