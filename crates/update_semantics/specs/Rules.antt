-- The rules by which runs of a world go on.
use Rattle.std.specs.Prelude.{codes}
use Rattle.plain_run.specs.Environments.{Rules}
use Rattle.version_names.specs.Home.{Linked, Xform}
use Rattle.version_names.specs.Provenance.{Provenance}
use Rattle.version_names.specs.Version.{New}
use Rattle.update_semantics.specs.UpdatingRun.{World, State, code_of, updating_access, swapped_state, update}

abbrev pub rules_of : World → Rules Linked State Provenance
rules_of W = record {
  access = updating_access W;
  special = update W;
  update = swapped_state W;
  transformer = code_of W New (Xform, codes "dsu_transform");
}
