-- The names of a merged program as the carrying of scopes wants them.
use Rattle.std.proofs.Common.{◌∙◌}
use Rattle.update_semantics.specs.UpdatingRun.{World, cell_meaning}
use Rattle.version_names.specs.Provenance.{Provenance}
use Rattle.merged_program.specs.Names.{choice_name, variable_name}
use Rattle.merged_program.proofs.MergedNames.{bytes_eq-sym, choice_apart-cell, own_apart}
use Rattle.merged_types.proofs.CarriedScopes.{IsNaming}

module _ (W : World) where
  pub merged_naming : (o : Provenance) → IsNaming (variable_name W o)
  merged_naming o = record {
    same = own_apart W o;
    choice = λ x. choice_apart-cell (cell_meaning W o x);
    choice_after = λ x. bytes_eq-sym (variable_name W o x) choice_name ∙ choice_apart-cell (cell_meaning W o x);
  }
