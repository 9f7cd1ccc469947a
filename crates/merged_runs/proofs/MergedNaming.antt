-- The names of a merged program as a simulation wants them.
use Rattle.std.proofs.Common.{refl, ◌∙◌}
use Rattle.update_semantics.specs.UpdatingRun.{World, cell_meaning}
use Rattle.merged_program.specs.Names.{now_name, cell_name, code_name, variable_name, function_name}
use Rattle.merged_program.proofs.MergedNames.{bytes_eq-sym, same_cells, same_codes, cell_apart-now, choice_apart-cell, own_apart}
use Rattle.merged_runs.proofs.Relation.{Naming}

module _ (W : World) where
  pub merged_naming : Naming W (variable_name W) (function_name W) code_name
  merged_naming = record {
    cells = λ o x q y. same_cells (cell_meaning W o x) (cell_meaning W q y);
    locals = own_apart W;
    values = same_codes;
    codes = λ o f. refl;
    apart_now = λ o x. cell_apart-now (cell_meaning W o x);
    now_apart = λ o x. bytes_eq-sym now_name (cell_name (cell_meaning W o x)) ∙ cell_apart-now (cell_meaning W o x);
    choice_apart = λ o x. choice_apart-cell (cell_meaning W o x);
  }
