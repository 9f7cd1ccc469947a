-- An element of the cell that a name stands for is written.
use Rattle.std.proofs.Common.{ℤ, Bool, true, false}
use Rattle.c_lang.specs.Names.{Bytes}
use Rattle.plain_run.specs.Environments.{SetsElement}
use Rattle.version_names.specs.Provenance.{Provenance}
use Rattle.update_semantics.specs.Code.Cells.{SetsCell}
use Rattle.update_semantics.specs.UpdatingRun.{World, State, cell_meaning, updating_access}

pub sets_element : (W : World) (o : Provenance) (g : State) (a : Bytes) (at z : ℤ) (written : Bool) (g' : State)
    → SetsCell g (cell_meaning W o a) at z written g' → SetsElement (updating_access W) o g a at z written g'
sets_element W o g a at z true g' sets = sets
sets_element W o g a at z false g' sets = sets
