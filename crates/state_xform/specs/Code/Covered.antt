-- The names that the code gathers of a transformer.
use Rattle.std.specs.Prelude.{◌≡◌, List}
use Rattle.c_lang.specs.Names.{Bytes}
use Rattle.c_lang.specs.Trees.{Statements}
use Rattle.c_lang.specs.declared.program.Func.{Func}
use Rattle.state_xform.specs.Code.NameSets.{has}
use Rattle.state_xform.specs.Paths.{always_set}
use Rattle.state_xform.specs.Transformers.{is_filled}
use Rattle.state_xform.specs.declared.covering.Covered.{Covered}

-- they are those that each path through the body sets, and the arrays of which one of these functions sets an element
pub record AreCovered (fs : List Func) (body : Statements) (covered : Covered) : Type 0 where
  pub always : (x : Bytes) → has covered.always x ≡ always_set x body
  pub filled : (x : Bytes) → has covered.filled x ≡ is_filled fs x
