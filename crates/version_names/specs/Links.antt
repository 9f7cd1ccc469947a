-- How the two versions are linked by name.
use Rattle.std.specs.Prelude.{Bool, true, false, ◌&&◌, ◌==◌, if◌then◌else◌, length, Option, Some, is_some}
use Rattle.c_lang.specs.Names.{Bytes}
use Rattle.c_lang.specs.Kinds.{same_kinds, same_result}
use Rattle.c_types.specs.Functions.{kinds_of}
use Rattle.c_lang.specs.Programs.{global_named, func_named}
use Rattle.version_names.specs.Version.{Version}
use Rattle.version_names.specs.Version as version
use Rattle.version_names.specs.Home.{Home, Both, Old, New, Unlinked}
use Rattle.c_lang.specs.declared.program.Shape.{Shape}
use Rattle.c_lang.specs.declared.program.Shape.TheVariants as shape
use Rattle.c_lang.specs.declared.program.GlobalVar.{GlobalVar}
use Rattle.c_lang.specs.declared.program.Func.{Func}
use Rattle.c_lang.specs.declared.program.Program.{Program}

-- a number, an array of the same length, or a pointer of the same arity; initial values may differ
abbrev pub same_shape : Shape → Shape → Bool
same_shape (shape.Int y) (shape.Int z) = true
same_shape (shape.Arr ys) (shape.Arr zs) = length ys == length zs
same_shape (shape.Fp m f) (shape.Fp n g) = m == n
same_shape _ _ = false

-- the same kinds of parameters, and both with a result or both without
abbrev pub same_head : Func → Func → Bool
same_head f g = same_kinds (kinds_of f.params) (kinds_of g.params) && same_result f.gives g.gives

-- a name is shared where both versions have it alike
abbrev pub both_alike : {X : Type 0} → (X → X → Bool) → Option X → Option X → Bool
both_alike same (Some x) (Some y) = same x y
both_alike same _ _ = false

-- where the name of a version stands: in both where it is shared, else in that version; nowhere
-- where the version lacks it
abbrev pub part : Version → Bool → Bool → Home
part version.Old has shared = if has then (if shared then Both else Old) else Unlinked
part version.New has shared = if has then (if shared then Both else New) else Unlinked

module _ (first second : Program) where
  abbrev pub is_shared_cell : Bytes → Bool
  is_shared_cell x = both_alike (λ (g h : GlobalVar). same_shape g.shape h.shape) (global_named first.globals x) (global_named second.globals x)

  abbrev pub is_shared_code : Bytes → Bool
  is_shared_code f = both_alike same_head (func_named first.funcs f) (func_named second.funcs f)

  abbrev pub program_of : Version → Program
  program_of version.Old = first
  program_of version.New = second

  -- where a version's global stands
  abbrev pub cell_part : Version → Bytes → Home
  cell_part v x = part v (is_some (global_named (program_of v).globals x)) (is_shared_cell x)

  -- where a version's function stands
  abbrev pub code_part : Version → Bytes → Home
  code_part v f = part v (is_some (func_named (program_of v).funcs f)) (is_shared_code f)
