-- Which programs are transformers of an old and a new program.
use Rattle.std.specs.Prelude.{⊤, ◌≡◌, codes, Bool, true, false, not, ◌&&◌, List, [], ◌∷◌, Option, Some, None}
use Rattle.std.specs.List.{list_all, list_any, filter}
use Rattle.c_lang.specs.Names.{Bytes}
use Rattle.c_lang.specs.Programs.{func_named, func_in}
use Rattle.c_lang.specs.Trees.{Statements}
use Rattle.c_lang.specs.declared.program.Shape.{Shape}
use Rattle.c_lang.specs.declared.program.Shape.TheVariants as shape
use Rattle.c_lang.specs.declared.program.GlobalVar.{GlobalVar}
use Rattle.c_lang.specs.declared.program.Func.{Func}
use Rattle.c_lang.specs.declared.program.Program.{Program}
use Rattle.c_types.specs.Bodies.{body_of}
use Rattle.c_types.specs.Names.{Entries, found}
use Rattle.c_types.specs.Scopes.{names_version}
use Rattle.c_types.specs.Programs.{with_func, with_funcs, is_empty}
use Rattle.c_types.specs.Types.{AreTypedProtos, IsTypedFunc}
use Rattle.version_names.specs.Merged.{merged_name}
use Rattle.version_names.specs.Parts.{Parts, part_of, is_changed_cell}
use Rattle.version_names.specs.declared.part.Origin.TheVariants.{New}
use Rattle.version_names.specs.declared.part.Version.{Version}
use Rattle.version_names.specs.declared.part.Sort2.{Sort2}
use Rattle.state_xform.specs.Paths.{always_set}
use Rattle.state_xform.specs.Visible.{visible}
use Rattle.state_xform.specs.Elements.{sets_element_in}

-- ---- functions

-- `seen` has what the unit declares before
pub record IsOwnName (parts : Parts) (seen : Entries) (x : Bytes) : Type 0 where
  pub new : found seen x ≡ None
  -- no version has the name, as a global or as a function
  pub free : (v : Version) (s : Sort2) → parts v s x ≡ None
  -- it doesn't begin as the names of one version alone do
  pub plain : names_version x ≡ false

-- no function has input, output or a point, calls through a pointer or calls a function of a version:
-- these aren't typed in a transformer
abbrev pub AreOwnFuncs : Parts → Entries → Entries → List Func → Type 0
AreOwnFuncs parts outside seen [] = ⊤
AreOwnFuncs parts outside seen (f ∷ fs) =
    IsOwnName parts seen f.name × IsTypedFunc outside true f × AreOwnFuncs parts outside (with_func seen f) fs

-- ---- the function that the update runs

unfoldable pub start_name : Bytes
start_name = codes "dsu_transform"

abbrev pub is_start : Option Func → Bool
is_start None = false
is_start (Some f) = not f.gives && is_empty f.params

-- ---- coverage

-- an element of the array is set in some function
abbrev pub is_filled : List Func → Bytes → Bool
is_filled fs x = list_any (λ (f : Func). sets_element_in x (body_of f.body)) fs

-- a number or a pointer is set on every path through the body
abbrev pub is_covered : List Func → Statements → Bytes → Shape → Bool
is_covered fs body x (shape.Int z) = always_set x body
is_covered fs body x (shape.Fp n f) = always_set x body
is_covered fs body x (shape.Arr zs) = is_filled fs x

-- the changed globals as the new program has them, in its order
abbrev pub changed_globals : Program → Program → List GlobalVar
changed_globals first second = filter (λ (g : GlobalVar). is_changed_cell first second g.name) second.globals

-- the new cell of each changed global is covered
abbrev pub Covers : Program → Program → Program → Type 0
Covers first second p =
    let body = body_of (func_in p.funcs start_name).body in
    list_all (λ (g : GlobalVar). is_covered p.funcs body (merged_name New g.name) g.shape) (changed_globals first second) ≡ true

-- ---- transformers

pub record IsTransformer (first second p : Program) : Type 0 where
  pub globals : p.globals ≡ []
  pub protos : AreTypedProtos (with_funcs [] p.funcs) p.protos
  pub funcs : AreOwnFuncs (part_of first second) (visible (part_of first second) first second p) [] p.funcs
  -- there is `void dsu_transform(void)`
  pub start : is_start (func_named p.funcs start_name) ≡ true
  pub early : p.early ≡ []
  pub covers : Covers first second p
