-- Which programs are clients of an old and a new program, with the function of this name.
use Rattle.std.specs.Prelude.{⊤, ◌≡◌, Bool, true, false, ◌&&◌, ◌||◌, List, [], ◌∷◌, Option, Some, None}
use Rattle.c_lang.specs.Names.{Bytes}
use Rattle.c_lang.specs.Programs.{func_named}
use Rattle.c_lang.specs.Trees.{Statements, none, more}
use Rattle.c_lang.specs.declared.program.Func.{Func}
use Rattle.c_lang.specs.declared.program.Program.{Program}
use Rattle.c_types.specs.Bodies.{body_of}
use Rattle.c_types.specs.Names.{Entries, found}
use Rattle.c_types.specs.Statements.{is_force}
use Rattle.c_types.specs.Programs.{with_func, with_funcs, is_empty}
use Rattle.c_types.specs.Types.{AreTypedProtos, IsTypedFrom}
use Rattle.version_names.specs.Parts.{Parts, part_of}
use Rattle.version_names.specs.declared.part.Version.{Version}
use Rattle.version_names.specs.declared.part.Sort2.{Sort2}
use Rattle.client_specs.specs.declared.kind.ClientKind.{ClientKind}
use Rattle.client_specs.specs.declared.kind.ClientKind.TheVariants.{Backward, Post, Conform}
use Rattle.client_specs.specs.Kinds.{kind_of}
use Rattle.client_specs.specs.Starts.{start}

-- ---- functions

-- `seen` has what the unit declares before
pub record IsOwnName (parts : Parts) (seen : Entries) (x : Bytes) : Type 0 where
  pub new : found seen x ≡ None
  -- no version has the name, as a global or as a function
  pub free : (v : Version) (s : Sort2) → parts v s x ≡ None

module _ (parts : Parts) (first second p : Program) (spec : Bytes) where
  abbrev pub AreOwnFuncs : Entries → List Func → Type 0
  AreOwnFuncs seen [] = ⊤
  AreOwnFuncs seen (f ∷ fs) =
      IsOwnName parts seen f.name × IsTypedFrom (start parts first second p spec f) f × AreOwnFuncs (with_func seen f) fs

-- ---- the function with which a run begins

abbrev pub has_force : Statements → Bool
has_force none = false
has_force (more s ss) = is_force s || has_force ss

-- a post-update client forces the update
abbrev pub fits_kind : Option ClientKind → Func → Bool
fits_kind None f = false
fits_kind (Some Backward) f = true
fits_kind (Some Post) f = has_force (body_of f.body)
fits_kind (Some Conform) f = true

-- it has no parameters, and its name gives a kind that it fits
abbrev pub is_spec : Bytes → Option Func → Bool
is_spec spec None = false
is_spec spec (Some f) = is_empty f.params && fits_kind (kind_of spec) f

-- ---- clients

pub record IsClient (first second : Program) (spec : Bytes) (p : Program) : Type 0 where
  pub globals : p.globals ≡ []
  pub protos : AreTypedProtos (with_funcs [] p.funcs) p.protos
  pub funcs : AreOwnFuncs (part_of first second) first second p spec [] p.funcs
  pub named : is_spec spec (func_named p.funcs spec) ≡ true
  pub early : p.early ≡ []
