-- The one program that two versions, a transformer and a client are merged into.
use Rattle.std.specs.Prelude.{pos, ℕ, ◌+◌, Bool, true, not, ◌&&◌, if◌then◌else◌, List, [], ◌∷◌, ◌++◌, map, Option, Some, None, codes}
use Rattle.std.specs.List.{filter}
use Rattle.c_lang.specs.Names.{Bytes}
use Rattle.c_lang.specs.Units.{at}
use Rattle.c_lang.specs.Programs.{func_in}
use Rattle.c_lang.specs.Trees.{stmt_of, stmts_of}
use Rattle.c_lang.specs.declared.unit.Unit.TheVariants.{Merge}
use Rattle.c_lang.specs.declared.stmt.Kind.{Kind}
use Rattle.c_lang.specs.declared.stmt.Stmt.{Stmt}
use Rattle.c_lang.specs.declared.program.Shape.{Shape}
use Rattle.c_lang.specs.declared.program.Shape.TheVariants.{Int, Arr, Fp}
use Rattle.c_lang.specs.declared.program.GlobalVar.{GlobalVar}
use Rattle.c_lang.specs.declared.program.Proto.{Proto}
use Rattle.c_lang.specs.declared.program.Func.{Func}
use Rattle.c_lang.specs.declared.program.Program.{Program}
use Rattle.c_types.specs.Bodies.{body_of}
use Rattle.c_types.specs.Endings.{can_end}
use Rattle.c_types.specs.Functions.{kinds_of, is_main}
use Rattle.version_names.specs.Links.{is_shared_cell, is_shared_code}
use Rattle.version_names.specs.Merged.{merged_name}
use Rattle.version_names.specs.Provenance.{Provenance}
use Rattle.version_names.specs.Provenance as origin
use Rattle.version_names.specs.declared.part.Origin.TheVariants as prefix
use Rattle.client_specs.specs.Kept.{ClientProgram}
use Rattle.update_semantics.specs.UpdatingRun.{World, client_funcs}
use Rattle.merged_program.specs.Names.{now_name, parameter_name, variable_name, function_name}
use Rattle.merged_program.specs.Statements.{hand, wrapping, return_zero, merged_statements}

-- ---- functions that no source has

abbrev pub parameters_from : ℕ → List Kind → List (Kind × Bytes)
parameters_from n [] = []
parameters_from n (k ∷ ks) = (k, parameter_name n) ∷ parameters_from (n + 1) ks

-- calls the current version's function
abbrev pub wrapper : Func → Func
wrapper f =
    let params = parameters_from 1 (kinds_of f.params) in
    record {
      name = merged_name prefix.Any f.name;
      params = params;
      gives = f.gives;
      body = stmt_of (wrapping f.pos f.gives (merged_name prefix.New f.name) (merged_name prefix.Old f.name) params) ∷ [];
      pos = f.pos;
    }

-- calls the function of this name with which a run begins; where it gives nothing, the result is 0
abbrev pub starting : Bytes → Func → Func
starting name f = record {
  name = codes "main";
  params = [];
  gives = true;
  body = stmts_of (hand f.pos f.gives name []) ++ (if f.gives then [] else stmt_of (return_zero f.pos) ∷ []);
  pos = f.pos;
}

-- a function's prototype
abbrev pub declared : Func → Proto
declared f = record { name = f.name; params = kinds_of f.params; gives = f.gives; pos = f.pos }

-- the flag says that the update hasn't happened
abbrev pub flag : GlobalVar
flag = record { name = now_name; shape = Int (pos 0); pos = at Merge 1 }

-- what is behind the body of a version's `main` that can end
abbrev pub ending : Func → List Stmt
ending f = if is_main f.name && can_end (body_of f.body) then stmt_of (return_zero f.pos) ∷ [] else []

module _ (W : World) where
  -- ---- globals

  abbrev pub merged_shape : Provenance → Shape → Shape
  merged_shape o (Int z) = Int z
  merged_shape o (Arr zs) = Arr zs
  merged_shape o (Fp n None) = Fp n None
  merged_shape o (Fp n (Some f)) = Fp n (Some (function_name W o f))

  abbrev pub merged_global : Provenance → GlobalVar → GlobalVar
  merged_global o g = record { name = variable_name W o g.name; shape = merged_shape o g.shape; pos = g.pos }

  abbrev pub is_own_cell : GlobalVar → Bool
  is_own_cell g = not (is_shared_cell W.first W.second g.name)

  -- the flag, the old version's, and what the new version doesn't share with it
  abbrev pub merged_globals : List GlobalVar
  merged_globals =
      flag ∷ map (merged_global origin.Old) W.first.globals ++ map (merged_global origin.New) (filter is_own_cell W.second.globals)

  -- ---- functions

  abbrev pub merged_body : Provenance → List Stmt → List Stmt
  merged_body o body = stmts_of (merged_statements W.permits (variable_name W) (function_name W) o (body_of body))

  abbrev pub merged_param : Provenance → Kind × Bytes → Kind × Bytes
  merged_param o q = (q.0, variable_name W o q.1)

  -- a function with this name, and with statements behind its body
  abbrev pub merged_func : Provenance → Bytes → List Stmt → Func → Func
  merged_func o name behind f =
      record { name = name; params = map (merged_param o) f.params; gives = f.gives; body = merged_body o f.body ++ behind; pos = f.pos }

  abbrev pub old_func : Func → Func
  old_func f = merged_func origin.Old (merged_name prefix.Old f.name) (ending f) f

  abbrev pub new_func : Func → Func
  new_func f = merged_func origin.New (merged_name prefix.New f.name) (ending f) f

  abbrev pub xform_func : Func → Func
  xform_func f = merged_func origin.Xform (merged_name prefix.Xform f.name) [] f

  abbrev pub client_func : Func → Func
  client_func f = merged_func origin.Client (merged_name prefix.Client f.name) [] f

  abbrev pub is_wrapped : Func → Bool
  is_wrapped f = is_shared_code W.first W.second f.name

  -- begins with the old `main`, or with the client's function
  abbrev pub merged_main : Option ClientProgram → Func
  merged_main None = starting (merged_name prefix.Old (codes "main")) (func_in W.first.funcs (codes "main"))
  merged_main (Some c) = starting (merged_name prefix.Client c.spec) (func_in c.program.funcs c.spec)

  abbrev pub merged_funcs : List Func
  merged_funcs =
      map old_func W.first.funcs
      ++ (map new_func W.second.funcs
      ++ (map wrapper (filter is_wrapped W.first.funcs)
      ++ (map xform_func W.xform.funcs
      ++ (map client_func (client_funcs W)
      ++ (merged_main W.client ∷ [])))))

  -- ---- the program

  abbrev pub merged_program : Program
  merged_program = record { globals = merged_globals; protos = map declared merged_funcs; funcs = merged_funcs; early = [] }
