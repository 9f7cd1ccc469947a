-- The first refusal of a client: globals, prototypes, functions in source order, then the function with which a run begins.
use Rattle.std.specs.Prelude.{ℕ, ◌||◌, if◌then◌else◌, List, [], ◌∷◌, Option, Some, None, is_some}
use Rattle.c_lang.specs.Refusals as refused
use Rattle.c_lang.specs.Names.{Bytes}
use Rattle.c_lang.specs.Programs.{func_named}
use Rattle.c_lang.specs.declared.unit.Unit.TheVariants.{Client}
use Rattle.c_lang.specs.declared.refusal.Refusal.{Refusal}
use Rattle.c_lang.specs.declared.program.Func.{Func}
use Rattle.c_lang.specs.declared.program.Program.{Program}
use Rattle.c_types.specs.Names.{Entries, found}
use Rattle.c_types.specs.Checks.{first}
use Rattle.c_types.specs.Functions.{refusal_from, resolved_from}
use Rattle.c_types.specs.Programs.{with_func, first_early, first_line}
use Rattle.c_types.specs.Beside.{refusal_of_declarations}
use Rattle.version_names.specs.Parts.{Parts, in_version}
use Rattle.client_specs.specs.declared.region.Region.TheVariants.{Here}
use Rattle.client_specs.specs.Visible.{visible}
use Rattle.client_specs.specs.Starts.{start}
use Rattle.client_specs.specs.Clients.{is_spec}
use Rattle.client_specs.specs.Spelled.{spelled_func}

-- 7 where the name isn't the client's own
abbrev pub wrong_own_name : Parts → Entries → Bytes → Option ℕ
wrong_own_name parts seen x = if is_some (found seen x) || in_version parts x then Some refused.duplicate else None

-- 22 where no function of this name can begin a run
abbrev pub no_spec : Refusal
no_spec = record { number = refused.no_spec; pos = first_line Client; name = None }

abbrev pub refusal_of_whole : Bytes → Program → Option Refusal
refusal_of_whole spec p = if is_spec spec (func_named p.funcs spec) then first_early p.early else Some no_spec

module _ (parts : Parts) (old new p : Program) (spec : Bytes) where
  abbrev pub refusal_of_own : Entries → List Func → Option Refusal
  refusal_of_own seen [] = None
  refusal_of_own seen (f ∷ fs) =
      first (refusal_from (wrong_own_name parts seen f.name) (start parts old new p spec f) f) (refusal_of_own (with_func seen f) fs)

  abbrev pub first_refusal : Option Refusal
  first_refusal =
      first (refusal_of_declarations refused.client_global Client (visible parts Here old new p) p)
      (first (refusal_of_own [] p.funcs) (refusal_of_whole spec p))

  abbrev pub resolved_own : List Func → List Func
  resolved_own [] = []
  resolved_own (f ∷ fs) = spelled_func parts (resolved_from (start parts old new p spec f) f) ∷ resolved_own fs

  -- with names that say what is meant
  abbrev pub resolved_client : Program
  resolved_client = record p { funcs = resolved_own p.funcs; early = [] }
