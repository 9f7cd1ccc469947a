-- The first refusal of a transformer: globals, prototypes, functions in source order, then what the unit as a
-- whole must have.
use Rattle.std.specs.Prelude.{ℕ, Bool, true, false, not, ◌&&◌, ◌||◌, if◌then◌else◌, List, [], ◌∷◌, Option, Some, None, is_some}
use Rattle.c_lang.specs.Refusals as refused
use Rattle.c_lang.specs.Names.{Bytes}
use Rattle.c_lang.specs.Programs.{func_named}
use Rattle.c_lang.specs.Trees.{Statements}
use Rattle.c_lang.specs.declared.unit.Pos.{Pos}
use Rattle.c_lang.specs.declared.unit.Unit.TheVariants as unit
use Rattle.c_lang.specs.declared.refusal.Refusal.{Refusal}
use Rattle.c_lang.specs.declared.program.GlobalVar.{GlobalVar}
use Rattle.c_lang.specs.declared.program.Func.{Func}
use Rattle.c_lang.specs.declared.program.Program.{Program}
use Rattle.c_types.specs.Bodies.{body_of}
use Rattle.c_types.specs.Names.{Entries, found}
use Rattle.c_types.specs.Scopes.{names_version}
use Rattle.c_types.specs.Checks.{first}
use Rattle.c_types.specs.Functions.{refusal_of_func}
use Rattle.c_types.specs.Programs.{with_func, resolved_funcs, first_early, first_line}
use Rattle.version_names.specs.Merged.{merged_name}
use Rattle.version_names.specs.declared.part.Origin.TheVariants as origin
use Rattle.version_names.specs.declared.part.Version.TheVariants as version
use Rattle.version_names.specs.declared.part.Part.{Part}
use Rattle.version_names.specs.declared.part.Part.TheVariants.{Old, New}
use Rattle.version_names.specs.declared.part.Sort2.TheVariants as sort
use Rattle.state_xform.specs.Transformers.{start_name, is_start, is_covered}
use Rattle.version_names.specs.Parts.{Parts, in_version}
use Rattle.c_types.specs.Beside.{refusal_of_declarations}
use Rattle.state_xform.specs.Visible.{visible}

-- ---- functions

-- 7 where the name isn't the transformer's own
abbrev pub wrong_own_name : Parts → Entries → Bytes → Option ℕ
wrong_own_name parts seen x = if is_some (found seen x) || in_version parts x || names_version x then Some refused.duplicate else None

abbrev pub refusal_of_own : Parts → Entries → Entries → List Func → Option Refusal
refusal_of_own parts outside seen [] = None
refusal_of_own parts outside seen (f ∷ fs) =
    first (refusal_of_func (wrong_own_name parts seen f.name) outside true f) (refusal_of_own parts outside (with_func seen f) fs)

-- ---- coverage

abbrev pub is_old : Option Part → Bool
is_old (Some Old) = true
is_old _ = false

abbrev pub is_new : Option Part → Bool
is_new (Some New) = true
is_new _ = false

-- each version has a global of its own by this name
abbrev pub is_changed : Parts → Bytes → Bool
is_changed parts x = is_old (parts version.Old sort.Cell x) && is_new (parts version.New sort.Cell x)

abbrev pub not_covered : Pos → Bytes → Refusal
not_covered p x = record { number = refused.not_covered; pos = p; name = Some x }

abbrev pub is_uncovered : Parts → List Func → Statements → GlobalVar → Bool
is_uncovered parts fs body g = is_changed parts g.name && not (is_covered fs body (merged_name origin.New g.name) g.shape)

-- the first changed global of these that isn't covered
abbrev pub refusal_of_coverage : Parts → List Func → Func → List GlobalVar → Option Refusal
refusal_of_coverage parts fs start [] = None
refusal_of_coverage parts fs start (g ∷ gs) =
    if is_uncovered parts fs (body_of start.body) g then Some (not_covered start.pos g.name) else refusal_of_coverage parts fs start gs

-- ---- the whole unit

-- 13 where there is no `void dsu_transform(void)`
abbrev pub no_start : Refusal
no_start = record { number = refused.no_start; pos = first_line unit.Xform; name = None }

-- `start` is the function `dsu_transform`
abbrev pub refusal_of_started : Parts → Program → Program → Func → Option Refusal
refusal_of_started parts second p start =
    if is_start (Some start) then first (first_early p.early) (refusal_of_coverage parts p.funcs start second.globals) else Some no_start

abbrev pub refusal_of_whole : Parts → Program → Program → Option Func → Option Refusal
refusal_of_whole parts second p None = Some no_start
refusal_of_whole parts second p (Some start) = refusal_of_started parts second p start

abbrev pub first_refusal : Parts → Program → Program → Program → Option Refusal
first_refusal parts old second p =
    let outside = visible parts old second p in
    first (refusal_of_declarations refused.transformer_effect unit.Xform outside p)
    (first (refusal_of_own parts outside [] p.funcs) (refusal_of_whole parts second p (func_named p.funcs start_name)))

-- names stay as they are written
abbrev pub resolved_transformer : Parts → Program → Program → Program → Program
resolved_transformer parts old second p =
    record p { funcs = resolved_funcs (visible parts old second p) true p.funcs; early = [] }
