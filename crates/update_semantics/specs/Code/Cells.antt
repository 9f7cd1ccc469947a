-- What the tables of cells stand for.
use Rattle.std.specs.Prelude.{◌≡◌, ℤ, pos, Bool, true, false, List, [], Some, None}
use Rattle.c_lang.specs.Names.{Bytes}
use Rattle.c_lang.specs.Programs.{global_named, initial_value, initial_elements}
use Rattle.c_lang.specs.Values as spec
use Rattle.c_lang.specs.declared.program.GlobalVar.{GlobalVar}
use Rattle.plain_run.specs.Code.Names.{Entries, Arrays, seen_values, seen_arrays}
use Rattle.plain_run.specs.Steps.{updated, elements_with}
use Rattle.version_names.specs.Home as home
use Rattle.version_names.specs.Home.{Home, Linked}
use Rattle.version_names.specs.Parts.{version_of}
use Rattle.version_names.specs.Provenance as origin
use Rattle.version_names.specs.declared.part.Version.{Version}
use Rattle.version_names.specs.declared.part.Version.TheVariants as v
use Rattle.update_semantics.specs.Linked.{function_at, program_of}
use Rattle.update_semantics.specs.UpdatingRun as run
use Rattle.update_semantics.specs.UpdatingRun.{put_linked, function_meaning}
use Rattle.update_semantics.specs.Worlds.{World, world_of}
use Rattle.update_semantics.specs.declared.cells.Cells.{Cells}
use Rattle.update_semantics.specs.declared.linked.Function.{Function}
use Rattle.update_semantics.specs.declared.state.State.{State}

abbrev pub Values : Type 0
Values = Entries Function

abbrev pub values_of : Cells → Bytes → spec.Value Linked
values_of c = seen_values function_at c.values.entries

abbrev pub arrays_of : Cells → Bytes → List ℤ
arrays_of c = seen_arrays c.arrays.entries

-- the origin of a version's frames
abbrev pub origin_of : Version → origin.Provenance
origin_of v.Old = origin.Old
origin_of v.New = origin.New

-- the cells have the initial values of these globals of a version
abbrev pub HasValuesOf : World → Version → Values → List GlobalVar → Type 0
HasValuesOf w u entries globals =
    (x : Bytes) → seen_values function_at entries x ≡ initial_value (function_meaning (world_of w) (origin_of u)) (global_named globals x)

-- and those of all its globals
abbrev pub HasValues : World → Version → Values → Type 0
HasValues w u entries = HasValuesOf w u entries (program_of w u).globals

abbrev pub HasArrays : World → Version → Arrays → Type 0
HasArrays w u entries = (x : Bytes) → seen_arrays entries x ≡ initial_elements (global_named (program_of w u).globals x)

-- An element is written, or its index is out of bounds and nothing changes. `put` says what the whole
-- is with other elements.
abbrev pub Sets : {S : Type 0} → List ℤ → (List ℤ → S) → S → ℤ → ℤ → Bool → S → Type 0
Sets old put s at z true s' = (elements : List ℤ) × (elements_with old at z ≡ Some elements) × (s' ≡ put elements)
Sets old put s at z false s' = (elements_with old at z ≡ None) × (s' ≡ s)

abbrev pub SetsIn : (Bytes → List ℤ) → Bytes → ℤ → ℤ → Bool → (Bytes → List ℤ) → Type 0
SetsIn arrays a at z written arrays' = Sets (arrays a) (updated arrays a) arrays at z written arrays'

-- what stands at a home, given what stands at each that a cell can have
abbrev pub at_home : {X : Type 0} → X → X → X → X → X → Home → X
at_home both old new unlinked other home.Both = both
at_home both old new unlinked other home.Old = old
at_home both old new unlinked other home.New = new
at_home both old new unlinked other home.Unlinked = unlinked
at_home both old new unlinked other home.Xform = other
at_home both old new unlinked other home.Client = other

abbrev pub state_of : State → run.State
state_of s = record {
  now = version_of s.version;
  values = at_home (values_of s.shared) (values_of s.old_cells) (values_of s.new_cells) (values_of s.unlinked) (λ x. spec.Num (pos 0));
  arrays = at_home (arrays_of s.shared) (arrays_of s.old_cells) (arrays_of s.new_cells) (arrays_of s.unlinked) (λ x. []);
}

abbrev pub SetsCell : run.State → Linked → ℤ → ℤ → Bool → run.State → Type 0
SetsCell g c at z written g' = Sets (g.arrays c.0 c.1) (λ elements. record g { arrays = put_linked g.arrays c elements }) g at z written g'
