-- The run of an old program that is updated once at most, at a point or at a client's force.
use Rattle.std.specs.Prelude.{ℕ, ℤ, pos, Bool, not, ◌&&◌, if◌then◌else◌, List, [], ◌∷◌, Option, Some, None, is_some, codes}
use Rattle.c_lang.specs.Names.{Bytes, behind}
use Rattle.c_lang.specs.Values.{Value, Num, is_zero}
use Rattle.plain_run.specs.Moves.{Move, Goes, Asks, events_of, Shows}
use Rattle.plain_run.specs.Steps.{Frame, Config, Live, Access, Does, Special, frame_of, before_rest, act, step_with}
use Rattle.c_lang.specs.Programs.{global_named, func_named, func_in, no_func, initial_value, initial_elements}
use Rattle.client_specs.specs.Kept.{ClientProgram}
use Rattle.version_names.specs.Links.{cell_part, code_part}
use Rattle.version_names.specs.Version.{Version, is_old}
use Rattle.version_names.specs.Version as version
use Rattle.version_names.specs.Home.{Home, Linked, Both, Old, New, Xform, Client, Unlinked, same_home, same_linked}
use Rattle.version_names.specs.Provenance.{Provenance, may_update}
use Rattle.version_names.specs.Provenance as origin
use Rattle.c_lang.specs.declared.event.Event.{Event}
use Rattle.c_lang.specs.declared.event.Event.TheVariants as event
use Rattle.c_lang.specs.declared.stmt.Dest.TheVariants.{Nowhere}
use Rattle.c_lang.specs.declared.stmt.Stmt.{Stmt, out-Stmt}
use Rattle.c_lang.specs.declared.stmt.Stmt.TheOpen.{Stmt-F}
use Rattle.c_lang.specs.declared.stmt.Stmt.TheOpen as one
use Rattle.c_lang.specs.declared.program.Func.{Func}
use Rattle.c_lang.specs.declared.program.Program.{Program}

pub record World : Type 0 where
  pub first : Program
  pub second : Program
  pub xform : Program
  pub client : Option ClientProgram
  -- the points at which the update may happen
  pub permits : ℕ → Bool

-- What all frames share: the current version, and the cells. A cell is a name with the home that
-- it has.
pub record State : Type 0 where
  pub now : Version
  pub values : Home → Bytes → Value Linked
  pub arrays : Home → Bytes → List ℤ

abbrev pub UpdFrame : Type 0
UpdFrame = Frame Linked Provenance

abbrev pub UpdConfig : Type 0
UpdConfig = Config Linked State Provenance

-- the name behind the prefix of the old or of the new version, where that version alone has it
abbrev pub old_or_new : (Version → Bytes → Home) → Bytes → Option Bytes → Option Bytes → Linked
old_or_new home x (Some y) new = if same_home (home version.Old y) Old then (Old, y) else (Unlinked, x)
old_or_new home x None (Some y) = if same_home (home version.New y) New then (New, y) else (Unlinked, x)
old_or_new home x None None = (Unlinked, x)

-- In the transformer and in the client a plain name is a shared one, `dsu_old_NAME` one of the old version
-- alone, and `dsu_new_NAME` one of the new version alone. A client's text has no such names: they stand in its
-- resolved form, by the place at which the name stands.
abbrev pub linked_by_prefix : (Version → Bytes → Home) → Bytes → Linked
linked_by_prefix home x =
    if same_home (home version.Old x) Both then (Both, x)
    else old_or_new home x (behind (codes "dsu_old_") x) (behind (codes "dsu_new_") x)

abbrev pub put_linked : {X : Type 0} → (Home → Bytes → X) → Linked → X → Home → Bytes → X
put_linked f k w h x = if same_linked k (h, x) then w else f h x

-- the first where the home is the new version alone
abbrev pub if_new : {X : Type 0} → Home → X → X → X
if_new New x y = x
if_new _ x y = y

-- the first where the old version has the cell
abbrev pub if_in_old : {X : Type 0} → Home → X → X → X
if_in_old Both x y = x
if_in_old Old x y = x
if_in_old _ x y = y

abbrev pub funcs_of_client : Option ClientProgram → List Func
funcs_of_client None = []
funcs_of_client (Some c) = c.program.funcs

module _ (W : World) where
  abbrev pub client_funcs : List Func
  client_funcs = funcs_of_client W.client

  -- the cell that a name stands for in a frame
  abbrev pub cell_meaning : Provenance → Bytes → Linked
  cell_meaning origin.Old x = (cell_part W.first W.second version.Old x, x)
  cell_meaning origin.New x = (cell_part W.first W.second version.New x, x)
  cell_meaning origin.Xform x = linked_by_prefix (cell_part W.first W.second) x
  cell_meaning origin.Client x = (Unlinked, x)

  -- the function that a name stands for in a frame
  abbrev pub function_meaning : Provenance → Bytes → Linked
  function_meaning origin.Old f = (code_part W.first W.second version.Old f, f)
  function_meaning origin.New f = (code_part W.first W.second version.New f, f)
  function_meaning origin.Xform f =
      if is_some (func_named W.xform.funcs f) then (Xform, f) else linked_by_prefix (code_part W.first W.second) f
  function_meaning origin.Client f =
      if is_some (func_named client_funcs f) then (Client, f) else linked_by_prefix (code_part W.first W.second) f

  abbrev pub version_code : Version → Bytes → Provenance × Func
  version_code version.Old f = (origin.Old, func_in W.first.funcs f)
  version_code version.New f = (origin.New, func_in W.second.funcs f)

  -- the body of a function: of a shared one that in the current version
  abbrev pub code_of : Version → Linked → Provenance × Func
  code_of now (Both, f) = version_code now f
  code_of now (Old, f) = version_code version.Old f
  code_of now (New, f) = version_code version.New f
  code_of now (Xform, f) = (origin.Xform, func_in W.xform.funcs f)
  code_of now (Client, f) = (origin.Client, func_in client_funcs f)
  code_of now (Unlinked, f) = (origin.Old, no_func)

  abbrev pub updating_access : Access Linked State Provenance
  updating_access = record {
    same = same_linked;
    value = λ o g x. let c = cell_meaning o x in g.values c.0 c.1;
    elements = λ o g x. let c = cell_meaning o x in g.arrays c.0 c.1;
    code = λ o g f. function_meaning o f;
    put = λ o x v g. record g { values = put_linked g.values (cell_meaning o x) v };
    put_elements = λ o x elements g. record g { arrays = put_linked g.arrays (cell_meaning o x) elements };
    enter = λ g f. code_of g.now f;
  }

  -- the new version's cells get their initial values, and it becomes the current one
  abbrev pub swapped_state : State → State
  swapped_state g = record {
    now = version.New;
    values = λ h x. if_new h (initial_value (function_meaning origin.New) (global_named W.second.globals x)) (g.values h x);
    arrays = λ h x. if_new h (initial_elements (global_named W.second.globals x)) (g.arrays h x);
  }

  -- the update: the transformer runs, and then the frame goes on
  abbrev pub swapped : State → UpdFrame → List UpdFrame → UpdConfig
  swapped g f fs =
      Live (swapped_state g) (frame_of updating_access (code_of version.New (Xform, codes "dsu_transform")) [] Nowhere) (f ∷ fs)

  abbrev pub nothing_special : Special updating_access
  nothing_special g f fs l = Goes [] (Live g f fs)

  -- a pick's call runs in the step of the pick; anything else, which no client picks, comes next
  abbrev pub picked : State → UpdFrame → List UpdFrame → Stmt → Stmt-F Stmt → Move UpdConfig
  picked g f fs s (one.Call p d h es) = act updating_access nothing_special g f fs s (one.Call p d h es)
  picked g f fs s l = Goes [] (before_rest updating_access g f fs (Does s ∷ []))

  abbrev pub update : Special updating_access
  update g f fs (one.Point p k) =
      if may_update f.origin && (is_old g.now && W.permits k)
      then Asks (λ z. event.Choice k (not (is_zero z))) (λ z. if is_zero z then Live g f fs else swapped g f fs)
      else Goes [] (Live g f fs)
  update g f fs (one.Force p) = Goes [] (if is_old g.now then swapped g f fs else Live g f fs)
  update g f fs (one.Pick p a b) = let s = (if is_old g.now then b else a) in picked g f fs s (out-Stmt s)
  update g f fs l = Goes [] (Live g f fs)

  abbrev pub step_updating : UpdConfig → Move UpdConfig
  step_updating = step_with updating_access update

  -- a shared cell starts with the old version's initial value; the new version's cells aren't there
  abbrev pub first_state : State
  first_state = record {
    now = version.Old;
    values = λ h x. if_in_old h (initial_value (function_meaning origin.Old) (global_named W.first.globals x)) (Num (pos 0));
    arrays = λ h x. if_in_old h (initial_elements (global_named W.first.globals x)) [];
  }

  -- the old `main`, or the client's function
  abbrev pub entry_code : Option ClientProgram → Provenance × Func
  entry_code None = version_code version.Old (codes "main")
  entry_code (Some c) = (origin.Client, func_in c.program.funcs c.spec)

  abbrev pub start_updating : UpdConfig
  start_updating = Live first_state (frame_of updating_access (entry_code W.client) [] Nowhere) []

  -- the events of the first n steps from the start with these answers
  abbrev pub events_updating : List ℤ → ℕ → List Event
  events_updating answers n = events_of step_updating n start_updating answers

  -- the observable prefixes of the updating run
  abbrev pub ObsU : List ℤ → List Event → Type 0
  ObsU answers h = Shows step_updating start_updating answers h
