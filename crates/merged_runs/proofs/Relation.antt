-- How the updating run of a world and the plain run of its merged program correspond.
use Rattle.std.proofs.Common.{◌≡◌, pos, Bool, true, false, List, [], ◌∷◌, ◌++◌, map, None, ◌⊎◌, codes}
use Rattle.std.specs.Option.{option_map}
use Rattle.std.specs.Str.{bytes_eq}
use Rattle.c_lang.specs.Names.{Bytes}
use Rattle.c_lang.specs.Values.{Value, Num}
use Rattle.plain_run.specs.Moves.{Move}
use Rattle.plain_run.specs.Steps.{Item, Does, Live, Over}
use Rattle.plain_run.specs.PlainRun.{Store, PlainFrame, PlainConfig, step}
use Rattle.version_names.specs.Version.{Version}
use Rattle.version_names.specs.Version as version
use Rattle.version_names.specs.Home.{Home, Linked, same_linked}
use Rattle.version_names.specs.Home as home
use Rattle.version_names.specs.Provenance.{Provenance}
use Rattle.version_names.specs.Provenance as origin
use Rattle.update_semantics.specs.UpdatingRun.{World, State, UpdFrame, UpdConfig, cell_meaning, function_meaning, code_of, swapped_state, step_updating}
use Rattle.plain_run.proofs.Simulation.{Matches}
use Rattle.c_lang.specs.declared.unit.Pos.{Pos}
use Rattle.c_lang.specs.declared.stmt.Kind.TheVariants as kind
use Rattle.c_lang.specs.declared.stmt.Dest.{Dest}
use Rattle.c_lang.specs.declared.stmt.Dest.TheVariants.{Nowhere, Fresh}
use Rattle.c_lang.specs.declared.program.Program.{Program}
use Rattle.merged_program.specs.Names.{now_name, choice_name, result_name}
use Rattle.merged_program.specs.Expressions.{renamed_dest}
use Rattle.merged_runs.proofs.MergedStatements.{hand_on, return_zero, merged_item}
use Rattle.merged_runs.proofs.EvaluationRenamed.{renamed_value}

-- the function of the transformer that an update runs
abbrev pub transform_function : Bytes
transform_function = codes "dsu_transform"

-- a cell of the new version alone is there only after the swap
abbrev pub is_there : Version → Home → Bool
is_there version.Old home.New = false
is_there version.Old home.Both = true
is_there version.Old home.Old = true
is_there version.Old home.Xform = true
is_there version.Old home.Client = true
is_there version.Old home.Unlinked = true
is_there version.New h = true

-- whether a frame of this origin can stand: before the swap only code of the old version and of the client runs
abbrev pub can_stand : Version → Provenance → Bool
can_stand version.Old origin.Old = true
can_stand version.Old origin.New = false
can_stand version.Old origin.Xform = false
can_stand version.Old origin.Client = true
can_stand version.New o = true

-- a frame of the client before the swap
abbrev pub IsEarly : Version → Provenance → Type 0
IsEarly version.Old origin.Old = ⊥
IsEarly version.Old origin.New = ⊥
IsEarly version.Old origin.Xform = ⊥
IsEarly version.Old origin.Client = Unit {0}
IsEarly version.New o = ⊥

-- such a frame may name a function whose body can run then
abbrev pub MayName : World → Bytes → Type 0
MayName W f = can_stand version.Old (code_of W version.Old (function_meaning W origin.Client f)).0 ≡ true

-- what may stand behind a merged body: nothing, or one return of 0
abbrev pub IsTail : List Item → Type 0
IsTail tail = (tail ≡ []) ⊎ ((p : Pos) × (tail ≡ Does (return_zero p) ∷ []))

-- the flag of the merged program
abbrev pub flag : Version → Value Bytes
flag version.Old = Num (pos 0)
flag version.New = Num (pos 1)

-- What the merged names have to be: ρ for variables and κ for functions by the origin of the frame,
-- κ' for the functions that are values.
pub record Naming (W : World) (ρ κ : Provenance → Bytes → Bytes) (κ' : Linked → Bytes) : Type 0 where
  pub cells : (o : Provenance) (x : Bytes) (q : Provenance) (y : Bytes) → bytes_eq (ρ o x) (ρ q y) ≡ same_linked (cell_meaning W o x) (cell_meaning W q y)
  pub locals : (o : Provenance) (x y : Bytes) → bytes_eq (ρ o x) (ρ o y) ≡ bytes_eq x y
  pub values : (a b : Linked) → bytes_eq (κ' a) (κ' b) ≡ same_linked a b
  pub codes : (o : Provenance) (f : Bytes) → κ o f ≡ κ' (function_meaning W o f)
  pub apart_now : (o : Provenance) (x : Bytes) → bytes_eq (ρ o x) now_name ≡ false
  pub now_apart : (o : Provenance) (x : Bytes) → bytes_eq now_name (ρ o x) ≡ false
  pub choice_apart : (o : Provenance) (x : Bytes) → bytes_eq choice_name (ρ o x) ≡ false

-- a world, the names of its merged program, and that program
pub record Merging : Type 0 where
  pub world : World
  pub variable_name : Provenance → Bytes → Bytes
  pub function_name : Provenance → Bytes → Bytes
  pub value_name : Linked → Bytes
  pub naming : Naming world variable_name function_name value_name
  pub program : Program

module _ (M : Merging) where
  open M use {world as W, variable_name as ρ, function_name as κ, value_name as κ', program as P}

  abbrev value' : Value Linked → Value Bytes
  value' = renamed_value κ'

  -- the state as it would be after a swap now: the merged program has the new cells from the start
  abbrev pub settled_by : Version → State → State
  settled_by version.Old g = swapped_state W g
  settled_by version.New g = g

  abbrev pub settled : State → State
  settled g = settled_by g.now g

  pub record SameState (g : State) (s : Store) : Type 0 where
    pub values : (o : Provenance) (x : Bytes) → s.values (ρ o x) ≡ value' ((settled g).values (cell_meaning W o x).0 (cell_meaning W o x).1)
    pub arrays : (o : Provenance) (x : Bytes) → s.arrays (ρ o x) ≡ (settled g).arrays (cell_meaning W o x).0 (cell_meaning W o x).1
    pub now : s.values now_name ≡ flag g.now

  pub record SameFrame (now : Version) (f : UpdFrame) (q : PlainFrame) : Type 0 where
    pub stands : can_stand now f.origin ≡ true
    pub locals : (x : Bytes) → q.locals (ρ f.origin x) ≡ option_map value' (f.locals x)
    pub no_flag : q.locals now_name ≡ None
    pub tail : List Item
    pub is_tail : IsTail tail
    pub items : q.items ≡ map (merged_item W.permits ρ κ f.origin) f.items ++ tail
    pub gives : q.gives ≡ f.gives

  -- a frame that hands on the result of the one above, which has this destination and may have no result
  abbrev pub Hands : Bool → Dest → PlainFrame → Type 0
  Hands true e w = (e ≡ Fresh kind.Int result_name) × (w.gives ≡ true) × ((p : Pos) × (w.items ≡ Does (hand_on p) ∷ []))
  Hands false e w = (e ≡ Nowhere) × (w.gives ≡ false) × (w.items ≡ [])

  -- the merged `main`, which hands on the result, or returns 0 where there is none
  abbrev pub Ends : Bool → Dest → PlainFrame → Type 0
  Ends true e w = Hands true e w
  Ends false e w = (e ≡ Nowhere) × ((p : Pos) × (w.items ≡ Does (return_zero p) ∷ []))

  abbrev pub Bottom : Bool → Dest → List PlainFrame → Type 0
  Bottom b e [] = ⊥
  Bottom b e (w ∷ []) = Ends b e w
  Bottom b e (w ∷ v ∷ more) = ⊥

  abbrev pub top_of : List PlainFrame → (PlainFrame → List PlainFrame → Type 0) → Type 0
  top_of [] go = ⊥
  top_of (q ∷ qs) go = go q qs

  -- the frames below one, and where its result goes: straight to the next frame, or by a wrapper's frame
  abbrev pub Below : Version → Bool → Dest → List UpdFrame → Dest → List PlainFrame → Type 0
  Below now b d [] e qs = Bottom b e qs
  Below now b d (f ∷ fs) e qs =
      top_of qs (λ q qs. (e ≡ renamed_dest (ρ f.origin) d) × SameFrame now f q × Below now f.gives f.dest fs q.dest qs)
      ⊎ top_of qs (λ w qs. Hands b e w × top_of qs (λ q qs. (w.dest ≡ renamed_dest (ρ f.origin) d) × SameFrame now f q × Below now f.gives f.dest fs q.dest qs))

  abbrev pub R : UpdConfig → PlainConfig → Type 0
  R Over c = c ≡ Over
  R (Live g f fs) Over = ⊥
  R (Live g f fs) (Live s q qs) = SameState g s × SameFrame g.now f q × Below g.now f.gives f.dest fs q.dest qs

  abbrev pub Follows : Move UpdConfig → PlainConfig → Type 0
  Follows = Matches (step_updating W) (step P) R
