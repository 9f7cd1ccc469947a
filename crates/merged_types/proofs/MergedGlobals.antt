-- The globals of a merged program are typed.
use Rattle.std.proofs.Common.{◌≡◌, ◌≤◌, ◌+◌, Bool, true, false, not, List, [], ◌∷◌, ◌++◌, map, Option, Some, None, is_some, refl, ap, ap₂, ◌∙◌, arith}
use Rattle.std.specs.Prelude.{if◌then◌else◌}
use Rattle.std.specs.Option.{option_map}
use Rattle.std.specs.List.{filter}
use Rattle.c_lang.specs.Limits.{cell_limit}
use Rattle.c_lang.specs.Names.{Bytes}
use Rattle.c_lang.specs.Programs.{global_named}
use Rattle.c_lang.specs.declared.stmt.Kind.TheVariants as kind
use Rattle.c_lang.specs.declared.unit.Unit.TheVariants as unit
use Rattle.c_lang.specs.declared.program.Shape.{Shape}
use Rattle.c_lang.specs.declared.program.Shape.TheVariants as shape
use Rattle.c_lang.specs.declared.program.GlobalVar.{GlobalVar}
use Rattle.c_types.specs.Names.{Cell, Entries, found}
use Rattle.c_types.specs.Programs.{with_globals, cells_of}
use Rattle.c_types.specs.Types.{IsInitial, IsHeld}
use Rattle.version_names.specs.Links as links
use Rattle.version_names.specs.Links.{is_shared_cell, cell_part}
use Rattle.version_names.specs.Version as version
use Rattle.version_names.specs.Home.{same_home}
use Rattle.version_names.specs.Provenance as origin
use Rattle.update_semantics.specs.UpdatingRun.{World, cell_meaning}
use Rattle.merged_program.specs.Names.{variable_name, function_name}
use Rattle.merged_program.specs.Programs.{flag, merged_shape, merged_global, is_own_cell, merged_globals}
use Rattle.merged_program.proofs.MergedNames.{cell_apart-now}
use Rattle.merged_program.proofs.MergedTables.{globals-is, own_globals}
use Rattle.merged_types.proofs.MergedNaming.{merged_naming}
use Rattle.merged_types.proofs.Carrying.{value_meant}
use Rattle.merged_types.proofs.CarriedScopes.{IsOutside}
use Rattle.merged_types.proofs.VersionNames.{merged_outside}
use Rattle.merged_types.proofs.PlainPrograms.{AreNewGlobals, Each, all_cells}
use Rattle.merged_types.proofs.NewNames.{globals_none, new_globals_append, new_globals_made, new_globals_filtered, each_append, each_map, each_filter}

-- ---- counts of cells

cells_append : (xs ys : List GlobalVar) → all_cells (xs ++ ys) ≡ all_cells xs + all_cells ys
cells_append [] ys = omega arith
cells_append (x ∷ xs) ys = let rest = cells_append xs ys in omega (arith, rest)

cells_filter : (p : GlobalVar → Bool) (xs : List GlobalVar) → all_cells (filter p xs) ≤ all_cells xs
cells_filter p [] = omega arith
cells_filter p (x ∷ xs) = by_test (p x) (cells_filter p xs)
  where
    by_test : (b : Bool) → all_cells (filter p xs) ≤ all_cells xs → all_cells (if b then x ∷ filter p xs else filter p xs) ≤ cells_of x.shape + all_cells xs
    by_test true h = omega (arith, h)
    by_test false h = omega (arith, h)

module _ (W : World) where
  -- ---- shapes

  cells_same : (o : origin.Provenance) (s : Shape) → cells_of (merged_shape W o s) ≡ cells_of s
  cells_same o (shape.Int z) = refl
  cells_same o (shape.Arr zs) = refl
  cells_same o (shape.Fp n None) = refl
  cells_same o (shape.Fp n (Some f)) = refl

  cells_map : (o : origin.Provenance) (gs : List GlobalVar) → all_cells (map (merged_global W o) gs) ≡ all_cells gs
  cells_map o [] = refl
  cells_map o (g ∷ gs) = ap₂ (λ m n. m + n) (cells_same o g.shape) (cells_map o gs)

  held_same : (o : origin.Provenance) (s : Shape) → IsHeld s → IsHeld (merged_shape W o s)
  held_same o (shape.Int z) h = h
  held_same o (shape.Arr []) h = h
  held_same o (shape.Arr (z ∷ zs)) h = h
  held_same o (shape.Fp n None) h = h
  held_same o (shape.Fp n (Some f)) h = h

  initial_same : (o : origin.Provenance) (outside : Entries) → IsOutside (variable_name W o) (function_name W o) (merged_naming W o) outside (merged_outside W)
      → (s : Shape) → IsInitial outside s → IsInitial (merged_outside W) (merged_shape W o s)
  initial_same o outside c (shape.Int z) h = tt
  initial_same o outside c (shape.Arr zs) h = tt
  initial_same o outside c (shape.Fp n None) h = tt
  initial_same o outside c (shape.Fp n (Some f)) h =
      (value_meant (kind.Fp n) (found outside f) (found (merged_outside W) (function_name W o f)) (c.codes f) h).0

  abbrev IsGlobal : Entries → GlobalVar → Type 0
  IsGlobal outside g = IsInitial outside g.shape × IsHeld g.shape

  global_same : (o : origin.Provenance) (outside : Entries) → IsOutside (variable_name W o) (function_name W o) (merged_naming W o) outside (merged_outside W)
      → (g : GlobalVar) → IsGlobal outside g → IsGlobal (merged_outside W) (merged_global W o g)
  global_same o outside c g h = (initial_same o outside c g.shape h.0, held_same o g.shape h.1)

  module _ (first_outside second_outside : Entries)
      (first_names : IsOutside (variable_name W origin.Old) (function_name W origin.Old) (merged_naming W origin.Old) first_outside (merged_outside W))
      (second_names : IsOutside (variable_name W origin.New) (function_name W origin.New) (merged_naming W origin.New) second_outside (merged_outside W)) where
    pub globals_merged : Each (IsGlobal first_outside) W.first.globals → Each (IsGlobal second_outside) W.second.globals → Each (IsGlobal (merged_outside W)) (merged_globals W)
    globals_merged h k = (
      (tt, tt),
      each_append (IsGlobal (merged_outside W)) (map (merged_global W origin.Old) W.first.globals) (map (merged_global W origin.New) (own_globals W))
          (each_map (IsGlobal first_outside) (IsGlobal (merged_outside W)) (merged_global W origin.Old) (global_same origin.Old first_outside first_names) W.first.globals h)
          (each_map (λ (g : GlobalVar). IsGlobal second_outside g × (is_own_cell W g ≡ true)) (IsGlobal (merged_outside W)) (merged_global W origin.New)
          (λ g q. global_same origin.New second_outside second_names g q.0) (own_globals W) (each_filter (IsGlobal second_outside) (is_own_cell W) W.second.globals k)),
    )

  -- ---- room

  pub cells_merged : all_cells W.first.globals ≤ cell_limit unit.Old → all_cells W.second.globals ≤ cell_limit unit.New → all_cells (merged_globals W) ≤ cell_limit unit.Merge
  cells_merged h k =
      let whole = cells_append (map (merged_global W origin.Old) W.first.globals) (map (merged_global W origin.New) (own_globals W)) in
      let olds = cells_map origin.Old W.first.globals in
      let news = cells_map origin.New (own_globals W) in
      let fewer = cells_filter (is_own_cell W) W.second.globals in
      omega (arith, h, k, whole, olds, news, fewer)

  -- ---- names

  not_both : (first second : Option GlobalVar) (make : GlobalVar → GlobalVar)
      → (if same_home (links.part version.Old (is_some first) false) (links.part version.New (is_some second) false) then option_map make first else None) ≡ None
  not_both (Some g) (Some h) make = refl
  not_both (Some g) None make = refl
  not_both None (Some h) make = refl
  not_both None None make = refl

  abbrev is_own : Bytes → Bool
  is_own x = not (is_shared_cell W.first W.second x)

  own_is : (b : Bool) → not b ≡ true → b ≡ false
  own_is true h = absurd cc
  own_is false h = refl

  own_free : (x : Bytes) → is_own x ≡ true → global_named (map (merged_global W origin.Old) W.first.globals) (variable_name W origin.New x) ≡ None
  own_free x t =
      globals-is W version.Old origin.Old (λ y. refl) W.first.globals (cell_part W.first W.second version.New x, x)
      ∙ ap (λ (s : Bool). if same_home (links.part version.Old (is_some (global_named W.first.globals x)) s) (links.part version.New (is_some (global_named W.second.globals x)) s)
      then option_map (merged_global W origin.Old) (global_named W.first.globals x) else None) (own_is (is_shared_cell W.first W.second x) t)
      ∙ not_both (global_named W.first.globals x) (global_named W.second.globals x) (merged_global W origin.Old)

  abbrev flag_alone : Entries
  flag_alone = with_globals [] (flag ∷ [])

  flag_free : (o : origin.Provenance) (x : Bytes) → found flag_alone (variable_name W o x) ≡ None
  flag_free o x = ap (λ (b : Bool). if b then Some (Cell kind.Int) else None) (cell_apart-now (cell_meaning W o x))

  pub new_globals_merged : AreNewGlobals [] W.first.globals → AreNewGlobals [] W.second.globals → AreNewGlobals [] (merged_globals W)
  new_globals_merged h k = (
    refl,
    new_globals_append flag_alone (map (merged_global W origin.Old) W.first.globals) (map (merged_global W origin.New) (own_globals W))
        (new_globals_made (variable_name W origin.Old) ((merged_naming W origin.Old).same) (merged_global W origin.Old) (λ g. refl) [] flag_alone (λ x e. flag_free origin.Old x) W.first.globals h)
        (new_globals_filtered (variable_name W origin.New) ((merged_naming W origin.New).same) is_own (merged_global W origin.New) (λ g. refl) []
        (with_globals flag_alone (map (merged_global W origin.Old) W.first.globals))
        (λ x t e. globals_none flag_alone (map (merged_global W origin.Old) W.first.globals) (variable_name W origin.New x) (flag_free origin.New x) (own_free x t)) W.second.globals k),
  )
