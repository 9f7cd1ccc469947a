-- The globals of a merged program are those of its parts, and what they hold at the start.
use Rattle.std.proofs.Common.{◌≡◌, Bool, true, false, if◌then◌else◌, Option, Some, None, is_some, refl, sym, ap, ap₂, ◌∙◌, subst, ◌⊎◌, inl, inr}
use Rattle.std.specs.Option.{option_map, option_or}
use Rattle.c_lang.specs.Names.{Bytes}
use Rattle.c_lang.specs.Programs.{global_named, initial_value, initial_elements, shape_value, shape_elements}
use Rattle.c_lang.specs.declared.program.Shape.{Shape}
use Rattle.c_lang.specs.declared.program.Shape.TheVariants as shape
use Rattle.c_lang.specs.declared.program.GlobalVar.{GlobalVar}
use Rattle.plain_run.specs.PlainRun.{Store}
use Rattle.version_names.specs.Links as links
use Rattle.version_names.specs.Links.{is_shared_cell, cell_part}
use Rattle.version_names.specs.Version.{Version}
use Rattle.version_names.specs.Version as version
use Rattle.version_names.specs.Home.{Home, Linked, same_home}
use Rattle.version_names.specs.Home as home
use Rattle.version_names.specs.Provenance.{Provenance}
use Rattle.version_names.specs.Provenance as origin
use Rattle.update_semantics.specs.UpdatingRun.{World, State, swapped_state, cell_meaning, function_meaning, first_state}
use Rattle.merged_program.specs.Names.{cell_name, code_name, variable_name}
use Rattle.merged_program.specs.Programs.{merged_shape, merged_global, merged_globals}
use Rattle.merged_program.proofs.MergedNames.{true_false, same_home-refl}
use Rattle.merged_program.proofs.Lookups.{or_some, some_mapped}
use Rattle.merged_program.proofs.MergedTables.{globals_in, own_globals, cells-is, own_named, no_old_at_new, no_cell_elsewhere}
use Rattle.merged_runs.proofs.EvaluationRenamed.{renamed_value}
use Rattle.merged_runs.proofs.Relation.{SameState}
use Rattle.merged_runs.proofs.Meanings.{IsFoundCell, cell-found}
use Rattle.merged_runs.proofs.FunctionTable.{M}

-- ---- where a version's global stands

new-is-own : (has shared : Bool) → links.part version.New has shared ≡ home.New → shared ≡ false
new-is-own has false e = refl
new-is-own true true e = absurd cc
new-is-own false true e = absurd cc

-- linked somewhere, so the old version has it
old-has : (has shared : Bool) (p : Home) → links.part version.Old has shared ≡ p → same_home home.Unlinked p ≡ false → has ≡ true
old-has true shared p e apart = refl
old-has false shared p e apart = absurd (true_false (ap (same_home home.Unlinked) e ∙ apart))

module _ (W : World) where
  -- ---- the table

  abbrev in_globals : Linked → Option GlobalVar
  in_globals (home.Both, x) = option_map (merged_global W origin.Old) (global_named W.first.globals x)
  in_globals (home.Old, x) = option_map (merged_global W origin.Old) (global_named W.first.globals x)
  in_globals (home.New, x) = option_map (merged_global W origin.New) (global_named W.second.globals x)
  in_globals (home.Xform, x) = None
  in_globals (home.Client, x) = None
  in_globals (home.Unlinked, x) = None

  old-in : (p : Home) (x : Bytes) → cell_part W.first W.second version.Old x ≡ p → same_home home.Unlinked p ≡ false
      → global_named (merged_globals W) (cell_name (p, x)) ≡ option_map (merged_global W origin.Old) (global_named W.first.globals x)
  old-in p x e apart =
      let own = option_map (merged_global W origin.Old) (global_named W.first.globals x) in
      let rest = globals_in W version.New origin.New (own_globals W) (p, x) in
      cells-is W (p, x)
      ∙ ap (λ b. option_or (if b then own else None) rest) (ap (λ h. same_home h p) e ∙ same_home-refl p)
      ∙ or_some own rest
      (some_mapped (merged_global W origin.Old) (global_named W.first.globals x)
      ∙ old-has (is_some (global_named W.first.globals x)) (is_shared_cell W.first W.second x) p e apart)

  new-in : (x : Bytes) → cell_part W.first W.second version.New x ≡ home.New
      → global_named (merged_globals W) (cell_name (home.New, x)) ≡ option_map (merged_global W origin.New) (global_named W.second.globals x)
  new-in x e =
      cells-is W (home.New, x)
      ∙ ap₂ option_or (no_old_at_new W x)
      (ap₂ (λ h a. if same_home h home.New then option_map (merged_global W origin.New) a else None) e
      (own_named W x (new-is-own (is_some (global_named W.second.globals x)) (is_shared_cell W.first W.second x) e)))

  globals-are : (k : Linked) → IsFoundCell W k → global_named (merged_globals W) (cell_name k) ≡ in_globals k
  globals-are (home.Both, x) h = old-in home.Both x h refl
  globals-are (home.Old, x) h = old-in home.Old x h refl
  globals-are (home.New, x) h = new-in x h
  globals-are (home.Xform, x) h = no_cell_elsewhere W home.Xform x (refl, (refl, refl))
  globals-are (home.Client, x) h = no_cell_elsewhere W home.Client x (refl, (refl, refl))
  globals-are (home.Unlinked, x) h = no_cell_elsewhere W home.Unlinked x (refl, (refl, refl))

  meant-globals : (o : Provenance) (x : Bytes) → global_named (merged_globals W) (variable_name W o x) ≡ in_globals (cell_meaning W o x)
  meant-globals o x = by_meaning (cell-found W o x)
    where
      by_meaning : IsFoundCell W (cell_meaning W o x) ⊎ (cell_meaning W o x ≡ (home.Unlinked, x))
          → global_named (merged_globals W) (variable_name W o x) ≡ in_globals (cell_meaning W o x)
      by_meaning (inl h) = globals-are (cell_meaning W o x) h
      by_meaning (inr e) = subst (λ k. global_named (merged_globals W) (cell_name k) ≡ in_globals k) (sym e) (no_cell_elsewhere W home.Unlinked x (refl, (refl, refl)))

  -- ---- initial values

  shape-renamed : (o : Provenance) (s : Shape) → shape_value (λ f. f) (merged_shape W o s) ≡ renamed_value code_name (shape_value (function_meaning W o) s)
  shape-renamed o (shape.Int z) = refl
  shape-renamed o (shape.Arr zs) = refl
  shape-renamed o (shape.Fp n None) = refl
  shape-renamed o (shape.Fp n (Some f)) = refl

  elements-renamed : (o : Provenance) (s : Shape) → shape_elements (merged_shape W o s) ≡ shape_elements s
  elements-renamed o (shape.Int z) = refl
  elements-renamed o (shape.Arr zs) = refl
  elements-renamed o (shape.Fp n None) = refl
  elements-renamed o (shape.Fp n (Some f)) = refl

  initial-renamed : (o : Provenance) (g : Option GlobalVar) → initial_value (λ f. f) (option_map (merged_global W o) g) ≡ renamed_value code_name (initial_value (function_meaning W o) g)
  initial-renamed o None = refl
  initial-renamed o (Some g) = shape-renamed o g.shape

  initial-elements : (o : Provenance) (g : Option GlobalVar) → initial_elements (option_map (merged_global W o) g) ≡ initial_elements g
  initial-elements o None = refl
  initial-elements o (Some g) = elements-renamed o g.shape

  -- the state as it would be after a swap at once
  abbrev settled_start : State
  settled_start = swapped_state W (first_state W)

  value-at-start : (k : Linked) → initial_value (λ f. f) (in_globals k) ≡ renamed_value code_name (settled_start.values k.0 k.1)
  value-at-start (home.Both, x) = initial-renamed origin.Old (global_named W.first.globals x)
  value-at-start (home.Old, x) = initial-renamed origin.Old (global_named W.first.globals x)
  value-at-start (home.New, x) = initial-renamed origin.New (global_named W.second.globals x)
  value-at-start (home.Xform, x) = refl
  value-at-start (home.Client, x) = refl
  value-at-start (home.Unlinked, x) = refl

  array-at-start : (k : Linked) → initial_elements (in_globals k) ≡ settled_start.arrays k.0 k.1
  array-at-start (home.Both, x) = initial-elements origin.Old (global_named W.first.globals x)
  array-at-start (home.Old, x) = initial-elements origin.Old (global_named W.first.globals x)
  array-at-start (home.New, x) = initial-elements origin.New (global_named W.second.globals x)
  array-at-start (home.Xform, x) = refl
  array-at-start (home.Client, x) = refl
  array-at-start (home.Unlinked, x) = refl

  abbrev pub start_store : Store
  start_store = record {
    values = λ x. initial_value (λ f. f) (global_named (merged_globals W) x);
    arrays = λ x. initial_elements (global_named (merged_globals W) x);
  }

  pub same-start : SameState (M W) (first_state W) start_store
  same-start = record {
    values = λ o x. ap (initial_value (λ f. f)) (meant-globals o x) ∙ value-at-start (cell_meaning W o x);
    arrays = λ o x. ap initial_elements (meant-globals o x) ∙ array-at-start (cell_meaning W o x);
    now = refl;
  }
