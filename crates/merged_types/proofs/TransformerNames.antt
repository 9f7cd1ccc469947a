-- What a transformer's names stand for in its merged code.
use Rattle.std.proofs.Common.{◌≡◌, Bool, true, false, if◌then◌else◌, List, [], ◌∷◌, Option, Some, None, is_some, refl, sym, ap, ap₂, ◌∙◌, subst, codes}
use Rattle.std.specs.Option.{option_map}
use Rattle.std.specs.Str.{bytes_eq}
use Rattle.c_lang.specs.Names.{Bytes}
use Rattle.c_lang.specs.Refusals as refused
use Rattle.c_lang.specs.Programs.{global_named, func_named}
use Rattle.c_lang.specs.declared.unit.Unit.TheVariants as unit
use Rattle.c_lang.specs.declared.program.GlobalVar.{GlobalVar}
use Rattle.c_lang.specs.declared.program.Func.{Func}
use Rattle.c_lang.specs.declared.program.Program.{Program}
use Rattle.c_types.specs.Names.{Means, Entries, found}
use Rattle.c_types.specs.Scopes.{names_version}
use Rattle.c_types.specs.Functions.{kinds_of, arity_as_value, means_of_func, resolved_func}
use Rattle.c_types.specs.Programs.{means_of_shape, with_globals, with_func, resolved_funcs}
use Rattle.version_names.specs.Links as links
use Rattle.version_names.specs.Links.{both_alike, same_head, is_shared_cell, is_shared_code, cell_part, code_part}
use Rattle.version_names.specs.Merged.{merged_name}
use Rattle.version_names.specs.Version as version
use Rattle.version_names.specs.Home.{Home, Linked, same_home}
use Rattle.version_names.specs.Home as home
use Rattle.version_names.specs.Provenance as origin
use Rattle.version_names.specs.Parts.{Parts, part_at, part_of}
use Rattle.version_names.specs.declared.part.Origin.TheVariants as prefix
use Rattle.version_names.specs.declared.part.Version.{Version}
use Rattle.version_names.specs.declared.part.Version.TheVariants as v
use Rattle.version_names.specs.declared.part.Part.{Part}
use Rattle.version_names.specs.declared.part.Part.TheVariants as part
use Rattle.version_names.specs.declared.part.Sort2.{Sort2}
use Rattle.version_names.specs.declared.part.Sort2.TheVariants as sort
use Rattle.update_semantics.specs.UpdatingRun.{World, linked_by_prefix}
use Rattle.state_xform.specs.Visible.{version_func, with_cells, with_codes, visible}
use Rattle.c_types.specs.Beside.{own_func, with_own_funcs}
use Rattle.state_xform.specs.Transformers.{AreOwnFuncs}
use Rattle.merged_program.specs.Names.{cell_name, code_name, variable_name, function_name}
use Rattle.merged_program.specs.Programs.{xform_func}
use Rattle.merged_program.proofs.MergedNames.{by_bool, true_false, same_names, bytes_eq-refl}
use Rattle.merged_program.proofs.Lookups.{or_none}
use Rattle.merged_program.proofs.MergedTables.{no_xform_cell}
use Rattle.merged_program.proofs.MainLaws.{AreNew, main_starts, starts_alike, resolved_named}
use Rattle.merged_types.proofs.MergedNaming.{merged_naming}
use Rattle.merged_types.proofs.Carrying.{IsKeptCell, IsKeptCode}
use Rattle.merged_types.proofs.CarriedScopes.{IsOutside}
use Rattle.merged_types.proofs.UnitNames.{means_of_global}
use Rattle.merged_types.proofs.LinkedNames.{linked_both, linked_old, linked_new, linked_nowhere}
use Rattle.merged_types.proofs.VersionNames.{merged_outside, kept_some, shape_no_code, kept_func, same_means, kinds_merged, old_cell, shared_cell, new_alone, nowhere, code_found, old_code, new_code, wrapper_code, shared_code}
use Rattle.merged_types.proofs.PlainPrograms.{Each, IsResolvedProgram}
use Rattle.merged_types.proofs.NewNames.{IsOwn, IsOwnGlobal, no_global, each_own, each_own_global, owned, owned_global, main_named}
use Rattle.merged_types.proofs.VisibleNames.{IsNot, cells_nothing, codes_nothing, IsKeptEntry, AllKept, IsKeptPart, kept_own, kept_cells, kept_codes}

-- ---- parts

both_is : (a s : Bool) → same_home (links.part version.Old a s) home.Both ≡ true → (a ≡ true) × (part_at (links.part version.Old a s) ≡ Some part.Both)
both_is true true h = (refl, refl)
both_is true false h = absurd cc
both_is false s h = absurd cc

old_is : (a s : Bool) → same_home (links.part version.Old a s) home.Old ≡ true → (a ≡ true) × (part_at (links.part version.Old a s) ≡ Some part.Old)
old_is true true h = absurd cc
old_is true false h = (refl, refl)
old_is false s h = absurd cc

new_is : (a s : Bool) → same_home (links.part version.New a s) home.New ≡ true → (a ≡ true) × (part_at (links.part version.New a s) ≡ Some part.New)
new_is true true h = absurd cc
new_is true false h = (refl, refl)
new_is false s h = absurd cc

-- ---- what a transformer's own functions are called

module _ (parts : Parts) (outside : Entries) where
  pub own_new : (seen : Entries) (fs : List Func) → AreOwnFuncs parts outside seen fs → AreNew seen fs
  own_new seen [] h = tt
  own_new seen (f ∷ fs) h = (h.0.new, own_new (with_func seen f) fs h.2)

  own_free : (seen : Entries) (fs : List Func) → AreOwnFuncs parts outside seen fs → (y : Bytes) → is_some (func_named fs y) ≡ true
      → ((w : Version) (s : Sort2) → parts w s y ≡ None) × (names_version y ≡ false)
  own_free seen [] h y s = absurd cc
  own_free seen (f ∷ fs) h y s = by_bool (bytes_eq f.name y)
      (λ e. subst (λ (z : Bytes). ((w : Version) (s : Sort2) → parts w s z ≡ None) × (names_version z ≡ false)) (same_names f.name y e) (h.0.free, h.0.plain))
      (λ e. own_free (with_func seen f) fs h.2 y (sym (ap (λ (b : Bool). is_some (if b then Some f else func_named fs y)) e) ∙ s))

  -- a name that a version has, or that names one, is none of them
  pub not_own : (fs : List Func) → AreOwnFuncs parts outside [] fs → (y : Bytes) (w : Version) (s : Sort2) → is_some (parts w s y) ≡ true → func_named fs y ≡ None
  not_own fs h y w s k = by_option (func_named fs y) refl
    where
      by_option : (o : Option Func) → func_named fs y ≡ o → o ≡ None
      by_option None e = refl
      by_option (Some f) e = absurd (true_false (sym k ∙ ap is_some ((own_free [] fs h y (ap is_some e)).0 w s)))

  pub not_prefixed : (fs : List Func) → AreOwnFuncs parts outside [] fs → (y : Bytes) → names_version y ≡ true → func_named fs y ≡ None
  not_prefixed fs h y k = by_option (func_named fs y) refl
    where
      by_option : (o : Option Func) → func_named fs y ≡ o → o ≡ None
      by_option None e = refl
      by_option (Some f) e = absurd (true_false (sym k ∙ (own_free [] fs h y (ap is_some e)).1))

pub old_names_version : (x : Bytes) → names_version (merged_name prefix.Old x) ≡ true
unfolding names_version
old_names_version x = refl

pub new_names_version : (x : Bytes) → names_version (merged_name prefix.New x) ≡ true
unfolding names_version
new_names_version x = refl

-- what a transformer knows of its versions
pub record SeesVersions (W : World) (p : Program) : Type 0 where
  pub first : IsResolvedProgram unit.Old W.first
  pub second : IsResolvedProgram unit.New W.second
  -- no shared name of a version begins as a name of one version alone does in a transformer
  pub plain_cells : (x : Bytes) → names_version x ≡ true → same_home (cell_part W.first W.second version.Old x) home.Both ≡ false
  pub plain_codes : (x : Bytes) → names_version x ≡ true → same_home (code_part W.first W.second version.Old x) home.Both ≡ false
  pub globals : p.globals ≡ []
  pub own : AreOwnFuncs (part_of W.first W.second) (visible (part_of W.first W.second) W.first W.second p) [] p.funcs
  pub resolved : W.xform.funcs ≡ resolved_funcs (visible (part_of W.first W.second) W.first W.second p) true p.funcs

module _ (W : World) (p : Program) (h : SeesVersions W p) where
  abbrev parts : Parts
  parts = part_of W.first W.second

  abbrev seen : Entries
  seen = visible parts W.first W.second p

  abbrev outside : Entries
  outside = merged_outside W

  abbrev ρ : Bytes → Bytes
  ρ = variable_name W origin.Xform

  abbrev κ : Bytes → Bytes
  κ = function_name W origin.Xform

  abbrev IsEntry : Bytes → Option Means → Type 0
  IsEntry = IsKeptEntry ρ κ outside

  abbrev IsPart : Option Part → Bytes → Means → Type 0
  IsPart = IsKeptPart ρ κ outside

  -- ---- entries

  cell_entry : (y : Bytes) (k : Linked) (g : GlobalVar) → linked_by_prefix (cell_part W.first W.second) y ≡ k → found outside (cell_name k) ≡ Some (means_of_global g)
      → IsEntry y (Some (means_of_global g))
  cell_entry y k g e there =
      (kept_some (means_of_global g) (found outside (ρ y)) (ap (λ (l : Linked). found outside (cell_name l)) e ∙ there), shape_no_code g.shape (found outside (κ y)))

  own_means : func_named W.xform.funcs ≡ func_named (resolved_funcs seen true p.funcs)
  own_means = ap func_named h.resolved

  none_own : (y : Bytes) → func_named p.funcs y ≡ None → func_named W.xform.funcs y ≡ None
  none_own y e = ap (λ (find : Bytes → Option Func). find y) own_means ∙ resolved_named seen true p.funcs y ∙ ap (option_map (resolved_func seen true)) e

  code_entry : (y : Bytes) (k : Linked) (d : Func) → func_named p.funcs y ≡ None → linked_by_prefix (code_part W.first W.second) y ≡ k
      → found outside (code_name k) ≡ Some (means_of_func d) → IsEntry y (Some (version_func d))
  code_entry y k d free e there = (
    tt,
    kept_func d (Some refused.transformer_effect) (found outside (κ y))
        (ap₂ (λ (o : Option Func) (l : Linked). found outside (code_name (if is_some o then (home.Xform, y) else l))) (none_own y free) e ∙ there),
  )

  -- ---- the transformer's own functions

  own_entry : (f : Func) → func_named p.funcs f.name ≡ Some f → IsEntry f.name (Some (own_func None f))
  own_entry f e =
      let there : func_named W.xform.funcs f.name ≡ Some (resolved_func seen true f) =
      ap (λ (find : Bytes → Option Func). find f.name) own_means ∙ resolved_named seen true p.funcs f.name ∙ ap (option_map (resolved_func seen true)) e in
      let is : found outside (code_name (home.Xform, f.name)) ≡ Some (means_of_func f) =
      code_found W (home.Xform, f.name) (xform_func W (resolved_func seen true f)) (means_of_func f) (no_xform_cell W f.name)
      (or_none (option_map (xform_func W) (func_named W.xform.funcs f.name)) ∙ ap (option_map (xform_func W)) there)
      (same_means (xform_func W (resolved_func seen true f)) f (kinds_merged W origin.Xform f.params) refl) in (
        tt,
        (
          arity_as_value (kinds_of f.params) f.gives,
          (ap (λ (o : Option Func). found outside (code_name (if is_some o then (home.Xform, f.name) else linked_by_prefix (code_part W.first W.second) f.name))) there ∙ is, tt),
        ),
      )

  own_entries : (fs : List Func) → Each (IsOwn [] p.funcs) fs → Each (λ (f : Func). IsEntry f.name (Some (own_func None f))) fs
  own_entries [] k = tt
  own_entries (f ∷ fs) k = (own_entry f (owned [] p.funcs f k.0).1, own_entries fs k.1)

  -- ---- the versions' globals

  old_cell_part : (g : GlobalVar) → global_named W.first.globals g.name ≡ Some g → IsPart (parts v.Old sort.Cell g.name) g.name (means_of_global g)
  old_cell_part g e = by_bool (is_shared_cell W.first W.second g.name)
      (λ s.
      let at : cell_part W.first W.second version.Old g.name ≡ home.Both = ap₂ (links.part version.Old) (ap is_some e) s in
      subst (λ (l : Home). IsPart (part_at l) g.name (means_of_global g)) (sym at)
      (cell_entry g.name (home.Both, g.name) g (linked_both (cell_part W.first W.second) g.name (ap (λ (l : Home). same_home l home.Both) at))
      (sym (ap (λ (l : Home). found outside (cell_name (l, g.name))) at) ∙ old_cell W g.name g e)))
      (λ s.
      let at : cell_part W.first W.second version.Old g.name ≡ home.Old = ap₂ (links.part version.Old) (ap is_some e) s in
      subst (λ (l : Home). IsPart (part_at l) g.name (means_of_global g)) (sym at)
      (cell_entry (merged_name prefix.Old g.name) (home.Old, g.name) g
      (linked_old (cell_part W.first W.second) g.name (h.plain_cells (merged_name prefix.Old g.name) (old_names_version g.name)) (ap (λ (l : Home). same_home l home.Old) at))
      (sym (ap (λ (l : Home). found outside (cell_name (l, g.name))) at) ∙ old_cell W g.name g e)))

  shared_first : (x : Bytes) → is_shared_cell W.first W.second x ≡ true → cell_part W.first W.second version.Old x ≡ home.Both
  shared_first x s = by_option (global_named W.first.globals x) refl
    where
      by_option : (o : Option GlobalVar) → global_named W.first.globals x ≡ o → cell_part W.first W.second version.Old x ≡ home.Both
      by_option (Some g) e = ap₂ (links.part version.Old) (ap is_some e) s
      by_option None e = absurd (true_false (sym s ∙ ap (λ (o : Option GlobalVar). both_alike (λ (g k : GlobalVar). links.same_shape g.shape k.shape) o (global_named W.second.globals x)) e))

  new_cell_part : (g : GlobalVar) → global_named W.second.globals g.name ≡ Some g → IsPart (parts v.New sort.Cell g.name) g.name (means_of_global g)
  new_cell_part g e = by_bool (is_shared_cell W.first W.second g.name)
      (λ s.
      let at : cell_part W.first W.second version.New g.name ≡ home.Both = ap₂ (links.part version.New) (ap is_some e) s in
      subst (λ (l : Home). IsPart (part_at l) g.name (means_of_global g)) (sym at)
      (cell_entry g.name (home.Both, g.name) g (linked_both (cell_part W.first W.second) g.name (ap (λ (l : Home). same_home l home.Both) (shared_first g.name s)))
      (shared_cell W g.name g s e)))
      (λ s.
      let at : cell_part W.first W.second version.New g.name ≡ home.New = ap₂ (links.part version.New) (ap is_some e) s in
      subst (λ (l : Home). IsPart (part_at l) g.name (means_of_global g)) (sym at)
      (cell_entry (merged_name prefix.New g.name) (home.New, g.name) g
      (linked_new (cell_part W.first W.second) g.name (h.plain_cells (merged_name prefix.New g.name) (new_names_version g.name)) (ap (λ (l : Home). same_home l home.New) at))
      (new_alone W g.name g s e)))

  -- ---- the versions' functions

  old_code_part : (d : Func) → global_named W.first.globals d.name ≡ None → func_named W.first.funcs d.name ≡ Some d → IsPart (parts v.Old sort.Code d.name) d.name (version_func d)
  old_code_part d free e = by_bool (is_shared_code W.first W.second d.name)
      (λ s.
      let at : code_part W.first W.second version.Old d.name ≡ home.Both = ap₂ (links.part version.Old) (ap is_some e) s in
      subst (λ (l : Home). IsPart (part_at l) d.name (version_func d)) (sym at)
      (code_entry d.name (home.Both, d.name) d (not_own parts seen p.funcs h.own d.name v.Old sort.Code (ap (λ (l : Home). is_some (part_at l)) at))
      (linked_both (code_part W.first W.second) d.name (ap (λ (l : Home). same_home l home.Both) at)) (wrapper_code W d.name d s e)))
      (λ s.
      let at : code_part W.first W.second version.Old d.name ≡ home.Old = ap₂ (links.part version.Old) (ap is_some e) s in
      subst (λ (l : Home). IsPart (part_at l) d.name (version_func d)) (sym at)
      (code_entry (merged_name prefix.Old d.name) (home.Old, d.name) d (not_prefixed parts seen p.funcs h.own (merged_name prefix.Old d.name) (old_names_version d.name))
      (linked_old (code_part W.first W.second) d.name (h.plain_codes (merged_name prefix.Old d.name) (old_names_version d.name)) (ap (λ (l : Home). same_home l home.Old) at))
      (old_code W d.name d free e)))

  shared_code_first : (x : Bytes) → is_shared_code W.first W.second x ≡ true → code_part W.first W.second version.Old x ≡ home.Both
  shared_code_first x s = by_option (func_named W.first.funcs x) refl
    where
      by_option : (o : Option Func) → func_named W.first.funcs x ≡ o → code_part W.first W.second version.Old x ≡ home.Both
      by_option (Some f) e = ap₂ (links.part version.Old) (ap is_some e) s
      by_option None e = absurd (true_false (sym s ∙ ap (λ (o : Option Func). both_alike same_head o (func_named W.second.funcs x)) e))

  new_code_part : (d : Func) → global_named W.second.globals d.name ≡ None → func_named W.second.funcs d.name ≡ Some d → IsPart (parts v.New sort.Code d.name) d.name (version_func d)
  new_code_part d free e = by_bool (is_shared_code W.first W.second d.name)
      (λ s.
      let at : code_part W.first W.second version.New d.name ≡ home.Both = ap₂ (links.part version.New) (ap is_some e) s in
      subst (λ (l : Home). IsPart (part_at l) d.name (version_func d)) (sym at)
      (code_entry d.name (home.Both, d.name) d (not_own parts seen p.funcs h.own d.name v.New sort.Code (ap (λ (l : Home). is_some (part_at l)) at))
      (linked_both (code_part W.first W.second) d.name (ap (λ (l : Home). same_home l home.Both) (shared_code_first d.name s))) (shared_code W d.name d s e)))
      (λ s.
      let at : code_part W.first W.second version.New d.name ≡ home.New = ap₂ (links.part version.New) (ap is_some e) s in
      subst (λ (l : Home). IsPart (part_at l) d.name (version_func d)) (sym at)
      (code_entry (merged_name prefix.New d.name) (home.New, d.name) d (not_prefixed parts seen p.funcs h.own (merged_name prefix.New d.name) (new_names_version d.name))
      (linked_new (code_part W.first W.second) d.name (h.plain_codes (merged_name prefix.New d.name) (new_names_version d.name)) (ap (λ (l : Home). same_home l home.New) at))
      (new_code W d.name d free e)))

  -- ---- all that is visible

  old_cell_parts : (gs : List GlobalVar) → Each (λ (g : GlobalVar). (found [] g.name ≡ None) × IsOwnGlobal W.first.globals g) gs
      → Each (λ (g : GlobalVar). IsPart (parts v.Old sort.Cell g.name) g.name (means_of_shape g.shape)) gs
  old_cell_parts [] k = tt
  old_cell_parts (g ∷ gs) k = (old_cell_part g (owned_global W.first.globals g k.0.1), old_cell_parts gs k.1)

  new_cell_parts : (gs : List GlobalVar) → Each (λ (g : GlobalVar). (found [] g.name ≡ None) × IsOwnGlobal W.second.globals g) gs
      → Each (λ (g : GlobalVar). IsPart (parts v.New sort.Cell g.name) g.name (means_of_shape g.shape)) gs
  new_cell_parts [] k = tt
  new_cell_parts (g ∷ gs) k = (new_cell_part g (owned_global W.second.globals g k.0.1), new_cell_parts gs k.1)

  old_code_parts : (fs : List Func) → Each (IsOwn (with_globals [] W.first.globals) W.first.funcs) fs → Each (λ (f : Func). IsPart (parts v.Old sort.Code f.name) f.name (version_func f)) fs
  old_code_parts [] k = tt
  old_code_parts (f ∷ fs) k =
      let own = owned (with_globals [] W.first.globals) W.first.funcs f k.0 in
      (old_code_part f (no_global W.first.globals f.name own.0) own.1, old_code_parts fs k.1)

  new_code_parts : (fs : List Func) → Each (IsOwn (with_globals [] W.second.globals) W.second.funcs) fs → Each (λ (f : Func). IsPart (parts v.New sort.Code f.name) f.name (version_func f)) fs
  new_code_parts [] k = tt
  new_code_parts (f ∷ fs) k =
      let own = owned (with_globals [] W.second.globals) W.second.funcs f k.0 in
      (new_code_part f (no_global W.second.globals f.name own.0) own.1, new_code_parts fs k.1)

  abbrev own_names : Entries
  own_names = with_own_funcs None (with_globals [] p.globals) p.funcs

  abbrev with_old_cells : Entries
  with_old_cells = with_cells parts v.Old own_names W.first.globals

  abbrev with_old_codes : Entries
  with_old_codes = with_codes parts v.Old with_old_cells W.first.funcs

  abbrev with_new_cells : Entries
  with_new_cells = with_cells parts v.New with_old_codes W.second.globals

  own_kept : AllKept ρ κ outside own_names
  own_kept =
      kept_own ρ κ outside None (with_globals [] p.globals) p.funcs
      (subst (λ (gs : List GlobalVar). AllKept ρ κ outside (with_globals [] gs)) (sym h.globals) (λ x. tt))
      (own_entries p.funcs (each_own [] p.funcs (own_new parts seen [] p.funcs h.own)))

  all_kept : AllKept ρ κ outside seen
  all_kept =
      kept_codes ρ κ outside parts v.New with_new_cells W.second.funcs
      (kept_cells ρ κ outside parts v.New with_old_codes W.second.globals
      (kept_codes ρ κ outside parts v.Old with_old_cells W.first.funcs
      (kept_cells ρ κ outside parts v.Old own_names W.first.globals own_kept (old_cell_parts W.first.globals (each_own_global [] W.first.globals h.first.new_globals)))
      (old_code_parts W.first.funcs (each_own (with_globals [] W.first.globals) W.first.funcs h.first.new_funcs)))
      (new_cell_parts W.second.globals (each_own_global [] W.second.globals h.second.new_globals)))
      (new_code_parts W.second.funcs (each_own (with_globals [] W.second.globals) W.second.funcs h.second.new_funcs))

  -- ---- names that aren't visible

  abbrev main : Bytes
  main = codes "main"

  pub main_shared : is_shared_code W.first W.second main ≡ true
  main_shared =
      starts_alike (func_named W.first.funcs main) (func_named W.second.funcs main)
      (main_starts (with_globals [] W.first.globals) W.first.funcs h.first.new_funcs h.first.main)
      (main_starts (with_globals [] W.second.globals) W.second.funcs h.second.new_funcs h.second.main)

  module _ (x : Bytes) (none : found seen x ≡ None) where
    apart_new_code : (found with_new_cells x ≡ None) × ((y : Bytes) → is_some (func_named W.second.funcs y) ≡ true → IsNot (parts v.New sort.Code y) x y)
    apart_new_code = codes_nothing parts v.New x with_new_cells W.second.funcs none

    apart_new_cell : (found with_old_codes x ≡ None) × ((y : Bytes) → is_some (global_named W.second.globals y) ≡ true → IsNot (parts v.New sort.Cell y) x y)
    apart_new_cell = cells_nothing parts v.New x with_old_codes W.second.globals apart_new_code.0

    apart_old_code : (found with_old_cells x ≡ None) × ((y : Bytes) → is_some (func_named W.first.funcs y) ≡ true → IsNot (parts v.Old sort.Code y) x y)
    apart_old_code = codes_nothing parts v.Old x with_old_cells W.first.funcs apart_new_cell.0

    apart_old_cell : (found own_names x ≡ None) × ((y : Bytes) → is_some (global_named W.first.globals y) ≡ true → IsNot (parts v.Old sort.Cell y) x y)
    apart_old_cell = cells_nothing parts v.Old x own_names W.first.globals apart_old_code.0

    never : {X : Type 0} (y : Bytes) → bytes_eq y y ≡ false → X
    never y e = absurd (true_false (sym (bytes_eq-refl y) ∙ e))

    not_both : same_home (cell_part W.first W.second version.Old x) home.Both ≡ false
    not_both = by_bool (same_home (cell_part W.first W.second version.Old x) home.Both)
        (λ e. let q = both_is (is_some (global_named W.first.globals x)) (is_shared_cell W.first W.second x) e in
        never x (subst (λ (o : Option Part). IsNot o x x) q.1 (apart_old_cell.1 x q.0)))
        (λ e. e)

    not_old : (y : Bytes) → merged_name prefix.Old y ≡ x → same_home (cell_part W.first W.second version.Old y) home.Old ≡ false
    not_old y is = by_bool (same_home (cell_part W.first W.second version.Old y) home.Old)
        (λ e. let q = old_is (is_some (global_named W.first.globals y)) (is_shared_cell W.first W.second y) e in
        never x (ap (bytes_eq x) (sym is) ∙ subst (λ (o : Option Part). IsNot o x y) q.1 (apart_old_cell.1 y q.0)))
        (λ e. e)

    not_new : (y : Bytes) → merged_name prefix.New y ≡ x → same_home (cell_part W.first W.second version.New y) home.New ≡ false
    not_new y is = by_bool (same_home (cell_part W.first W.second version.New y) home.New)
        (λ e. let q = new_is (is_some (global_named W.second.globals y)) (is_shared_cell W.first W.second y) e in
        never x (ap (bytes_eq x) (sym is) ∙ subst (λ (o : Option Part). IsNot o x y) q.1 (apart_new_cell.1 y q.0)))
        (λ e. e)

    not_main : bytes_eq main x ≡ false
    not_main = by_bool (bytes_eq main x)
        (λ e.
        let there : is_some (func_named W.first.funcs main) ≡ true = main_named W.first.funcs h.first.main in
        let at : parts v.Old sort.Code main ≡ Some part.Both = ap₂ (λ (a s : Bool). part_at (links.part version.Old a s)) there main_shared in
        never main (ap (λ (z : Bytes). bytes_eq z main) (same_names main x e) ∙ subst (λ (o : Option Part). IsNot o x main) at (apart_old_code.1 main there)))
        (λ e. e)

    nothing : found outside (ρ x) ≡ None
    nothing = ap (λ (l : Linked). found outside (cell_name l)) (linked_nowhere (cell_part W.first W.second) x not_both not_old not_new) ∙ nowhere W x not_main

  -- ---- the whole

  cells_by : (x : Bytes) (o : Option Means) → found seen x ≡ o → IsEntry x o → IsKeptCell o (found outside (ρ x))
  cells_by x None e k = nothing x e
  cells_by x (Some m) e k = k.0

  codes_by : (f : Bytes) (o : Option Means) → IsEntry f o → IsKeptCode o (found outside (κ f))
  codes_by f None k = tt
  codes_by f (Some m) k = k.1

  pub transformer_names : IsOutside (variable_name W origin.Xform) (function_name W origin.Xform) (merged_naming W origin.Xform) seen outside
  transformer_names = record {
    cells = λ x. cells_by x (found seen x) refl (all_kept x);
    codes = λ f. codes_by f (found seen f) (all_kept f);
  }
