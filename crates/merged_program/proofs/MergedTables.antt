-- The globals and functions of a merged program by their names.
use Rattle.std.proofs.Common.{◌≡◌, Bool, true, false, not, ◌&&◌, if◌then◌else◌, List, [], ◌∷◌, ◌++◌, map, Option, Some, None, is_some, refl, sym, ap, ap₂, ◌∙◌, codes}
use Rattle.std.specs.Option.{option_map, option_or}
use Rattle.std.specs.List.{filter}
use Rattle.std.specs.Str.{bytes_eq}
use Rattle.c_lang.specs.Names.{Bytes}
use Rattle.c_lang.specs.Programs.{global_named, func_named}
use Rattle.c_lang.specs.declared.program.GlobalVar.{GlobalVar}
use Rattle.c_lang.specs.declared.program.Func.{Func}
use Rattle.version_names.specs.Links as links
use Rattle.version_names.specs.Links.{is_shared_cell, is_shared_code, cell_part, code_part}
use Rattle.version_names.specs.Version as version
use Rattle.version_names.specs.Home.{Home, Linked, same_home, same_linked}
use Rattle.version_names.specs.Home as home
use Rattle.version_names.specs.Provenance as origin
use Rattle.client_specs.specs.Kept.{ClientProgram}
use Rattle.update_semantics.specs.UpdatingRun.{World, client_funcs}
use Rattle.merged_program.specs.Names.{now_name, cell_name, code_name, variable_name}
use Rattle.merged_program.specs.Programs.{flag, merged_global, is_own_cell, merged_globals, wrapper, old_func, new_func, xform_func, client_func, is_wrapped, merged_main, merged_funcs}
use Rattle.merged_program.proofs.MergedNames.{by_bool, same_names, bytes_eq-sym, kept-own, same_cells, same_codes, cell_apart-now}
use Rattle.merged_program.proofs.Lookups.{named, name_of_func, name_of_global, func_named-is, global_named-is, or_none, named-filter, filter-passes, named-map, no_global_named, funcs_append, globals_append}

module _ (W : World) where
  -- ---- functions

  -- the functions of one home
  abbrev pub in_part : Home → (Func → Func) → List Func → Linked → Option Func
  in_part h make fs k = if same_home h k.0 then option_map make (func_named fs k.1) else None

  part-is : (h : Home) (make : Func → Func) → ((f : Func) → (make f).name ≡ code_name (h, f.name)) → (fs : List Func) (k : Linked)
      → func_named (map make fs) (code_name k) ≡ in_part h make fs k
  part-is h make names fs k =
      func_named-is (map make fs) (code_name k)
      ∙ named-map name_of_func name_of_func make fs (code_name k) k.1 (same_home h k.0)
      (λ f. ap (λ n. bytes_eq n (code_name k)) (names f) ∙ same_codes (h, f.name) k)
      ∙ ap (λ o. if same_home h k.0 then option_map make o else None) (sym (func_named-is fs k.1))

  main-named : (c : Option ClientProgram) → (merged_main W c).name ≡ codes "main"
  main-named None = refl
  main-named (Some c) = refl

  abbrev at_main : Linked → Option Func
  at_main k = if same_linked (home.Unlinked, codes "main") k then Some (merged_main W W.client) else None

  main-is : (k : Linked) → func_named (merged_main W W.client ∷ []) (code_name k) ≡ at_main k
  main-is k = ap (λ b. if b then Some (merged_main W W.client) else None)
      (ap (λ n. bytes_eq n (code_name k)) (main-named W.client) ∙ same_codes (home.Unlinked, codes "main") k)

  append-is : (xs ys : List Func) (n : Bytes) (a b : Option Func) → func_named xs n ≡ a → func_named ys n ≡ b → func_named (xs ++ ys) n ≡ option_or a b
  append-is xs ys n a b e f = funcs_append xs ys n ∙ ap₂ option_or e f

  abbrev pub table : Linked → Option Func
  table k =
      option_or (in_part home.Old (old_func W) W.first.funcs k)
      (option_or (in_part home.New (new_func W) W.second.funcs k)
      (option_or (in_part home.Both wrapper (filter (is_wrapped W) W.first.funcs) k)
      (option_or (in_part home.Xform (xform_func W) W.xform.funcs k)
      (option_or (in_part home.Client (client_func W) (client_funcs W) k) (at_main k)))))

  pub table-is : (k : Linked) → func_named (merged_funcs W) (code_name k) ≡ table k
  table-is k =
      append-is _ _ (code_name k) _ _ (part-is home.Old (old_func W) (λ f. refl) W.first.funcs k)
      (append-is _ _ (code_name k) _ _ (part-is home.New (new_func W) (λ f. refl) W.second.funcs k)
      (append-is _ _ (code_name k) _ _ (part-is home.Both wrapper (λ f. refl) (filter (is_wrapped W) W.first.funcs) k)
      (append-is _ _ (code_name k) _ _ (part-is home.Xform (xform_func W) (λ f. refl) W.xform.funcs k)
      (append-is _ _ (code_name k) _ _ (part-is home.Client (client_func W) (λ f. refl) (client_funcs W) k) (main-is k)))))

  -- the wrapper of a shared function
  pub wrapper-is : (f : Bytes) → is_shared_code W.first W.second f ≡ true → table (home.Both, f) ≡ option_map wrapper (func_named W.first.funcs f)
  wrapper-is f shared =
      or_none (option_map wrapper (func_named (filter (is_wrapped W) W.first.funcs) f))
      ∙ ap (option_map wrapper)
      (func_named-is (filter (is_wrapped W) W.first.funcs) f ∙ named-filter name_of_func (is_shared_code W.first W.second) W.first.funcs f shared
      ∙ sym (func_named-is W.first.funcs f))

  -- ---- globals

  -- the globals of a version, under their merged names
  abbrev pub version_globals : origin.Provenance → List GlobalVar → List GlobalVar
  version_globals o gs = map (merged_global W o) gs

  same_at : (h : Bytes → Home) (y x : Bytes) (k : Home) → (same_home (h y) k && bytes_eq y x) ≡ (same_home (h x) k && bytes_eq y x)
  same_at h y x k = by_bool (bytes_eq y x)
      (λ e. ap (λ (z : Bytes). same_home (h z) k && bytes_eq y x) (same_names y x e))
      (λ e. ap (λ (b : Bool). same_home (h y) k && b) e ∙ never (same_home (h y) k) ∙ sym (ap (λ (b : Bool). same_home (h x) k && b) e ∙ never (same_home (h x) k)))
    where
      never : (b : Bool) → b && false ≡ false
      never true = refl
      never false = refl

  -- those of one version
  abbrev pub globals_in : version.Version → origin.Provenance → List GlobalVar → Linked → Option GlobalVar
  globals_in v o gs k = if same_home (cell_part W.first W.second v k.1) k.0 then option_map (merged_global W o) (global_named gs k.1) else None

  pub globals-is : (v : version.Version) (o : origin.Provenance) → ((x : Bytes) → variable_name W o x ≡ cell_name (cell_part W.first W.second v x, x))
      → (gs : List GlobalVar) (k : Linked) → global_named (version_globals o gs) (cell_name k) ≡ globals_in v o gs k
  globals-is v o names gs k =
      global_named-is (version_globals o gs) (cell_name k)
      ∙ named-map name_of_global name_of_global (merged_global W o) gs (cell_name k) k.1 (same_home (cell_part W.first W.second v k.1) k.0)
      (λ g. ap (λ n. bytes_eq n (cell_name k)) (names g.name) ∙ same_cells (cell_part W.first W.second v g.name, g.name) k
      ∙ same_at (cell_part W.first W.second v) g.name k.1 k.0)
      ∙ ap (λ o'. if same_home (cell_part W.first W.second v k.1) k.0 then option_map (merged_global W o) o' else None) (sym (global_named-is gs k.1))

  abbrev pub own_globals : List GlobalVar
  own_globals = filter (is_own_cell W) W.second.globals

  abbrev pub cells_table : Linked → Option GlobalVar
  cells_table k = option_or (globals_in version.Old origin.Old W.first.globals k) (globals_in version.New origin.New own_globals k)

  not_flag : (k : Linked) → bytes_eq now_name (cell_name k) ≡ false
  not_flag k = bytes_eq-sym now_name (cell_name k) ∙ cell_apart-now k

  pub cells-is : (k : Linked) → global_named (merged_globals W) (cell_name k) ≡ cells_table k
  cells-is k =
      ap (λ (b : Bool). if b then Some flag else global_named (version_globals origin.Old W.first.globals ++ version_globals origin.New own_globals) (cell_name k)) (not_flag k)
      ∙ globals_append (version_globals origin.Old W.first.globals) (version_globals origin.New own_globals) (cell_name k)
      ∙ ap₂ option_or (globals-is version.Old origin.Old (λ x. refl) W.first.globals k) (globals-is version.New origin.New (λ x. refl) own_globals k)

  -- a global that one version alone has
  pub own_named : (x : Bytes) → is_shared_cell W.first W.second x ≡ false → global_named own_globals x ≡ global_named W.second.globals x
  own_named x h =
      global_named-is own_globals x
      ∙ named-filter name_of_global (λ y. not (is_shared_cell W.first W.second y)) W.second.globals x (ap not h)
      ∙ sym (global_named-is W.second.globals x)

  -- a name that no global of the new version has
  pub own_unnamed : (x : Bytes) → global_named W.second.globals x ≡ None → global_named own_globals x ≡ None
  own_unnamed x h = by_option (global_named own_globals x) refl
    where
      by_option : (o : Option GlobalVar) → global_named own_globals x ≡ o → o ≡ None
      by_option None e = refl
      by_option (Some g) e =
          let there : is_some (named name_of_global own_globals x) ≡ true = ap is_some (sym (global_named-is own_globals x) ∙ e) in
          let passes = filter-passes name_of_global (λ y. not (is_shared_cell W.first W.second y)) W.second.globals x there in
          let never : is_some (named name_of_global W.second.globals x) ≡ false = ap is_some (sym (global_named-is W.second.globals x) ∙ h) in
          absurd cc

  -- ---- names that are no global's

  -- any name that is apart from all merged cells
  pub no_cell : (n : Bytes) → bytes_eq now_name n ≡ false → ((k : Linked) → bytes_eq (cell_name k) n ≡ false) → global_named (merged_globals W) n ≡ None
  no_cell n flag_apart apart =
      ap (λ (b : Bool). if b then Some flag else global_named (version_globals origin.Old W.first.globals ++ version_globals origin.New own_globals) n) flag_apart
      ∙ globals_append (version_globals origin.Old W.first.globals) (version_globals origin.New own_globals) n
      ∙ ap₂ option_or
      (no_global_named (merged_global W origin.Old) W.first.globals n (λ g. apart (cell_part W.first W.second version.Old g.name, g.name)))
      (no_global_named (merged_global W origin.New) own_globals n (λ g. apart (cell_part W.first W.second version.New g.name, g.name)))

  wrapper_apart : (f : Bytes) (k : Linked) → bytes_eq (cell_name k) (codes "dsu_any_" ++ f) ≡ false
  wrapper_apart f (home.Both, x) = refl
  wrapper_apart f (home.Old, x) = refl
  wrapper_apart f (home.New, x) = refl
  wrapper_apart f (home.Xform, x) = refl
  wrapper_apart f (home.Client, x) = refl
  wrapper_apart f (home.Unlinked, x) = kept-own 97 (codes "ny_" ++ f) x refl refl

  -- no global has a wrapper's name
  pub no_wrapper_cell : (f : Bytes) → global_named (merged_globals W) (code_name (home.Both, f)) ≡ None
  no_wrapper_cell f = no_cell (code_name (home.Both, f)) refl (wrapper_apart f)

  part_old_new : (has shared : Bool) → same_home (links.part version.Old has shared) home.New ≡ false
  part_old_new true true = refl
  part_old_new true false = refl
  part_old_new false shared = refl

  part_new_old : (has shared : Bool) → same_home (links.part version.New has shared) home.Old ≡ false
  part_new_old true true = refl
  part_new_old true false = refl
  part_new_old false shared = refl

  abbrev in_version : version.Version → Bytes → Bool
  in_version v x = is_some (global_named (links.program_of W.first W.second v).globals x)

  if_not : {X : Type 0} (b : Bool) (x : Option X) → b ≡ false → (if b then x else None) ≡ None
  if_not b x h = ap (λ (c : Bool). if c then x else None) h

  if_none : {X Y : Type 0} (b : Bool) (make : X → Y) (x : Option X) → x ≡ None → (if b then option_map make x else None) ≡ None
  if_none true make x h = ap (option_map make) h
  if_none false make x h = refl

  -- no global has the name of an old function that is the old version's alone
  pub no_old_cell : (f : Bytes) → global_named W.first.globals f ≡ None → global_named (merged_globals W) (code_name (home.Old, f)) ≡ None
  no_old_cell f h =
      cells-is (home.Old, f)
      ∙ ap₂ option_or (if_none (same_home (cell_part W.first W.second version.Old f) home.Old) (merged_global W origin.Old) (global_named W.first.globals f) h)
      (if_not (same_home (cell_part W.first W.second version.New f) home.Old) _ (part_new_old (in_version version.New f) (is_shared_cell W.first W.second f)))

  pub no_old_at_new : (x : Bytes) → globals_in version.Old origin.Old W.first.globals (home.New, x) ≡ None
  no_old_at_new x = if_not (same_home (cell_part W.first W.second version.Old x) home.New) _ (part_old_new (in_version version.Old x) (is_shared_cell W.first W.second x))

  pub no_new_cell : (f : Bytes) → global_named W.second.globals f ≡ None → global_named (merged_globals W) (code_name (home.New, f)) ≡ None
  no_new_cell f h =
      cells-is (home.New, f)
      ∙ ap₂ option_or (no_old_at_new f)
      (if_none (same_home (cell_part W.first W.second version.New f) home.New) (merged_global W origin.New) (global_named own_globals f) (own_unnamed f h))

  -- a home that no version's global has
  abbrev IsElsewhere : Home → Type 0
  IsElsewhere p = (same_home home.Both p ≡ false) × ((same_home home.Old p ≡ false) × (same_home home.New p ≡ false))

  elsewhere_in : {X Y : Type 0} (p : Home) → IsElsewhere p → (v : version.Version) (shared : Bool) (o : Option X) (make : Y → GlobalVar) (a : Option Y) → (o ≡ None → a ≡ None)
      → (if same_home (links.part v (is_some o) shared) p then option_map make a else None) ≡ None
  elsewhere_in p apart version.Old true (Some x) make a h = if_not (same_home home.Both p) (option_map make a) apart.0
  elsewhere_in p apart version.Old false (Some x) make a h = if_not (same_home home.Old p) (option_map make a) apart.1.0
  elsewhere_in p apart version.New true (Some x) make a h = if_not (same_home home.Both p) (option_map make a) apart.0
  elsewhere_in p apart version.New false (Some x) make a h = if_not (same_home home.New p) (option_map make a) apart.1.1
  elsewhere_in p apart version.Old shared None make a h = if_none (same_home home.Unlinked p) make a (h refl)
  elsewhere_in p apart version.New shared None make a h = if_none (same_home home.Unlinked p) make a (h refl)

  pub no_cell_elsewhere : (p : Home) (x : Bytes) → IsElsewhere p → global_named (merged_globals W) (cell_name (p, x)) ≡ None
  no_cell_elsewhere p x apart =
      cells-is (p, x)
      ∙ ap₂ option_or
      (elsewhere_in p apart version.Old (is_shared_cell W.first W.second x) (global_named W.first.globals x) (merged_global W origin.Old) (global_named W.first.globals x) (λ h. h))
      (elsewhere_in p apart version.New (is_shared_cell W.first W.second x) (global_named W.second.globals x) (merged_global W origin.New) (global_named own_globals x) (own_unnamed x))

  pub no_xform_cell : (f : Bytes) → global_named (merged_globals W) (code_name (home.Xform, f)) ≡ None
  no_xform_cell f = no_cell_elsewhere home.Xform f (refl, (refl, refl))

  pub no_client_cell : (f : Bytes) → global_named (merged_globals W) (code_name (home.Client, f)) ≡ None
  no_client_cell f = no_cell_elsewhere home.Client f (refl, (refl, refl))
