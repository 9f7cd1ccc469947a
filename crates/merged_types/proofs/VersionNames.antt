-- What a version's names stand for in its merged code.
use Rattle.std.proofs.Common.{◌≡◌, ℕ, ◌+◌, Bool, true, false, if◌then◌else◌, List, [], ◌∷◌, map, Option, Some, None, is_some, refl, sym, ap, ap₂, ◌∙◌, subst, arith, codes}
use Rattle.std.specs.Option.{option_map, option_or}
use Rattle.std.specs.Str.{bytes_eq}
use Rattle.std.proofs.lemmas.Bool.Decides.{nat_tests}
use Rattle.c_lang.specs.Names.{Bytes}
use Rattle.c_lang.specs.Kinds.{same_kind, same_kinds, same_result}
use Rattle.c_lang.specs.Programs.{global_named, func_named}
use Rattle.c_lang.specs.declared.stmt.Kind.{Kind}
use Rattle.c_lang.specs.declared.stmt.Kind.TheVariants as kind
use Rattle.c_lang.specs.declared.program.Shape.{Shape}
use Rattle.c_lang.specs.declared.program.Shape.TheVariants as shape
use Rattle.c_lang.specs.declared.program.GlobalVar.{GlobalVar}
use Rattle.c_lang.specs.declared.program.Func.{Func}
use Rattle.c_types.specs.Names.{Means, Cell, Array, Code, Refused, Entries, found}
use Rattle.c_types.specs.Functions.{kinds_of, arity_as_value, means_of_func}
use Rattle.c_types.specs.Programs.{means_of_shape, outside_of}
use Rattle.c_types.proofs.Combined.{same_sound, both_true}
use Rattle.version_names.specs.Links as links
use Rattle.version_names.specs.Links.{both_alike, same_shape, same_head, is_shared_cell, is_shared_code, cell_part, code_part}
use Rattle.version_names.specs.Version as version
use Rattle.version_names.specs.Home.{Home, Linked, same_home, same_linked}
use Rattle.version_names.specs.Home as home
use Rattle.version_names.specs.Provenance as origin
use Rattle.update_semantics.specs.UpdatingRun.{World}
use Rattle.merged_program.specs.Names.{cell_name, code_name, kept_name, variable_name, function_name}
use Rattle.merged_program.specs.Programs.{parameters_from, wrapper, merged_shape, merged_global, merged_globals, merged_param, merged_funcs, merged_main, old_func, new_func}
use Rattle.merged_program.proofs.MergedNames.{by_bool, same_names, same_home-refl}
use Rattle.merged_program.proofs.Lookups.{or_none}
use Rattle.merged_program.proofs.MergedTables.{table, table-is, cells_table, cells-is, own_globals, own_named, no_wrapper_cell, no_old_cell, no_new_cell, no_old_at_new, no_cell_elsewhere, wrapper-is}
use Rattle.merged_types.proofs.MergedNaming.{merged_naming}
use Rattle.merged_types.proofs.UnitNames.{means_of_global, either_means, found_outside}
use Rattle.merged_types.proofs.Carrying.{IsKeptCell, IsKeptCode, IsKeptValue}
use Rattle.merged_types.proofs.CarriedScopes.{IsOutside}

-- ---- what is the same

pub kept_some : (m : Means) (o : Option Means) → o ≡ Some m → IsKeptCell (Some m) o
kept_some (Cell k) o e = e
kept_some Array o e = e
kept_some (Code params gives value denied) o e = tt
kept_some (Refused n) o e = tt

pub shape_no_code : (s : Shape) (o : Option Means) → IsKeptCode (Some (means_of_shape s)) o
shape_no_code (shape.Int z) o = tt
shape_no_code (shape.Arr zs) o = tt
shape_no_code (shape.Fp n f) o = tt

kept_itself : (v : Option ℕ) → IsKeptValue v v
kept_itself None = tt
kept_itself (Some n) = refl

pub kept_func : (d : Func) (denied : Option ℕ) (o : Option Means) → o ≡ Some (means_of_func d)
    → IsKeptCode (Some (Code (kinds_of d.params) d.gives (arity_as_value (kinds_of d.params) d.gives) denied)) o
kept_func d denied o e = (arity_as_value (kinds_of d.params) d.gives, (e, kept_itself (arity_as_value (kinds_of d.params) d.gives)))

pub kinds_from : (n : ℕ) (ks : List Kind) → kinds_of (parameters_from n ks) ≡ ks
kinds_from n [] = refl
kinds_from n (k ∷ ks) = ap (λ (ls : List Kind). k ∷ ls) (kinds_from (n + 1) ks)

pub same_means : (d e : Func) → kinds_of d.params ≡ kinds_of e.params → d.gives ≡ e.gives → means_of_func d ≡ means_of_func e
same_means d e h k = ap₂ (λ (ks : List Kind) (g : Bool). Code ks g (arity_as_value ks g) None) h k

pub kinds_sound : (ks ls : List Kind) → same_kinds ks ls ≡ true → ks ≡ ls
kinds_sound [] [] h = refl
kinds_sound [] (l ∷ ls) h = absurd cc
kinds_sound (k ∷ ks) [] h = absurd cc
kinds_sound (k ∷ ks) (l ∷ ls) h =
    let parts = both_true (same_kind k l) (same_kinds ks ls) h in
    ap₂ (λ (x : Kind) (xs : List Kind). x ∷ xs) (same_sound k l parts.0) (kinds_sound ks ls parts.1)

pub result_sound : (a b : Bool) → same_result a b ≡ true → a ≡ b
result_sound true b h = sym h
result_sound false true h = absurd cc
result_sound false false h = refl

pub shape_sound : (s t : Shape) → same_shape s t ≡ true → means_of_shape s ≡ means_of_shape t
shape_sound (shape.Int y) (shape.Int z) h = refl
shape_sound (shape.Arr ys) (shape.Arr zs) h = refl
shape_sound (shape.Fp m f) (shape.Fp n g) h = let e : m ≡ n = grind (arith, nat_tests, h) in ap (λ (k : ℕ). Cell (kind.Fp k)) e
shape_sound (shape.Int y) (shape.Arr zs) h = absurd cc
shape_sound (shape.Int y) (shape.Fp n g) h = absurd cc
shape_sound (shape.Arr ys) (shape.Int z) h = absurd cc
shape_sound (shape.Arr ys) (shape.Fp n g) h = absurd cc
shape_sound (shape.Fp m f) (shape.Int z) h = absurd cc
shape_sound (shape.Fp m f) (shape.Arr zs) h = absurd cc

some_not : {X : Type 0} (o : Option X) → is_some o ≡ true → o ≡ None → ⊥
some_not (Some x) h e = absurd cc
some_not None h e = absurd cc

module _ (W : World) where
  abbrev pub first_outside : Entries
  first_outside = outside_of W.first.globals W.first.funcs

  abbrev pub second_outside : Entries
  second_outside = outside_of W.second.globals W.second.funcs

  abbrev pub merged_outside : Entries
  merged_outside = outside_of (merged_globals W) (merged_funcs W)

  pub shape_same : (o : origin.Provenance) (s : Shape) → means_of_shape (merged_shape W o s) ≡ means_of_shape s
  shape_same o (shape.Int z) = refl
  shape_same o (shape.Arr zs) = refl
  shape_same o (shape.Fp n None) = refl
  shape_same o (shape.Fp n (Some f)) = refl

  -- ---- cells

  pub cell_found : (k : Linked) (g : GlobalVar) (m : Means) → cells_table W k ≡ Some g → means_of_global g ≡ m → found merged_outside (cell_name k) ≡ Some m
  cell_found k g m e h =
      found_outside (merged_globals W) (merged_funcs W) (cell_name k)
      ∙ ap (λ (o : Option GlobalVar). either_means o (func_named (merged_funcs W) (cell_name k))) (cells-is W k ∙ e) ∙ ap Some h

  pub old_cell : (x : Bytes) (g : GlobalVar) → global_named W.first.globals x ≡ Some g → found merged_outside (variable_name W origin.Old x) ≡ Some (means_of_global g)
  old_cell x g e =
      let part = cell_part W.first W.second version.Old x in
      cell_found (part, x) (merged_global W origin.Old g) (means_of_global g)
      (ap₂ (λ (b : Bool) (o : Option GlobalVar).
      option_or (if b then option_map (merged_global W origin.Old) o else None) (if same_home (cell_part W.first W.second version.New x) part then option_map (merged_global W origin.New) (global_named (own_globals W) x) else None))
      (same_home-refl part) e)
      (shape_same origin.Old g.shape)

  abbrev part_of : version.Version → Bool → Bool → Home
  part_of = links.part

  -- a cell that both versions have is found by the old one
  pub shared_cell : (x : Bytes) (g : GlobalVar) → is_shared_cell W.first W.second x ≡ true → global_named W.second.globals x ≡ Some g
      → found merged_outside (cell_name (home.Both, x)) ≡ Some (means_of_global g)
  shared_cell x g s e = by_option (global_named W.first.globals x) refl (sym (ap (both_alike (λ (g h : GlobalVar). same_shape g.shape h.shape) (global_named W.first.globals x)) e) ∙ s)
    where
      by_option : (o : Option GlobalVar) → global_named W.first.globals x ≡ o → both_alike (λ (g h : GlobalVar). same_shape g.shape h.shape) (global_named W.first.globals x) (Some g) ≡ true
          → found merged_outside (cell_name (home.Both, x)) ≡ Some (means_of_global g)
      by_option None k h = let never : false ≡ true = sym (ap (λ (o : Option GlobalVar). both_alike (λ (g h : GlobalVar). same_shape g.shape h.shape) o (Some g)) k) ∙ h in absurd cc
      by_option (Some f) k h =
          let alike : same_shape f.shape g.shape ≡ true = sym (ap (λ (o : Option GlobalVar). both_alike (λ (g h : GlobalVar). same_shape g.shape h.shape) o (Some g)) k) ∙ h in
          let there : part_of version.Old (is_some (global_named W.first.globals x)) (is_shared_cell W.first W.second x) ≡ home.Both = ap₂ (part_of version.Old) (ap is_some k) s in
          sym (ap (λ (p : Home). found merged_outside (cell_name (p, x))) there) ∙ old_cell x f k ∙ ap Some (shape_sound f.shape g.shape alike)

  pub new_alone : (x : Bytes) (g : GlobalVar) → is_shared_cell W.first W.second x ≡ false → global_named W.second.globals x ≡ Some g
      → found merged_outside (cell_name (home.New, x)) ≡ Some (means_of_global g)
  new_alone x g s e =
      let here : part_of version.New (is_some (global_named W.second.globals x)) (is_shared_cell W.first W.second x) ≡ home.New = ap₂ (part_of version.New) (ap is_some e) s in
      cell_found (home.New, x) (merged_global W origin.New g) (means_of_global g)
      (ap₂ option_or (no_old_at_new W x)
      (ap₂ (λ (p : Home) (o : Option GlobalVar). if same_home p home.New then option_map (merged_global W origin.New) o else None) here (own_named W x s ∙ e)))
      (shape_same origin.New g.shape)

  pub new_cell : (x : Bytes) (g : GlobalVar) → global_named W.second.globals x ≡ Some g → found merged_outside (variable_name W origin.New x) ≡ Some (means_of_global g)
  new_cell x g e = by_bool (is_shared_cell W.first W.second x)
      (λ s. ap (λ (p : Home). found merged_outside (cell_name (p, x))) (ap₂ (part_of version.New) (ap is_some e) s) ∙ shared_cell x g s e)
      (λ s. ap (λ (p : Home). found merged_outside (cell_name (p, x))) (ap₂ (part_of version.New) (ap is_some e) s) ∙ new_alone x g s e)

  -- ---- names that are linked nowhere

  pub nowhere_cell : (x : Bytes) → global_named (merged_globals W) (kept_name x) ≡ None
  nowhere_cell x = no_cell_elsewhere W home.Unlinked x (refl, (refl, refl))

  pub nowhere : (x : Bytes) → bytes_eq (codes "main") x ≡ false → found merged_outside (kept_name x) ≡ None
  nowhere x apart =
      found_outside (merged_globals W) (merged_funcs W) (kept_name x)
      ∙ ap₂ either_means (nowhere_cell x)
      (table-is W (home.Unlinked, x) ∙ ap (λ (b : Bool). if b then Some (merged_main W W.client) else None) apart)

  -- ---- functions

  pub code_found : (k : Linked) (d : Func) (m : Means) → global_named (merged_globals W) (code_name k) ≡ None → table W k ≡ Some d → means_of_func d ≡ m
      → found merged_outside (code_name k) ≡ Some m
  code_found k d m none e h =
      found_outside (merged_globals W) (merged_funcs W) (code_name k)
      ∙ ap₂ either_means none (table-is W k ∙ e) ∙ ap Some h

  pub kinds_merged : (o : origin.Provenance) (ps : List (Kind × Bytes)) → kinds_of (map (merged_param W o) ps) ≡ kinds_of ps
  kinds_merged o [] = refl
  kinds_merged o (p ∷ ps) = ap (λ (ks : List Kind). p.0 ∷ ks) (kinds_merged o ps)

  pub old_code : (f : Bytes) (d : Func) → global_named W.first.globals f ≡ None → func_named W.first.funcs f ≡ Some d
      → found merged_outside (code_name (home.Old, f)) ≡ Some (means_of_func d)
  old_code f d none e =
      code_found (home.Old, f) (old_func W d) (means_of_func d) (no_old_cell W f none)
      (or_none (option_map (old_func W) (func_named W.first.funcs f)) ∙ ap (option_map (old_func W)) e)
      (same_means (old_func W d) d (kinds_merged origin.Old d.params) refl)

  pub new_code : (f : Bytes) (d : Func) → global_named W.second.globals f ≡ None → func_named W.second.funcs f ≡ Some d
      → found merged_outside (code_name (home.New, f)) ≡ Some (means_of_func d)
  new_code f d none e =
      code_found (home.New, f) (new_func W d) (means_of_func d) (no_new_cell W f none)
      (or_none (option_map (new_func W) (func_named W.second.funcs f)) ∙ ap (option_map (new_func W)) e)
      (same_means (new_func W d) d (kinds_merged origin.New d.params) refl)

  pub wrapper_code : (f : Bytes) (d : Func) → is_shared_code W.first W.second f ≡ true → func_named W.first.funcs f ≡ Some d
      → found merged_outside (code_name (home.Both, f)) ≡ Some (means_of_func d)
  wrapper_code f d s e =
      code_found (home.Both, f) (wrapper d) (means_of_func d) (no_wrapper_cell W f)
      (wrapper-is W f s ∙ ap (option_map wrapper) e)
      (same_means (wrapper d) d (kinds_from 1 (kinds_of d.params)) refl)

  pub shared_code : (f : Bytes) (d : Func) → is_shared_code W.first W.second f ≡ true → func_named W.second.funcs f ≡ Some d
      → found merged_outside (code_name (home.Both, f)) ≡ Some (means_of_func d)
  shared_code f d s e = by_option (func_named W.first.funcs f) refl (sym (ap (both_alike same_head (func_named W.first.funcs f)) e) ∙ s)
    where
      by_option : (o : Option Func) → func_named W.first.funcs f ≡ o → both_alike same_head (func_named W.first.funcs f) (Some d) ≡ true
          → found merged_outside (code_name (home.Both, f)) ≡ Some (means_of_func d)
      by_option None k h = let never : false ≡ true = sym (ap (λ (o : Option Func). both_alike same_head o (Some d)) k) ∙ h in absurd cc
      by_option (Some c) k h =
          let alike : same_head c d ≡ true = sym (ap (λ (o : Option Func). both_alike same_head o (Some d)) k) ∙ h in
          let parts = both_true (same_kinds (kinds_of c.params) (kinds_of d.params)) (same_result c.gives d.gives) alike in
          wrapper_code f c s k ∙ ap Some (same_means c d (kinds_sound (kinds_of c.params) (kinds_of d.params) parts.0) (result_sound c.gives d.gives parts.1))

  -- ---- the old version

  abbrev main_name : Bytes
  main_name = codes "main"

  pub not_main : (fs : List Func) (x : Bytes) → is_some (func_named fs main_name) ≡ true → func_named fs x ≡ None → bytes_eq main_name x ≡ false
  not_main fs x main e = by_bool (bytes_eq main_name x)
      (λ h. absurd (some_not (func_named fs x) (ap (λ (y : Bytes). is_some (func_named fs y)) (sym (same_names main_name x h)) ∙ main) e))
      (λ h. h)

  module _ (main : is_some (func_named W.first.funcs main_name) ≡ true) where
    old_cells : (x : Bytes) (a : Option GlobalVar) (b : Option Func) → global_named W.first.globals x ≡ a → func_named W.first.funcs x ≡ b
        → IsKeptCell (either_means a b) (found merged_outside (variable_name W origin.Old x))
    old_cells x (Some g) b ea eb = kept_some (means_of_global g) (found merged_outside (variable_name W origin.Old x)) (old_cell x g ea)
    old_cells x None (Some f) ea eb = tt
    old_cells x None None ea eb =
        ap (λ (o : Option GlobalVar). found merged_outside (cell_name (part_of version.Old (is_some o) (is_shared_cell W.first W.second x), x))) ea
        ∙ nowhere x (not_main W.first.funcs x main eb)

    old_codes : (f : Bytes) (a : Option GlobalVar) (b : Option Func) → global_named W.first.globals f ≡ a → func_named W.first.funcs f ≡ b
        → IsKeptCode (either_means a b) (found merged_outside (function_name W origin.Old f))
    old_codes f (Some g) b ea eb = shape_no_code g.shape (found merged_outside (function_name W origin.Old f))
    old_codes f None None ea eb = tt
    old_codes f None (Some d) ea eb = kept_func d None (found merged_outside (function_name W origin.Old f)) (by_bool (is_shared_code W.first W.second f)
        (λ s. ap₂ (λ (o : Option Func) (b : Bool). found merged_outside (code_name (part_of version.Old (is_some o) b, f))) eb s ∙ wrapper_code f d s eb)
        (λ s. ap₂ (λ (o : Option Func) (b : Bool). found merged_outside (code_name (part_of version.Old (is_some o) b, f))) eb s ∙ old_code f d ea eb))

    pub old_names : IsOutside (variable_name W origin.Old) (function_name W origin.Old) (merged_naming W origin.Old) first_outside merged_outside
    old_names = record {
      cells = λ x. subst (λ (o : Option Means). IsKeptCell o (found merged_outside (variable_name W origin.Old x))) (sym (found_outside W.first.globals W.first.funcs x))
          (old_cells x (global_named W.first.globals x) (func_named W.first.funcs x) refl refl);
      codes = λ f. subst (λ (o : Option Means). IsKeptCode o (found merged_outside (function_name W origin.Old f))) (sym (found_outside W.first.globals W.first.funcs f))
          (old_codes f (global_named W.first.globals f) (func_named W.first.funcs f) refl refl);
    }

  -- ---- the new version

  module _ (main : is_some (func_named W.second.funcs main_name) ≡ true) where
    new_cells : (x : Bytes) (a : Option GlobalVar) (b : Option Func) → global_named W.second.globals x ≡ a → func_named W.second.funcs x ≡ b
        → IsKeptCell (either_means a b) (found merged_outside (variable_name W origin.New x))
    new_cells x (Some g) b ea eb = kept_some (means_of_global g) (found merged_outside (variable_name W origin.New x)) (new_cell x g ea)
    new_cells x None (Some f) ea eb = tt
    new_cells x None None ea eb =
        ap (λ (o : Option GlobalVar). found merged_outside (cell_name (part_of version.New (is_some o) (is_shared_cell W.first W.second x), x))) ea
        ∙ nowhere x (not_main W.second.funcs x main eb)

    new_codes : (f : Bytes) (a : Option GlobalVar) (b : Option Func) → global_named W.second.globals f ≡ a → func_named W.second.funcs f ≡ b
        → IsKeptCode (either_means a b) (found merged_outside (function_name W origin.New f))
    new_codes f (Some g) b ea eb = shape_no_code g.shape (found merged_outside (function_name W origin.New f))
    new_codes f None None ea eb = tt
    new_codes f None (Some d) ea eb = kept_func d None (found merged_outside (function_name W origin.New f)) (by_bool (is_shared_code W.first W.second f)
        (λ s. ap₂ (λ (o : Option Func) (b : Bool). found merged_outside (code_name (part_of version.New (is_some o) b, f))) eb s ∙ shared_code f d s eb)
        (λ s. ap₂ (λ (o : Option Func) (b : Bool). found merged_outside (code_name (part_of version.New (is_some o) b, f))) eb s ∙ new_code f d ea eb))

    pub new_names : IsOutside (variable_name W origin.New) (function_name W origin.New) (merged_naming W origin.New) second_outside merged_outside
    new_names = record {
      cells = λ x. subst (λ (o : Option Means). IsKeptCell o (found merged_outside (variable_name W origin.New x))) (sym (found_outside W.second.globals W.second.funcs x))
          (new_cells x (global_named W.second.globals x) (func_named W.second.funcs x) refl refl);
      codes = λ f. subst (λ (o : Option Means). IsKeptCode o (found merged_outside (function_name W origin.New f))) (sym (found_outside W.second.globals W.second.funcs f))
          (new_codes f (global_named W.second.globals f) (func_named W.second.funcs f) refl refl);
    }
