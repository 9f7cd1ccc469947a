-- What a client's names stand for in its merged code, by the place at which they stand.
use Rattle.std.proofs.Common.{◌≡◌, Bool, true, false, if◌then◌else◌, List, [], ◌∷◌, Option, Some, None, is_some, refl, sym, ap, ap₂, ◌∙◌, subst, codes}
use Rattle.std.specs.Option.{option_map}
use Rattle.c_lang.specs.Names.{Bytes}
use Rattle.c_lang.specs.Refusals as refused
use Rattle.c_lang.specs.Programs.{func_named}
use Rattle.c_lang.specs.declared.unit.Unit.TheVariants as unit
use Rattle.c_lang.specs.declared.program.GlobalVar.{GlobalVar}
use Rattle.c_lang.specs.declared.program.Func.{Func}
use Rattle.c_lang.specs.declared.program.Program.{Program}
use Rattle.c_types.specs.Names.{Means, Entries, found}
use Rattle.c_types.specs.Scopes.{names_version}
use Rattle.c_types.specs.Functions.{kinds_of, arity_as_value, means_of_func}
use Rattle.c_types.specs.Programs.{with_globals}
use Rattle.c_types.specs.Beside.{own_func, own_names}
use Rattle.version_names.specs.Links as links
use Rattle.version_names.specs.Links.{is_shared_code, code_part}
use Rattle.version_names.specs.Merged.{merged_name}
use Rattle.version_names.specs.Version as version
use Rattle.version_names.specs.Home.{Home, Linked, same_home}
use Rattle.version_names.specs.Home as home
use Rattle.version_names.specs.Provenance as origin
use Rattle.version_names.specs.Parts.{Parts, part_at, part_of}
use Rattle.version_names.specs.declared.part.Origin.TheVariants as prefix
use Rattle.version_names.specs.declared.part.Version.{Version}
use Rattle.version_names.specs.declared.part.Version.TheVariants as v
use Rattle.version_names.specs.declared.part.Part.{Part}
use Rattle.version_names.specs.declared.part.Part.TheVariants as part
use Rattle.version_names.specs.declared.part.Sort2.TheVariants as sort
use Rattle.client_specs.specs.declared.region.Region.{Region}
use Rattle.client_specs.specs.declared.region.Region.TheVariants.{Here, Behind, After, Before}
use Rattle.client_specs.specs.Visible.{is_both, with_callable, denied_in, with_barred, global_names, func_names, visible}
use Rattle.client_specs.specs.Clients.{AreOwnFuncs}
use Rattle.client_specs.specs.Spelled.{version_at, spelled_by, spelled}
use Rattle.client_specs.specs.Refusals.{resolved_own}
use Rattle.update_semantics.specs.UpdatingRun.{World, client_funcs, linked_by_prefix}
use Rattle.merged_program.specs.Names.{code_name, variable_name, function_name}
use Rattle.merged_program.specs.Programs.{client_func}
use Rattle.merged_program.proofs.LinkLaws as link_laws
use Rattle.merged_program.proofs.MergedNames.{by_bool}
use Rattle.merged_program.proofs.Lookups.{or_none}
use Rattle.merged_program.proofs.MergedTables.{no_client_cell}
use Rattle.merged_types.proofs.MergedNaming.{merged_naming}
use Rattle.merged_types.proofs.Carrying.{IsKeptCell, IsKeptCode}
use Rattle.merged_types.proofs.CarriedScopes.{IsOutside}
use Rattle.merged_types.proofs.LinkedNames.{linked_both, linked_old, linked_new}
use Rattle.merged_types.proofs.VersionNames.{merged_outside, kept_func, same_means, kinds_merged, nowhere, not_main, code_found, old_code, new_code, wrapper_code, shared_code}
use Rattle.merged_types.proofs.PlainPrograms.{Each, IsResolvedProgram}
use Rattle.merged_types.proofs.NewNames.{IsOwn, no_global, each_own, each_from, owned, main_named}
use Rattle.merged_types.proofs.VisibleNames.{IsKeptEntry, AllKept, kept_own}
use Rattle.merged_types.proofs.TransformerNames.{old_names_version, new_names_version}
use Rattle.merged_types.proofs.ClientFuncs.{resolved_form, own_new, own_nowhere, not_own, resolved_named}
use Rattle.merged_types.proofs.ClientEntries.{barred_funcs, kept_barred, IsKeptFunc, kept_funcs, kept_shared}

-- what a client knows of its versions
pub record ClientSees (W : World) (spec : Bytes) (p : Program) : Type 0 where
  pub first : IsResolvedProgram unit.Old W.first
  pub second : IsResolvedProgram unit.New W.second
  -- neither a shared function of the versions nor one of the client's own begins as one of one version alone does
  pub plain_codes : (x : Bytes) → names_version x ≡ true → same_home (code_part W.first W.second version.Old x) home.Both ≡ false
  pub plain_own : (x : Bytes) → names_version x ≡ true → func_named p.funcs x ≡ None
  pub globals : p.globals ≡ []
  pub own : AreOwnFuncs (part_of W.first W.second) W.first W.second p spec [] p.funcs
  pub resolved : client_funcs W ≡ resolved_own (part_of W.first W.second) W.first W.second p spec p.funcs

module _ (W : World) (spec : Bytes) (p : Program) (h : ClientSees W spec p) where
  abbrev parts : Parts
  parts = part_of W.first W.second

  abbrev seen : Region → Entries
  seen region = visible parts region W.first W.second p

  abbrev outside : Entries
  outside = merged_outside W

  abbrev ρ : Bytes → Bytes
  ρ = variable_name W origin.Client

  abbrev pub κ : Region → Bytes → Bytes
  κ region f = function_name W origin.Client (spelled parts region f)

  abbrev Kept : Region → Entries → Type 0
  Kept region es = AllKept ρ (κ region) outside es

  abbrev IsFunc : Region → Func → Type 0
  IsFunc region d = IsKeptFunc ρ (κ region) outside d

  named_in_client : (y : Bytes) → func_named (client_funcs W) y ≡ option_map (resolved_form parts W.first W.second p spec) (func_named p.funcs y)
  named_in_client y = ap (λ (fs : List Func). func_named fs y) h.resolved ∙ resolved_named parts W.first W.second p spec p.funcs y

  -- ---- the client's own functions

  own_entry : (region : Region) (f : Func) → func_named p.funcs f.name ≡ Some f → IsKeptEntry ρ (κ region) outside f.name (Some (own_func (denied_in region) f))
  own_entry region f e =
      let there : func_named (client_funcs W) f.name ≡ Some (resolved_form parts W.first W.second p spec f) =
      named_in_client f.name ∙ ap (option_map (resolved_form parts W.first W.second p spec)) e in
      let itself : spelled parts region f.name ≡ f.name =
      ap (λ (o : Option Part). spelled_by o f.name) (own_nowhere parts W.first W.second p spec p.funcs h.own f e (version_at region) sort.Code) in
      let is : found outside (code_name (home.Client, f.name)) ≡ Some (means_of_func f) =
      code_found W (home.Client, f.name) (client_func W (resolved_form parts W.first W.second p spec f)) (means_of_func f) (no_client_cell W f.name)
      (or_none (option_map (client_func W) (func_named (client_funcs W) f.name)) ∙ ap (option_map (client_func W)) there)
      (same_means (client_func W (resolved_form parts W.first W.second p spec f)) f (kinds_merged W origin.Client f.params) refl) in (
        tt,
        (
          arity_as_value (kinds_of f.params) f.gives,
          (
            ap (λ (y : Bytes). found outside (function_name W origin.Client y)) itself
                ∙ ap (λ (o : Option Func). found outside (code_name (if is_some o then (home.Client, f.name) else linked_by_prefix (code_part W.first W.second) f.name))) there ∙ is,
            tt,
          ),
        ),
      )

  own_entries : (region : Region) (fs : List Func) → Each (IsOwn [] p.funcs) fs
      → Each (λ (f : Func). IsKeptEntry ρ (κ region) outside f.name (Some (own_func (denied_in region) f))) fs
  own_entries region [] k = tt
  own_entries region (f ∷ fs) k = (own_entry region f (owned [] p.funcs f k.0).1, own_entries region fs k.1)

  own_kept : (region : Region) → Kept region (own_names (denied_in region) p)
  own_kept region =
      kept_own ρ (κ region) outside (denied_in region) (with_globals [] p.globals) p.funcs
      (subst (λ (gs : List GlobalVar). Kept region (with_globals [] gs)) (sym h.globals) (λ x. tt))
      (own_entries region p.funcs (each_own [] p.funcs (own_new parts W.first W.second p spec [] p.funcs h.own)))

  -- ---- the versions' functions

  -- a function that is spelled y, which is linked to k
  code_entry : (region : Region) (d : Func) (y : Bytes) (k : Linked) → spelled parts region d.name ≡ y → func_named p.funcs y ≡ None
      → linked_by_prefix (code_part W.first W.second) y ≡ k → found outside (code_name k) ≡ Some (means_of_func d) → IsFunc region d
  code_entry region d y k spelling free e there = (
    tt,
    kept_func d None (found outside (κ region d.name))
        (ap (λ (z : Bytes). found outside (function_name W origin.Client z)) spelling
        ∙ ap₂ (λ (o : Option Func) (l : Linked). found outside (code_name (if is_some o then (home.Client, y) else l)))
        (named_in_client y ∙ ap (option_map (resolved_form parts W.first W.second p spec)) free) e
        ∙ there),
  )

  shared_linked : (x : Bytes) → is_shared_code W.first W.second x ≡ true → linked_by_prefix (code_part W.first W.second) x ≡ (home.Both, x)
  shared_linked x s = linked_both (code_part W.first W.second) x (link_laws.shared_code W.first W.second x ∙ s)

  old_shared : (region : Region) → version_at region ≡ v.Old → (d : Func) → func_named W.first.funcs d.name ≡ Some d → is_shared_code W.first W.second d.name ≡ true → IsFunc region d
  old_shared region at d e s =
      let there : parts v.Old sort.Code d.name ≡ Some part.Both = ap₂ (λ (o : Option Func) (b : Bool). part_at (links.part version.Old (is_some o) b)) e s in
      code_entry region d d.name (home.Both, d.name)
      (ap (λ (w : Version). spelled_by (parts w sort.Code d.name) d.name) at ∙ ap (λ (o : Option Part). spelled_by o d.name) there)
      (not_own parts W.first W.second p spec p.funcs h.own d.name v.Old sort.Code (ap is_some there))
      (shared_linked d.name s) (wrapper_code W d.name d s e)

  old_entry : (region : Region) → version_at region ≡ v.Old → (d : Func) → IsOwn (with_globals [] W.first.globals) W.first.funcs d → IsFunc region d
  old_entry region at d o =
      let own = owned (with_globals [] W.first.globals) W.first.funcs d o in
      by_bool (is_shared_code W.first W.second d.name)
      (λ s. old_shared region at d own.1 s)
      (λ s.
      let here : code_part W.first W.second version.Old d.name ≡ home.Old = ap₂ (λ (o : Option Func) (b : Bool). links.part version.Old (is_some o) b) own.1 s in
      let y = merged_name prefix.Old d.name in
      code_entry region d y (home.Old, d.name)
      (ap (λ (w : Version). spelled_by (parts w sort.Code d.name) d.name) at ∙ ap (λ (l : Home). spelled_by (part_at l) d.name) here)
      (h.plain_own y (old_names_version d.name))
      (linked_old (code_part W.first W.second) d.name (h.plain_codes y (old_names_version d.name)) (ap (λ (l : Home). same_home l home.Old) here))
      (old_code W d.name d (no_global W.first.globals d.name own.0) own.1))

  new_entry : (region : Region) → version_at region ≡ v.New → (d : Func) → IsOwn (with_globals [] W.second.globals) W.second.funcs d → IsFunc region d
  new_entry region at d o =
      let own = owned (with_globals [] W.second.globals) W.second.funcs d o in
      by_bool (is_shared_code W.first W.second d.name)
      (λ s.
      let here : code_part W.first W.second version.New d.name ≡ home.Both = ap₂ (λ (o : Option Func) (b : Bool). links.part version.New (is_some o) b) own.1 s in
      code_entry region d d.name (home.Both, d.name)
      (ap (λ (w : Version). spelled_by (parts w sort.Code d.name) d.name) at ∙ ap (λ (l : Home). spelled_by (part_at l) d.name) here)
      (not_own parts W.first W.second p spec p.funcs h.own d.name v.New sort.Code (ap (λ (l : Home). is_some (part_at l)) here))
      (shared_linked d.name s) (shared_code W d.name d s own.1))
      (λ s.
      let here : code_part W.first W.second version.New d.name ≡ home.New = ap₂ (λ (o : Option Func) (b : Bool). links.part version.New (is_some o) b) own.1 s in
      let y = merged_name prefix.New d.name in
      code_entry region d y (home.New, d.name)
      (ap (λ (w : Version). spelled_by (parts w sort.Code d.name) d.name) at ∙ ap (λ (l : Home). spelled_by (part_at l) d.name) here)
      (h.plain_own y (new_names_version d.name))
      (linked_new (code_part W.first W.second) d.name (h.plain_codes y (new_names_version d.name)) (ap (λ (l : Home). same_home l home.New) here))
      (new_code W d.name d (no_global W.second.globals d.name own.0) own.1))

  -- in the places where a client calls shared functions
  both_entry : (d : Func) → IsOwn (with_globals [] W.first.globals) W.first.funcs d → is_both (parts v.Old sort.Code d.name) ≡ true → IsFunc Here d
  both_entry d o both =
      let own = owned (with_globals [] W.first.globals) W.first.funcs d o in
      by_bool (is_shared_code W.first W.second d.name)
      (λ s. old_shared Here refl d own.1 s)
      (λ s.
      let never : false ≡ true = sym (ap₂ (λ (o : Option Func) (b : Bool). is_both (part_at (links.part version.Old (is_some o) b))) own.1 s) ∙ both in
      absurd cc)

  first_own : Each (IsOwn (with_globals [] W.first.globals) W.first.funcs) W.first.funcs
  first_own = each_own (with_globals [] W.first.globals) W.first.funcs h.first.new_funcs

  second_own : Each (IsOwn (with_globals [] W.second.globals) W.second.funcs) W.second.funcs
  second_own = each_own (with_globals [] W.second.globals) W.second.funcs h.second.new_funcs

  all_new : (region : Region) → version_at region ≡ v.New → Each (IsFunc region) W.second.funcs
  all_new region at = each_from (IsOwn (with_globals [] W.second.globals) W.second.funcs) (IsFunc region) (new_entry region at) W.second.funcs second_own

  callable_kept : (region : Region) → (es : Entries) → Kept region es → Kept region (with_callable parts region W.first W.second es)
  callable_kept Here es k =
      kept_shared ρ (κ Here) outside parts es W.first.funcs k
      (each_from (IsOwn (with_globals [] W.first.globals) W.first.funcs) (λ (f : Func). is_both (parts v.Old sort.Code f.name) ≡ true → IsFunc Here f) both_entry W.first.funcs first_own)
  callable_kept Behind es k = kept_funcs ρ (κ Behind) outside es W.second.funcs k (all_new Behind refl)
  callable_kept After es k = kept_funcs ρ (κ After) outside es W.second.funcs k (all_new After refl)
  callable_kept Before es k =
      kept_funcs ρ (κ Before) outside es W.first.funcs k
      (each_from (IsOwn (with_globals [] W.first.globals) W.first.funcs) (IsFunc Before) (old_entry Before refl) W.first.funcs first_own)

  -- ---- all that is visible

  abbrev callable : Region → Entries
  callable region = with_callable parts region W.first W.second (own_names (denied_in region) p)

  abbrev cells_barred : Region → Entries
  cells_barred region = with_barred refused.client_global (with_barred refused.client_global (callable region) (global_names W.first)) (global_names W.second)

  abbrev first_barred : Region → Entries
  first_barred region = with_barred refused.client_call (cells_barred region) (func_names W.first)

  all_kept : (region : Region) → Kept region (seen region)
  all_kept region =
      kept_barred ρ (κ region) outside refused.client_call (first_barred region) (func_names W.second)
      (kept_barred ρ (κ region) outside refused.client_call (cells_barred region) (func_names W.first)
      (kept_barred ρ (κ region) outside refused.client_global (with_barred refused.client_global (callable region) (global_names W.first)) (global_names W.second)
      (kept_barred ρ (κ region) outside refused.client_global (callable region) (global_names W.first)
      (callable_kept region (own_names (denied_in region) p) (own_kept region)))))

  -- a name that isn't visible isn't `main`, which a version has
  nothing : (region : Region) (x : Bytes) → found (seen region) x ≡ None → found outside (ρ x) ≡ None
  nothing region x e =
      nowhere W x (not_main W W.second.funcs x (main_named W.second.funcs h.second.main) (barred_funcs refused.client_call (first_barred region) W.second.funcs x e))

  -- ---- the whole

  cells_by : (region : Region) (x : Bytes) (o : Option Means) → found (seen region) x ≡ o → IsKeptEntry ρ (κ region) outside x o → IsKeptCell o (found outside (ρ x))
  cells_by region x None e k = nothing region x e
  cells_by region x (Some m) e k = k.0

  codes_by : (region : Region) (f : Bytes) (o : Option Means) → IsKeptEntry ρ (κ region) outside f o → IsKeptCode o (found outside (κ region f))
  codes_by region f None k = tt
  codes_by region f (Some m) k = k.1

  pub client_names : (region : Region) → IsOutside (variable_name W origin.Client) (λ (f : Bytes). function_name W origin.Client (spelled (part_of W.first W.second) region f))
      (merged_naming W origin.Client) (visible (part_of W.first W.second) region W.first W.second p) (merged_outside W)
  client_names region = record {
    cells = λ x. cells_by region x (found (seen region) x) refl (all_kept region x);
    codes = λ f. codes_by region f (found (seen region) f) (all_kept region f);
  }

  -- a version has `main`
  pub main_there : is_some (part_of W.first W.second v.Old sort.Code (codes "main")) ≡ true
  main_there = by_test (is_some (func_named W.first.funcs (codes "main"))) (is_shared_code W.first W.second (codes "main")) (main_named W.first.funcs h.first.main)
    where
      by_test : (a s : Bool) → a ≡ true → is_some (part_at (links.part version.Old a s)) ≡ true
      by_test true true e = refl
      by_test true false e = refl
      by_test false s e = absurd cc
