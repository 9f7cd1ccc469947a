-- A merged program is typed in its plain form, and the resolved form of it.
use Rattle.std.proofs.Common.{◌≡◌, ◌≤◌, Bool, true, false, List, [], ◌∷◌, map, length, Option, Some, None, is_some, unwrap_or, refl, sym, ap, ap₂, ◌∙◌, codes, subst}
use Rattle.std.specs.Prelude.{⊤}
use Rattle.std.specs.Option.{option_map}
use Rattle.std.specs.List.{filter}
use Rattle.std.specs.Str.{bytes_eq}
use Rattle.c_lang.specs.Limits.{parameter_limit}
use Rattle.c_lang.specs.Names.{Bytes}
use Rattle.c_lang.specs.Kinds.{same_kinds, same_result}
use Rattle.c_lang.specs.Programs.{global_named, func_named, no_func}
use Rattle.c_lang.specs.declared.unit.Unit.TheVariants as unit
use Rattle.c_lang.specs.declared.stmt.Kind.{Kind}
use Rattle.c_lang.specs.declared.program.Func.{Func}
use Rattle.c_lang.specs.declared.program.Program.{Program}
use Rattle.c_types.specs.Names.{Code, Entries, found}
use Rattle.c_types.specs.Scopes.{Scope}
use Rattle.c_types.specs.Functions.{kinds_of, scope_of, arity_as_value, means_of_func, is_main}
use Rattle.c_types.specs.Programs.{with_globals, with_funcs, has_main}
use Rattle.c_types.specs.Types.{AreNarrow, Types}
use Rattle.c_types.specs.Programs.{resolved_program}
use Rattle.c_types.specs.Plain.{plain}
use Rattle.c_types.proofs.Combined.{both_true}
use Rattle.version_names.specs.Links.{both_alike, same_head}
use Rattle.version_names.specs.Merged.{merged_name}
use Rattle.version_names.specs.Home as home
use Rattle.version_names.specs.Parts.{part_of}
use Rattle.version_names.specs.Provenance as origin
use Rattle.version_names.specs.declared.part.Origin.TheVariants as prefix
use Rattle.client_specs.specs.Kept.{ClientProgram}
use Rattle.client_specs.specs.Spelled.{spelled_func}
use Rattle.client_specs.specs.declared.region.Region.TheVariants.{Here}
use Rattle.update_semantics.specs.UpdatingRun.{World, funcs_of_client, client_funcs}
use Rattle.state_xform.specs.Transformers.{is_start}
use Rattle.merged_program.specs.Names.{code_name, variable_name, function_name}
use Rattle.merged_program.specs.Programs.{wrapper, starting, merged_globals, merged_main, old_func, new_func, xform_func, client_func, is_wrapped, merged_funcs, merged_program}
use Rattle.merged_program.proofs.Lookups.{or_none, no_func_named}
use Rattle.merged_program.proofs.MergedTables.{no_old_cell, no_new_cell, no_wrapper_cell, no_xform_cell, no_client_cell}
use Rattle.merged_program.proofs.MainLaws.{AreNew, StartsIt, main_starts}
use Rattle.merged_types.proofs.MergedNaming.{merged_naming}
use Rattle.merged_types.proofs.CarriedScopes.{IsOutside, HasUpdate, IsCarried}
use Rattle.merged_types.proofs.ResolvedFuncs.{IsResolvedFrom, IsResolvedFunc}
use Rattle.merged_types.proofs.MergedFuncs.{R, version_merged, xform_merged, client_merged}
use Rattle.merged_types.proofs.PlainPrograms.{Each, IsResolvedProgram, typed_plain, resolved_back}
use Rattle.merged_types.proofs.VersionNames.{first_outside, second_outside, merged_outside, old_names, new_names, old_code, new_code, code_found, same_means, kinds_merged, kinds_sound, result_sound, nowhere_cell}
use Rattle.merged_types.proofs.UpdateNames.{has_update, parameter_free, result_free}
use Rattle.merged_types.proofs.CallsTyped.{starting_resolved, wrapper_typed}
use Rattle.merged_types.proofs.MergedGlobals.{globals_merged, cells_merged, new_globals_merged}
use Rattle.merged_types.proofs.NewNames.{IsOwn, IsStartIfMain, no_global, globals_none, funcs_none, each_append, each_map, each_both, each_filter, new_append, new_within, new_made, new_filtered, seen_before, each_own, protos_typed, each_starts, main_behind, main_named, starts, owned}

-- a transformer whose functions are typed and in resolved form
pub record IsResolvedTransformer (W : World) : Type 0 where
  -- what its functions see
  pub outside : Entries
  pub names : IsOutside (variable_name W origin.Xform) (function_name W origin.Xform) (merged_naming W origin.Xform) outside (merged_outside W)
  pub new : AreNew [] W.xform.funcs
  pub funcs : Each (λ (f : Func). IsResolvedFunc outside true f × (is_main f.name ≡ false)) W.xform.funcs
  pub start : is_start (func_named W.xform.funcs (codes "dsu_transform")) ≡ true

-- a client's function: the spelled form of one that is typed and in resolved form from where it begins
pub record IsClientFunc (W : World) (f : Func) : Type 0 where
  pub own : Func
  pub spelled : f ≡ spelled_func (part_of W.first W.second) own
  pub begins : Scope
  pub resolved : IsResolvedFrom begins own
  pub carried : IsCarried (R W.permits (variable_name W) (function_name W) origin.Client (merged_naming W origin.Client) (part_of W.first W.second)) Here begins
      (scope_of (merged_outside W) false own.gives)
  pub no_main : is_main own.name ≡ false

pub record IsResolvedClient (W : World) (c : ClientProgram) : Type 0 where
  pub new : AreNew [] c.program.funcs
  pub funcs : Each (IsClientFunc W) c.program.funcs
  -- a run begins with a function without parameters
  pub entry : Func
  pub named : func_named c.program.funcs c.spec ≡ Some entry
  pub empty : entry.params ≡ []

-- there is no client, or it is such a one
abbrev pub IsOptionalClient : World → Option ClientProgram → Type 0
IsOptionalClient W None = ⊤
IsOptionalClient W (Some c) = IsResolvedClient W c

module _ (W : World) where
  abbrev first : Program
  first = W.first

  abbrev second : Program
  second = W.second

  abbrev xform : Program
  xform = W.xform

  module _ (h : IsResolvedProgram unit.Old W.first) (k : IsResolvedProgram unit.New W.second) (x : IsResolvedTransformer W) (y : IsOptionalClient W W.client) where
    abbrev main : Bytes
    main = codes "main"

    abbrev outside : Entries
    outside = merged_outside W

    abbrev IsHere : Func → Type 0
    IsHere = IsResolvedFunc outside false

    first_names : IsOutside (variable_name W origin.Old) (function_name W origin.Old) (merged_naming W origin.Old) (first_outside W) outside
    first_names = old_names W (main_named first.funcs h.main)

    second_names : IsOutside (variable_name W origin.New) (function_name W origin.New) (merged_naming W origin.New) (second_outside W) outside
    second_names = new_names W (main_named second.funcs k.main)

    update : HasUpdate outside
    update = has_update W x.start

    -- ---- functions

    abbrev IsVersionFunc : Entries → Func → Type 0
    IsVersionFunc seen f = IsResolvedFunc seen false f × IsStartIfMain f

    old_funcs : Each IsHere (map (old_func W) first.funcs)
    old_funcs =
        each_map (IsVersionFunc (first_outside W)) IsHere (old_func W)
        (λ f q. version_merged W.permits (variable_name W) (function_name W) origin.Old (merged_naming W origin.Old) (first_outside W) outside false first_names update f q.0
        (merged_name prefix.Old f.name) (λ m. (starts f q.1 m).0)) first.funcs
        (each_both (IsResolvedFunc (first_outside W) false) IsStartIfMain first.funcs h.funcs (each_starts (with_globals [] first.globals) first.funcs h.new_funcs h.main))

    new_funcs : Each IsHere (map (new_func W) second.funcs)
    new_funcs =
        each_map (IsVersionFunc (second_outside W)) IsHere (new_func W)
        (λ f q. version_merged W.permits (variable_name W) (function_name W) origin.New (merged_naming W origin.New) (second_outside W) outside false second_names update f q.0
        (merged_name prefix.New f.name) (λ m. (starts f q.1 m).0)) second.funcs
        (each_both (IsResolvedFunc (second_outside W) false) IsStartIfMain second.funcs k.funcs (each_starts (with_globals [] second.globals) second.funcs k.new_funcs k.main))

    abbrev IsWrapped : Func → Type 0
    IsWrapped d = IsResolvedFunc (first_outside W) false d × IsOwn (with_globals [] first.globals) first.funcs d

    new_by : (d : Func) (o : Option Func) → func_named second.funcs d.name ≡ o → both_alike same_head (Some d) o ≡ true
        → found outside (merged_name prefix.New d.name) ≡ Some (means_of_func d)
    new_by d None e s = absurd cc
    new_by d (Some c) e s =
        let parts = both_true (same_kinds (kinds_of d.params) (kinds_of c.params)) (same_result d.gives c.gives) s in
        let unseen = seen_before (with_globals [] second.globals) second.funcs k.new_funcs d.name (ap is_some e) in
        new_code W d.name c (no_global second.globals d.name unseen) e
        ∙ ap₂ (λ (ks : List Kind) (g : Bool). Some (Code ks g (arity_as_value ks g) None)) (sym (kinds_sound (kinds_of d.params) (kinds_of c.params) parts.0)) (sym (result_sound d.gives c.gives parts.1))

    wrapper_here : (d : Func) → IsWrapped d → is_wrapped W d ≡ true → IsHere (wrapper d)
    wrapper_here d q s =
        let own = owned (with_globals [] first.globals) first.funcs d q.1 in
        let v = arity_as_value (kinds_of d.params) d.gives in
        wrapper_typed outside (parameter_free W) update.now (result_free W) d v v q.0.few q.0.narrow
        (new_by d (func_named second.funcs d.name) refl (sym (ap (λ (o : Option Func). both_alike same_head o (func_named second.funcs d.name)) own.1) ∙ s))
        (old_code W d.name d (no_global first.globals d.name own.0) own.1)

    wrappers : Each IsHere (map wrapper (filter (is_wrapped W) first.funcs))
    wrappers =
        each_map (λ (d : Func). IsWrapped d × (is_wrapped W d ≡ true)) IsHere wrapper (λ d q. wrapper_here d q.0 q.1) (filter (is_wrapped W) first.funcs)
        (each_filter IsWrapped (is_wrapped W) first.funcs
        (each_both (IsResolvedFunc (first_outside W) false) (IsOwn (with_globals [] first.globals) first.funcs) first.funcs h.funcs (each_own (with_globals [] first.globals) first.funcs h.new_funcs)))

    xform_funcs : Each IsHere (map (xform_func W) xform.funcs)
    xform_funcs =
        each_map (λ (f : Func). IsResolvedFunc x.outside true f × (is_main f.name ≡ false)) IsHere (xform_func W)
        (λ f q. xform_merged W.permits (variable_name W) (function_name W) origin.Xform (merged_naming W origin.Xform) x.outside outside true x.names update f q.0
        (merged_name prefix.Xform f.name) q.1) xform.funcs x.funcs

    client_here : (f : Func) → IsClientFunc W f → IsHere (client_func W f)
    client_here f q =
        subst (λ (g : Func). IsHere (client_func W g)) (sym q.spelled)
        (client_merged W.permits (variable_name W) (function_name W) origin.Client (merged_naming W origin.Client) (part_of W.first W.second) q.begins outside q.own
        q.carried update q.resolved (merged_name prefix.Client q.own.name) q.no_main)

    client_funcs_by : (c : Option ClientProgram) → IsOptionalClient W c → Each IsHere (map (client_func W) (funcs_of_client c))
    client_funcs_by None y = tt
    client_funcs_by (Some c) y = each_map (IsClientFunc W) IsHere (client_func W) client_here c.program.funcs y.funcs

    -- the function with which a run begins
    entry_code : (c : ClientProgram) (f : Func) → W.client ≡ Some c → func_named c.program.funcs c.spec ≡ Some f → found outside (code_name (home.Client, c.spec)) ≡ Some (means_of_func f)
    entry_code c f is named =
        code_found W (home.Client, c.spec) (client_func W f) (means_of_func f) (no_client_cell W c.spec)
        (or_none (option_map (client_func W) (func_named (client_funcs W) c.spec))
        ∙ ap (λ (o : Option ClientProgram). option_map (client_func W) (func_named (funcs_of_client o) c.spec)) is ∙ ap (option_map (client_func W)) named)
        (same_means (client_func W f) f (kinds_merged W origin.Client f.params) refl)

    -- a function without parameters by its name and what it stands for
    begins_with : (name : Bytes) (f : Func) → f.params ≡ [] → found outside name ≡ Some (means_of_func f) → IsHere (starting name f)
    begins_with name f empty is =
        starting_resolved outside (result_free W) name f (arity_as_value [] f.gives)
        (is ∙ ap (λ (ps : List (Kind × Bytes)). Some (Code (kinds_of ps) f.gives (arity_as_value (kinds_of ps) f.gives) None)) empty)

    old_by : (o : Option Func) → func_named first.funcs main ≡ o → is_some o ≡ true → IsHere (starting (merged_name prefix.Old main) (unwrap_or o no_func))
    old_by None e s = absurd cc
    old_by (Some f) e s =
        let start = subst StartsIt e (main_starts (with_globals [] first.globals) first.funcs h.new_funcs h.main) in
        let unseen = seen_before (with_globals [] first.globals) first.funcs h.new_funcs main (ap is_some e) in
        begins_with (merged_name prefix.Old main) f start.1 (old_code W main f (no_global first.globals main unseen) e)

    main_by : (c : Option ClientProgram) → W.client ≡ c → IsOptionalClient W c → IsHere (merged_main W c)
    main_by None is y = old_by (func_named first.funcs main) refl (main_named first.funcs h.main)
    main_by (Some c) is y =
        subst (λ (o : Option Func). IsHere (starting (merged_name prefix.Client c.spec) (unwrap_or o no_func))) (sym y.named)
        (begins_with (merged_name prefix.Client c.spec) y.entry y.empty (entry_code c y.entry is y.named))

    funcs_here : Each IsHere (merged_funcs W)
    funcs_here =
        each_append IsHere (map (old_func W) first.funcs) _ old_funcs
        (each_append IsHere (map (new_func W) second.funcs) _ new_funcs
        (each_append IsHere (map wrapper (filter (is_wrapped W) first.funcs)) _ wrappers
        (each_append IsHere (map (xform_func W) xform.funcs) _ xform_funcs
        (each_append IsHere (map (client_func W) (client_funcs W)) _ (client_funcs_by W.client y) (main_by W.client refl y, tt)))))

    -- ---- names

    abbrev cells : Entries
    cells = with_globals [] (merged_globals W)

    abbrev with_old : Entries
    with_old = with_funcs cells (map (old_func W) first.funcs)

    abbrev with_new : Entries
    with_new = with_funcs with_old (map (new_func W) second.funcs)

    abbrev with_wrappers : Entries
    with_wrappers = with_funcs with_new (map wrapper (filter (is_wrapped W) first.funcs))

    abbrev with_xform : Entries
    with_xform = with_funcs with_wrappers (map (xform_func W) xform.funcs)

    abbrev with_clients : Entries
    with_clients = with_funcs with_xform (map (client_func W) (client_funcs W))

    old_none : (n : Bytes) → global_named (merged_globals W) n ≡ None → ((f : Bytes) → bytes_eq (merged_name prefix.Old f) n ≡ false) → found with_old n ≡ None
    old_none n e a = funcs_none cells (map (old_func W) first.funcs) n (globals_none [] (merged_globals W) n refl e) (no_func_named (old_func W) first.funcs n (λ f. a f.name))

    new_none : (n : Bytes) → found with_old n ≡ None → ((f : Bytes) → bytes_eq (merged_name prefix.New f) n ≡ false) → found with_new n ≡ None
    new_none n e a = funcs_none with_old (map (new_func W) second.funcs) n e (no_func_named (new_func W) second.funcs n (λ f. a f.name))

    wrappers_none : (n : Bytes) → found with_new n ≡ None → ((f : Bytes) → bytes_eq (merged_name prefix.Any f) n ≡ false) → found with_wrappers n ≡ None
    wrappers_none n e a =
        funcs_none with_new (map wrapper (filter (is_wrapped W) first.funcs)) n e (no_func_named wrapper (filter (is_wrapped W) first.funcs) n (λ f. a f.name))

    xform_none : (n : Bytes) → found with_wrappers n ≡ None → ((f : Bytes) → bytes_eq (merged_name prefix.Xform f) n ≡ false) → found with_xform n ≡ None
    xform_none n e a = funcs_none with_wrappers (map (xform_func W) xform.funcs) n e (no_func_named (xform_func W) xform.funcs n (λ f. a f.name))

    client_none : (n : Bytes) → found with_xform n ≡ None → ((f : Bytes) → bytes_eq (merged_name prefix.Client f) n ≡ false) → found with_clients n ≡ None
    client_none n e a = funcs_none with_xform (map (client_func W) (client_funcs W)) n e (no_func_named (client_func W) (client_funcs W) n (λ f. a f.name))

    new_clients : (c : Option ClientProgram) → IsOptionalClient W c → AreNew [] (funcs_of_client c)
    new_clients None y = tt
    new_clients (Some c) y = y.new

    free_main : found with_clients main ≡ None
    free_main =
        client_none main (xform_none main (wrappers_none main (new_none main (old_none main (nowhere_cell W main) (λ f. refl)) (λ f. refl)) (λ f. refl)) (λ f. refl)) (λ f. refl)

    new_main : (c : Option ClientProgram) → found with_clients (merged_main W c).name ≡ None
    new_main None = free_main
    new_main (Some c) = free_main

    new_here : AreNew cells (merged_funcs W)
    new_here =
        new_append cells (map (old_func W) first.funcs) _
        (new_made (merged_name prefix.Old) (λ y z. refl) (old_func W) (λ f. refl) (with_globals [] first.globals) cells
        (λ y e. globals_none [] (merged_globals W) (merged_name prefix.Old y) refl (no_old_cell W y (no_global first.globals y e))) first.funcs h.new_funcs)
        (new_append with_old (map (new_func W) second.funcs) _
        (new_made (merged_name prefix.New) (λ y z. refl) (new_func W) (λ f. refl) (with_globals [] second.globals) with_old
        (λ y e. old_none (merged_name prefix.New y) (no_new_cell W y (no_global second.globals y e)) (λ f. refl)) second.funcs k.new_funcs)
        (new_append with_new (map wrapper (filter (is_wrapped W) first.funcs)) _
        (new_filtered (merged_name prefix.Any) (λ y z. refl) wrapper (λ f. refl) (is_wrapped W) (with_globals [] first.globals) with_new
        (λ y e. new_none (merged_name prefix.Any y) (old_none (merged_name prefix.Any y) (no_wrapper_cell W y) (λ f. refl)) (λ f. refl)) first.funcs h.new_funcs)
        (new_append with_wrappers (map (xform_func W) xform.funcs) _
        (new_made (merged_name prefix.Xform) (λ y z. refl) (xform_func W) (λ f. refl) [] with_wrappers
        (λ y e. wrappers_none (merged_name prefix.Xform y)
        (new_none (merged_name prefix.Xform y) (old_none (merged_name prefix.Xform y) (no_xform_cell W y) (λ f. refl)) (λ f. refl)) (λ f. refl)) xform.funcs x.new)
        (new_append with_xform (map (client_func W) (client_funcs W)) _
        (new_made (merged_name prefix.Client) (λ y z. refl) (client_func W) (λ f. refl) [] with_xform
        (λ y e. xform_none (merged_name prefix.Client y) (wrappers_none (merged_name prefix.Client y)
        (new_none (merged_name prefix.Client y) (old_none (merged_name prefix.Client y) (no_client_cell W y) (λ f. refl)) (λ f. refl)) (λ f. refl)) (λ f. refl))
        (client_funcs W) (new_clients W.client y))
        (new_main W.client, tt)))))

    -- ---- the whole

    started : has_main (merged_funcs W) ≡ true
    started =
        main_behind (map (old_func W) first.funcs) _ (main_behind (map (new_func W) second.funcs) _ (main_behind (map wrapper (filter (is_wrapped W) first.funcs)) _
        (main_behind (map (xform_func W) xform.funcs) _ (main_behind (map (client_func W) (client_funcs W)) (merged_main W W.client ∷ []) (alone W.client)))))
      where
        alone : (c : Option ClientProgram) → has_main (merged_main W c ∷ []) ≡ true
        alone None = refl
        alone (Some c) = refl

    pub merged_resolved : IsResolvedProgram unit.Merge (merged_program W)
    merged_resolved = record {
      new_globals = new_globals_merged W h.new_globals k.new_globals;
      globals = globals_merged W (first_outside W) (second_outside W) first_names second_names h.globals k.globals;
      cells = cells_merged W h.cells k.cells;
      protos = protos_typed (with_funcs [] (merged_funcs W)) [] (merged_funcs W) (λ y m e. e)
          (new_within cells [] (λ y e. refl) (merged_funcs W) new_here) (heads (merged_funcs W) funcs_here);
      new_funcs = new_here;
      funcs = funcs_here;
      main = started;
      early = refl;
    }
      where
        heads : (fs : List Func) → Each IsHere fs → Each (λ (f : Func). (length (kinds_of f.params) ≤ parameter_limit) × AreNarrow (kinds_of f.params)) fs
        heads [] e = tt
        heads (f ∷ fs) e = ((e.0.few, e.0.narrow), heads fs e.1)

    pub merged_is_typed : Types unit.Merge (plain (merged_program W))
    merged_is_typed = typed_plain unit.Merge (merged_program W) merged_resolved

    pub merged_is_resolved : resolved_program (plain (merged_program W)) ≡ merged_program W
    merged_is_resolved = resolved_back unit.Merge (merged_program W) merged_resolved
