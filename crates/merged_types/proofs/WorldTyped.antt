-- The merged program of a world is typed in its plain form, and the resolved form of it.
use Rattle.std.proofs.Common.{◌≡◌, Bool, true, false, if◌then◌else◌, List, [], ◌∷◌, Option, Some, None, is_some, refl, sym, ap, ap₂, ◌∙◌, subst, codes}
use Rattle.std.specs.Option.{option_map}
use Rattle.c_lang.specs.Names.{Bytes}
use Rattle.c_lang.specs.Programs.{global_named, func_named}
use Rattle.c_lang.specs.declared.unit.Unit.{Unit}
use Rattle.c_lang.specs.declared.unit.Unit.TheVariants as unit
use Rattle.c_lang.specs.declared.program.GlobalVar.{GlobalVar}
use Rattle.c_lang.specs.declared.program.Func.{Func}
use Rattle.c_lang.specs.declared.program.Program.{Program}
use Rattle.c_types.specs.Names.{Entries}
use Rattle.c_types.specs.Scopes.{names_version}
use Rattle.c_types.specs.Functions.{is_main, resolved_from, resolved_func}
use Rattle.c_types.specs.Kept.{TypedProgram, IsKept}
use Rattle.c_types.specs.Plain.{plain}
use Rattle.c_types.specs.Programs.{with_func, outside_of, resolved_funcs, resolved_program}
use Rattle.c_types.specs.Types.{Types}
use Rattle.version_names.specs.Links as links
use Rattle.version_names.specs.Links.{is_shared_cell, is_shared_code}
use Rattle.version_names.specs.Version as version
use Rattle.version_names.specs.Home.{same_home}
use Rattle.version_names.specs.Home as home
use Rattle.version_names.specs.Provenance as origin
use Rattle.version_names.specs.Parts.{Parts, part_at, part_of}
use Rattle.version_names.specs.declared.part.Version.TheVariants as v
use Rattle.version_names.specs.declared.part.Part.TheVariants as part
use Rattle.version_names.specs.declared.part.Sort2.TheVariants as sort
use Rattle.state_xform.specs.Kept.{IsTransformerOf}
use Rattle.state_xform.specs.Transformers.{start_name, is_start, AreOwnFuncs}
use Rattle.state_xform.specs.Visible.{visible}
use Rattle.client_specs.specs.declared.region.Region.{Region}
use Rattle.client_specs.specs.declared.region.Region.TheVariants.{Here, Behind, After, Before}
use Rattle.client_specs.specs.declared.kind.ClientKind.{ClientKind}
use Rattle.client_specs.specs.declared.kind.ClientKind.TheVariants.{Backward, Post, Conform}
use Rattle.client_specs.specs.Clients as clients
use Rattle.client_specs.specs.Kept.{ClientProgram, IsClientOf}
use Rattle.client_specs.specs.Kinds.{checked_kind}
use Rattle.client_specs.specs.Refusals.{resolved_own}
use Rattle.client_specs.specs.Starts.{is_forcing, picks_in, forced_in, start}
use Rattle.client_specs.specs.Visible as regions
use Rattle.update_semantics.specs.Worlds.{World, IsWorld, world_of}
use Rattle.update_semantics.specs.Worlds as given
use Rattle.update_semantics.specs.UpdatingRun as run
use Rattle.update_semantics.specs.UpdatingRun.{funcs_of_client}
use Rattle.written_laws.specs.SourceNames.{NamesAreWords}
use Rattle.written_laws.proofs.WrittenLaws.{words}
use Rattle.merged_program.specs.Names.{variable_name, function_name}
use Rattle.merged_program.specs.Programs.{merged_program}
use Rattle.merged_program.proofs.MergedNames.{by_bool, true_false, same_names}
use Rattle.merged_program.proofs.MainLaws.{AreNew, resolved_named}
use Rattle.merged_types.proofs.MergedNaming.{merged_naming}
use Rattle.merged_types.proofs.CarriedScopes.{Renaming, IsSeen, SeesBehind, SeesPicks}
use Rattle.merged_types.proofs.ResolvedFuncs.{IsResolvedFunc, source_resolved, func_resolved}
use Rattle.merged_types.proofs.MergedFuncs.{R, start_carried}
use Rattle.merged_types.proofs.PlainPrograms.{Each, IsResolvedProgram}
use Rattle.merged_types.proofs.NewNames.{main_named}
use Rattle.merged_types.proofs.SourcePrograms.{source_program}
use Rattle.merged_types.proofs.VersionNames.{merged_outside}
use Rattle.merged_types.proofs.TransformerNames as in_xform
use Rattle.merged_types.proofs.TransformerNames.{main_shared, transformer_names}
use Rattle.merged_types.proofs.PlainWords.{old_refuses, no_plain_global, no_plain_func}
use Rattle.merged_types.proofs.ClientNames.{ClientSees, client_names}
use Rattle.merged_types.proofs.ClientParts.{client_sees, client_new, client_no_main, client_spec}
use Rattle.merged_types.proofs.QuietPicks.{IsQuiet, written_quiet}
use Rattle.merged_types.proofs.MergedTyped.{IsResolvedTransformer, IsClientFunc, IsResolvedClient, IsOptionalClient, merged_is_typed, merged_is_resolved}

-- ---- versions

kept_typed : (t : TypedProgram) (u : Unit) → t.unit ≡ u → IsKept t → IsResolvedProgram u t.program
kept_typed t u e h =
    subst (λ (p : Program). IsResolvedProgram u p) (sym h.resolved) (subst (λ (w : Unit). IsResolvedProgram w (resolved_program h.source)) e (source_program t.unit h.source h.typed))

-- ---- the transformer's functions

new_resolved : (outside seen : Entries) (fs : List Func) → AreNew seen fs → AreNew seen (resolved_funcs outside true fs)
new_resolved outside seen [] h = tt
new_resolved outside seen (f ∷ fs) h = (h.0, new_resolved outside (with_func seen f) fs h.1)

same_start : (outside : Entries) (o : Option Func) → is_start (option_map (resolved_func outside true) o) ≡ is_start o
same_start outside None = refl
same_start outside (Some f) = refl

started : (outside : Entries) (fs : List Func) → is_start (func_named fs start_name) ≡ true → is_start (func_named (resolved_funcs outside true fs) (codes "dsu_transform")) ≡ true
unfolding start_name
started outside fs h = ap is_start (resolved_named outside true fs (codes "dsu_transform")) ∙ same_start outside (func_named fs (codes "dsu_transform")) ∙ h

module _ (w : World) (h : IsWorld w) where
  abbrev W : run.World
  W = world_of w

  abbrev old : Program
  old = w.old_prog.program

  abbrev new : Program
  new = w.new_prog.program

  abbrev parts : Parts
  parts = part_of old new

  -- ---- versions

  first : IsResolvedProgram unit.Old old
  first = kept_typed w.old_prog unit.Old h.old_unit h.old_kept

  second : IsResolvedProgram unit.New new
  second = kept_typed w.new_prog unit.New h.new_unit h.new_kept

  abbrev source : Program
  source = h.old_kept.source

  written : NamesAreWords unit.Old source
  written = subst (λ (u : Unit). NamesAreWords u source) h.old_unit (words w.old_prog.unit source h.old_kept.written)

  no_global : (x : Bytes) → names_version x ≡ true → global_named old.globals x ≡ None
  no_global x k = ap (λ (p : Program). global_named p.globals x) h.old_kept.resolved ∙ no_plain_global unit.Old old_refuses source.globals written.globals x k

  no_func : (x : Bytes) → names_version x ≡ true → func_named old.funcs x ≡ None
  no_func x k =
      let outside = outside_of source.globals source.funcs in
      ap (λ (p : Program). func_named p.funcs x) h.old_kept.resolved ∙ resolved_named outside false source.funcs x
      ∙ ap (option_map (resolved_func outside false)) (no_plain_func unit.Old old_refuses source.funcs written.funcs x k)

  plain_cells : (x : Bytes) → names_version x ≡ true → same_home (links.cell_part old new version.Old x) home.Both ≡ false
  plain_cells x k = ap (λ (o : Option GlobalVar). same_home (links.part version.Old (is_some o) (is_shared_cell old new x)) home.Both) (no_global x k)

  plain_codes : (x : Bytes) → names_version x ≡ true → same_home (links.code_part old new version.Old x) home.Both ≡ false
  plain_codes x k = ap (λ (o : Option Func). same_home (links.part version.Old (is_some o) (is_shared_code old new x)) home.Both) (no_func x k)

  -- ---- the transformer

  abbrev of : IsTransformerOf old new w.xform
  of = h.transformer

  abbrev seen : Entries
  seen = visible parts old new of.source

  xform_funcs : w.xform.funcs ≡ resolved_funcs seen true of.source.funcs
  xform_funcs = ap (λ (p : Program). p.funcs) of.resolved

  sees : in_xform.SeesVersions W of.source
  sees = record {
    first = first;
    second = second;
    plain_cells = plain_cells;
    plain_codes = plain_codes;
    globals = of.transformer.globals;
    own = of.transformer.funcs;
    resolved = xform_funcs;
  }

  -- a version has `main`, so no transformer does
  main_here : parts v.Old sort.Code (codes "main") ≡ Some part.Both
  main_here = ap₂ (λ (a s : Bool). part_at (links.part version.Old a s)) (main_named old.funcs first.main) (main_shared W of.source sees)

  own_resolved : (known : Entries) (fs : List Func) → AreOwnFuncs parts seen known fs
      → Each (λ (f : Func). IsResolvedFunc seen true f × (is_main f.name ≡ false)) (resolved_funcs seen true fs)
  own_resolved known [] k = tt
  own_resolved known (f ∷ fs) k = (
    (
      func_resolved seen true f k.1,
      by_bool (is_main f.name)
          (λ e. absurd (true_false (sym (ap is_some (ap (parts v.Old sort.Code) (same_names f.name (codes "main") e) ∙ main_here)) ∙ ap is_some (k.0.free v.Old sort.Code))))
          (λ e. e),
    ),
    own_resolved (with_func known f) fs k.2,
  )

  transformer : IsResolvedTransformer W
  transformer = record {
    outside = seen;
    names = transformer_names W of.source sees;
    new = subst (λ (fs : List Func). AreNew [] fs) (sym xform_funcs)
        (new_resolved seen [] of.source.funcs (in_xform.own_new parts seen [] of.source.funcs of.transformer.funcs));
    funcs = subst (λ (fs : List Func). Each (λ (f : Func). IsResolvedFunc seen true f × (is_main f.name ≡ false)) fs) (sym xform_funcs)
        (own_resolved [] of.source.funcs of.transformer.funcs);
    start = subst (λ (fs : List Func). is_start (func_named fs (codes "dsu_transform")) ≡ true) (sym xform_funcs) (started seen of.source.funcs of.transformer.start);
  }

  -- ---- the client

  module _ (c : ClientProgram) (is : w.client ≡ Some c) (made : IsClientOf old new c) where
    abbrev text : Program
    text = made.source

    funcs_are : c.program.funcs ≡ resolved_own parts old new text c.spec text.funcs
    funcs_are = ap (λ (p : Program). p.funcs) made.resolved

    abbrev sees_client : ClientSees W c.spec text
    sees_client = client_sees W c is made first second plain_codes

    abbrev names : Renaming
    names = R W.permits (variable_name W) (function_name W) origin.Client (merged_naming W origin.Client) parts

    abbrev outside : Entries
    outside = merged_outside W

    abbrev seen_in : Region → Entries
    seen_in r = regions.visible parts r old new text

    sees_behind : (b : Bool) → SeesBehind names (if b then Some (seen_in Behind) else None) outside
    sees_behind true = client_names W c.spec text sees_client Behind
    sees_behind false = tt

    sees_picks : (k : ClientKind) → SeesPicks names (picks_in k (seen_in After) (seen_in Before)) outside
    sees_picks Backward = tt
    sees_picks Post = tt
    sees_picks Conform = (client_names W c.spec text sees_client After, client_names W c.spec text sees_client Before)

    all_seen : (x : Bytes) → IsSeen names Here (seen_in Here) (forced_in parts old new text c.spec x) (picks_in (checked_kind c.spec) (seen_in After) (seen_in Before)) outside
    all_seen x = record {
      here = client_names W c.spec text sees_client Here;
      behind = sees_behind (is_forcing (checked_kind c.spec) c.spec x);
      picks = sees_picks (checked_kind c.spec);
    }

    client_funcs : (known : Entries) (fs : List Func) → clients.AreOwnFuncs parts old new text c.spec known fs → Each IsQuiet fs
        → Each (λ (f : Func). is_main f.name ≡ false) (resolved_own parts old new text c.spec fs) → Each (IsClientFunc W) (resolved_own parts old new text c.spec fs)
    client_funcs known [] k quiet apart = tt
    client_funcs known (f ∷ fs) k quiet apart = (
      record {
        own = resolved_from (start parts old new text c.spec f) f;
        spelled = refl;
        begins = start parts old new text c.spec f;
        resolved = source_resolved (start parts old new text c.spec f) f quiet.0 k.1;
        carried = start_carried W.permits (variable_name W) (function_name W) origin.Client (merged_naming W origin.Client) parts (seen_in Here)
            (forced_in parts old new text c.spec f.name) (picks_in (checked_kind c.spec) (seen_in After) (seen_in Before)) f.gives false outside (all_seen f.name);
        no_main = apart.0;
      },
      client_funcs (with_func known f) fs k.2 quiet.1 apart.1,
    )

    resolved_client : IsResolvedClient W c
    resolved_client =
        let entry = client_spec W c is made first second plain_codes in
        record {
          new = client_new W c is made first second plain_codes;
          funcs = subst (λ (fs : List Func). Each (IsClientFunc W) fs) (sym funcs_are)
              (client_funcs [] text.funcs made.client.funcs (written_quiet unit.Client text made.written)
              (subst (λ (fs : List Func). Each (λ (f : Func). is_main f.name ≡ false) fs) funcs_are (client_no_main W c is made first second plain_codes)));
          entry = entry.func;
          named = entry.named;
          empty = entry.params;
        }

  client_by : (o : Option ClientProgram) → w.client ≡ o → given.IsOptionalClient old new o → IsOptionalClient W o
  client_by None is k = tt
  client_by (Some c) is k = resolved_client c is k

  -- ---- the whole

  pub world_typed : let P = merged_program W in Types unit.Merge (plain P) × (resolved_program (plain P) ≡ P)
  world_typed =
      let optional = client_by w.client refl h.client in
      (merged_is_typed W first second transformer optional, merged_is_resolved W first second transformer optional)
