-- What follows from how a world's client was made.
use Rattle.std.proofs.Common.{◌≡◌, true, false, List, [], Some, sym, ap, ◌∙◌, subst}
use Rattle.c_lang.specs.Names.{Bytes}
use Rattle.c_lang.specs.declared.unit.Unit.TheVariants as unit
use Rattle.c_lang.specs.declared.program.Func.{Func}
use Rattle.c_lang.specs.declared.program.Program.{Program}
use Rattle.c_types.specs.Functions.{is_main}
use Rattle.c_types.specs.Scopes.{names_version}
use Rattle.version_names.specs.Links.{code_part}
use Rattle.version_names.specs.Version as version
use Rattle.version_names.specs.Home.{same_home}
use Rattle.version_names.specs.Home as home
use Rattle.version_names.specs.Parts.{Parts, part_of}
use Rattle.version_names.specs.declared.part.Version.TheVariants as v
use Rattle.version_names.specs.declared.part.Sort2.TheVariants as sort
use Rattle.client_specs.specs.Kept.{ClientProgram, IsClientOf}
use Rattle.client_specs.specs.Refusals.{resolved_own}
use Rattle.update_semantics.specs.UpdatingRun.{World, funcs_of_client}
use Rattle.written_laws.proofs.WrittenLaws.{words}
use Rattle.merged_program.proofs.MainLaws.{AreNew}
use Rattle.merged_types.proofs.PlainPrograms.{Each, IsResolvedProgram}
use Rattle.merged_types.proofs.PlainWords.{client_refuses, no_plain_func}
use Rattle.merged_types.proofs.ClientFuncs.{HasSpec, own_new, resolved_new, no_main, spec_found}
use Rattle.merged_types.proofs.ClientNames.{ClientSees, main_there}

module _ (W : World) (c : ClientProgram) (here : W.client ≡ Some c) (of : IsClientOf W.first W.second c)
    (first : IsResolvedProgram unit.Old W.first) (second : IsResolvedProgram unit.New W.second)
    (plain_codes : (x : Bytes) → names_version x ≡ true → same_home (code_part W.first W.second version.Old x) home.Both ≡ false) where
  abbrev parts : Parts
  parts = part_of W.first W.second

  client_funcs : c.program.funcs ≡ resolved_own parts W.first W.second of.source c.spec of.source.funcs
  client_funcs = ap (λ (p : Program). p.funcs) of.resolved

  pub client_sees : ClientSees W c.spec of.source
  client_sees = record {
    first = first;
    second = second;
    plain_codes = plain_codes;
    plain_own = no_plain_func unit.Client client_refuses of.source.funcs (words unit.Client of.source of.written).funcs;
    globals = of.client.globals;
    own = of.client.funcs;
    resolved = ap funcs_of_client here ∙ client_funcs;
  }

  pub client_new : AreNew [] c.program.funcs
  client_new =
      subst (λ (fs : List Func). AreNew [] fs) (sym client_funcs)
      (resolved_new parts W.first W.second of.source c.spec [] of.source.funcs (own_new parts W.first W.second of.source c.spec [] of.source.funcs of.client.funcs))

  -- a version has `main`, so no client does
  pub client_no_main : Each (λ (f : Func). is_main f.name ≡ false) c.program.funcs
  client_no_main =
      subst (λ (fs : List Func). Each (λ (f : Func). is_main f.name ≡ false) fs) (sym client_funcs)
      (no_main parts W.first W.second of.source c.spec v.Old sort.Code (main_there W c.spec of.source client_sees) [] of.source.funcs of.client.funcs)

  pub client_spec : HasSpec c.spec c.program.funcs
  client_spec = subst (λ (fs : List Func). HasSpec c.spec fs) (sym client_funcs) (spec_found parts W.first W.second of.source c.spec of.source.funcs of.client.named)
