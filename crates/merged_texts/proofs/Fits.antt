-- The merged program of a world fits, and so it can be printed.
use Rattle.std.specs.Prelude.{◌≡◌, ◌≤◌, Bool, true, false, cond, bytes_eq, List, [], ◌∷◌, map, All, Option, Some, None}
use Rattle.std.proofs.Common.{refl, sym, ap, ◌∙◌, subst, arith}
use Rattle.std.proofs.lemmas.List.Elements.{All-nil, All-cons, All-head, All-tail}
use Rattle.std.proofs.lemmas.Slice.Eq.{bytes_eq-Decides}
use Rattle.c_lang.specs.Limits.{cell_limit}
use Rattle.c_lang.specs.Programs.{func_named}
use Rattle.c_lang.specs.declared.unit.Unit.{Unit}
use Rattle.c_lang.specs.declared.unit.Unit.TheVariants.{Old, New, Xform, Client, Merge, Hints, Certs}
use Rattle.c_lang.specs.declared.program.Func.{Func}
use Rattle.c_lang.specs.declared.program.Program.{Program}
use Rattle.c_types.specs.Functions.{scope_of}
use Rattle.c_types.specs.Kept.{TypedProgram, IsKept}
use Rattle.c_types.specs.Names.{Entries}
use Rattle.c_types.specs.Plain.{PlainProgram, plain_func, built_func, plain}
use Rattle.c_types.specs.Programs.{with_func, with_globals, outside_of, resolved_program}
use Rattle.c_types.specs.Types.{AreTypedFuncs}
use Rattle.c_types.proofs.PlainLaws.{plain_resolved_program}
use Rattle.version_names.specs.Parts.{Parts, part_of}
use Rattle.state_xform.specs.Kept.{IsTransformerOf}
use Rattle.state_xform.specs.Refusals.{resolved_transformer}
use Rattle.state_xform.specs.Transformers.{AreOwnFuncs}
use Rattle.state_xform.specs.Visible.{visible}
use Rattle.client_specs.specs.Clients as client
use Rattle.client_specs.specs.Clients.{is_spec}
use Rattle.client_specs.specs.Kept.{ClientProgram, IsClientOf}
use Rattle.client_specs.specs.Starts.{start}
use Rattle.update_semantics.specs.UpdatingRun as run
use Rattle.update_semantics.specs.Worlds.{World, IsOptionalClient, IsWorld, world_of}
use Rattle.merged_program.specs.Programs.{merged_funcs, merged_program}
use Rattle.merge_printer.specs.Printable.{IsPrintable}
use Rattle.merge_printer.proofs.PlainLaw.{all_built}
use Rattle.merge_printer.proofs.PrintLaw.{both}
use Rattle.merge_printer.proofs.ProgramLaw.{ProgramFits}
use Rattle.written_laws.specs.Sources.{IsSource}
use Rattle.written_laws.proofs.ProgramFits.{FuncFits, written_fits}
use Rattle.merged_texts.proofs.FunctionFits.{IsGoodFunc, good_source, good_funcs, HasGoodFuncs, funcs_read, protos_fit, read_back}
use Rattle.merged_texts.proofs.GlobalFits.{IsGoodGlobal, all_cells, typed_cells, good_globals, HasGoodGlobals, globals_fit}
use Rattle.merged_texts.proofs.NameFits.{InWord, name_in_word}
use Rattle.merged_texts.proofs.Printing.{prints}
use Rattle.merged_texts.proofs.TransformerForms.{plain_transformer}
use Rattle.merged_texts.proofs.SpelledForms.{spelled_good}
use Rattle.merged_texts.proofs.ClientForms.{unspelled, client_spelled, plain_client}
use Rattle.merged_texts.proofs.ClientNames.{picks_see}
use Rattle.merged_texts.proofs.WorldParts.{old_source, new_source, world_low, world_positions}

-- ---- what fits

program_fits : (W : run.World) → HasGoodGlobals W → HasGoodFuncs W → ProgramFits (plain (merged_program W))
program_fits W globals funcs =
    let fs = merged_funcs W in
    let read = funcs_read W funcs in
    record {
      early = refl;
      globals = globals_fit W globals;
      protos = protos_fit fs read;
      funcs = both (map built_func (map plain_func fs)) (read_back fs read) (all_built fs);
    }

-- ---- the functions of a part

typed_good : (u : Unit) (outside : Entries) (xform : Bool) (seen : Entries) (fs : List Func) → All (FuncFits u) fs → AreTypedFuncs outside xform seen fs → All IsGoodFunc fs
typed_good u outside xform seen [] h typed = All-nil IsGoodFunc
typed_good u outside xform seen (f ∷ fs) h typed =
    All-cons IsGoodFunc f fs (good_source u (scope_of outside xform f.gives) f refl tt (All-head (FuncFits u) f fs h) typed.1) (typed_good u outside xform (with_func seen f) fs (All-tail (FuncFits u) f fs h) typed.2)

own_good : (u : Unit) (parts : Parts) (outside seen : Entries) (fs : List Func) → All (FuncFits u) fs → AreOwnFuncs parts outside seen fs → All IsGoodFunc fs
own_good u parts outside seen [] h typed = All-nil IsGoodFunc
own_good u parts outside seen (f ∷ fs) h typed =
    All-cons IsGoodFunc f fs (good_source u (scope_of outside true f.gives) f refl tt (All-head (FuncFits u) f fs h) typed.1) (own_good u parts outside (with_func seen f) fs (All-tail (FuncFits u) f fs h) typed.2)

source_cells : (u : Unit) → IsSource u → cell_limit u ≡ 1048576
source_cells Old h = refl
source_cells New h = refl
source_cells Xform h = refl
source_cells Client h = refl
source_cells Merge h = absurd h
source_cells Hints h = absurd h
source_cells Certs h = absurd h

-- a version
module _ (kept : TypedProgram) (source : IsSource kept.unit) (h : IsKept kept) where
  of_resolved : (Q : Program → Type 0) → Q (resolved_program h.source) → Q kept.program
  of_resolved Q q = subst Q (sym h.resolved) q

  version_funcs : All IsGoodFunc kept.program.funcs
  version_funcs =
      let p = h.source in
      let good = typed_good kept.unit (outside_of p.globals p.funcs) false (with_globals [] p.globals) p.funcs (written_fits kept.unit p h.written).funcs h.typed.funcs in
      of_resolved (λ P. All IsGoodFunc P.funcs) (good_funcs (resolved_program p).funcs p.funcs (ap (λ (Q : PlainProgram). Q.funcs) (plain_resolved_program kept.unit p h.typed)) good)

  version_globals : All IsGoodGlobal kept.program.globals
  version_globals =
      let p = h.source in
      of_resolved (λ P. All IsGoodGlobal P.globals) (good_globals kept.unit (outside_of p.globals p.funcs) [] (cell_limit kept.unit) p.globals (written_fits kept.unit p h.written).globals h.typed.globals)

  version_cells : all_cells kept.program.globals ≤ 1048576
  version_cells =
      let p = h.source in
      let cells = typed_cells (outside_of p.globals p.funcs) [] (cell_limit kept.unit) p.globals h.typed.globals in
      of_resolved (λ P. all_cells P.globals ≤ 1048576) (omega (arith, cells, source_cells kept.unit source))

-- a transformer
transformer_funcs : (first second kept : Program) → IsTransformerOf first second kept → All IsGoodFunc kept.funcs
transformer_funcs first second kept h =
    let p = h.source in
    let parts = part_of first second in
    let good = own_good Xform parts (visible parts first second p) [] p.funcs (written_fits Xform p h.written).funcs h.transformer.funcs in
    subst (λ (P : Program). All IsGoodFunc P.funcs) (sym h.resolved)
    (good_funcs (resolved_transformer parts first second p).funcs p.funcs (ap (λ (Q : PlainProgram). Q.funcs) (plain_transformer first second p h.transformer)) good)

-- a client
module _ (first second : Program) (kept : ClientProgram) (h : IsClientOf first second kept) where
  abbrev parts : Parts
  parts = part_of first second

  client_good : (seen : Entries) (fs : List Func) → All (FuncFits Client) fs → client.AreOwnFuncs parts first second h.source kept.spec seen fs → All IsGoodFunc fs
  client_good seen [] fits typed = All-nil IsGoodFunc
  client_good seen (f ∷ fs) fits typed =
      All-cons IsGoodFunc f fs
      (good_source Client (start parts first second h.source kept.spec f) f refl (picks_see parts first second h.source kept.spec h.client.globals) (All-head (FuncFits Client) f fs fits) typed.1)
      (client_good (with_func seen f) fs (All-tail (FuncFits Client) f fs fits) typed.2)

  source_good : All IsGoodFunc h.source.funcs
  source_good = client_good [] h.source.funcs (written_fits Client h.source h.written).funcs h.client.funcs

  client_funcs : All IsGoodFunc kept.program.funcs
  client_funcs =
      let before = unspelled parts first second h.source kept.spec in
      let plain = ap (λ (Q : PlainProgram). Q.funcs) (plain_client parts first second h.source kept.spec h.client.funcs) in
      subst (λ (fs : List Func). All IsGoodFunc fs) (sym (ap (λ (P : Program). P.funcs) h.resolved ∙ client_spelled parts first second h.source kept.spec))
      (spelled_good parts before.funcs (good_funcs before.funcs h.source.funcs plain source_good))

  -- a run begins with a function of the client
  named_in_word : (fs : List Func) → All IsGoodFunc fs → is_spec kept.spec (func_named fs kept.spec) ≡ true → InWord kept.spec
  named_in_word [] good named = absurd cc
  named_in_word (f ∷ fs) good named = by_test (bytes_eq f.name kept.spec) refl named (named_in_word fs (All-tail IsGoodFunc f fs good))
    where
      by_test : (b : Bool) → bytes_eq f.name kept.spec ≡ b → is_spec kept.spec (cond b (Some f) (func_named fs kept.spec)) ≡ true
          → (is_spec kept.spec (func_named fs kept.spec) ≡ true → InWord kept.spec) → InWord kept.spec
      by_test true e h rest = subst InWord ((bytes_eq-Decides f.name kept.spec).0 e) (name_in_word f.name (All-head IsGoodFunc f fs good).name)
      by_test false e h rest = rest h

  spec_in_word : InWord kept.spec
  spec_in_word = named_in_word h.source.funcs source_good h.client.named

module _ (first second : Program) where
  optional_funcs : (c : Option ClientProgram) → IsOptionalClient first second c → All IsGoodFunc (run.funcs_of_client c)
  optional_funcs None h = All-nil IsGoodFunc
  optional_funcs (Some c) h = client_funcs first second c h

  optional_entry : (o : Option ClientProgram) → IsOptionalClient first second o → (c : ClientProgram) → o ≡ Some c → InWord c.spec
  optional_entry o h c is = spec_in_word first second c (subst (IsOptionalClient first second) is h)

-- ---- worlds

module _ (w : World) (h : IsWorld w) where
  has_globals : HasGoodGlobals (world_of w)
  has_globals = record {
    first = version_globals w.old_prog (old_source w h) h.old_kept;
    first_cells = version_cells w.old_prog (old_source w h) h.old_kept;
    second = version_globals w.new_prog (new_source w h) h.new_kept;
    second_cells = version_cells w.new_prog (new_source w h) h.new_kept;
  }

  has_funcs : HasGoodFuncs (world_of w)
  has_funcs = record {
    first = version_funcs w.old_prog (old_source w h) h.old_kept;
    second = version_funcs w.new_prog (new_source w h) h.new_kept;
    xform = transformer_funcs w.old_prog.program w.new_prog.program w.xform h.transformer;
    client = optional_funcs w.old_prog.program w.new_prog.program w.client h.client;
    entry = optional_entry w.old_prog.program w.new_prog.program w.client h.client;
  }

  pub world_fits : ProgramFits (plain (merged_program (world_of w)))
  world_fits = program_fits (world_of w) has_globals has_funcs

  pub world_prints : IsPrintable (plain (merged_program (world_of w)))
  world_prints = prints (merged_program (world_of w)) world_fits (world_positions w h) (world_low w h)
