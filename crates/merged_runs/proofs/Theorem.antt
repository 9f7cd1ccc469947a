-- The merged program of a world shows what its updating run shows.
use Rattle.std.proofs.Common.{◌≡◌, ℤ, ◌≤◌, Bool, true, false, if◌then◌else◌, List, [], ◌∷◌, ◌++◌, map, Option, Some, None, refl, sym, ap, ◌∙◌, subst, length, codes, ◌↔◌}
use Rattle.c_lang.specs.Names.{Bytes}
use Rattle.c_lang.specs.Limits.{parameter_limit}
use Rattle.c_lang.specs.Trees.{stmts_of}
use Rattle.c_lang.specs.Programs.{global_named, func_in, initial_value, shape_value}
use Rattle.c_lang.specs.declared.unit.Pos.{Pos}
use Rattle.c_lang.specs.declared.event.Event.{Event}
use Rattle.c_lang.specs.declared.stmt.Kind.TheVariants as kind
use Rattle.c_lang.specs.declared.stmt.Dest.{Dest}
use Rattle.c_lang.specs.declared.stmt.Dest.TheVariants.{Nowhere, Fresh}
use Rattle.c_lang.specs.declared.stmt.Stmt.{Stmt}
use Rattle.c_lang.specs.declared.stmt.Stmt.TheVariants as stmt
use Rattle.c_lang.specs.declared.program.Shape.{Shape}
use Rattle.c_lang.specs.declared.program.Shape.TheVariants as shape
use Rattle.c_lang.specs.declared.program.GlobalVar.{GlobalVar}
use Rattle.c_lang.specs.declared.program.Func.{Func}
use Rattle.c_lang.specs.declared.program.Program.{Program}
use Rattle.plain_run.specs.Moves.{Goes}
use Rattle.plain_run.specs.Steps as steps
use Rattle.plain_run.specs.Steps.{Does, Live}
use Rattle.plain_run.specs.PlainRun.{PlainFrame, PlainConfig, plain_access, dropped, step, start, Obs}
use Rattle.plain_run.proofs.Simulation.{Comes, silently, goes_once}
use Rattle.version_names.specs.Links.{is_shared_code}
use Rattle.version_names.specs.Version.{Version}
use Rattle.version_names.specs.Version as version
use Rattle.version_names.specs.Home.{Home, Linked}
use Rattle.version_names.specs.Home as home
use Rattle.version_names.specs.Provenance.{Provenance}
use Rattle.version_names.specs.Provenance as origin
use Rattle.client_specs.specs.Kept.{ClientProgram}
use Rattle.update_semantics.specs.UpdatingRun.{World, UpdFrame, funcs_of_client, client_funcs, function_meaning, code_of, updating_access, first_state, entry_code, start_updating, ObsU}
use Rattle.merged_program.specs.Names.{result_name, code_name}
use Rattle.merged_program.specs.Statements as merged
use Rattle.merged_program.specs.Programs.{starting, merged_main, merged_program}
use Rattle.merged_runs.proofs.MergedStatements.{return_zero, hand_on}
use Rattle.merged_runs.proofs.ClientCode.{FitItems}
use Rattle.merged_runs.proofs.Relation.{can_stand, IsEarly, MayName, SameFrame, Ends, R}
use Rattle.merged_runs.proofs.FrameLemmas.{IsMerged, same_entry}
use Rattle.merged_runs.proofs.CallLemmas.{HasFuncs, entered_early, MayCall, named_may}
use Rattle.merged_runs.proofs.Callable.{Good, good_bound, same_prefixes}
use Rattle.merged_runs.proofs.FunctionTable.{M, old-merged, client-merged, transform-merged, main-in}
use Rattle.merged_runs.proofs.Wrappers.{functions}
use Rattle.merged_runs.proofs.StartState.{start_store, same-start}

module _ (W : World) where
  abbrev P : Program
  P = merged_program W

  -- ---- the first step

  -- the function with which the run begins
  abbrev entry_linked : Option ClientProgram → Linked
  entry_linked None = (home.Old, codes "main")
  entry_linked (Some c) = (home.Client, c.spec)

  abbrev name : Bytes
  name = code_name (entry_linked W.client)

  abbrev entry : Provenance × Func
  entry = entry_code W W.client

  main_is : (c : Option ClientProgram) → merged_main W c ≡ starting (code_name (entry_linked c)) (entry_code W c).1
  main_is None = refl
  main_is (Some c) = refl

  -- it is what the current version's code has for it
  entry_is : (c : Option ClientProgram) → W.client ≡ c → code_of W version.Old (entry_linked c) ≡ entry_code W c
  entry_is None e = refl
  entry_is (Some c) e = ap (λ (o : Option ClientProgram). (origin.Client, func_in (funcs_of_client o) c.spec)) e

  entry_merged_by : (c : Option ClientProgram) → IsMerged (M W) (code_of W version.Old (entry_linked c)).0 (code_of W version.Old (entry_linked c)).1 (func_in P.funcs (code_name (entry_linked c)))
  entry_merged_by None = old-merged W (codes "main")
  entry_merged_by (Some c) = client-merged W c.spec

  entry_stands_by : (c : Option ClientProgram) → can_stand version.Old (entry_code W c).0 ≡ true
  entry_stands_by None = refl
  entry_stands_by (Some c) = refl

  entry_merged : IsMerged (M W) entry.0 entry.1 (func_in P.funcs name)
  entry_merged = subst (λ (k : Provenance × Func). IsMerged (M W) k.0 k.1 (func_in P.funcs name)) (entry_is W.client refl) (entry_merged_by W.client)

  abbrev at : Pos
  at = entry.1.pos

  abbrev main_func : Func
  main_func = starting name entry.1

  main_there : func_in P.funcs (codes "main") ≡ main_func
  main_there = main-in W ∙ main_is W.client

  -- the merged `main` behind its call
  abbrev waiting : Stmt → PlainFrame
  waiting s = record { origin = tt; locals = λ x. None; items = Does s ∷ []; dest = Nowhere; gives = true }

  abbrev begun : Dest → Stmt → PlainConfig
  begun d s = Live (start_store W) (steps.frame_of (plain_access P) (tt, func_in P.funcs name) [] d) (waiting s ∷ [])

  first-step : (d : Dest) (s : Stmt) → main_func.body ≡ stmt.Call at d name [] ∷ s ∷ [] → step P (start P) ≡ Goes [] (begun d s)
  first-step d s body =
      ap (λ f. step P (Live (start_store W) (steps.frame_of (plain_access P) (tt, f) [] Nowhere) [])) main_there
      ∙ ap (λ b. steps.next_item (plain_access P) (dropped P) (start_store W) (waiting s) [] (map Does b)) body
      ∙ ap (λ l. steps.act (plain_access P) (dropped P) (start_store W) (waiting s) [] (stmt.Call at d name []) l) (stmt.outs-Call at d name [])

  body-is : (b : Bool) → entry.1.gives ≡ b → main_func.body ≡ stmts_of (merged.hand at b name []) ++ (if b then [] else return_zero at ∷ [])
  body-is b e = ap (λ c. stmts_of (merged.hand at c name []) ++ (if c then [] else return_zero at ∷ [])) e

  abbrev first_frame : UpdFrame
  first_frame = steps.frame_of (updating_access W) entry [] Nowhere

  frames-start : (d : Dest) → SameFrame (M W) version.Old first_frame (steps.frame_of (plain_access P) (tt, func_in P.funcs name) [] d)
  frames-start d = same_entry (M W) version.Old entry.0 entry.1 (func_in P.funcs name) [] Nowhere d (entry_stands_by W.client) entry_merged

  begins-by : (b : Bool) → entry.1.gives ≡ b → (c : PlainConfig) × Comes (step P) (start P) c × R (M W) (start_updating W) c
  begins-by true e =
      let d = Fresh kind.Int result_name in (
        begun d (hand_on at),
        silently (step P) (start P) (begun d (hand_on at)) (goes_once (step P) (start P) (begun d (hand_on at)) [] (first-step d (hand_on at) (body-is true e))),
        (same-start W, frames-start d, subst (λ b. Ends (M W) b d (waiting (hand_on at))) (sym e) (refl, refl, (at, refl))),
      )
  begins-by false e = (
    begun Nowhere (return_zero at),
    silently (step P) (start P) (begun Nowhere (return_zero at)) (goes_once (step P) (start P) (begun Nowhere (return_zero at)) [] (first-step Nowhere (return_zero at) (body-is false e))),
    (same-start W, frames-start Nowhere, subst (λ b. Ends (M W) b Nowhere (waiting (return_zero at))) (sym e) (refl, (at, refl))),
  )

  -- ---- initial values

  module _ (main : is_shared_code W.first W.second (codes "main") ≡ true) (few : (f : Bytes) → length (func_in W.first.funcs f).params ≤ parameter_limit)
      (early : (f : Bytes) → FitItems (MayName W) (map Does (func_in (client_funcs W) f).body)) where
    abbrev funcs : HasFuncs (M W)
    funcs = functions W few main early

    module _ (now : Version) (o : Provenance) (stands : can_stand now o ≡ true) (late : IsEarly now o → ⊥) where
      shape-may : (s : Shape) → MayCall (M W) now (shape_value (function_meaning W o) s)
      shape-may (shape.Int z) = tt
      shape-may (shape.Arr zs) = tt
      shape-may (shape.Fp n None) = tt
      shape-may (shape.Fp n (Some f)) = named_may (M W) funcs now o f stands (λ (i : IsEarly now o). absurd (late i))

      initial-may : (g : Option GlobalVar) → MayCall (M W) now (initial_value (function_meaning W o) g)
      initial-may None = tt
      initial-may (Some g) = shape-may g.shape

    start-may : (h : Home) (x : Bytes) → MayCall (M W) version.Old ((first_state W).values h x)
    start-may home.Both x = initial-may version.Old origin.Old refl (λ i. i) (global_named W.first.globals x)
    start-may home.Old x = initial-may version.Old origin.Old refl (λ i. i) (global_named W.first.globals x)
    start-may home.New x = tt
    start-may home.Xform x = tt
    start-may home.Client x = tt
    start-may home.Unlinked x = tt

    -- the client's function may run before the swap
    entry_early : IsEarly version.Old entry.0 → FitItems (MayName W) (map Does entry.1.body)
    entry_early = subst (λ (k : Provenance × Func). IsEarly version.Old k.0 → FitItems (MayName W) (map Does k.1.body)) (entry_is W.client refl)
        (entered_early (M W) funcs version.Old (entry_linked W.client))

    start-good : Good (M W) funcs (start_updating W)
    start-good = (
      start-may,
      record { stands = entry_stands_by W.client; locals = good_bound (M W) funcs version.Old entry.1.params [] tt; early = entry_early },
      tt,
    )

    pub shows-the-same : (answers : List ℤ) (h : List Event) → Obs (merged_program W) answers h ↔ ObsU W answers h
    shows-the-same answers h =
        let begin = begins-by entry.1.gives refl in
        same_prefixes (M W) funcs (λ x. initial-may version.New origin.New refl (λ i. i) (global_named W.second.globals x)) (transform-merged W)
        (start_updating W) (start P) begin.0 begin.1 begin.2 start-good answers h
