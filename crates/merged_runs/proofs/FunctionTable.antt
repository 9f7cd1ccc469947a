-- The functions of a merged program are those of its parts.
use Rattle.std.proofs.Common.{◌≡◌, Bool, true, false, ◌&&◌, if◌then◌else◌, List, [], ◌∷◌, ◌++◌, Option, Some, None, unwrap_or, refl, sym, ap, ◌∙◌, subst, codes, inl, inr}
use Rattle.std.specs.Option.{option_map}
use Rattle.std.specs.Str.{bytes_eq}
use Rattle.c_lang.specs.Names.{Bytes}
use Rattle.c_lang.specs.Programs.{func_named, func_in, no_func}
use Rattle.c_lang.specs.declared.unit.Pos.{Pos}
use Rattle.c_lang.specs.declared.stmt.Stmt.{Stmt}
use Rattle.c_lang.specs.declared.program.Func.{Func}
use Rattle.c_types.specs.Bodies.{body_of}
use Rattle.c_types.specs.Endings.{can_end}
use Rattle.c_types.specs.Functions.{is_main}
use Rattle.version_names.specs.Links.{is_shared_code}
use Rattle.version_names.specs.Version.{Version}
use Rattle.version_names.specs.Home.{Home, Linked, same_home, same_linked}
use Rattle.version_names.specs.Home as home
use Rattle.version_names.specs.Provenance.{Provenance}
use Rattle.version_names.specs.Provenance as origin
use Rattle.update_semantics.specs.UpdatingRun.{World, client_funcs}
use Rattle.merged_program.specs.Names.{code_name, variable_name, function_name}
use Rattle.merged_program.specs.Programs.{ending, wrapper, merged_func, old_func, new_func, xform_func, client_func, merged_main, merged_funcs, merged_program}
use Rattle.merged_program.proofs.Lookups.{or_none}
use Rattle.merged_program.proofs.MergedTables.{table-is, wrapper-is}
use Rattle.merged_runs.proofs.MergedNaming.{merged_naming}
use Rattle.merged_runs.proofs.MergedStatements.{return_zero, bodies-merged}
use Rattle.merged_runs.proofs.Relation.{Merging, transform_function}
use Rattle.merged_runs.proofs.FrameLemmas.{IsBehind, IsMerged, HasTransform}
use Rattle.merged_runs.proofs.CallLemmas.{IsDirect}

module _ (W : World) where
  abbrev pub M : Merging
  M = record {
    world = W;
    variable_name = variable_name W;
    function_name = function_name W;
    value_name = code_name;
    naming = merged_naming W;
    program = merged_program W;
  }

  -- ---- functions of one part

  ending-behind : (b : Bool) (p : Pos) → IsBehind M (if b then return_zero p ∷ [] else [])
  ending-behind true p = inr (p, refl)
  ending-behind false p = inl refl

  merged-func : (o : Provenance) (name : Bytes) (behind : List Stmt) (f : Func) → IsBehind M behind → IsMerged M o f (merged_func W o name behind f)
  merged-func o name behind f h = record {
    params = refl;
    behind = behind;
    is_behind = h;
    body = ap (λ b. b ++ behind) (bodies-merged W.permits (variable_name W) (function_name W) o f.body);
    gives = refl;
  }

  no-func : (o : Provenance) → IsMerged M o no_func no_func
  no-func o = record { params = refl; behind = []; is_behind = inl refl; body = refl; gives = refl }

  by-option : (o : Provenance) (make : Func → Func) → ((f : Func) → IsMerged M o f (make f)) → (a : Option Func)
      → IsMerged M o (unwrap_or a no_func) (unwrap_or (option_map make a) no_func)
  by-option o make h (Some f) = h f
  by-option o make h None = no-func o

  -- what the table has for a name of one part
  in-table : (o : Provenance) (make : Func → Func) (fs : List Func) (k : Linked) → ((f : Func) → IsMerged M o f (make f))
      → func_named (merged_funcs W) (code_name k) ≡ option_map make (func_named fs k.1) → IsMerged M o (func_in fs k.1) (func_in (merged_funcs W) (code_name k))
  in-table o make fs k h e =
      subst (λ a. IsMerged M o (func_in fs k.1) (unwrap_or a no_func)) (sym e) (by-option o make h (func_named fs k.1))

  pub old-merged : (f : Bytes) → IsMerged M origin.Old (func_in W.first.funcs f) (func_in (merged_funcs W) (code_name (home.Old, f)))
  old-merged f = in-table origin.Old (old_func W) W.first.funcs (home.Old, f)
      (λ d. merged-func origin.Old _ (ending d) d (ending-behind (is_main d.name && can_end (body_of d.body)) d.pos))
      (table-is W (home.Old, f) ∙ or_none (option_map (old_func W) (func_named W.first.funcs f)))

  pub new-merged : (f : Bytes) → IsMerged M origin.New (func_in W.second.funcs f) (func_in (merged_funcs W) (code_name (home.New, f)))
  new-merged f = in-table origin.New (new_func W) W.second.funcs (home.New, f)
      (λ d. merged-func origin.New _ (ending d) d (ending-behind (is_main d.name && can_end (body_of d.body)) d.pos))
      (table-is W (home.New, f) ∙ or_none (option_map (new_func W) (func_named W.second.funcs f)))

  pub xform-merged : (f : Bytes) → IsMerged M origin.Xform (func_in W.xform.funcs f) (func_in (merged_funcs W) (code_name (home.Xform, f)))
  xform-merged f = in-table origin.Xform (xform_func W) W.xform.funcs (home.Xform, f)
      (λ d. merged-func origin.Xform _ [] d (inl refl))
      (table-is W (home.Xform, f) ∙ or_none (option_map (xform_func W) (func_named W.xform.funcs f)))

  pub client-merged : (f : Bytes) → IsMerged M origin.Client (func_in (client_funcs W) f) (func_in (merged_funcs W) (code_name (home.Client, f)))
  client-merged f = in-table origin.Client (client_func W) (client_funcs W) (home.Client, f)
      (λ d. merged-func origin.Client _ [] d (inl refl))
      (table-is W (home.Client, f) ∙ or_none (option_map (client_func W) (func_named (client_funcs W) f)))

  pub transform-merged : HasTransform M
  transform-merged = record { merged = xform-merged transform_function }

  -- ---- the rest

  -- a name that is linked nowhere is no function's, but for `main`
  pub none-named : (now : Version) (f : Bytes) → bytes_eq (codes "main") f ≡ false → IsDirect M now (home.Unlinked, f)
  none-named now f h = subst (λ a. IsMerged M origin.Old no_func (unwrap_or a no_func))
      (sym (table-is W (home.Unlinked, f) ∙ ap (λ b. if b then Some (merged_main W W.client) else None) h)) (no-func origin.Old)

  pub main-in : func_in (merged_funcs W) (codes "main") ≡ merged_main W W.client
  main-in = ap (λ a. unwrap_or a no_func) (table-is W (home.Unlinked, codes "main"))

  -- the wrapper of a shared function
  pub wrapper-in : (f : Bytes) → is_shared_code W.first W.second f ≡ true → func_named (merged_funcs W) (code_name (home.Both, f)) ≡ option_map wrapper (func_named W.first.funcs f)
  wrapper-in f shared = table-is W (home.Both, f) ∙ wrapper-is W f shared
