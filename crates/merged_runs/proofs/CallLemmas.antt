-- The functions of the merged program: those of one part, and the wrappers of shared ones.
use Rattle.std.proofs.Common.{◌≡◌, pos, Bool, true, false, is_some, if◌then◌else◌, List, [], ◌∷◌, map, Option, Some, None, Ok, refl, sym, ap, ap₂, ◌∙◌, length, arith}
use Rattle.std.specs.Str.{bytes_eq}
use Rattle.std.proofs.lemmas.Slice.Eq.{bytes_eq-Decides}
use Rattle.c_lang.specs.Names.{Bytes}
use Rattle.c_lang.specs.Values.{Value, Num, Code, Null}
use Rattle.plain_run.specs.Steps as steps
use Rattle.plain_run.specs.Steps.{updated, local_or, Locals, Does}
use Rattle.c_lang.specs.Programs.{func_named, func_in}
use Rattle.plain_run.specs.PlainRun.{Store, PlainFrame, plain_access}
use Rattle.version_names.specs.Links.{part, is_shared_code}
use Rattle.version_names.specs.Version.{Version, is_old}
use Rattle.version_names.specs.Version as version
use Rattle.version_names.specs.Home.{Home, Linked}
use Rattle.version_names.specs.Home as home
use Rattle.version_names.specs.Provenance.{Provenance}
use Rattle.version_names.specs.Provenance as origin
use Rattle.update_semantics.specs.UpdatingRun.{State, UpdFrame, client_funcs, function_meaning, code_of, updating_access}
use Rattle.c_lang.specs.declared.unit.Pos.{Pos}
use Rattle.c_lang.specs.declared.expr.Expr.TheVariants.{Var}
use Rattle.c_lang.specs.declared.stmt.Kind.{Kind}
use Rattle.c_lang.specs.declared.stmt.Stmt.{Stmt, out-Stmt}
use Rattle.c_lang.specs.declared.stmt.Stmt.TheOpen.{Stmt-F}
use Rattle.c_lang.specs.declared.stmt.Stmt.TheOpen as one
use Rattle.merged_program.specs.Names.{now_name}
use Rattle.merged_runs.proofs.MergedStatements.{wrapper_body}
use Rattle.merged_runs.proofs.EvaluationRenamed.{renamed_value, ev-Var}
use Rattle.merged_runs.proofs.ClientCode.{FitItems}
use Rattle.merged_runs.proofs.Relation.{Merging, can_stand, IsEarly, MayName}
use Rattle.merged_runs.proofs.FrameLemmas.{IsMerged}

module _ (M : Merging) where
  open M use {world as W, value_name as κ', program as P}

  abbrev value' : Value Linked → Value Bytes
  value' = renamed_value κ'

  -- ---- wrappers

  abbrev pub Params : Type 0
  Params = List (Kind × Bytes)

  abbrev pub Apart : Bytes → Params → Type 0
  Apart k [] = Unit {0}
  Apart k (p ∷ ps) = (bytes_eq k p.1 ≡ false) × Apart k ps

  abbrev pub Distinct : Params → Type 0
  Distinct [] = Unit {0}
  Distinct (p ∷ ps) = Apart p.1 ps × Distinct ps

  abbrev pub NoFlag : Params → Type 0
  NoFlag [] = Unit {0}
  NoFlag (p ∷ ps) = (bytes_eq p.1 now_name ≡ false) × NoFlag ps

  -- the wrapper of a shared function, and the two functions that it calls
  pub record IsWrapper (x : Bytes) : Type 0 where
    pub at : Pos
    pub body : (func_in P.funcs (κ' (home.Both, x))).body ≡ wrapper_body at (func_in P.funcs (κ' (home.Both, x))).gives (κ' (home.New, x)) (κ' (home.Old, x)) (func_in P.funcs (κ' (home.Both, x))).params
    pub distinct : Distinct (func_in P.funcs (κ' (home.Both, x))).params
    pub no_flag : NoFlag (func_in P.funcs (κ' (home.Both, x))).params
    pub old : IsMerged M origin.Old (func_in W.first.funcs x) (func_in P.funcs (κ' (home.Old, x)))
    pub new : IsMerged M origin.New (func_in W.second.funcs x) (func_in P.funcs (κ' (home.New, x)))
    pub old_params : length (func_in P.funcs (κ' (home.Old, x))).params ≡ length (func_in P.funcs (κ' (home.Both, x))).params
    pub new_params : length (func_in P.funcs (κ' (home.New, x))).params ≡ length (func_in P.funcs (κ' (home.Both, x))).params
    pub old_gives : (func_in W.first.funcs x).gives ≡ (func_in P.funcs (κ' (home.Both, x))).gives
    pub new_gives : (func_in W.second.funcs x).gives ≡ (func_in P.funcs (κ' (home.Both, x))).gives

  abbrev pub IsDirect : Version → Linked → Type 0
  IsDirect now c = IsMerged M (code_of W now c).0 (code_of W now c).1 (func_in P.funcs (κ' c))

  abbrev pub IsCallable : Version → Linked → Type 0
  IsCallable now (home.Both, x) = IsWrapper x
  IsCallable now (home.Old, x) = IsDirect now (home.Old, x)
  IsCallable now (home.New, x) = IsDirect now (home.New, x)
  IsCallable now (home.Xform, x) = IsDirect now (home.Xform, x)
  IsCallable now (home.Client, x) = IsDirect now (home.Client, x)
  IsCallable now (home.Unlinked, x) = IsDirect now (home.Unlinked, x)

  -- as many values as parameters, 0 where there is none
  abbrev pub pad : Params → List (Value Bytes) → List (Value Bytes)
  pad [] vs = []
  pad (p ∷ ps) [] = Num (pos 0) ∷ pad ps []
  pad (p ∷ ps) (v ∷ vs) = v ∷ pad ps vs

  pub bound-pad : (ps rs : Params) (vs : List (Value Bytes)) (x : Bytes) → length ps ≡ length rs → steps.bound ps (pad rs vs) x ≡ steps.bound ps vs x
  bound-pad [] [] vs x e = refl
  bound-pad [] (r ∷ rs) vs x e = absurd (omega arith)
  bound-pad (p ∷ ps) [] vs x e = absurd (omega arith)
  bound-pad (p ∷ ps) (r ∷ rs) [] x e = ap (λ z. if bytes_eq p.1 x then Some (Num (pos 0)) else z) (bound-pad ps rs [] x (omega arith))
  bound-pad (p ∷ ps) (r ∷ rs) (v ∷ vs) x e = ap (λ z. if bytes_eq p.1 x then Some v else z) (bound-pad ps rs vs x (omega arith))

  abbrev pub AllAre : Locals Bytes → Params → List (Value Bytes) → Type 0
  AllAre l [] us = us ≡ []
  AllAre l (p ∷ ps) [] = ⊥
  AllAre l (p ∷ ps) (u ∷ us) = (l p.1 ≡ Some u) × AllAre l ps us

  all_updated : (l : Locals Bytes) (k : Bytes) (w : Option (Value Bytes)) (ps : Params) (us : List (Value Bytes)) → Apart k ps → AllAre l ps us → AllAre (updated l k w) ps us
  all_updated l k w [] us a h = h
  all_updated l k w (p ∷ ps) [] a h = h
  all_updated l k w (p ∷ ps) (u ∷ us) a h = (ap (λ b. if b then w else l p.1) a.0 ∙ h.0, all_updated l k w ps us a.1 h.1)

  at_key : (l : Locals Bytes) (k : Bytes) (w : Option (Value Bytes)) → updated l k w k ≡ w
  at_key l k w = ap (λ b. if b then w else l k) ((bytes_eq-Decides k k).1 refl)

  pub all_bound : (ps : Params) (vs : List (Value Bytes)) → Distinct ps → AllAre (steps.bound ps vs) ps (pad ps vs)
  all_bound [] vs h = refl
  all_bound (p ∷ ps) [] h = (at_key (steps.bound ps []) p.1 (Some (Num (pos 0))), all_updated (steps.bound ps []) p.1 _ ps (pad ps []) h.0 (all_bound ps [] h.1))
  all_bound (p ∷ ps) (v ∷ vs) h = (at_key (steps.bound ps vs) p.1 (Some v), all_updated (steps.bound ps vs) p.1 _ ps (pad ps vs) h.0 (all_bound ps vs h.1))

  pub no_flag-bound : (ps : Params) (vs : List (Value Bytes)) → NoFlag ps → steps.bound ps vs now_name ≡ None
  no_flag-bound [] vs h = refl
  no_flag-bound (p ∷ ps) [] h = ap (λ b. if b then Some (Num (pos 0)) else steps.bound ps [] now_name) h.0 ∙ no_flag-bound ps [] h.1
  no_flag-bound (p ∷ ps) (v ∷ vs) h = ap (λ b. if b then Some v else steps.bound ps vs now_name) h.0 ∙ no_flag-bound ps vs h.1

  pub read_args : (s : Store) (w : PlainFrame) (ps : Params) (us : List (Value Bytes)) → AllAre w.locals ps us
      → steps.values_of (plain_access P) s w (map (λ p. Var p.1) ps) ≡ Ok us
  read_args s w [] us h = ap Ok (sym h)
  read_args s w (p ∷ ps) [] h = absurd h
  read_args s w (p ∷ ps) (u ∷ us) h =
      ap₂ (steps.and_values (plain_access P))
      (ev-Var bytes_eq (steps.look (plain_access P) s w) p.1 ∙ ap (λ o. Ok (local_or o (s.values p.1))) h.0)
      (read_args s w ps us h.1)

  -- every function that a frame may name, and the client's may run before the swap
  pub record HasFuncs : Type 0 where
    pub callable : (o : Provenance) (now : Version) (f : Bytes) → IsCallable now (function_meaning W o f)
    pub early : (f : Bytes) → FitItems (MayName W) (map Does (func_in (client_funcs W) f).body)

  -- so what is entered in the client before the swap may run then
  pub entered_early : HasFuncs → (now : Version) (k : Linked) → IsEarly now (code_of W now k).0 → FitItems (MayName W) (map Does (code_of W now k).1.body)
  entered_early funcs version.New k e = absurd e
  entered_early funcs version.Old (home.Both, x) e = absurd e
  entered_early funcs version.Old (home.Old, x) e = absurd e
  entered_early funcs version.Old (home.New, x) e = absurd e
  entered_early funcs version.Old (home.Xform, x) e = absurd e
  entered_early funcs version.Old (home.Client, x) e = funcs.early x
  entered_early funcs version.Old (home.Unlinked, x) e = absurd e

  part_stands : (has shared : Bool) (f : Bytes) → can_stand version.Old (code_of W version.Old (part version.Old has shared, f)).0 ≡ true
  part_stands true true f = refl
  part_stands true false f = refl
  part_stands false shared f = refl

  -- what a frame that stands calls can stand
  pub called_stands : (now : Version) (o : Provenance) (f : Bytes) → can_stand now o ≡ true → (IsEarly now o → MayName W f)
      → can_stand now (code_of W now (function_meaning W o f)).0 ≡ true
  called_stands version.New o f stands early = refl
  called_stands version.Old origin.Old f stands early = part_stands (is_some (func_named W.first.funcs f)) (is_shared_code W.first W.second f) f
  called_stands version.Old origin.New f stands early = absurd cc
  called_stands version.Old origin.Xform f stands early = absurd cc
  called_stands version.Old origin.Client f stands early = early tt

  -- a value that a call through a pointer may meet now
  abbrev pub MayCall : Version → Value Linked → Type 0
  MayCall now (Num z) = Unit {0}
  MayCall now Null = Unit {0}
  MayCall now (Code k) = IsCallable now k × (can_stand now (code_of W now k).0 ≡ true)

  -- so is each function that a frame that stands names
  pub named_may : (funcs : HasFuncs) (now : Version) (o : Provenance) (f : Bytes) → can_stand now o ≡ true → (IsEarly now o → MayName W f)
      → MayCall now (Code (function_meaning W o f))
  named_may funcs now o f stands early = (funcs.callable o now f, called_stands now o f stands early)

  -- what the call of a pick needs
  abbrev pub IsReadyCall : State → UpdFrame → Stmt-F Stmt → Type 0
  IsReadyCall g f (one.Call p d x es) = MayCall g.now (Code (function_meaning W f.origin x))
  IsReadyCall g f l = Unit {0}

  -- what the next statement needs
  abbrev pub IsReady : State → UpdFrame → Stmt-F Stmt → Type 0
  IsReady g f (one.Call p d x es) = MayCall g.now (Code (function_meaning W f.origin x))
  IsReady g f (one.CallBy p d x es) = MayCall g.now ((steps.look (updating_access W) g f).value x)
  IsReady g f (one.Pick p a b) = IsReadyCall g f (out-Stmt (if is_old g.now then b else a))
  IsReady g f l = Unit {0}
