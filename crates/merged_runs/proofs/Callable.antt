-- Every function that is a value of the updating run may be called, so the merged program shows what
-- the updating run shows.
use Rattle.std.proofs.Common.{◌≡◌, ℤ, pos, negsuc, Bool, true, false, not, ◌&&◌, if◌then◌else◌, List, [], ◌∷◌, ◌++◌, map, Option, Some, None, Result, Ok, Err, refl, sym, subst, slice_get, int_div, int_rem, ◌+ℤ◌, ◌-ℤ◌, ◌*ℤ◌, ◌↔◌}
use Rattle.std.specs.Str.{bytes_eq}
use Rattle.c_lang.specs.Names.{Bytes}
use Rattle.c_lang.specs.Trees.{Expression, literal, variable, element, function, null, negation, logical_not, binary, expression_of, Statement, statements, statement_step, statement_of}
use Rattle.c_lang.specs.Values.{Value, Num, Code, Null, Answer, number, is_zero, in_range, truth, fits_int, negated}
use Rattle.c_lang.specs.Evaluation.{Look, and_then, element_at, found_element, applied, ev, joined}
use Rattle.plain_run.specs.Moves.{Move, Goes, Asks, Shows}
use Rattle.plain_run.specs.Steps as steps
use Rattle.plain_run.specs.Steps.{updated, local_or, Item, Does, Mark, Live, Over}
use Rattle.c_lang.specs.Programs.{global_named, initial_value}
use Rattle.plain_run.specs.PlainRun.{PlainConfig, step}
use Rattle.version_names.specs.Version.{Version, is_old}
use Rattle.version_names.specs.Version as version
use Rattle.version_names.specs.Home.{Home, Linked, same_linked}
use Rattle.version_names.specs.Home as home
use Rattle.version_names.specs.Provenance.{Provenance, may_update}
use Rattle.version_names.specs.Provenance as origin
use Rattle.update_semantics.specs.UpdatingRun.{State, UpdFrame, UpdConfig, cell_meaning, function_meaning, code_of, updating_access, swapped_state, swapped, picked, update, step_updating}
use Rattle.plain_run.proofs.Simulation.{Comes, Matches, Holds, same_from}
use Rattle.c_lang.specs.declared.unit.Pos.{Pos}
use Rattle.c_lang.specs.declared.event.Trap.{Trap}
use Rattle.c_lang.specs.declared.event.Trap.TheVariants.{Assert, Overflow, Divide}
use Rattle.c_lang.specs.declared.event.Event.{Event}
use Rattle.c_lang.specs.declared.event.Event.TheVariants as event
use Rattle.c_lang.specs.declared.expr.Expr.{Expr}
use Rattle.c_lang.specs.declared.expr.Op.{Op}
use Rattle.c_lang.specs.declared.expr.Op.TheVariants as op
use Rattle.c_lang.specs.declared.stmt.Kind.{Kind}
use Rattle.c_lang.specs.declared.stmt.Dest.{Dest}
use Rattle.c_lang.specs.declared.stmt.Dest.TheVariants.{Nowhere, Into, Fresh}
use Rattle.c_lang.specs.declared.stmt.Stmt.{Stmt, out-Stmt, fold_out-Stmt}
use Rattle.c_lang.specs.declared.stmt.Stmt.TheOpen.{Stmt-F}
use Rattle.c_lang.specs.declared.stmt.Stmt.TheOpen as one
use Rattle.merged_runs.proofs.ClientCode.{level_of, FitsExpression, FitExpressions, FitsStatement, FitStatements, FitItems, FitsBefore, fits_before, fits_body, fits_loop, fits_after_mark}
use Rattle.merged_runs.proofs.Relation.{Merging, can_stand, IsEarly, MayName, R, transform_function}
use Rattle.merged_runs.proofs.FrameLemmas.{HasTransform}
use Rattle.merged_runs.proofs.CallLemmas.{HasFuncs, MayCall, entered_early, named_may, IsReadyCall, IsReady}
use Rattle.merged_runs.proofs.StatementLemmas.{IsReadyFor, matched}

module _ (M : Merging) where
  open M use {world as W, program as P}

  abbrev pub May : Version → Value Linked → Type 0
  May = MayCall M

  abbrev GoodAnswer : Version → Answer Linked → Type 0
  GoodAnswer now (Ok v) = May now v
  GoodAnswer now (Err t) = Unit {0}

  good_if : (now : Version) (b : Bool) (x y : Answer Linked) → GoodAnswer now x → GoodAnswer now y → GoodAnswer now (if b then x else y)
  good_if now true x y h k = h
  good_if now false x y h k = k

  good_then : (now : Version) (a : Answer Linked) (go : Value Linked → Answer Linked) → GoodAnswer now a → ((v : Value Linked) → GoodAnswer now (go v)) → GoodAnswer now (and_then a go)
  good_then now (Ok v) go h k = k v
  good_then now (Err t) go h k = tt

  good_range : (now : Version) (z : ℤ) → GoodAnswer now (in_range z)
  good_range now z = good_if now (fits_int z) (Ok (Num z)) (Err Overflow) tt tt

  good_at : (now : Version) (o : Option ℤ) → GoodAnswer now (found_element o)
  good_at now (Some z) = tt
  good_at now None = tt

  good_element : (now : Version) (elements : List ℤ) (z : ℤ) → GoodAnswer now (element_at elements z)
  good_element now elements (pos n) = good_at now (slice_get elements n)
  good_element now elements (negsuc n) = tt

  good_applied : (now : Version) (o : Op) (v w : Value Linked) → GoodAnswer now (applied same_linked o v w)
  good_applied now op.Mul v w = good_range now (number v *ℤ number w)
  good_applied now op.Div v w = good_if now (is_zero (number w)) (Err Divide) (in_range (int_div (number v) (number w))) tt (good_range now (int_div (number v) (number w)))
  good_applied now op.Rem v w =
      good_if now (is_zero (number w)) (Err Divide) (if fits_int (int_div (number v) (number w)) then Ok (Num (int_rem (number v) (number w))) else Err Overflow) tt
      (good_if now (fits_int (int_div (number v) (number w))) (Ok (Num (int_rem (number v) (number w)))) (Err Overflow) tt tt)
  good_applied now op.Add v w = good_range now (number v +ℤ number w)
  good_applied now op.Sub v w = good_range now (number v -ℤ number w)
  good_applied now op.Lt v w = tt
  good_applied now op.Le v w = tt
  good_applied now op.Gt v w = tt
  good_applied now op.Ge v w = tt
  good_applied now op.Eq v w = tt
  good_applied now op.Ne v w = tt
  good_applied now op.And v w = tt
  good_applied now op.Or v w = tt

  strict : (now : Version) (o : Op) (a b : Answer Linked) → GoodAnswer now a → GoodAnswer now b → GoodAnswer now (and_then a (λ v. and_then b (λ w. applied same_linked o v w)))
  strict now o a b h k = good_then now a (λ v. and_then b (λ w. applied same_linked o v w)) h (λ v. good_then now b (λ w. applied same_linked o v w) k (λ w. good_applied now o v w))

  good_joined : (now : Version) (o : Op) (a b : Answer Linked) → GoodAnswer now a → GoodAnswer now b → GoodAnswer now (joined same_linked o a b)
  good_joined now op.And a b h k = good_then now a (λ v. if is_zero (number v) then truth false else and_then b (λ w. truth (not (is_zero (number w))))) h (λ v.
      good_if now (is_zero (number v)) (truth false) (and_then b (λ w. truth (not (is_zero (number w))))) tt (good_then now b (λ w. truth (not (is_zero (number w)))) k (λ w. tt)))
  good_joined now op.Or a b h k = good_then now a (λ v. if is_zero (number v) then and_then b (λ w. truth (not (is_zero (number w)))) else truth true) h (λ v.
      good_if now (is_zero (number v)) (and_then b (λ w. truth (not (is_zero (number w))))) (truth true) (good_then now b (λ w. truth (not (is_zero (number w)))) k (λ w. tt)) tt)
  good_joined now op.Mul a b h k = strict now op.Mul a b h k
  good_joined now op.Div a b h k = strict now op.Div a b h k
  good_joined now op.Rem a b h k = strict now op.Rem a b h k
  good_joined now op.Add a b h k = strict now op.Add a b h k
  good_joined now op.Sub a b h k = strict now op.Sub a b h k
  good_joined now op.Lt a b h k = strict now op.Lt a b h k
  good_joined now op.Le a b h k = strict now op.Le a b h k
  good_joined now op.Gt a b h k = strict now op.Gt a b h k
  good_joined now op.Ge a b h k = strict now op.Ge a b h k
  good_joined now op.Eq a b h k = strict now op.Eq a b h k
  good_joined now op.Ne a b h k = strict now op.Ne a b h k

  -- what a client's frame that runs before the swap says of its code
  abbrev Early : Version → Provenance → Type 0 → Type 0
  Early now o Says = IsEarly now o → Says

  abbrev CanEval : Version → Provenance → Expression → Type 0
  CanEval now o e = Early now o (FitsExpression (MayName W) e)

  module _ (now : Version) (o : Provenance) (l : Look Linked) (values : (x : Bytes) → May now (l.value x))
      (codes : (f : Bytes) → Early now o (MayName W f) → May now (Code (l.code f))) where
    good_ev : (e : Expression) → CanEval now o e → GoodAnswer now (ev same_linked l e)
    good_ev (literal z) c = tt
    good_ev (variable x) c = values x
    good_ev (element a i) c = good_then now (ev same_linked l i) (λ v. element_at (l.elements a) (number v)) (good_ev i c) (λ v. good_element now (l.elements a) (number v))
    good_ev (function f) c = codes f c
    good_ev null c = tt
    good_ev (negation e) c = good_then now (ev same_linked l e) (λ v. negated (number v)) (good_ev e c) (λ v. good_range now (pos 0 -ℤ number v))
    good_ev (logical_not e) c = good_then now (ev same_linked l e) (λ v. truth (is_zero (number v))) (good_ev e c) (λ v. tt)
    good_ev (binary o' a b) c =
        good_joined now o' (ev same_linked l a) (ev same_linked l b) (good_ev a (λ (i : IsEarly now o). (c i).0)) (good_ev b (λ (i : IsEarly now o). (c i).1))

  -- a swap only widens it
  later : (v : Value Linked) → May version.Old v → May version.New v
  later (Num z) h = tt
  later Null h = tt
  later (Code (home.Both, x)) h = (h.0, refl)
  later (Code (home.Old, x)) h = (h.0, refl)
  later (Code (home.New, x)) h = (h.0, refl)
  later (Code (home.Xform, x)) h = (h.0, refl)
  later (Code (home.Client, x)) h = (h.0, refl)
  later (Code (home.Unlinked, x)) h = (h.0, refl)

  abbrev pub GoodLocal : Version → Option (Value Linked) → Type 0
  GoodLocal now None = Unit {0}
  GoodLocal now (Some v) = May now v

  abbrev pub GoodLocals : Version → UpdFrame → Type 0
  GoodLocals now f = (x : Bytes) → GoodLocal now (f.locals x)

  pub record GoodFrame (now : Version) (f : UpdFrame) : Type 0 where
    pub stands : can_stand now f.origin ≡ true
    pub locals : GoodLocals now f
    -- the client's code that is still to run may run before the swap
    pub early : Early now f.origin (FitItems (MayName W) f.items)

  abbrev pub GoodState : State → Type 0
  GoodState g = (h : Home) (x : Bytes) → May g.now (g.values h x)

  good_read : (now : Version) (o : Option (Value Linked)) (v : Value Linked) → GoodLocal now o → May now v → May now (local_or o v)
  good_read now None v h k = k
  good_read now (Some w) v h k = h

  -- so a call through a pointer may be made, in each frame of a good configuration
  good_look : (g : State) (f : UpdFrame) → GoodState g → GoodFrame g.now f → (x : Bytes) → May g.now ((steps.look (updating_access W) g f).value x)
  good_look g f s h x = let k = cell_meaning W f.origin x in good_read g.now (f.locals x) (g.values k.0 k.1) (h.locals x) (s k.0 k.1)

  module _ (funcs : HasFuncs M) where
    good_value : (g : State) (f : UpdFrame) → GoodState g → GoodFrame g.now f → (e : Expr) → CanEval g.now f.origin (expression_of e)
        → GoodAnswer g.now (steps.value_of (updating_access W) g f e)
    good_value g f s h e c = good_ev g.now f.origin (steps.look (updating_access W) g f) (good_look g f s h)
        (λ x. named_may M funcs g.now f.origin x h.stands) (expression_of e) c

    chosen_may : (now : Version) (b : Bool) (v w : Value Linked) → May now v → May now w → May now (if b then v else w)
    chosen_may now true v w h k = h
    chosen_may now false v w h k = k

    good_put : (g : State) (f : UpdFrame) (x : Bytes) (v : Value Linked) → GoodState g → May g.now v → GoodState ((updating_access W).put f.origin x v g)
    good_put g f x v s h = λ q y. chosen_may g.now (same_linked (cell_meaning W f.origin x) (q, y)) v (g.values q y) h (s q y)

    -- ---- configurations

    abbrev pub GoodFrames : Version → List UpdFrame → Type 0
    GoodFrames now [] = Unit {0}
    GoodFrames now (f ∷ fs) = GoodFrame now f × GoodFrames now fs

    abbrev pub Good : UpdConfig → Type 0
    Good Over = Unit {0}
    Good (Live g f fs) = GoodState g × GoodFrame g.now f × GoodFrames g.now fs

    abbrev pub HoldsU : Move (UpdConfig) → Type 0
    HoldsU = Holds Good

    good_local : (now : Version) (b : Bool) (v : Value Linked) (o : Option (Value Linked)) → May now v → GoodLocal now o → GoodLocal now (if b then Some v else o)
    good_local now true v o h k = h
    good_local now false v o h k = k

    with_local : (now : Version) (f : UpdFrame) (x : Bytes) (v : Value Linked) → GoodFrame now f → May now v → GoodFrame now (record f { locals = updated f.locals x (Some v) })
    with_local now f x v h k = record { stands = h.stands; locals = λ y. good_local now (bytes_eq x y) v (f.locals y) k (h.locals y); early = h.early }

    good_into : (o : Option (Value Linked)) (g : State) (f : UpdFrame) (fs : List UpdFrame) (x : Bytes) (v : Value Linked) → GoodState g → GoodFrame g.now f → GoodFrames g.now fs → May g.now v
        → Good (steps.into (updating_access W) o g f fs x v)
    good_into None g f fs x v s h k m = (good_put g f x v s m, h, k)
    good_into (Some w) g f fs x v s h k m = (s, with_local g.now f x v h m, k)

    good_stored : (g : State) (f : UpdFrame) (fs : List UpdFrame) (d : Dest) (v : Value Linked) → GoodState g → GoodFrame g.now f → GoodFrames g.now fs → May g.now v
        → Good (steps.stored (updating_access W) g f fs d v)
    good_stored g f fs Nowhere v s h k m = (s, h, k)
    good_stored g f fs (Into x) v s h k m = good_into (f.locals x) g f fs x v s h k m
    good_stored g f fs (Fresh t x) v s h k m = (s, with_local g.now f x v h m, k)

    good_handed : (g : State) (b : Bool) (d : Dest) (v : Value Linked) (fs : List UpdFrame) → GoodState g → GoodFrames g.now fs → May g.now v
        → HoldsU (steps.handed (updating_access W) g d (steps.given (updating_access W) b v) fs)
    good_handed g b d v [] s k m = tt
    good_handed g true d v (f ∷ fs) s k m = good_stored g f fs d v s k.0 k.1 m
    good_handed g false d v (f ∷ fs) s k m = good_stored g f fs d (Num (pos 0)) s k.0 k.1 tt

    abbrev AllMay : Version → List (Value Linked) → Type 0
    AllMay now [] = Unit {0}
    AllMay now (v ∷ vs) = May now v × AllMay now vs

    pub good_bound : (now : Version) (ps : List (Kind × Bytes)) (vs : List (Value Linked)) → AllMay now vs → (x : Bytes) → GoodLocal now (steps.bound ps vs x)
    good_bound now [] vs h x = tt
    good_bound now (p ∷ ps) [] h x = good_local now (bytes_eq p.1 x) (Num (pos 0)) (steps.bound ps [] x) tt (good_bound now ps [] tt x)
    good_bound now (p ∷ ps) (v ∷ vs) h x = good_local now (bytes_eq p.1 x) v (steps.bound ps vs x) h.0 (good_bound now ps vs h.1 x)

    abbrev GoodAnswers : Version → Result (List (Value Linked)) Trap → Type 0
    GoodAnswers now (Ok vs) = AllMay now vs
    GoodAnswers now (Err t) = Unit {0}

    good_and : (now : Version) (a : Answer Linked) (r : Result (List (Value Linked)) Trap) → GoodAnswer now a → GoodAnswers now r → GoodAnswers now (steps.and_values (updating_access W) a r)
    good_and now (Err t) r h k = tt
    good_and now (Ok v) (Err t) h k = tt
    good_and now (Ok v) (Ok vs) h k = (h, k)

    good_values : (g : State) (f : UpdFrame) → GoodState g → GoodFrame g.now f → (es : List Expr) → Early g.now f.origin (FitExpressions (MayName W) (map expression_of es))
        → GoodAnswers g.now (steps.values_of (updating_access W) g f es)
    good_values g f s h [] c = tt
    good_values g f s h (e ∷ es) c =
        good_and g.now (steps.value_of (updating_access W) g f e) (steps.values_of (updating_access W) g f es)
        (good_value g f s h e (λ (i : IsEarly g.now f.origin). (c i).0)) (good_values g f s h es (λ (i : IsEarly g.now f.origin). (c i).1))

    good_with : (now : Version) (a : Answer Linked) (p : Pos) (go : Value Linked → Move (UpdConfig)) → GoodAnswer now a → ((v : Value Linked) → May now v → HoldsU (go v)) → HoldsU (steps.with (updating_access W) a p go)
    good_with now (Ok v) p go h k = k v h
    good_with now (Err t) p go h k = tt

    good_withs : (now : Version) (a : Result (List (Value Linked)) Trap) (p : Pos) (go : List (Value Linked) → Move (UpdConfig)) → GoodAnswers now a → ((vs : List (Value Linked)) → AllMay now vs → HoldsU (go vs)) → HoldsU (steps.with (updating_access W) a p go)
    good_withs now (Ok vs) p go h k = k vs h
    good_withs now (Err t) p go h k = tt

    good_entered : (g : State) (f : UpdFrame) (fs : List UpdFrame) (k : Linked) (vs : List (Value Linked)) (d : Dest) → GoodState g → GoodFrame g.now f → GoodFrames g.now fs → May g.now (Code k) → AllMay g.now vs
        → HoldsU (steps.entered (updating_access W) g f fs k vs d)
    good_entered g f fs k vs d s h r m a =
        (s, record { stands = m.1; locals = good_bound g.now (code_of W g.now k).1.params vs a; early = entered_early M funcs g.now k }, (h, r))

    good_pointer : (v : Value Linked) (g : State) (f : UpdFrame) (fs : List UpdFrame) (vs : List (Value Linked)) (d : Dest) (p : Pos) → May g.now v → GoodState g → GoodFrame g.now f → GoodFrames g.now fs → AllMay g.now vs
        → HoldsU (steps.by_pointer (updating_access W) v g f fs vs d p)
    good_pointer (Num z) g f fs vs d p m s h r a = tt
    good_pointer Null g f fs vs d p m s h r a = tt
    good_pointer (Code k) g f fs vs d p m s h r a = good_entered g f fs k vs d s h r m a

    -- ---- a swap

    widen : (now : Version) (v : Value Linked) → May now v → May version.New v
    widen version.Old v h = later v h
    widen version.New v h = h

    widen_local : (now : Version) (o : Option (Value Linked)) → GoodLocal now o → GoodLocal version.New o
    widen_local now None h = tt
    widen_local now (Some v) h = widen now v h

    widen_frame : (now : Version) (f : UpdFrame) → GoodLocals now f → GoodFrame version.New f
    widen_frame now f h = record { stands = refl; locals = λ x. widen_local now (f.locals x) (h x); early = λ i. absurd i }

    widen_frames : (now : Version) (fs : List UpdFrame) → GoodFrames now fs → GoodFrames version.New fs
    widen_frames now [] h = tt
    widen_frames now (f ∷ fs) h = (widen_frame now f h.0.locals, widen_frames now fs h.1)

    module _ (initial : (x : Bytes) → May version.New (initial_value (function_meaning W origin.New) (global_named W.second.globals x))) where
      good_swapped_state : (g : State) → GoodState g → GoodState (swapped_state W g)
      good_swapped_state g s home.New x = initial x
      good_swapped_state g s home.Both x = widen g.now (g.values home.Both x) (s home.Both x)
      good_swapped_state g s home.Old x = widen g.now (g.values home.Old x) (s home.Old x)
      good_swapped_state g s home.Xform x = widen g.now (g.values home.Xform x) (s home.Xform x)
      good_swapped_state g s home.Client x = widen g.now (g.values home.Client x) (s home.Client x)
      good_swapped_state g s home.Unlinked x = widen g.now (g.values home.Unlinked x) (s home.Unlinked x)

      good_swapped : (g : State) (f : UpdFrame) (fs : List UpdFrame) → GoodState g → GoodLocals g.now f → GoodFrames g.now fs → Good (swapped W g f fs)
      good_swapped g f fs s h r = (
        good_swapped_state g s,
        record {
          stands = refl;
          locals = good_bound version.New (code_of W version.New (home.Xform, transform_function)).1.params [] tt;
          early = λ i. absurd i;
        },
        (widen_frame g.now f h, widen_frames g.now fs r),
      )

      good_choice : (b : Bool) (x y : UpdConfig) → Good x → Good y → Good (if b then x else y)
      good_choice true x y h k = h
      good_choice false x y h k = k

      good_test : (b : Bool) (x y : Move (UpdConfig)) → HoldsU x → HoldsU y → HoldsU (if b then x else y)
      good_test true x y h k = h
      good_test false x y h k = k

      good_elements : (o : Option (List ℤ)) (p : Pos) (go : List ℤ → Move (UpdConfig)) → ((elements : List ℤ) → HoldsU (go elements)) → HoldsU (steps.with_elements (updating_access W) o p go)
      good_elements (Some elements) p go k = k elements
      good_elements None p go k = tt

      -- the call of a pick that is made now
      chosen_early : (now : Version) (o : Provenance) (a b : Stmt) → Early now o (FitsStatement (MayName W) (statement_of b))
          → Early now o (FitsStatement (MayName W) (statement_of (if is_old now then b else a)))
      chosen_early version.Old o a b c = c
      chosen_early version.New o a b c = λ i. absurd i

      module _ (g : State) (f : UpdFrame) (fs : List UpdFrame) (s : GoodState g) (h : GoodFrame g.now f) (r : GoodFrames g.now fs) where
        abbrev pub NU : steps.Access Linked State Provenance
        NU = updating_access W

        with_items : (new : List Item) → Early g.now f.origin (FitItems (MayName W) new) → GoodFrame g.now (record f { items = new })
        with_items new c = record { stands = h.stands; locals = h.locals; early = c }

        good_called : (p : Pos) (d : Dest) (x : Bytes) (es : List Expr) → Early g.now f.origin (MayName W x × FitExpressions (MayName W) (map expression_of es))
            → HoldsU (steps.with NU (steps.values_of NU g f es) p (λ vs. steps.entered NU g f fs (NU.code f.origin g x) vs d))
        good_called p d x es c =
            good_withs g.now (steps.values_of NU g f es) p (λ vs. steps.entered NU g f fs (NU.code f.origin g x) vs d)
            (good_values g f s h es (λ (i : IsEarly g.now f.origin). (c i).1)) (λ vs a.
            good_entered g f fs (NU.code f.origin g x) vs d s h r (named_may M funcs g.now f.origin x h.stands (λ (i : IsEarly g.now f.origin). (c i).0)) a)

        good_picked : (st : Stmt) (l : Stmt-F Stmt) → statement_of st ≡ level_of l → Early g.now f.origin (FitsStatement (MayName W) (statement_of st)) → HoldsU (picked W g f fs st l)
        good_picked st (one.Call p d x es) is c = good_called p d x es (λ (i : IsEarly g.now f.origin). subst (FitsStatement (MayName W)) is (c i))
        good_picked st l is c =
            (s, with_items (Does st ∷ f.items) (λ (i : IsEarly g.now f.origin). fits_before (MayName W) f.items (statement_of st) (c i) (h.early i)), r)

        good_body : (v : Value Linked) (a b : List Stmt)
            → Early g.now f.origin (FitStatements (MayName W) (statements (map statement_of a)) × FitStatements (MayName W) (statements (map statement_of b)))
            → Good (steps.before_rest NU g f fs (map Does (if is_zero (number v) then b else a)))
        good_body v a b c = by (is_zero (number v))
          where
            by : (z : Bool) → Good (steps.before_rest NU g f fs (map Does (if z then b else a)))
            by true = (s, with_items (map Does b ++ f.items) (λ (i : IsEarly g.now f.origin). fits_body (MayName W) b f.items (c i).1 (h.early i)), r)
            by false = (s, with_items (map Does a ++ f.items) (λ (i : IsEarly g.now f.origin). fits_body (MayName W) a f.items (c i).0 (h.early i)), r)

      module _ (g : State) (f : UpdFrame) (fs : List UpdFrame) (s : GoodState g) (stands : can_stand g.now f.origin ≡ true) (locals : GoodLocals g.now f) (r : GoodFrames g.now fs) where
        good_force : (now : Version) → g.now ≡ now → Good (if is_old now then swapped W g f fs else Live g f fs)
        good_force version.Old e = good_swapped g f fs s locals r
        good_force version.New e =
            (s, record { stands = stands; locals = locals; early = λ (i : IsEarly g.now f.origin). absurd (subst (λ (now : Version). IsEarly now f.origin) e i) }, r)

        whole : Early g.now f.origin (FitItems (MayName W) f.items) → GoodFrame g.now f
        whole c = record { stands = stands; locals = locals; early = c }

        -- what the next statement says before the swap
        abbrev Next : Stmt-F Stmt → Type 0
        Next l = Early g.now f.origin (FitsBefore (MayName W) f.items (level_of l))

        pub good_kind : (t : Stmt) (l : Stmt-F Stmt) → statement_of t ≡ level_of l → Next l → HoldsU (steps.act (updating_access W) (update W) g f fs t l)
        good_kind t (one.Skip p) is c = (s, whole (λ (i : IsEarly g.now f.origin). (c i).1), r)
        good_kind t (one.Set p d e) is c =
            let h = whole (λ (i : IsEarly g.now f.origin). (c i).1) in
            good_with g.now (steps.value_of (updating_access W) g f e) p (λ v. Goes [] (steps.stored (updating_access W) g f fs d v))
            (good_value g f s h e (λ (i : IsEarly g.now f.origin). (c i).0)) (λ v m. good_stored g f fs d v s h r m)
        good_kind t (one.SetElem p a i e) is c =
            let N : steps.Access Linked State Provenance = updating_access W in
            let h = whole (λ (i : IsEarly g.now f.origin). (c i).1) in
            good_with g.now (steps.value_of N g f i) p (λ at. steps.with N (steps.value_of N g f e) p (λ v. steps.with_elements N (steps.elements_with (N.elements f.origin g a) (number at) (number v)) p (λ elements. Goes [] (Live (N.put_elements f.origin a elements g) f fs))))
            (good_value g f s h i (λ (j : IsEarly g.now f.origin). (c j).0.0)) (λ at m.
            good_with g.now (steps.value_of N g f e) p (λ v. steps.with_elements N (steps.elements_with (N.elements f.origin g a) (number at) (number v)) p (λ elements. Goes [] (Live (N.put_elements f.origin a elements g) f fs)))
            (good_value g f s h e (λ (j : IsEarly g.now f.origin). (c j).0.1)) (λ v m.
            good_elements (steps.elements_with (N.elements f.origin g a) (number at) (number v)) p (λ elements. Goes [] (Live (N.put_elements f.origin a elements g) f fs)) (λ elements. (s, record { stands = h.stands; locals = h.locals; early = h.early }, r))))
        good_kind t (one.Call p d x es) is c = good_called g f fs s (whole (λ (i : IsEarly g.now f.origin). (c i).1)) r p d x es (λ (i : IsEarly g.now f.origin). (c i).0)
        good_kind t (one.CallBy p d x es) is c =
            let h = whole (λ (i : IsEarly g.now f.origin). (c i).1) in
            good_withs g.now (steps.values_of (updating_access W) g f es) p (λ vs. steps.by_pointer (updating_access W) ((steps.look (updating_access W) g f).value x) g f fs vs d p)
            (good_values g f s h es (λ (i : IsEarly g.now f.origin). (c i).0)) (λ vs a.
            good_pointer ((steps.look (updating_access W) g f).value x) g f fs vs d p (good_look g f s h x) s h r a)
        good_kind t (one.If p e a b) is c =
            let h = whole (λ (i : IsEarly g.now f.origin). (c i).1) in
            good_with g.now (steps.value_of (updating_access W) g f e) p (λ v. Goes [] (steps.before_rest (updating_access W) g f fs (map Does (if is_zero (number v) then b else a))))
            (good_value g f s h e (λ (i : IsEarly g.now f.origin). (c i).0.0)) (λ v m.
            good_body g f fs s h r v a b (λ (i : IsEarly g.now f.origin). ((c i).0.1, (c i).0.2)))
        good_kind t (one.While p e a) is c =
            let N : steps.Access Linked State Provenance = updating_access W in
            let h = whole (λ (i : IsEarly g.now f.origin). (c i).1) in
            good_with g.now (steps.value_of N g f e) p (λ v. Goes [] (if is_zero (number v) then Live g f fs else steps.before_rest N g f fs (map Does a ++ Mark t ∷ [])))
            (good_value g f s h e (λ (i : IsEarly g.now f.origin). (c i).0.0)) (λ v m.
            good_choice (is_zero (number v)) (Live g f fs) (steps.before_rest N g f fs (map Does a ++ Mark t ∷ [])) (s, h, r) (
              s,
              with_items g f fs s h r ((map Does a ++ Mark t ∷ []) ++ f.items) (λ (i : IsEarly g.now f.origin).
                  fits_loop (MayName W) a t f.items (c i).0.1 (subst (FitsStatement (MayName W)) (sym is) (c i).0) (c i).1),
              r,
            ))
        good_kind t (one.Break p) is c =
            (s, record { stands = stands; locals = locals; early = λ (i : IsEarly g.now f.origin). fits_after_mark (MayName W) f.items (c i).1 }, r)
        good_kind t (one.Return p None) is c = good_handed g f.gives f.dest (Num (pos 0)) fs s r tt
        good_kind t (one.Return p (Some e)) is c =
            good_with g.now (steps.value_of (updating_access W) g f e) p (λ v. steps.handed (updating_access W) g f.dest (steps.given (updating_access W) f.gives v) fs)
            (good_value g f s (whole (λ (i : IsEarly g.now f.origin). (c i).1)) e (λ (i : IsEarly g.now f.origin). (c i).0)) (λ v m. good_handed g f.gives f.dest v fs s r m)
        good_kind t (one.Assert p e) is c =
            let h = whole (λ (i : IsEarly g.now f.origin). (c i).1) in
            good_with g.now (steps.value_of (updating_access W) g f e) p (λ v. if is_zero (number v) then steps.trapped (updating_access W) Assert p else Goes [] (Live g f fs))
            (good_value g f s h e (λ (i : IsEarly g.now f.origin). (c i).0)) (λ v m.
            good_test (is_zero (number v)) (steps.trapped (updating_access W) Assert p) (Goes [] (Live g f fs)) tt (s, h, r))
        good_kind t (one.Input p d) is c = λ z. good_stored g f fs d (Num z) s (whole (λ (i : IsEarly g.now f.origin). (c i).1)) r tt
        good_kind t (one.Output p e) is c =
            let h = whole (λ (i : IsEarly g.now f.origin). (c i).1) in
            good_with g.now (steps.value_of (updating_access W) g f e) p (λ v. Goes (event.Output (number v) ∷ []) (Live g f fs))
            (good_value g f s h e (λ (i : IsEarly g.now f.origin). (c i).0)) (λ v m. (s, h, r))
        good_kind t (one.Choice p d k) is c =
            λ z. good_stored g f fs d (Num (if is_zero z then pos 0 else pos 1)) s (whole (λ (i : IsEarly g.now f.origin). (c i).1)) r tt
        good_kind t (one.Point p k) is c =
            let h = whole (λ (i : IsEarly g.now f.origin). (c i).1) in
            good_test (may_update f.origin && (is_old g.now && W.permits k))
            (Asks (λ z. event.Choice k (not (is_zero z))) (λ z. if is_zero z then Live g f fs else swapped W g f fs)) (Goes [] (Live g f fs))
            (λ z. good_choice (is_zero z) (Live g f fs) (swapped W g f fs) (s, h, r) (good_swapped g f fs s locals r)) (s, h, r)
        good_kind t (one.Force p) is c = good_force g.now refl
        good_kind t (one.Pick p a b) is c =
            let st = (if is_old g.now then b else a) in
            good_picked g f fs s (whole (λ (i : IsEarly g.now f.origin). (c i).1)) r st (out-Stmt st) (fold_out-Stmt Statement statement_step st)
            (chosen_early g.now f.origin a b (λ (i : IsEarly g.now f.origin). (c i).0))

      -- the statement at the head of the items, by its outermost level
      by_level : (t : Stmt) (is : List Item) → FitsBefore (MayName W) is (statement_of t) → FitsBefore (MayName W) is (level_of (out-Stmt t))
      by_level t is = subst (FitsBefore (MayName W) is) (fold_out-Stmt Statement statement_step t)

      abbrev Items : State → UpdFrame → List Item → Type 0
      Items g f is = Early g.now f.origin (FitItems (MayName W) is)

      head_early : (g : State) (f : UpdFrame) (t : Stmt) (is : List Item) → Items g f (Does t ∷ is) → Early g.now f.origin (FitsBefore (MayName W) is (level_of (out-Stmt t)))
      head_early g f t is c i = by_level t is (c i)

      mark_early : (g : State) (f : UpdFrame) (t : Stmt) (is : List Item) → Items g f (Mark t ∷ is) → Early g.now f.origin (FitsBefore (MayName W) is (level_of (out-Stmt t)))
      mark_early g f t is c i = by_level t is (fits_before (MayName W) is (statement_of t) (c i).0 (c i).1)

      good_items : (g : State) (f : UpdFrame) (fs : List UpdFrame) → GoodState g → GoodFrame g.now f → GoodFrames g.now fs → (is : List Item) → Items g f is
          → HoldsU (steps.next_item (updating_access W) (update W) g f fs is)
      good_items g f fs s h r [] c = good_handed g f.gives f.dest (Num (pos 0)) fs s r tt
      good_items g f fs s h r (Does t ∷ is) c =
          good_kind g (record f { items = is }) fs s h.stands h.locals r t (out-Stmt t) (fold_out-Stmt Statement statement_step t) (head_early g f t is c)
      good_items g f fs s h r (Mark t ∷ is) c =
          good_kind g (record f { items = is }) fs s h.stands h.locals r t (out-Stmt t) (fold_out-Stmt Statement statement_step t) (mark_early g f t is c)

      kept : (c : UpdConfig) → Good c → HoldsU (step_updating W c)
      kept Over i = tt
      kept (Live g f fs) i = good_items g f fs i.0 i.1 i.2 f.items i.1.early

      ready_call : (g : State) (f : UpdFrame) → GoodFrame g.now f → (st : Stmt) (l : Stmt-F Stmt) → statement_of st ≡ level_of l
          → Early g.now f.origin (FitsStatement (MayName W) (statement_of st)) → IsReadyCall M g f l
      ready_call g f h st (one.Call p d x es) is c =
          named_may M funcs g.now f.origin x h.stands (λ (i : IsEarly g.now f.origin). (subst (FitsStatement (MayName W)) is (c i)).0)
      ready_call g f h st l is c = tt

      ready : (g : State) (f : UpdFrame) → GoodState g → GoodFrame g.now f → (is : List Item) (l : Stmt-F Stmt)
          → Early g.now f.origin (FitsBefore (MayName W) is (level_of l)) → IsReady M g f l
      ready g f s h is (one.CallBy p d x es) c = good_look g f s h x
      ready g f s h is (one.Call p d x es) c = named_may M funcs g.now f.origin x h.stands (λ (i : IsEarly g.now f.origin). (c i).0.0)
      ready g f s h is (one.Pick p a b) c =
          let st = (if is_old g.now then b else a) in
          ready_call g f h st (out-Stmt st) (fold_out-Stmt Statement statement_step st) (chosen_early g.now f.origin a b (λ (i : IsEarly g.now f.origin). (c i).0))
      ready g f s h is l c = tt

      ready_for : (g : State) (f : UpdFrame) → GoodState g → GoodFrame g.now f → (is : List Item) → Items g f is → IsReadyFor M g f is
      ready_for g f s h [] c = tt
      ready_for g f s h (Does t ∷ is) c = ready g f s h is (out-Stmt t) (head_early g f t is c)
      ready_for g f s h (Mark t ∷ is) c = ready g f s h is (out-Stmt t) (mark_early g f t is c)

      -- from related configurations the merged program shows what the updating machine shows, whatever the programs are
      pub same_prefixes : HasTransform M → (c : UpdConfig) (d e : PlainConfig) → Comes (step P) d e → R M c e → Good c
          → (a : List ℤ) (h : List Event) → Shows (step P) d a h ↔ Shows (step_updating W) c a h
      same_prefixes transform c d e comes r good a h =
          same_from (step_updating W) (step P) (R M) Good follows kept c d e comes r good a h
        where
          follows : (c : UpdConfig) (d : PlainConfig) → R M c d → Good c → Matches (step_updating W) (step P) (R M) (step_updating W c) d
          follows Over d r i = matched M transform funcs Over d r tt
          follows (Live g f fs) d r i = matched M transform funcs (Live g f fs) d r (ready_for g f i.0 i.1 f.items i.1.early)
