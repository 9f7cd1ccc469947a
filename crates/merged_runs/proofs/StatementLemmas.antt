-- Each step of the updating run is one or more steps of the merged program.
use Rattle.std.proofs.Common.{◌≡◌, ℕ, pos, Bool, true, false, not, ◌&&◌, if◌then◌else◌, List, [], ◌∷◌, ◌++◌, map, Option, Some, None, Ok, refl, sym, ap, ap₂, ◌∙◌, subst, inl, inr, length, arith, append-nil, append_assoc}
use Rattle.std.specs.Str.{bytes_eq}
use Rattle.std.proofs.lemmas.List.{map-append}
use Rattle.c_lang.specs.Names.{Bytes}
use Rattle.c_lang.specs.Values.{Value, Num, Code, Null, number, is_zero}
use Rattle.c_lang.specs.Evaluation.{joined}
use Rattle.plain_run.specs.Moves.{Goes, Asks}
use Rattle.plain_run.specs.Steps as steps
use Rattle.plain_run.specs.Steps.{updated, local_or, Locals, Item, Does, Mark, Live, Over, after_mark}
use Rattle.c_lang.specs.Programs.{func_in}
use Rattle.plain_run.specs.PlainRun.{Store, PlainFrame, PlainConfig, plain_access, dropped, step}
use Rattle.version_names.specs.Version.{Version, is_old}
use Rattle.version_names.specs.Version as version
use Rattle.version_names.specs.Home.{Home, Linked}
use Rattle.version_names.specs.Home as home
use Rattle.version_names.specs.Provenance.{Provenance, may_update}
use Rattle.version_names.specs.Provenance as origin
use Rattle.update_semantics.specs.UpdatingRun.{State, UpdFrame, UpdConfig, cell_meaning, function_meaning, version_code, code_of, updating_access, swapped_state, swapped, picked, update, step_updating}
use Rattle.plain_run.proofs.Simulation.{Leads, Comes, matches_after, goes_once, silently, comes_on, takes_once, comes_takes, takes_comes, waits_there, comes_waits, ends_there}
use Rattle.c_lang.specs.declared.unit.Pos.{Pos}
use Rattle.c_lang.specs.declared.event.Trap.TheVariants.{Assert, NullCall}
use Rattle.c_lang.specs.declared.event.Event.{Event}
use Rattle.c_lang.specs.declared.event.Event.TheVariants as event
use Rattle.c_lang.specs.declared.expr.Expr.{Expr}
use Rattle.c_lang.specs.declared.expr.Expr.TheVariants.{Var, Lit}
use Rattle.c_lang.specs.declared.expr.Op.TheVariants as op
use Rattle.c_lang.specs.declared.stmt.Kind.TheVariants as kind
use Rattle.c_lang.specs.declared.stmt.Dest.{Dest}
use Rattle.c_lang.specs.declared.stmt.Dest.TheVariants.{Nowhere, Into, Fresh}
use Rattle.c_lang.specs.declared.stmt.Stmt.{Stmt, out-Stmt, map-Stmt}
use Rattle.c_lang.specs.declared.stmt.Stmt.TheOpen.{Stmt-F}
use Rattle.c_lang.specs.declared.stmt.Stmt.TheOpen as one
use Rattle.c_lang.specs.declared.stmt.Stmt.TheVariants as stmt
use Rattle.c_lang.specs.declared.program.Func.{Func}
use Rattle.merged_program.specs.Names.{now_name, choice_name, result_name}
use Rattle.merged_program.specs.Expressions.{renamed_dest}
use Rattle.merged_runs.proofs.MergedStatements.{under, transform_name, is_nil, is_set, swap_body, point_body, hand_on, hand, merged_layer, merged_stmt, merged_item, out_merged}
use Rattle.merged_runs.proofs.EvaluationRenamed.{renamed_value, renamed_answer, number-renamed, ev-Lit, ev-test}
use Rattle.merged_runs.proofs.Relation.{Merging, can_stand, flag, transform_function, settled_by, SameState, SameFrame, Hands, Below, R, Follows}
use Rattle.merged_runs.proofs.StateLemmas.{cells_there, settled_there, carries, value_of-renamed, by_answer, same_stored, same_put_elements, by_elements, renamed_answers, and-renamed, by_values}
use Rattle.merged_runs.proofs.FrameLemmas.{stands_later, tail_hands, below_later, does_map, after_mark-map, by_test, same_if, IsMerged, same_entry, given-renamed, handed_follows, HasTransform}
use Rattle.merged_runs.proofs.CallLemmas.{Params, IsWrapper, IsDirect, IsCallable, pad, bound-pad, AllAre, all_bound, no_flag-bound, read_args, HasFuncs, MayCall, IsReadyCall, IsReady}

module _ (M : Merging) where
  open M use {world as W, variable_name as ρ, function_name as κ, value_name as κ', naming as names, program as P}

  abbrev value' : Value Linked → Value Bytes
  value' = renamed_value κ'

  module _ (transform : HasTransform M) (funcs : HasFuncs M) (g : State) (s : Store) (f : UpdFrame) (q : PlainFrame) (fs : List UpdFrame) (qs : List PlainFrame)
      (ss : SameState M g s) (sf : SameFrame M g.now f q) (sb : Below M g.now f.gives f.dest fs q.dest qs) where
    abbrev m : Stmt → Stmt
    m = merged_stmt W.permits ρ κ f.origin

    abbrev NP : steps.Access Bytes Store (Unit {0})
    NP = plain_access P

    abbrev NU : steps.Access Linked State Provenance
    NU = updating_access W

    -- one step that shows these events, to a configuration in the relation
    once : (shown : List Event) (next : UpdConfig) (d e : PlainConfig) → step P d ≡ Goes shown e → R M next e → Follows M (Goes shown next) d
    once shown next d e is r = (e, goes_once (step P) d e shown is, r)

    same_before : (new : List Item) (new' : List Item) → new' ≡ map (merged_item W.permits ρ κ f.origin) new
        → R M (steps.before_rest NU g f fs new) (steps.before_rest NP s q qs new')
    same_before new new' e = (
      ss,
      record {
        stands = sf.stands;
        locals = sf.locals;
        no_flag = sf.no_flag;
        tail = sf.tail;
        is_tail = sf.is_tail;
        items =
            ap₂ ◌++◌ e sf.items ∙ sym (append_assoc (map (merged_item W.permits ρ κ f.origin) new) _ sf.tail)
            ∙ ap (λ l. l ++ sf.tail) (sym (map-append (merged_item W.permits ρ κ f.origin) new f.items));
        gives = sf.gives;
      },
      sb,
    )

    -- ---- a point

    flag_test : steps.value_of NP s q (is_nil now_name) ≡ joined bytes_eq op.Eq (Ok (flag g.now)) (Ok (Num (pos 0)))
    flag_test = ev-test bytes_eq (steps.look NP s q) op.Eq now_name (pos 0)
        ∙ ap (λ z. joined bytes_eq op.Eq (Ok z) (Ok (Num (pos 0)))) (ap₂ local_or sf.no_flag ss.now)

    if_once : (st : Store) (fr : PlainFrame) (ts : List PlainFrame) (d : PlainConfig) (t : Stmt) (p : Pos) (e : Expr) (a b : List Stmt) (v : Value Bytes)
        → step P d ≡ steps.act NP (dropped P) st fr ts t (one.If p e a b) → steps.value_of NP st fr e ≡ Ok v
        → step P d ≡ Goes [] (steps.before_rest NP st fr ts (map Does (if is_zero (number v) then b else a)))
    if_once st fr ts d t p e a b v is read =
        is ∙ ap (λ r. steps.with NP r p (λ w. Goes [] (steps.before_rest NP st fr ts (map Does (if is_zero (number w) then b else a))))) read

    -- the two statements of a swap, in a frame that may have more locals
    module _ (p : Pos) (old : g.now ≡ version.Old) (more : Locals Bytes) (fit : SameFrame M g.now f (record q { locals = more })) where
      abbrev set_now : Stmt
      set_now = stmt.Set p (Into now_name) (Lit (pos 1))

      abbrev call_transform : Stmt
      call_transform = stmt.Call p Nowhere transform_name []

      abbrev rest : PlainFrame
      rest = record q { locals = more }

      abbrev swap1 : PlainFrame
      swap1 = record rest { items = Does call_transform ∷ q.items }

      abbrev swap0 : PlainConfig
      swap0 = Live s (record rest { items = Does set_now ∷ Does call_transform ∷ q.items }) qs

      abbrev flagged : Store
      flagged = record s { values = updated s.values now_name (Num (pos 1)) }

      abbrev entered : PlainConfig
      entered = Live flagged (steps.frame_of NP (tt, func_in P.funcs transform_name) [] Nowhere) (rest ∷ qs)

      set_step : step P swap0 ≡ Goes [] (Live flagged swap1 qs)
      set_step =
          ap (λ l. steps.act NP (dropped P) s swap1 qs set_now l) (stmt.outs-Set p (Into now_name) (Lit (pos 1)))
          ∙ ap (λ r. steps.with NP r p (λ v. Goes [] (steps.stored NP s swap1 qs (Into now_name) v))) (ev-Lit bytes_eq (steps.look NP s swap1) (pos 1))
          ∙ ap (λ a. Goes [] (steps.into NP a s swap1 qs now_name (Num (pos 1)))) fit.no_flag

      call_step : step P (Live flagged swap1 qs) ≡ Goes [] entered
      call_step = ap (λ l. steps.act NP (dropped P) flagged rest qs call_transform l) (stmt.outs-Call p Nowhere transform_name [])

      swap_state : SameState M (swapped_state W g) flagged
      swap_state = record {
        values = λ o x. let c = cell_meaning W o x in
            ap (λ b. if b then Num (pos 1) else s.values (ρ o x)) (names.now_apart o x) ∙ ss.values o x
            ∙ ap (λ n. value' ((settled_by M n g).values c.0 c.1)) old;
        arrays = λ o x. let c = cell_meaning W o x in ss.arrays o x ∙ ap (λ n. (settled_by M n g).arrays c.0 c.1) old;
        now = refl;
      }

      swap_frame : SameFrame M version.New (steps.frame_of NU (code_of W version.New (home.Xform, transform_function)) [] Nowhere) (steps.frame_of NP (tt, func_in P.funcs transform_name) [] Nowhere)
      swap_frame = same_entry M version.New origin.Xform (func_in W.xform.funcs transform_function) (func_in P.funcs transform_name) [] Nowhere Nowhere refl transform.merged

      swap_comes : Comes (step P) swap0 entered
      swap_comes = comes_on (step P) swap0 (Live flagged swap1 qs) entered (silently (step P) _ _ (goes_once (step P) _ _ [] set_step)) (silently (step P) _ _ (goes_once (step P) _ _ [] call_step))

      swap_related : R M (swapped W g f fs) entered
      swap_related = (swap_state, swap_frame, inl (refl, stands_later M f rest g.now fit, below_later M g.now f.gives f.dest fs q.dest qs sb))

    module _ (p : Pos) (k : ℕ) where
      abbrev answered : Bool → Option (Value Bytes)
      answered b = Some (Num (if b then pos 0 else pos 1))

      abbrev with_choice : Bool → Locals Bytes
      with_choice b = updated q.locals choice_name (answered b)

      same_chose : (b : Bool) → SameFrame M g.now f (record q { locals = with_choice b })
      same_chose b = record {
        stands = sf.stands;
        locals = λ y. ap (λ c. if c then answered b else q.locals (ρ f.origin y)) (names.choice_apart f.origin y) ∙ sf.locals y;
        no_flag = sf.no_flag;
        tail = sf.tail;
        is_tail = sf.is_tail;
        items = sf.items;
        gives = sf.gives;
      }

      abbrev inner : Stmt
      inner = stmt.If p (is_set choice_name) (swap_body p) []

      -- after the answer, with the inner choice still to run
      abbrev asked : Bool → PlainConfig
      asked b = Live s (record q { locals = with_choice b; items = Does inner ∷ q.items }) qs

      choice_read : (b : Bool) → steps.value_of NP s (record q { locals = with_choice b }) (is_set choice_name) ≡ joined bytes_eq op.Ne (Ok (Num (if b then pos 0 else pos 1))) (Ok (Num (pos 0)))
      choice_read b = ev-test bytes_eq (steps.look NP s (record q { locals = with_choice b })) op.Ne choice_name (pos 0)

      inner_step : (b : Bool) → step P (asked b) ≡ steps.act NP (dropped P) s (record q { locals = with_choice b }) qs inner (one.If p (is_set choice_name) (swap_body p) [])
      inner_step b = ap (λ l. steps.act NP (dropped P) s (record q { locals = with_choice b }) qs inner l) (stmt.outs-If p (is_set choice_name) (swap_body p) [])

      after_answer : g.now ≡ version.Old → (b : Bool) → (e : PlainConfig) × Comes (step P) (asked b) e × R M (if b then Live g f fs else swapped W g f fs) e
      after_answer old true =
          (_, silently (step P) _ _ (goes_once (step P) _ _ [] (if_once s _ qs (asked true) inner p _ _ _ (Num (pos 0)) (inner_step true) (choice_read true))), (ss, same_chose true, sb))
      after_answer old false = (
        entered p old (with_choice false) (same_chose false),
        comes_on (step P) _ _ _
            (silently (step P) _ _ (goes_once (step P) _ _ [] (if_once s _ qs (asked false) inner p _ _ _ (Num (pos 1)) (inner_step false) (choice_read false))))
            (swap_comes p old (with_choice false) (same_chose false)),
        swap_related p old (with_choice false) (same_chose false),
      )

      -- before the answer
      abbrev asking : PlainConfig
      asking = Live s (record q { items = Does (stmt.Choice p (Fresh kind.Int choice_name) k) ∷ Does inner ∷ q.items }) qs

      asking_step : step P asking ≡ Asks (λ z. event.Choice k (not (is_zero z))) (λ z. asked (is_zero z))
      asking_step = ap (λ l. steps.act NP (dropped P) s (record q { items = Does inner ∷ q.items }) qs (stmt.Choice p (Fresh kind.Int choice_name) k) l) (stmt.outs-Choice p (Fresh kind.Int choice_name) k)

      point_follows : (a c : Bool) (now : Version) → g.now ≡ now → (d : PlainConfig) (t : Stmt)
          → step P d ≡ steps.act NP (dropped P) s q qs t (if a && c then one.If p (is_nil now_name) (point_body p k) [] else one.Skip p)
          → Follows M (if a && (is_old now && c) then Asks (λ z. event.Choice k (not (is_zero z))) (λ z. if is_zero z then Live g f fs else swapped W g f fs) else Goes [] (Live g f fs)) d
      point_follows false c now e d t is = once [] (Live g f fs) d (Live s q qs) is (ss, sf, sb)
      point_follows true false version.Old e d t is = once [] (Live g f fs) d (Live s q qs) is (ss, sf, sb)
      point_follows true false version.New e d t is = once [] (Live g f fs) d (Live s q qs) is (ss, sf, sb)
      point_follows true true version.New e d t is =
          once [] (Live g f fs) d (Live s q qs) (if_once s q qs d t p _ (point_body p k) [] (Num (pos 0)) is (flag_test ∙ ap (λ n. joined bytes_eq op.Eq (Ok (flag n)) (Ok (Num (pos 0)))) e)) (ss, sf, sb)
      point_follows true true version.Old e d t is =
          let first = silently (step P) d asking (goes_once (step P) d asking [] (if_once s q qs d t p _ (point_body p k) [] (Num (pos 1)) is (flag_test ∙ ap (λ n. joined bytes_eq op.Eq (Ok (flag n)) (Ok (Num (pos 0)))) e))) in (
            comes_waits (step P) d asking first (waits_there (step P) asking _ _ asking_step),
            λ z. let r = after_answer e (is_zero z) in
                (r.0, takes_comes (step P) d (asked (is_zero z)) r.0 z _ (comes_takes (step P) d asking _ z _ first (takes_once (step P) asking _ _ z asking_step)) r.1, r.2),
          )

    -- ---- a call

    flag_of : (w : PlainFrame) → w.locals now_name ≡ None → steps.value_of NP s w (is_set now_name) ≡ joined bytes_eq op.Ne (Ok (flag g.now)) (Ok (Num (pos 0)))
    flag_of w none = ev-test bytes_eq (steps.look NP s w) op.Ne now_name (pos 0)
        ∙ ap (λ z. joined bytes_eq op.Ne (Ok z) (Ok (Num (pos 0)))) (ap₂ local_or none ss.now)

    module _ (vs : List (Value Linked)) (d : Dest) where
      abbrev d' : Dest
      d' = renamed_dest (ρ f.origin) d

      abbrev vs' : List (Value Bytes)
      vs' = map value' vs

      padded : (ps : Params M) (n : Bytes) (o : Provenance) (dd : Func) → IsMerged M o dd (func_in P.funcs n) → length (func_in P.funcs n).params ≡ length ps
          → can_stand g.now o ≡ true → (e : Dest)
          → SameFrame M g.now (steps.frame_of NU (o, dd) vs d) (steps.frame_of NP (tt, func_in P.funcs n) (pad M ps vs') e)
      padded ps n o dd merged len stands e =
          let plain : SameFrame M g.now (steps.frame_of NU (o, dd) vs d) (steps.frame_of NP (tt, func_in P.funcs n) vs' e) = same_entry M g.now o dd (func_in P.funcs n) vs d e stands merged in
          record {
            stands = stands;
            locals = λ x. bound-pad M (func_in P.funcs n).params ps vs' (ρ o x) len ∙ plain.locals x;
            no_flag = bound-pad M (func_in P.funcs n).params ps vs' now_name len ∙ plain.no_flag;
            tail = plain.tail;
            is_tail = plain.is_tail;
            items = plain.items;
            gives = plain.gives;
          }

      -- the wrapper calls one version's function, whose frame the updating machine has at once
      hand_follows : (b : Bool) (p : Pos) (ps : Params M) (w : PlainFrame) (n : Bytes) (o : Provenance) (dd : Func) → w.gives ≡ b → w.dest ≡ d' → dd.gives ≡ b
          → AllAre M w.locals ps (pad M ps vs') → IsMerged M o dd (func_in P.funcs n) → length (func_in P.funcs n).params ≡ length ps
          → can_stand g.now o ≡ true → w.items ≡ map Does (hand p b n ps)
          → (e : PlainConfig) × Comes (step P) (Live s w (q ∷ qs)) e × R M (Live g (steps.frame_of NU (o, dd) vs d) (f ∷ fs)) e
      hand_follows true p ps w n o dd gives dest dgives args merged len stands items =
          let w2 : PlainFrame = record w { items = Does (hand_on p) ∷ [] } in
          let e : PlainConfig = Live s (steps.frame_of NP (tt, func_in P.funcs n) (pad M ps vs') (Fresh kind.Int result_name)) (w2 ∷ q ∷ qs) in
          let call : step P (Live s w (q ∷ qs)) ≡ Goes [] e =
          ap (λ l. steps.next_item NP (dropped P) s w (q ∷ qs) l) items
          ∙ ap (λ l. steps.act NP (dropped P) s w2 (q ∷ qs) (stmt.Call p (Fresh kind.Int result_name) n (map (λ x. Var x.1) ps)) l) (stmt.outs-Call p (Fresh kind.Int result_name) n (map (λ x. Var x.1) ps))
          ∙ ap (λ r. steps.with NP r p (λ us. steps.entered NP s w2 (q ∷ qs) n us (Fresh kind.Int result_name))) (read_args M s w2 ps (pad M ps vs') args) in (
            e,
            silently (step P) _ e (goes_once (step P) _ e [] call),
            (ss, padded ps n o dd merged len stands (Fresh kind.Int result_name), inr (subst (λ c. Hands M c (Fresh kind.Int result_name) w2) (sym dgives) (refl, gives, (p, refl)), (dest, sf, sb))),
          )
      hand_follows false p ps w n o dd gives dest dgives args merged len stands items =
          let w2 : PlainFrame = record w { items = [] } in
          let e : PlainConfig = Live s (steps.frame_of NP (tt, func_in P.funcs n) (pad M ps vs') Nowhere) (w2 ∷ q ∷ qs) in
          let call : step P (Live s w (q ∷ qs)) ≡ Goes [] e =
          ap (λ l. steps.next_item NP (dropped P) s w (q ∷ qs) l) items
          ∙ ap (λ l. steps.act NP (dropped P) s w2 (q ∷ qs) (stmt.Call p Nowhere n (map (λ x. Var x.1) ps)) l) (stmt.outs-Call p Nowhere n (map (λ x. Var x.1) ps))
          ∙ ap (λ r. steps.with NP r p (λ us. steps.entered NP s w2 (q ∷ qs) n us Nowhere)) (read_args M s w2 ps (pad M ps vs') args) in (
            e,
            silently (step P) _ e (goes_once (step P) _ e [] call),
            (ss, padded ps n o dd merged len stands Nowhere, inr (subst (λ c. Hands M c Nowhere w2) (sym dgives) (refl, gives, refl), (dest, sf, sb))),
          )

      abbrev entry : Linked → PlainConfig
      entry c = Live s (steps.frame_of NP (tt, func_in P.funcs (κ' c)) vs' d') (q ∷ qs)

      branch : (x : Bytes) (now : Version) (is : IsWrapper M x) → can_stand g.now (version_code W now x).0 ≡ true
          → step P (entry (home.Both, x)) ≡ steps.act NP (dropped P) s (record (steps.frame_of NP (tt, func_in P.funcs (κ' (home.Both, x))) vs' d') { items = [] }) (q ∷ qs)
          (stmt.If is.at (is_set now_name) (hand is.at (func_in P.funcs (κ' (home.Both, x))).gives (κ' (home.New, x)) (func_in P.funcs (κ' (home.Both, x))).params) (hand is.at (func_in P.funcs (κ' (home.Both, x))).gives (κ' (home.Old, x)) (func_in P.funcs (κ' (home.Both, x))).params))
          (one.If is.at (is_set now_name) (hand is.at (func_in P.funcs (κ' (home.Both, x))).gives (κ' (home.New, x)) (func_in P.funcs (κ' (home.Both, x))).params) (hand is.at (func_in P.funcs (κ' (home.Both, x))).gives (κ' (home.Old, x)) (func_in P.funcs (κ' (home.Both, x))).params))
          → steps.value_of NP s (record (steps.frame_of NP (tt, func_in P.funcs (κ' (home.Both, x))) vs' d') { items = [] }) (is_set now_name) ≡ joined bytes_eq op.Ne (Ok (flag now)) (Ok (Num (pos 0)))
          → (e : PlainConfig) × Comes (step P) (entry (home.Both, x)) e × R M (Live g (steps.frame_of NU (version_code W now x) vs d) (f ∷ fs)) e
      branch x version.Old is stands begin read =
          let fn = func_in P.funcs (κ' (home.Both, x)) in
          let w : PlainFrame = record (steps.frame_of NP (tt, fn) vs' d') { items = map Does (hand is.at fn.gives (κ' (home.Old, x)) fn.params) ++ [] } in
          let r = hand_follows fn.gives is.at fn.params w (κ' (home.Old, x)) origin.Old (func_in W.first.funcs x) refl refl is.old_gives (all_bound M fn.params vs' is.distinct) is.old is.old_params stands (append-nil (map Does (hand is.at fn.gives (κ' (home.Old, x)) fn.params))) in (
            r.0,
            comes_on (step P) (entry (home.Both, x)) (Live s w (q ∷ qs)) r.0
                (silently (step P) _ _ (goes_once (step P) _ _ [] (if_once s _ (q ∷ qs) (entry (home.Both, x)) (stmt.Skip is.at) is.at _ _ _ (Num (pos 0)) begin read))) r.1,
            r.2,
          )
      branch x version.New is stands begin read =
          let fn = func_in P.funcs (κ' (home.Both, x)) in
          let w : PlainFrame = record (steps.frame_of NP (tt, fn) vs' d') { items = map Does (hand is.at fn.gives (κ' (home.New, x)) fn.params) ++ [] } in
          let r = hand_follows fn.gives is.at fn.params w (κ' (home.New, x)) origin.New (func_in W.second.funcs x) refl refl is.new_gives (all_bound M fn.params vs' is.distinct) is.new is.new_params stands (append-nil (map Does (hand is.at fn.gives (κ' (home.New, x)) fn.params))) in (
            r.0,
            comes_on (step P) (entry (home.Both, x)) (Live s w (q ∷ qs)) r.0
                (silently (step P) _ _ (goes_once (step P) _ _ [] (if_once s _ (q ∷ qs) (entry (home.Both, x)) (stmt.Skip is.at) is.at _ _ _ (Num (pos 1)) begin read))) r.1,
            r.2,
          )

      both_follows : (x : Bytes) (now : Version) → g.now ≡ now → IsWrapper M x → can_stand g.now (version_code W now x).0 ≡ true
          → (e : PlainConfig) × Comes (step P) (entry (home.Both, x)) e × R M (Live g (steps.frame_of NU (version_code W now x) vs d) (f ∷ fs)) e
      both_follows x now same is stands =
          let fn = func_in P.funcs (κ' (home.Both, x)) in
          let w0 : PlainFrame = steps.frame_of NP (tt, fn) vs' d' in
          let w1 : PlainFrame = record w0 { items = [] } in
          let test : Stmt = stmt.If is.at (is_set now_name) (hand is.at fn.gives (κ' (home.New, x)) fn.params) (hand is.at fn.gives (κ' (home.Old, x)) fn.params) in
          let begin : step P (entry (home.Both, x)) ≡ steps.act NP (dropped P) s w1 (q ∷ qs) test (one.If is.at (is_set now_name) (hand is.at fn.gives (κ' (home.New, x)) fn.params) (hand is.at fn.gives (κ' (home.Old, x)) fn.params)) =
          ap (λ b. steps.next_item NP (dropped P) s w0 (q ∷ qs) (map Does b)) is.body
          ∙ ap (λ l. steps.act NP (dropped P) s w1 (q ∷ qs) test l) (stmt.outs-If is.at (is_set now_name) (hand is.at fn.gives (κ' (home.New, x)) fn.params) (hand is.at fn.gives (κ' (home.Old, x)) fn.params)) in
          let read = flag_of w1 (no_flag-bound M fn.params vs' is.no_flag) ∙ ap (λ n. joined bytes_eq op.Ne (Ok (flag n)) (Ok (Num (pos 0)))) same in
          branch x now is stands begin read

      leads_comes : (c e h : PlainConfig) → Leads (step P) c [] e → Comes (step P) e h → Leads (step P) c [] h
      leads_comes c e h p r = record { by = λ n a. let y = r.by n a in let x = p.by y.0 a in (x.0, omega (arith, x.1, y.1), x.2 ∙ y.2) }

      directly : (k : Linked) → IsDirect M g.now k → can_stand g.now (code_of W g.now k).0 ≡ true → (c : PlainConfig) → step P c ≡ Goes [] (entry k)
          → Follows M (Goes [] (Live g (steps.frame_of NU (code_of W g.now k) vs d) (f ∷ fs))) c
      directly k is stands c step_is = (
        entry k,
        goes_once (step P) c (entry k) [] step_is,
        (ss, same_entry M g.now (code_of W g.now k).0 (code_of W g.now k).1 (func_in P.funcs (κ' k)) vs d d' stands is, inl (refl, sf, sb)),
      )

      call_follows : (k : Linked) → IsCallable M g.now k → can_stand g.now (code_of W g.now k).0 ≡ true → (c : PlainConfig) → step P c ≡ Goes [] (entry k)
          → Follows M (Goes [] (Live g (steps.frame_of NU (code_of W g.now k) vs d) (f ∷ fs))) c
      call_follows (home.Both, x) is stands c step_is =
          let r = both_follows x g.now refl is stands in
          (r.0, leads_comes c (entry (home.Both, x)) r.0 (goes_once (step P) c (entry (home.Both, x)) [] step_is) r.1, r.2)
      call_follows (home.Old, x) is stands c step_is = directly (home.Old, x) is stands c step_is
      call_follows (home.New, x) is stands c step_is = directly (home.New, x) is stands c step_is
      call_follows (home.Xform, x) is stands c step_is = directly (home.Xform, x) is stands c step_is
      call_follows (home.Client, x) is stands c step_is = directly (home.Client, x) is stands c step_is
      call_follows (home.Unlinked, x) is stands c step_is = directly (home.Unlinked, x) is stands c step_is

    -- ---- each kind of statement

    abbrev reads : (e : Expr) → steps.value_of NP s q (under (ρ f.origin) (κ f.origin) e) ≡ renamed_answer κ' (steps.value_of NU g f e)
    reads e = value_of-renamed M g s f q ss sf e

    stores : (d : Dest) (v : Value Linked) → R M (steps.stored NU g f fs d v) (steps.stored NP s q qs (renamed_dest (ρ f.origin) d) (value' v))
    stores = same_stored M g s f q fs qs ss sf sb

    all_read : (es : List Expr) → steps.values_of NP s q (map (under (ρ f.origin) (κ f.origin)) es) ≡ renamed_answers M (steps.values_of NU g f es)
    all_read [] = refl
    all_read (e ∷ es) = ap₂ (steps.and_values NP) (reads e) (all_read es) ∙ and-renamed M (steps.value_of NU g f e) (steps.values_of NU g f es)

    same_elements : (a : Bytes) (at v : Value Linked) → steps.elements_with (NP.elements tt s (ρ f.origin a)) (number (value' at)) (number (value' v)) ≡ steps.elements_with (NU.elements f.origin g a) (number at) (number v)
    same_elements a at v = let k = cell_meaning W f.origin a in
        ap (λ r. steps.elements_with r (number (value' at)) (number (value' v))) (ss.arrays f.origin a ∙ (settled_there M g.now g k.0 k.1 (cells_there M g.now f.origin sf.stands a)).1)
        ∙ ap₂ (steps.elements_with (NU.elements f.origin g a)) (number-renamed κ' at) (number-renamed κ' v)

    comes_after : (c e h : PlainConfig) → Leads (step P) c [] e → Comes (step P) e h → Leads (step P) c [] h
    comes_after c e h p r = record { by = λ n a. let y = r.by n a in let x = p.by y.0 a in (x.0, omega (arith, x.1, y.1), x.2 ∙ y.2) }

    force_follows : (p : Pos) (now : Version) → g.now ≡ now → (c : PlainConfig) (t : Stmt) → step P c ≡ steps.act NP (dropped P) s q qs t (one.If p (is_nil now_name) (swap_body p) [])
        → Follows M (Goes [] (if is_old now then swapped W g f fs else Live g f fs)) c
    force_follows p version.New e c t is =
        once [] (Live g f fs) c (Live s q qs) (if_once s q qs c t p _ (swap_body p) [] (Num (pos 0)) is (flag_test ∙ ap (λ n. joined bytes_eq op.Eq (Ok (flag n)) (Ok (Num (pos 0)))) e)) (ss, sf, sb)
    force_follows p version.Old e c t is = (
      entered p e q.locals sf,
      comes_after c (swap0 p e q.locals sf) (entered p e q.locals sf)
          (goes_once (step P) c _ [] (if_once s q qs c t p _ (swap_body p) [] (Num (pos 1)) is (flag_test ∙ ap (λ n. joined bytes_eq op.Eq (Ok (flag n)) (Ok (Num (pos 0)))) e)))
          (swap_comes p e q.locals sf),
      swap_related p e q.locals sf,
    )

    pointer_follows : (v : Value Linked) → MayCall M g.now v → (vs : List (Value Linked)) (d : Dest) (p : Pos) (c : PlainConfig)
        → step P c ≡ steps.by_pointer NP (value' v) s q qs (map value' vs) (renamed_dest (ρ f.origin) d) p → Follows M (steps.by_pointer NU v g f fs vs d p) c
    pointer_follows (Num z) h vs d p c is = once (event.Fault NullCall p ∷ []) Over c Over is refl
    pointer_follows Null h vs d p c is = once (event.Fault NullCall p ∷ []) Over c Over is refl
    pointer_follows (Code k) h vs d p c is = call_follows vs d k h.0 h.1 c is

    -- a call by a function's name
    called_follows : (t : Stmt) (p : Pos) (d : Dest) (x : Bytes) (es : List Expr) → MayCall M g.now (Code (function_meaning W f.origin x)) → (c : PlainConfig)
        → step P c ≡ steps.act NP (dropped P) s q qs t (one.Call p (renamed_dest (ρ f.origin) d) (κ f.origin x) (map (under (ρ f.origin) (κ f.origin)) es))
        → Follows M (steps.with NU (steps.values_of NU g f es) p (λ vs. steps.entered NU g f fs (NU.code f.origin g x) vs d)) c
    called_follows t p d x es may c is = by_values M (steps.values_of NU g f es) _ (all_read es) p (λ vs. steps.entered NU g f fs (NU.code f.origin g x) vs d)
        (λ vs. steps.entered NP s q qs (κ f.origin x) vs (renamed_dest (ρ f.origin) d)) c is (λ vs e'.
        call_follows vs d (function_meaning W f.origin x) may.0 may.1 c
        (e' ∙ ap (λ n. steps.entered NP s q qs n (map value' vs) (renamed_dest (ρ f.origin) d)) (names.codes f.origin x)))

    -- the merged program tests the flag before the chosen call
    chosen_follows : (c : PlainConfig) (st : Stmt) (l : Stmt-F Stmt) → out-Stmt st ≡ l → IsReadyCall M g f l → step P c ≡ Goes [] (steps.before_rest NP s q qs (Does (m st) ∷ []))
        → Follows M (picked W g f fs st l) c
    chosen_follows c st (one.Call p d x es) e may is =
        let c1 : PlainConfig = steps.before_rest NP s q qs (Does (m st) ∷ []) in
        matches_after (step_updating W) (step P) (R M) _ c c1 (silently (step P) c c1 (goes_once (step P) c c1 [] is))
        (called_follows (m st) p d x es may c1
        (ap (λ l. steps.act NP (dropped P) s q qs (m st) l) (out_merged W.permits ρ κ f.origin st ∙ ap (λ l. merged_layer W.permits ρ κ f.origin (map-Stmt Stmt Stmt m l)) e)))
    chosen_follows c st l e may is =
        once [] (steps.before_rest NU g f fs (Does st ∷ [])) c (steps.before_rest NP s q qs (Does (m st) ∷ [])) is (same_before (Does st ∷ []) (Does (m st) ∷ []) refl)

    pick_follows : (p : Pos) (a b : Stmt) (now : Version) → g.now ≡ now → IsReadyCall M g f (out-Stmt (if is_old now then b else a)) → (c : PlainConfig) (t : Stmt) → step P c ≡ steps.act NP (dropped P) s q qs t (one.If p (is_set now_name) (m a ∷ []) (m b ∷ []))
        → Follows M (let st = (if is_old now then b else a) in picked W g f fs st (out-Stmt st)) c
    pick_follows p a b version.New e may c t is = chosen_follows c a (out-Stmt a) refl may
        (if_once s q qs c t p (is_set now_name) (m a ∷ []) (m b ∷ []) (Num (pos 1)) is (flag_of q sf.no_flag ∙ ap (λ n. joined bytes_eq op.Ne (Ok (flag n)) (Ok (Num (pos 0)))) e))
    pick_follows p a b version.Old e may c t is = chosen_follows c b (out-Stmt b) refl may
        (if_once s q qs c t p (is_set now_name) (m a ∷ []) (m b ∷ []) (Num (pos 0)) is (flag_of q sf.no_flag ∙ ap (λ n. joined bytes_eq op.Ne (Ok (flag n)) (Ok (Num (pos 0)))) e))

    left_renamed : (v : Value Linked) → steps.handed NP s q.dest (steps.given NP q.gives (value' v)) qs ≡ steps.handed NP s q.dest (value' (steps.given NU f.gives v)) qs
    left_renamed v = ap (λ b. steps.handed NP s q.dest (steps.given NP b (value' v)) qs) sf.gives ∙ ap (λ z. steps.handed NP s q.dest z qs) (given-renamed M f.gives v)

    kind_follows : (t : Stmt) (l : Stmt-F Stmt) → IsReady M g f l → (c : PlainConfig)
        → step P c ≡ steps.act NP (dropped P) s q qs (m t) (merged_layer W.permits ρ κ f.origin (map-Stmt Stmt Stmt m l)) → Follows M (steps.act NU (update W) g f fs t l) c
    kind_follows t (one.Skip p) h c is = once [] (Live g f fs) c (Live s q qs) is (ss, sf, sb)
    kind_follows t (one.Set p d e) h c is = by_answer M _ _ (reads e) p _ _ c is (λ v e'. once [] (steps.stored NU g f fs d v) c (steps.stored NP s q qs (renamed_dest (ρ f.origin) d) (value' v)) e' (stores d v))
    kind_follows t (one.SetElem p a i e) h c is = by_answer M _ _ (reads i) p _ _ c is (λ at e1. by_answer M _ _ (reads e) p _ _ c e1 (λ v e2.
        by_elements M (steps.elements_with (NU.elements f.origin g a) (number at) (number v)) p (λ elements. Goes [] (Live (NU.put_elements f.origin a elements g) f fs)) (λ elements. Goes [] (Live (NP.put_elements tt (ρ f.origin a) elements s) q qs)) c
        (e2 ∙ ap (λ r. steps.with_elements NP r p (λ elements. Goes [] (Live (NP.put_elements tt (ρ f.origin a) elements s) q qs))) (same_elements a at v))
        (λ elements e3. once [] (Live (NU.put_elements f.origin a elements g) f fs) c (Live (NP.put_elements tt (ρ f.origin a) elements s) q qs) e3 (same_put_elements M g s f.origin a elements (cells_there M g.now f.origin sf.stands a) ss, sf, sb))))
    kind_follows t (one.Call p d x es) h c is = called_follows (m t) p d x es h c is
    kind_follows t (one.CallBy p d x es) h c is = by_values M (steps.values_of NU g f es) _ (all_read es) p (λ vs. steps.by_pointer NU ((steps.look NU g f).value x) g f fs vs d p)
        (λ vs. steps.by_pointer NP ((steps.look NP s q).value (ρ f.origin x)) s q qs vs (renamed_dest (ρ f.origin) d) p) c is (λ vs e'.
        pointer_follows ((steps.look NU g f).value x) h vs d p c
        (e' ∙ ap (λ v. steps.by_pointer NP v s q qs (map value' vs) (renamed_dest (ρ f.origin) d) p) ((carries M g s f q ss sf).value x)))
    kind_follows t (one.If p e a b) h c is = by_answer M _ _ (reads e) p _ _ c is (λ v e'.
        once [] (steps.before_rest NU g f fs (map Does (if is_zero (number v) then b else a))) c (steps.before_rest NP s q qs (map Does (if is_zero (number v) then map m b else map m a)))
        (e' ∙ ap (λ n. Goes [] (steps.before_rest NP s q qs (map Does (if is_zero n then map m b else map m a)))) (number-renamed κ' v)) (branch (is_zero (number v)) a b))
      where
        branch : (z : Bool) (a b : List Stmt) → R M (steps.before_rest NU g f fs (map Does (if z then b else a))) (steps.before_rest NP s q qs (map Does (if z then map m b else map m a)))
        branch true a b = same_before _ _ (does_map M f.origin b)
        branch false a b = same_before _ _ (does_map M f.origin a)
    kind_follows t (one.While p e a) h c is = by_answer M _ _ (reads e) p _ _ c is (λ v e'.
        once [] (if is_zero (number v) then Live g f fs else steps.before_rest NU g f fs (map Does a ++ Mark t ∷ [])) c (if is_zero (number v) then Live s q qs else steps.before_rest NP s q qs (map Does (map m a) ++ Mark (m t) ∷ []))
        (e' ∙ ap (λ n. Goes [] (if is_zero n then Live s q qs else steps.before_rest NP s q qs (map Does (map m a) ++ Mark (m t) ∷ []))) (number-renamed κ' v))
        (same_if M (is_zero (number v)) _ _ _ _ (ss, sf, sb) (same_before (map Does a ++ Mark t ∷ []) _
        (ap (λ x. x ++ Mark (m t) ∷ []) (does_map M f.origin a) ∙ sym (map-append (merged_item W.permits ρ κ f.origin) (map Does a) (Mark t ∷ []))))))
    kind_follows t (one.Break p) h c is =
        let left = after_mark-map M f.origin f.items sf.tail sf.is_tail in
        let broken : SameFrame M g.now (record f { items = after_mark f.items }) (record q { items = after_mark q.items }) =
        record {
          stands = sf.stands;
          locals = sf.locals;
          no_flag = sf.no_flag;
          tail = left.0;
          is_tail = left.1;
          items = ap after_mark sf.items ∙ left.2;
          gives = sf.gives;
        } in
        once [] (Live g (record f { items = after_mark f.items }) fs) c (Live s (record q { items = after_mark q.items }) qs) is (ss, broken, sb)
    kind_follows t (one.Return p None) h c is = handed_follows M g s ss f.gives (Num (pos 0)) f.dest q.dest fs qs c sb (is ∙ left_renamed (Num (pos 0)))
    kind_follows t (one.Return p (Some e)) h c is = by_answer M _ _ (reads e) p _ _ c is (λ v e'. handed_follows M g s ss f.gives v f.dest q.dest fs qs c sb (e' ∙ left_renamed v))
    kind_follows t (one.Assert p e) h c is = by_answer M _ _ (reads e) p _ _ c is (λ v e'.
        by_test M (is_zero (number v)) _ _ _ _ c (e' ∙ ap (λ n. if is_zero n then steps.trapped NP Assert p else Goes [] (Live s q qs)) (number-renamed κ' v))
        (λ y. once (event.Fault Assert p ∷ []) Over c Over y refl) (λ y. once [] (Live g f fs) c (Live s q qs) y (ss, sf, sb)))
    kind_follows t (one.Input p d) h c is = (waits_there (step P) c _ _ is, λ z. (_, takes_once (step P) c _ _ z is, stores d (Num z)))
    kind_follows t (one.Output p e) h c is = by_answer M _ _ (reads e) p _ _ c is (λ v e'.
        once (event.Output (number v) ∷ []) (Live g f fs) c (Live s q qs) (e' ∙ ap (λ z. Goes (event.Output z ∷ []) (Live s q qs)) (number-renamed κ' v)) (ss, sf, sb))
    kind_follows t (one.Point p k) h c is = point_follows p k (may_update f.origin) (W.permits k) g.now refl c (m t) is
    kind_follows t (one.Choice p d k) h c is = (waits_there (step P) c _ _ is, λ z. (_, takes_once (step P) c _ _ z is, stores d (Num (if is_zero z then pos 0 else pos 1))))
    kind_follows t (one.Force p) h c is = force_follows p g.now refl c (m t) is
    kind_follows t (one.Pick p a b) h c is = pick_follows p a b g.now refl h c (m t) is

  abbrev pub IsReadyFor : State → UpdFrame → List Item → Type 0
  IsReadyFor g f [] = Unit {0}
  IsReadyFor g f (Does t ∷ is) = IsReady M g f (out-Stmt t)
  IsReadyFor g f (Mark t ∷ is) = IsReady M g f (out-Stmt t)

  -- the frame without its first item
  abbrev without_first : {now : Version} (f : UpdFrame) (q : PlainFrame) → SameFrame M now f q → List Item → PlainFrame
  without_first f q sf is = record q { items = map (merged_item W.permits ρ κ f.origin) is ++ sf.tail }

  rest_of : (g : State) (f : UpdFrame) (q : PlainFrame) (sf : SameFrame M g.now f q) (is : List Item) → SameFrame M g.now (record f { items = is }) (without_first f q sf is)
  rest_of g f q sf is = record {
    stands = sf.stands;
    locals = sf.locals;
    no_flag = sf.no_flag;
    tail = sf.tail;
    is_tail = sf.is_tail;
    items = refl;
    gives = sf.gives;
  }

  module _ (transform : HasTransform M) (funcs : HasFuncs M) where
    item_follows : (g : State) (s : Store) (f : UpdFrame) (q : PlainFrame) (fs : List UpdFrame) (qs : List PlainFrame)
        → SameState M g s → (sf : SameFrame M g.now f q) → Below M g.now f.gives f.dest fs q.dest qs
        → (is : List Item) → q.items ≡ map (merged_item W.permits ρ κ f.origin) is ++ sf.tail → IsReadyFor g f is
        → Follows M (steps.next_item (updating_access W) (update W) g f fs is) (Live s q qs)
    item_follows g s f q fs qs ss sf sb [] e h =
        handed_follows M g s ss f.gives (Num (pos 0)) f.dest q.dest fs qs (Live s q qs) sb
        (ap (λ l. steps.next_item (plain_access P) (dropped P) s q qs l) e ∙ tail_hands M s q qs sf.tail sf.is_tail
        ∙ left_renamed transform funcs g s f q fs qs ss sf sb (Num (pos 0)))
    item_follows g s f q fs qs ss sf sb (Does t ∷ is) e h =
        let r = rest_of g f q sf is in
        kind_follows transform funcs g s (record f { items = is }) (without_first f q sf is) fs qs ss r sb t (out-Stmt t) h (Live s q qs)
        (ap (λ l. steps.next_item (plain_access P) (dropped P) s q qs l) e
        ∙ ap (λ l. steps.act (plain_access P) (dropped P) s (without_first f q sf is) qs (merged_stmt W.permits ρ κ f.origin t) l) (out_merged W.permits ρ κ f.origin t))
    item_follows g s f q fs qs ss sf sb (Mark t ∷ is) e h =
        let r = rest_of g f q sf is in
        kind_follows transform funcs g s (record f { items = is }) (without_first f q sf is) fs qs ss r sb t (out-Stmt t) h (Live s q qs)
        (ap (λ l. steps.next_item (plain_access P) (dropped P) s q qs l) e
        ∙ ap (λ l. steps.act (plain_access P) (dropped P) s (without_first f q sf is) qs (merged_stmt W.permits ρ κ f.origin t) l) (out_merged W.permits ρ κ f.origin t))

    abbrev pub IsReadyAt : UpdConfig → Type 0
    IsReadyAt Over = Unit {0}
    IsReadyAt (Live g f fs) = IsReadyFor g f f.items

    pub matched : (c : UpdConfig) (d : PlainConfig) → R M c d → IsReadyAt c → Follows M (step_updating W c) d
    matched Over d r i = ends_there (step P) d (ap (step P) r)
    matched (Live g f fs) Over r i = absurd r
    matched (Live g f fs) (Live s q qs) r i = item_follows g s f q fs qs r.0 r.1 r.2 f.items r.1.items i
