-- Frames are entered and left alike.
use Rattle.std.proofs.Common.{◌≡◌, pos, Bool, true, false, if◌then◌else◌, List, [], ◌∷◌, ◌++◌, map, Option, Some, None, Ok, refl, ap, ap₂, ◌∙◌, ◌⊎◌, inl, inr}
use Rattle.std.proofs.lemmas.List.{map-append}
use Rattle.std.specs.Option.{option_map}
use Rattle.std.specs.Str.{bytes_eq}
use Rattle.c_lang.specs.Names.{Bytes}
use Rattle.c_lang.specs.Values.{Value, Num, number}
use Rattle.plain_run.specs.Moves.{Move, Goes}
use Rattle.plain_run.specs.Steps as steps
use Rattle.plain_run.specs.Steps.{updated, Item, Does, Mark, Live, Over, after_mark}
use Rattle.c_lang.specs.Programs.{func_in}
use Rattle.plain_run.specs.PlainRun.{Store, PlainFrame, PlainConfig, plain_access, dropped, step}
use Rattle.version_names.specs.Version.{Version}
use Rattle.version_names.specs.Version as version
use Rattle.version_names.specs.Home.{Linked}
use Rattle.version_names.specs.Provenance.{Provenance}
use Rattle.version_names.specs.Provenance as origin
use Rattle.update_semantics.specs.UpdatingRun.{State, UpdFrame, UpdConfig, updating_access}
use Rattle.plain_run.proofs.Simulation.{Leads, Comes, goes_once, then_leads, silently}
use Rattle.c_lang.specs.declared.unit.Pos.{Pos}
use Rattle.c_lang.specs.declared.event.Event.TheVariants as event
use Rattle.c_lang.specs.declared.expr.Expr.TheVariants.{Var, Lit}
use Rattle.c_lang.specs.declared.stmt.Kind.{Kind}
use Rattle.c_lang.specs.declared.stmt.Dest.{Dest}
use Rattle.c_lang.specs.declared.stmt.Stmt.{Stmt}
use Rattle.c_lang.specs.declared.stmt.Stmt.TheVariants as stmt
use Rattle.c_lang.specs.declared.program.Func.{Func}
use Rattle.merged_program.specs.Names.{now_name, result_name}
use Rattle.merged_runs.proofs.MergedStatements.{transform_name, hand_on, return_zero, merged_stmt, merged_item}
use Rattle.merged_runs.proofs.EvaluationRenamed.{renamed_value, number-renamed, ev-Var, ev-Lit}
use Rattle.merged_runs.proofs.Relation.{Merging, can_stand, IsTail, transform_function, SameState, SameFrame, Hands, Ends, Below, R, Follows}
use Rattle.merged_runs.proofs.StateLemmas.{same_stored}

module _ (M : Merging) where
  open M use {world as W, variable_name as ρ, function_name as κ, value_name as κ', naming as names, program as P}

  abbrev value' : Value Linked → Value Bytes
  value' = renamed_value κ'

  -- ---- the frames after a swap

  pub stands_later : (f : UpdFrame) (q : PlainFrame) (now : Version) → SameFrame M now f q → SameFrame M version.New f q
  stands_later f q now sf = record {
    stands = refl;
    locals = sf.locals;
    no_flag = sf.no_flag;
    tail = sf.tail;
    is_tail = sf.is_tail;
    items = sf.items;
    gives = sf.gives;
  }

  pub below_later : (now : Version) (b : Bool) (d : Dest) (fs : List UpdFrame) (e : Dest) (qs : List PlainFrame) → Below M now b d fs e qs → Below M version.New b d fs e qs
  below_later now b d [] e qs h = h
  below_later now b d (f ∷ fs) e [] (inl h) = absurd h
  below_later now b d (f ∷ fs) e [] (inr h) = absurd h
  below_later now b d (f ∷ fs) e (q ∷ qs) (inl h) = inl (h.0, stands_later f q now h.1, below_later now f.gives f.dest fs q.dest qs h.2)
  below_later now b d (f ∷ fs) e (w ∷ []) (inr h) = absurd h.1
  below_later now b d (f ∷ fs) e (w ∷ q ∷ qs) (inr h) = inr (h.0, (h.1.0, stands_later f q now h.1.1, below_later now f.gives f.dest fs q.dest qs h.1.2))

  pub does_map : (o : Provenance) (ts : List Stmt) → map Does (map (merged_stmt W.permits ρ κ o) ts) ≡ map (merged_item W.permits ρ κ o) (map Does ts)
  does_map o [] = refl
  does_map o (t ∷ ts) = ap (λ l. Does (merged_stmt W.permits ρ κ o t) ∷ l) (does_map o ts)

  -- no mark stands in a tail: where the items have none either, nothing is left
  pub after_mark-map : (o : Provenance) (is tail : List Item) → IsTail tail
      → (left : List Item) × IsTail left × (after_mark (map (merged_item W.permits ρ κ o) is ++ tail) ≡ map (merged_item W.permits ρ κ o) (after_mark is) ++ left)
  after_mark-map o [] tail (inl e) = ([], inl refl, ap after_mark e)
  after_mark-map o [] tail (inr e) = ([], inl refl, ap after_mark e.1)
  after_mark-map o (Does t ∷ is) tail h = after_mark-map o is tail h
  after_mark-map o (Mark t ∷ is) tail h = (tail, h, refl)

  pub by_test : (b : Bool) (x y : Move UpdConfig) (x' y' : Move PlainConfig) (d : PlainConfig) → step P d ≡ (if b then x' else y')
      → (step P d ≡ x' → Follows M x d) → (step P d ≡ y' → Follows M y d) → Follows M (if b then x else y) d
  by_test true x y x' y' d is h k = h is
  by_test false x y x' y' d is h k = k is

  pub same_if : (b : Bool) (x y : UpdConfig) (x' y' : PlainConfig) → R M x x' → R M y y' → R M (if b then x else y) (if b then x' else y')
  same_if true x y x' y' r r' = r
  same_if false x y x' y' r r' = r'

  -- ---- parameters

  abbrev param' : Provenance → Kind × Bytes → Kind × Bytes
  param' o p = (p.0, ρ o p.1)

  bound-renamed : (o : Provenance) (ps : List (Kind × Bytes)) (vs : List (Value Linked)) (x : Bytes)
      → steps.bound (map (param' o) ps) (map value' vs) (ρ o x) ≡ option_map value' (steps.bound ps vs x)
  bound-renamed o [] vs x = refl
  bound-renamed o (p ∷ ps) [] x =
      ap₂ (λ b z. if b then Some (Num (pos 0)) else z) (names.locals o p.1 x) (bound-renamed o ps [] x) ∙ pick_bound (bytes_eq p.1 x) (Num (pos 0)) (steps.bound ps [] x)
    where
      pick_bound : (b : Bool) (v : Value Linked) (w : Option (Value Linked)) → (if b then Some (value' v) else option_map value' w) ≡ option_map value' (if b then Some v else w)
      pick_bound true v w = refl
      pick_bound false v w = refl
  bound-renamed o (p ∷ ps) (v ∷ vs) x =
      ap₂ (λ b z. if b then Some (value' v) else z) (names.locals o p.1 x) (bound-renamed o ps vs x) ∙ pick_bound (bytes_eq p.1 x) v (steps.bound ps vs x)
    where
      pick_bound : (b : Bool) (v : Value Linked) (w : Option (Value Linked)) → (if b then Some (value' v) else option_map value' w) ≡ option_map value' (if b then Some v else w)
      pick_bound true v w = refl
      pick_bound false v w = refl

  bound-apart : (o : Provenance) (ps : List (Kind × Bytes)) (vs : List (Value Bytes)) → steps.bound (map (param' o) ps) vs now_name ≡ None
  bound-apart o [] vs = refl
  bound-apart o (p ∷ ps) [] = ap (λ b. if b then Some (Num (pos 0)) else steps.bound (map (param' o) ps) [] now_name) (names.apart_now o p.1) ∙ bound-apart o ps []
  bound-apart o (p ∷ ps) (v ∷ vs) = ap (λ b. if b then Some v else steps.bound (map (param' o) ps) vs now_name) (names.apart_now o p.1) ∙ bound-apart o ps vs

  -- what may stand behind a body
  abbrev pub IsBehind : List Stmt → Type 0
  IsBehind behind = (behind ≡ []) ⊎ ((p : Pos) × (behind ≡ return_zero p ∷ []))

  -- a function of the merged program that is a function of one part under the merged names
  pub record IsMerged (o : Provenance) (d m : Func) : Type 0 where
    pub params : m.params ≡ map (param' o) d.params
    pub behind : List Stmt
    pub is_behind : IsBehind behind
    pub body : m.body ≡ map (merged_stmt W.permits ρ κ o) d.body ++ behind
    pub gives : m.gives ≡ d.gives

  behind-tail : (behind : List Stmt) → IsBehind behind → IsTail (map Does behind)
  behind-tail behind (inl e) = inl (ap (map Does) e)
  behind-tail behind (inr e) = inr (e.0, ap (map Does) e.1)

  pub same_entry : (now : Version) (o : Provenance) (d m : Func) (vs : List (Value Linked)) (e e' : Dest) → can_stand now o ≡ true → IsMerged o d m
      → SameFrame M now (steps.frame_of (updating_access W) (o, d) vs e) (steps.frame_of (plain_access P) (tt, m) (map value' vs) e')
  same_entry now o d m vs e e' stands is = record {
    stands = stands;
    locals = λ x. ap (λ ps. steps.bound ps (map value' vs) (ρ o x)) is.params ∙ bound-renamed o d.params vs x;
    no_flag = ap (λ ps. steps.bound ps (map value' vs) now_name) is.params ∙ bound-apart o d.params (map value' vs);
    tail = map Does is.behind;
    is_tail = behind-tail is.behind is.is_behind;
    items =
        ap (map Does) is.body ∙ map-append Does (map (merged_stmt W.permits ρ κ o) d.body) is.behind
        ∙ ap (λ l. l ++ map Does is.behind) (does_map o d.body);
    gives = is.gives;
  }

  -- ---- a frame is left

  pub given-renamed : (b : Bool) (v : Value Linked) → steps.given (plain_access P) b (value' v) ≡ value' (steps.given (updating_access W) b v)
  given-renamed true v = refl
  given-renamed false v = refl

  -- a frame that hands on comes to hand the value over itself
  hands_on : (s : Store) (b : Bool) (e : Dest) (w : PlainFrame) (qs : List PlainFrame) (v : Value Linked) (c : PlainConfig) → Hands M b e w
      → step P c ≡ Goes [] (steps.stored (plain_access P) s w qs e (value' (steps.given (updating_access W) b v)))
      → (d : PlainConfig) × (step P d ≡ steps.handed (plain_access P) s w.dest (value' (steps.given (updating_access W) b v)) qs) × Comes (step P) c d
  hands_on s true e w qs v c h is =
      let w1 : PlainFrame = record w { locals = updated w.locals result_name (Some (value' v)) } in
      let c1 : PlainConfig = Live s w1 qs in
      let w2 : PlainFrame = record w1 { items = [] } in
      let one : step P c ≡ Goes [] c1 = is ∙ ap (λ z. Goes [] (steps.stored (plain_access P) s w qs z (value' v))) h.0 in
      let read : steps.value_of (plain_access P) s w2 (Var result_name) ≡ Ok (value' v) = ev-Var bytes_eq (steps.look (plain_access P) s w2) result_name in
      let two : step P c1 ≡ steps.handed (plain_access P) s w.dest (value' v) qs =
      ap (λ l. steps.next_item (plain_access P) (dropped P) s w1 qs l) h.2.1
      ∙ ap (λ l. steps.act (plain_access P) (dropped P) s w2 qs (hand_on h.2.0) l) (stmt.outs-Return h.2.0 (Some (Var result_name)))
      ∙ ap (λ r. steps.with (plain_access P) r h.2.0 (λ x. steps.handed (plain_access P) s w.dest (steps.given (plain_access P) w.gives x) qs)) read
      ∙ ap (λ b. steps.handed (plain_access P) s w.dest (steps.given (plain_access P) b (value' v)) qs) h.1 in
      (c1, two, silently (step P) c c1 (goes_once (step P) c c1 [] one))
  hands_on s false e w qs v c h is =
      let c1 : PlainConfig = Live s w qs in
      let one : step P c ≡ Goes [] c1 = is ∙ ap (λ z. Goes [] (steps.stored (plain_access P) s w qs z (Num (pos 0)))) h.0 in
      let two : step P c1 ≡ steps.handed (plain_access P) s w.dest (Num (pos 0)) qs =
      ap (λ l. steps.next_item (plain_access P) (dropped P) s w qs l) h.2
      ∙ ap (λ b. steps.handed (plain_access P) s w.dest (steps.given (plain_access P) b (Num (pos 0))) qs) h.1 in
      (c1, two, silently (step P) c c1 (goes_once (step P) c c1 [] one))

  -- a frame that comes to its tail hands on 0
  pub tail_hands : (s : Store) (q : PlainFrame) (qs : List PlainFrame) (tail : List Item) → IsTail tail
      → steps.next_item (plain_access P) (dropped P) s q qs tail ≡ steps.handed (plain_access P) s q.dest (steps.given (plain_access P) q.gives (Num (pos 0))) qs
  tail_hands s q qs tail (inl e) = ap (λ l. steps.next_item (plain_access P) (dropped P) s q qs l) e
  tail_hands s q qs tail (inr e) =
      let q1 : PlainFrame = record q { items = [] } in
      ap (λ l. steps.next_item (plain_access P) (dropped P) s q qs l) e.1
      ∙ ap (λ l. steps.act (plain_access P) (dropped P) s q1 qs (return_zero e.0) l) (stmt.outs-Return e.0 (Some (Lit (pos 0))))
      ∙ ap (λ r. steps.with (plain_access P) r e.0 (λ x. steps.handed (plain_access P) s q.dest (steps.given (plain_access P) q.gives x) qs))
      (ev-Lit bytes_eq (steps.look (plain_access P) s q1) (pos 0))

  zero_given : (b : Bool) → number (steps.given (plain_access P) b (Num (pos 0))) ≡ pos 0
  zero_given true = refl
  zero_given false = refl

  -- the merged `main` is left behind the frame above it
  main_ends : (s : Store) (b : Bool) (e : Dest) (w : PlainFrame) (v : Value Linked) (c : PlainConfig) → Ends M b e w
      → step P c ≡ Goes [] (steps.stored (plain_access P) s w [] e (value' (steps.given (updating_access W) b v)))
      → Leads (step P) c (event.End (number (steps.given (updating_access W) b v)) ∷ []) Over
  main_ends s true e w v c h is =
      let o = hands_on s true e w [] v c h is in
      then_leads (step P) c o.0 Over _ o.2 (goes_once (step P) o.0 Over _ (o.1 ∙ ap (λ z. Goes (event.End z ∷ []) Over) (number-renamed κ' v)))
  main_ends s false e w v c h is =
      let c1 : PlainConfig = Live s w [] in
      let one : step P c ≡ Goes [] c1 = is ∙ ap (λ z. Goes [] (steps.stored (plain_access P) s w [] z (Num (pos 0)))) h.0 in
      let two : step P c1 ≡ Goes (event.End (pos 0) ∷ []) Over =
      ap (λ l. steps.next_item (plain_access P) (dropped P) s w [] l) h.1.1
      ∙ tail_hands s w [] (Does (return_zero h.1.0) ∷ []) (inr (h.1.0, refl))
      ∙ ap (λ z. Goes (event.End z ∷ []) Over) (zero_given w.gives) in
      then_leads (step P) c c1 Over _ (silently (step P) c c1 (goes_once (step P) c c1 [] one)) (goes_once (step P) c1 Over _ two)

  module _ (g : State) (s : Store) (ss : SameState M g s) (b : Bool) (v : Value Linked) where
    abbrev left : Value Linked
    left = steps.given (updating_access W) b v

    pub handed_follows : (d e : Dest) (fs : List UpdFrame) (qs : List PlainFrame) (c : PlainConfig) → Below M g.now b d fs e qs
        → step P c ≡ steps.handed (plain_access P) s e (value' left) qs → Follows M (steps.handed (updating_access W) g d left fs) c
    handed_follows d e [] [] c h is = absurd h
    handed_follows d e [] (w ∷ u ∷ more) c h is = absurd h
    handed_follows d e [] (w ∷ []) c h is = (Over, main_ends s b e w v c h is, refl)
    handed_follows d e (f ∷ fs) [] c (inl h) is = absurd h
    handed_follows d e (f ∷ fs) [] c (inr h) is = absurd h
    handed_follows d e (f ∷ fs) (q ∷ qs) c (inl h) is =
        let one = is ∙ ap (λ z. Goes [] (steps.stored (plain_access P) s q qs z (value' left))) h.0 in
        (_, goes_once (step P) c _ [] one, same_stored M g s f q fs qs ss h.1 h.2 d left)
    handed_follows d e (f ∷ fs) (w ∷ []) c (inr h) is = absurd h.1
    handed_follows d e (f ∷ fs) (w ∷ q ∷ qs) c (inr h) is =
        let o = hands_on s b e w (q ∷ qs) v c h.0 is in
        let one = o.1 ∙ ap (λ z. Goes [] (steps.stored (plain_access P) s q qs z (value' left))) h.1.0 in
        (_, then_leads (step P) c o.0 _ [] o.2 (goes_once (step P) o.0 _ [] one), same_stored M g s f q fs qs ss h.1.1 h.1.2 d left)

  -- the merged transformer
  pub record HasTransform : Type 0 where
    pub merged : IsMerged origin.Xform (func_in W.xform.funcs transform_function) (func_in P.funcs transform_name)
