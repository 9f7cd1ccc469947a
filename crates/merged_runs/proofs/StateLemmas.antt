-- Reading and writing names keeps the states and the frames related.
use Rattle.std.proofs.Common.{◌≡◌, ℤ, Bool, true, false, ◌&&◌, if◌then◌else◌, List, [], ◌∷◌, map, Option, Some, None, is_some, Result, Ok, Err, refl, sym, ap, ap₂, ◌∙◌}
use Rattle.std.specs.Option.{option_map}
use Rattle.std.specs.Str.{bytes_eq}
use Rattle.c_lang.specs.Names.{Bytes}
use Rattle.c_lang.specs.Trees.{expression_of}
use Rattle.c_lang.specs.Values.{Value, Answer}
use Rattle.c_lang.specs.Evaluation.{Look, ev}
use Rattle.plain_run.specs.Moves.{Move}
use Rattle.plain_run.specs.Steps as steps
use Rattle.plain_run.specs.Steps.{updated, local_or, Over}
use Rattle.plain_run.specs.PlainRun.{Store, PlainFrame, PlainConfig, plain_access, step}
use Rattle.version_names.specs.Version.{Version}
use Rattle.version_names.specs.Version as version
use Rattle.version_names.specs.Home.{Home, Linked, same_home, same_linked}
use Rattle.version_names.specs.Home as home
use Rattle.version_names.specs.Provenance.{Provenance}
use Rattle.version_names.specs.Provenance as origin
use Rattle.version_names.specs.Links.{part, is_shared_cell}
use Rattle.c_lang.specs.Programs.{global_named}
use Rattle.update_semantics.specs.UpdatingRun.{State, UpdFrame, UpdConfig, put_linked, cell_meaning, updating_access, swapped_state}
use Rattle.plain_run.proofs.Simulation.{goes_once}
use Rattle.c_lang.specs.declared.unit.Pos.{Pos}
use Rattle.c_lang.specs.declared.event.Trap.{Trap}
use Rattle.c_lang.specs.declared.event.Trap.TheVariants.{Index}
use Rattle.c_lang.specs.declared.event.Event.TheVariants as event
use Rattle.c_lang.specs.declared.expr.Expr.{Expr}
use Rattle.c_lang.specs.declared.stmt.Dest.{Dest}
use Rattle.c_lang.specs.declared.stmt.Dest.TheVariants.{Nowhere, Into, Fresh}
use Rattle.c_lang.proofs.TreeLemmas.{expression_of-expr_of}
use Rattle.merged_program.specs.Names.{now_name}
use Rattle.merged_program.specs.Expressions.{renamed, renamed_dest}
use Rattle.merged_runs.proofs.MergedStatements.{under}
use Rattle.merged_runs.proofs.EvaluationRenamed.{renamed_value, renamed_answer, Carries, ev-renamed}
use Rattle.merged_runs.proofs.Relation.{Merging, is_there, can_stand, settled_by, settled, SameState, SameFrame, Below, R, Follows}

module _ (M : Merging) where
  open M use {world as W, variable_name as ρ, function_name as κ, value_name as κ', naming as names, program as P}

  abbrev value' : Value Linked → Value Bytes
  value' = renamed_value κ'

  -- ---- the cells of frames that can stand

  part_there : (has shared : Bool) → is_there version.Old (part version.Old has shared) ≡ true
  part_there true true = refl
  part_there true false = refl
  part_there false shared = refl

  -- a frame that stands names no cell of the new version alone before the swap
  pub cells_there : (now : Version) (o : Provenance) → can_stand now o ≡ true → (x : Bytes) → is_there now (cell_meaning W o x).0 ≡ true
  cells_there version.New o stands x = refl
  cells_there version.Old origin.Old stands x = part_there (is_some (global_named W.first.globals x)) (is_shared_cell W.first W.second x)
  cells_there version.Old origin.New stands x = absurd cc
  cells_there version.Old origin.Xform stands x = absurd cc
  cells_there version.Old origin.Client stands x = refl

  -- ---- reading

  pub settled_there : (now : Version) (g : State) (h : Home) (x : Bytes) → is_there now h ≡ true
      → ((settled_by M now g).values h x ≡ g.values h x) × ((settled_by M now g).arrays h x ≡ g.arrays h x)
  settled_there version.New g h x t = (refl, refl)
  settled_there version.Old g home.New x t = cc
  settled_there version.Old g home.Both x t = (refl, refl)
  settled_there version.Old g home.Old x t = (refl, refl)
  settled_there version.Old g home.Xform x t = (refl, refl)
  settled_there version.Old g home.Client x t = (refl, refl)
  settled_there version.Old g home.Unlinked x t = (refl, refl)

  local_or-renamed : (o : Option (Value Linked)) (v : Value Linked) → local_or (option_map value' o) (value' v) ≡ value' (local_or o v)
  local_or-renamed None v = refl
  local_or-renamed (Some w) v = refl

  module _ (g : State) (s : Store) (f : UpdFrame) (q : PlainFrame) (ss : SameState M g s) (sf : SameFrame M g.now f q) where
    abbrev lookU : Look Linked
    lookU = steps.look (updating_access W) g f

    abbrev lookP : Look Bytes
    lookP = steps.look (plain_access P) s q

    there : (x : Bytes) → is_there g.now (cell_meaning W f.origin x).0 ≡ true
    there = cells_there g.now f.origin sf.stands

    pub carries : Carries κ' (ρ f.origin) (κ f.origin) lookU lookP
    carries = record {
      value = λ x. let c = cell_meaning W f.origin x in
          ap₂ local_or (sf.locals x) (ss.values f.origin x ∙ ap value' (settled_there g.now g c.0 c.1 (there x)).0)
          ∙ local_or-renamed (f.locals x) (g.values c.0 c.1);
      elements = λ x. let c = cell_meaning W f.origin x in ss.arrays f.origin x ∙ (settled_there g.now g c.0 c.1 (there x)).1;
      code = λ x. names.codes f.origin x;
    }

    pub value_of-renamed : (e : Expr) → steps.value_of (plain_access P) s q (under (ρ f.origin) (κ f.origin) e) ≡ renamed_answer κ' (steps.value_of (updating_access W) g f e)
    value_of-renamed e =
        ap (ev bytes_eq lookP) (expression_of-expr_of (renamed (ρ f.origin) (κ f.origin) (expression_of e)))
        ∙ ev-renamed κ' same_linked bytes_eq names.values (ρ f.origin) (κ f.origin) lookU lookP carries (expression_of e)

  -- ---- steps

  pub by_answer : (a : Answer Linked) (b : Answer Bytes) → b ≡ renamed_answer κ' a → (p : Pos) (go : Value Linked → Move UpdConfig) (go' : Value Bytes → Move PlainConfig) (d : PlainConfig)
      → step P d ≡ steps.with (plain_access P) b p go' → ((v : Value Linked) → step P d ≡ go' (value' v) → Follows M (go v) d) → Follows M (steps.with (updating_access W) a p go) d
  by_answer (Ok v) b e p go go' d is h = h v (is ∙ ap (λ x. steps.with (plain_access P) x p go') e)
  by_answer (Err t) b e p go go' d is h =
      (Over, goes_once (step P) d Over (event.Fault t p ∷ []) (is ∙ ap (λ x. steps.with (plain_access P) x p go') e), refl)

  -- ---- writing

  never_new : (h : Home) → is_there version.Old h ≡ true → same_home h home.New ≡ false
  never_new home.New t = cc
  never_new home.Both t = refl
  never_new home.Old t = refl
  never_new home.Xform t = refl
  never_new home.Client t = refl
  never_new home.Unlinked t = refl

  settled_put : (now : Version) (g : State) (k : Linked) (v : Value Linked) (h : Home) (x : Bytes) → is_there now k.0 ≡ true
      → (settled_by M now (record g { values = put_linked g.values k v })).values h x ≡ put_linked (settled_by M now g).values k v h x
  settled_put version.New g k v h x t = refl
  settled_put version.Old g k v home.New x t =
      ap (λ b. if b && bytes_eq k.1 x then v else (swapped_state W g).values home.New x) (sym (never_new k.0 t))
  settled_put version.Old g k v home.Both x t = refl
  settled_put version.Old g k v home.Old x t = refl
  settled_put version.Old g k v home.Xform x t = refl
  settled_put version.Old g k v home.Client x t = refl
  settled_put version.Old g k v home.Unlinked x t = refl

  settled_arrays : (now : Version) (g : State) (vs : Home → Bytes → Value Linked) (h : Home) (x : Bytes)
      → (settled_by M now (record g { values = vs })).arrays h x ≡ (settled_by M now g).arrays h x
  settled_arrays version.New g vs h x = refl
  settled_arrays version.Old g vs h x = refl

  pick : (b : Bool) (v w : Value Linked) → (if b then value' v else value' w) ≡ value' (if b then v else w)
  pick true v w = refl
  pick false v w = refl

  same_put : (g : State) (s : Store) (o : Provenance) (x : Bytes) (v : Value Linked) → is_there g.now (cell_meaning W o x).0 ≡ true → SameState M g s
      → SameState M ((updating_access W).put o x v g) (record s { values = updated s.values (ρ o x) (value' v) })
  same_put g s o x v t ss = record {
    values = λ q y. let c = cell_meaning W q y in
        ap₂ (λ b z. if b then value' v else z) (names.cells o x q y) (ss.values q y)
        ∙ pick (same_linked (cell_meaning W o x) c) v ((settled M g).values c.0 c.1)
        ∙ ap value' (sym (settled_put g.now g (cell_meaning W o x) v c.0 c.1 t));
    arrays = λ q y. let c = cell_meaning W q y in
        ss.arrays q y ∙ sym (settled_arrays g.now g (put_linked g.values (cell_meaning W o x) v) c.0 c.1);
    now = ap (λ b. if b then value' v else s.values now_name) (names.apart_now o x) ∙ ss.now;
  }

  module _ (g : State) (s : Store) (f : UpdFrame) (q : PlainFrame) (fs : List UpdFrame) (qs : List PlainFrame)
      (ss : SameState M g s) (sf : SameFrame M g.now f q) (sb : Below M g.now f.gives f.dest fs q.dest qs) where
    abbrev o : Provenance
    o = f.origin

    pick_local : (b : Bool) (v : Value Linked) (w : Option (Value Linked)) → (if b then Some (value' v) else option_map value' w) ≡ option_map value' (if b then Some v else w)
    pick_local true v w = refl
    pick_local false v w = refl

    same_local : (x : Bytes) (v : Value Linked) → SameFrame M g.now (record f { locals = updated f.locals x (Some v) }) (record q { locals = updated q.locals (ρ o x) (Some (value' v)) })
    same_local x v = record {
      stands = sf.stands;
      locals = λ y. ap₂ (λ b z. if b then Some (value' v) else z) (names.locals o x y) (sf.locals y) ∙ pick_local (bytes_eq x y) v (f.locals y);
      no_flag = ap (λ b. if b then Some (value' v) else q.locals now_name) (names.apart_now o x) ∙ sf.no_flag;
      tail = sf.tail;
      is_tail = sf.is_tail;
      items = sf.items;
      gives = sf.gives;
    }

    same_into : (x : Bytes) (v : Value Linked) (a : Option (Value Linked)) (b : Option (Value Bytes)) → b ≡ option_map value' a
        → R M (steps.into (updating_access W) a g f fs x v) (steps.into (plain_access P) b s q qs (ρ o x) (value' v))
    same_into x v None None e = (same_put g s o x v (cells_there g.now o sf.stands x) ss, sf, sb)
    same_into x v None (Some b) e = absurd cc
    same_into x v (Some a) None e = absurd cc
    same_into x v (Some a) (Some b) e = (ss, same_local x v, sb)

    pub same_stored : (d : Dest) (v : Value Linked) → R M (steps.stored (updating_access W) g f fs d v) (steps.stored (plain_access P) s q qs (renamed_dest (ρ o) d) (value' v))
    same_stored Nowhere v = (ss, sf, sb)
    same_stored (Into x) v = same_into x v (f.locals x) (q.locals (ρ o x)) (sf.locals x)
    same_stored (Fresh k x) v = (ss, same_local x v, sb)

  -- ---- arrays and lists of values

  settled_put_elements : (now : Version) (g : State) (k : Linked) (elements : List ℤ) (h : Home) (x : Bytes) → is_there now k.0 ≡ true
      → (settled_by M now (record g { arrays = put_linked g.arrays k elements })).arrays h x ≡ put_linked (settled_by M now g).arrays k elements h x
  settled_put_elements version.New g k elements h x t = refl
  settled_put_elements version.Old g k elements home.New x t =
      ap (λ b. if b && bytes_eq k.1 x then elements else (swapped_state W g).arrays home.New x) (sym (never_new k.0 t))
  settled_put_elements version.Old g k elements home.Both x t = refl
  settled_put_elements version.Old g k elements home.Old x t = refl
  settled_put_elements version.Old g k elements home.Xform x t = refl
  settled_put_elements version.Old g k elements home.Client x t = refl
  settled_put_elements version.Old g k elements home.Unlinked x t = refl

  settled_values : (now : Version) (g : State) (rs : Home → Bytes → List ℤ) (h : Home) (x : Bytes)
      → (settled_by M now (record g { arrays = rs })).values h x ≡ (settled_by M now g).values h x
  settled_values version.New g rs h x = refl
  settled_values version.Old g rs h x = refl

  pub same_put_elements : (g : State) (s : Store) (o : Provenance) (x : Bytes) (elements : List ℤ) → is_there g.now (cell_meaning W o x).0 ≡ true → SameState M g s
      → SameState M ((updating_access W).put_elements o x elements g) (record s { arrays = updated s.arrays (ρ o x) elements })
  same_put_elements g s o x elements t ss = record {
    values = λ q y. let c = cell_meaning W q y in
        ss.values q y ∙ ap value' (sym (settled_values g.now g (put_linked g.arrays (cell_meaning W o x) elements) c.0 c.1));
    arrays = λ q y. let c = cell_meaning W q y in
        ap₂ (λ b z. if b then elements else z) (names.cells o x q y) (ss.arrays q y) ∙ sym (settled_put_elements g.now g (cell_meaning W o x) elements c.0 c.1 t);
    now = ss.now;
  }

  pub by_elements : (a : Option (List ℤ)) (p : Pos) (go : List ℤ → Move UpdConfig) (go' : List ℤ → Move PlainConfig) (c : PlainConfig)
      → step P c ≡ steps.with_elements (plain_access P) a p go' → ((elements : List ℤ) → step P c ≡ go' elements → Follows M (go elements) c) → Follows M (steps.with_elements (updating_access W) a p go) c
  by_elements (Some elements) p go go' c is h = h elements is
  by_elements None p go go' c is h = (Over, goes_once (step P) c Over (event.Fault Index p ∷ []) is, refl)

  abbrev pub renamed_answers : Result (List (Value Linked)) Trap → Result (List (Value Bytes)) Trap
  renamed_answers (Ok vs) = Ok (map value' vs)
  renamed_answers (Err t) = Err t

  pub and-renamed : (a : Answer Linked) (r : Result (List (Value Linked)) Trap) → steps.and_values (plain_access P) (renamed_answer κ' a) (renamed_answers r) ≡ renamed_answers (steps.and_values (updating_access W) a r)
  and-renamed (Err t) r = refl
  and-renamed (Ok v) (Err t) = refl
  and-renamed (Ok v) (Ok vs) = refl

  pub by_values : (a : Result (List (Value Linked)) Trap) (b : Result (List (Value Bytes)) Trap) → b ≡ renamed_answers a → (p : Pos) (go : List (Value Linked) → Move UpdConfig) (go' : List (Value Bytes) → Move PlainConfig) (c : PlainConfig)
      → step P c ≡ steps.with (plain_access P) b p go' → ((vs : List (Value Linked)) → step P c ≡ go' (map value' vs) → Follows M (go vs) c) → Follows M (steps.with (updating_access W) a p go) c
  by_values (Ok vs) b e p go go' c is h = h vs (is ∙ ap (λ x. steps.with (plain_access P) x p go') e)
  by_values (Err t) b e p go go' c is h =
      (Over, goes_once (step P) c Over (event.Fault t p ∷ []) (is ∙ ap (λ x. steps.with (plain_access P) x p go') e), refl)
