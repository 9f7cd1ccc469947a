-- What items say fits the program where all that is asked of them is so.
use Rattle.std.proofs.Common.{◌≡◌, ℕ, Bool, true, false, not, ◌&&◌, if◌then◌else◌, List, [], ◌∷◌, ◌++◌, map, flat_map, Option, Some, None, option_to_list, unwrap_or, All, refl, sym, ap, ◌∙◌, subst}
use Rattle.std.specs.List.{list_all}
use Rattle.std.specs.Option.{is_some}
use Rattle.std.specs.Str.{bytes_eq}
use Rattle.std.proofs.lemmas.List.Elements.{All-cons, All-nil, All-head, All-tail, All-append}
use Rattle.std.proofs.lemmas.Slice.Eq.{bytes_eq-Decides}
use Rattle.c_lang.specs.Names.{Bytes}
use Rattle.c_lang.specs.Programs.{func_named, global_named}
use Rattle.c_lang.specs.declared.program.Func.{Func}
use Rattle.c_lang.specs.declared.program.Program.{Program}
use Rattle.terms.specs.declared.fact.Fact.{Fact}
use Rattle.version_names.specs.declared.part.Origin.TheVariants.{Any, Old, New}
use Rattle.version_names.specs.Merged.{merged_name}
use Rattle.hint_texts.specs.declared.hints.Quantified.{Quantified}
use Rattle.hint_texts.specs.declared.hints.Head.{Head}
use Rattle.hint_texts.specs.declared.hints.Head.TheVariants as head
use Rattle.hint_texts.specs.declared.hints.Clause.{Clause}
use Rattle.hint_texts.specs.declared.hints.ClauseKind.{ClauseKind}
use Rattle.hint_texts.specs.declared.hints.ClauseKind.TheVariants as clause
use Rattle.hint_texts.specs.declared.hints.Item.{Item}
use Rattle.loop_invariants.specs.declared.hints.Contract.{Contract}
use Rattle.loop_invariants.specs.declared.hints.LoopInvariants.{LoopInvariants}
use Rattle.loop_invariants.specs.Hints.{Hints, HintsBind}
use Rattle.loop_invariants.specs.Context.{names_of}
use Rattle.loop_invariants.specs.SetNames.{is_among}
use Rattle.loop_invariants.specs.Clauses.{Place, at_needs, at_promises, loop_place, may_stand}
use Rattle.loop_invariants.specs.Fitting.{MayStand, AreGlobals, IsContract, IsContractFor, AreInvariants}
use Rattle.loop_invariants.proofs.FittingLaws.{fit_binds}
use Rattle.loop_invariants.proofs.ListingLaws.{is_global}
use Rattle.hint_reading.specs.Subjects.{named, subjects}
use Rattle.hint_reading.specs.Meaning.{needs_by, promises_by, invariants_by, cells_by, cells_in, or_later, contract_in, contracts_by, loops_under, loops_by, hints_of}
use Rattle.hint_reading.specs.Demands.{Demand, demand, first_unmet, may_be_bound, may_be_said, are_globals, may_say, may_say_at, may_say_there, may_say_in, may_begin, has_loop, item_demands, demands_behind, demands}

-- ---- tests that hold

both_true : (a b : Bool) → (a && b) ≡ true → (a ≡ true) × (b ≡ true)
both_true true b e = (refl, e)
both_true false b e = cc

all_met : (d : Demand) (ds : List Demand) → first_unmet (d ∷ ds) ≡ None → (d.met ≡ true) × (first_unmet ds ≡ None)
all_met d ds e = by d.met refl e
  where
    by : (b : Bool) → d.met ≡ b → (if b then first_unmet ds else Some d.line) ≡ None → (d.met ≡ true) × (first_unmet ds ≡ None)
    by true is none = (is, none)
    by false is none = cc

met_parts : (xs ys : List Demand) → first_unmet (xs ++ ys) ≡ None → (first_unmet xs ≡ None) × (first_unmet ys ≡ None)
met_parts [] ys e = (refl, e)
met_parts (d ∷ ds) ys e = by d.met e (met_parts ds ys)
  where
    by : (b : Bool) → (if b then first_unmet (ds ++ ys) else Some d.line) ≡ None
        → (first_unmet (ds ++ ys) ≡ None → (first_unmet ds ≡ None) × (first_unmet ys ≡ None))
        → ((if b then first_unmet ds else Some d.line) ≡ None) × (first_unmet ys ≡ None)
    by true none rest = rest none
    by false none rest = cc

-- each clause may be said
abbrev Said : (ClauseKind → Bool) → List Clause → Type 0
Said may cs = All (λ c. may c.kind ≡ true) cs

all_said : (may : ClauseKind → Bool) (cs : List Clause) → first_unmet (map (λ c. demand c.line (may c.kind)) cs) ≡ None → Said may cs
all_said may [] e = All-nil (λ c. may c.kind ≡ true)
all_said may (c ∷ cs) e =
    let met : (may c.kind ≡ true) × (first_unmet (map (λ c. demand c.line (may c.kind)) cs) ≡ None)
    = all_met (demand c.line (may c.kind)) (map (λ c. demand c.line (may c.kind)) cs) e in
    All-cons (λ c. may c.kind ≡ true) c cs met.0 (all_said may cs met.1)

weaker : (may might : ClauseKind → Bool) → ((k : ClauseKind) → may k ≡ true → might k ≡ true) → (cs : List Clause) → Said may cs → Said might cs
weaker may might go [] said = All-nil (λ c. might c.kind ≡ true)
weaker may might go (c ∷ cs) said = All-cons (λ c. might c.kind ≡ true) c cs (go c.kind (All-head (λ c. may c.kind ≡ true) c cs said))
    (weaker may might go cs (All-tail (λ c. may c.kind ≡ true) c cs said))

-- the facts of clauses of one kind
facts_hold : (P : Fact → Type 0) (may : ClauseKind → Bool) (facts : ClauseKind → List Fact)
    → ((k : ClauseKind) → may k ≡ true → All P (facts k)) → (cs : List Clause) → Said may cs → All P (flat_map (λ c. facts c.kind) cs)
facts_hold P may facts go [] said = All-nil P
facts_hold P may facts go (c ∷ cs) said = All-append P (facts c.kind) (flat_map (λ c. facts c.kind) cs) (go c.kind (All-head (λ c. may c.kind ≡ true) c cs said))
    (facts_hold P may facts go cs (All-tail (λ c. may c.kind ≡ true) c cs said))

module _ (p : Program) where
  stands : (at : Place) (q : Quantified) → may_be_said p at q ≡ true → MayStand p at q.fact
  stands at q e = (both_true (may_be_bound p at q.name) (may_stand p at q.fact) e).1

  alone : (at : Place) (q : Quantified) → may_be_said p at q ≡ true → All (MayStand p at) (q.fact ∷ [])
  alone at q e = All-cons (MayStand p at) q.fact [] (stands at q e) (All-nil (MayStand p at))

  -- ---- contracts

  needs_stand : (f : Func) (k : ClauseKind) → may_say p f k ≡ true → All (MayStand p (at_needs f)) (needs_by k)
  needs_stand f (clause.Requires q) e = alone (at_needs f) q e
  needs_stand f (clause.Ensures q) e = All-nil (MayStand p (at_needs f))
  needs_stand f (clause.Assigns xs) e = All-nil (MayStand p (at_needs f))
  needs_stand f (clause.Invariant q) e = All-nil (MayStand p (at_needs f))

  promises_stand : (f : Func) (k : ClauseKind) → may_say p f k ≡ true → All (MayStand p (at_promises f)) (promises_by k)
  promises_stand f (clause.Requires q) e = All-nil (MayStand p (at_promises f))
  promises_stand f (clause.Ensures q) e = alone (at_promises f) q e
  promises_stand f (clause.Assigns xs) e = All-nil (MayStand p (at_promises f))
  promises_stand f (clause.Invariant q) e = All-nil (MayStand p (at_promises f))

  globals : (xs : List Bytes) → are_globals p xs ≡ true → All (λ x. is_among x (names_of p.globals) ≡ true) xs
  globals [] e = All-nil (λ x. is_among x (names_of p.globals) ≡ true)
  globals (x ∷ xs) e =
      let parts : (is_some (global_named p.globals x) ≡ true) × (are_globals p xs ≡ true) = both_true (is_some (global_named p.globals x)) (are_globals p xs) e in
      All-cons (λ x. is_among x (names_of p.globals) ≡ true) x xs (sym (is_global p.globals x) ∙ parts.0) (globals xs parts.1)

  cells_of : (f : Func) (k : ClauseKind) → may_say p f k ≡ true → AreGlobals p (cells_by k)
  cells_of f (clause.Requires q) e = tt
  cells_of f (clause.Ensures q) e = tt
  cells_of f (clause.Assigns xs) e = globals xs e
  cells_of f (clause.Invariant q) e = tt

  later : (first rest : Option (List Bytes)) → AreGlobals p first → AreGlobals p rest → AreGlobals p (or_later first rest)
  later None rest a b = b
  later (Some xs) rest a b = a

  cells_are : (f : Func) (cs : List Clause) → Said (may_say p f) cs → AreGlobals p (cells_in cs)
  cells_are f [] said = tt
  cells_are f (c ∷ cs) said = later (cells_by c.kind) (cells_in cs) (cells_of f c.kind (All-head (λ c. may_say p f c.kind ≡ true) c cs said))
      (cells_are f cs (All-tail (λ c. may_say p f c.kind ≡ true) c cs said))

  contract_fits : (f : Func) (cs : List Clause) → Said (may_say p f) cs → IsContractFor p f (contract_in cs)
  contract_fits f cs said = record {
    needs = facts_hold (MayStand p (at_needs f)) (may_say p f) needs_by (needs_stand f) cs said;
    promises = facts_hold (MayStand p (at_promises f)) (may_say p f) promises_by (promises_stand f) cs said;
    assigns = cells_are f cs said;
  }

  -- functions that are those of their names
  abbrev Found : Func → Type 0
  Found f = func_named p.funcs f.name ≡ Some f

  name_is : (fs : List Func) (x : Bytes) (f : Func) → func_named fs x ≡ Some f → f.name ≡ x
  name_is [] x f e = cc
  name_is (d ∷ ds) x f e = by (bytes_eq d.name x) refl e (name_is ds x f)
    where
      by : (b : Bool) → bytes_eq d.name x ≡ b → (if b then Some d else func_named ds x) ≡ Some f → (func_named ds x ≡ Some f → f.name ≡ x) → f.name ≡ x
      by true same some rest = ap (λ (o : Option Func). (unwrap_or o d).name) (sym some) ∙ (bytes_eq-Decides d.name x).0 same
      by false differ some rest = rest some

  found_again : (x : Bytes) (f : Func) → func_named p.funcs x ≡ Some f → Found f
  found_again x f e = subst (λ y. func_named p.funcs y ≡ Some f) (sym (name_is p.funcs x f e)) e

  named_found : (x : Bytes) → All Found (named p x)
  named_found x = by (func_named p.funcs x) refl
    where
      by : (found : Option Func) → func_named p.funcs x ≡ found → All Found (option_to_list found)
      by None e = All-nil Found
      by (Some f) e = All-cons Found f [] (found_again x f e) (All-nil Found)

  subjects_found : (h : Head) → All Found (subjects p h)
  subjects_found (head.Both f) = All-append Found (named p (merged_name Any f)) (named p (merged_name Old f) ++ named p (merged_name New f)) (named_found (merged_name Any f))
      (All-append Found (named p (merged_name Old f)) (named p (merged_name New f)) (named_found (merged_name Old f)) (named_found (merged_name New f)))
  subjects_found (head.At f) = named_found f
  subjects_found (head.Loop f n) = All-nil Found

  abbrev Fits : Bytes × Contract → Type 0
  Fits entry = IsContract p (func_named p.funcs entry.0) entry.1

  contracts_fit : (fs : List Func) (cs : List Clause) → All Found fs → Said (λ k. list_all (λ f. may_say p f k) fs) cs → All Fits (map (λ f. (f.name, contract_in cs)) fs)
  contracts_fit [] cs found said = All-nil Fits
  contracts_fit (f ∷ fs) cs found said = All-cons Fits (f.name, contract_in cs) (map (λ f. (f.name, contract_in cs)) fs)
      (subst (λ d. IsContract p d (contract_in cs)) (sym (All-head Found f fs found))
      (contract_fits f cs (weaker (λ k. list_all (λ f. may_say p f k) (f ∷ fs)) (may_say p f) (λ k e. (both_true (may_say p f k) (list_all (λ f. may_say p f k) fs) e).0) cs said)))
      (contracts_fit fs cs (All-tail Found f fs found)
      (weaker (λ k. list_all (λ f. may_say p f k) (f ∷ fs)) (λ k. list_all (λ f. may_say p f k) fs) (λ k e. (both_true (may_say p f k) (list_all (λ f. may_say p f k) fs) e).1) cs said))

  -- ---- invariants

  abbrev Holds : LoopInvariants → Type 0
  Holds l = AreInvariants p (loop_place p l.func l.number) l.facts

  invariants_stand : (at : Place) (k : ClauseKind) → may_say_at p at k ≡ true → All (MayStand p at) (invariants_by k)
  invariants_stand at (clause.Requires q) e = All-nil (MayStand p at)
  invariants_stand at (clause.Ensures q) e = All-nil (MayStand p at)
  invariants_stand at (clause.Assigns xs) e = All-nil (MayStand p at)
  invariants_stand at (clause.Invariant q) e = alone at q e

  invariants_fit : (at : Option Place) (cs : List Clause) → is_some at ≡ true → Said (may_say_there p at) cs → AreInvariants p at (flat_map (λ c. invariants_by c.kind) cs)
  invariants_fit None cs some said = absurd (false_is some)
    where
      false_is : false ≡ true → ⊥
      false_is e = cc
  invariants_fit (Some at) cs some said = facts_hold (MayStand p at) (may_say_at p at) invariants_by (invariants_stand at) cs said

  -- ---- items

  item_met : (so_far : Hints) (h : Head) (line : ℕ) (cs : List Clause)
      → first_unmet (item_demands p so_far (record { head = h; line = line; clauses = cs })) ≡ None
      → (may_begin p so_far h ≡ true) × (first_unmet (map (λ c. demand c.line (may_say_in p h c.kind)) cs) ≡ None)
  item_met so_far h line cs e = all_met (demand line (may_begin p so_far h)) (map (λ c. demand c.line (may_say_in p h c.kind)) cs) e

  head_fits : (so_far : Hints) (h : Head) (cs : List Clause) → may_begin p so_far h ≡ true → Said (may_say_in p h) cs
      → All Fits (map (λ f. (f.name, contract_in cs)) (subjects p h)) × All Holds (loops_under h cs)
  head_fits so_far (head.Both f) cs begins said = (contracts_fit (subjects p (head.Both f)) cs (subjects_found (head.Both f)) said, All-nil Holds)
  head_fits so_far (head.At f) cs begins said = (contracts_fit (subjects p (head.At f)) cs (subjects_found (head.At f)) said, All-nil Holds)
  head_fits so_far (head.Loop f n) cs begins said =
      let some : is_some (loop_place p f n) ≡ true = (both_true (is_some (loop_place p f n)) (not (has_loop so_far f n)) begins).0 in
      (All-nil Fits, All-cons Holds _ [] (invariants_fit (loop_place p f n) cs some said) (All-nil Holds))

  behind_fit : (before items : List Item) → first_unmet (demands_behind p before items) ≡ None
      → All Fits (flat_map (contracts_by p) items) × All Holds (flat_map loops_by items)
  behind_fit before [] e = (All-nil Fits, All-nil Holds)
  behind_fit before (item ∷ items) e =
      let met : (first_unmet (item_demands p (hints_of p before) item) ≡ None) × (first_unmet (demands_behind p (before ++ (item ∷ [])) items) ≡ None)
      = met_parts (item_demands p (hints_of p before) item) (demands_behind p (before ++ (item ∷ [])) items) e in
      let here : (may_begin p (hints_of p before) item.head ≡ true) × (first_unmet (map (λ c. demand c.line (may_say_in p item.head c.kind)) item.clauses) ≡ None)
      = item_met (hints_of p before) item.head item.line item.clauses met.0 in
      let first : All Fits (contracts_by p item) × All Holds (loops_by item)
      = head_fits (hints_of p before) item.head item.clauses here.0 (all_said (may_say_in p item.head) item.clauses here.1) in
      let others : All Fits (flat_map (contracts_by p) items) × All Holds (flat_map loops_by items) = behind_fit (before ++ (item ∷ [])) items met.1 in
      (All-append Fits (contracts_by p item) (flat_map (contracts_by p) items) first.0 others.0, All-append Holds (loops_by item) (flat_map loops_by items) first.1 others.1)

  pub items_fit : (items : List Item) → first_unmet (demands p items) ≡ None
      → All Fits (hints_of p items).contracts × All Holds (hints_of p items).loops
  items_fit items e = behind_fit [] items e

  pub items_bind : (items : List Item) → first_unmet (demands p items) ≡ None → HintsBind (hints_of p items)
  items_bind items e = fit_binds p (hints_of p items) (items_fit items e).0 (items_fit items e).1
