-- The walk from the front makes the list.
use Rattle.std.proofs.Common.{◌≡◌, pos, List, [], ◌∷◌, ◌++◌, map, length, flat_map, Some, None, refl, sym, ap, ap₂, ◌∙◌}
use Rattle.c_lang.specs.Names.{Bytes}
use Rattle.terms.specs.declared.sym.Sym.{Sym}
use Rattle.terms.specs.declared.fact.Fact.{Fact}
use Rattle.terms.specs.declared.fact.Fact.TheVariants as fact
use Rattle.terms.specs.declared.sequent.What.TheVariants as what
use Rattle.terms.specs.Trees.{TermTree, number, name, FormTree, equal, denied}
use Rattle.terms.specs.Replacing.{Change, replaced_fact}
use Rattle.expression_conditions.specs.Meanings.{val, form, current}
use Rattle.expression_conditions.specs.Owed.{own, own_all, own_element}
use Rattle.weakest_preconditions.specs.Changing.{change, setting_at, storing, renewing, returning}
use Rattle.loop_invariants.specs.Context.{Context}
use Rattle.weakest_preconditions.specs.Annotated.{Annotated, aside, set, set_element, call, call_by, if_else, while_loop, break_loop, return_with, assert_that, input, output, choice, Body, none, more}
use Rattle.weakest_preconditions.specs.Wp.{Condition, changed, under, implies, all_imply, goal_of, goals, owed_at, promised, asked, returned, is_function, cells_of, wp, wp_all}
use Rattle.weakest_preconditions.specs.Code.Walk.{Round, Maker, Makes, given, under_all, behind_call, in_loop, for_each, walk, walk_all}

over_append : (k : Round) (a b : List Condition) → map k (a ++ b) ≡ map k a ++ map k b
over_append k [] b = refl
over_append k (s ∷ a) b = ap (λ l. k s ∷ l) (over_append k a b)

over_map : (k j : Round) (l : List Condition) → map k (map j l) ≡ map (λ s. k (j s)) l
over_map k j [] = refl
over_map k j (s ∷ l) = ap (λ l. k (j s) ∷ l) (over_map k j l)

over_all : (fs : List Fact) (l : List Condition) → all_imply fs l ≡ map (under_all fs) l
over_all [] [] = refl
over_all [] (s ∷ l) = ap (λ l. s ∷ l) (over_all [] l)
over_all (f ∷ fs) l = ap (map (under f)) (over_all fs l) ∙ over_map (under f) (under_all fs) l

-- two lists one after the other
joined : (k : Round) (a b : List Condition) (l m : List Condition) → l ≡ map k a → m ≡ map k b → l ++ m ≡ map k (a ++ b)
joined k a b l m e f = ap₂ (λ l m. l ++ m) e f ∙ sym (over_append k a b)

-- a list behind a change or a hypothesis
moved : (make : Maker) (N : List Condition) → Makes make N → (k j : Round) → make (λ s. k (j s)) ≡ map k (map j N)
moved make N n k j = n (λ s. k (j s)) ∙ sym (over_map k j N)

-- behind a call
behind_call_makes : (c : Context) (f : Bytes) (args : List TermTree) (result cells : List Sym) (make : Maker) (N : List Condition) → Makes make N →
    (k : Round) → make (behind_call c f args result cells k) ≡ map k (returned c f args result cells N)
behind_call_makes c f args result cells make N n k =
    let promises : List Fact = map (replaced_fact (change (returning c.globals args result cells))) (c.promises f) in
    let fresh : Change = change (renewing (result ++ cells)) in
    n (behind_call c f args result cells k)
    ∙ sym (over_map k (λ s. under_all promises (changed fresh s)) N)
    ∙ ap (map k) (sym (over_map (under_all promises) (changed fresh) N) ∙ sym (over_all promises (map (changed fresh) N)))

-- for each function that a pointer may reach
each : (k : Round) (make : Bytes → List Condition) (made : Bytes → List Condition) → ((f : Bytes) → make f ≡ map k (made f)) →
    (fs : List Bytes) → for_each fs make ≡ map k (flat_map made fs)
each k make made same [] = refl
each k make made same (f ∷ fs) = joined k (made f) (flat_map made fs) (make f) (for_each fs make) (same f) (each k make made same fs)

mutual
  pub walked : (c : Context) (func : Bytes) (t : Annotated) (next brk : Maker) (N B : List Condition) → Makes next N → Makes brk B →
      Makes (walk c func t next brk) (wp c func t N B)
  walked c func (aside s) next brk N B n b k = n k
  walked c func (set p d e) next brk N B n b k =
      let j : Round = changed (change (setting_at d (val c.numbers e))) in
      joined k (map (owed_at p) (own c.numbers e)) (map j N) _ _ refl (moved next N n k j)
  walked c func (set_element p a i e) next brk N B n b k =
      let j : Round = changed (change (storing a (val c.numbers i) (val c.numbers e))) in
      joined k (map (owed_at p) (own_element c.numbers a i e)) (map j N) _ _ refl (moved next N n k j)
  walked c func (assert_that p e) next brk N B n b k =
      let goal : Condition = goal_of p what.Assert (fact.Plain (form c.numbers e)) in
      joined k (map (owed_at p) (own c.numbers e)) (goal ∷ implies (form c.numbers e) N) _ _ refl
      (ap (λ l. k goal ∷ l) (moved next N n k (under (fact.Plain (form c.numbers e)))))
  walked c func (output p e) next brk N B n b k = joined k (map (owed_at p) (own c.numbers e)) N _ _ refl (n k)
  walked c func (if_else p e x y) next brk N B n b k =
      let yes : List Condition = implies (form c.numbers e) (wp_all c func x N B) in
      let no : List Condition = implies (denied (form c.numbers e)) (wp_all c func y N B) in
      joined k (map (owed_at p) (own c.numbers e)) (yes ++ no) _ _ refl (joined k yes no _ _
      (moved (walk_all c func x next brk) (wp_all c func x N B) (walked_all c func x next brk N B n b) k (under (fact.Plain (form c.numbers e))))
      (moved (walk_all c func y next brk) (wp_all c func y N B) (walked_all c func y next brk N B n b) k (under (fact.Plain (denied (form c.numbers e))))))
  walked c func (while_loop p e x invariants fresh) next brk N B n b k =
      let kept : List Condition = goals p what.InvariantKept invariants in
      let into : Round = in_loop invariants fresh k in
      let renew : Round = changed (change (renewing fresh)) in
      let first : List Condition = map (owed_at p) (own c.numbers e) in
      let turn : List Condition = implies (form c.numbers e) (wp_all c func x kept N) in
      let out : List Condition = implies (denied (form c.numbers e)) N in
      joined k (goals p what.InvariantEntry invariants) (map renew (all_imply invariants (first ++ (turn ++ out)))) _ _ refl
      (joined into first (turn ++ out) _ _ refl (joined into turn out _ _
      (moved (walk_all c func x (λ j. map j kept) next) (wp_all c func x kept N) (walked_all c func x (λ j. map j kept) next kept N (λ j. refl) n) into (under (fact.Plain (form c.numbers e))))
      (moved next N n into (under (fact.Plain (denied (form c.numbers e))))))
      ∙ sym (over_map (λ s. k (renew s)) (under_all invariants) (first ++ (turn ++ out)))
      ∙ ap (map (λ s. k (renew s))) (sym (over_all invariants (first ++ (turn ++ out))))
      ∙ sym (over_map k renew (all_imply invariants (first ++ (turn ++ out)))))
  walked c func (break_loop p) next brk N B n b k = b k
  walked c func (return_with p None) next brk N B n b k = refl
  walked c func (return_with p (Some e)) next brk N B n b k =
      joined k (map (owed_at p) (own c.numbers e)) (promised c func p (val c.numbers e)) _ _ refl refl
  walked c func (input p d fresh) next brk N B n b k = moved next N n k (changed (change (renewing fresh)))
  walked c func (choice p d m fresh) next brk N B n b k = moved next N n k (changed (change (renewing fresh)))
  walked c func (call p d f es result cells) next brk N B n b k =
      let args : List TermTree = map (val c.numbers) es in
      joined k (map (owed_at p) (own_all c.numbers es)) (asked c p f args ++ returned c f args result cells N) _ _ refl
      (joined k (asked c p f args) (returned c f args result cells N) _ _ refl (behind_call_makes c f args result cells next N n k))
  walked c func (call_by p d x es result cells) next brk N B n b k =
      let args : List TermTree = map (val c.numbers) es in
      let is : Bytes → FormTree = is_function c x in
      let null : Condition = goal_of p what.NullCall (fact.Plain (denied (equal (name (current x)) (number (pos 0))))) in
      let ask : Bytes → List Condition = (λ f. implies (is f) (asked c p f args)) in
      let after : Bytes → List Condition = (λ f. implies (is f) (returned c f args result (cells_of c f cells) N)) in
      let fs : List Bytes = c.reached (length es) in
      joined k (map (owed_at p) (own_all c.numbers es)) (null ∷ (flat_map ask fs ++ flat_map after fs)) _ _ refl
      (ap (λ l. k null ∷ l) (joined k (flat_map ask fs) (flat_map after fs) _ _
      (each k (λ f. map (given (is f) k) (asked c p f args)) ask (λ f. sym (over_map k (under (fact.Plain (is f))) (asked c p f args))) fs)
      (each k (λ f. next (behind_call c f args result (cells_of c f cells) (given (is f) k))) after
      (λ f. behind_call_makes c f args result (cells_of c f cells) next N n (given (is f) k)
      ∙ sym (over_map k (under (fact.Plain (is f))) (returned c f args result (cells_of c f cells) N))) fs)))

  pub walked_all : (c : Context) (func : Bytes) (t : Body) (next brk : Maker) (N B : List Condition) → Makes next N → Makes brk B →
      Makes (walk_all c func t next brk) (wp_all c func t N B)
  walked_all c func none next brk N B n b k = n k
  walked_all c func (more t ts) next brk N B n b k =
      walked c func t (walk_all c func ts next brk) brk (wp_all c func ts N B) B (walked_all c func ts next brk N B n b) b k
