-- What a statement makes, and what is made behind its edges, is all that its node stands for.
use Rattle.std.proofs.Common.{◌≡◌, ℕ, pos, List, [], ◌∷◌, ◌++◌, map, flat_map, length, Some, None, refl, sym, ap, ap₂, ◌∙◌}
use Rattle.std.proofs.lemmas.List.{map-append, append-nil, append_assoc}
use Rattle.std.proofs.lemmas.Simd.{map-map}
use Rattle.c_lang.specs.Names.{Bytes}
use Rattle.c_lang.specs.declared.unit.Pos.{Pos}
use Rattle.terms.specs.declared.sym.Sym.{Sym}
use Rattle.terms.specs.declared.fact.Fact.{Fact}
use Rattle.terms.specs.declared.fact.Fact.TheVariants as fact
use Rattle.terms.specs.declared.changes.Changes.{Changes}
use Rattle.terms.specs.declared.sequent.What.TheVariants as what
use Rattle.terms.specs.Trees.{TermTree, number, name, FormTree, equal, denied}
use Rattle.terms.specs.Replacing.{replaced_fact}
use Rattle.expression_conditions.specs.Meanings.{val, form, current}
use Rattle.expression_conditions.specs.Owed.{own, own_all, own_element}
use Rattle.loop_invariants.specs.Context.{Context}
use Rattle.weakest_preconditions.specs.Changing.{change, setting_at, storing, renewing, returning}
use Rattle.weakest_preconditions.specs.Annotated.{Annotated, aside, set, set_element, call, call_by, if_else, while_loop, break_loop, return_with, assert_that, input, output, choice}
use Rattle.weakest_preconditions.specs.Wp.{Condition, changed, under, implies, all_imply, goal_of, goals, owed_at, promised, asked, returned, is_function, cells_of}
use Rattle.symbolic_state.specs.declared.step.Step.{Step}
use Rattle.symbolic_state.specs.declared.step.Step.TheVariants as stepped
use Rattle.symbolic_state.specs.Steps.{finished, assumed}
use Rattle.control_flow.specs.Steps.{step}
use Rattle.wp_conditions.specs.Code.Edges.{turn_steps, call_steps, given_step, reached, edges, here, beyond}

module _ (S : List Step) where
  pub replaced : (ch : Changes) (l : List Condition) → map (finished S) (map (changed (change ch)) l) ≡ map (finished (stepped.Replaces ch ∷ S)) l
  replaced ch l = map-map (finished S) (changed (change ch)) l

  pub given : (h : FormTree) (l : List Condition) → map (finished S) (implies h l) ≡ map (finished (given_step h S)) l
  given h l = map-map (finished S) (under (fact.Plain h)) l

  -- conditions at the statement, and then others
  then_more : (a b m : List Condition) → map (finished S) b ≡ m → map (finished S) (a ++ b) ≡ map (finished S) a ++ m
  then_more a b m e = map-append (finished S) a b ∙ ap (λ l. map (finished S) a ++ l) e

pub all_given : (fs : List Fact) (S : List Step) (l : List Condition) → map (finished S) (all_imply fs l) ≡ map (finished (assumed fs S)) l
all_given [] S l = refl
all_given (f ∷ fs) S l = map-map (finished S) (under f) (all_imply fs l) ∙ all_given fs (stepped.Assumes f ∷ S) l

call_over : (c : Context) (f : Bytes) (args : List TermTree) (result cells : List Sym) (S : List Step) (l : List Condition)
    → map (finished S) (returned c f args result cells l) ≡ map (finished (call_steps c f args result cells S)) l
call_over c f args result cells S l =
    let promises : List Fact = map (replaced_fact (change (returning c.globals args result cells))) (c.promises f) in
    all_given promises S (map (changed (change (renewing (result ++ cells)))) l)
    ∙ replaced (assumed promises S) (renewing (result ++ cells)) l

-- one edge alone
alone : (l : List Condition) → l ≡ l ++ []
alone l = sym (append-nil l)

module _ (c : Context) (func : Bytes) (S : List Step) (next : ℕ → List Condition) (i j : ℕ) where
  one : (a b m : List Condition) → map (finished S) b ≡ m → map (finished S) (a ++ b) ≡ map (finished S) a ++ (m ++ [])
  one a b m e = then_more S a b (m ++ []) (e ∙ alone m)

  two : (T : List Step) (h g : FormTree) (x y : List Condition)
      → map (finished T) (implies h x ++ implies g y) ≡ map (finished (given_step h T)) x ++ (map (finished (given_step g T)) y ++ [])
  two T h g x y = map-append (finished T) (implies h x) (implies g y)
      ∙ ap₂ (λ l m. l ++ m) (given T h x) (given T g y ∙ alone (map (finished (given_step g T)) y))

  candidates : (p : Pos) (d : _) (x : Bytes) (es : _) (result cells : List Sym) (fs : List Bytes)
      → map (finished S) (flat_map (λ f. implies (is_function c x f) (returned c f (map (val c.numbers) es) result (cells_of c f cells) (next i))) fs)
      ≡ beyond c (map (λ f. (reached (call_by p d x es result cells) f, i)) fs) next S
  candidates p d x es result cells [] = refl
  candidates p d x es result cells (f ∷ fs) =
      map-append (finished S) (implies (is_function c x f) (returned c f (map (val c.numbers) es) result (cells_of c f cells) (next i))) _
      ∙ ap₂ (λ l m. l ++ m)
      (given S (is_function c x f) (returned c f (map (val c.numbers) es) result (cells_of c f cells) (next i))
      ∙ call_over c f (map (val c.numbers) es) result (cells_of c f cells) (given_step (is_function c x f) S) (next i))
      (candidates p d x es result cells fs)

  pub step_is : (t : Annotated) → map (finished S) (step c func t (next i) (next j)) ≡ here c func t S ++ beyond c (edges c t i j) next S
  step_is (aside s) = alone (map (finished S) (next i))
  step_is (break_loop p) = alone (map (finished S) (next i))
  step_is (set p d e) = one (map (owed_at p) (own c.numbers e)) _ _ (replaced S (setting_at d (val c.numbers e)) (next i))
  step_is (set_element p a x e) = one (map (owed_at p) (own_element c.numbers a x e)) _ _ (replaced S (storing a (val c.numbers x) (val c.numbers e)) (next i))
  step_is (output p e) = one (map (owed_at p) (own c.numbers e)) _ _ refl
  step_is (input p d fresh) = replaced S (renewing fresh) (next i) ∙ alone _
  step_is (choice p d k fresh) = replaced S (renewing fresh) (next i) ∙ alone _
  step_is (assert_that p e) =
      let goal : Condition = goal_of p what.Assert (fact.Plain (form c.numbers e)) in
      then_more S (map (owed_at p) (own c.numbers e)) _ _
      (ap (λ l. finished S goal ∷ l) (given S (form c.numbers e) (next i) ∙ alone _))
      ∙ sym (append_assoc (map (finished S) (map (owed_at p) (own c.numbers e))) (finished S goal ∷ []) _)
  step_is (if_else p e a b) = then_more S (map (owed_at p) (own c.numbers e)) _ _ (two S (form c.numbers e) (denied (form c.numbers e)) (next i) (next j))
  step_is (while_loop p e a invariants fresh) =
      let T : List Step = turn_steps invariants fresh S in
      then_more S (goals p what.InvariantEntry invariants) _ _
      (replaced S (renewing fresh) _ ∙ all_given invariants (stepped.Replaces (renewing fresh) ∷ S) _
      ∙ then_more T (map (owed_at p) (own c.numbers e)) _ _ (two T (form c.numbers e) (denied (form c.numbers e)) (next i) (next j)))
      ∙ sym (append_assoc (map (finished S) (goals p what.InvariantEntry invariants)) (map (finished T) (map (owed_at p) (own c.numbers e))) _)
  step_is (return_with p None) = alone _
  step_is (return_with p (Some e)) = map-append (finished S) (map (owed_at p) (own c.numbers e)) (promised c func p (val c.numbers e)) ∙ alone _
  step_is (call p d f es result cells) =
      then_more S (map (owed_at p) (own_all c.numbers es)) _ _
      (one (asked c p f (map (val c.numbers) es)) _ _ (call_over c f (map (val c.numbers) es) result cells S (next i)))
      ∙ sym (append_assoc (map (finished S) (map (owed_at p) (own_all c.numbers es))) (map (finished S) (asked c p f (map (val c.numbers) es))) _)
  step_is (call_by p d x es result cells) =
      let goal : Condition = goal_of p what.NullCall (fact.Plain (denied (equal (name (current x)) (number (pos 0))))) in
      let asks : List Condition = flat_map (λ f. implies (is_function c x f) (asked c p f (map (val c.numbers) es))) (c.reached (length es)) in
      then_more S (map (owed_at p) (own_all c.numbers es)) _ _
      (ap (λ l. finished S goal ∷ l) (then_more S asks _ _ (candidates p d x es result cells (c.reached (length es)))))
      ∙ sym (append_assoc (map (finished S) (map (owed_at p) (own_all c.numbers es))) (finished S goal ∷ map (finished S) asks) _)
