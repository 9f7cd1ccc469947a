-- What is made at a statement, and how what stands round a condition changes from a statement to what follows it.
use Rattle.std.specs.Prelude.{ℕ, ℤ, pos, List, [], ◌∷◌, ◌++◌, map, flat_map, length, Some, None}
use Rattle.c_lang.specs.Names.{Bytes}
use Rattle.terms.specs.declared.sym.Sym.{Sym}
use Rattle.terms.specs.declared.fact.Fact.{Fact}
use Rattle.terms.specs.declared.fact.Fact.TheVariants as fact
use Rattle.terms.specs.declared.sequent.What.TheVariants as what
use Rattle.terms.specs.Trees.{TermTree, number, name, FormTree, equal, denied}
use Rattle.terms.specs.Replacing.{replaced_fact}
use Rattle.expression_conditions.specs.Meanings.{val, form, current}
use Rattle.expression_conditions.specs.Owed.{own, own_all, own_element}
use Rattle.c_lang.specs.declared.program.Func.{Func}
use Rattle.c_lang.specs.declared.program.Program.{Program}
use Rattle.loop_invariants.specs.Hints.{Hints}
use Rattle.loop_invariants.specs.Context.{Context, context_of}
use Rattle.weakest_preconditions.specs.Changing.{change, setting_at, storing, renewing, returning, entering}
use Rattle.weakest_preconditions.specs.Annotated.{Annotated, set, set_element, call, call_by, if_else, while_loop, return_with, assert_that, input, output, choice}
use Rattle.weakest_preconditions.specs.Wp.{Condition, implies, goal_of, goals, owed_at, promised, asked, is_function, cells_of}
use Rattle.symbolic_state.specs.declared.step.Step.{Step}
use Rattle.symbolic_state.specs.declared.step.Step.TheVariants as stepped
use Rattle.symbolic_state.specs.Steps.{finished, assumed}

-- The way on from a statement: behind it, where its condition holds or doesn't, or behind the function that a call
-- through a pointer reached; or one on which nothing changes.
pub data Edge : Type 0 where
  straight : Edge
  behind : Annotated → Edge
  holds : Annotated → Edge
  fails : Annotated → Edge
  reached : Annotated → Bytes → Edge

-- ---- steps

-- where a loop's condition is read
abbrev pub turn_steps : List Fact → List Sym → List Step → List Step
turn_steps invariants fresh steps = assumed invariants (stepped.Replaces (renewing fresh) ∷ steps)

abbrev pub call_steps : Context → Bytes → List TermTree → List Sym → List Sym → List Step → List Step
call_steps c f args result cells steps = stepped.Replaces (renewing (result ++ cells))
    ∷ assumed (map (replaced_fact (change (returning c.globals args result cells))) (c.promises f)) steps

abbrev pub given_step : FormTree → List Step → List Step
given_step h steps = stepped.Assumes (fact.Plain h) ∷ steps

abbrev pub behind_steps : Context → Annotated → List Step → List Step
behind_steps c (set p d e) steps = stepped.Replaces (setting_at d (val c.numbers e)) ∷ steps
behind_steps c (set_element p a i e) steps = stepped.Replaces (storing a (val c.numbers i) (val c.numbers e)) ∷ steps
behind_steps c (assert_that p e) steps = given_step (form c.numbers e) steps
behind_steps c (input p d fresh) steps = stepped.Replaces (renewing fresh) ∷ steps
behind_steps c (choice p d k fresh) steps = stepped.Replaces (renewing fresh) ∷ steps
behind_steps c (call p d f es result cells) steps = call_steps c f (map (val c.numbers) es) result cells steps
behind_steps c t steps = steps

abbrev pub holds_steps : Context → Annotated → List Step → List Step
holds_steps c (if_else p e a b) steps = given_step (form c.numbers e) steps
holds_steps c (while_loop p e a invariants fresh) steps = given_step (form c.numbers e) (turn_steps invariants fresh steps)
holds_steps c t steps = steps

abbrev pub fails_steps : Context → Annotated → List Step → List Step
fails_steps c (if_else p e a b) steps = given_step (denied (form c.numbers e)) steps
fails_steps c (while_loop p e a invariants fresh) steps = given_step (denied (form c.numbers e)) (turn_steps invariants fresh steps)
fails_steps c t steps = steps

abbrev pub reached_steps : Context → Annotated → Bytes → List Step → List Step
reached_steps c (call_by p d x es result cells) f steps =
    call_steps c f (map (val c.numbers) es) result (cells_of c f cells) (given_step (is_function c x f) steps)
reached_steps c t f steps = steps

abbrev pub edge_steps : Context → Edge → List Step → List Step
edge_steps c straight steps = steps
edge_steps c (behind t) steps = behind_steps c t steps
edge_steps c (holds t) steps = holds_steps c t steps
edge_steps c (fails t) steps = fails_steps c t steps
edge_steps c (reached t f) steps = reached_steps c t f steps

-- ---- the edges of a statement, with the numbers of the nodes to which they lead

abbrev pub edges : Context → Annotated → (first second : ℕ) → List (Edge × ℕ)
edges c (if_else p e a b) first second = (holds (if_else p e a b), first) ∷ ((fails (if_else p e a b), second) ∷ [])
edges c (while_loop p e a invariants fresh) first second =
    (holds (while_loop p e a invariants fresh), first) ∷ ((fails (while_loop p e a invariants fresh), second) ∷ [])
edges c (return_with p e) first second = []
edges c (call_by p d x es result cells) first second = map (λ f. (reached (call_by p d x es result cells) f, first)) (c.reached (length es))
edges c t first second = (behind t, first) ∷ []

-- ---- what is made at the statement itself

abbrev pub here : Context → Bytes → Annotated → List Step → List Condition
here c func (set p d e) steps = map (finished steps) (map (owed_at p) (own c.numbers e))
here c func (set_element p a i e) steps = map (finished steps) (map (owed_at p) (own_element c.numbers a i e))
here c func (assert_that p e) steps = map (finished steps) (map (owed_at p) (own c.numbers e))
    ++ (finished steps (goal_of p what.Assert (fact.Plain (form c.numbers e))) ∷ [])
here c func (output p e) steps = map (finished steps) (map (owed_at p) (own c.numbers e))
here c func (if_else p e a b) steps = map (finished steps) (map (owed_at p) (own c.numbers e))
here c func (while_loop p e a invariants fresh) steps = map (finished steps) (goals p what.InvariantEntry invariants)
    ++ map (finished (turn_steps invariants fresh steps)) (map (owed_at p) (own c.numbers e))
here c func (return_with p None) steps = map (finished steps) (goals p what.Ensures (c.promises func))
here c func (return_with p (Some e)) steps = map (finished steps) (map (owed_at p) (own c.numbers e))
    ++ map (finished steps) (promised c func p (val c.numbers e))
here c func (call p d f es result cells) steps = map (finished steps) (map (owed_at p) (own_all c.numbers es))
    ++ map (finished steps) (asked c p f (map (val c.numbers) es))
here c func (call_by p d x es result cells) steps = map (finished steps) (map (owed_at p) (own_all c.numbers es))
    ++ (finished steps (goal_of p what.NullCall (fact.Plain (denied (equal (name (current x)) (number (pos 0))))))
    ∷ map (finished steps) (flat_map (λ f. implies (is_function c x f) (asked c p f (map (val c.numbers) es))) (c.reached (length es))))
here c func t steps = []

-- what is made behind the edges, where `next` are the conditions of the nodes by their numbers
abbrev pub beyond : Context → List (Edge × ℕ) → (next : ℕ → List Condition) → List Step → List Condition
beyond c es next steps = flat_map (λ e. map (finished (edge_steps c e.0 steps)) (next e.1)) es

-- what is read of a program and hints for one of its functions
abbrev pub context_for : Program × Hints × Func → Context
context_for f = context_of f.0 f.1

abbrev pub zero : ℤ
zero = pos 0

-- what stands round all conditions of a function
abbrev pub entry_steps : Context → Func → List Step
entry_steps c f = assumed (c.needs f.name) (stepped.Replaces (entering c.globals (map (λ p. p.1) f.params)) ∷ [])
