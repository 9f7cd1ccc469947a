-- The conditions at a node, in front of those of the nodes that follow it.
use Rattle.std.specs.Prelude.{ℕ, ◌==◌, if◌then◌else◌, pos, List, [], ◌∷◌, ◌++◌, map, flat_map, length, Some, None}
use Rattle.c_lang.specs.Names.{Bytes}
use Rattle.terms.specs.declared.fact.Fact.TheVariants as fact
use Rattle.terms.specs.declared.sequent.What.TheVariants as what
use Rattle.terms.specs.Trees.{number, name, equal, denied}
use Rattle.expression_conditions.specs.Meanings.{val, form, current}
use Rattle.expression_conditions.specs.Owed.{own, own_all, own_element}
use Rattle.loop_invariants.specs.Context.{Context}
use Rattle.weakest_preconditions.specs.Changing.{change, setting_at, storing, renewing}
use Rattle.weakest_preconditions.specs.Annotated.{Annotated, aside, set, set_element, call, call_by, if_else, while_loop, break_loop, return_with, assert_that, input, output, choice}
use Rattle.weakest_preconditions.specs.Wp.{Condition, changed, implies, all_imply, goal_of, goals, owed_at, promised, asked, returned, is_function, cells_of}
use Rattle.control_flow.specs.Nodes.{Node, ends, turns, does}

-- Those of a statement of the function `func`, where `first` and `second` are those of what follows it.
abbrev pub step : Context → Bytes → Annotated → (first second : List Condition) → List Condition
step c func (set p d e) first second = map (owed_at p) (own c.numbers e) ++ map (changed (change (setting_at d (val c.numbers e)))) first
step c func (set_element p a i e) first second = map (owed_at p) (own_element c.numbers a i e)
    ++ map (changed (change (storing a (val c.numbers i) (val c.numbers e)))) first
step c func (assert_that p e) first second = map (owed_at p) (own c.numbers e)
    ++ (goal_of p what.Assert (fact.Plain (form c.numbers e)) ∷ implies (form c.numbers e) first)
step c func (output p e) first second = map (owed_at p) (own c.numbers e) ++ first
step c func (if_else p e a b) first second = map (owed_at p) (own c.numbers e)
    ++ (implies (form c.numbers e) first ++ implies (denied (form c.numbers e)) second)
step c func (while_loop p e a invariants fresh) first second = goals p what.InvariantEntry invariants
    ++ map (changed (change (renewing fresh))) (all_imply invariants (map (owed_at p) (own c.numbers e)
    ++ (implies (form c.numbers e) first ++ implies (denied (form c.numbers e)) second)))
step c func (return_with p None) first second = goals p what.Ensures (c.promises func)
step c func (return_with p (Some e)) first second = map (owed_at p) (own c.numbers e) ++ promised c func p (val c.numbers e)
step c func (input p d fresh) first second = map (changed (change (renewing fresh))) first
step c func (choice p d k fresh) first second = map (changed (change (renewing fresh))) first
step c func (call p d f es result cells) first second = map (owed_at p) (own_all c.numbers es)
    ++ (asked c p f (map (val c.numbers) es) ++ returned c f (map (val c.numbers) es) result cells first)
step c func (call_by p d x es result cells) first second = map (owed_at p) (own_all c.numbers es)
    ++ (goal_of p what.NullCall (fact.Plain (denied (equal (name (current x)) (number (pos 0)))))
    ∷ (flat_map (λ f. implies (is_function c x f) (asked c p f (map (val c.numbers) es))) (c.reached (length es))
    ++ flat_map (λ f. implies (is_function c x f) (returned c f (map (val c.numbers) es) result (cells_of c f cells) first)) (c.reached (length es))))
step c func (aside s) first second = first
step c func (break_loop p) first second = first

-- those of a node, where `next` are those of the nodes by their numbers
abbrev pub at_node : Context → Bytes → (end : List Condition) → Node → (next : ℕ → List Condition) → List Condition
at_node c func end ends next = end
at_node c func end (turns p invariants) next = goals p what.InvariantKept invariants
at_node c func end (does t first second) next = step c func t (next first) (next second)

-- Those of the node with a number, where the nodes are given with the last one first, and numbered from 0 on.
abbrev pub conditions_at : Context → Bytes → (end : List Condition) → List Node → ℕ → List Condition
conditions_at c func end [] n = []
conditions_at c func end (node ∷ nodes) n =
    if n == length nodes then at_node c func end node (conditions_at c func end nodes) else conditions_at c func end nodes n
