-- How many conditions there are at a node, by how many there are at those that follow it.
use Rattle.std.specs.Prelude.{ℕ, suc, ◌+◌, length, Some, None}
use Rattle.c_lang.specs.Names.{Bytes}
use Rattle.expression_conditions.specs.Owed.{own, own_all, own_element}
use Rattle.loop_invariants.specs.Context.{Context}
use Rattle.weakest_preconditions.specs.Annotated.{Annotated, aside, set, set_element, call, call_by, if_else, while_loop, break_loop, return_with, assert_that, input, output, choice}
use Rattle.weakest_preconditions.specs.Counted.{asked_count, once_each}
use Rattle.control_flow.specs.Nodes.{Node, ends, turns, does}

abbrev pub step_count : Context → Bytes → Annotated → (first second : ℕ) → ℕ
step_count c func (set p d e) m n = length (own c.numbers e) + m
step_count c func (set_element p a i e) m n = length (own_element c.numbers a i e) + m
step_count c func (assert_that p e) m n = length (own c.numbers e) + suc m
step_count c func (output p e) m n = length (own c.numbers e) + m
step_count c func (if_else p e a b) m n = length (own c.numbers e) + (m + n)
step_count c func (while_loop p e a invariants fresh) m n = length invariants + (length (own c.numbers e) + (m + n))
step_count c func (return_with p None) m n = length (c.promises func)
step_count c func (return_with p (Some e)) m n = length (own c.numbers e) + length (c.promises func)
step_count c func (input p d fresh) m n = m
step_count c func (choice p d k fresh) m n = m
step_count c func (call p d f es result cells) m n = length (own_all c.numbers es) + (length (c.needs f) + m)
step_count c func (call_by p d x es result cells) m n =
    length (own_all c.numbers es) + suc (asked_count c (c.reached (length es)) + once_each (c.reached (length es)) m)
step_count c func (aside s) m n = m
step_count c func (break_loop p) m n = m

-- where `end` follow the body, and the nodes are counted by their numbers
abbrev pub node_count : Context → Bytes → (end : ℕ) → Node → (ℕ → ℕ) → ℕ
node_count c func end ends next = end
node_count c func end (turns p invariants) next = length invariants
node_count c func end (does t first second) next = step_count c func t (next first) (next second)
