-- How many conditions there are, without making them. A body is gone through once, whatever the number of paths.
use Rattle.std.specs.Prelude.{ℕ, suc, ◌+◌, List, [], ◌∷◌, length, Some, None}
use Rattle.c_lang.specs.Names.{Bytes}
use Rattle.expression_conditions.specs.Owed.{own, own_all, own_element}
use Rattle.loop_invariants.specs.Context.{Context}
use Rattle.weakest_preconditions.specs.Annotated.{Annotated, aside, set, set_element, call, call_by, if_else, while_loop, break_loop, return_with, assert_that, input, output, choice, Body, none, more}

-- those of a call of each function, and those that follow each, n in number
abbrev pub asked_count : Context → List Bytes → ℕ
asked_count c [] = 0
asked_count c (f ∷ fs) = length (c.needs f) + asked_count c fs

abbrev pub once_each : List Bytes → ℕ → ℕ
once_each [] n = 0
once_each (f ∷ fs) n = n + once_each fs n

-- n conditions follow, and b behind the loop
abbrev mutual
  pub counted : Context → Bytes → Annotated → ℕ → ℕ → ℕ
  counted c func (aside s) n b = n
  counted c func (set p d e) n b = length (own c.numbers e) + n
  counted c func (set_element p a i e) n b = length (own_element c.numbers a i e) + n
  counted c func (assert_that p e) n b = length (own c.numbers e) + suc n
  counted c func (output p e) n b = length (own c.numbers e) + n
  counted c func (if_else p e x y) n b = length (own c.numbers e) + (counted_all c func x n b + counted_all c func y n b)
  counted c func (while_loop p e x invariants fresh) n b =
      length invariants + (length (own c.numbers e) + (counted_all c func x (length invariants) n + n))
  counted c func (break_loop p) n b = b
  counted c func (return_with p None) n b = length (c.promises func)
  counted c func (return_with p (Some e)) n b = length (own c.numbers e) + length (c.promises func)
  counted c func (input p d fresh) n b = n
  counted c func (choice p d k fresh) n b = n
  counted c func (call p d f es result cells) n b = length (own_all c.numbers es) + (length (c.needs f) + n)
  counted c func (call_by p d x es result cells) n b =
      length (own_all c.numbers es) + suc (asked_count c (c.reached (length es)) + once_each (c.reached (length es)) n)

  pub counted_all : Context → Bytes → Body → ℕ → ℕ → ℕ
  counted_all c func none n b = n
  counted_all c func (more t ts) n b = counted c func t (counted_all c func ts n b) b
