-- Whether the end of a list of statements can be reached.
use Rattle.std.specs.Prelude.{pos, zero, Bool, true, false, not, ◌&&◌, ◌||◌}
use Rattle.c_lang.specs.Trees.{Expression, literal, Statement, Statements, if_else, while_loop, break_loop, return_with, none, more}

-- a literal other than 0
abbrev pub is_forever : Expression → Bool
is_forever (literal (pos zero)) = false
is_forever (literal z) = true
is_forever e = false

abbrev mutual
  -- a `break` belongs to the loop that has this statement in its body
  pub breaks : Statement → Bool
  breaks (if_else p e xs ys) = any_breaks xs || any_breaks ys
  breaks (break_loop p) = true
  breaks s = false

  pub any_breaks : Statements → Bool
  any_breaks none = false
  any_breaks (more s ss) = breaks s || any_breaks ss

abbrev mutual
  pub ends : Statement → Bool
  ends (return_with p e) = false
  ends (break_loop p) = false
  ends (if_else p e xs ys) = can_end xs || can_end ys
  ends (while_loop p e xs) = not (is_forever e && not (any_breaks xs))
  ends s = true

  -- a list can end where each statement can
  pub can_end : Statements → Bool
  can_end none = true
  can_end (more s ss) = ends s && can_end ss
