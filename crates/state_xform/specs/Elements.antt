-- The arrays of which a body sets elements.
use Rattle.std.specs.Prelude.{Bool, false, ◌||◌, bytes_eq}
use Rattle.c_lang.specs.Names.{Bytes}
use Rattle.c_lang.specs.Trees.{Statement, Statements, set_element, if_else, while_loop, none, more}

-- some statement sets an element of this array
abbrev mutual
  pub sets_element : Bytes → Statement → Bool
  sets_element x (set_element p a i e) = bytes_eq x a
  sets_element x (if_else p e a b) = sets_element_in x a || sets_element_in x b
  sets_element x (while_loop p e a) = sets_element_in x a
  sets_element x s = false

  pub sets_element_in : Bytes → Statements → Bool
  sets_element_in x none = false
  sets_element_in x (more s ss) = sets_element x s || sets_element_in x ss
