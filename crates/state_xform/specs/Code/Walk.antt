-- What a walk over statements finds of a name, without looking at each path.
use Rattle.std.specs.Prelude.{Bool, true, false, ◌&&◌, ◌||◌, bytes_eq}
use Rattle.c_lang.specs.Names.{Bytes}
use Rattle.c_lang.specs.Trees.{Statement, Statements, set, if_else, while_loop, break_loop, return_with, none, more}
use Rattle.c_lang.specs.declared.stmt.Dest.{Dest}
use Rattle.c_lang.specs.declared.stmt.Dest.TheVariants.{Nowhere, Into, Fresh}

-- whether each path that goes on sets the name, and each that returns
pub record Sets : Type 0 where
  pub behind : Bool
  pub returned : Bool

abbrev pub found : Bool → Bool → Sets
found behind returned = record { behind = behind; returned = returned }

-- one after the other
abbrev pub joined : Sets → Sets → Sets
joined a b = found (a.behind || b.behind) (a.returned && (a.behind || b.returned))

-- one or the other
abbrev pub either : Sets → Sets → Sets
either a b = found (a.behind && b.behind) (a.returned && b.returned)

abbrev pub is_set : Dest → Bytes → Bool
is_set Nowhere x = false
is_set (Into y) x = bytes_eq x y
is_set (Fresh k y) x = false

abbrev mutual
  pub walk : Bytes → Statement → Sets
  walk x (set p d e) = found (is_set d x) true
  walk x (if_else p e a b) = either (walk_all x a) (walk_all x b)
  walk x (while_loop p e a) = found false (walk_all x a).returned
  walk x (break_loop p) = found true true
  walk x (return_with p e) = found true false
  walk x s = found false true

  pub walk_all : Bytes → Statements → Sets
  walk_all x none = found false true
  walk_all x (more s ss) = joined (walk x s) (walk_all x ss)
