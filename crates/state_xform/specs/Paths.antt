-- Which cells every path through a body sets.
use Rattle.std.specs.Prelude.{Bool, true, ◌&&◌, List, [], ◌∷◌, ◌++◌, map, bytes_eq}
use Rattle.std.specs.List.{list_any, list_all, flat_map}
use Rattle.c_lang.specs.Names.{Bytes}
use Rattle.c_lang.specs.Trees.{Statement, Statements, skip, set, set_element, call, call_by, if_else, while_loop, break_loop, return_with, assert_that, input, output, point, choice, force, pick, none, more}
use Rattle.c_lang.specs.declared.stmt.Dest.{Dest}
use Rattle.c_lang.specs.declared.stmt.Dest.TheVariants.{Nowhere, Into, Fresh}

-- A path sets these names, and goes on behind the list, or ends at a `return` or at a `break`.
pub data Path : Type 0 where
  behind : List Bytes → Path
  returned : List Bytes → Path
  broken : List Bytes → Path

abbrev pub set_by : Dest → List Bytes
set_by Nowhere = []
set_by (Into x) = x ∷ []
set_by (Fresh k x) = []

-- one path, which goes on
abbrev pub goes_on : List Bytes → List Path
goes_on names = behind names ∷ []

abbrev pub returned_among : List Path → List Path
returned_among [] = []
returned_among (behind names ∷ ps) = returned_among ps
returned_among (returned names ∷ ps) = returned names ∷ returned_among ps
returned_among (broken names ∷ ps) = returned_among ps

-- these names were set before
abbrev pub extended : List Bytes → Path → Path
extended before (behind names) = behind (before ++ names)
extended before (returned names) = returned (before ++ names)
extended before (broken names) = broken (before ++ names)

-- this path is followed by one of these
abbrev pub followed_by : List Path → Path → List Path
followed_by qs (behind names) = map (extended names) qs
followed_by qs (returned names) = returned names ∷ []
followed_by qs (broken names) = broken names ∷ []

-- The body of a loop counts where it returns in its first turn, and beside it the path that skips the loop.
abbrev mutual
  pub paths_of : Statement → List Path
  paths_of (set p d e) = goes_on (set_by d)
  paths_of (if_else p e a b) = paths_in a ++ paths_in b
  paths_of (while_loop p e a) = goes_on [] ++ returned_among (paths_in a)
  paths_of (break_loop p) = broken [] ∷ []
  paths_of (return_with p e) = returned [] ∷ []
  paths_of (skip p) = goes_on []
  paths_of (set_element p a i e) = goes_on []
  paths_of (call p d f es) = goes_on []
  paths_of (call_by p d x es) = goes_on []
  paths_of (assert_that p e) = goes_on []
  paths_of (input p d) = goes_on []
  paths_of (output p e) = goes_on []
  paths_of (point p k) = goes_on []
  paths_of (choice p d k) = goes_on []
  paths_of (force p) = goes_on []
  paths_of (pick p a b) = goes_on []

  pub paths_in : Statements → List Path
  paths_in none = goes_on []
  paths_in (more s ss) = flat_map (followed_by (paths_in ss)) (paths_of s)

-- where it goes on, it sets the name
abbrev pub sets_behind : Bytes → Path → Bool
sets_behind x (behind names) = list_any (bytes_eq x) names
sets_behind x (returned names) = true
sets_behind x (broken names) = true

-- where it returns, it sets the name
abbrev pub sets_returned : Bytes → Path → Bool
sets_returned x (behind names) = true
sets_returned x (returned names) = list_any (bytes_eq x) names
sets_returned x (broken names) = true

-- on every path to the end of the body or to a `return` the name is set
abbrev pub always_set : Bytes → Statements → Bool
always_set x body = list_all (sets_behind x) (paths_in body) && list_all (sets_returned x) (paths_in body)
