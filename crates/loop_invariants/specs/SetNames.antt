-- What statements set: their destinations, and the cells that called functions may change.
use Rattle.std.specs.Prelude.{ℕ, Bool, List, [], ◌∷◌, ◌++◌, flat_map, length}
use Rattle.std.specs.List.{list_any}
use Rattle.std.specs.Str.{bytes_eq}
use Rattle.c_lang.specs.Names.{Bytes}
use Rattle.c_lang.specs.Trees.{Statement, Statements}
use Rattle.c_lang.specs.Trees as tree
use Rattle.c_lang.specs.declared.stmt.Dest.{Dest}
use Rattle.c_lang.specs.declared.stmt.Dest.TheVariants as dest
use Rattle.loop_invariants.specs.Context.{Context}

abbrev pub is_among : Bytes → List Bytes → Bool
is_among x bases = list_any (bytes_eq x) bases

abbrev pub set_by : Dest → List Bytes
set_by dest.Nowhere = []
set_by (dest.Into x) = x ∷ []
set_by (dest.Fresh k x) = x ∷ []

-- the cells that some function reached by a pointer may change
abbrev pub reached_assigns : Context → ℕ → List Bytes
reached_assigns c n = flat_map c.assigns (c.reached n)

-- what a statement sets
abbrev mutual
  pub sets : Context → Statement → List Bytes
  sets c (tree.set p d e) = set_by d
  sets c (tree.set_element p a i e) = a ∷ []
  sets c (tree.call p d f es) = set_by d ++ c.assigns f
  sets c (tree.call_by p d x es) = set_by d ++ reached_assigns c (length es)
  sets c (tree.if_else p e a b) = sets_in c a ++ sets_in c b
  sets c (tree.while_loop p e a) = sets_in c a
  sets c (tree.input p d) = set_by d
  sets c (tree.choice p d k) = set_by d
  sets c (tree.skip p) = []
  sets c (tree.break_loop p) = []
  sets c (tree.return_with p e) = []
  sets c (tree.assert_that p e) = []
  sets c (tree.output p e) = []
  sets c (tree.point p k) = []
  sets c (tree.force p) = []
  sets c (tree.pick p a b) = []

  pub sets_in : Context → Statements → List Bytes
  sets_in c tree.none = []
  sets_in c (tree.more s ss) = sets c s ++ sets_in c ss
