-- A loop looked for by its number, from the first statement on.
use Rattle.std.specs.Prelude.{ℕ, zero, suc, List, ◌++◌, map, Option, Some, None}
use Rattle.std.specs.Borrow.{Bor}
use Rattle.c_lang.specs.Names.{Bytes}
use Rattle.c_lang.specs.Trees.{Statement, Statements}
use Rattle.c_lang.specs.Trees as tree
use Rattle.loop_invariants.specs.Loops.{declared}
use Rattle.loop_invariants.specs.declared.loops.Sought as code
use Rattle.loop_invariants.specs.declared.loops.Sought.TheVariants as code_sought

-- what is visible at the loop, or how many more loops stand before it
pub data Sought : Type 0 where
  found : List Bytes → Sought
  left : ℕ → Sought

abbrev pub names_in : List (Bor Bytes) → List Bytes
names_in xs = map (λ x. x.now) xs

abbrev pub seen_sought : code.Sought → Sought
seen_sought (code_sought.Found names) = found (names_in names.items)
seen_sought (code_sought.Left n) = left n

abbrev pub visible_in : Sought → Option (List Bytes)
visible_in (found names) = Some names
visible_in (left n) = None

-- where it isn't there, in what follows
abbrev pub or_else : Sought → (ℕ → Sought) → Sought
or_else (found names) next = found names
or_else (left n) next = next n

-- at a loop, where `inside` looks for it in the body
abbrev pub at_loop : ℕ → List Bytes → (ℕ → Sought) → Sought
at_loop zero visible inside = found visible
at_loop (suc n) visible inside = inside n

abbrev mutual
  pub seek : ℕ → List Bytes → Statement → Sought
  seek n visible (tree.while_loop p e a) = at_loop n visible (λ m. seek_in m visible a)
  seek n visible (tree.if_else p e a b) = or_else (seek_in n visible a) (λ m. seek_in m visible b)
  seek n visible (tree.skip p) = left n
  seek n visible (tree.set p d e) = left n
  seek n visible (tree.set_element p a i e) = left n
  seek n visible (tree.call p d f es) = left n
  seek n visible (tree.call_by p d x es) = left n
  seek n visible (tree.break_loop p) = left n
  seek n visible (tree.return_with p e) = left n
  seek n visible (tree.assert_that p e) = left n
  seek n visible (tree.input p d) = left n
  seek n visible (tree.output p e) = left n
  seek n visible (tree.point p k) = left n
  seek n visible (tree.choice p d k) = left n
  seek n visible (tree.force p) = left n
  seek n visible (tree.pick p a b) = left n

  pub seek_in : ℕ → List Bytes → Statements → Sought
  seek_in n visible tree.none = left n
  seek_in n visible (tree.more s ss) = or_else (seek n visible s) (λ m. seek_in m (visible ++ declared s) ss)
