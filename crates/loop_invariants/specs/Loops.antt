-- The loops of a function, and the parameters and locals that are visible at them.
use Rattle.std.specs.Prelude.{ℕ, zero, suc, List, [], ◌∷◌, ◌++◌, map, Option, Some, None}
use Rattle.c_lang.specs.Names.{Bytes}
use Rattle.c_lang.specs.Trees.{Statement, Statements, statements, statement_of}
use Rattle.c_lang.specs.Trees as tree
use Rattle.c_lang.specs.declared.stmt.Dest.{Dest}
use Rattle.c_lang.specs.declared.stmt.Dest.TheVariants as dest
use Rattle.c_lang.specs.declared.program.Func.{Func}

-- a local that is declared by storing into it
abbrev pub declared_in : Dest → List Bytes
declared_in dest.Nowhere = []
declared_in (dest.Into x) = []
declared_in (dest.Fresh k x) = x ∷ []

-- what a statement declares for those behind it
abbrev pub declared : Statement → List Bytes
declared (tree.set p d e) = declared_in d
declared (tree.call p d f es) = declared_in d
declared (tree.call_by p d x es) = declared_in d
declared (tree.input p d) = declared_in d
declared (tree.choice p d k) = declared_in d
declared s = []

-- The names that are visible at each `while`, in the order of the text, where `visible` are those before the statement.
abbrev mutual
  pub loops : List Bytes → Statement → List (List Bytes)
  loops visible (tree.while_loop p e a) = visible ∷ loops_in visible a
  loops visible (tree.if_else p e a b) = loops_in visible a ++ loops_in visible b
  loops visible (tree.skip p) = []
  loops visible (tree.set p d e) = []
  loops visible (tree.set_element p a i e) = []
  loops visible (tree.call p d f es) = []
  loops visible (tree.call_by p d x es) = []
  loops visible (tree.break_loop p) = []
  loops visible (tree.return_with p e) = []
  loops visible (tree.assert_that p e) = []
  loops visible (tree.input p d) = []
  loops visible (tree.output p e) = []
  loops visible (tree.point p k) = []
  loops visible (tree.choice p d k) = []
  loops visible (tree.force p) = []
  loops visible (tree.pick p a b) = []

  pub loops_in : List Bytes → Statements → List (List Bytes)
  loops_in visible tree.none = []
  loops_in visible (tree.more s ss) = loops visible s ++ loops_in (visible ++ declared s) ss

abbrev pub loops_of : Func → List (List Bytes)
loops_of f = loops_in (map (λ p. p.1) f.params) (statements (map statement_of f.body))

-- the k-th of a list, counted from 1
abbrev pub nth : {A : Type 0} → ℕ → List A → Option A
nth k [] = None
nth zero (x ∷ xs) = None
nth (suc zero) (x ∷ xs) = Some x
nth (suc (suc k)) (x ∷ xs) = nth (suc k) xs

-- what is visible at the loop of this number, counted from 1
abbrev pub visible_at : Func → ℕ → Option (List Bytes)
visible_at f number = nth number (loops_of f)
