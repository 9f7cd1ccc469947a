-- Literals are ints.
use Rattle.std.specs.Prelude.{⊤, ◌≡◌, ◌≤◌, ℕ, ℤ, pos, nat_abs, List, [], ◌∷◌, All, Option, Some, None}
use Rattle.c_lang.specs.Trees.{Expression, literal, variable, element, function, null, negation, logical_not, binary, Statement, skip, set, set_element, call, call_by, if_else, while_loop, break_loop, return_with, assert_that, input, output, point, choice, force, pick}
use Rattle.c_lang.specs.declared.program.Shape.{Shape}
use Rattle.c_lang.specs.declared.program.Shape.TheVariants as shape
use Rattle.c_lang.specs.declared.program.GlobalVar.{GlobalVar}
use Rattle.c_lang.specs.declared.program.Program.{Program}
use Rattle.written_laws.specs.Walk.{Context, InBodies}

abbrev pub largest : ℕ
largest = 2147483647

-- a literal has no sign
abbrev pub IsLiteral : ℤ → Type 0
IsLiteral z = (n : ℕ) × (z ≡ pos n) × (n ≤ largest)

abbrev pub HasInts : Expression → Type 0
HasInts (literal z) = IsLiteral z
HasInts (variable x) = ⊤
HasInts (element a i) = HasInts i
HasInts (function f) = ⊤
HasInts null = ⊤
HasInts (negation a) = HasInts a
HasInts (logical_not a) = HasInts a
HasInts (binary o a b) = HasInts a × HasInts b

abbrev pub HaveInts : List Expression → Type 0
HaveInts [] = ⊤
HaveInts (e ∷ es) = HasInts e × HaveInts es

abbrev pub ReturnsInts : Option Expression → Type 0
ReturnsInts None = ⊤
ReturnsInts (Some e) = HasInts e

abbrev pub StatementHasInts : Context → Statement → Type 0
StatementHasInts at (skip p) = ⊤
StatementHasInts at (set p d e) = HasInts e
StatementHasInts at (set_element p a i e) = HasInts i × HasInts e
StatementHasInts at (call p d f es) = HaveInts es
StatementHasInts at (call_by p d x es) = HaveInts es
StatementHasInts at (if_else p e a b) = HasInts e
StatementHasInts at (while_loop p e a) = HasInts e
StatementHasInts at (break_loop p) = ⊤
StatementHasInts at (return_with p e) = ReturnsInts e
StatementHasInts at (assert_that p e) = HasInts e
StatementHasInts at (input p d) = ⊤
StatementHasInts at (output p e) = HasInts e
StatementHasInts at (point p k) = k ≤ largest
StatementHasInts at (choice p d k) = k ≤ largest
StatementHasInts at (force p) = ⊤
StatementHasInts at (pick p a b) = ⊤

-- an initial value may have a sign
abbrev pub IsInitial : ℤ → Type 0
IsInitial z = nat_abs z ≤ largest

abbrev pub ShapeHasInts : Shape → Type 0
ShapeHasInts (shape.Int z) = IsInitial z
ShapeHasInts (shape.Arr zs) = All IsInitial zs
ShapeHasInts (shape.Fp n f) = ⊤

pub record LiteralsAreInts (p : Program) : Type 0 where
  pub initial : All (λ (g : GlobalVar). ShapeHasInts g.shape) p.globals
  pub bodies : InBodies StatementHasInts p
