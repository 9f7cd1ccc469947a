-- The functions that a call through a pointer may reach.
use Rattle.std.specs.Prelude.{ℕ, ◌==◌, Bool, false, ◌||◌, List, [], ◌∷◌, map, Option, Some, None, filter, length}
use Rattle.std.specs.Str.{bytes_eq}
use Rattle.c_lang.specs.Names.{Bytes}
use Rattle.c_lang.specs.Trees.{Expression, literal, variable, element, function, null, negation, logical_not, binary, Statement, skip, set, set_element, call, call_by, if_else, while_loop, break_loop, return_with, assert_that, input, output, point, choice, force, pick, Statements, none, more, statements, statement_of}
use Rattle.c_lang.specs.declared.program.Shape.{Shape}
use Rattle.c_lang.specs.declared.program.Shape.TheVariants as shape
use Rattle.c_lang.specs.declared.program.GlobalVar.{GlobalVar}
use Rattle.c_lang.specs.declared.program.Func.{Func}
use Rattle.c_lang.specs.declared.program.Program.{Program}

-- whether the function's name is a value in the expression
abbrev pub names : Bytes → Expression → Bool
names f (literal z) = false
names f (variable x) = false
names f (element a i) = names f i
names f (function g) = bytes_eq g f
names f null = false
names f (negation e) = names f e
names f (logical_not e) = names f e
names f (binary o a b) = names f a || names f b

abbrev pub some_names : Bytes → List Expression → Bool
some_names f [] = false
some_names f (e ∷ es) = names f e || some_names f es

abbrev pub result_names : Bytes → Option Expression → Bool
result_names f None = false
result_names f (Some e) = names f e

-- whether it is one in an expression of the statement
abbrev mutual
  pub statement_names : Bytes → Statement → Bool
  statement_names f (set p d e) = names f e
  statement_names f (set_element p a i e) = names f i || names f e
  statement_names f (call p d g es) = some_names f es
  statement_names f (call_by p d x es) = some_names f es
  statement_names f (if_else p e a b) = names f e || (body_names f a || body_names f b)
  statement_names f (while_loop p e a) = names f e || body_names f a
  statement_names f (return_with p e) = result_names f e
  statement_names f (assert_that p e) = names f e
  statement_names f (output p e) = names f e
  statement_names f (pick p a b) = statement_names f a || statement_names f b
  statement_names f (skip p) = false
  statement_names f (break_loop p) = false
  statement_names f (input p d) = false
  statement_names f (point p k) = false
  statement_names f (choice p d k) = false
  statement_names f (force p) = false

  pub body_names : Bytes → Statements → Bool
  body_names f none = false
  body_names f (more s ss) = statement_names f s || body_names f ss

-- whether a pointer has it at the start
abbrev pub starts_with : Bytes → Shape → Bool
starts_with f (shape.Int z) = false
starts_with f (shape.Arr zs) = false
starts_with f (shape.Fp n None) = false
starts_with f (shape.Fp n (Some g)) = bytes_eq g f

abbrev pub some_start : Bytes → List GlobalVar → Bool
some_start f [] = false
some_start f (g ∷ gs) = starts_with f g.shape || some_start f gs

abbrev pub some_body_names : Bytes → List Func → Bool
some_body_names f [] = false
some_body_names f (d ∷ ds) = body_names f (statements (map statement_of d.body)) || some_body_names f ds

-- whether the function's name is a value somewhere in the program
abbrev pub is_value : Program → Bytes → Bool
is_value p f = some_start f p.globals || some_body_names f p.funcs

-- the functions whose names are values, in the order of their declarations
abbrev pub value_functions : Program → List Func
value_functions p = filter (λ d. is_value p d.name) p.funcs

-- those that a call through a pointer with this many arguments may reach
abbrev pub candidates : Program → ℕ → List Func
candidates p n = filter (λ d. length d.params == n) (value_functions p)
