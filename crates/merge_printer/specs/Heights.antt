-- How high the printed text of a program is: a pair of brackets adds one where grouping needs it.
use Rattle.std.specs.Prelude.{ℕ, ◌+◌, max, if◌then◌else◌, nat_lt, List, [], ◌∷◌, Option, Some, None, map}
use Rattle.c_lang.specs.Operators.{level}
use Rattle.c_lang.specs.Trees.{Expression, literal, variable, element, function, null, negation, logical_not, binary, Statement, Statements, skip, set, set_element, call, call_by, if_else, while_loop, break_loop, return_with, assert_that, input, output, point, choice, force, pick, none, more, statement_of, statements}
use Rattle.c_lang.specs.declared.program.Func.{Func}
use Rattle.merge_printer.specs.Expressions.{binds}

-- one more in brackets, which stand where it binds less tightly than its place asks
abbrev pub height_in_place : ℕ → ℕ → ℕ → ℕ
height_in_place least binding height = if nat_lt binding least then height + 1 else height

abbrev pub expression_height : Expression → ℕ
expression_height (literal z) = 1
expression_height (variable x) = 1
expression_height (element a i) = expression_height i + 1
expression_height (function f) = 1
expression_height null = 1
expression_height (negation e) = height_in_place 7 (binds e) (expression_height e) + 1
expression_height (logical_not e) = height_in_place 7 (binds e) (expression_height e) + 1
expression_height (binary o a b) =
    max (height_in_place (level o) (binds a) (expression_height a)) (height_in_place (level o + 1) (binds b) (expression_height b)) + 1

-- the highest of a call's arguments; 1 where there is none
abbrev pub arguments_height : List Expression → ℕ
arguments_height [] = 1
arguments_height (e ∷ es) = max (expression_height e) (arguments_height es)

abbrev pub optional_height : Option Expression → ℕ
optional_height None = 0
optional_height (Some e) = expression_height e

abbrev mutual
  pub statement_height : Statement → ℕ
  statement_height (skip p) = 1
  statement_height (set p d e) = expression_height e + 1
  statement_height (set_element p a i e) = max (expression_height i) (expression_height e) + 1
  statement_height (call p d f es) = arguments_height es + 1 + 1
  statement_height (call_by p d x es) = arguments_height es + 1 + 1
  statement_height (if_else p e a b) = max (expression_height e) (max (statements_height a) (statements_height b)) + 1
  statement_height (while_loop p e a) = max (expression_height e) (statements_height a) + 1
  statement_height (break_loop p) = 1
  statement_height (return_with p e) = optional_height e + 1
  statement_height (assert_that p e) = expression_height e + 1
  statement_height (input p d) = 2
  statement_height (output p e) = expression_height e + 1
  statement_height (point p k) = 2
  statement_height (choice p d k) = 3
  statement_height (force p) = 1
  statement_height (pick p a b) = max (statement_height a) (statement_height b) + 1

  pub statements_height : Statements → ℕ
  statements_height none = 0
  statements_height (more s ss) = max (statement_height s) (statements_height ss)

abbrev pub funcs_height : List Func → ℕ
funcs_height [] = 0
funcs_height (f ∷ fs) = max (statements_height (statements (map statement_of f.body))) (funcs_height fs)
