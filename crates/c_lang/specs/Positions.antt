-- Programs whose positions can be printed: each statement and declaration has a unit of programs, and a line
-- that `#line` can give.
use Rattle.std.specs.Prelude.{⊤, map, All}
use Rattle.c_lang.specs.Units.{IsPosition}
use Rattle.c_lang.specs.Trees.{Statement, Statements, skip, set, set_element, call, call_by, if_else, while_loop, break_loop, return_with, assert_that, input, output, point, choice, force, pick, none, more, statement_of, statements}
use Rattle.c_lang.specs.declared.program.Func.{Func}
use Rattle.c_lang.specs.declared.program.Program.{Program}

abbrev mutual
  pub StatementHasPositions : Statement → Type 0
  StatementHasPositions (skip p) = IsPosition p
  StatementHasPositions (set p d e) = IsPosition p
  StatementHasPositions (set_element p a i e) = IsPosition p
  StatementHasPositions (call p d f es) = IsPosition p
  StatementHasPositions (call_by p d x es) = IsPosition p
  StatementHasPositions (if_else p e a b) = IsPosition p × StatementsHavePositions a × StatementsHavePositions b
  StatementHasPositions (while_loop p e a) = IsPosition p × StatementsHavePositions a
  StatementHasPositions (break_loop p) = IsPosition p
  StatementHasPositions (return_with p e) = IsPosition p
  StatementHasPositions (assert_that p e) = IsPosition p
  StatementHasPositions (input p d) = IsPosition p
  StatementHasPositions (output p e) = IsPosition p
  StatementHasPositions (point p k) = IsPosition p
  StatementHasPositions (choice p d k) = IsPosition p
  StatementHasPositions (force p) = IsPosition p
  StatementHasPositions (pick p a b) = IsPosition p × StatementHasPositions a × StatementHasPositions b

  pub StatementsHavePositions : Statements → Type 0
  StatementsHavePositions none = ⊤
  StatementsHavePositions (more s ss) = StatementHasPositions s × StatementsHavePositions ss

abbrev pub FuncHasPositions : Func → Type 0
FuncHasPositions f = IsPosition f.pos × StatementsHavePositions (statements (map statement_of f.body))

pub record ProgramHasPositions (P : Program) : Type 0 where
  pub globals : All (λ g. IsPosition g.pos) P.globals
  pub protos : All (λ p. IsPosition p.pos) P.protos
  pub funcs : All FuncHasPositions P.funcs
