-- The text of statements in a merged program: each on a line of its own, behind a line that gives
-- its position, without indentation.
use Rattle.std.specs.Prelude.{ℕ, zero, suc, List, [], ◌++◌, Option, Some, None, codes}
use Rattle.std.specs.Fmt.{decimal}
use Rattle.c_lang.specs.Names.{Bytes}
use Rattle.c_lang.specs.Units.{word}
use Rattle.c_lang.specs.Trees.{Expression, Statement, Statements, skip, set, set_element, call, call_by, if_else, while_loop, break_loop, return_with, assert_that, input, output, point, choice, force, pick, none, more}
use Rattle.c_lang.specs.declared.unit.Pos.{Pos}
use Rattle.c_lang.specs.declared.stmt.Kind.{Kind}
use Rattle.c_lang.specs.declared.stmt.Kind.TheVariants as kind
use Rattle.c_lang.specs.declared.stmt.Dest.{Dest}
use Rattle.c_lang.specs.declared.stmt.Dest.TheVariants.{Nowhere, Into, Fresh}
use Rattle.merge_printer.specs.Expressions.{expression_text, expressions_text}

-- `#line LINE "UNIT"` and a line feed
unfoldable pub position_text : Pos → Bytes
position_text p = codes "#line " ++ (decimal p.line ++ (codes " \"" ++ (word p.unit ++ codes "\"\n")))

abbrev pub more_ints : ℕ → Bytes
more_ints zero = []
more_ints (suc n) = codes ", int" ++ more_ints n

-- so many parameters of kind `int`
abbrev pub ints : ℕ → Bytes
ints zero = codes "void"
ints (suc n) = codes "int" ++ more_ints n

-- a name declared with its kind
abbrev pub declaration : Kind → Bytes → Bytes
declaration kind.Int x = codes "int " ++ x
declaration (kind.Fp n) x = codes "int (*" ++ (x ++ (codes ")(" ++ (ints n ++ codes ")")))

-- what stands before a right side
abbrev pub target : Dest → Bytes
target Nowhere = []
target (Into x) = x ++ codes " = "
target (Fresh k x) = declaration k x ++ codes " = "

abbrev pub call_text : Bytes → List Expression → Bytes
call_text f es = f ++ (codes "(" ++ (expressions_text es ++ codes ")"))

abbrev pub return_text : Option Expression → Bytes
return_text None = codes "return;\n"
return_text (Some e) = codes "return " ++ (expression_text e ++ codes ";\n")

-- the end of an `if`: an `else` only where it has a statement
abbrev pub else_text : Statements → Bytes → Bytes
else_text none text = codes "}\n"
else_text (more s ss) text = codes "} else {\n" ++ (text ++ codes "}\n")

abbrev mutual
  pub statement_text : Statement → Bytes
  statement_text (skip p) = position_text p ++ codes ";\n"
  statement_text (set p d e) = position_text p ++ (target d ++ (expression_text e ++ codes ";\n"))
  statement_text (set_element p a i e) =
      position_text p ++ (a ++ (codes "[" ++ (expression_text i ++ (codes "] = " ++ (expression_text e ++ codes ";\n")))))
  statement_text (call p d f es) = position_text p ++ (target d ++ (call_text f es ++ codes ";\n"))
  statement_text (call_by p d x es) = position_text p ++ (target d ++ (call_text x es ++ codes ";\n"))
  statement_text (if_else p e a b) =
      position_text p ++ (codes "if (" ++ (expression_text e ++ (codes ") {\n" ++ (statements_text a ++ else_text b (statements_text b)))))
  statement_text (while_loop p e a) =
      position_text p ++ (codes "while (" ++ (expression_text e ++ (codes ") {\n" ++ (statements_text a ++ codes "}\n"))))
  statement_text (break_loop p) = position_text p ++ codes "break;\n"
  statement_text (return_with p e) = position_text p ++ return_text e
  statement_text (assert_that p e) = position_text p ++ (codes "assert(" ++ (expression_text e ++ codes ");\n"))
  statement_text (input p d) = position_text p ++ (target d ++ codes "client_in();\n")
  statement_text (output p e) = position_text p ++ (codes "client_out(" ++ (expression_text e ++ codes ");\n"))
  statement_text (point p k) = position_text p ++ (codes "dsu_update(" ++ (decimal k ++ codes ");\n"))
  statement_text (choice p d k) = position_text p ++ (target d ++ (codes "dsu_choice(" ++ (decimal k ++ codes ");\n")))
  statement_text (force p) = position_text p ++ codes "dsu_force();\n"
  statement_text (pick p a b) =
      position_text p ++ (codes "if (dsu_updated()) {\n" ++ (statement_text a ++ (codes "} else {\n" ++ (statement_text b ++ codes "}\n"))))

  pub statements_text : Statements → Bytes
  statements_text none = []
  statements_text (more s ss) = statement_text s ++ statements_text ss
