-- A program and its plain form have the same text.
use Rattle.std.specs.Prelude.{◌≡◌, List, [], ◌∷◌, ◌++◌, map, All, Some, None, codes}
use Rattle.std.proofs.Common.{refl, ap, ap₂, ◌∙◌, arith}
use Rattle.std.specs.List.{flat_map}
use Rattle.std.proofs.lemmas.Fmt.{decimal_digit}
use Rattle.std.proofs.lemmas.List.Elements.{All-nil, All-cons}
use Rattle.c_lang.specs.Names.{Bytes}
use Rattle.c_lang.specs.Trees.{Expression, literal, variable, element, function, null, negation, logical_not, binary, Statement, Statements, skip, set, set_element, call, call_by, if_else, while_loop, break_loop, return_with, assert_that, input, output, point, choice, force, pick, none, more, stmts_of}
use Rattle.c_lang.specs.declared.program.Func.{Func}
use Rattle.c_lang.specs.declared.program.Program.{Program}
use Rattle.c_lang.proofs.TreeLemmas.{statements_back}
use Rattle.merge_printer.specs.Expressions.{binds, gap, expression_text, expressions_text, more_expressions}
use Rattle.merge_printer.specs.Statements.{statement_text, statements_text}
use Rattle.merge_printer.specs.Programs.{func_text, program_text}
use Rattle.c_types.specs.Plain.{plain_expression, plain_statement, plain_statements, plain_func}
use Rattle.c_types.specs.Plain.{built_func, plain}
use Rattle.merge_printer.proofs.DeclarationLaw.{body_of, IsBuilt}

-- ---- texts

pub same_binds : (e : Expression) → binds (plain_expression e) ≡ binds e
same_binds (literal z) = refl
same_binds (variable x) = refl
same_binds (element a i) = refl
same_binds (function f) = refl
same_binds null = refl
same_binds (negation e) = refl
same_binds (logical_not e) = refl
same_binds (binary o a b) = refl

same_gap : (e : Expression) → gap (plain_expression e) ≡ gap e
same_gap (literal z) = refl
same_gap (variable x) = refl
same_gap (element a i) = refl
same_gap (function f) = refl
same_gap null = refl
same_gap (negation e) = refl
same_gap (logical_not e) = refl
same_gap (binary o a b) = refl

same_expression : (e : Expression) → expression_text (plain_expression e) ≡ expression_text e
same_expression (literal z) = refl
same_expression (variable x) = refl
same_expression (element a i) = ap (λ (z : Bytes). a ++ (codes "[" ++ (z ++ codes "]"))) (same_expression i)
same_expression (function f) = refl
same_expression null = decimal_digit 0 (omega arith)
same_expression (negation e) = rw (same_gap e, same_binds e, same_expression e) refl
same_expression (logical_not e) = rw (same_binds e, same_expression e) refl
same_expression (binary o a b) = rw (same_binds a, same_expression a, same_binds b, same_expression b) refl

same_more : (es : List Expression) → more_expressions (map plain_expression es) ≡ more_expressions es
same_more [] = refl
same_more (e ∷ es) = rw (same_expression e, same_more es) refl

same_expressions : (es : List Expression) → expressions_text (map plain_expression es) ≡ expressions_text es
same_expressions [] = refl
same_expressions (e ∷ es) = rw (same_expression e, same_more es) refl

mutual
  same_statement : (s : Statement) → statement_text (plain_statement s) ≡ statement_text s
  same_statement (skip p) = refl
  same_statement (set p d e) = rw (same_expression e) refl
  same_statement (set_element p a i e) = rw (same_expression i, same_expression e) refl
  same_statement (call p d f es) = rw (same_expressions es) refl
  same_statement (call_by p d x es) = rw (same_expressions es) refl
  same_statement (if_else p e a none) = rw (same_expression e, same_statements a) refl
  same_statement (if_else p e a (more s ss)) = rw (same_expression e, same_statements a, same_statement s, same_statements ss) refl
  same_statement (while_loop p e a) = rw (same_expression e, same_statements a) refl
  same_statement (break_loop p) = refl
  same_statement (return_with p None) = refl
  same_statement (return_with p (Some e)) = rw (same_expression e) refl
  same_statement (assert_that p e) = rw (same_expression e) refl
  same_statement (input p d) = refl
  same_statement (output p e) = rw (same_expression e) refl
  same_statement (point p k) = refl
  same_statement (choice p d k) = refl
  same_statement (force p) = refl
  same_statement (pick p a b) = rw (same_statement a, same_statement b) refl

  same_statements : (ss : Statements) → statements_text (plain_statements ss) ≡ statements_text ss
  same_statements none = refl
  same_statements (more s ss) = ap₂ (λ (a b : Bytes). a ++ b) (same_statement s) (same_statements ss)

same_body : (f : Func) → statements_text (body_of (built_func (plain_func f))) ≡ statements_text (body_of f)
same_body f = ap statements_text (statements_back (plain_statements (body_of f))) ∙ same_statements (body_of f)

same_funcs : (fs : List Func) → flat_map func_text (map built_func (map plain_func fs)) ≡ flat_map func_text fs
same_funcs [] = refl
same_funcs (f ∷ fs) = rw (same_body f, same_funcs fs) refl

pub same_text : (P : Program) → program_text (plain P) ≡ program_text P
same_text P = rw (same_funcs P.funcs) refl

-- ---- bodies

pub all_built : (fs : List Func) → All IsBuilt (map built_func (map plain_func fs))
all_built [] = All-nil IsBuilt
all_built (f ∷ fs) = All-cons IsBuilt (built_func (plain_func f)) (map built_func (map plain_func fs)) (ap stmts_of (statements_back (plain_statements (body_of f)))) (all_built fs)
