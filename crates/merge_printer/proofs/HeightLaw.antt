-- Typing changes no height.
use Rattle.std.specs.Prelude.{◌≡◌, ◌+◌, List, [], ◌∷◌, map, max, Some, None}
use Rattle.std.proofs.Common.{refl, sym, ap, ap₂, ◌∙◌}
use Rattle.c_lang.specs.Trees.{Expression, literal, variable, element, function, null, negation, logical_not, binary, Statement, Statements, skip, set, set_element, call, call_by, if_else, while_loop, break_loop, return_with, assert_that, input, output, point, choice, force, pick, none, more}
use Rattle.c_lang.specs.declared.unit.Unit.{Unit}
use Rattle.c_lang.specs.declared.program.Func.{Func}
use Rattle.c_lang.specs.declared.program.Program.{Program}
use Rattle.c_types.specs.Plain.{PlainProgram, plain_expression, plain_statement, plain_statements, plain_func, plain_program}
use Rattle.c_types.specs.Programs.{resolved_program}
use Rattle.c_types.specs.Types.{Types}
use Rattle.c_types.proofs.PlainLaws.{plain_resolved_program}
use Rattle.merge_printer.specs.Heights.{expression_height, arguments_height, statement_height, statements_height, funcs_height}
use Rattle.c_types.specs.Plain.{built_func}
use Rattle.merge_printer.proofs.DeclarationLaw.{body_of}
use Rattle.c_lang.proofs.TreeLemmas.{statements_back}
use Rattle.merge_printer.proofs.PlainLaw.{same_binds}

same_height : (e : Expression) → expression_height (plain_expression e) ≡ expression_height e
same_height (literal z) = refl
same_height (variable x) = refl
same_height (element a i) = ap (λ n. n + 1) (same_height i)
same_height (function f) = refl
same_height null = refl
same_height (negation e) = rw (same_binds e, same_height e) refl
same_height (logical_not e) = rw (same_binds e, same_height e) refl
same_height (binary o a b) = rw (same_binds a, same_height a, same_binds b, same_height b) refl

same_arguments : (es : List Expression) → arguments_height (map plain_expression es) ≡ arguments_height es
same_arguments [] = refl
same_arguments (e ∷ es) = ap₂ max (same_height e) (same_arguments es)

mutual
  same_statement : (s : Statement) → statement_height (plain_statement s) ≡ statement_height s
  same_statement (skip p) = refl
  same_statement (set p d e) = ap (λ n. n + 1) (same_height e)
  same_statement (set_element p a i e) = rw (same_height i, same_height e) refl
  same_statement (call p d f es) = ap (λ n. n + 1 + 1) (same_arguments es)
  same_statement (call_by p d x es) = ap (λ n. n + 1 + 1) (same_arguments es)
  same_statement (if_else p e a b) = rw (same_height e, same_statements a, same_statements b) refl
  same_statement (while_loop p e a) = rw (same_height e, same_statements a) refl
  same_statement (break_loop p) = refl
  same_statement (return_with p None) = refl
  same_statement (return_with p (Some e)) = ap (λ n. n + 1) (same_height e)
  same_statement (assert_that p e) = ap (λ n. n + 1) (same_height e)
  same_statement (input p d) = refl
  same_statement (output p e) = ap (λ n. n + 1) (same_height e)
  same_statement (point p k) = refl
  same_statement (choice p d k) = refl
  same_statement (force p) = refl
  same_statement (pick p a b) = rw (same_statement a, same_statement b) refl

  same_statements : (ss : Statements) → statements_height (plain_statements ss) ≡ statements_height ss
  same_statements none = refl
  same_statements (more s ss) = ap₂ max (same_statement s) (same_statements ss)

pub same_funcs : (fs : List Func) → funcs_height (map built_func (map plain_func fs)) ≡ funcs_height fs
same_funcs [] = refl
same_funcs (f ∷ fs) = ap₂ max (ap statements_height (statements_back (plain_statements (body_of f))) ∙ same_statements (body_of f)) (same_funcs fs)

-- programs with the same plain form are as high
pub same_heights : (r p : Program) → plain_program r ≡ plain_program p → funcs_height r.funcs ≡ funcs_height p.funcs
same_heights r p e = sym (same_funcs r.funcs) ∙ ap (λ (Q : PlainProgram). funcs_height (map built_func Q.funcs)) e ∙ same_funcs p.funcs

pub height_kept : (u : Unit) (P : Program) → Types u P → funcs_height (resolved_program P).funcs ≡ funcs_height P.funcs
height_kept u P h = same_heights (resolved_program P) P (plain_resolved_program u P h)
