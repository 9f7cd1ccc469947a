-- The text of a typed program is read back and checked as that program.
use Rattle.std.specs.Global.{Vec}
use Rattle.std.specs.declared.alloc.AllocError.{AllocError}
use Rattle.std.specs.Prelude.{◌≡◌, ℕ, Bool, true, false, List, [], ◌∷◌, map, Some, None, All, Result, Ok, Err, IfOk}
use Rattle.std.proofs.Common.{refl, sym, ap, ap₂, subst, ◌∙◌}
use Rattle.std.proofs.lemmas.List.Elements.{All-head, All-tail}
use Rattle.c_lang.specs.Names.{Bytes}
use Rattle.c_lang.specs.Trees.{Expression, literal, variable, element, function, null, negation, logical_not, binary, Statement, Statements, skip, set, set_element, call, call_by, if_else, while_loop, break_loop, return_with, assert_that, input, output, point, choice, force, pick, none, more, stmts_of}
use Rattle.c_lang.specs.declared.unit.Unit.TheVariants.{Merge}
use Rattle.c_lang.specs.declared.program.Func.{Func}
use Rattle.c_lang.specs.declared.program.Program.{Program}
use Rattle.c_grammar.specs.Written.{Parses}
use Rattle.merge_printer.specs.Checked.{IsCheckedMerge, ChecksAs}
use Rattle.c_types.specs.Plain.{plain_expression, plain_statement, plain_statements, plain_func, PlainProgram}
use Rattle.c_types.specs.Programs.{resolved_program}
use Rattle.c_types.specs.Kept.{TypedProgram}
use Rattle.c_types.specs.Types.{Types}
use Rattle.c_types.proofs.PlainLaws.{plain_resolved_program}
use Rattle.c_types.specs.Plain.{built_func, plain}
use Rattle.merge_printer.specs.Printable.{IsPrintable}
use Rattle.merge_printer.specs.Programs.{program_text}
use Rattle.merge_printer.proofs.DeclarationLaw.{FuncReads, body_of}
use Rattle.merge_printer.proofs.ExpressionLaw.{ExpressionFits}
use Rattle.merge_printer.proofs.Fitting.{StatementFits, StatementsFit}
use Rattle.merge_printer.proofs.PrintLaw.{parses_again}
use Rattle.merge_printer.proofs.SideLaw.{ExpressionsFit}
use Rattle.merge_printer.proofs.StatementTrees.{stmts_built}
use Rattle.merge_printer.proofs.WrittenProgram.{written_reads}

-- ---- what a text has is plain

plain_already : (e : Expression) → ExpressionFits e → plain_expression e ≡ e
plain_already (literal z) h = refl
plain_already (variable x) h = refl
plain_already (element a i) h = ap (element a) (plain_already i h.1)
plain_already (function f) h = absurd h
plain_already null h = absurd h
plain_already (negation e) h = ap negation (plain_already e h)
plain_already (logical_not e) h = ap logical_not (plain_already e h)
plain_already (binary o a b) h = ap₂ (binary o) (plain_already a h.0) (plain_already b h.1)

all_plain : (es : List Expression) → ExpressionsFit es → map plain_expression es ≡ es
all_plain [] h = refl
all_plain (e ∷ es) h = ap₂ (λ (x : Expression) (xs : List Expression). x ∷ xs) (plain_already e h.0) (all_plain es h.1)

mutual
  statement_plain : (s : Statement) (in_loop : Bool) → StatementFits in_loop s → plain_statement s ≡ s
  statement_plain (skip p) in_loop h = refl
  statement_plain (set p d e) in_loop h = ap (set p d) (plain_already e h.1)
  statement_plain (set_element p a i e) in_loop h = ap₂ (set_element p a) (plain_already i h.1) (plain_already e h.2)
  statement_plain (call p d f es) in_loop h = ap (call p d f) (all_plain es h.2)
  statement_plain (call_by p d x es) in_loop h = absurd h
  statement_plain (if_else p e a b) in_loop h =
      ap₂ (λ (x : Expression) (ss : Statements). if_else p x ss (plain_statements b)) (plain_already e h.0) (statements_plain a in_loop h.1)
      ∙ ap (if_else p e a) (statements_plain b in_loop h.2)
  statement_plain (while_loop p e a) in_loop h = ap₂ (while_loop p) (plain_already e h.0) (statements_plain a true h.1)
  statement_plain (break_loop p) in_loop h = refl
  statement_plain (return_with p None) in_loop h = refl
  statement_plain (return_with p (Some e)) in_loop h = ap (λ (x : Expression). return_with p (Some x)) (plain_already e h)
  statement_plain (assert_that p e) in_loop h = ap (assert_that p) (plain_already e h)
  statement_plain (input p d) in_loop h = refl
  statement_plain (output p e) in_loop h = ap (output p) (plain_already e h)
  statement_plain (point p k) in_loop h = absurd h
  statement_plain (choice p d k) in_loop h = refl
  statement_plain (force p) in_loop h = absurd h
  statement_plain (pick p a b) in_loop h = absurd h

  statements_plain : (ss : Statements) (in_loop : Bool) → StatementsFit in_loop ss → plain_statements ss ≡ ss
  statements_plain none in_loop h = refl
  statements_plain (more s ss) in_loop h = ap₂ more (statement_plain s in_loop h.0) (statements_plain ss in_loop h.1)

func_plain : (f : Func) → FuncReads f → built_func (plain_func f) ≡ f
func_plain f h =
    ap (λ body. record { name = f.name; params = f.params; gives = f.gives; body = body; pos = f.pos })
    (ap stmts_of (statements_plain (body_of f) false h.body) ∙ stmts_built f.body)

funcs_plain : (fs : List Func) → All FuncReads fs → map built_func (map plain_func fs) ≡ fs
funcs_plain [] h = refl
funcs_plain (f ∷ fs) h = ap₂ (λ (x : Func) (xs : List Func). x ∷ xs) (func_plain f (All-head FuncReads f fs h)) (funcs_plain fs (All-tail FuncReads f fs h))

source_plain : (P : Program) → IsPrintable P → plain P ≡ P
source_plain P h =
    ap (λ (fs : List Func). record { globals = P.globals; protos = P.protos; funcs = fs; early = P.early })
    (funcs_plain P.funcs (written_reads P h.written h.accepted).funcs)

-- a typed program and its resolved form have the same plain form
resolved_back : (P : Program) → Types Merge P → plain (resolved_program P) ≡ plain P
resolved_back P h =
    ap₂ (λ (Q : PlainProgram) early. record { globals = Q.globals; protos = Q.protos; funcs = map built_func Q.funcs; early = early })
    (plain_resolved_program Merge P h) (sym h.early)

-- ---- the law

checks_again : (kept : TypedProgram) → IsCheckedMerge kept → ChecksAs (program_text kept.program) kept
checks_again kept h =
    let same : plain kept.program ≡ h.source = ap (λ (k : TypedProgram). plain k.program) h.resolved ∙ resolved_back h.source h.typed ∙ source_plain h.source h.printable in
    record {
      program = h.source;
      parses = subst (λ (P : Program). Parses Merge 72 (program_text kept.program) P) same (parses_again kept.program (subst IsPrintable (sym same) h.printable));
      typed = h.typed;
      resolved = h.resolved;
    }

-- what a function gives that has the text of this program
pub typed_answer : (kept : TypedProgram) (shown : Program) (r : Result (Vec ℕ) AllocError) → IsCheckedMerge kept → shown ≡ kept.program → IfOk r (λ text. text.items ≡ program_text shown)
    → IfOk r (λ text. ChecksAs text.items kept)
typed_answer kept shown (Ok text) h same is = subst (λ (z : Bytes). ChecksAs z kept) (sym (is ∙ ap program_text same)) (checks_again kept h)
typed_answer kept shown (Err e) h same is = tt
