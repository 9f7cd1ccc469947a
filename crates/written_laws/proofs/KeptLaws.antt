-- The laws, of typed programs.
use Rattle.std.specs.Prelude.{pos, List, [], ◌∷◌, map, Option, Some, None}
use Rattle.std.proofs.Common.{refl, sym, subst, arith}
use Rattle.std.specs.Option.{option_map}
use Rattle.c_lang.specs.Trees.{Expression, literal, variable, element, function, null, negation, logical_not, binary, Statement, skip, set, set_element, call, call_by, if_else, while_loop, break_loop, return_with, assert_that, input, output, point, choice, force, pick}
use Rattle.c_lang.specs.declared.stmt.Dest.{Dest}
use Rattle.c_lang.specs.declared.program.Program.{Program}
use Rattle.c_types.specs.Kept.{TypedProgram, IsKept}
use Rattle.c_types.specs.Plain.{plain_expression, plain_statement}
use Rattle.c_types.specs.Programs.{resolved_program}
use Rattle.c_types.proofs.PlainLaws.{plain_resolved_program}
use Rattle.c_lang.specs.Positions.{ProgramHasPositions}
use Rattle.written_laws.specs.Sources.{IsSource}
use Rattle.written_laws.specs.Walk.{Context}
use Rattle.written_laws.specs.Breaks.{IsNoStrayBreak, BreaksStandInLoops}
use Rattle.written_laws.specs.Destinations.{OfResult, IsNoGlobal, ResultsGoToNoGlobals}
use Rattle.written_laws.specs.Literals.{IsLiteral, HasInts, HaveInts, ReturnsInts, StatementHasInts, LiteralsAreInts}
use Rattle.written_laws.proofs.PlainWalks.{same_bodies}
use Rattle.written_laws.proofs.WrittenLaws.{breaks, ints, no_globals}
use Rattle.written_laws.proofs.WrittenPositions.{written_positions}
use Rattle.written_laws.proofs.PlainPositions.{same_positions}

-- ---- breaks

breaks_forth : (at : Context) (s : Statement) → IsNoStrayBreak at s → IsNoStrayBreak at (plain_statement s)
breaks_forth at (break_loop p) h = h
breaks_forth at _ h = tt

breaks_back : (at : Context) (s : Statement) → IsNoStrayBreak at (plain_statement s) → IsNoStrayBreak at s
breaks_back at (break_loop p) h = h
breaks_back at _ h = tt

-- ---- destinations

module _ (P : Dest → Type 0) where
  results_forth : (at : Context) (s : Statement) → OfResult P s → OfResult P (plain_statement s)
  results_forth at (call p d f es) h = h
  results_forth at (call_by p d x es) h = h
  results_forth at (input p d) h = h
  results_forth at (choice p d k) h = h
  results_forth at _ h = tt

  results_back : (at : Context) (s : Statement) → OfResult P (plain_statement s) → OfResult P s
  results_back at (call p d f es) h = h
  results_back at (call_by p d x es) h = h
  results_back at (input p d) h = h
  results_back at (choice p d k) h = h
  results_back at _ h = tt

-- ---- literals

zero_fits : IsLiteral (pos 0)
zero_fits = (0, refl, omega arith)

expression_forth : (e : Expression) → HasInts e → HasInts (plain_expression e)
expression_forth (literal z) h = h
expression_forth (variable x) h = tt
expression_forth (element a i) h = expression_forth i h
expression_forth (function f) h = tt
expression_forth null h = zero_fits
expression_forth (negation a) h = expression_forth a h
expression_forth (logical_not a) h = expression_forth a h
expression_forth (binary o a b) h = (expression_forth a h.0, expression_forth b h.1)

expression_back : (e : Expression) → HasInts (plain_expression e) → HasInts e
expression_back (literal z) h = h
expression_back (variable x) h = tt
expression_back (element a i) h = expression_back i h
expression_back (function f) h = tt
expression_back null h = tt
expression_back (negation a) h = expression_back a h
expression_back (logical_not a) h = expression_back a h
expression_back (binary o a b) h = (expression_back a h.0, expression_back b h.1)

list_forth : (es : List Expression) → HaveInts es → HaveInts (map plain_expression es)
list_forth [] h = tt
list_forth (e ∷ es) h = (expression_forth e h.0, list_forth es h.1)

list_back : (es : List Expression) → HaveInts (map plain_expression es) → HaveInts es
list_back [] h = tt
list_back (e ∷ es) h = (expression_back e h.0, list_back es h.1)

return_forth : (o : Option Expression) → ReturnsInts o → ReturnsInts (option_map plain_expression o)
return_forth None h = tt
return_forth (Some e) h = expression_forth e h

return_back : (o : Option Expression) → ReturnsInts (option_map plain_expression o) → ReturnsInts o
return_back None h = tt
return_back (Some e) h = expression_back e h

ints_forth : (at : Context) (s : Statement) → StatementHasInts at s → StatementHasInts at (plain_statement s)
ints_forth at (skip p) h = tt
ints_forth at (set p d e) h = expression_forth e h
ints_forth at (set_element p a i e) h = (expression_forth i h.0, expression_forth e h.1)
ints_forth at (call p d f es) h = list_forth es h
ints_forth at (call_by p d x es) h = list_forth es h
ints_forth at (if_else p e a b) h = expression_forth e h
ints_forth at (while_loop p e a) h = expression_forth e h
ints_forth at (break_loop p) h = tt
ints_forth at (return_with p e) h = return_forth e h
ints_forth at (assert_that p e) h = expression_forth e h
ints_forth at (input p d) h = tt
ints_forth at (output p e) h = expression_forth e h
ints_forth at (point p k) h = h
ints_forth at (choice p d k) h = h
ints_forth at (force p) h = tt
ints_forth at (pick p a b) h = tt

ints_back : (at : Context) (s : Statement) → StatementHasInts at (plain_statement s) → StatementHasInts at s
ints_back at (skip p) h = tt
ints_back at (set p d e) h = expression_back e h
ints_back at (set_element p a i e) h = (expression_back i h.0, expression_back e h.1)
ints_back at (call p d f es) h = list_back es h
ints_back at (call_by p d x es) h = list_back es h
ints_back at (if_else p e a b) h = expression_back e h
ints_back at (while_loop p e a) h = expression_back e h
ints_back at (break_loop p) h = tt
ints_back at (return_with p e) h = return_back e h
ints_back at (assert_that p e) h = expression_back e h
ints_back at (input p d) h = tt
ints_back at (output p e) h = expression_back e h
ints_back at (point p k) h = h
ints_back at (choice p d k) h = h
ints_back at (force p) h = tt
ints_back at (pick p a b) h = tt

-- ---- the laws

module _ (kept : TypedProgram) (h : IsKept kept) where
  of_resolved : (Q : Program → Type 0) → Q (resolved_program h.source) → Q kept.program
  of_resolved Q q = subst Q (sym h.resolved) q

  pub kept_breaks : BreaksStandInLoops kept.program
  kept_breaks =
      of_resolved BreaksStandInLoops
      (same_bodies IsNoStrayBreak breaks_forth breaks_back (resolved_program h.source) h.source (plain_resolved_program kept.unit h.source h.typed) (breaks kept.unit h.source h.written))

  pub kept_no_globals : ResultsGoToNoGlobals kept.program
  kept_no_globals =
      let P = IsNoGlobal h.source in
      of_resolved ResultsGoToNoGlobals
      (same_bodies (λ at s. OfResult P s) (results_forth P) (results_back P) (resolved_program h.source) h.source (plain_resolved_program kept.unit h.source h.typed) (no_globals kept.unit h.source h.written h.typed))

  pub kept_ints : LiteralsAreInts kept.program
  kept_ints =
      let laws = ints kept.unit h.source h.written in
      of_resolved LiteralsAreInts (record {
        initial = laws.initial;
        bodies = same_bodies StatementHasInts ints_forth ints_back (resolved_program h.source) h.source (plain_resolved_program kept.unit h.source h.typed) laws.bodies;
      })

  pub kept_positions : IsSource kept.unit → ProgramHasPositions kept.program
  kept_positions source =
      of_resolved ProgramHasPositions
      (same_positions (resolved_program h.source) h.source (plain_resolved_program kept.unit h.source h.typed) (written_positions kept.unit h.source source h.written))
