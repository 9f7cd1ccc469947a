-- How high a merged program is: a statement becomes at most 3 higher.
use Rattle.std.specs.Prelude.{◌≡◌, ◌≤◌, ◌+◌, ◌&&◌, max, ℕ, Bool, true, false, cond, List, [], ◌∷◌, ◌++◌, map, Option, Some, None, codes}
use Rattle.std.proofs.Common.{refl, ap, ap₂, arith}
use Rattle.std.specs.List.{filter}
use Rattle.c_lang.specs.Names.{Bytes}
use Rattle.c_lang.specs.Programs.{func_in}
use Rattle.c_lang.specs.Trees.{Expression, literal, variable, element, function, null, negation, logical_not, binary, Statement, Statements, skip, set, set_element, call, call_by, if_else, while_loop, break_loop, return_with, assert_that, input, output, point, choice, force, pick, none, more, stmt_of, stmts_of}
use Rattle.c_lang.specs.declared.unit.Pos.{Pos}
use Rattle.c_lang.specs.declared.stmt.Kind.{Kind}
use Rattle.c_lang.specs.declared.stmt.Stmt.{Stmt}
use Rattle.c_lang.specs.declared.program.Func.{Func}
use Rattle.c_types.specs.Bodies.{body_of}
use Rattle.c_types.specs.Endings.{can_end}
use Rattle.c_types.specs.Functions.{kinds_of, is_main}
use Rattle.c_types.specs.Plain.{plain}
use Rattle.version_names.specs.Merged.{merged_name}
use Rattle.version_names.specs.Provenance.{Provenance, may_update}
use Rattle.version_names.specs.Provenance as origin
use Rattle.version_names.specs.declared.part.Origin.TheVariants as prefix
use Rattle.client_specs.specs.Kept.{ClientProgram}
use Rattle.update_semantics.specs.UpdatingRun.{World, client_funcs}
use Rattle.merged_program.specs.Expressions.{renamed}
use Rattle.merged_program.specs.Names.{variable_name, function_name}
use Rattle.merged_program.specs.Statements.{asking, hand, wrapping, return_zero, merged_statement, merged_statements}
use Rattle.merged_program.specs.Programs.{parameters_from, wrapper, starting, ending, merged_body, merged_func, old_func, new_func, xform_func, client_func, is_wrapped, merged_main, merged_funcs, merged_program}
use Rattle.merge_printer.specs.Expressions.{binds}
use Rattle.merge_printer.specs.Heights.{expression_height, arguments_height, statement_height, statements_height, funcs_height}
use Rattle.c_lang.proofs.TreeLemmas.{statement_back, statements_back}
use Rattle.merge_printer.proofs.HeightLaw.{same_funcs}
use Rattle.merged_texts.proofs.StatementHeights.{body_height, both_heights}
use Rattle.merged_texts.proofs.WrittenHeights.{both_funcs, one_func}

-- ---- names change no height

module _ (ρ κ : Bytes → Bytes) where
  same_binds : (e : Expression) → binds (renamed ρ κ e) ≡ binds e
  same_binds (literal z) = refl
  same_binds (variable x) = refl
  same_binds (element a i) = refl
  same_binds (function f) = refl
  same_binds null = refl
  same_binds (negation e) = refl
  same_binds (logical_not e) = refl
  same_binds (binary o a b) = refl

  pub same_height : (e : Expression) → expression_height (renamed ρ κ e) ≡ expression_height e
  same_height (literal z) = refl
  same_height (variable x) = refl
  same_height (element a i) = ap (λ n. n + 1) (same_height i)
  same_height (function f) = refl
  same_height null = refl
  same_height (negation e) = rw (same_binds e, same_height e) refl
  same_height (logical_not e) = rw (same_binds e, same_height e) refl
  same_height (binary o a b) = rw (same_binds a, same_height a, same_binds b, same_height b) refl

  same_arguments : (es : List Expression) → arguments_height (map (renamed ρ κ) es) ≡ arguments_height es
  same_arguments [] = refl
  same_arguments (e ∷ es) = ap₂ max (same_height e) (same_arguments es)

-- ---- statements

module _ (permits : ℕ → Bool) (ρ κ : Provenance → Bytes → Bytes) where
  abbrev merged : Provenance → Statement → Statement
  merged = merged_statement permits ρ κ

  point_low : (b : Bool) (p : Pos) (k : ℕ) → statement_height (cond b (asking p k) (skip p)) ≤ 5
  point_low true p k = omega arith
  point_low false p k = omega arith

  mutual
    statement_low : (o : Provenance) (s : Statement) → statement_height (merged o s) ≤ statement_height s + 3
    statement_low o (skip p) = omega arith
    statement_low o (set p d e) = omega (arith, same_height (ρ o) (κ o) e)
    statement_low o (set_element p a i e) = omega (arith, same_height (ρ o) (κ o) i, same_height (ρ o) (κ o) e)
    statement_low o (call p d f es) = omega (arith, same_arguments (ρ o) (κ o) es)
    statement_low o (call_by p d x es) = omega (arith, same_arguments (ρ o) (κ o) es)
    statement_low o (if_else p e a b) = omega (arith, same_height (ρ o) (κ o) e, statements_low o a, statements_low o b)
    statement_low o (while_loop p e a) = omega (arith, same_height (ρ o) (κ o) e, statements_low o a)
    statement_low o (break_loop p) = omega arith
    statement_low o (return_with p None) = omega arith
    statement_low o (return_with p (Some e)) = omega (arith, same_height (ρ o) (κ o) e)
    statement_low o (assert_that p e) = omega (arith, same_height (ρ o) (κ o) e)
    statement_low o (input p d) = omega arith
    statement_low o (output p e) = omega (arith, same_height (ρ o) (κ o) e)
    statement_low o (point p k) = point_low (may_update o && permits k) p k
    statement_low o (choice p d k) = omega arith
    statement_low o (force p) = omega arith
    statement_low o (pick p a b) = omega (arith, statement_low o a, statement_low o b)

    statements_low : (o : Provenance) (ss : Statements) → statements_height (merged_statements permits ρ κ o ss) ≤ statements_height ss + 3
    statements_low o none = omega arith
    statements_low o (more s ss) = omega (arith, statement_low o s, statements_low o ss)

one_height : (s : Statement) → body_height (stmt_of s ∷ []) ≡ statement_height s
one_height s = let same = ap statement_height (statement_back s) in omega (arith, same)

built_height : (ss : Statements) → body_height (stmts_of ss) ≡ statements_height ss
built_height ss = ap statements_height (statements_back ss)

-- ---- functions

ending_low : (f : Func) → body_height (ending f) ≤ 2
ending_low f = by_test (is_main f.name && can_end (body_of f.body))
  where
    by_test : (b : Bool) → body_height (cond b (stmt_of (return_zero f.pos) ∷ []) []) ≤ 2
    by_test true = omega (arith, one_height (return_zero f.pos))
    by_test false = omega arith

names_low : (ps : List (Kind × Bytes)) → arguments_height (map (λ (q : Kind × Bytes). variable q.1) ps) ≤ 1
names_low [] = omega arith
names_low (p ∷ ps) = omega (arith, names_low ps)

hand_low : (p : Pos) (gives : Bool) (f : Bytes) (ps : List (Kind × Bytes)) → statements_height (hand p gives f ps) ≤ 3
hand_low p true f ps = omega (arith, names_low ps)
hand_low p false f ps = omega (arith, names_low ps)

wrapper_low : (f : Func) → body_height (wrapper f).body ≤ 4
wrapper_low f =
    let ps = parameters_from 1 (kinds_of f.params) in
    let new = merged_name prefix.New f.name in
    let old = merged_name prefix.Old f.name in
    let whole = one_height (wrapping f.pos f.gives new old ps) in
    let first = hand_low f.pos f.gives new ps in
    let second = hand_low f.pos f.gives old ps in
    omega (arith, whole, first, second)

starting_low : (name : Bytes) (f : Func) → body_height (starting name f).body ≤ 3
starting_low name f = by_test f.gives
  where
    by_test : (b : Bool) → body_height (stmts_of (hand f.pos f.gives name []) ++ cond b [] (stmt_of (return_zero f.pos) ∷ [])) ≤ 3
    by_test true =
        omega (arith, both_heights (stmts_of (hand f.pos f.gives name [])) [], built_height (hand f.pos f.gives name []), hand_low f.pos f.gives name [])
    by_test false =
        omega (arith, both_heights (stmts_of (hand f.pos f.gives name [])) (stmt_of (return_zero f.pos) ∷ []), built_height (hand f.pos f.gives name []), hand_low f.pos f.gives name [], one_height (return_zero f.pos))

mapped_low : (g : Func → Func) → ((f : Func) → body_height (g f).body ≤ body_height f.body + 3) → (fs : List Func) → funcs_height (map g fs) ≤ funcs_height fs + 3
mapped_low g low [] = omega arith
mapped_low g low (f ∷ fs) = let first = low f in omega (arith, first, mapped_low g low fs)

wrappers_low : (fs : List Func) → funcs_height (map wrapper fs) ≤ 4
wrappers_low [] = omega arith
wrappers_low (f ∷ fs) = let first = wrapper_low f in omega (arith, first, wrappers_low fs)

-- ---- the program

-- each part is no higher than so many
pub record AreLow (W : World) (most : ℕ) : Type 0 where
  pub first : funcs_height W.first.funcs ≤ most
  pub second : funcs_height W.second.funcs ≤ most
  pub xform : funcs_height W.xform.funcs ≤ most
  pub client : funcs_height (client_funcs W) ≤ most

module _ (W : World) where
  func_low : (o : Provenance) (name : Bytes) (behind : List Stmt) (f : Func) → body_height behind ≤ 2 → body_height (merged_func W o name behind f).body ≤ body_height f.body + 3
  func_low o name behind f le =
      let body = statements_low W.permits (variable_name W) (function_name W) o (body_of f.body) in
      omega (arith, le, body, both_heights (merged_body W o f.body) behind, built_height (merged_statements W.permits (variable_name W) (function_name W) o (body_of f.body)))

  main_low : (c : Option ClientProgram) → body_height (merged_main W c).body ≤ 3
  main_low None = starting_low (merged_name prefix.Old (codes "main")) (func_in W.first.funcs (codes "main"))
  main_low (Some c) = starting_low (merged_name prefix.Client c.spec) (func_in c.program.funcs c.spec)

  old_low : funcs_height (map (old_func W) W.first.funcs) ≤ funcs_height W.first.funcs + 3
  old_low = mapped_low (old_func W) (λ f. func_low origin.Old (merged_name prefix.Old f.name) (ending f) f (ending_low f)) W.first.funcs

  new_low : funcs_height (map (new_func W) W.second.funcs) ≤ funcs_height W.second.funcs + 3
  new_low = mapped_low (new_func W) (λ f. func_low origin.New (merged_name prefix.New f.name) (ending f) f (ending_low f)) W.second.funcs

  xform_low : funcs_height (map (xform_func W) W.xform.funcs) ≤ funcs_height W.xform.funcs + 3
  xform_low = mapped_low (xform_func W) (λ f. func_low origin.Xform (merged_name prefix.Xform f.name) [] f (omega arith)) W.xform.funcs

  client_low : funcs_height (map (client_func W) (client_funcs W)) ≤ funcs_height (client_funcs W) + 3
  client_low = mapped_low (client_func W) (λ f. func_low origin.Client (merged_name prefix.Client f.name) [] f (omega arith)) (client_funcs W)

  funcs_low : (most : ℕ) → AreLow W most → funcs_height (merged_funcs W) ≤ most + 4
  funcs_low most h =
      let last = merged_main W W.client ∷ [] in
      let clients = map (client_func W) (client_funcs W) ++ last in
      let xforms = map (xform_func W) W.xform.funcs ++ clients in
      let wrappers = map wrapper (filter (is_wrapped W) W.first.funcs) ++ xforms in
      let news = map (new_func W) W.second.funcs ++ wrappers in
      omega (
        arith,
        h.first,
        h.second,
        h.xform,
        h.client,
        old_low,
        new_low,
        xform_low,
        client_low,
        wrappers_low (filter (is_wrapped W) W.first.funcs),
        main_low W.client,
        one_func (merged_main W W.client),
        both_funcs (map (old_func W) W.first.funcs) news,
        both_funcs (map (new_func W) W.second.funcs) wrappers,
        both_funcs (map wrapper (filter (is_wrapped W) W.first.funcs)) xforms,
        both_funcs (map (xform_func W) W.xform.funcs) clients,
        both_funcs (map (client_func W) (client_funcs W)) last,
      )

  pub merged_low : (most : ℕ) → AreLow W most → funcs_height (plain (merged_program W)).funcs ≤ most + 4
  merged_low most h = omega (arith, same_funcs (merged_funcs W), funcs_low most h)
