-- Every position of a merged program is one of its parts, or the first line of unit Merge.
use Rattle.std.specs.Prelude.{◌&&◌, ℕ, Bool, true, false, cond, List, [], ◌∷◌, ◌++◌, map, All, Option, Some, None, unwrap_or, codes}
use Rattle.std.proofs.Common.{sym, subst, arith}
use Rattle.std.specs.List.{filter}
use Rattle.std.specs.Str.{bytes_eq}
use Rattle.std.proofs.lemmas.List.Elements.{All-nil, All-cons, All-head, All-tail, All-append, All-map, All-filter, All-weaker}
use Rattle.c_lang.specs.Names.{Bytes}
use Rattle.c_lang.specs.Units.{IsPosition}
use Rattle.c_lang.specs.Programs.{func_in, func_named, no_func}
use Rattle.c_lang.specs.Positions.{StatementHasPositions, StatementsHavePositions, FuncHasPositions, ProgramHasPositions}
use Rattle.c_lang.specs.Trees.{Statement, Statements, skip, set, set_element, call, call_by, if_else, while_loop, break_loop, return_with, assert_that, input, output, point, choice, force, pick, none, more, stmt_of, stmts_of}
use Rattle.c_lang.specs.declared.unit.Pos.{Pos}
use Rattle.c_lang.specs.declared.stmt.Kind.{Kind}
use Rattle.c_lang.specs.declared.stmt.Stmt.{Stmt}
use Rattle.c_lang.specs.declared.program.GlobalVar.{GlobalVar}
use Rattle.c_lang.specs.declared.program.Proto.{Proto}
use Rattle.c_lang.specs.declared.program.Func.{Func}
use Rattle.c_lang.specs.declared.program.Program.{Program}
use Rattle.c_types.specs.Bodies.{body_of}
use Rattle.c_types.specs.Endings.{can_end}
use Rattle.c_types.specs.Functions.{kinds_of, is_main}
use Rattle.version_names.specs.Merged.{merged_name}
use Rattle.version_names.specs.Provenance.{Provenance, may_update}
use Rattle.version_names.specs.Provenance as origin
use Rattle.version_names.specs.declared.part.Origin.TheVariants as prefix
use Rattle.client_specs.specs.Kept.{ClientProgram}
use Rattle.update_semantics.specs.UpdatingRun.{World, client_funcs}
use Rattle.merged_program.specs.Names.{variable_name, function_name}
use Rattle.merged_program.specs.Statements.{asking, hand, wrapping, return_zero, merged_statement, merged_statements}
use Rattle.merged_program.specs.Programs.{parameters_from, wrapper, starting, declared, flag, ending, merged_global, is_own_cell, merged_body, merged_func, old_func, new_func, xform_func, client_func, is_wrapped, merged_main, merged_funcs, merged_program}
use Rattle.c_lang.proofs.TreeLemmas.{statement_back, statements_back}
use Rattle.written_laws.proofs.StatementPositions.{HavePositions, both_have}

-- ---- statements

module _ (permits : ℕ → Bool) (ρ κ : Provenance → Bytes → Bytes) where
  mutual
    statement_at : (o : Provenance) (s : Statement) → StatementHasPositions s → StatementHasPositions (merged_statement permits ρ κ o s)
    statement_at o (skip p) h = h
    statement_at o (set p d e) h = h
    statement_at o (set_element p a i e) h = h
    statement_at o (call p d f es) h = h
    statement_at o (call_by p d x es) h = h
    statement_at o (if_else p e a b) h = (h.0, statements_at o a h.1, statements_at o b h.2)
    statement_at o (while_loop p e a) h = (h.0, statements_at o a h.1)
    statement_at o (break_loop p) h = h
    statement_at o (return_with p e) h = h
    statement_at o (assert_that p e) h = h
    statement_at o (input p d) h = h
    statement_at o (output p e) h = h
    statement_at o (point p k) h = by_test (may_update o && permits k)
      where
        by_test : (b : Bool) → StatementHasPositions (cond b (asking p k) (skip p))
        by_test true = (h, (h, ((h, (h, (h, tt)), tt), tt)), tt)
        by_test false = h
    statement_at o (choice p d k) h = h
    statement_at o (force p) h = (h, (h, (h, tt)), tt)
    statement_at o (pick p a b) h = (h.0, (statement_at o a h.1, tt), (statement_at o b h.2, tt))

    statements_at : (o : Provenance) (ss : Statements) → StatementsHavePositions ss → StatementsHavePositions (merged_statements permits ρ κ o ss)
    statements_at o none h = tt
    statements_at o (more s ss) h = (statement_at o s h.0, statements_at o ss h.1)

built_at : (ss : Statements) → StatementsHavePositions ss → HavePositions (stmts_of ss)
built_at ss h = subst StatementsHavePositions (sym (statements_back ss)) h

one_at : (s : Statement) → StatementHasPositions s → HavePositions (stmt_of s ∷ [])
one_at s h = (subst StatementHasPositions (sym (statement_back s)) h, tt)

-- ---- functions

ending_at : (f : Func) → IsPosition f.pos → HavePositions (ending f)
ending_at f h = by_test (is_main f.name && can_end (body_of f.body))
  where
    by_test : (b : Bool) → HavePositions (cond b (stmt_of (return_zero f.pos) ∷ []) [])
    by_test true = one_at (return_zero f.pos) h
    by_test false = tt

hand_at : (p : Pos) (gives : Bool) (f : Bytes) (ps : List (Kind × Bytes)) → IsPosition p → StatementsHavePositions (hand p gives f ps)
hand_at p true f ps h = (h, (h, tt))
hand_at p false f ps h = (h, tt)

wrapper_at : (f : Func) → FuncHasPositions f → FuncHasPositions (wrapper f)
wrapper_at f h =
    let ps = parameters_from 1 (kinds_of f.params) in
    let new = merged_name prefix.New f.name in
    let old = merged_name prefix.Old f.name in
    (h.0, one_at (wrapping f.pos f.gives new old ps) (h.0, hand_at f.pos f.gives new ps h.0, hand_at f.pos f.gives old ps h.0))

starting_at : (name : Bytes) (f : Func) → IsPosition f.pos → FuncHasPositions (starting name f)
starting_at name f h = (h, by_test f.gives)
  where
    by_test : (b : Bool) → HavePositions (stmts_of (hand f.pos f.gives name []) ++ cond b [] (stmt_of (return_zero f.pos) ∷ []))
    by_test true = both_have (stmts_of (hand f.pos f.gives name [])) [] (built_at (hand f.pos f.gives name []) (hand_at f.pos f.gives name [] h)) tt
    by_test false = both_have (stmts_of (hand f.pos f.gives name [])) (stmt_of (return_zero f.pos) ∷ []) (built_at (hand f.pos f.gives name []) (hand_at f.pos f.gives name [] h)) (one_at (return_zero f.pos) h)

-- where there is no such function, it is the first line of unit Merge
found_at : (fs : List Func) (x : Bytes) → All FuncHasPositions fs → IsPosition (func_in fs x).pos
found_at [] x h = (tt, omega arith, omega arith)
found_at (f ∷ fs) x h = by_test (bytes_eq f.name x) (All-head FuncHasPositions f fs h).0 (found_at fs x (All-tail FuncHasPositions f fs h))
  where
    by_test : (b : Bool) → IsPosition f.pos → IsPosition (func_in fs x).pos → IsPosition (unwrap_or (cond b (Some f) (func_named fs x)) no_func).pos
    by_test true here later = here
    by_test false here later = later

mapped_at : (g : Func → Func) → ((f : Func) → FuncHasPositions f → FuncHasPositions (g f)) → (fs : List Func) → All FuncHasPositions fs → All FuncHasPositions (map g fs)
mapped_at g kept fs h = All-map FuncHasPositions g fs (All-weaker FuncHasPositions (λ f. FuncHasPositions (g f)) kept fs h)

-- ---- the program

-- the positions of each part can be printed
pub record PartsHavePositions (W : World) : Type 0 where
  pub first : ProgramHasPositions W.first
  pub second : ProgramHasPositions W.second
  pub xform : ProgramHasPositions W.xform
  pub client : All FuncHasPositions (client_funcs W)

module _ (W : World) where
  func_at : (o : Provenance) (name : Bytes) (behind : List Stmt) (f : Func) → FuncHasPositions f → HavePositions behind → FuncHasPositions (merged_func W o name behind f)
  func_at o name behind f h k =
      let body = statements_at W.permits (variable_name W) (function_name W) o (body_of f.body) h.1 in
      (h.0, both_have (merged_body W o f.body) behind (built_at (merged_statements W.permits (variable_name W) (function_name W) o (body_of f.body)) body) k)

  main_at : (first second xform : Program) (c : Option ClientProgram) (permits : ℕ → Bool)
      → All FuncHasPositions first.funcs → All FuncHasPositions (client_funcs (record { first = first; second = second; xform = xform; client = c; permits = permits }))
      → FuncHasPositions (merged_main (record { first = first; second = second; xform = xform; client = c; permits = permits }) c)
  main_at first second xform None permits h k = starting_at (merged_name prefix.Old (codes "main")) (func_in first.funcs (codes "main")) (found_at first.funcs (codes "main") h)
  main_at first second xform (Some c) permits h k = starting_at (merged_name prefix.Client c.spec) (func_in c.program.funcs c.spec) (found_at c.program.funcs c.spec k)

  funcs_at : PartsHavePositions W → All FuncHasPositions (merged_funcs W)
  funcs_at h =
      let P = FuncHasPositions in
      let olds = mapped_at (old_func W) (λ f k. func_at origin.Old (merged_name prefix.Old f.name) (ending f) f k (ending_at f k.0)) W.first.funcs h.first.funcs in
      let news = mapped_at (new_func W) (λ f k. func_at origin.New (merged_name prefix.New f.name) (ending f) f k (ending_at f k.0)) W.second.funcs h.second.funcs in
      let shared = filter (is_wrapped W) W.first.funcs in
      let wrappers = mapped_at wrapper wrapper_at shared (All-filter (is_wrapped W) P W.first.funcs h.first.funcs) in
      let xforms = mapped_at (xform_func W) (λ f k. func_at origin.Xform (merged_name prefix.Xform f.name) [] f k tt) W.xform.funcs h.xform.funcs in
      let clients = mapped_at (client_func W) (λ f k. func_at origin.Client (merged_name prefix.Client f.name) [] f k tt) (client_funcs W) h.client in
      let main = All-cons P (merged_main W W.client) [] (main_at W.first W.second W.xform W.client W.permits h.first.funcs h.client) (All-nil P) in
      All-append P _ _ olds (All-append P _ _ news (All-append P _ _ wrappers (All-append P _ _ xforms (All-append P _ _ clients main))))

  abbrev GlobalAt : GlobalVar → Type 0
  GlobalAt g = IsPosition g.pos

  abbrev ProtoAt : Proto → Type 0
  ProtoAt q = IsPosition q.pos

  pub merged_positions : PartsHavePositions W → ProgramHasPositions (merged_program W)
  merged_positions h =
      let funcs = funcs_at h in
      let own = filter (is_own_cell W) W.second.globals in
      record {
        globals =
            All-cons GlobalAt flag (map (merged_global W origin.Old) W.first.globals ++ map (merged_global W origin.New) own)
            (tt, omega arith, omega arith)
            (All-append GlobalAt (map (merged_global W origin.Old) W.first.globals) (map (merged_global W origin.New) own)
            (All-map GlobalAt (merged_global W origin.Old) W.first.globals h.first.globals)
            (All-map GlobalAt (merged_global W origin.New) own (All-filter (is_own_cell W) GlobalAt W.second.globals h.second.globals)));
        protos = All-map ProtoAt declared (merged_funcs W) (All-weaker FuncHasPositions (λ f. IsPosition f.pos) (λ f k. k.0) (merged_funcs W) funcs);
        funcs = funcs;
      }
