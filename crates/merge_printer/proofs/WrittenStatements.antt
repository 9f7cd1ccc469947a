-- The statements of a text are read again, when they are printed, as the statements that they are.
use Rattle.std.specs.Prelude.{◌≡◌, Bool, true, false, cond, [], ◌∷◌, ◌++◌, Some, None}
use Rattle.c_lang.specs.Names.{Bytes}
use Rattle.c_lang.specs.Trees.{expression_of, skip, set_element, if_else, while_loop, break_loop, return_with, assert_that, output}
use Rattle.c_lang.specs.declared.unit.Pos.{Pos}
use Rattle.c_lang.specs.declared.unit.Unit.TheVariants.{Merge}
use Rattle.c_lang.specs.declared.stmt.Kind.TheVariants as kind
use Rattle.c_lang.specs.declared.stmt.Dest.TheVariants.{Nowhere, Fresh}
use Rattle.c_lang.specs.declared.stmt.Stmt.{Stmt}
use Rattle.c_lang.specs.declared.stmt.Stmt.TheVariants as stmt
use Rattle.c_lang.proofs.TreeLemmas.{statement_of-Skip, statement_of-SetElem, statement_of-If, statement_of-While, statement_of-Break, statement_of-Return, statement_of-Assert, statement_of-Output}
use Rattle.c_grammar.specs.Tokens.{mark, keyword, round_close, square_close, brace_close, semicolon, equals, else_key}
use Rattle.c_grammar.specs.Expressions as e
use Rattle.c_grammar.specs.declared.right.Right.{Right}
use Rattle.c_grammar.specs.declared.right.Right.TheVariants as right
use Rattle.c_grammar.specs.Scopes.{Scope, is_declared, declare}
use Rattle.c_grammar.specs.Statements.{CondTree, cond_tokens, side_tokens, call_tokens, pointer_tokens, arity, Simple, simple_tokens, simple_scope, simple_stmts, IsSimple, Piece, Body, Pieces, tokens, body_tokens, pieces_tokens, IsPiece, IsBody, ArePieces, stmts, body_stmts, pieces_stmts, scope_after, body_scope, pieces_scope, right_of, call_of, call_pos, stored, set_scope}
use Rattle.c_grammar.specs.Statements as tree
use Rattle.merge_printer.proofs.Fitting.{MayGo, scope_behind_all}
use Rattle.merge_printer.proofs.GivenTokens.{TokensFit, fit_append}
use Rattle.merge_printer.proofs.WrittenExpressions.{ExprFits, tree_fits}
use Rattle.merge_printer.proofs.WrittenSides.{RightFits, call_fits, side_fits, call_read, right_read, stored_read, set_read}
use Rattle.merge_printer.proofs.ReadScopes.{Covers, covers_both, mirror, Reads, none_read, one_read, both_read, none_before, few_parameters}

-- ---- what is refused later was refused before

abbrev Accepted : Scope → Type 0
Accepted sc = sc.early ≡ []

stored_before : (p : Pos) (sc : Scope) (r : Right) → Accepted (stored p sc r).scope → Accepted sc
stored_before p sc (right.Value a) h = h
stored_before p sc (right.Call a) h = h

set_before : (p : Pos) (x : Bytes) (sc : Scope) (r : Right) → Accepted (set_scope p x sc r) → Accepted sc
set_before p x sc r h = by_test (is_declared sc x) h
  where
    by_test : (b : Bool) → Accepted (cond b sc (stored p sc r).scope) → Accepted sc
    by_test true h = h
    by_test false h = stored_before p sc r h

simple_before : (t : Simple) (sc : Scope) → Accepted (simple_scope t sc) → Accepted sc
simple_before (tree.skip at) sc h = h
simple_before (tree.set at x is y end) sc h = set_before at.pos x sc (right_of y) h
simple_before (tree.set_element at x o t c is y end) sc h = stored_before at.pos sc (right_of y) h
simple_before (tree.declaration int at x is y end) sc h = h
simple_before (tree.pointer int p is y end) sc h = none_before sc.early _ h
simple_before (tree.run c end) sc h = h
simple_before (tree.break_loop at end) sc h = h
simple_before (tree.return_off at end) sc h = h
simple_before (tree.return_side at y end) sc h = stored_before at.pos sc (right_of y) h
simple_before (tree.assert_that at c end) sc h = h
simple_before (tree.output at c end) sc h = h
simple_before (tree.point at o n k c end) sc h = h
simple_before (tree.force at o c end) sc h = h
simple_before (tree.pick at o u uo uc c a el b) sc h = h

mutual
  piece_before : (t : Piece) (sc : Scope) → Accepted (scope_after t sc) → Accepted sc
  piece_before (tree.simple t) sc h = simple_before t sc h
  piece_before (tree.if_only at c b) sc h = body_before b sc h
  piece_before (tree.if_else at c b el n) sc h = body_before b sc (body_before n (body_scope b sc) h)
  piece_before (tree.while_loop at c b) sc h = body_before b sc h

  body_before : (b : Body) (sc : Scope) → Accepted (body_scope b sc) → Accepted sc
  body_before (tree.single t) sc h = piece_before t sc h
  body_before (tree.block o ts c) sc h = pieces_before ts sc h

  pub pieces_before : (ts : Pieces) (sc : Scope) → Accepted (pieces_scope ts sc) → Accepted sc
  pieces_before tree.none sc h = h
  pieces_before (tree.next t ts) sc h = piece_before t sc (pieces_before ts (scope_after t sc) h)

-- ---- single statements

condition_fits : (c : CondTree) → TokensFit (cond_tokens c) → ExprFits (e.expr_of c.tree)
condition_fits c h = tree_fits c.tree (fit_append (e.tokens_of c.tree) (mark round_close c.closes ∷ []) h.1).0

module _ (in_loop may_declare : Bool) (sc now : Scope) (covers : Covers sc now) where
  -- a right side is stored, and then a statement has its value
  after_stored : (p : Pos) (r : Right) (s : Stmt) → RightFits r
      → ((now : Scope) → Covers (stored p sc r).scope now → ExprFits (stored p sc r).value → Reads in_loop (s ∷ []) now (stored p sc r).scope)
      → Reads in_loop ((stored p sc r).before ++ (s ∷ [])) now (stored p sc r).scope
  after_stored p r s h last =
      let x = stored_read in_loop p sc now r h covers in
      both_read (stored p sc r).before (s ∷ []) now (stored p sc r).scope (stored p sc r).scope x.before
      (last (scope_behind_all (mirror (stored p sc r).before) now) x.before.covers x.value_fits)

  simple_read : (t : Simple) → IsSimple Merge may_declare in_loop t → TokensFit (simple_tokens t) → Accepted (simple_scope t sc) → Reads in_loop (simple_stmts t sc) now (simple_scope t sc)
  simple_read (tree.skip at) valid h none = one_read (skip at.pos) (statement_of-Skip at.pos) tt tt covers
  simple_read (tree.set at x is y end) valid h none =
      set_read in_loop at.pos x sc now (right_of y) h.0 (side_fits y (fit_append (side_tokens y) (mark semicolon end ∷ []) h.1.1).0) covers
  simple_read (tree.set_element at x o t c is y end) valid h none =
      let first = fit_append (e.tokens_of t) (mark square_close c ∷ mark equals is ∷ side_tokens y ++ (mark semicolon end ∷ [])) h.1.1 in
      let side = fit_append (side_tokens y) (mark semicolon end ∷ []) first.1.1.1 in
      let index = tree_fits t first.0 in
      after_stored at.pos (right_of y) (stmt.SetElem at.pos x (e.expr_of t) (stored at.pos sc (right_of y)).value) (side_fits y side.0)
      (λ now covers value. one_read (set_element at.pos x (expression_of (e.expr_of t)) (expression_of (stored at.pos sc (right_of y)).value)) (statement_of-SetElem at.pos x (e.expr_of t) (stored at.pos sc (right_of y)).value) (h.0, index, value) tt covers)
  simple_read (tree.declaration int at x is y end) valid h none =
      let side = fit_append (side_tokens y) (mark semicolon end ∷ []) h.1.1.1 in
      right_read in_loop now (declare sc x) int.pos (Fresh kind.Int x) (right_of y) (side_fits y side.0) (tt, h.1.0) (goes (right_of y)) (covers_both sc now x covers)
    where
      goes : (r : Right) → MayGo now (Fresh kind.Int x) r
      goes (right.Value a) = tt
      goes (right.Call a) = tt
  simple_read (tree.pointer int p is y end) valid h none =
      let split = fit_append (pointer_tokens p) (mark equals is ∷ side_tokens y ++ (mark semicolon end ∷ [])) h.1 in
      let side = fit_append (side_tokens y) (mark semicolon end ∷ []) split.1.1 in
      right_read in_loop now _ int.pos (Fresh (kind.Fp (arity p)) p.name) (right_of y) (side_fits y side.0) (few_parameters sc.early int.pos (arity p) none, split.0.1.1.0) (goes (right_of y)) (covers_both sc now p.name covers)
    where
      goes : (r : Right) → MayGo now (Fresh (kind.Fp (arity p)) p.name) r
      goes (right.Value a) = tt
      goes (right.Call a) = tt
  simple_read (tree.run c end) valid h none =
      call_read in_loop now sc (call_pos c) Nowhere (call_of c) (call_fits c (fit_append (call_tokens c) (mark semicolon end ∷ []) h).0) tt tt covers
  simple_read (tree.break_loop at end) valid h none = one_read (break_loop at.pos) (statement_of-Break at.pos) valid tt covers
  simple_read (tree.return_off at end) valid h none = one_read (return_with at.pos None) (statement_of-Return at.pos None) tt tt covers
  simple_read (tree.return_side at y end) valid h none =
      let side = fit_append (side_tokens y) (mark semicolon end ∷ []) h.1 in
      after_stored at.pos (right_of y) (stmt.Return at.pos (Some (stored at.pos sc (right_of y)).value)) (side_fits y side.0)
      (λ now covers value. one_read (return_with at.pos (Some (expression_of (stored at.pos sc (right_of y)).value))) (statement_of-Return at.pos (Some (stored at.pos sc (right_of y)).value)) value tt covers)
  simple_read (tree.assert_that at c end) valid h none =
      one_read (assert_that at.pos (expression_of (e.expr_of c.tree))) (statement_of-Assert at.pos (e.expr_of c.tree)) (condition_fits c (fit_append (cond_tokens c) (mark semicolon end ∷ []) h.1).0) tt covers
  simple_read (tree.output at c end) valid h none =
      one_read (output at.pos (expression_of (e.expr_of c.tree))) (statement_of-Output at.pos (e.expr_of c.tree)) (condition_fits c (fit_append (cond_tokens c) (mark semicolon end ∷ []) h.1).0) tt covers
  simple_read (tree.point at o n k c end) valid h none = absurd cc
  simple_read (tree.force at o c end) valid h none = absurd cc
  simple_read (tree.pick at o u uo uc c a el b) valid h none = let client = valid.0 in absurd cc

-- ---- statements and bodies

mutual
  pub piece_read : (t : Piece) (in_loop may_declare : Bool) (sc now : Scope) → Covers sc now → IsPiece Merge may_declare in_loop t → TokensFit (tokens t) → Accepted (scope_after t sc) → Reads in_loop (stmts t sc) now (scope_after t sc)
  piece_read (tree.simple t) in_loop may_declare sc now covers valid h none = simple_read in_loop may_declare sc now covers t valid h none
  piece_read (tree.if_only at c b) in_loop may_declare sc now covers valid h none =
      let split = fit_append (cond_tokens c) (body_tokens b) h.1 in
      let body = body_read b in_loop sc now covers valid.1 split.1 none in
      one_read (if_else at.pos (expression_of (e.expr_of c.tree)) (mirror (body_stmts b sc)) (mirror [])) (statement_of-If at.pos (e.expr_of c.tree) (body_stmts b sc) [])
      (condition_fits c split.0, body.fits, tt) (body.keeps, tt) body.covers
  piece_read (tree.if_else at c b el n) in_loop may_declare sc now covers valid h none =
      let split = fit_append (cond_tokens c) (body_tokens b ++ (keyword else_key el ∷ body_tokens n)) h.1 in
      let bodies = fit_append (body_tokens b) (keyword else_key el ∷ body_tokens n) split.1 in
      let body = body_read b in_loop sc now covers valid.1 bodies.0 (body_before n (body_scope b sc) none) in
      let other = body_read n in_loop (body_scope b sc) (scope_behind_all (mirror (body_stmts b sc)) now) body.covers valid.3 bodies.1.1 none in
      one_read (if_else at.pos (expression_of (e.expr_of c.tree)) (mirror (body_stmts b sc)) (mirror (body_stmts n (body_scope b sc)))) (statement_of-If at.pos (e.expr_of c.tree) (body_stmts b sc) (body_stmts n (body_scope b sc)))
      (condition_fits c split.0, body.fits, other.fits) (body.keeps, other.keeps) other.covers
  piece_read (tree.while_loop at c b) in_loop may_declare sc now covers valid h none =
      let split = fit_append (cond_tokens c) (body_tokens b) h.1 in
      let body = body_read b true sc now covers valid.1 split.1 none in
      one_read (while_loop at.pos (expression_of (e.expr_of c.tree)) (mirror (body_stmts b sc))) (statement_of-While at.pos (e.expr_of c.tree) (body_stmts b sc))
      (condition_fits c split.0, body.fits) body.keeps body.covers

  body_read : (b : Body) (in_loop : Bool) (sc now : Scope) → Covers sc now → IsBody Merge in_loop b → TokensFit (body_tokens b) → Accepted (body_scope b sc) → Reads in_loop (body_stmts b sc) now (body_scope b sc)
  body_read (tree.single t) in_loop sc now covers valid h none = piece_read t in_loop false sc now covers valid h none
  body_read (tree.block o ts c) in_loop sc now covers valid h none = pieces_read ts in_loop sc now covers valid (fit_append (pieces_tokens ts) (mark brace_close c ∷ []) h.1).0 none

  pub pieces_read : (ts : Pieces) (in_loop : Bool) (sc now : Scope) → Covers sc now → ArePieces Merge in_loop ts → TokensFit (pieces_tokens ts) → Accepted (pieces_scope ts sc) → Reads in_loop (pieces_stmts ts sc) now (pieces_scope ts sc)
  pieces_read tree.none in_loop sc now covers valid h none = none_read in_loop now sc covers
  pieces_read (tree.next t ts) in_loop sc now covers valid h none =
      let split = fit_append (tokens t) (pieces_tokens ts) h in
      let first = piece_read t in_loop true sc now covers valid.0 split.0 (pieces_before ts (scope_after t sc) none) in
      both_read (stmts t sc) (pieces_stmts ts (scope_after t sc)) now (scope_after t sc) (pieces_scope ts (scope_after t sc)) first
      (pieces_read ts in_loop (scope_after t sc) (scope_behind_all (mirror (stmts t sc)) now) first.covers valid.1 split.1 none)
