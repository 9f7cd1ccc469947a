-- The position of a statement is that of its first token; what a text's statement becomes beside it, as the call
-- whose result a temporary has, has the same one.
use Rattle.std.specs.Prelude.{◌≡◌, ◌+◌, Bool, true, false, cond, List, [], ◌∷◌, ◌++◌, map, Some, None}
use Rattle.std.proofs.Common.{sym, subst}
use Rattle.c_lang.specs.Names.{Bytes}
use Rattle.c_lang.specs.Units.{IsPosition}
use Rattle.c_lang.specs.Positions.{StatementHasPositions, StatementsHavePositions}
use Rattle.c_lang.specs.Trees.{expression_of, Statement, statement_of, statements, skip, set, set_element, call, if_else, while_loop, break_loop, return_with, assert_that, input, output, point, choice, force, pick}
use Rattle.c_lang.specs.declared.unit.Pos.{Pos}
use Rattle.c_lang.specs.declared.expr.Expr.{Expr}
use Rattle.c_lang.specs.declared.stmt.Dest.{Dest}
use Rattle.c_lang.specs.declared.stmt.Dest.TheVariants.{Nowhere, Into, Fresh}
use Rattle.c_lang.specs.declared.stmt.Kind.TheVariants as kind
use Rattle.c_lang.specs.declared.stmt.Stmt.{Stmt}
use Rattle.c_lang.specs.declared.stmt.Stmt.TheVariants as stmt
use Rattle.c_lang.proofs.TreeLemmas.{statement_of-Skip, statement_of-Set, statement_of-SetElem, statement_of-Call, statement_of-If, statement_of-While, statement_of-Break, statement_of-Return, statement_of-Assert, statement_of-Input, statement_of-Output, statement_of-Point, statement_of-Choice, statement_of-Force, statement_of-Pick}
use Rattle.c_grammar.specs.Tokens.{mark, keyword, brace_close, semicolon, else_key}
use Rattle.c_grammar.specs.Expressions as e
use Rattle.c_grammar.specs.declared.right.Call.{Call}
use Rattle.c_grammar.specs.declared.right.Call.TheVariants as c
use Rattle.c_grammar.specs.declared.right.Right.{Right}
use Rattle.c_grammar.specs.declared.right.Right.TheVariants as right
use Rattle.c_grammar.specs.Scopes.{Scope, is_declared, temporary}
use Rattle.c_grammar.specs.Statements.{cond_tokens, CallTree, call_tokens, OneTree, one_tokens, one_stmt, PickTree, pick_tokens, pick_stmt, Simple, simple_tokens, simple_stmts, Piece, Body, Pieces, tokens, body_tokens, pieces_tokens, stmts, body_stmts, pieces_stmts, scope_after, body_scope, exprs_of, right_of, call_of, call_pos, call_to, right_to, stored, set_stmts}
use Rattle.c_grammar.specs.Statements as tree
use Rattle.written_laws.proofs.GivenPositions.{TokensHavePositions, split_positions}

abbrev pub HavePositions : List Stmt → Type 0
HavePositions ss = StatementsHavePositions (statements (map statement_of ss))

one_has : (s : Stmt) (t : Statement) → statement_of s ≡ t → StatementHasPositions t → HavePositions (s ∷ [])
one_has s t is h = (subst StatementHasPositions (sym is) h, tt)

pub both_have : (xs ys : List Stmt) → HavePositions xs → HavePositions ys → HavePositions (xs ++ ys)
both_have [] ys h k = k
both_have (x ∷ xs) ys h k = (h.0, both_have xs ys h.1 k)

-- ---- calls and right sides

module _ (p : Pos) (h : IsPosition p) where
  set_has : (d : Dest) (a : Expr) → HavePositions (stmt.Set p d a ∷ [])
  set_has d a = one_has _ (set p d (expression_of a)) (statement_of-Set p d a) h

  call_has : (d : Dest) (a : Call) → HavePositions (call_to p d a ∷ [])
  call_has d (c.Function f es) = one_has _ (call p d f (map expression_of es)) (statement_of-Call p d f es) h
  call_has d c.Input = one_has _ (input p d) (statement_of-Input p d) h
  call_has d (c.Choice k) = one_has _ (choice p d k) (statement_of-Choice p d k) h

  right_has : (d : Dest) (r : Right) → HavePositions (right_to p d r ∷ [])
  right_has d (right.Value a) = set_has d a
  right_has d (right.Call a) = call_has d a

  stored_have : (sc : Scope) (r : Right) → HavePositions (stored p sc r).before
  stored_have sc (right.Value a) = tt
  stored_have sc (right.Call a) = call_has (Fresh kind.Int (temporary (sc.count + 1))) a

  set_stmts_have : (x : Bytes) (sc : Scope) (r : Right) → HavePositions (set_stmts p x sc r)
  set_stmts_have x sc r = by_test (is_declared sc x)
    where
      by_test : (b : Bool) → HavePositions (cond b (right_to p (Into x) r ∷ []) ((stored p sc r).before ++ (stmt.Set p (Into x) (stored p sc r).value ∷ [])))
      by_test true = right_has (Into x) r
      by_test false = both_have (stored p sc r).before (stmt.Set p (Into x) (stored p sc r).value ∷ []) (stored_have sc r) (set_has (Into x) (stored p sc r).value)

-- ---- picks

one_position : (t : OneTree) → TokensHavePositions (one_tokens t) → StatementHasPositions (statement_of (one_stmt t))
one_position (tree.ignored f end) h =
    subst StatementHasPositions (sym (statement_of-Call f.at.pos Nowhere f.callee (exprs_of f.arguments))) h.0
one_position (tree.kept at x is f end) h =
    subst StatementHasPositions (sym (statement_of-Call at.pos (Into x) f.callee (exprs_of f.arguments))) h.0

pick_position : (t : PickTree) → TokensHavePositions (pick_tokens t) → StatementHasPositions (statement_of (pick_stmt t))
pick_position (tree.bare a) h = one_position a h
pick_position (tree.braced o a cl) h = one_position a (split_positions (one_tokens a) (mark brace_close cl ∷ []) h.1).0

-- ---- statements

call_position : (t : CallTree) → TokensHavePositions (call_tokens t) → IsPosition (call_pos t)
call_position (tree.function f) h = h.0
call_position (tree.input at o cl) h = h.0
call_position (tree.choice at o n k cl) h = h.0

simple_have : (t : Simple) (sc : Scope) → TokensHavePositions (simple_tokens t) → HavePositions (simple_stmts t sc)
simple_have (tree.skip at) sc h = one_has _ (skip at.pos) (statement_of-Skip at.pos) h.0
simple_have (tree.set at x is y end) sc h = set_stmts_have at.pos h.0 x sc (right_of y)
simple_have (tree.set_element at x o t cl is y end) sc h =
    let v = (stored at.pos sc (right_of y)).value in
    both_have (stored at.pos sc (right_of y)).before (stmt.SetElem at.pos x (e.expr_of t) v ∷ []) (stored_have at.pos h.0 sc (right_of y))
    (one_has _ (set_element at.pos x (expression_of (e.expr_of t)) (expression_of v)) (statement_of-SetElem at.pos x (e.expr_of t) v) h.0)
simple_have (tree.declaration int at x is y end) sc h = right_has int.pos h.0 (Fresh kind.Int x) (right_of y)
simple_have (tree.pointer int p is y end) sc h = right_has int.pos h.0 (Fresh (kind.Fp (tree.arity p)) p.name) (right_of y)
simple_have (tree.run t end) sc h =
    call_has (call_pos t) (call_position t (split_positions (call_tokens t) (mark semicolon end ∷ []) h).0) Nowhere (call_of t)
simple_have (tree.break_loop at end) sc h = one_has _ (break_loop at.pos) (statement_of-Break at.pos) h.0
simple_have (tree.return_off at end) sc h = one_has _ (return_with at.pos None) (statement_of-Return at.pos None) h.0
simple_have (tree.return_side at y end) sc h =
    let v = (stored at.pos sc (right_of y)).value in
    both_have (stored at.pos sc (right_of y)).before (stmt.Return at.pos (Some v) ∷ []) (stored_have at.pos h.0 sc (right_of y))
    (one_has _ (return_with at.pos (Some (expression_of v))) (statement_of-Return at.pos (Some v)) h.0)
simple_have (tree.assert_that at t end) sc h = one_has _ (assert_that at.pos (expression_of (e.expr_of t.tree))) (statement_of-Assert at.pos (e.expr_of t.tree)) h.0
simple_have (tree.output at t end) sc h = one_has _ (output at.pos (expression_of (e.expr_of t.tree))) (statement_of-Output at.pos (e.expr_of t.tree)) h.0
simple_have (tree.point at o n k cl end) sc h = one_has _ (point at.pos k) (statement_of-Point at.pos k) h.0
simple_have (tree.force at o cl end) sc h = one_has _ (force at.pos) (statement_of-Force at.pos) h.0
simple_have (tree.pick at o u uo uc cl a el b) sc h =
    let both = split_positions (pick_tokens a) (keyword else_key el ∷ pick_tokens b) h.1.1.1.1.1.1 in
    one_has _ (pick at.pos (statement_of (pick_stmt a)) (statement_of (pick_stmt b))) (statement_of-Pick at.pos (pick_stmt a) (pick_stmt b))
    (h.0, pick_position a both.0, pick_position b both.1.1)

mutual
  piece_has : (t : Piece) (sc : Scope) → TokensHavePositions (tokens t) → HavePositions (stmts t sc)
  piece_has (tree.simple t) sc h = simple_have t sc h
  piece_has (tree.if_only at t b) sc h =
      let body = body_has b sc (split_positions (cond_tokens t) (body_tokens b) h.1).1 in
      one_has _ (if_else at.pos (expression_of (e.expr_of t.tree)) (statements (map statement_of (body_stmts b sc))) (statements (map statement_of []))) (statement_of-If at.pos (e.expr_of t.tree) (body_stmts b sc) [])
      (h.0, body, tt)
  piece_has (tree.if_else at t b el n) sc h =
      let bodies = split_positions (body_tokens b) (keyword else_key el ∷ body_tokens n) (split_positions (cond_tokens t) (body_tokens b ++ (keyword else_key el ∷ body_tokens n)) h.1).1 in
      let body = body_has b sc bodies.0 in
      let other = body_has n (body_scope b sc) bodies.1.1 in
      one_has _ (if_else at.pos (expression_of (e.expr_of t.tree)) (statements (map statement_of (body_stmts b sc))) (statements (map statement_of (body_stmts n (body_scope b sc)))))
      (statement_of-If at.pos (e.expr_of t.tree) (body_stmts b sc) (body_stmts n (body_scope b sc)))
      (h.0, body, other)
  piece_has (tree.while_loop at t b) sc h =
      let body = body_has b sc (split_positions (cond_tokens t) (body_tokens b) h.1).1 in
      one_has _ (while_loop at.pos (expression_of (e.expr_of t.tree)) (statements (map statement_of (body_stmts b sc)))) (statement_of-While at.pos (e.expr_of t.tree) (body_stmts b sc))
      (h.0, body)

  body_has : (b : Body) (sc : Scope) → TokensHavePositions (body_tokens b) → HavePositions (body_stmts b sc)
  body_has (tree.single t) sc h = piece_has t sc h
  body_has (tree.block o ts cl) sc h = pieces_have ts sc (split_positions (pieces_tokens ts) (mark brace_close cl ∷ []) h.1).0

  pub pieces_have : (ts : Pieces) (sc : Scope) → TokensHavePositions (pieces_tokens ts) → HavePositions (pieces_stmts ts sc)
  pieces_have tree.none sc h = tt
  pieces_have (tree.next t ts) sc h =
      let both = split_positions (tokens t) (pieces_tokens ts) h in
      both_have (stmts t sc) (pieces_stmts ts (scope_after t sc)) (piece_has t sc both.0) (pieces_have ts (scope_after t sc) both.1)
