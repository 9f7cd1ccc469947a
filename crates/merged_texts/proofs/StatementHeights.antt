-- The printed text of statements is no higher than the trees that they were read from.
use Rattle.std.specs.Prelude.{◌≡◌, ◌≤◌, ◌+◌, max, ℕ, Bool, true, false, cond, List, [], ◌∷◌, ◌++◌, map, Some, None}
use Rattle.std.proofs.Common.{ap, arith}
use Rattle.c_lang.specs.Names.{Bytes}
use Rattle.c_lang.specs.Trees.{expression_of, Statement, statement_of, skip, set, set_element, call, if_else, while_loop, break_loop, return_with, assert_that, input, output, point, choice, force, pick}
use Rattle.c_lang.specs.declared.unit.Unit.{Unit}
use Rattle.c_lang.specs.declared.unit.Pos.{Pos}
use Rattle.c_lang.specs.declared.expr.Expr.{Expr}
use Rattle.c_lang.specs.declared.stmt.Dest.{Dest}
use Rattle.c_lang.specs.declared.stmt.Dest.TheVariants.{Nowhere, Into, Fresh}
use Rattle.c_lang.specs.declared.stmt.Kind.TheVariants as kind
use Rattle.c_lang.specs.declared.stmt.Stmt.{Stmt}
use Rattle.c_lang.specs.declared.stmt.Stmt.TheVariants as stmt
use Rattle.c_lang.proofs.TreeLemmas.{expression_of-Var, statement_of-Skip, statement_of-Set, statement_of-SetElem, statement_of-Call, statement_of-If, statement_of-While, statement_of-Break, statement_of-Return, statement_of-Assert, statement_of-Input, statement_of-Output, statement_of-Point, statement_of-Choice, statement_of-Force, statement_of-Pick}
use Rattle.c_grammar.specs.Expressions as e
use Rattle.c_grammar.specs.declared.right.Call.{Call}
use Rattle.c_grammar.specs.declared.right.Call.TheVariants as c
use Rattle.c_grammar.specs.declared.right.Right.{Right}
use Rattle.c_grammar.specs.declared.right.Right.TheVariants as right
use Rattle.c_grammar.specs.Scopes.{Scope, is_declared, temporary}
use Rattle.c_grammar.specs.Statements.{CallTree, call_height, IsCall, SideTree, side_height, IsSide, OneTree, one_height, IsOne, one_stmt, PickTree, pick_height, IsPick, pick_stmt, Simple, simple_height, IsSimple, simple_stmts, Piece, Body, Pieces, height, pieces_height, IsPiece, IsBody, ArePieces, stmts, body_stmts, pieces_stmts, scope_after, body_scope, exprs_of, right_of, call_of, call_pos, call_to, right_to, stored}
use Rattle.c_grammar.specs.Statements as tree
use Rattle.c_types.specs.Bodies.{body_of}
use Rattle.merge_printer.specs.Heights.{expression_height, arguments_height, statement_height, statements_height}
use Rattle.merged_texts.proofs.ExpressionHeights.{tree_low, arguments_low}

abbrev pub body_height : List Stmt → ℕ
body_height ss = statements_height (body_of ss)

pub both_heights : (xs ys : List Stmt) → body_height (xs ++ ys) ≡ max (body_height xs) (body_height ys)
both_heights [] ys = omega arith
both_heights (x ∷ xs) ys = omega (arith, both_heights xs ys)

one_low : (s : Stmt) (t : Statement) (most : ℕ) → statement_of s ≡ t → statement_height t ≤ most → body_height (s ∷ []) ≤ most
one_low s t most is le = let same = ap statement_height is in omega (arith, same, le)

-- ---- calls and right sides

abbrev CallLow : ℕ → Call → Type 0
CallLow n (c.Function f es) = arguments_height (map expression_of es) + 1 ≤ n
CallLow n c.Input = 1 ≤ n
CallLow n (c.Choice k) = 2 ≤ n

abbrev RightLow : ℕ → Right → Type 0
RightLow n (right.Value a) = expression_height (expression_of a) ≤ n
RightLow n (right.Call a) = CallLow n a

call_low : (u : Unit) (t : CallTree) → IsCall u t → CallLow (call_height t) (call_of t)
call_low u (tree.function f) h = let arguments = arguments_low f.arguments h in omega (arith, arguments)
call_low u (tree.input at o cl) h = omega arith
call_low u (tree.choice at o n k cl) h = omega arith

side_low : (u : Unit) (y : SideTree) → IsSide u y → RightLow (side_height y) (right_of y)
side_low u (tree.value t) h = (tree_low t h).low
side_low u (tree.called t) h = call_low u t h

some_high : (n : ℕ) (a : Call) → CallLow n a → 1 ≤ n
some_high n (c.Function f es) h = omega (arith, h)
some_high n c.Input h = h
some_high n (c.Choice k) h = omega (arith, h)

module _ (n : ℕ) (p : Pos) where
  set_low : (d : Dest) (a : Expr) → expression_height (expression_of a) ≤ n → body_height (stmt.Set p d a ∷ []) ≤ n + 1
  set_low d a h = one_low (stmt.Set p d a) (set p d (expression_of a)) (n + 1) (statement_of-Set p d a) (omega (arith, h))

  call_goes : (d : Dest) (a : Call) → CallLow n a → body_height (call_to p d a ∷ []) ≤ n + 1
  call_goes d (c.Function f es) h = one_low (stmt.Call p d f es) (call p d f (map expression_of es)) (n + 1) (statement_of-Call p d f es) (omega (arith, h))
  call_goes d c.Input h = one_low (stmt.Input p d) (input p d) (n + 1) (statement_of-Input p d) (omega (arith, h))
  call_goes d (c.Choice k) h = one_low (stmt.Choice p d k) (choice p d k) (n + 1) (statement_of-Choice p d k) (omega (arith, h))

  right_goes : (d : Dest) (r : Right) → RightLow n r → body_height (right_to p d r ∷ []) ≤ n + 1
  right_goes d (right.Value a) h = set_low d a h
  right_goes d (right.Call a) h = call_goes d a h

  module _ (sc : Scope) where
    before_low : (r : Right) → RightLow n r → body_height (stored p sc r).before ≤ n + 1
    before_low (right.Value a) h = omega arith
    before_low (right.Call a) h = call_goes (Fresh kind.Int (temporary (sc.count + 1))) a h

    value_low : (r : Right) → RightLow n r → expression_height (expression_of (stored p sc r).value) ≤ n
    value_low (right.Value a) h = h
    value_low (right.Call a) h = rw (expression_of-Var (temporary (sc.count + 1))) (some_high n a h)

    -- a right side is stored, and then comes a statement that has its value
    after_stored : (r : Right) (s : Stmt) (most : ℕ) → n + 1 ≤ most → RightLow n r → body_height (s ∷ []) ≤ most → body_height ((stored p sc r).before ++ (s ∷ [])) ≤ most
    after_stored r s most le h last =
        let before = before_low r h in
        omega (arith, le, before, last, both_heights (stored p sc r).before (s ∷ []))

    set_stmts_low : (x : Bytes) (r : Right) → RightLow n r → body_height (tree.set_stmts p x sc r) ≤ n + 1
    set_stmts_low x r h = by_test (is_declared sc x)
      where
        by_test : (b : Bool) → body_height (cond b (right_to p (Into x) r ∷ []) ((stored p sc r).before ++ (stmt.Set p (Into x) (stored p sc r).value ∷ []))) ≤ n + 1
        by_test true = right_goes (Into x) r h
        by_test false =
            let v = (stored p sc r).value in
            after_stored r (stmt.Set p (Into x) v) (n + 1) (omega arith) h (set_low (Into x) v (value_low r h))

-- ---- picks

pick_call : (p : Pos) (d : Dest) (f : Bytes) (es : List Expr) (most : ℕ) → arguments_height (map expression_of es) + 1 + 1 ≤ most → statement_height (statement_of (stmt.Call p d f es)) ≤ most
pick_call p d f es most le = rw (statement_of-Call p d f es) le

one_call : (t : OneTree) → IsOne t → statement_height (statement_of (one_stmt t)) ≤ one_height t
one_call (tree.ignored f end) h =
    let arguments = arguments_low f.arguments h in
    pick_call f.at.pos Nowhere f.callee (exprs_of f.arguments) _ (omega (arith, arguments))
one_call (tree.kept at x is f end) h =
    let arguments = arguments_low f.arguments h in
    pick_call at.pos (Into x) f.callee (exprs_of f.arguments) _ (omega (arith, arguments))

pick_low : (t : PickTree) → IsPick t → statement_height (statement_of (pick_stmt t)) ≤ pick_height t
pick_low (tree.bare a) h = one_call a h
pick_low (tree.braced o a cl) h = one_call a h

-- ---- statements

module _ (u : Unit) (may_declare in_loop : Bool) where
  simple_low : (t : Simple) (sc : Scope) → IsSimple u may_declare in_loop t → body_height (simple_stmts t sc) ≤ simple_height t
  simple_low (tree.skip at) sc h = one_low (stmt.Skip at.pos) (skip at.pos) 1 (statement_of-Skip at.pos) (omega arith)
  simple_low (tree.set at x is y end) sc h = set_stmts_low (side_height y) at.pos sc x (right_of y) (side_low u y h)
  simple_low (tree.set_element at x o t cl is y end) sc h =
      let n = side_height y in
      let side = side_low u y h.1 in
      let index = (tree_low t h.0).low in
      let v = (stored at.pos sc (right_of y)).value in
      let value = value_low n at.pos sc (right_of y) side in
      let most = max (e.height t) n + 1 in
      after_stored n at.pos sc (right_of y) (stmt.SetElem at.pos x (e.expr_of t) v) most (omega arith) side
      (one_low (stmt.SetElem at.pos x (e.expr_of t) v) (set_element at.pos x (expression_of (e.expr_of t)) (expression_of v)) most (statement_of-SetElem at.pos x (e.expr_of t) v)
      (omega (arith, index, value)))
  simple_low (tree.declaration int at x is y end) sc h = right_goes (side_height y) int.pos (Fresh kind.Int x) (right_of y) (side_low u y h.1)
  simple_low (tree.pointer int p is y end) sc h = right_goes (side_height y) int.pos (Fresh (kind.Fp (tree.arity p)) p.name) (right_of y) (side_low u y h.1)
  simple_low (tree.run t end) sc h = call_goes (call_height t) (call_pos t) Nowhere (call_of t) (call_low u t h)
  simple_low (tree.break_loop at end) sc h = one_low (stmt.Break at.pos) (break_loop at.pos) 1 (statement_of-Break at.pos) (omega arith)
  simple_low (tree.return_off at end) sc h = one_low (stmt.Return at.pos None) (return_with at.pos None) 1 (statement_of-Return at.pos None) (omega arith)
  simple_low (tree.return_side at y end) sc h =
      let n = side_height y in
      let side = side_low u y h in
      let v = (stored at.pos sc (right_of y)).value in
      let value = value_low n at.pos sc (right_of y) side in
      after_stored n at.pos sc (right_of y) (stmt.Return at.pos (Some v)) (n + 1) (omega arith) side
      (one_low (stmt.Return at.pos (Some v)) (return_with at.pos (Some (expression_of v))) (n + 1) (statement_of-Return at.pos (Some v)) (omega (arith, value)))
  simple_low (tree.assert_that at t end) sc h =
      let inner = (tree_low t.tree h).low in
      one_low (stmt.Assert at.pos (e.expr_of t.tree)) (assert_that at.pos (expression_of (e.expr_of t.tree))) (e.height t.tree + 1) (statement_of-Assert at.pos (e.expr_of t.tree)) (omega (arith, inner))
  simple_low (tree.output at t end) sc h =
      let inner = (tree_low t.tree h).low in
      one_low (stmt.Output at.pos (e.expr_of t.tree)) (output at.pos (expression_of (e.expr_of t.tree))) (e.height t.tree + 1) (statement_of-Output at.pos (e.expr_of t.tree)) (omega (arith, inner))
  simple_low (tree.point at o n k cl end) sc h = one_low (stmt.Point at.pos k) (point at.pos k) 2 (statement_of-Point at.pos k) (omega arith)
  simple_low (tree.force at o cl end) sc h = one_low (stmt.Force at.pos) (force at.pos) 1 (statement_of-Force at.pos) (omega arith)
  simple_low (tree.pick at o v uo uc cl a el b) sc h =
      let first = pick_low a h.1 in
      let second = pick_low b h.2 in
      one_low (stmt.Pick at.pos (pick_stmt a) (pick_stmt b)) (pick at.pos (statement_of (pick_stmt a)) (statement_of (pick_stmt b))) (max (pick_height a) (pick_height b) + 1)
      (statement_of-Pick at.pos (pick_stmt a) (pick_stmt b)) (omega (arith, first, second))

mutual
  piece_low : (u : Unit) (may_declare in_loop : Bool) (t : Piece) (sc : Scope) → IsPiece u may_declare in_loop t → body_height (stmts t sc) ≤ height t
  piece_low u may_declare in_loop (tree.simple t) sc h = simple_low u may_declare in_loop t sc h
  piece_low u may_declare in_loop (tree.if_only at t b) sc h =
      let inner = (tree_low t.tree h.0).low in
      let body = body_low u in_loop b sc h.1 in
      one_low (stmt.If at.pos (e.expr_of t.tree) (body_stmts b sc) []) (if_else at.pos (expression_of (e.expr_of t.tree)) (body_of (body_stmts b sc)) (body_of [])) _
      (statement_of-If at.pos (e.expr_of t.tree) (body_stmts b sc) []) (omega (arith, inner, body))
  piece_low u may_declare in_loop (tree.if_else at t b el n) sc h =
      let inner = (tree_low t.tree h.0).low in
      let body = body_low u in_loop b sc h.1 in
      let other = body_low u in_loop n (body_scope b sc) h.3 in
      one_low (stmt.If at.pos (e.expr_of t.tree) (body_stmts b sc) (body_stmts n (body_scope b sc)))
      (if_else at.pos (expression_of (e.expr_of t.tree)) (body_of (body_stmts b sc)) (body_of (body_stmts n (body_scope b sc)))) _
      (statement_of-If at.pos (e.expr_of t.tree) (body_stmts b sc) (body_stmts n (body_scope b sc))) (omega (arith, inner, body, other))
  piece_low u may_declare in_loop (tree.while_loop at t b) sc h =
      let inner = (tree_low t.tree h.0).low in
      let body = body_low u true b sc h.1 in
      one_low (stmt.While at.pos (e.expr_of t.tree) (body_stmts b sc)) (while_loop at.pos (expression_of (e.expr_of t.tree)) (body_of (body_stmts b sc))) _
      (statement_of-While at.pos (e.expr_of t.tree) (body_stmts b sc)) (omega (arith, inner, body))

  body_low : (u : Unit) (in_loop : Bool) (b : Body) (sc : Scope) → IsBody u in_loop b → body_height (body_stmts b sc) ≤ tree.body_height b
  body_low u in_loop (tree.single t) sc h = piece_low u false in_loop t sc h
  body_low u in_loop (tree.block o ts cl) sc h = pieces_low u in_loop ts sc h

  pub pieces_low : (u : Unit) (in_loop : Bool) (ts : Pieces) (sc : Scope) → ArePieces u in_loop ts → body_height (pieces_stmts ts sc) ≤ pieces_height ts
  pieces_low u in_loop tree.none sc h = omega arith
  pieces_low u in_loop (tree.next t ts) sc h =
      let first = piece_low u true in_loop t sc h.0 in
      let rest = pieces_low u in_loop ts (scope_after t sc) h.1 in
      omega (arith, first, rest, both_heights (stmts t sc) (pieces_stmts ts (scope_after t sc)))
