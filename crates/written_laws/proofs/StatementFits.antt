-- The statements of a text that is written in a unit: one walk over its tree.
use Rattle.std.specs.Prelude.{⊤, ◌≡◌, Bool, true, false, cond, ◌+◌, List, [], ◌∷◌, ◌++◌, map, Some, None}
use Rattle.std.proofs.Common.{refl, sym, subst}
use Rattle.c_lang.specs.Names.{Bytes}
use Rattle.c_lang.specs.Trees.{expression_of, Statement, statement_of, skip, set, set_element, call, if_else, while_loop, break_loop, return_with, assert_that, input, output, point, choice, force, pick, none, more}
use Rattle.c_lang.specs.declared.unit.Unit.{Unit}
use Rattle.c_lang.specs.declared.unit.Pos.{Pos}
use Rattle.c_lang.specs.declared.expr.Expr.{Expr}
use Rattle.c_lang.specs.declared.stmt.Kind.TheVariants as kind
use Rattle.c_lang.specs.declared.stmt.Dest.{Dest}
use Rattle.c_lang.specs.declared.stmt.Dest.TheVariants.{Nowhere, Into, Fresh}
use Rattle.c_lang.specs.declared.stmt.Stmt.{Stmt}
use Rattle.c_lang.specs.declared.stmt.Stmt.TheVariants as stmt
use Rattle.c_lang.proofs.TreeLemmas.{expression_of-Var, statement_of-Skip, statement_of-Set, statement_of-SetElem, statement_of-Call, statement_of-If, statement_of-While, statement_of-Break, statement_of-Return, statement_of-Assert, statement_of-Input, statement_of-Output, statement_of-Point, statement_of-Choice, statement_of-Force, statement_of-Pick}
use Rattle.c_grammar.specs.Tokens.{mark, keyword, round_close, square_close, brace_close, semicolon, equals, else_key}
use Rattle.c_grammar.specs.Expressions as e
use Rattle.c_grammar.specs.declared.right.Call.{Call}
use Rattle.c_grammar.specs.declared.right.Call.TheVariants as c
use Rattle.c_grammar.specs.declared.right.Right.{Right}
use Rattle.c_grammar.specs.declared.right.Right.TheVariants as right
use Rattle.c_grammar.specs.Scopes.{Scope, is_declared, declare, one_more, temporary}
use Rattle.c_grammar.specs.Statements.{CondTree, cond_tokens, side_tokens, call_tokens, pointer_tokens, function_call_tokens, arity, OneTree, one_tokens, one_stmt, PickTree, pick_tokens, pick_stmt, Simple, simple_tokens, simple_scope, simple_stmts, IsSimple, Piece, Body, Pieces, tokens, body_tokens, pieces_tokens, IsPiece, IsBody, ArePieces, stmts, body_stmts, pieces_stmts, scope_after, body_scope, pieces_scope, exprs_of, right_of, call_of, call_pos, call_to, right_to, stored, set_stmts, set_scope}
use Rattle.c_grammar.specs.Statements as tree
use Rattle.written_laws.specs.Walk.{Context, with_dest, told, told_all, in_loop, in_pick, past_all, Throughout, ThroughoutAll}
use Rattle.c_types.specs.Bodies.{body_of}
use Rattle.c_types.specs.Statements.{dest_of}
use Rattle.written_laws.specs.Breaks.{IsNoStrayBreak}
use Rattle.written_laws.specs.Destinations.{OfResult, IsLocal}
use Rattle.written_laws.specs.Literals.{StatementHasInts}
use Rattle.written_laws.specs.SourceNames.{IsWord, DestHasNames, StatementHasNames}
use Rattle.written_laws.specs.SourceNames as names
use Rattle.written_laws.proofs.GivenWords.{TokensFit, fit_append}
use Rattle.written_laws.proofs.Walks.{told_append, throughout_append}
use Rattle.written_laws.proofs.TreeFits.{ExprFits, ExprsFit, CallFits, RightFits, tree_fits, function_call_fits, number_fits, call_fits, side_fits}
use Rattle.written_laws.proofs.Scopes.{Covers, covers_more, covers_both}

-- an assignment goes somewhere
abbrev pub IsTarget : Dest → Type 0
IsTarget Nowhere = ⊥
IsTarget (Into x) = ⊤
IsTarget (Fresh k x) = ⊤

abbrev pub DeclaresNothing : Dest → Type 0
DeclaresNothing Nowhere = ⊤
DeclaresNothing (Into x) = ⊤
DeclaresNothing (Fresh k x) = ⊥

-- and the calls of a pick declare nothing
abbrev pub HasTarget : Statement → Type 0
HasTarget (set p d e) = IsTarget d
HasTarget (pick p a b) = DeclaresNothing (dest_of a) × DeclaresNothing (dest_of b)
HasTarget s = ⊤

-- all that the laws say of a statement
pub record IsFit (u : Unit) (at : Context) (s : Statement) : Type 0 where
  pub target : HasTarget s
  pub breaks : IsNoStrayBreak at s
  pub results : OfResult (IsLocal at) s
  pub ints : StatementHasInts at s
  pub words : StatementHasNames u at s

-- statements fit where they stand, and what is declared past them is told by then
pub record Fits (u : Unit) (at : Context) (xs : List Stmt) (after : Scope) : Type 0 where
  pub fits : ThroughoutAll (IsFit u) at (body_of xs)
  pub covers : Covers after (told_all at.declared (body_of xs))

-- no statements
none_fit : (u : Unit) (at : Context) (sc : Scope) → Covers sc at.declared → Fits u at [] sc
none_fit u at sc covers = record { fits = tt; covers = covers }

one_fits : {u : Unit} {at : Context} {s : Stmt} {after : Scope} (t : Statement) → statement_of s ≡ t → Throughout (IsFit u) at t → Covers after (told at.declared t) → Fits u at (s ∷ []) after
one_fits {u} {at} {s} {after} t is fits covers = record {
  fits = subst (λ (t : Statement). ThroughoutAll (IsFit u) at (more t none)) (sym is) (fits, tt);
  covers = subst (λ (t : Statement). Covers after (told at.declared t)) (sym is) covers;
}

both_fit : {u : Unit} (at : Context) (xs ys : List Stmt) (mid after : Scope) → Fits u at xs mid → Fits u (past_all at (body_of xs)) ys after → Fits u at (xs ++ ys) after
both_fit {u} at xs ys mid after a b = record {
  fits = throughout_append (IsFit u) at xs ys a.fits b.fits;
  covers = subst (λ (names : List Bytes). Covers after names) (sym (told_append at.declared xs ys)) b.covers;
}

condition_fits : (u : Unit) (c : CondTree) → TokensFit u (cond_tokens c) → ExprFits u (e.expr_of c.tree)
condition_fits u c h = tree_fits u c.tree (fit_append u (e.tokens_of c.tree) (mark round_close c.closes ∷ []) h.1).0

-- ---- calls and right sides to a destination

module _ (u : Unit) (at : Context) (after : Scope) where
  call_goes : (p : Pos) (d : Dest) (a : Call) → CallFits u a → DestHasNames u d → IsLocal at d → Covers after (with_dest at.declared d) → Fits u at (call_to p d a ∷ []) after
  call_goes p d (c.Function f es) h fits local covers =
      one_fits (call p d f (map expression_of es)) (statement_of-Call p d f es) (record { target = tt; breaks = tt; results = local; ints = h.1.ints; words = (fits, h.0, h.1.words) }) covers
  call_goes p d c.Input h fits local covers = one_fits (input p d) (statement_of-Input p d) (record { target = tt; breaks = tt; results = local; ints = tt; words = fits }) covers
  call_goes p d (c.Choice k) h fits local covers = one_fits (choice p d k) (statement_of-Choice p d k) (record { target = tt; breaks = tt; results = local; ints = h; words = fits }) covers

  value_goes : (p : Pos) (d : Dest) (a : Expr) → ExprFits u a → IsTarget d → DestHasNames u d → Covers after (with_dest at.declared d) → Fits u at (stmt.Set p d a ∷ []) after
  value_goes p d a h target fits covers =
      one_fits (set p d (expression_of a)) (statement_of-Set p d a) (record { target = target; breaks = tt; results = tt; ints = h.ints; words = (fits, h.words) }) covers

  right_goes : (p : Pos) (d : Dest) (r : Right) → RightFits u r → IsTarget d → DestHasNames u d → IsLocal at d → Covers after (with_dest at.declared d) → Fits u at (right_to p d r ∷ []) after
  right_goes p d (right.Value a) h target fits local covers = value_goes p d a h target fits covers
  right_goes p d (right.Call a) h target fits local covers = call_goes p d a h fits local covers

-- ---- temporaries

-- the statements before, and the value that is left
record StoredFits (u : Unit) (at : Context) (p : Pos) (sc : Scope) (r : Right) : Type 0 where
  before : Fits u at (stored p sc r).before (stored p sc r).scope
  left : ExprFits u (stored p sc r).value

stored_fits : (u : Unit) (at : Context) (p : Pos) (sc : Scope) (r : Right) → RightFits u r → Covers sc at.declared → StoredFits u at p sc r
stored_fits u at p sc (right.Value a) h covers = record { before = none_fit u at sc covers; left = h }
stored_fits u at p sc (right.Call a) h covers =
    let x = temporary (sc.count + 1) in
    let made = names.made (sc.count + 1) refl in
    record {
      before = call_goes u at (one_more sc) p (Fresh kind.Int x) a h made tt (covers_more sc at.declared x covers);
      left = rw (expression_of-Var x) (record { ints = tt; words = made });
    }

-- a right side is stored, and then a statement has its value
after_stored : (u : Unit) (at : Context) (p : Pos) (sc : Scope) (r : Right) (s : Stmt) → RightFits u r → Covers sc at.declared
    → ((at : Context) → Covers (stored p sc r).scope at.declared → ExprFits u (stored p sc r).value → Fits u at (s ∷ []) (stored p sc r).scope)
    → Fits u at ((stored p sc r).before ++ (s ∷ [])) (stored p sc r).scope
after_stored u at p sc r s h covers last =
    let x = stored_fits u at p sc r h covers in
    both_fit at (stored p sc r).before (s ∷ []) (stored p sc r).scope (stored p sc r).scope x.before
    (last (past_all at (body_of (stored p sc r).before)) x.before.covers x.left)

-- to a name: at once where it is declared
set_fits : (u : Unit) (at : Context) (p : Pos) (x : Bytes) (sc : Scope) (r : Right) → IsWord u x → RightFits u r → Covers sc at.declared → Fits u at (set_stmts p x sc r) (set_scope p x sc r)
set_fits u at p x sc r word h covers = by_test (is_declared sc x) refl
  where
    by_test : (b : Bool) → is_declared sc x ≡ b
        → Fits u at (cond b (right_to p (Into x) r ∷ []) ((stored p sc r).before ++ (stmt.Set p (Into x) (stored p sc r).value ∷ []))) (cond b sc (stored p sc r).scope)
    by_test true test = right_goes u at sc p (Into x) r h tt word (λ free. covers x test) covers
    by_test false test =
        after_stored u at p sc r (stmt.Set p (Into x) (stored p sc r).value) h covers
        (λ now covers value. value_goes u now (stored p sc r).scope p (Into x) (stored p sc r).value value tt word covers)

-- ---- picks

module _ (u : Unit) (at : Context) where
  in_a_pick : (d : Dest) → IsLocal (in_pick at) d
  in_a_pick Nowhere = tt
  in_a_pick (Into x) = λ free. absurd cc
  in_a_pick (Fresh k x) = tt

  pick_call : (p : Pos) (d : Dest) (f : Bytes) (es : List Expr) → IsWord u f × ExprsFit u es → DestHasNames u d → Throughout (IsFit u) (in_pick at) (statement_of (stmt.Call p d f es))
  pick_call p d f es h fits = rw (statement_of-Call p d f es) (record { target = tt; breaks = tt; results = in_a_pick d; ints = h.1.ints; words = (fits, h.0, h.1.words) })

  one_call : (t : OneTree) → TokensFit u (one_tokens t) → Throughout (IsFit u) (in_pick at) (statement_of (one_stmt t))
  one_call (tree.ignored c end) h =
      pick_call c.at.pos Nowhere c.callee (exprs_of c.arguments) (function_call_fits u c (fit_append u (function_call_tokens c) (mark semicolon end ∷ []) h).0) tt
  one_call (tree.kept at x is c end) h =
      pick_call at.pos (Into x) c.callee (exprs_of c.arguments) (function_call_fits u c (fit_append u (function_call_tokens c) (mark semicolon end ∷ []) h.1.1).0) h.0

  pick_fits : (t : PickTree) → TokensFit u (pick_tokens t) → Throughout (IsFit u) (in_pick at) (statement_of (pick_stmt t))
  pick_fits (tree.bare a) h = one_call a h
  pick_fits (tree.braced o a cl) h = one_call a (fit_append u (one_tokens a) (mark brace_close cl ∷ []) h.1).0

one_quiet : (t : OneTree) → DeclaresNothing (dest_of (statement_of (one_stmt t)))
one_quiet (tree.ignored c end) = rw (statement_of-Call c.at.pos Nowhere c.callee (exprs_of c.arguments)) tt
one_quiet (tree.kept at x is c end) = rw (statement_of-Call at.pos (Into x) c.callee (exprs_of c.arguments)) tt

pick_quiet : (t : PickTree) → DeclaresNothing (dest_of (statement_of (pick_stmt t)))
pick_quiet (tree.bare a) = one_quiet a
pick_quiet (tree.braced o a c) = one_quiet a

-- ---- single statements

module _ (u : Unit) (may_declare : Bool) (at : Context) (sc : Scope) (covers : Covers sc at.declared) where
  simple_fits : (t : Simple) → IsSimple u may_declare at.in_loop t → TokensFit u (simple_tokens t) → Fits u at (simple_stmts t sc) (simple_scope t sc)
  simple_fits (tree.skip at') valid h = one_fits (skip at'.pos) (statement_of-Skip at'.pos) (record { target = tt; breaks = tt; results = tt; ints = tt; words = tt }) covers
  simple_fits (tree.set at' x is y end) valid h =
      set_fits u at at'.pos x sc (right_of y) h.0 (side_fits u y (fit_append u (side_tokens y) (mark semicolon end ∷ []) h.1.1).0) covers
  simple_fits (tree.set_element at' x o t c is y end) valid h =
      let first = fit_append u (e.tokens_of t) (mark square_close c ∷ mark equals is ∷ side_tokens y ++ (mark semicolon end ∷ [])) h.1.1 in
      let side = fit_append u (side_tokens y) (mark semicolon end ∷ []) first.1.1.1 in
      let index = tree_fits u t first.0 in
      let v = (stored at'.pos sc (right_of y)).value in
      after_stored u at at'.pos sc (right_of y) (stmt.SetElem at'.pos x (e.expr_of t) v) (side_fits u y side.0) covers
      (λ now covers value. one_fits (set_element at'.pos x (expression_of (e.expr_of t)) (expression_of v)) (statement_of-SetElem at'.pos x (e.expr_of t) v)
      (record { target = tt; breaks = tt; results = tt; ints = (index.ints, value.ints); words = (h.0, index.words, value.words) }) covers)
  simple_fits (tree.declaration int at' x is y end) valid h =
      let side = fit_append u (side_tokens y) (mark semicolon end ∷ []) h.1.1.1 in
      right_goes u at (declare sc x) int.pos (Fresh kind.Int x) (right_of y) (side_fits u y side.0) tt (names.word h.1.0) tt (covers_both sc at.declared x covers)
  simple_fits (tree.pointer int p is y end) valid h =
      let split = fit_append u (pointer_tokens p) (mark equals is ∷ side_tokens y ++ (mark semicolon end ∷ [])) h.1 in
      let side = fit_append u (side_tokens y) (mark semicolon end ∷ []) split.1.1 in
      right_goes u at (simple_scope (tree.pointer int p is y end) sc) int.pos (Fresh (kind.Fp (arity p)) p.name) (right_of y) (side_fits u y side.0) tt (names.word split.0.1.1.0) tt (covers_both sc at.declared p.name covers)
  simple_fits (tree.run c end) valid h =
      call_goes u at sc (call_pos c) Nowhere (call_of c) (call_fits u c (fit_append u (call_tokens c) (mark semicolon end ∷ []) h).0) tt tt covers
  simple_fits (tree.break_loop at' end) valid h = one_fits (break_loop at'.pos) (statement_of-Break at'.pos) (record { target = tt; breaks = valid; results = tt; ints = tt; words = tt }) covers
  simple_fits (tree.return_off at' end) valid h = one_fits (return_with at'.pos None) (statement_of-Return at'.pos None) (record { target = tt; breaks = tt; results = tt; ints = tt; words = tt }) covers
  simple_fits (tree.return_side at' y end) valid h =
      let side = fit_append u (side_tokens y) (mark semicolon end ∷ []) h.1 in
      let v = (stored at'.pos sc (right_of y)).value in
      after_stored u at at'.pos sc (right_of y) (stmt.Return at'.pos (Some v)) (side_fits u y side.0) covers
      (λ now covers value. one_fits (return_with at'.pos (Some (expression_of v))) (statement_of-Return at'.pos (Some v)) (record { target = tt; breaks = tt; results = tt; ints = value.ints; words = value.words }) covers)
  simple_fits (tree.assert_that at' c end) valid h =
      let cond = condition_fits u c (fit_append u (cond_tokens c) (mark semicolon end ∷ []) h.1).0 in
      one_fits (assert_that at'.pos (expression_of (e.expr_of c.tree))) (statement_of-Assert at'.pos (e.expr_of c.tree)) (record { target = tt; breaks = tt; results = tt; ints = cond.ints; words = cond.words }) covers
  simple_fits (tree.output at' c end) valid h =
      let cond = condition_fits u c (fit_append u (cond_tokens c) (mark semicolon end ∷ []) h.1).0 in
      one_fits (output at'.pos (expression_of (e.expr_of c.tree))) (statement_of-Output at'.pos (e.expr_of c.tree)) (record { target = tt; breaks = tt; results = tt; ints = cond.ints; words = cond.words }) covers
  simple_fits (tree.point at' o n k c end) valid h =
      one_fits (point at'.pos k) (statement_of-Point at'.pos k) (record { target = tt; breaks = tt; results = tt; ints = number_fits u k h.1.1.0; words = tt }) covers
  simple_fits (tree.force at' o c end) valid h = one_fits (force at'.pos) (statement_of-Force at'.pos) (record { target = tt; breaks = tt; results = tt; ints = tt; words = tt }) covers
  simple_fits (tree.pick at' o v uo uc c a el b) valid h =
      let split = fit_append u (pick_tokens a) (keyword else_key el ∷ pick_tokens b) h.1.1.1.1.1.1 in
      one_fits (pick at'.pos (statement_of (pick_stmt a)) (statement_of (pick_stmt b))) (statement_of-Pick at'.pos (pick_stmt a) (pick_stmt b))
      (record { target = (pick_quiet a, pick_quiet b); breaks = tt; results = tt; ints = tt; words = tt }, pick_fits u at a split.0, pick_fits u at b split.1.1) covers

-- ---- statements and bodies

mutual
  pub piece_fits : (u : Unit) (t : Piece) (may_declare : Bool) (at : Context) (sc : Scope) → Covers sc at.declared → IsPiece u may_declare at.in_loop t → TokensFit u (tokens t) → Fits u at (stmts t sc) (scope_after t sc)
  piece_fits u (tree.simple t) may_declare at sc covers valid h = simple_fits u may_declare at sc covers t valid h
  piece_fits u (tree.if_only at' c b) may_declare at sc covers valid h =
      let split = fit_append u (cond_tokens c) (body_tokens b) h.1 in
      let body = body_fits u b at sc covers valid.1 split.1 in
      let cond = condition_fits u c split.0 in
      one_fits (if_else at'.pos (expression_of (e.expr_of c.tree)) (body_of (body_stmts b sc)) (body_of [])) (statement_of-If at'.pos (e.expr_of c.tree) (body_stmts b sc) [])
      (record { target = tt; breaks = tt; results = tt; ints = cond.ints; words = cond.words }, body.fits, tt) body.covers
  piece_fits u (tree.if_else at' c b el n) may_declare at sc covers valid h =
      let split = fit_append u (cond_tokens c) (body_tokens b ++ (keyword else_key el ∷ body_tokens n)) h.1 in
      let bodies = fit_append u (body_tokens b) (keyword else_key el ∷ body_tokens n) split.1 in
      let body = body_fits u b at sc covers valid.1 bodies.0 in
      let other = body_fits u n (past_all at (body_of (body_stmts b sc))) (body_scope b sc) body.covers valid.3 bodies.1.1 in
      let cond = condition_fits u c split.0 in
      one_fits (if_else at'.pos (expression_of (e.expr_of c.tree)) (body_of (body_stmts b sc)) (body_of (body_stmts n (body_scope b sc)))) (statement_of-If at'.pos (e.expr_of c.tree) (body_stmts b sc) (body_stmts n (body_scope b sc)))
      (record { target = tt; breaks = tt; results = tt; ints = cond.ints; words = cond.words }, body.fits, other.fits) other.covers
  piece_fits u (tree.while_loop at' c b) may_declare at sc covers valid h =
      let split = fit_append u (cond_tokens c) (body_tokens b) h.1 in
      let body = body_fits u b (in_loop at) sc covers valid.1 split.1 in
      let cond = condition_fits u c split.0 in
      one_fits (while_loop at'.pos (expression_of (e.expr_of c.tree)) (body_of (body_stmts b sc))) (statement_of-While at'.pos (e.expr_of c.tree) (body_stmts b sc))
      (record { target = tt; breaks = tt; results = tt; ints = cond.ints; words = cond.words }, body.fits) body.covers

  body_fits : (u : Unit) (b : Body) (at : Context) (sc : Scope) → Covers sc at.declared → IsBody u at.in_loop b → TokensFit u (body_tokens b) → Fits u at (body_stmts b sc) (body_scope b sc)
  body_fits u (tree.single t) at sc covers valid h = piece_fits u t false at sc covers valid h
  body_fits u (tree.block o ts c) at sc covers valid h = pieces_fit u ts at sc covers valid (fit_append u (pieces_tokens ts) (mark brace_close c ∷ []) h.1).0

  pub pieces_fit : (u : Unit) (ts : Pieces) (at : Context) (sc : Scope) → Covers sc at.declared → ArePieces u at.in_loop ts → TokensFit u (pieces_tokens ts) → Fits u at (pieces_stmts ts sc) (pieces_scope ts sc)
  pieces_fit u tree.none at sc covers valid h = none_fit u at sc covers
  pieces_fit u (tree.next t ts) at sc covers valid h =
      let split = fit_append u (tokens t) (pieces_tokens ts) h in
      let first = piece_fits u t true at sc covers valid.0 split.0 in
      both_fit at (stmts t sc) (pieces_stmts ts (scope_after t sc)) (scope_after t sc) (pieces_scope ts (scope_after t sc)) first
      (pieces_fit u ts (past_all at (body_of (stmts t sc))) (scope_after t sc) first.covers valid.1 split.1)
