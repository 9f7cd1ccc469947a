-- What the grammar of statements has is read.
use Rattle.std.proofs.Common.{◌≡◌, ℕ, zero, suc, ◌+◌, ◌-◌, ◌<◌, ◌≤◌, max, Bool, true, false, List, [], ◌∷◌, ◌++◌, length, Option, Some, None, refl, sym, ap, ◌∙◌, subst, append_assoc, arith}
use Rattle.std.proofs.lemmas.List.{append-nil, length-append}
use Rattle.std.proofs.lemmas.Bool.{lt-ltb}
use Rattle.c_lang.specs.Names.{Bytes}
use Rattle.c_lang.specs.declared.unit.Unit.{Unit}
use Rattle.c_lang.specs.declared.expr.Expr.{Expr}
use Rattle.c_lang.specs.declared.stmt.Dest.TheVariants as dest
use Rattle.c_lang.specs.declared.stmt.Stmt.{Stmt}
use Rattle.c_lang.specs.declared.stmt.Stmt.TheVariants as s
use Rattle.c_grammar.specs.declared.token.Token.{Token}
use Rattle.c_grammar.specs.Tokens.{At, mark, keyword, round_open, round_close, brace_open, brace_close, square_close, semicolon, equals, else_key, dsu_updated_key}
use Rattle.c_grammar.specs.Scopes.{Scope, is_client}
use Rattle.c_expressions.specs.Code.ParseSteps.{◌>>=◌, after, after_key}
use Rattle.c_grammar.specs.Expressions.{Tree, tokens_of, expr_of, IsGrouped}
use Rattle.c_grammar.specs.Expressions as e
use Rattle.c_expressions.specs.Code.ExpressionReading.{expr}
use Rattle.c_grammar.specs.Statements as g
use Rattle.c_expressions.specs.Code.SideReading.{right_side, call_at, condition, pointer_at}
use Rattle.c_statements.specs.Code.StatementReading.{Read, made, assign, assign_element, run, keyword_stmt, named_stmt, initialized, declare_pointer, return_at, checked, point_at, force_at, One, end_one, one_at, side_of_pick, pick_at, chain, nothing, items_by, items, body_by, body, branch, repeat, stmt_at, stmt}
use Rattle.c_expressions.proofs.ExpressionComplete.{reads_all, found as found_expr}
use Rattle.c_expressions.proofs.SideComplete.{begins_so, args_again, found_call, call_again, found_side, side_again, cond_again, no_pick, pointer_again}

abbrev pub found : g.Piece → Scope → List Token → Read
found t sc rest = record { stmts = g.stmts t sc; height = g.height t; is_open = g.is_open t; scope = g.scope_after t sc; rest = rest }

abbrev pub found_simple : g.Simple → Scope → List Token → Read
found_simple t sc rest = made (g.simple_stmts t sc) (g.simple_height t) (g.simple_scope t sc) rest

abbrev pub found_body : g.Body → Scope → List Token → Read
found_body b sc rest = record { stmts = g.body_stmts b sc; height = g.body_height b; is_open = g.body_open b; scope = g.body_scope b sc; rest = rest }

abbrev pub NoElse : List Token → Type 0
NoElse rest = after_key else_key rest ≡ None

-- a right side and the semicolon behind it
side_end : (y : g.SideTree) (u : Unit) (d : ℕ) (end : At) (rest : List Token) → g.IsSide u y → g.side_height y ≤ d
    → right_side u d ((g.side_tokens y ++ mark semicolon end ∷ []) ++ rest) ≡ Some (found_side y (mark semicolon end ∷ rest))
side_end y u d end rest h high = ap (right_side u d) (append_assoc (g.side_tokens y) (mark semicolon end ∷ []) rest) ∙ side_again y u d end rest h high

side_starts : (y : g.SideTree) (u : Unit) (rest : List Token) → g.IsSide u y → after semicolon (g.side_tokens y ++ rest) ≡ None
side_starts (g.value t) u rest h = (begins_so t rest).no_end
side_starts (g.called (g.function c)) u rest h = refl
side_starts (g.called (g.input at o c)) u rest h = refl
side_starts (g.called (g.choice at o n k c)) u rest h = refl

-- ---- picks

abbrev pub found_one : g.OneTree → List Token → One
found_one x rest = record { stmt = g.one_stmt x; height = g.one_height x; rest = rest }

abbrev pub found_pick : g.PickTree → List Token → One
found_pick x rest = record { stmt = g.pick_stmt x; height = g.pick_height x; rest = rest }

function_end : (c : g.FunctionCall) (d : ℕ) (end : At) (rest : List Token) → g.AreArguments c.arguments → g.part_height c.arguments + 1 ≤ d
    → call_at d c.callee (((g.argument_tokens c.arguments ++ mark round_close c.closes ∷ []) ++ mark semicolon end ∷ []) ++ rest) ≡ Some (found_call (g.function c) (mark semicolon end ∷ rest))
function_end c d end rest h high =
    ap (call_at d c.callee) (append_assoc (g.argument_tokens c.arguments ++ mark round_close c.closes ∷ []) (mark semicolon end ∷ []) rest ∙ append_assoc (g.argument_tokens c.arguments) (mark round_close c.closes ∷ []) (mark semicolon end ∷ rest))
    ∙ args_again c.arguments d c.callee c.closes (mark semicolon end ∷ rest) h high

one_again : (x : g.OneTree) (d : ℕ) (rest : List Token) → g.IsOne x → g.one_height x ≤ d + 1 → one_at d (g.one_tokens x ++ rest) ≡ Some (found_one x rest)
unfolding one_at
one_again (g.ignored c end) d rest h high = ap (end_one c.at.pos dest.Nowhere) (function_end c d end rest h (omega arith))
one_again (g.kept at x is c end) d rest h high = ap (end_one at.pos (dest.Into x)) (function_end c d end rest h (omega arith))

no_brace : (x : g.OneTree) (rest : List Token) → after brace_open (g.one_tokens x ++ rest) ≡ None
no_brace (g.ignored c end) rest = refl
no_brace (g.kept at x is c end) rest = refl

pick_again : (x : g.PickTree) (d : ℕ) (rest : List Token) → g.IsPick x → g.pick_height x ≤ d + 1 → side_of_pick d (g.pick_tokens x ++ rest) ≡ Some (found_pick x rest)
unfolding side_of_pick
pick_again (g.bare x) d rest h high = rw (no_brace x rest) (one_again x d rest h high)
pick_again (g.braced o x c) d rest h high =
    let inside : one_at d ((g.one_tokens x ++ mark brace_close c ∷ []) ++ rest) ≡ Some (found_one x (mark brace_close c ∷ rest)) = ap (one_at d) (append_assoc (g.one_tokens x) (mark brace_close c ∷ []) rest) ∙ one_again x d (mark brace_close c ∷ rest) h high in
    rw inside refl

part_low : (a : g.Arguments) → 1 ≤ g.part_height a
part_low g.nothing = omega arith
part_low (g.given ts) = omega arith

one_low : (x : g.OneTree) → 3 ≤ g.one_height x
one_low (g.ignored c end) = omega (arith, part_low c.arguments)
one_low (g.kept at x is c end) = omega (arith, part_low c.arguments)

pick_low : (x : g.PickTree) → 3 ≤ g.pick_height x
pick_low (g.bare x) = one_low x
pick_low (g.braced o x c) = one_low x

picks_again : (u : Unit) (d : ℕ) (at uo uc c el : At) (a b : g.PickTree) (sc : Scope) (rest : List Token) → is_client u ≡ true → g.IsPick a → g.IsPick b → max (g.pick_height a) (g.pick_height b) ≤ d
    → pick_at u d at.pos sc ((mark round_open uo ∷ mark round_close uc ∷ mark round_close c ∷ g.pick_tokens a ++ (keyword else_key el ∷ g.pick_tokens b)) ++ rest)
    ≡ Some (made (s.Pick at.pos (g.pick_stmt a) (g.pick_stmt b) ∷ []) (max (g.pick_height a) (g.pick_height b) + 1) sc rest)
unfolding pick_at
picks_again u d at uo uc c el a b sc rest client ha hb high =
    let low : 3 ≤ d = omega (arith, pick_low a) in
    let lt : 2 < d = omega arith in
    let k = keyword else_key el in
    let first : side_of_pick (d - 1) ((g.pick_tokens a ++ (k ∷ g.pick_tokens b)) ++ rest) ≡ Some (found_pick a (k ∷ (g.pick_tokens b ++ rest))) =
    ap (side_of_pick (d - 1)) (append_assoc (g.pick_tokens a) (k ∷ g.pick_tokens b) rest) ∙ pick_again a (d - 1) (k ∷ (g.pick_tokens b ++ rest)) ha (omega arith) in
    let second = pick_again b (d - 1) rest hb (omega arith) in
    rw (client, lt-ltb _ _ lt, first, second) refl

-- ---- statements without bodies

module _ (inner : Bool → Bool → Scope → List Token → Option Read) (d : ℕ) (u : Unit) where
  abbrev Again : Bool → Bool → g.Simple → Type 0
  Again m l t = (sc : Scope) (rest : List Token) → stmt_at inner d u m l sc (g.simple_tokens t ++ rest) ≡ Some (found_simple t sc rest)

  set_again : (m l : Bool) (at is end : At) (x : Bytes) (y : g.SideTree) → g.IsSide u y → g.side_height y ≤ d → Again m l (g.set at x is y end)
  unfolding stmt_at named_stmt assign
  set_again m l at is end x y h high sc rest = rw (side_end y u d end rest h high) refl

  set_element_again : (m l : Bool) (at o c is end : At) (x : Bytes) (t : Tree) (y : g.SideTree) → IsGrouped t → g.IsSide u y → max (e.height t) (g.side_height y) ≤ d → Again m l (g.set_element at x o t c is y end)
  unfolding stmt_at named_stmt assign_element
  set_element_again m l at o c is end x t y ht hy high sc rest =
      let z = g.side_tokens y ++ mark semicolon end ∷ [] in
      let k = mark square_close c in
      let index : expr d 1 ((tokens_of t ++ (k ∷ mark equals is ∷ z)) ++ rest) ≡ Some (found_expr t (k ∷ mark equals is ∷ (z ++ rest))) =
      ap (expr d 1) (append_assoc (tokens_of t) (k ∷ mark equals is ∷ z) rest) ∙ reads_all t d (k ∷ mark equals is ∷ (z ++ rest)) ht (omega arith) refl refl in
      rw (index, side_end y u d end rest hy (omega arith)) refl

  declaration_again : (l : Bool) (int at is end : At) (x : Bytes) (y : g.SideTree) → g.IsSide u y → g.side_height y ≤ d → Again true l (g.declaration int at x is y end)
  unfolding stmt_at initialized
  declaration_again l int at is end x y h high sc rest = rw (side_end y u d end rest h high) refl

  local_pointer_again : (l : Bool) (int is end : At) (p : g.PointerTree) (y : g.SideTree) → g.IsSide u y → g.side_height y ≤ d → Again true l (g.pointer int p is y end)
  unfolding stmt_at declare_pointer initialized
  local_pointer_again l int is end p y h high sc rest =
      let z = g.side_tokens y ++ mark semicolon end ∷ [] in
      let head : pointer_at ((g.pointer_tokens p ++ (mark equals is ∷ z)) ++ rest) ≡ Some (record { name = p.name; arity = g.arity p; rest = mark equals is ∷ (z ++ rest) }) =
      ap pointer_at (append_assoc (g.pointer_tokens p) (mark equals is ∷ z) rest) ∙ pointer_again p (mark equals is ∷ (z ++ rest)) in
      rw (head, side_end y u d end rest h high) refl

  run_again : (m l : Bool) (c : g.CallTree) (end : At) → g.IsCall u c → g.call_height c ≤ d → Again m l (g.run c end)
  unfolding stmt_at named_stmt keyword_stmt
  run_again m l (g.function c) end h high sc rest = ap (run c.at.pos sc) (function_end c d end rest h high)
  run_again m l (g.input at o c) end h high sc rest = ap (run at.pos sc) (call_again (g.input at o c) u d (mark semicolon end ∷ rest) h high)
  run_again m l (g.choice at o n k c) end h high sc rest = ap (run at.pos sc) (call_again (g.choice at o n k c) u d (mark semicolon end ∷ rest) h high)

  return_again : (m l : Bool) (at end : At) (y : g.SideTree) → g.IsSide u y → g.side_height y ≤ d → Again m l (g.return_side at y end)
  unfolding stmt_at return_at keyword_stmt
  return_again m l at end y h high sc rest =
      let z = mark semicolon end ∷ [] in
      let none : after semicolon ((g.side_tokens y ++ z) ++ rest) ≡ None = ap (after semicolon) (append_assoc (g.side_tokens y) z rest) ∙ side_starts y u (mark semicolon end ∷ rest) h in
      rw (none, side_end y u d end rest h high) refl

  checked_again : (f : Expr → Stmt) (c : g.CondTree) (end : At) (sc : Scope) (rest : List Token) → IsGrouped c.tree → e.height c.tree ≤ d
      → checked f d sc ((g.cond_tokens c ++ mark semicolon end ∷ []) ++ rest) ≡ Some (made (f (expr_of c.tree) ∷ []) (e.height c.tree + 1) sc rest)
  unfolding checked
  checked_again f c end sc rest h high =
      let head : condition d ((g.cond_tokens c ++ mark semicolon end ∷ []) ++ rest) ≡ Some (found_expr c.tree (mark semicolon end ∷ rest)) = ap (condition d) (append_assoc (g.cond_tokens c) (mark semicolon end ∷ []) rest) ∙ cond_again c d (mark semicolon end ∷ rest) h high in
      rw head refl

  pub simple_again : (m l : Bool) (t : g.Simple) → g.IsSimple u m l t → g.simple_height t ≤ suc d → Again m l t
  unfolding stmt_at return_at point_at force_at keyword_stmt
  simple_again m l (g.skip at) h high sc rest = refl
  simple_again m l (g.set at x is y end) h high sc rest = set_again m l at is end x y h (omega arith) sc rest
  simple_again m l (g.set_element at x o t c is y end) h high sc rest = set_element_again m l at o c is end x t y h.0 h.1 (omega arith) sc rest
  simple_again m l (g.declaration int at x is y end) h high sc rest =
      subst (λ (v : Bool). stmt_at inner d u v l sc (g.simple_tokens (g.declaration int at x is y end) ++ rest) ≡ Some (found_simple (g.declaration int at x is y end) sc rest)) (sym h.0) (declaration_again l int at is end x y h.1 (omega arith) sc rest)
  simple_again m l (g.pointer int p is y end) h high sc rest =
      subst (λ (v : Bool). stmt_at inner d u v l sc (g.simple_tokens (g.pointer int p is y end) ++ rest) ≡ Some (found_simple (g.pointer int p is y end) sc rest)) (sym h.0) (local_pointer_again l int is end p y h.1 (omega arith) sc rest)
  simple_again m l (g.run c end) h high sc rest = run_again m l c end h (omega arith) sc rest
  simple_again m l (g.break_loop at end) h high sc rest = rw h refl
  simple_again m l (g.return_off at end) h high sc rest = refl
  simple_again m l (g.return_side at y end) h high sc rest = return_again m l at end y h (omega arith) sc rest
  simple_again m l (g.assert_that at c end) h high sc rest = checked_again (s.Assert at.pos) c end sc rest h (omega arith)
  simple_again m l (g.output at c end) h high sc rest = checked_again (s.Output at.pos) c end sc rest h (omega arith)
  simple_again m l (g.point at o n k c end) h high sc rest = let lt : 0 < d = omega arith in rw (h, lt-ltb _ _ lt) refl
  simple_again m l (g.force at o c end) h high sc rest = rw h refl
  simple_again m l (g.pick at o v uo uc c a el b) h high sc rest = picks_again u d at uo uc c el a b sc rest h.0 h.1 h.2 (omega arith)

  -- ---- statements with bodies

  only_again : (m l : Bool) (at : At) (c : g.CondTree) (b : g.Body) (sc : Scope) (rest : List Token) → IsGrouped c.tree → e.height c.tree ≤ d → NoElse rest
      → body inner d l sc (g.body_tokens b ++ rest) ≡ Some (found_body b sc rest) → stmt_at inner d u m l sc (g.tokens (g.if_only at c b) ++ rest) ≡ Some (found (g.if_only at c b) sc rest)
  unfolding stmt_at branch
  only_again m l at c b sc rest h high free i =
      let head : condition d ((g.cond_tokens c ++ g.body_tokens b) ++ rest) ≡ Some (found_expr c.tree (g.body_tokens b ++ rest)) = ap (condition d) (append_assoc (g.cond_tokens c) (g.body_tokens b) rest) ∙ cond_again c d (g.body_tokens b ++ rest) h high in
      let plain : after_key dsu_updated_key (((tokens_of c.tree ++ mark round_close c.closes ∷ []) ++ g.body_tokens b) ++ rest) ≡ None = ap (after_key dsu_updated_key) (append_assoc (tokens_of c.tree ++ mark round_close c.closes ∷ []) (g.body_tokens b) rest) ∙ no_pick c (g.body_tokens b ++ rest) in
      rw (plain, head, i, free) refl

  else_again : (m l : Bool) (at el : At) (c : g.CondTree) (b n : g.Body) (sc : Scope) (rest : List Token) → IsGrouped c.tree → e.height c.tree ≤ d
      → body inner d l sc (g.body_tokens b ++ keyword else_key el ∷ (g.body_tokens n ++ rest)) ≡ Some (found_body b sc (keyword else_key el ∷ (g.body_tokens n ++ rest)))
      → body inner d l (g.body_scope b sc) (g.body_tokens n ++ rest) ≡ Some (found_body n (g.body_scope b sc) rest)
      → stmt_at inner d u m l sc (g.tokens (g.if_else at c b el n) ++ rest) ≡ Some (found (g.if_else at c b el n) sc rest)
  unfolding stmt_at branch
  else_again m l at el c b n sc rest h high i j =
      let k = keyword else_key el in
      let split : (g.cond_tokens c ++ (g.body_tokens b ++ (k ∷ g.body_tokens n))) ++ rest ≡ g.cond_tokens c ++ (g.body_tokens b ++ k ∷ (g.body_tokens n ++ rest)) =
      append_assoc (g.cond_tokens c) (g.body_tokens b ++ (k ∷ g.body_tokens n)) rest ∙ ap (λ (x : List Token). g.cond_tokens c ++ x) (append_assoc (g.body_tokens b) (k ∷ g.body_tokens n) rest) in
      let head : condition d ((g.cond_tokens c ++ (g.body_tokens b ++ (k ∷ g.body_tokens n))) ++ rest) ≡ Some (found_expr c.tree (g.body_tokens b ++ k ∷ (g.body_tokens n ++ rest))) = ap (condition d) split ∙ cond_again c d (g.body_tokens b ++ k ∷ (g.body_tokens n ++ rest)) h high in
      let z = tokens_of c.tree ++ mark round_close c.closes ∷ [] in
      let plain : after_key dsu_updated_key ((z ++ (g.body_tokens b ++ (k ∷ g.body_tokens n))) ++ rest) ≡ None = ap (after_key dsu_updated_key) (append_assoc z (g.body_tokens b ++ (k ∷ g.body_tokens n)) rest) ∙ no_pick c ((g.body_tokens b ++ (k ∷ g.body_tokens n)) ++ rest) in
      rw (plain, head, i, j) refl

  while_again : (m l : Bool) (at : At) (c : g.CondTree) (b : g.Body) (sc : Scope) (rest : List Token) → IsGrouped c.tree → e.height c.tree ≤ d
      → body inner d true sc (g.body_tokens b ++ rest) ≡ Some (found_body b sc rest) → stmt_at inner d u m l sc (g.tokens (g.while_loop at c b) ++ rest) ≡ Some (found (g.while_loop at c b) sc rest)
  unfolding stmt_at repeat
  while_again m l at c b sc rest h high i =
      let head : condition d ((g.cond_tokens c ++ g.body_tokens b) ++ rest) ≡ Some (found_expr c.tree (g.body_tokens b ++ rest)) = ap (condition d) (append_assoc (g.cond_tokens c) (g.body_tokens b) rest) ∙ cond_again c d (g.body_tokens b ++ rest) h high in
      rw (head, i) refl

-- how a statement begins
record Opens (ts : List Token) : Type 0 where
  no_brace : after brace_open ts ≡ None
  no_end : after brace_close ts ≡ None
  no_else : NoElse ts

simple_opens : (t : g.Simple) (rest : List Token) → Opens (g.simple_tokens t ++ rest)
simple_opens (g.skip at) rest = record { no_brace = refl; no_end = refl; no_else = refl }
simple_opens (g.set at x is y end) rest = record { no_brace = refl; no_end = refl; no_else = refl }
simple_opens (g.set_element at x o t c is y end) rest = record { no_brace = refl; no_end = refl; no_else = refl }
simple_opens (g.declaration int at x is y end) rest = record { no_brace = refl; no_end = refl; no_else = refl }
simple_opens (g.pointer int p is y end) rest = record { no_brace = refl; no_end = refl; no_else = refl }
simple_opens (g.run (g.function c) end) rest = record { no_brace = refl; no_end = refl; no_else = refl }
simple_opens (g.run (g.input at o c) end) rest = record { no_brace = refl; no_end = refl; no_else = refl }
simple_opens (g.run (g.choice at o n k c) end) rest = record { no_brace = refl; no_end = refl; no_else = refl }
simple_opens (g.break_loop at end) rest = record { no_brace = refl; no_end = refl; no_else = refl }
simple_opens (g.return_off at end) rest = record { no_brace = refl; no_end = refl; no_else = refl }
simple_opens (g.return_side at y end) rest = record { no_brace = refl; no_end = refl; no_else = refl }
simple_opens (g.assert_that at c end) rest = record { no_brace = refl; no_end = refl; no_else = refl }
simple_opens (g.output at c end) rest = record { no_brace = refl; no_end = refl; no_else = refl }
simple_opens (g.point at o n k c end) rest = record { no_brace = refl; no_end = refl; no_else = refl }
simple_opens (g.force at o c end) rest = record { no_brace = refl; no_end = refl; no_else = refl }
simple_opens (g.pick at o v uo uc c a el b) rest = record { no_brace = refl; no_end = refl; no_else = refl }

opens : (t : g.Piece) (rest : List Token) → Opens (g.tokens t ++ rest)
opens (g.simple t) rest = simple_opens t rest
opens (g.if_only at c b) rest = record { no_brace = refl; no_end = refl; no_else = refl }
opens (g.if_else at c b el n) rest = record { no_brace = refl; no_end = refl; no_else = refl }
opens (g.while_loop at c b) rest = record { no_brace = refl; no_end = refl; no_else = refl }

next_no_else : (ts : g.Pieces) (close : At) (rest : List Token) → NoElse (g.pieces_tokens ts ++ mark brace_close close ∷ rest)
next_no_else g.none close rest = refl
next_no_else (g.next t ts) close rest = ap (after_key else_key) (append_assoc (g.tokens t) (g.pieces_tokens ts) (mark brace_close close ∷ rest)) ∙ (opens t (g.pieces_tokens ts ++ mark brace_close close ∷ rest)).no_else

abbrev pub count : g.Pieces → ℕ
count g.none = 0
count (g.next t ts) = suc (count ts)

some_simple : (t : g.Simple) → 1 ≤ length (g.simple_tokens t)
some_simple (g.skip at) = omega arith
some_simple (g.set at x is y end) = omega arith
some_simple (g.set_element at x o t c is y end) = omega arith
some_simple (g.declaration int at x is y end) = omega arith
some_simple (g.pointer int p is y end) = omega arith
some_simple (g.run (g.function c) end) = omega arith
some_simple (g.run (g.input at o c) end) = omega arith
some_simple (g.run (g.choice at o n k c) end) = omega arith
some_simple (g.break_loop at end) = omega arith
some_simple (g.return_off at end) = omega arith
some_simple (g.return_side at y end) = omega arith
some_simple (g.assert_that at c end) = omega arith
some_simple (g.output at c end) = omega arith
some_simple (g.point at o n k c end) = omega arith
some_simple (g.force at o c end) = omega arith
some_simple (g.pick at o v uo uc c a el b) = omega arith

some_tokens : (t : g.Piece) → 1 ≤ length (g.tokens t)
some_tokens (g.simple t) = some_simple t
some_tokens (g.if_only at c b) = omega arith
some_tokens (g.if_else at c b el n) = omega arith
some_tokens (g.while_loop at c b) = omega arith

pub count_fits : (ts : g.Pieces) → count ts ≤ length (g.pieces_tokens ts)
count_fits g.none = omega arith
count_fits (g.next t ts) = omega (arith, count_fits ts, some_tokens t, length-append (g.tokens t) (g.pieces_tokens ts))

-- what was read before, and these
abbrev pub added : Read → g.Pieces → List Token → Read
added acc ts rest = made (acc.stmts ++ g.pieces_stmts ts acc.scope) (max acc.height (g.pieces_height ts)) (g.pieces_scope ts acc.scope) rest

abbrev pub at_rest : Read → List Token → Read
at_rest acc rest = record { stmts = acc.stmts; height = acc.height; is_open = acc.is_open; scope = acc.scope; rest = rest }

-- the fields that depend on what was added
abbrev ended : Scope → List Token → List Stmt → ℕ → Option Read
ended sc rest stmts high = Some (made stmts high sc rest)

module _ (inner : Bool → Bool → Scope → List Token → Option Read) (d : ℕ) (l : Bool) where
  end_again : (k : ℕ) (acc : Read) (close : At) (rest : List Token) → items inner d (suc k) l (at_rest acc (mark brace_close close ∷ rest)) ≡ Some (added acc g.none rest)
  unfolding items
  end_again k acc close rest = ap (λ (x : List Stmt). ended acc.scope rest x acc.height) (sym (append-nil acc.stmts)) ∙ ap (λ (n : ℕ). ended acc.scope rest (acc.stmts ++ []) n) (omega arith)

  more_again : (k : ℕ) (acc : Read) (t : g.Piece) (ts : g.Pieces) (tail rest : List Token) → inner true l acc.scope (g.tokens t ++ tail) ≡ Some (found t acc.scope tail)
      → items inner d k l (at_rest (chain acc (found t acc.scope tail)) tail) ≡ Some (added (chain acc (found t acc.scope tail)) ts rest)
      → items inner d (suc k) l (at_rest acc (g.tokens t ++ tail)) ≡ Some (added acc (g.next t ts) rest)
  unfolding items
  more_again k acc t ts tail rest i others =
      ap (items_by inner d (items inner d k l) l (at_rest acc (g.tokens t ++ tail))) ((opens t tail).no_end)
      ∙ ap (λ (r : Option Read). r >>= λ x. items inner d k l (chain (at_rest acc (g.tokens t ++ tail)) x)) i
      ∙ others
      ∙ ap (λ (x : List Stmt). ended (g.pieces_scope ts (g.scope_after t acc.scope)) rest x (max (max acc.height (g.height t)) (g.pieces_height ts))) (append_assoc acc.stmts (g.stmts t acc.scope) (g.pieces_stmts ts (g.scope_after t acc.scope)))
      ∙ ap (λ (n : ℕ). ended (g.pieces_scope ts (g.scope_after t acc.scope)) rest (acc.stmts ++ (g.stmts t acc.scope ++ g.pieces_stmts ts (g.scope_after t acc.scope))) n) (omega arith)

  block_again : (o c : At) (ts : g.Pieces) (sc : Scope) (rest : List Token)
      → ((k : ℕ) → count ts < k → items inner d k l (nothing sc (g.pieces_tokens ts ++ mark brace_close c ∷ rest)) ≡ Some (added (nothing sc []) ts rest))
      → body inner d l sc (g.body_tokens (g.block o ts c) ++ rest) ≡ Some (found_body (g.block o ts c) sc rest)
  unfolding body
  block_again o c ts sc rest i =
      let z = mark brace_close c in
      let split = append_assoc (g.pieces_tokens ts) (z ∷ []) rest in
      let all = i (length (g.pieces_tokens ts ++ z ∷ rest) + 1) (omega (arith, count_fits ts, length-append (g.pieces_tokens ts) (z ∷ rest))) in
      ap (λ (x : List Token). items inner d (length x + 1) l (nothing sc x)) split ∙ all ∙ ap (λ (n : ℕ). ended (g.pieces_scope ts sc) rest (g.pieces_stmts ts sc) n) (omega arith)

  single_again : (t : g.Piece) (sc : Scope) (rest : List Token) → inner false l sc (g.tokens t ++ rest) ≡ Some (found t sc rest) → body inner d l sc (g.tokens t ++ rest) ≡ Some (found t sc rest)
  unfolding body
  single_again t sc rest i = ap (body_by inner d l sc (g.tokens t ++ rest)) ((opens t rest).no_brace) ∙ i

simple_positive : (t : g.Simple) → 1 ≤ g.simple_height t
simple_positive (g.skip at) = omega arith
simple_positive (g.set at x is y end) = omega arith
simple_positive (g.set_element at x o t c is y end) = omega arith
simple_positive (g.declaration int at x is y end) = omega arith
simple_positive (g.pointer int p is y end) = omega arith
simple_positive (g.run c end) = omega arith
simple_positive (g.break_loop at end) = omega arith
simple_positive (g.return_off at end) = omega arith
simple_positive (g.return_side at y end) = omega arith
simple_positive (g.assert_that at c end) = omega arith
simple_positive (g.output at c end) = omega arith
simple_positive (g.point at o n k c end) = omega arith
simple_positive (g.force at o c end) = omega arith
simple_positive (g.pick at o v uo uc c a el b) = omega arith

height_positive : (t : g.Piece) → 1 ≤ g.height t
height_positive (g.simple t) = simple_positive t
height_positive (g.if_only at c b) = omega arith
height_positive (g.if_else at c b el n) = omega arith
height_positive (g.while_loop at c b) = omega arith

-- what the grammar has is read
mutual
  unfolding stmt

  pub reads_piece : (t : g.Piece) (u : Unit) (d : ℕ) (m l : Bool) (sc : Scope) (rest : List Token) → g.IsPiece u m l t → g.height t ≤ d → (g.is_open t ≡ true → NoElse rest) → stmt u d m l sc (g.tokens t ++ rest) ≡ Some (found t sc rest)
  reads_piece t u zero m l sc rest h high free = let never : ⊥ = omega (arith, height_positive t) in absurd never
  reads_piece (g.simple t) u (suc d) m l sc rest h high free = simple_again (stmt u d) d u m l t h high sc rest
  reads_piece (g.if_only at c b) u (suc d) m l sc rest h high free =
      only_again (stmt u d) d u m l at c b sc rest h.0 (omega arith) (free refl) (reads_body b u d l sc rest h.1 (omega arith) (λ x. free refl))
  reads_piece (g.if_else at c b el n) u (suc d) m l sc rest h high free =
      else_again (stmt u d) d u m l at el c b n sc rest h.0 (omega arith)
      (reads_body b u d l sc (keyword else_key el ∷ (g.body_tokens n ++ rest)) h.1 (omega arith) (λ x. let f = h.2 in absurd cc))
      (reads_body n u d l (g.body_scope b sc) rest h.3 (omega arith) free)
  reads_piece (g.while_loop at c b) u (suc d) m l sc rest h high free = while_again (stmt u d) d u m l at c b sc rest h.0 (omega arith) (reads_body b u d true sc rest h.1 (omega arith) free)

  pub reads_body : (b : g.Body) (u : Unit) (d : ℕ) (l : Bool) (sc : Scope) (rest : List Token) → g.IsBody u l b → g.body_height b ≤ d → (g.body_open b ≡ true → NoElse rest) → body (stmt u d) d l sc (g.body_tokens b ++ rest) ≡ Some (found_body b sc rest)
  reads_body (g.single t) u d l sc rest h high free = single_again (stmt u d) d l t sc rest (reads_piece t u d false l sc rest h high free)
  reads_body (g.block o ts c) u d l sc rest h high free = block_again (stmt u d) d l o c ts sc rest (λ k lt. reads_pieces ts u d k l (nothing sc []) c rest h high lt)

  pub reads_pieces : (ts : g.Pieces) (u : Unit) (d k : ℕ) (l : Bool) (acc : Read) (c : At) (rest : List Token) → g.ArePieces u l ts → g.pieces_height ts ≤ d → count ts < k → items (stmt u d) d k l (at_rest acc (g.pieces_tokens ts ++ mark brace_close c ∷ rest)) ≡ Some (added acc ts rest)
  reads_pieces ts u d zero l acc c rest h high lt = let never : ⊥ = omega arith in absurd never
  reads_pieces g.none u d (suc k) l acc c rest h high lt = end_again (stmt u d) d l k acc c rest
  reads_pieces (g.next t ts) u d (suc k) l acc c rest h high lt =
      let tail = g.pieces_tokens ts ++ mark brace_close c ∷ rest in
      ap (λ (x : List Token). items (stmt u d) d (suc k) l (at_rest acc x)) (append_assoc (g.tokens t) (g.pieces_tokens ts) (mark brace_close c ∷ rest))
      ∙ more_again (stmt u d) d l k acc t ts tail rest (reads_piece t u d true l acc.scope tail h.0 (omega arith) (λ x. next_no_else ts c rest))
      (reads_pieces ts u d k l (chain acc (found t acc.scope tail)) c rest h.1 (omega arith) (omega arith))
