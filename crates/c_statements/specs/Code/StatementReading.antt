-- Reading statements from a list of tokens.
use Rattle.std.specs.Prelude.{ℕ, zero, suc, ◌+◌, ◌-◌, max, nat_lt, Bool, true, false, if◌then◌else◌, ◌==◌, List, [], ◌∷◌, ◌++◌, length, Option, Some, None}
use Rattle.c_lang.specs.Names.{Bytes}
use Rattle.c_lang.specs.declared.unit.Unit.{Unit}
use Rattle.c_lang.specs.declared.unit.Pos.{Pos}
use Rattle.c_lang.specs.declared.expr.Expr.{Expr}
use Rattle.c_lang.specs.declared.stmt.Kind.{Kind}
use Rattle.c_lang.specs.declared.stmt.Kind.TheVariants as kind
use Rattle.c_lang.specs.declared.stmt.Dest.{Dest}
use Rattle.c_lang.specs.declared.stmt.Dest.TheVariants as dest
use Rattle.c_lang.specs.declared.stmt.Stmt.{Stmt}
use Rattle.c_lang.specs.declared.stmt.Stmt.TheVariants as s
use Rattle.c_grammar.specs.declared.token.Token.{Token}
use Rattle.c_grammar.specs.declared.token.Word.{Word}
use Rattle.c_grammar.specs.declared.token.Word.TheVariants as w
use Rattle.c_grammar.specs.Tokens.{round_open, round_close, brace_open, brace_close, square_open, square_close, semicolon, equals, assert_key, break_key, client_in_key, client_out_key, dsu_choice_key, dsu_force_key, dsu_update_key, dsu_updated_key, else_key, if_key, int_key, return_key, while_key}
use Rattle.c_expressions.specs.Code.ParseSteps.{◌>>=◌, after, after_key, named, name_at, number_at, choose}
use Rattle.c_expressions.specs.Code.ExpressionReading.{Found, expr}
use Rattle.c_expressions.specs.Code.SideReading.{Called, call_at, input_at, choice_at, right_side, condition, pointer_at}
use Rattle.c_grammar.specs.Scopes.{Scope, declare, refuse_arity, is_merge, is_client}
use Rattle.c_grammar.specs.Statements.{right_to, call_to, stored, set_stmts, set_scope, element_stmts, return_stmts}

-- ---- statements

-- what was read: the statements that it becomes, and whether it ends in an `if` without `else`
pub record Read : Type 0 where
  pub stmts : List Stmt
  pub height : ℕ
  pub is_open : Bool
  pub scope : Scope
  pub rest : List Token

abbrev pub made : List Stmt → ℕ → Scope → List Token → Read
made stmts height scope rest = record { stmts = stmts; height = height; is_open = false; scope = scope; rest = rest }

-- up to the semicolon
abbrev pub done : List Stmt → ℕ → Scope → List Token → Option Read
done stmts height scope ts = after semicolon ts >>= λ rest. Some (made stmts height scope rest)

unfoldable pub assign : Unit → ℕ → Pos → Bytes → Scope → List Token → Option Read
assign u d p x sc ts = right_side u d ts >>= λ y. done (set_stmts p x sc y.right) (y.height + 1) (set_scope p x sc y.right) y.rest

unfoldable pub assign_element : Unit → ℕ → Pos → Bytes → Scope → List Token → Option Read
assign_element u d p x sc ts = do
  i ← expr d 1 ts
  a ← after square_close i.rest
  b ← after equals a
  y ← right_side u d b
  done (element_stmts p x i.expr sc y.right) (max i.height y.height + 1) (stored p sc y.right).scope y.rest

abbrev pub run : Pos → Scope → Option Called → Option Read
run p sc c = c >>= λ x. done (call_to p dest.Nowhere x.call ∷ []) (x.height + 1) sc x.rest

abbrev pub named_by : Unit → ℕ → Pos → Bytes → Scope → Word → List Token → Option Read
named_by u d p x sc (w.Punct k) ts =
    choose k ((equals, assign u d p x sc ts) ∷ (square_open, assign_element u d p x sc ts) ∷ (round_open, run p sc (call_at d x ts)) ∷ [])
named_by u d p x sc _ ts = None

unfoldable pub named_stmt : Unit → ℕ → Pos → Bytes → Scope → List Token → Option Read
named_stmt u d p x sc [] = None
named_stmt u d p x sc (t ∷ ts) = named_by u d p x sc t.what ts

-- behind the name that is declared
unfoldable pub initialized : Unit → ℕ → Pos → Kind → Bytes → Scope → List Token → Option Read
initialized u d p k x sc ts = do
  a ← after equals ts
  y ← right_side u d a
  done (right_to p (dest.Fresh k x) y.right ∷ []) (y.height + 1) (declare sc x) y.rest

unfoldable pub declare_pointer : Unit → ℕ → Pos → Scope → List Token → Option Read
declare_pointer u d p sc ts = pointer_at ts >>= λ f. initialized u d p (kind.Fp f.arity) f.name (refuse_arity sc p f.arity) f.rest

abbrev pub declaration_by : Unit → ℕ → Pos → Scope → List Token → Option (Bytes × List Token) → Option Read
declaration_by u d p sc ts (Some x) = initialized u d p kind.Int x.0 sc x.1
declaration_by u d p sc ts None = declare_pointer u d p sc ts

-- behind the `int`
abbrev pub declaration : Unit → ℕ → Pos → Scope → List Token → Option Read
declaration u d p sc ts = declaration_by u d p sc ts (name_at ts)

abbrev pub return_by : Unit → ℕ → Pos → Scope → List Token → Option (List Token) → Option Read
return_by u d p sc ts (Some rest) = Some (made (s.Return p None ∷ []) 1 sc rest)
return_by u d p sc ts None = right_side u d ts >>= λ y. done (return_stmts p sc y.right) (y.height + 1) (stored p sc y.right).scope y.rest

unfoldable pub return_at : Unit → ℕ → Pos → Scope → List Token → Option Read
return_at u d p sc ts = return_by u d p sc ts (after semicolon ts)

unfoldable pub checked : (Expr → Stmt) → ℕ → Scope → List Token → Option Read
checked f d sc ts = condition d ts >>= λ c. done (f c.expr ∷ []) (c.height + 1) sc c.rest

unfoldable pub point_at : Unit → ℕ → Pos → Scope → List Token → Option Read
point_at u d p sc ts = if is_merge u then None else
    (if nat_lt 0 d then
    (after round_open ts >>= λ a. number_at a >>= λ n. after round_close n.1 >>= λ b. done (s.Point p n.0 ∷ []) 2 sc b)
    else None)

unfoldable pub force_at : Unit → Pos → Scope → List Token → Option Read
force_at u p sc ts = if is_client u then
    (after round_open ts >>= λ a. after round_close a >>= λ b. done (s.Force p ∷ []) 1 sc b)
    else None

-- ---- picks

pub record One : Type 0 where
  pub stmt : Stmt
  pub height : ℕ
  pub rest : List Token

abbrev pub end_one : Pos → Dest → Option Called → Option One
end_one p d c = c >>= λ x. after semicolon x.rest >>= λ rest. Some (record { stmt = call_to p d x.call; height = x.height + 1; rest = rest })

abbrev pub call_behind : ℕ → Bytes → List Token → Option Called
call_behind d f ts = after round_open ts >>= λ inside. call_at d f inside

abbrev pub one_by : ℕ → Pos → Bytes → List Token → Option (List Token) → Option One
one_by d p x ts None = end_one p dest.Nowhere (call_behind d x ts)
one_by d p x ts (Some rest) = name_at rest >>= λ f. end_one p (dest.Into x) (call_behind d f.0 f.1)

unfoldable pub one_at : ℕ → List Token → Option One
one_at d [] = None
one_at d (t ∷ ts) = named t.what >>= λ x. one_by d t.pos x ts (after equals ts)

abbrev pub side_of_pick_by : ℕ → List Token → Option (List Token) → Option One
side_of_pick_by d ts None = one_at d ts
side_of_pick_by d ts (Some inside) = one_at d inside >>= λ x. after brace_close x.rest >>= λ rest. Some (record { stmt = x.stmt; height = x.height; rest = rest })

unfoldable pub side_of_pick : ℕ → List Token → Option One
side_of_pick d ts = side_of_pick_by d ts (after brace_open ts)

abbrev pub picked : Pos → Scope → One → One → Read
picked p sc x y = made (s.Pick p x.stmt y.stmt ∷ []) (max x.height y.height + 1) sc y.rest

-- d bounds the height of a call
abbrev pub pick_sides : ℕ → Pos → Scope → List Token → Option Read
pick_sides d p sc ts = side_of_pick d ts >>= λ x. after_key else_key x.rest >>= λ e. side_of_pick d e >>= λ y. Some (picked p sc x y)

-- behind `if (dsu_updated`
unfoldable pub pick_at : Unit → ℕ → Pos → Scope → List Token → Option Read
pick_at u d p sc ts = if is_client u then (if nat_lt 2 d then
    (after round_open ts >>= λ a. after round_close a >>= λ b. after round_close b >>= λ c. pick_sides (d - 1) p sc c)
    else None) else None

abbrev pub updated_at : List Token → Option (List Token)
updated_at ts = after round_open ts >>= λ inside. after_key dsu_updated_key inside

-- a statement that begins with this keyword and has no bodies
unfoldable pub keyword_stmt : Unit → ℕ → Pos → Scope → ℕ → List Token → Option Read
keyword_stmt u d p sc k ts = choose k (
    (return_key, return_at u d p sc ts)
    ∷ (assert_key, checked (s.Assert p) d sc ts)
    ∷ (client_out_key, checked (s.Output p) d sc ts)
    ∷ (client_in_key, run p sc (input_at d ts))
    ∷ (dsu_choice_key, run p sc (choice_at u d ts))
    ∷ (dsu_update_key, point_at u d p sc ts)
    ∷ (dsu_force_key, force_at u p sc ts)
    ∷ [])

-- ---- statements with bodies

abbrev pub chain : Read → Read → Read
chain x more = made (x.stmts ++ more.stmts) (max x.height more.height) more.scope more.rest

abbrev pub nothing : Scope → List Token → Read
nothing scope rest = made [] 0 scope rest

abbrev pub if_only : Pos → Found → Read → Read
if_only p c taken = record { stmts = s.If p c.expr taken.stmts [] ∷ []; height = max c.height taken.height + 1; is_open = true; scope = taken.scope; rest = taken.rest }

abbrev pub if_else : Pos → Found → List Stmt → ℕ → Read → Read
if_else p c first high other = record { stmts = s.If p c.expr first other.stmts ∷ []; height = max c.height (max high other.height) + 1; is_open = other.is_open; scope = other.scope; rest = other.rest }

abbrev pub while_loop : Pos → Found → Read → Read
while_loop p c b = record { stmts = s.While p c.expr b.stmts ∷ []; height = max c.height b.height + 1; is_open = b.is_open; scope = b.scope; rest = b.rest }

-- inner reads a statement whose height is at most d, or where it is told so a declaration
module _ (inner : Bool → Bool → Scope → List Token → Option Read) (d : ℕ) where
  abbrev pub items_by : (Read → Option Read) → Bool → Read → Option (List Token) → Option Read
  items_by go in_loop acc (Some rest) = Some (made acc.stmts acc.height acc.scope rest)
  items_by go in_loop acc None = inner true in_loop acc.scope acc.rest >>= λ x. go (chain acc x)

  -- up to `}`, after what was read before; the number bounds the turns
  unfoldable pub items : ℕ → Bool → Read → Option Read
  items zero in_loop acc = None
  items (suc k) in_loop acc = items_by (items k in_loop) in_loop acc (after brace_close acc.rest)

  abbrev pub body_by : Bool → Scope → List Token → Option (List Token) → Option Read
  body_by in_loop scope ts None = inner false in_loop scope ts
  body_by in_loop scope ts (Some inside) = items (length inside + 1) in_loop (nothing scope inside)

  unfoldable pub body : Bool → Scope → List Token → Option Read
  body in_loop scope ts = body_by in_loop scope ts (after brace_open ts)

  abbrev pub else_by : Bool → Pos → Found → Read → Option (List Token) → Option Read
  else_by in_loop p c taken None = Some (if_only p c taken)
  else_by in_loop p c taken (Some rest) = body in_loop taken.scope rest >>= λ other. Some (if_else p c taken.stmts taken.height other)

  unfoldable pub branch : Bool → Pos → Scope → List Token → Option Read
  branch in_loop p scope ts = do
    c ← condition d ts
    taken ← body in_loop scope c.rest
    else_by in_loop p c taken (after_key else_key taken.rest)

  abbrev pub if_by : Unit → Bool → Pos → Scope → List Token → Option (List Token) → Option Read
  if_by u in_loop p scope ts None = branch in_loop p scope ts
  if_by u in_loop p scope ts (Some rest) = pick_at u d p scope rest

  unfoldable pub repeat : Pos → Scope → List Token → Option Read
  repeat p scope ts = do
    c ← condition d ts
    b ← body true scope c.rest
    Some (while_loop p c b)

  abbrev pub key_stmt : Unit → Bool → Bool → Pos → Scope → ℕ → List Token → Option Read
  key_stmt u may_declare in_loop p scope k ts =
      if k == if_key then if_by u in_loop p scope ts (updated_at ts) else
      (if k == while_key then repeat p scope ts else
      (if k == int_key then (if may_declare then declaration u d p scope ts else None) else
      (if k == break_key then (if in_loop then done (s.Break p ∷ []) 1 scope ts else None) else
      keyword_stmt u d p scope k ts)))

  abbrev pub stmt_by : Unit → Bool → Bool → Pos → Scope → Word → List Token → Option Read
  stmt_by u may_declare in_loop p scope (w.Punct k) ts = if k == semicolon then Some (made (s.Skip p ∷ []) 1 scope ts) else None
  stmt_by u may_declare in_loop p scope (w.Ident x) ts = named_stmt u d p x scope ts
  stmt_by u may_declare in_loop p scope (w.Key k) ts = key_stmt u may_declare in_loop p scope k ts
  stmt_by u may_declare in_loop p scope (w.Number n) ts = None

  unfoldable pub stmt_at : Unit → Bool → Bool → Scope → List Token → Option Read
  stmt_at u may_declare in_loop scope [] = None
  stmt_at u may_declare in_loop scope (t ∷ ts) = stmt_by u may_declare in_loop t.pos scope t.what ts

-- a statement that is at most so high
unfoldable pub stmt : Unit → ℕ → Bool → Bool → Scope → List Token → Option Read
stmt u zero may_declare in_loop scope ts = None
stmt u (suc d) may_declare in_loop scope ts = stmt_at (stmt u d) d u may_declare in_loop scope ts
