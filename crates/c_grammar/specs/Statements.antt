-- The grammar of statements, by cases on trees that keep every token.
use Rattle.std.specs.Prelude.{⊤, ◌≡◌, ℕ, pos, ◌+◌, max, min, Bool, true, false, if◌then◌else◌, List, [], ◌∷◌, ◌++◌, map, length, Some, None}
use Rattle.c_lang.specs.Names.{Bytes}
use Rattle.c_lang.specs.declared.unit.Unit.{Unit}
use Rattle.c_lang.specs.declared.unit.Pos.{Pos}
use Rattle.c_lang.specs.declared.expr.Expr.{Expr}
use Rattle.c_lang.specs.declared.expr.Expr.TheVariants as e
use Rattle.c_lang.specs.declared.stmt.Kind.TheVariants as kind
use Rattle.c_lang.specs.declared.stmt.Dest.{Dest}
use Rattle.c_lang.specs.declared.stmt.Dest.TheVariants as dest
use Rattle.c_lang.specs.declared.stmt.Stmt.{Stmt}
use Rattle.c_lang.specs.declared.stmt.Stmt.TheVariants as s
use Rattle.c_grammar.specs.declared.token.Token.{Token}
use Rattle.c_grammar.specs.declared.token.Word.TheVariants as w
use Rattle.c_grammar.specs.declared.right.Call.{Call}
use Rattle.c_grammar.specs.declared.right.Call.TheVariants as call
use Rattle.c_grammar.specs.declared.right.Right.{Right}
use Rattle.c_grammar.specs.declared.right.Right.TheVariants as right
use Rattle.c_grammar.specs.Tokens.{At, token, mark, keyword, round_open, round_close, brace_open, brace_close, square_open, square_close, semicolon, equals, star, assert_key, break_key, client_in_key, client_out_key, dsu_choice_key, dsu_force_key, dsu_update_key, dsu_updated_key, else_key, if_key, int_key, return_key, void_key, while_key}
use Rattle.c_grammar.specs.Separated.{Separated, last, more, parts_of, separated_tokens, Each}
use Rattle.c_grammar.specs.Expressions.{Tree, tokens_of, expr_of, IsGrouped}
use Rattle.c_grammar.specs.Expressions as expr
use Rattle.c_grammar.specs.Scopes.{Scope, is_declared, declare, one_more, temporary, refuse_arity, is_merge, is_client}

-- ---- calls and right sides

pub data Arguments : Type 0 where
  nothing : Arguments
  given : Separated Tree → Arguments

-- the call of a function
pub record FunctionCall : Type 0 where
  pub at : At
  pub callee : Bytes
  pub opens : At
  pub arguments : Arguments
  pub closes : At

pub data CallTree : Type 0 where
  function : FunctionCall → CallTree
  input : At → At → At → CallTree
  choice : At → At → At → ℕ → At → CallTree

-- an expression, or a call
pub data SideTree : Type 0 where
  value : Tree → SideTree
  called : CallTree → SideTree

abbrev pub argument_tokens : Arguments → List Token
argument_tokens nothing = []
argument_tokens (given ts) = separated_tokens tokens_of ts

abbrev pub function_call_tokens : FunctionCall → List Token
function_call_tokens c = token c.at (w.Ident c.callee) ∷ mark round_open c.opens ∷ argument_tokens c.arguments ++ (mark round_close c.closes ∷ [])

abbrev pub call_tokens : CallTree → List Token
call_tokens (function c) = function_call_tokens c
call_tokens (input at o c) = keyword client_in_key at ∷ mark round_open o ∷ mark round_close c ∷ []
call_tokens (choice at o n k c) = keyword dsu_choice_key at ∷ mark round_open o ∷ token n (w.Number (pos k)) ∷ mark round_close c ∷ []

abbrev pub side_tokens : SideTree → List Token
side_tokens (value t) = tokens_of t
side_tokens (called c) = call_tokens c

abbrev pub tallest : Separated Tree → ℕ
tallest (last t) = expr.height t
tallest (more t at ts) = max (expr.height t) (tallest ts)

-- the callee's name is a part
abbrev pub part_height : Arguments → ℕ
part_height nothing = 1
part_height (given ts) = max 1 (tallest ts)

abbrev pub call_height : CallTree → ℕ
call_height (function c) = part_height c.arguments + 1
call_height (input at o c) = 1
call_height (choice at o n k c) = 2

abbrev pub side_height : SideTree → ℕ
side_height (value t) = expr.height t
side_height (called c) = call_height c

abbrev pub AreArguments : Arguments → Type 0
AreArguments nothing = ⊤
AreArguments (given ts) = Each IsGrouped ts

abbrev pub IsCall : Unit → CallTree → Type 0
IsCall u (function c) = AreArguments c.arguments
IsCall u (input at o c) = ⊤
IsCall u (choice at o n k c) = is_merge u ≡ true

abbrev pub IsSide : Unit → SideTree → Type 0
IsSide u (value t) = IsGrouped t
IsSide u (called c) = IsCall u c

abbrev pub exprs_of : Arguments → List Expr
exprs_of nothing = []
exprs_of (given ts) = map expr_of (parts_of ts)

abbrev pub call_of : CallTree → Call
call_of (function c) = call.Function c.callee (exprs_of c.arguments)
call_of (input at o c) = call.Input
call_of (choice at o n k c) = call.Choice k

abbrev pub right_of : SideTree → Right
right_of (value t) = right.Value (expr_of t)
right_of (called c) = right.Call (call_of c)

-- ---- where a right side goes

abbrev pub call_to : Pos → Dest → Call → Stmt
call_to p d (call.Function f es) = s.Call p d f es
call_to p d call.Input = s.Input p d
call_to p d (call.Choice k) = s.Choice p d k

abbrev pub right_to : Pos → Dest → Right → Stmt
right_to p d (right.Value a) = s.Set p d a
right_to p d (right.Call c) = call_to p d c

-- A call's result is stored in a temporary first: the statements before, the value and the scope.
pub record Stored : Type 0 where
  pub before : List Stmt
  pub value : Expr
  pub scope : Scope

abbrev pub stored : Pos → Scope → Right → Stored
stored p sc (right.Value a) = record { before = []; value = a; scope = sc }
stored p sc (right.Call c) =
    let x = temporary (sc.count + 1) in
    record { before = call_to p (dest.Fresh kind.Int x) c ∷ []; value = e.Var x; scope = one_more sc }

-- to a name that was declared earlier a right side goes at once
abbrev pub set_stmts : Pos → Bytes → Scope → Right → List Stmt
set_stmts p x sc r =
    if is_declared sc x then right_to p (dest.Into x) r ∷ []
    else (stored p sc r).before ++ (s.Set p (dest.Into x) (stored p sc r).value ∷ [])

abbrev pub set_scope : Pos → Bytes → Scope → Right → Scope
set_scope p x sc r = if is_declared sc x then sc else (stored p sc r).scope

abbrev pub element_stmts : Pos → Bytes → Expr → Scope → Right → List Stmt
element_stmts p x i sc r = (stored p sc r).before ++ (s.SetElem p x i (stored p sc r).value ∷ [])

abbrev pub return_stmts : Pos → Scope → Right → List Stmt
return_stmts p sc r = (stored p sc r).before ++ (s.Return p (Some (stored p sc r).value) ∷ [])

-- ---- pointers

pub data Ints : Type 0 where
  nothing : Ints
  void : At → Ints
  ints : Separated At → Ints

-- `(*NAME)(int, int)`, behind an `int`
pub record PointerTree : Type 0 where
  pub opens : At
  pub star : At
  pub at : At
  pub name : Bytes
  pub closes : At
  pub params_open : At
  pub params : Ints
  pub params_close : At

abbrev pub int_tokens : At → List Token
int_tokens at = keyword int_key at ∷ []

abbrev pub ints_tokens : Ints → List Token
ints_tokens nothing = []
ints_tokens (void at) = keyword void_key at ∷ []
ints_tokens (ints ts) = separated_tokens int_tokens ts

abbrev pub pointer_tokens : PointerTree → List Token
pointer_tokens p = mark round_open p.opens ∷ mark star p.star ∷ token p.at (w.Ident p.name) ∷ mark round_close p.closes ∷ mark round_open p.params_open ∷ ints_tokens p.params ++ (mark round_close p.params_close ∷ [])

abbrev pub ints_count : Ints → ℕ
ints_count nothing = 0
ints_count (void at) = 0
ints_count (ints ts) = length (parts_of ts)

-- its number of parameters, or 33 where it has more than 32
abbrev pub arity : PointerTree → ℕ
arity p = min (ints_count p.params) 33

-- ---- statements

-- an expression in the brackets of its statement
pub record CondTree : Type 0 where
  pub opens : At
  pub tree : Tree
  pub closes : At

-- a call in a pick, with or without a name that it goes to
pub data OneTree : Type 0 where
  ignored : FunctionCall → At → OneTree
  kept : At → Bytes → At → FunctionCall → At → OneTree

pub data PickTree : Type 0 where
  bare : OneTree → PickTree
  braced : At → OneTree → At → PickTree

-- a statement or declaration that has no bodies
pub data Simple : Type 0 where
  skip : At → Simple
  set : At → Bytes → At → SideTree → At → Simple
  set_element : At → Bytes → At → Tree → At → At → SideTree → At → Simple
  declaration : At → At → Bytes → At → SideTree → At → Simple
  pointer : At → PointerTree → At → SideTree → At → Simple
  run : CallTree → At → Simple
  break_loop : At → At → Simple
  return_off : At → At → Simple
  return_side : At → SideTree → At → Simple
  assert_that : At → CondTree → At → Simple
  output : At → CondTree → At → Simple
  point : At → At → At → ℕ → At → At → Simple
  force : At → At → At → At → Simple
  pick : At → At → At → At → At → At → PickTree → At → PickTree → Simple

mutual
  pub data Piece : Type 0 where
    simple : Simple → Piece
    if_only : At → CondTree → Body → Piece
    if_else : At → CondTree → Body → At → Body → Piece
    while_loop : At → CondTree → Body → Piece

  pub data Body : Type 0 where
    single : Piece → Body
    block : At → Pieces → At → Body

  pub data Pieces : Type 0 where
    none : Pieces
    next : Piece → Pieces → Pieces

-- ---- tokens

abbrev pub cond_tokens : CondTree → List Token
cond_tokens c = mark round_open c.opens ∷ tokens_of c.tree ++ (mark round_close c.closes ∷ [])

abbrev pub one_tokens : OneTree → List Token
one_tokens (ignored c end) = function_call_tokens c ++ (mark semicolon end ∷ [])
one_tokens (kept at x is c end) = token at (w.Ident x) ∷ mark equals is ∷ function_call_tokens c ++ (mark semicolon end ∷ [])

abbrev pub pick_tokens : PickTree → List Token
pick_tokens (bare a) = one_tokens a
pick_tokens (braced o a c) = mark brace_open o ∷ one_tokens a ++ (mark brace_close c ∷ [])

abbrev pub simple_tokens : Simple → List Token
simple_tokens (skip at) = mark semicolon at ∷ []
simple_tokens (set at x is y end) = token at (w.Ident x) ∷ mark equals is ∷ side_tokens y ++ (mark semicolon end ∷ [])
simple_tokens (set_element at x o t c is y end) =
    token at (w.Ident x) ∷ mark square_open o ∷ tokens_of t ++ (mark square_close c ∷ mark equals is ∷ side_tokens y ++ (mark semicolon end ∷ []))
simple_tokens (declaration int at x is y end) = keyword int_key int ∷ token at (w.Ident x) ∷ mark equals is ∷ side_tokens y ++ (mark semicolon end ∷ [])
simple_tokens (pointer int p is y end) = keyword int_key int ∷ pointer_tokens p ++ (mark equals is ∷ side_tokens y ++ (mark semicolon end ∷ []))
simple_tokens (run c end) = call_tokens c ++ (mark semicolon end ∷ [])
simple_tokens (break_loop at end) = keyword break_key at ∷ mark semicolon end ∷ []
simple_tokens (return_off at end) = keyword return_key at ∷ mark semicolon end ∷ []
simple_tokens (return_side at y end) = keyword return_key at ∷ side_tokens y ++ (mark semicolon end ∷ [])
simple_tokens (assert_that at c end) = keyword assert_key at ∷ cond_tokens c ++ (mark semicolon end ∷ [])
simple_tokens (output at c end) = keyword client_out_key at ∷ cond_tokens c ++ (mark semicolon end ∷ [])
simple_tokens (point at o n k c end) = keyword dsu_update_key at ∷ mark round_open o ∷ token n (w.Number (pos k)) ∷ mark round_close c ∷ mark semicolon end ∷ []
simple_tokens (force at o c end) = keyword dsu_force_key at ∷ mark round_open o ∷ mark round_close c ∷ mark semicolon end ∷ []
simple_tokens (pick at o u uo uc c a el b) =
    keyword if_key at ∷ mark round_open o ∷ keyword dsu_updated_key u ∷ mark round_open uo ∷ mark round_close uc ∷ mark round_close c ∷ pick_tokens a ++ (keyword else_key el ∷ pick_tokens b)

abbrev mutual
  pub tokens : Piece → List Token
  tokens (simple t) = simple_tokens t
  tokens (if_only at c b) = keyword if_key at ∷ cond_tokens c ++ body_tokens b
  tokens (if_else at c b el n) = keyword if_key at ∷ cond_tokens c ++ (body_tokens b ++ (keyword else_key el ∷ body_tokens n))
  tokens (while_loop at c b) = keyword while_key at ∷ cond_tokens c ++ body_tokens b

  pub body_tokens : Body → List Token
  body_tokens (single t) = tokens t
  body_tokens (block o ts c) = mark brace_open o ∷ pieces_tokens ts ++ (mark brace_close c ∷ [])

  pub pieces_tokens : Pieces → List Token
  pieces_tokens none = []
  pieces_tokens (next t ts) = tokens t ++ pieces_tokens ts

-- ---- heights

abbrev pub one_height : OneTree → ℕ
one_height (ignored c end) = part_height c.arguments + 1 + 1
one_height (kept at x is c end) = part_height c.arguments + 1 + 1

abbrev pub pick_height : PickTree → ℕ
pick_height (bare a) = one_height a
pick_height (braced o a c) = one_height a

abbrev pub simple_height : Simple → ℕ
simple_height (skip at) = 1
simple_height (set at x is y end) = side_height y + 1
simple_height (set_element at x o t c is y end) = max (expr.height t) (side_height y) + 1
simple_height (declaration int at x is y end) = side_height y + 1
simple_height (pointer int p is y end) = side_height y + 1
simple_height (run c end) = call_height c + 1
simple_height (break_loop at end) = 1
simple_height (return_off at end) = 1
simple_height (return_side at y end) = side_height y + 1
simple_height (assert_that at c end) = expr.height c.tree + 1
simple_height (output at c end) = expr.height c.tree + 1
simple_height (point at o n k c end) = 2
simple_height (force at o c end) = 1
simple_height (pick at o u uo uc c a el b) = max (pick_height a) (pick_height b) + 1

abbrev mutual
  pub height : Piece → ℕ
  height (simple t) = simple_height t
  height (if_only at c b) = max (expr.height c.tree) (body_height b) + 1
  height (if_else at c b el n) = max (expr.height c.tree) (max (body_height b) (body_height n)) + 1
  height (while_loop at c b) = max (expr.height c.tree) (body_height b) + 1

  pub body_height : Body → ℕ
  body_height (single t) = height t
  body_height (block o ts c) = pieces_height ts

  pub pieces_height : Pieces → ℕ
  pieces_height none = 0
  pieces_height (next t ts) = max (height t) (pieces_height ts)

-- ---- where each may stand

-- it ends in an `if` without `else`
abbrev mutual
  pub is_open : Piece → Bool
  is_open (simple t) = false
  is_open (if_only at c b) = true
  is_open (if_else at c b el n) = body_open n
  is_open (while_loop at c b) = body_open b

  pub body_open : Body → Bool
  body_open (single t) = is_open t
  body_open (block o ts c) = false

abbrev pub IsOne : OneTree → Type 0
IsOne (ignored c end) = AreArguments c.arguments
IsOne (kept at x is c end) = AreArguments c.arguments

abbrev pub IsPick : PickTree → Type 0
IsPick (bare a) = IsOne a
IsPick (braced o a c) = IsOne a

-- in this unit, where declarations may stand, and in a loop
abbrev pub IsSimple : Unit → Bool → Bool → Simple → Type 0
IsSimple u may_declare in_loop (skip at) = ⊤
IsSimple u may_declare in_loop (set at x is y end) = IsSide u y
IsSimple u may_declare in_loop (set_element at x o t c is y end) = IsGrouped t × IsSide u y
IsSimple u may_declare in_loop (declaration int at x is y end) = (may_declare ≡ true) × IsSide u y
IsSimple u may_declare in_loop (pointer int p is y end) = (may_declare ≡ true) × IsSide u y
IsSimple u may_declare in_loop (run c end) = IsCall u c
IsSimple u may_declare in_loop (break_loop at end) = in_loop ≡ true
IsSimple u may_declare in_loop (return_off at end) = ⊤
IsSimple u may_declare in_loop (return_side at y end) = IsSide u y
IsSimple u may_declare in_loop (assert_that at c end) = IsGrouped c.tree
IsSimple u may_declare in_loop (output at c end) = IsGrouped c.tree
IsSimple u may_declare in_loop (point at o n k c end) = is_merge u ≡ false
IsSimple u may_declare in_loop (force at o c end) = is_client u ≡ true
IsSimple u may_declare in_loop (pick at o v uo uc c a el b) = (is_client u ≡ true) × IsPick a × IsPick b

abbrev mutual
  pub IsPiece : Unit → Bool → Bool → Piece → Type 0
  IsPiece u may_declare in_loop (simple t) = IsSimple u may_declare in_loop t
  IsPiece u may_declare in_loop (if_only at c b) = IsGrouped c.tree × IsBody u in_loop b
  IsPiece u may_declare in_loop (if_else at c b el n) = IsGrouped c.tree × IsBody u in_loop b × (body_open b ≡ false) × IsBody u in_loop n
  IsPiece u may_declare in_loop (while_loop at c b) = IsGrouped c.tree × IsBody u true b

  pub IsBody : Unit → Bool → Body → Type 0
  IsBody u in_loop (single t) = IsPiece u false in_loop t
  IsBody u in_loop (block o ts c) = ArePieces u in_loop ts

  pub ArePieces : Unit → Bool → Pieces → Type 0
  ArePieces u in_loop none = ⊤
  ArePieces u in_loop (next t ts) = IsPiece u true in_loop t × ArePieces u in_loop ts

-- ---- the program

abbrev pub one_stmt : OneTree → Stmt
one_stmt (ignored c end) = s.Call c.at.pos dest.Nowhere c.callee (exprs_of c.arguments)
one_stmt (kept at x is c end) = s.Call at.pos (dest.Into x) c.callee (exprs_of c.arguments)

abbrev pub pick_stmt : PickTree → Stmt
pick_stmt (bare a) = one_stmt a
pick_stmt (braced o a c) = one_stmt a

abbrev pub call_pos : CallTree → Pos
call_pos (function c) = c.at.pos
call_pos (input at o c) = at.pos
call_pos (choice at o n k c) = at.pos

abbrev pub simple_scope : Simple → Scope → Scope
simple_scope (set at x is y end) sc = set_scope at.pos x sc (right_of y)
simple_scope (set_element at x o t c is y end) sc = (stored at.pos sc (right_of y)).scope
simple_scope (declaration int at x is y end) sc = declare sc x
simple_scope (pointer int p is y end) sc = refuse_arity (declare sc p.name) int.pos (arity p)
simple_scope (return_side at y end) sc = (stored at.pos sc (right_of y)).scope
simple_scope _ sc = sc

-- the statements that it becomes, after what was declared and made before
abbrev pub simple_stmts : Simple → Scope → List Stmt
simple_stmts (skip at) sc = s.Skip at.pos ∷ []
simple_stmts (set at x is y end) sc = set_stmts at.pos x sc (right_of y)
simple_stmts (set_element at x o t c is y end) sc = element_stmts at.pos x (expr_of t) sc (right_of y)
simple_stmts (declaration int at x is y end) sc = right_to int.pos (dest.Fresh kind.Int x) (right_of y) ∷ []
simple_stmts (pointer int p is y end) sc = right_to int.pos (dest.Fresh (kind.Fp (arity p)) p.name) (right_of y) ∷ []
simple_stmts (run c end) sc = call_to (call_pos c) dest.Nowhere (call_of c) ∷ []
simple_stmts (break_loop at end) sc = s.Break at.pos ∷ []
simple_stmts (return_off at end) sc = s.Return at.pos None ∷ []
simple_stmts (return_side at y end) sc = return_stmts at.pos sc (right_of y)
simple_stmts (assert_that at c end) sc = s.Assert at.pos (expr_of c.tree) ∷ []
simple_stmts (output at c end) sc = s.Output at.pos (expr_of c.tree) ∷ []
simple_stmts (point at o n k c end) sc = s.Point at.pos k ∷ []
simple_stmts (force at o c end) sc = s.Force at.pos ∷ []
simple_stmts (pick at o u uo uc c a el b) sc = s.Pick at.pos (pick_stmt a) (pick_stmt b) ∷ []

abbrev mutual
  pub scope_after : Piece → Scope → Scope
  scope_after (simple t) sc = simple_scope t sc
  scope_after (if_only at c b) sc = body_scope b sc
  scope_after (if_else at c b el n) sc = body_scope n (body_scope b sc)
  scope_after (while_loop at c b) sc = body_scope b sc

  pub body_scope : Body → Scope → Scope
  body_scope (single t) sc = scope_after t sc
  body_scope (block o ts c) sc = pieces_scope ts sc

  pub pieces_scope : Pieces → Scope → Scope
  pieces_scope none sc = sc
  pieces_scope (next t ts) sc = pieces_scope ts (scope_after t sc)

abbrev mutual
  pub stmts : Piece → Scope → List Stmt
  stmts (simple t) sc = simple_stmts t sc
  stmts (if_only at c b) sc = s.If at.pos (expr_of c.tree) (body_stmts b sc) [] ∷ []
  stmts (if_else at c b el n) sc = s.If at.pos (expr_of c.tree) (body_stmts b sc) (body_stmts n (body_scope b sc)) ∷ []
  stmts (while_loop at c b) sc = s.While at.pos (expr_of c.tree) (body_stmts b sc) ∷ []

  pub body_stmts : Body → Scope → List Stmt
  body_stmts (single t) sc = stmts t sc
  body_stmts (block o ts c) sc = pieces_stmts ts sc

  pub pieces_stmts : Pieces → Scope → List Stmt
  pieces_stmts none sc = []
  pieces_stmts (next t ts) sc = stmts t sc ++ pieces_stmts ts (scope_after t sc)
