-- Reading calls, right sides, conditions and pointers from a list of tokens.
use Rattle.std.specs.Prelude.{ℕ, ◌+◌, ◌-◌, max, min, nat_lt, if◌then◌else◌, List, [], ◌∷◌, ◌++◌, length, Option, Some, None}
use Rattle.c_lang.specs.Names.{Bytes}
use Rattle.c_lang.specs.declared.unit.Unit.{Unit}
use Rattle.c_lang.specs.declared.expr.Expr.{Expr}
use Rattle.c_grammar.specs.declared.token.Token.{Token}
use Rattle.c_grammar.specs.declared.token.Word.{Word}
use Rattle.c_grammar.specs.declared.token.Word.TheVariants as w
use Rattle.c_grammar.specs.declared.right.Call.{Call}
use Rattle.c_grammar.specs.declared.right.Call.TheVariants as call
use Rattle.c_grammar.specs.declared.right.Right.{Right}
use Rattle.c_grammar.specs.declared.right.Right.TheVariants as right
use Rattle.c_grammar.specs.Tokens.{round_open, round_close, star, client_in_key, dsu_choice_key, int_key, void_key}
use Rattle.c_expressions.specs.Code.ParseSteps.{◌>>=◌, after, after_key, name_at, number_at, choose, separated}
use Rattle.c_expressions.specs.Code.ExpressionReading.{Found, expr}
use Rattle.c_grammar.specs.Scopes.{is_merge}

-- ---- calls and right sides

-- arguments that were read, and the height of the highest part
pub record Args : Type 0 where
  pub exprs : List Expr
  pub height : ℕ

abbrev pub with_argument : Args → Found → Args
with_argument acc x = record { exprs = acc.exprs ++ x.expr ∷ []; height = max acc.height x.height }

abbrev pub argument : ℕ → Args → List Token → Option (Args × List Token)
argument d acc ts = expr d 1 ts >>= λ x. Some (with_argument acc x, x.rest)

abbrev pub no_args : Args
no_args = record { exprs = []; height = 1 }

pub record Called : Type 0 where
  pub call : Call
  pub height : ℕ
  pub rest : List Token

abbrev pub close_call : Bytes → Args × List Token → Option Called
close_call f x = after round_close x.1 >>= λ rest. Some (record { call = call.Function f x.0.exprs; height = x.0.height + 1; rest = rest })

abbrev pub call_by : ℕ → Bytes → List Token → Option (List Token) → Option Called
call_by d f ts (Some rest) = Some (record { call = call.Function f []; height = 2; rest = rest })
call_by d f ts None = separated (argument d) (length ts + 1) no_args ts >>= close_call f

-- behind the opening bracket
unfoldable pub call_at : ℕ → Bytes → List Token → Option Called
call_at d f ts = if nat_lt 1 d then call_by (d - 1) f ts (after round_close ts) else None

unfoldable pub input_at : ℕ → List Token → Option Called
input_at d ts = if nat_lt 0 d then
    (after round_open ts >>= λ inside. after round_close inside >>= λ rest. Some (record { call = call.Input; height = 1; rest = rest }))
    else None

unfoldable pub choice_at : Unit → ℕ → List Token → Option Called
choice_at u d ts = if is_merge u then
    (if nat_lt 1 d then
    (after round_open ts >>= λ inside. number_at inside >>= λ n. after round_close n.1 >>= λ rest. Some (record { call = call.Choice n.0; height = 2; rest = rest }))
    else None) else None

pub record Side : Type 0 where
  pub right : Right
  pub height : ℕ
  pub rest : List Token

abbrev pub value_at : ℕ → List Token → Option Side
value_at d ts = expr d 1 ts >>= λ x. Some (record { right = right.Value x.expr; height = x.height; rest = x.rest })

abbrev pub called : Option Called → Option Side
called c = c >>= λ x. Some (record { right = right.Call x.call; height = x.height; rest = x.rest })

abbrev pub named_side : ℕ → Bytes → List Token → Option (List Token) → Option Side
named_side d f all None = value_at d all
named_side d f all (Some inside) = called (call_at d f inside)

abbrev pub side_by : Unit → ℕ → Word → List Token → List Token → Option Side
side_by u d (w.Ident f) ts all = named_side d f all (after round_open ts)
side_by u d (w.Key k) ts all = choose k ((client_in_key, called (input_at d ts)) ∷ (dsu_choice_key, called (choice_at u d ts)) ∷ [])
side_by u d _ ts all = value_at d all

unfoldable pub right_side : Unit → ℕ → List Token → Option Side
right_side u d [] = None
right_side u d (t ∷ ts) = side_by u d t.what ts (t ∷ ts)

unfoldable pub condition : ℕ → List Token → Option Found
condition d ts = do
  inside ← after round_open ts
  x ← expr d 1 inside
  rest ← after round_close x.rest
  Some (record { expr = x.expr; height = x.height; rest = rest })

-- ---- pointers

pub record Pointer : Type 0 where
  pub name : Bytes
  pub arity : ℕ
  pub rest : List Token

abbrev pub count_int : ℕ → List Token → Option (ℕ × List Token)
count_int n ts = after_key int_key ts >>= λ rest. Some (min (n + 1) 33, rest)

abbrev pub ints_by : List Token → Option (List Token) → Option (List Token) → Option (ℕ × List Token)
ints_by ts (Some rest) void = Some (0, rest)
ints_by ts None (Some inside) = after round_close inside >>= λ rest. Some (0, rest)
ints_by ts None None = separated count_int (length ts + 1) 0 ts >>= λ x. after round_close x.1 >>= λ rest. Some (x.0, rest)

-- the number of parameters, or 33, and the rest behind the closing bracket
unfoldable pub ints_at : List Token → Option (ℕ × List Token)
ints_at ts = ints_by ts (after round_close ts) (after_key void_key ts)

unfoldable pub pointer_at : List Token → Option Pointer
pointer_at ts = do
  a ← after round_open ts
  b ← after star a
  x ← name_at b
  c ← after round_close x.1
  d ← after round_open c
  n ← ints_at d
  Some (record { name = x.0; arity = n.0; rest = n.1 })
