-- Reading expressions from a list of tokens.
use Rattle.std.specs.Prelude.{ℕ, zero, suc, ◌+◌, max, if◌then◌else◌, ◌==◌, nat_lt, List, [], ◌∷◌, Option, Some, None}
use Rattle.c_lang.specs.Names.{Bytes}
use Rattle.c_lang.specs.Operators.{level}
use Rattle.c_lang.specs.declared.expr.Op.{Op}
use Rattle.c_lang.specs.declared.expr.Op.TheVariants as op
use Rattle.c_lang.specs.declared.expr.Expr.{Expr}
use Rattle.c_lang.specs.declared.expr.Expr.TheVariants as e
use Rattle.c_grammar.specs.declared.token.Token.{Token}
use Rattle.c_grammar.specs.declared.token.Word.{Word}
use Rattle.c_grammar.specs.declared.token.Word.TheVariants as w
use Rattle.c_grammar.specs.Tokens.{round_open, round_close, square_open, square_close, minus, bang}
use Rattle.c_expressions.specs.Code.ParseSteps.{◌>>=◌, after}

-- an expression at the front, its height, and what follows it
pub record Found : Type 0 where
  pub expr : Expr
  pub height : ℕ
  pub rest : List Token

abbrev pub Parse : Type 0
Parse = List Token → Option Found

abbrev pub raise : (Expr → Expr) → Found → Found
raise f x = record { expr = f x.expr; height = x.height + 1; rest = x.rest }

abbrev pub closed : ℕ → Found → Option Found
closed mark x = after mark x.rest >>= λ rest. Some (record { expr = x.expr; height = x.height; rest = rest })

abbrev pub leaf : Expr → Parse
leaf a ts = Some (record { expr = a; height = 1; rest = ts })

abbrev pub operator_at : ℕ → Option Op
operator_at k =
    if k == 9 then Some op.Add else
    (if k == 10 then Some op.Sub else
    (if k == 11 then Some op.Mul else
    (if k == 12 then Some op.Div else
    (if k == 13 then Some op.Rem else
    (if k == 15 then Some op.Lt else
    (if k == 16 then Some op.Gt else
    (if k == 17 then Some op.Le else
    (if k == 18 then Some op.Ge else
    (if k == 19 then Some op.Eq else
    (if k == 20 then Some op.Ne else
    (if k == 21 then Some op.And else
    (if k == 22 then Some op.Or else None))))))))))))

abbrev pub operator_of : Word → Option Op
operator_of (w.Punct k) = operator_at k
operator_of _ = None

abbrev pub next_by : Option Op → List Token → Option (Op × List Token)
next_by None ts = None
next_by (Some op) ts = Some (op, ts)

abbrev pub next_operator : List Token → Option (Op × List Token)
next_operator [] = None
next_operator (t ∷ ts) = next_by (operator_of t.what) ts

abbrev pub join : Op → Found → Found → Found
join op left right = record { expr = e.Bin op left.expr right.expr; height = max left.height right.height + 1; rest = right.rest }

-- inner reads what is less high, and whose operators outside brackets bind at least so tightly
module _ (inner : ℕ → Parse) where
  abbrev pub named_by : Bytes → List Token → Option (List Token) → Option Found
  named_by name ts None = leaf (e.Var name) ts
  named_by name ts (Some inside) = inner 1 inside >>= λ x. closed square_close (raise (e.Elem name) x)

  abbrev pub operand_by : Word → Parse
  operand_by (w.Number n) ts = leaf (e.Lit n) ts
  operand_by (w.Ident name) ts = named_by name ts (after square_open ts)
  operand_by (w.Punct k) ts =
      if k == round_open then inner 1 ts >>= (λ x. closed round_close (raise (λ a. a) x)) else
      (if k == minus then inner 7 ts >>= (λ x. Some (raise e.Neg x)) else
      (if k == bang then inner 7 ts >>= (λ x. Some (raise e.Not x)) else None))
  operand_by (w.Key k) ts = None

  unfoldable pub operand : Parse
  operand [] = None
  operand (t ∷ ts) = operand_by t.what ts

  abbrev pub more_by : (Found → Option Found) → ℕ → ℕ → Found → Option (Op × List Token) → Option Found
  more_by go d m left None = Some left
  more_by go d m left (Some (op, ts)) =
      if nat_lt (level op) m then Some left else
      (if nat_lt left.height d then inner (level op + 1) ts >>= (λ right. go (join op left right)) else None)

  -- the first number bounds the turns
  unfoldable pub more : ℕ → ℕ → ℕ → Found → Option Found
  more zero d m left = Some left
  more (suc k) d m left = more_by (more k d m) d m left (next_operator left.rest)

-- at most d high, and with operators of at least this level outside brackets
unfoldable pub expr : ℕ → ℕ → Parse
expr zero m ts = None
expr (suc d) m ts = operand (expr d) ts >>= more (expr d) (suc d) (suc d) m
