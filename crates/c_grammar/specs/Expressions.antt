-- The grammar of expressions, by cases on trees that keep every token.
use Rattle.std.specs.Prelude.{⊤, ℕ, ℤ, ◌+◌, ◌<◌, ◌≤◌, max, List, [], ◌∷◌, ◌++◌}
use Rattle.c_lang.specs.Names.{Bytes}
use Rattle.c_lang.specs.Operators.{level}
use Rattle.c_lang.specs.declared.expr.Op.{Op}
use Rattle.c_lang.specs.declared.expr.Expr.{Expr}
use Rattle.c_lang.specs.declared.expr.Expr.TheVariants as expr
use Rattle.c_grammar.specs.declared.token.Token.{Token}
use Rattle.c_grammar.specs.declared.token.Word.TheVariants as w
use Rattle.c_grammar.specs.Tokens.{At, token, mark, operator, round_open, round_close, square_open, square_close, minus, bang}

-- an expression as it is written, with its brackets
pub data Tree : Type 0 where
  number : At → ℤ → Tree
  name : At → Bytes → Tree
  element : At → Bytes → At → Tree → At → Tree
  brackets : At → Tree → At → Tree
  negation : At → Tree → Tree
  logical_not : At → Tree → Tree
  joined : Tree → At → Op → Tree → Tree

abbrev pub tokens_of : Tree → List Token
tokens_of (number at n) = token at (w.Number n) ∷ []
tokens_of (name at x) = token at (w.Ident x) ∷ []
tokens_of (element at x opens t closes) = token at (w.Ident x) ∷ mark square_open opens ∷ tokens_of t ++ (mark square_close closes ∷ [])
tokens_of (brackets opens t closes) = mark round_open opens ∷ tokens_of t ++ (mark round_close closes ∷ [])
tokens_of (negation at t) = mark minus at ∷ tokens_of t
tokens_of (logical_not at t) = mark bang at ∷ tokens_of t
tokens_of (joined a at o b) = tokens_of a ++ (operator o at ∷ tokens_of b)

-- what it means, without brackets
abbrev pub expr_of : Tree → Expr
expr_of (number at n) = expr.Lit n
expr_of (name at x) = expr.Var x
expr_of (element at x opens t closes) = expr.Elem x (expr_of t)
expr_of (brackets opens t closes) = expr_of t
expr_of (negation at t) = expr.Neg (expr_of t)
expr_of (logical_not at t) = expr.Not (expr_of t)
expr_of (joined a at o b) = expr.Bin o (expr_of a) (expr_of b)

abbrev pub height : Tree → ℕ
height (number at n) = 1
height (name at x) = 1
height (element at x opens t closes) = height t + 1
height (brackets opens t closes) = height t + 1
height (negation at t) = height t + 1
height (logical_not at t) = height t + 1
height (joined a at o b) = max (height a) (height b) + 1

-- how tightly its outermost operator binds: 7 where it is no binary operator
abbrev pub binds : Tree → ℕ
binds (joined a at o b) = level o
binds _ = 7

-- Binary operators group to the left, and the tighter first; a unary operator takes what has no
-- binary operator outside brackets.
abbrev pub IsGrouped : Tree → Type 0
IsGrouped (number at n) = ⊤
IsGrouped (name at x) = ⊤
IsGrouped (element at x opens t closes) = IsGrouped t
IsGrouped (brackets opens t closes) = IsGrouped t
IsGrouped (negation at t) = (7 ≤ binds t) × IsGrouped t
IsGrouped (logical_not at t) = (7 ≤ binds t) × IsGrouped t
IsGrouped (joined a at o b) = (level o ≤ binds a) × (level o < binds b) × IsGrouped a × IsGrouped b
