-- Expressions, calls and right sides of a text have the names and the literals of its tokens.
use Rattle.std.specs.Prelude.{⊤, ◌≤◌, ℕ, pos, nat_abs, List, [], ◌∷◌, map}
use Rattle.std.proofs.Common.{sym, ap, subst}
use Rattle.c_lang.specs.Trees.{Expression, expression_of}
use Rattle.c_lang.specs.declared.unit.Unit.{Unit}
use Rattle.c_lang.specs.declared.expr.Expr.{Expr}
use Rattle.c_lang.proofs.TreeLemmas.{expression_of-Lit, expression_of-Var, expression_of-Elem, expression_of-Neg, expression_of-Not, expression_of-Bin}
use Rattle.c_grammar.specs.Tokens.{mark, square_close, round_close, comma, operator}
use Rattle.c_grammar.specs.Separated.{Separated, last, more, parts_of, separated_tokens}
use Rattle.c_grammar.specs.Expressions.{Tree, number, name, element, brackets, negation, logical_not, joined, tokens_of}
use Rattle.c_grammar.specs.Expressions as e
use Rattle.c_grammar.specs.declared.right.Call.{Call}
use Rattle.c_grammar.specs.declared.right.Call.TheVariants as c
use Rattle.c_grammar.specs.declared.right.Right.{Right}
use Rattle.c_grammar.specs.declared.right.Right.TheVariants as right
use Rattle.c_grammar.specs.Statements.{Arguments, nothing, given, argument_tokens, exprs_of, FunctionCall, function_call_tokens, CallTree, function, SideTree, value, called, call_tokens, side_tokens, call_of, right_of}
use Rattle.c_grammar.specs.Statements as tree
use Rattle.written_laws.specs.Literals.{IsLiteral, HasInts, HaveInts, largest}
use Rattle.written_laws.specs.SourceNames.{IsWord, HasNames, HaveNames}
use Rattle.written_laws.specs.SourceNames as names
use Rattle.written_laws.proofs.GivenWords.{TokensFit, fit_append}

module _ (u : Unit) where
  pub record ExpressionFits (a : Expression) : Type 0 where
    pub ints : HasInts a
    pub words : HasNames u a

  pub record ExpressionsFit (es : List Expression) : Type 0 where
    pub ints : HaveInts es
    pub words : HaveNames u es

  abbrev pub ExprFits : Expr → Type 0
  ExprFits a = ExpressionFits (expression_of a)

  abbrev pub ExprsFit : List Expr → Type 0
  ExprsFit es = ExpressionsFit (map expression_of es)

  pub tree_fits : (t : Tree) → TokensFit u (tokens_of t) → ExprFits (e.expr_of t)
  tree_fits (number at z) h = rw (expression_of-Lit z) (record { ints = h.0; words = tt })
  tree_fits (name at x) h = rw (expression_of-Var x) (record { ints = tt; words = names.word h.0 })
  tree_fits (element at x o t c) h =
      let index = tree_fits t (fit_append u (tokens_of t) (mark square_close c ∷ []) h.1.1).0 in
      rw (expression_of-Elem x (e.expr_of t)) (record { ints = index.ints; words = (h.0, index.words) })
  tree_fits (brackets o t c) h = tree_fits t (fit_append u (tokens_of t) (mark round_close c ∷ []) h.1).0
  tree_fits (negation at t) h = let a = tree_fits t h.1 in rw (expression_of-Neg (e.expr_of t)) (record { ints = a.ints; words = a.words })
  tree_fits (logical_not at t) h = let a = tree_fits t h.1 in rw (expression_of-Not (e.expr_of t)) (record { ints = a.ints; words = a.words })
  tree_fits (joined a at o b) h =
      let parts = fit_append u (tokens_of a) (operator o at ∷ tokens_of b) h in
      let left = tree_fits a parts.0 in
      let other = tree_fits b parts.1.1 in
      rw (expression_of-Bin o (e.expr_of a) (e.expr_of b)) (record { ints = (left.ints, other.ints); words = (left.words, other.words) })

  none_fit : ExpressionsFit []
  none_fit = record { ints = tt; words = tt }

  more_fit : (a : Expression) (es : List Expression) → ExpressionFits a → ExpressionsFit es → ExpressionsFit (a ∷ es)
  more_fit a es h k = record { ints = (h.ints, k.ints); words = (h.words, k.words) }

  several_fit : (ts : Separated Tree) → TokensFit u (separated_tokens tokens_of ts) → ExprsFit (map e.expr_of (parts_of ts))
  several_fit (last t) h = more_fit (expression_of (e.expr_of t)) [] (tree_fits t h) none_fit
  several_fit (more t at ts) h =
      let parts = fit_append u (tokens_of t) (mark comma at ∷ separated_tokens tokens_of ts) h in
      more_fit (expression_of (e.expr_of t)) (map expression_of (map e.expr_of (parts_of ts))) (tree_fits t parts.0) (several_fit ts parts.1.1)

  pub arguments_fit : (a : Arguments) → TokensFit u (argument_tokens a) → ExprsFit (exprs_of a)
  arguments_fit nothing h = none_fit
  arguments_fit (given ts) h = several_fit ts h

  -- ---- calls and right sides

  abbrev pub CallFits : Call → Type 0
  CallFits (c.Function f es) = IsWord u f × ExprsFit es
  CallFits c.Input = ⊤
  CallFits (c.Choice k) = k ≤ largest

  abbrev pub RightFits : Right → Type 0
  RightFits (right.Value a) = ExprFits a
  RightFits (right.Call a) = CallFits a

  pub function_call_fits : (f : FunctionCall) → TokensFit u (function_call_tokens f) → IsWord u f.callee × ExprsFit (exprs_of f.arguments)
  function_call_fits f h = (h.0, arguments_fit f.arguments (fit_append u (argument_tokens f.arguments) (mark round_close f.closes ∷ []) h.1.1).0)

  pub number_fits : (k : ℕ) → IsLiteral (pos k) → k ≤ largest
  number_fits k h = subst (λ (m : ℕ). m ≤ largest) (sym (ap nat_abs h.1)) h.2

  pub call_fits : (t : CallTree) → TokensFit u (call_tokens t) → CallFits (call_of t)
  call_fits (function f) h = function_call_fits f h
  call_fits (tree.input at o cl) h = tt
  call_fits (tree.choice at o n k cl) h = number_fits k h.1.1.0

  pub side_fits : (t : SideTree) → TokensFit u (side_tokens t) → RightFits (right_of t)
  side_fits (value t) h = tree_fits t h
  side_fits (called t) h = call_fits t h
