-- The trees of tokens that a text has become expressions and calls that a text can have.
use Rattle.std.specs.Prelude.{List, [], ◌∷◌, map}
use Rattle.c_lang.specs.Trees.{expression_of}
use Rattle.c_lang.specs.declared.expr.Expr.{Expr}
use Rattle.c_lang.proofs.TreeLemmas.{expression_of-Lit, expression_of-Var, expression_of-Elem, expression_of-Neg, expression_of-Not, expression_of-Bin}
use Rattle.c_grammar.specs.Tokens.{mark, square_close, round_close, comma, operator}
use Rattle.c_grammar.specs.Separated.{Separated, last, more, parts_of, separated_tokens}
use Rattle.c_grammar.specs.Expressions.{Tree, number, name, element, brackets, negation, logical_not, joined, tokens_of}
use Rattle.c_grammar.specs.Expressions as e
use Rattle.c_grammar.specs.Statements.{Arguments, nothing, given, argument_tokens, exprs_of}
use Rattle.merge_printer.proofs.ExpressionLaw.{ExpressionFits}
use Rattle.merge_printer.proofs.SideLaw.{ExpressionsFit}
use Rattle.merge_printer.proofs.GivenTokens.{TokensFit, fit_append}

abbrev pub ExprFits : Expr → Type 0
ExprFits a = ExpressionFits (expression_of a)

abbrev pub ExprsFit : List Expr → Type 0
ExprsFit es = ExpressionsFit (map expression_of es)

pub tree_fits : (t : Tree) → TokensFit (tokens_of t) → ExprFits (e.expr_of t)
tree_fits (number at z) h = rw (expression_of-Lit z) h.0
tree_fits (name at x) h = rw (expression_of-Var x) h.0
tree_fits (element at x o t c) h =
    rw (expression_of-Elem x (e.expr_of t)) (h.0, tree_fits t (fit_append (tokens_of t) (mark square_close c ∷ []) h.1.1).0)
tree_fits (brackets o t c) h = tree_fits t (fit_append (tokens_of t) (mark round_close c ∷ []) h.1).0
tree_fits (negation at t) h = rw (expression_of-Neg (e.expr_of t)) (tree_fits t h.1)
tree_fits (logical_not at t) h = rw (expression_of-Not (e.expr_of t)) (tree_fits t h.1)
tree_fits (joined a at o b) h =
    let both = fit_append (tokens_of a) (operator o at ∷ tokens_of b) h in
    rw (expression_of-Bin o (e.expr_of a) (e.expr_of b)) (tree_fits a both.0, tree_fits b both.1.1)

several_fit : (ts : Separated Tree) → TokensFit (separated_tokens tokens_of ts) → ExprsFit (map e.expr_of (parts_of ts))
several_fit (last t) h = (tree_fits t h, tt)
several_fit (more t at ts) h =
    let both = fit_append (tokens_of t) (mark comma at ∷ separated_tokens tokens_of ts) h in (tree_fits t both.0, several_fit ts both.1.1)

pub arguments_fit : (a : Arguments) → TokensFit (argument_tokens a) → ExprsFit (exprs_of a)
arguments_fit nothing h = tt
arguments_fit (given ts) h = several_fit ts h
