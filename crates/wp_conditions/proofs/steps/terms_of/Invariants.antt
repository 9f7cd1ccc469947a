use Rattle.std.proofs.Common.{◌≡◌, map, take}
use Rattle.c_lang.specs.Trees.{expression_of}
use Rattle.expression_conditions.specs.Meanings.{val}
use Rattle.expression_conditions.specs.Numbers.{numbers_in}
use Rattle.wp_conditions.proofs.steps.terms_of.Given as goal

abbrev pub invariant-loop-expr : goal.invariant-loop-expr
invariant-loop-expr l = l.terms.items ≡ map (val (numbers_in l.names)) (map expression_of (take l.expr-index l.exprs))
