use Rattle.std.proofs.Common.{◌≡◌, [], map, flat_map, take}
use Rattle.c_lang.specs.Trees.{expression_of}
use Rattle.expression_conditions.specs.Code.Due.{due}
use Rattle.expression_conditions.specs.Code.Seen.{seen_owed}
use Rattle.expression_conditions.proofs.owed.gather_all.Given as goal

abbrev pub invariant-loop-expr : goal.invariant-loop-expr
invariant-loop-expr l = map seen_owed l.all.items ≡ flat_map (due []) (map expression_of (take l.expr-index l.exprs))
