use Rattle.std.proofs.Common.{◌≡◌, drop}
use Rattle.c_grammar.specs.Units as units
use Rattle.c_parser.proofs.functions.body_start.Given as goal

abbrev pub invariant-loop-param : goal.invariant-loop-param
invariant-loop-param l = record {
  rest : units.all_declared (drop l.param-index l.params) l.scope ≡ units.body_start l.params l.fn.early;
  count : l.scope.count ≡ 0;
}
