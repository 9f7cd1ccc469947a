use Rattle.std.proofs.Common.{◌≡◌, ◌≤◌, drop}
use Rattle.c_grammar.specs.Nesting.{too_deep}
use Rattle.c_parser.proofs.brackets.too_deep.Given as goal

abbrev pub invariant-loop-token : goal.invariant-loop-token
invariant-loop-token l = record {
  few : l.open_now ≤ l.deep;
  rest : too_deep l.deep l.open_now (drop l.token-index l.tokens) ≡ too_deep l.deep 0 l.tokens;
}
