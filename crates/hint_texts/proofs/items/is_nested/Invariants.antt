use Rattle.std.proofs.Common.{◌≡◌, ◌≤◌, drop}
use Rattle.hint_texts.specs.Texts.{is_nested}
use Rattle.hint_texts.proofs.items.is_nested.Given as goal

abbrev pub invariant-loop-token : goal.invariant-loop-token
invariant-loop-token l = record {
  same : is_nested l.count (drop l.token-index l.tokens) ≡ is_nested 0 l.tokens;
  few : l.count ≤ 64;
}
