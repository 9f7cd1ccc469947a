use Rattle.std.proofs.Common.{◌≡◌, take, drop}
use Rattle.hint_reading.specs.Meaning.{hints_of}
use Rattle.hint_reading.specs.Demands.{first_unmet, demands, demands_behind}
use Rattle.hint_reading.specs.Code.Parts.{seen_parts}
use Rattle.hint_reading.proofs.parts.parts_of.Given as goal

abbrev pub invariant-loop-item : goal.invariant-loop-item
invariant-loop-item l = record {
  unmet : first_unmet (demands l.names l.items) ≡ first_unmet (demands_behind l.names (take l.item-index l.items) (drop l.item-index l.items));
  seen : seen_parts l.parts ≡ hints_of l.names (take l.item-index l.items);
}
