use Rattle.std.proofs.Common.{◌≡◌, ◌≤◌, ◌-◌, ◌++◌, length, drop}
use Rattle.expression_conditions.specs.Meanings.{current}
use Rattle.initial_conditions.specs.Code.Elements.{each_is}
use Rattle.initial_conditions.proofs.elements.put_each.Given as goal

-- the facts so far and those to come
abbrev pub invariant-loop-place : goal.invariant-loop-place
invariant-loop-place l = record {
  within : l.place ≤ length l.elements;
  made : l.out.items ++ each_is (current l.base) l.place (drop l.place l.elements) ≡ l.initial.out.items ++ each_is (current l.base) 0 l.elements;
}

abbrev pub decreases-loop-place : goal.decreases-loop-place
decreases-loop-place l = length l.elements - l.place
