use Rattle.std.proofs.Common.{◌≡◌, ◌≤◌, ◌-◌, length, drop}
use Rattle.c_lang.specs.Names.{Bytes}
use Rattle.symbolic_state.specs.Code.Bindings.{values_of}
use Rattle.symbolic_state.specs.Code.Values.{bound_by}
use Rattle.symbolic_state.proofs.pairs.bind_arrays.Given as goal

-- the pairs to come lead to the whole
abbrev pub invariant-loop-pair : goal.invariant-loop-pair
invariant-loop-pair l = record {
  within : l.pair ≤ length l.pairs;
  rest : (x : Bytes) → bound_by l.step l.pair (drop l.pair l.pairs) x (values_of l.values x) ≡ bound_by l.step 0 l.pairs x (values_of l.fn.values x);
}

abbrev pub decreases-loop-pair : goal.decreases-loop-pair
decreases-loop-pair l = length l.pairs - l.pair
