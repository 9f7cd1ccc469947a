use Rattle.std.proofs.Common.{◌≡◌, drop}
use Rattle.c_lang.specs.Names.{Bytes}
use Rattle.symbolic_state.specs.Code.Bindings.{values_of}
use Rattle.symbolic_state.specs.Code.Values.{unbound_by}
use Rattle.symbolic_state.proofs.pairs.unbind_arrays.Given as goal

-- the pairs to come lead to the whole
abbrev pub invariant-loop-pair : goal.invariant-loop-pair
invariant-loop-pair l = (x : Bytes) → unbound_by l.step (drop l.pair-index l.pairs) x (values_of l.values x) ≡ unbound_by l.step l.pairs x (values_of l.fn.values x)
