use Rattle.std.proofs.Common.{◌≤◌, ◌-◌, true, length}
use Rattle.symbolic_state.specs.Steps.{outermost}
use Rattle.symbolic_state.specs.Code.Joined.{given_of}
use Rattle.symbolic_state.specs.Code.Room.{IsPut}
use Rattle.symbolic_state.proofs.state.SymbolicState.put_given.Given as goal

-- the facts of the steps so far
abbrev pub invariant-loop-number : goal.invariant-loop-number
invariant-loop-number l = record {
  within : l.number ≤ length l.self;
  given : IsPut l.initial.gathered l.gathered (given_of (outermost l.number l.self)) true;
}

abbrev pub decreases-loop-number : goal.decreases-loop-number
decreases-loop-number l = length l.self - l.number
