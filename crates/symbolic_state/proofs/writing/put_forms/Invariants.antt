use Rattle.std.proofs.Common.{true, take}
use Rattle.symbolic_state.specs.Code.Room.{IsPut}
use Rattle.symbolic_state.specs.Code.Writing.{change_at, finished_forms}
use Rattle.symbolic_state.proofs.writing.put_forms.Given as goal

-- the forms so far
abbrev pub invariant-loop-form : goal.invariant-loop-form
invariant-loop-form l = IsPut l.initial.gathered l.gathered (finished_forms (change_at l.state l.time) (take l.form-index l.forms)) true
