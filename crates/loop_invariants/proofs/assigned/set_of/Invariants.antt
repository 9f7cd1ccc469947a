use Rattle.std.proofs.Common.{◌≡◌, ◌||◌, drop}
use Rattle.c_lang.specs.Names.{Bytes}
use Rattle.loop_invariants.specs.SetNames.{is_among}
use Rattle.loop_invariants.specs.Code.Listing.{has}
use Rattle.loop_invariants.proofs.assigned.set_of.Given as goal

abbrev pub invariant-loop-name : goal.invariant-loop-name
invariant-loop-name l = (x : Bytes) → is_among x l.names ≡ (is_among x (drop l.name-index l.names) || has l.set x)
