use Rattle.std.proofs.Common.{◌≡◌, ◌++◌, take}
use Rattle.loop_invariants.specs.Code.Seeking.{names_in}
use Rattle.loop_invariants.proofs.clauses.put_owned.Given as goal

abbrev pub invariant-loop-name : goal.invariant-loop-name
invariant-loop-name l = l.out.items ≡ l.initial.out.items ++ names_in (take l.name-index l.names)
