use Rattle.std.proofs.Common.{◌≡◌}
use Rattle.run_replay.specs.Code.After.{IsAfter}
use Rattle.run_replay.proofs.steps.make_steps.Given as goal

abbrev pub invariant-loop : goal.invariant-loop
invariant-loop g l =
    let M = g.M.Stepping in
    record {
      next : M.next l.machine ≡ M.next l.fn.machine;
      after : IsAfter (M.next l.fn.machine) (M.config l.fn.machine) l.fn.answers l.counter (M.config l.machine) l.answers l.events.items;
    }
