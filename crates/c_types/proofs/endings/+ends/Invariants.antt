use Rattle.std.proofs.Common.{◌≡◌, drop}
use Rattle.c_types.specs.Bodies.{body_of}
use Rattle.c_types.specs.Endings.{can_end}
use Rattle.c_types.proofs.endings.+ends.Given as goal

abbrev pub invariant-can_end-loop-s : goal.invariant-can_end-loop-s
invariant-can_end-loop-s l =
    can_end (body_of (drop l.s-index l.stmts)) ≡ can_end (body_of l.stmts)
