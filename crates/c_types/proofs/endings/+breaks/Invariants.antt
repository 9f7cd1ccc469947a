use Rattle.std.proofs.Common.{◌≡◌, drop}
use Rattle.c_types.specs.Bodies.{body_of}
use Rattle.c_types.specs.Endings.{any_breaks}
use Rattle.c_types.proofs.endings.+breaks.Given as goal

abbrev pub invariant-any_breaks-loop-s : goal.invariant-any_breaks-loop-s
invariant-any_breaks-loop-s l =
    any_breaks (body_of (drop l.s-index l.stmts)) ≡ any_breaks (body_of l.stmts)
