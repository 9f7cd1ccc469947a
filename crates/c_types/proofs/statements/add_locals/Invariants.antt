use Rattle.std.proofs.Common.{◌≡◌, drop}
use Rattle.c_types.specs.Bodies.{body_of}
use Rattle.c_types.specs.Statements as spec
use Rattle.c_types.proofs.statements.add_locals.Given as goal

abbrev pub invariant-loop-s : goal.invariant-loop-s
invariant-loop-s l =
    spec.with_locals l.symbols (body_of (drop l.s-index l.stmts))
    ≡ spec.with_locals l.initial.symbols (body_of l.stmts)
