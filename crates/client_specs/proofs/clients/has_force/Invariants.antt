use Rattle.std.proofs.Common.{◌≡◌, drop}
use Rattle.c_types.specs.Bodies.{body_of}
use Rattle.client_specs.specs.Clients as client
use Rattle.client_specs.proofs.clients.has_force.Given as goal

abbrev pub invariant-loop-s : goal.invariant-loop-s
invariant-loop-s l = client.has_force (body_of (drop l.s-index l.stmts)) ≡ client.has_force (body_of l.stmts)
