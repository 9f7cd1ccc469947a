use Rattle.std.proofs.Common.{◌≡◌, drop}
use Rattle.c_lang.specs.Programs.{func_named}
use Rattle.client_specs.proofs.clients.named.Given as goal

abbrev pub invariant-loop-f : goal.invariant-loop-f
invariant-loop-f l = func_named (drop l.f-index l.funcs) l.name ≡ func_named l.funcs l.name
