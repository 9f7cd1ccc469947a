use Rattle.std.proofs.Common.{◌≡◌, drop}
use Rattle.c_lang.specs.Programs.{func_named}
use Rattle.state_xform.specs.Transformers.{start_name}
use Rattle.state_xform.proofs.transformers.start_of.Given as goal

abbrev pub invariant-loop-f : goal.invariant-loop-f
invariant-loop-f l = func_named (drop l.f-index l.funcs) start_name ≡ func_named l.funcs start_name
