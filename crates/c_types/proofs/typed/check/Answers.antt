use Rattle.std.proofs.Common.{refl}
use Rattle.c_types.proofs.ProgramsTyped.{types}
use Rattle.c_types.proofs.typed.check.Goals as goal

pub invariant_of-result : goal.invariant_of-result
invariant_of-result c = record {
  source = c.args.program;
  written = c.requires;
  typed = types c.args.unit c.args.program c.in_ok-program.ensures.0;
  resolved = c.in_ok-program.ensures.1;
}

pub returns : goal.returns
returns c = (refl, types c.args.unit c.args.program c.in_ok-program.ensures.0, c.in_ok-program.ensures.1)
