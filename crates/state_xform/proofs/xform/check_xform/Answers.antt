use Rattle.std.specs.Prelude.{Ok, Err}
use Rattle.state_xform.specs.Kept.{IsChecked}
use Rattle.state_xform.proofs.TransformerLaws.{checked}
use Rattle.state_xform.proofs.xform.check_xform.Goals as goal

pub invariant_of-result : goal.invariant_of-result
invariant_of-result c =
    let is : IsChecked c.args.first.now.program c.args.second.now.program c.args.program (Ok c.in-Ok.program)
    = checked _ _ _ _ c.args.links.now c.program.ensures.program c.program-2.ensures.program c.requires.linked c.args.program (Ok c.in-Ok.program) c.in-Ok.ensures in
    record {
      first = c.args.first.now.program;
      second = c.args.second.now.program;
      made = record { source = c.args.program; written = c.requires.written; transformer = is.0; resolved = is.1 };
    }

pub returns-in-Ok : goal.returns-in-Ok
returns-in-Ok c =
    checked _ _ _ _ c.args.links.now c.program.ensures.program c.program-2.ensures.program c.requires.linked c.args.program (Ok c.in-Ok.program) c.in-Ok.ensures

pub returns-in-Err : goal.returns-in-Err
returns-in-Err c =
    checked _ _ _ _ c.args.links.now c.program.ensures.program c.program-2.ensures.program c.requires.linked c.args.program (Err c.in-Err.fail) c.in-Err.ensures
