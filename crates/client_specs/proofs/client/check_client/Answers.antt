use Rattle.std.specs.Prelude.{Ok, Err}
use Rattle.client_specs.specs.Kept.{IsChecked}
use Rattle.client_specs.proofs.ClientLaws.{checked}
use Rattle.client_specs.proofs.client.check_client.Goals as goal

pub invariant_of-result : goal.invariant_of-result
invariant_of-result c =
    let is : IsChecked c.args.first.now.program c.args.second.now.program c.args.spec.now c.args.program (Ok (record { spec = c.args.spec.now; program = c.in-Ok.program }))
    = checked _ _ _ _ c.args.links.now c.program.ensures.program c.program-2.ensures.program c.requires.linked c.args.spec.now c.args.program (Ok c.in-Ok.program) c.in-Ok.ensures in
    rw c.in_ok-name.ensures
    (record {
      first = c.args.first.now.program;
      second = c.args.second.now.program;
      made = record { source = c.args.program; written = c.requires.written; client = is.1; resolved = is.2 };
    })

pub returns-in-Ok : goal.returns-in-Ok
returns-in-Ok c =
    let is : IsChecked c.args.first.now.program c.args.second.now.program c.args.spec.now c.args.program (Ok (record { spec = c.args.spec.now; program = c.in-Ok.program }))
    = checked _ _ _ _ c.args.links.now c.program.ensures.program c.program-2.ensures.program c.requires.linked c.args.spec.now c.args.program (Ok c.in-Ok.program) c.in-Ok.ensures in
    (c.in_ok-name.ensures, is.1, is.2)

pub returns-in-Err : goal.returns-in-Err
returns-in-Err c =
    checked _ _ _ _ c.args.links.now c.program.ensures.program c.program-2.ensures.program c.requires.linked c.args.spec.now c.args.program (Err c.in-Err.fail) c.in-Err.ensures
