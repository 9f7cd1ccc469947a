use Rattle.std.proofs.Common.{◌≡◌, OnOk, subst}
use Rattle.plain_run.specs.Values.{seen_value}
use Rattle.update_semantics.specs.Code.Cells.{state_of}
use Rattle.update_semantics.specs.Code.Environments.{state_in}
use Rattle.update_semantics.specs.Linked.{function_at}
use Rattle.update_semantics.specs.UpdatingRun.{put_linked}
use Rattle.update_semantics.proofs.environment.UpdatedNamesEnvironment.put.Goals as goal

pub returns-clause-put : goal.returns-clause-put
returns-clause-put c =
    let g = state_in c.args.self.now in
    subst (λ k. OnOk c.put.result (state_of c.put.new.self ≡ record g { values = put_linked g.values k (seen_value function_at c.args.value) }))
    c.cell-cell.ensures c.put.ensures.put
