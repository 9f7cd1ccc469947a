use Rattle.std.proofs.Common.{subst, reverse, to_z, of_z}
use Rattle.std.specs.Int.{w128}
use Rattle.std.proofs.lemmas.Int.{to_z-of_z}
use Rattle.cert_checker.specs.Code.Steps.{IsApplied, sum_behind}
use Rattle.cert_checker.proofs.StepLaws.{last-fits, sum-applied}
use Rattle.cert_checker.proofs.sum.add.Goals as goal

pub push_sum-requires : goal.push_sum-requires
push_sum-requires c = (last-fits c.args.rows.now.items _ _ _ c.requires.fit c.pop_two-first.ensures).1

pub returns : goal.returns
returns c = subst (λ t. IsApplied (sum_behind t (reverse c.args.rows.now.items)) c.push_sum.result c.push_sum.new.rows.items) (to_z-of_z w128 c.args.times c.ranges.times)
    (sum-applied (to_z w128 (of_z w128 c.args.times)) c.args.rows.now.items _ _ _ c.push_sum.result c.push_sum.new.rows.items c.pop_two-first.ensures c.push_sum.ensures)
