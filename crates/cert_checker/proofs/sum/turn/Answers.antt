use Rattle.cert_checker.proofs.StepLaws.{last-fits, turn-applied}
use Rattle.cert_checker.proofs.sum.turn.Goals as goal

pub less_one-first-requires : goal.less_one-first-requires
less_one-first-requires c = (last-fits c.args.rows.now.items _ _ _ c.requires.fit c.pop_two-first.ensures).1

pub push_sum-requires : goal.push_sum-requires
push_sum-requires c = (last-fits c.args.rows.now.items _ _ _ c.requires.fit c.pop_two-first.ensures).0

pub returns : goal.returns
returns c = turn-applied c.args.rows.now.items _ _ _ _ c.push_sum.result c.push_sum.new.rows.items c.pop_two-first.ensures c.less_one-first.ensures c.push_sum.ensures
