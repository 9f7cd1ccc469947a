use Rattle.std.proofs.Common.{◌≤◌, length, arith}
use Rattle.terms.specs.Names.{fact_names}
use Rattle.terms.proofs.FreeLaws.{gather_more, gather_end}
use Rattle.terms.proofs.names.add_facts.Goals as goal

pub loop-fact-preserved : goal.loop-fact-preserved
loop-fact-preserved c = gather_more fact_names c.args.names.now.items c.loop-fact.names.items c.add_fact.new.names.items c.args.facts.now c.loop-fact.fact-index c.fact-item.result
    c.loop-fact-test.true c.fact-item.is c.loop-fact.invariant c.in_ok-add_fact.ensures

pub returns : goal.returns
returns c =
    let past : length c.args.facts.now ≤ c.loop-fact.fact-index = omega (arith, c.loop-fact-test.false) in
    gather_end fact_names c.args.names.now.items c.loop-fact.names.items c.args.facts.now c.loop-fact.fact-index past c.loop-fact.invariant
