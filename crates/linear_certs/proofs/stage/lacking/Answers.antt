use Rattle.std.proofs.Common.{[]}
use Rattle.std.specs.Prelude.{filter}
use Rattle.std.proofs.lemmas.List.Elements.{filter-append}
use Rattle.linear_certs.specs.Stages.{lacks}
use Rattle.linear_certs.proofs.StageLaws.{kept-step}
use Rattle.linear_certs.proofs.stage.lacking.Goals as goal

pub loop-entry-preserved : goal.loop-entry-preserved
loop-entry-preserved c = kept-step (filter (lacks c.args.atom)) (filter-append (lacks c.args.atom)) [] c.loop-entry.next.items c.add_copy.new.next.items c.args.stage.now
    c.loop-entry.entry-index c.entry-item.result c.loop-entry-test.true c.entry-item.is c.loop-entry.invariant c.in_ok-add_copy.ensures
