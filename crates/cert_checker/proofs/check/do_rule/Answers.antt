use Rattle.std.proofs.Common.{◌≡◌, length, rules, ap}
use Rattle.std.specs.Prelude.{option_map}
use Rattle.cert_checker.specs.Code.Made.{seen}
use Rattle.cert_checker.proofs.BranchLaws.{done-answer}
use Rattle.cert_checker.proofs.check.do_rule.Goals as goal

pub returns : goal.returns
returns c =
    let len : c.len.result ≡ length c.take_up.new.facts.items = search rules in
    done-answer c.args.sorts.now c.args.rule.now c.args.facts.now.items c.take_up.new.facts.items c.as_slice.result.now c.args.waiting.now.items c.pop.new.self.items c.put_children.new.waiting.items
    c.in-Some.branch (seen c.in-Some-2.made) c.len.result (option_map seen c.in_ok-made.field-0)
    c.in-Some.ensures.items c.requires c.in_ok-take_up.ensures c.as_slice.ensures.value c.in_ok-made.ensures (ap (option_map seen) c.in-Some-2.is) len c.in_ok-put_children.ensures
