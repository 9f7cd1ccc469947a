use Rattle.std.proofs.Common.{◌≡◌, ◌+◌, ◌-◌, ◌^◌, ◌≤◌, length, min, sym, ap, ◌∙◌, arith}
use Rattle.std.proofs.Math.ListN.{drop_of_length-le}
use Rattle.terms.specs.Sizes.{facts_size}
use Rattle.terms.proofs.size.facts_size.Goals as goal

pub returns : goal.returns
returns c =
    let past : length c.args.facts.now ≤ c.loop-fact.fact-index = omega (arith, c.loop-fact-test.false) in
    let within = c.loop-fact.invariant.0 in
    let whole : c.loop-fact.total ≡ min (c.loop-fact.total + 0) (2 ^ 64 - 1) = omega (arith, within) in
    whole ∙ ap (λ fs. min (c.loop-fact.total + facts_size fs) (2 ^ 64 - 1)) (sym (drop_of_length-le c.args.facts.now past)) ∙ c.loop-fact.invariant.1
