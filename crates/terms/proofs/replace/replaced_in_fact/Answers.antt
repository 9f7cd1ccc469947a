use Rattle.std.proofs.Common.{◌∙◌, sym, ap}
use Rattle.terms.specs.declared.fact.Fact.TheVariants as fact
use Rattle.terms.specs.Replacing.{replaced_fact}
use Rattle.terms.specs.Code.Rewriting.{change_of}
use Rattle.terms.proofs.replace.replaced_in_fact.Goals as goal

pub returns-in_ok-copy-in-All : goal.returns-in_ok-copy-in-All
returns-in_ok-copy-in-All c =
    (λ j. fact.All (c.in_ok-copy-in-All.ensures j) (c.in_ok-lo-in-All.ensures j) (c.in_ok-hi-in-All.ensures j) (c.in_ok-body-in-All.ensures j))
    ∙ sym (ap (replaced_fact (change_of c.args.by.now)) c.in-All.is)
