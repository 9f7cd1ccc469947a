use Rattle.std.proofs.Common.{◌∙◌}
use Rattle.cert_checker.specs.Rules.{bounds_in}
use Rattle.cert_checker.proofs.RangeLaws.{some-given, none-given}
use Rattle.cert_checker.proofs.range.bounds.Goals as goal

pub returns-in-Some : goal.returns-in-Some
returns-in-Some c = c.entry_bounds.ensures ∙ some-given (bounds_in c.args.of.now) c.args.sorts.now c.in-Some.entry.now c.in-Some.ensures

pub returns-in-None : goal.returns-in-None
returns-in-None c = none-given (bounds_in c.args.of.now) c.args.sorts.now c.in-None.ensures
