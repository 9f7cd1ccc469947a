use Rattle.std.proofs.Common.{drop, reverse}
use Rattle.cert_checker.specs.Code.Branches.{seen_branches, IsChecking}
use Rattle.cert_checker.proofs.check.check_rules.Given as goal

abbrev pub invariant-loop-rule : goal.invariant-loop-rule
invariant-loop-rule l = IsChecking l.sorts l.rules (drop l.rule-index l.rules) l.fn.start.items l.facts.items (seen_branches (reverse l.waiting.items))
