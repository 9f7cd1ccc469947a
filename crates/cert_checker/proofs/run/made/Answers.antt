use Rattle.std.proofs.Common.{reverse, [], ◌≤◌, length, subst, sym, rules}
use Rattle.cert_checker.specs.Code.Steps.{ComesTo}
use Rattle.cert_checker.proofs.RunLaws.{popped, at-end, some-row, fails-alike}
use Rattle.cert_checker.proofs.run.made.Goals as goal

pub returns-in-Err-clause-makes : goal.returns-in-Err-clause-makes
returns-in-Err-clause-makes c = λ g h. fails-alike g c.in-Err.fail [] (reverse c.run.new.rows.items) c.run.new.atoms.items
    (c.in-Err.ensures.goes_on g (subst (λ l. ComesTo g (reverse c.args.steps.items) (reverse l) c.args.atoms.now.items) (sym c.new-rows.ensures.items) h))

pub unreachable-requires : goal.unreachable-requires
unreachable-requires c = let some : 1 ≤ length c.run.new.rows.items = some-row c.requires.goal c.run.new.rows.items c.run.new.atoms.items
    (c.in_default.ensures.goes_on c.requires.goal (subst (λ l. ComesTo c.requires.goal (reverse c.args.steps.items) (reverse l) c.args.atoms.now.items) (sym c.new-rows.ensures.items) c.requires.comes)) in
    search rules

pub returns-clause-makes : goal.returns-clause-makes
returns-clause-makes c = λ g h. at-end g c.run.new.rows.items (reverse c.pop.new.self.items) c.in-Some.row c.run.new.atoms.items
    (c.in_default.ensures.goes_on g (subst (λ l. ComesTo g (reverse c.args.steps.items) (reverse l) c.args.atoms.now.items) (sym c.new-rows.ensures.items) h))
    (popped c.run.new.rows.items c.pop.new.self.items c.in-Some.row c.in-Some.ensures.items)
