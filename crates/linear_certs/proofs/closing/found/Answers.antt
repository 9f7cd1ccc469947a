use Rattle.std.proofs.Common.{rules, ◌≡◌, sym, subst}
use Rattle.linear_certs.specs.Answers.{IsRefutation}
use Rattle.linear_certs.proofs.DerivedLaws.{false-closes}
use Rattle.linear_certs.proofs.closing.found.Goals as goal

pub returns-in-Ok : goal.returns-in-Ok
returns-in-Ok c =
    let entry = c.args.entry.now in
    let is : c.in-Ok.multipliers.items ≡ entry.multipliers = search rules in
    subst (IsRefutation c.args.rows.now) (sym is) (record {
      count = c.requires.derived.count;
      allowed = c.requires.derived.allowed;
      closes = false-closes c.args.rows.now entry c.requires.in_form c.requires.derived c.requires.fails;
      narrow = c.requires.narrow;
    })
