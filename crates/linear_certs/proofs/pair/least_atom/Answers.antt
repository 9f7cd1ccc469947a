use Rattle.std.proofs.Common.{◌≡◌, ◌∙◌, ◌+◌, ap, sym, subst, drop}
use Rattle.linear_certs.specs.Stages.{first_atom, smaller, least_atom}
use Rattle.linear_certs.proofs.LeastLaws.{least-next, least-end}
use Rattle.linear_certs.proofs.pair.least_atom.Goals as goal

pub loop-entry-preserved : goal.loop-entry-preserved
loop-entry-preserved c =
    let entries = c.args.entries.now in
    let new_is : c.smaller-least.result ≡ smaller c.loop-entry.least (first_atom c.entry-item.result.row.parts) = c.smaller-least.ensures ∙ ap (smaller c.loop-entry.least) c.first_atom.ensures in
    subst (λ o. least_atom entries ≡ smaller o (least_atom (drop (c.loop-entry.entry-index + 1) entries))) (sym new_is)
    (least-next entries c.loop-entry.entry-index c.entry-item.result c.loop-entry.least c.loop-entry-test.true c.entry-item.is c.loop-entry.invariant)

pub returns : goal.returns
returns c = least-end c.args.entries.now c.loop-entry.entry-index c.loop-entry.least c.loop-entry-test.false c.loop-entry.invariant
