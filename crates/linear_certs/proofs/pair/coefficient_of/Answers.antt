use Rattle.std.proofs.Common.{◌≡◌, false, arith, sym, get_or, nat_eq, pos}
use Rattle.linear_certs.proofs.PairLaws.{coefficient-other}
use Rattle.linear_certs.proofs.pair.coefficient_of.Goals as goal

pub returns-else-first-atom : goal.returns-else-first-atom
returns-else-first-atom c =
    let other : nat_eq (get_or c.as_slice-parts.result.now 0 (0, pos 0)).0 c.args.atom ≡ false = grind (arith, c.if-first-atom.false) in
    sym (coefficient-other c.args.atom c.args.row.now.parts c.as_slice-parts.result.now (0, pos 0) c.as_slice-parts.ensures c.requires other)
