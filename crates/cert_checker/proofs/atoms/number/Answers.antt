use Rattle.std.proofs.Common.{◌≡◌, length, rules}
use Rattle.cert_checker.proofs.PlaceInAtoms.{known, added}
use Rattle.cert_checker.proofs.atoms.number.Goals as goal

pub returns-in-Some-clause-grown : goal.returns-in-Some-clause-grown
returns-in-Some-clause-grown c = known _ _ c.args.term.now _ c.as_slice.ensures.value c.in-Some.ensures

pub returns-clause-number : goal.returns-clause-number
returns-clause-number c = let next : c.in-Ok-try_from.next ≡ length c.args.atoms.now.items = search rules in
    (added _ _ _ c.args.term.now _ _ c.as_slice.ensures.value c.in_default.ensures c.in_ok-push.ensures.items c.in_ok-copy.ensures next).0

pub returns-clause-grown : goal.returns-clause-grown
returns-clause-grown c = let next : c.in-Ok-try_from.next ≡ length c.args.atoms.now.items = search rules in
    (added _ _ _ c.args.term.now _ _ c.as_slice.ensures.value c.in_default.ensures c.in_ok-push.ensures.items c.in_ok-copy.ensures next).1
