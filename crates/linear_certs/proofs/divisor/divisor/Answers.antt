use Rattle.std.proofs.Common.{arith}
use Rattle.std.specs.Int.{IsGcd}
use Rattle.std.proofs.lemmas.Nat.Gcd.{IsGcd-from_zero, IsGcd-from_mod}
use Rattle.linear_certs.proofs.DivisorLaws.{gcd-found, divides-rest}
use Rattle.linear_certs.proofs.divisor.divisor.Goals as goal

pub loop-b-init : goal.loop-b-init
loop-b-init c = record { up = c.requires.left_up; same = λ g h. h; scales = λ m s one two. (one, two) }

pub loop-b-preserved : goal.loop-b-preserved
loop-b-preserved c = let inv = c.loop-b.invariant in record {
  up = omega arith;
  same = λ g h. inv.same g (IsGcd-from_mod _ _ g h);
  scales = λ m s one two. let both = inv.scales m s one two in (both.1, divides-rest m c.loop-b.a c.loop-b.b s both.0 both.1);
}

pub returns : goal.returns
returns c =
    let inv = c.loop-b.invariant in
    let is : IsGcd c.args.left c.args.right c.loop-b.a = inv.same c.loop-b.a (IsGcd-from_zero _ _ (omega arith)) in record {
      value = gcd-found c.args.left c.args.right c.loop-b.a c.requires.left_up inv.up is;
      up = inv.up;
      divides = (is.0, is.1);
      scales = λ m s one two. (inv.scales m s one two).0;
    }
