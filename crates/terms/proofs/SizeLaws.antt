-- Sums that stand still at a limit.
use Rattle.std.proofs.Common.{◌≡◌, ℕ, ◌+◌, arith, min}

pub limited_sum : (limit a b r : ℕ) → min (min (a + min b limit) limit + r) limit ≡ min (a + (b + r)) limit
limited_sum limit a b r = omega arith

pub two_limited : (limit a b : ℕ) → min (min a limit + min b limit) limit ≡ min (a + b) limit
two_limited limit a b = omega arith

pub ruleset totals = (two_limited)
