-- One parameter of a pointer more.
use Rattle.std.proofs.Common.{◌≡◌, ℕ, zero, suc, ◌-◌, ◌<◌, ◌++◌, ap, codes, arith}
use Rattle.merge_printer.specs.Statements.{more_ints}

pub more_ints_step : (n : ℕ) → 0 < n → more_ints n ≡ codes ", int" ++ more_ints (n - 1)
more_ints_step zero h = absurd (omega arith)
more_ints_step (suc n) h = ap (λ k. codes ", int" ++ more_ints k) (omega arith)
