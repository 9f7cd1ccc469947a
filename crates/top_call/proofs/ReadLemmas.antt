-- A name stands at its place in a list of names.
use Rattle.std.proofs.Common.{◌≡◌, ℕ, suc, ◌≤◌, List, ◌∷◌, arith, sym}
use Rattle.std.specs.Prelude.{Contains}
use Rattle.outside.specs.Counts.{Rose}
use Rattle.top_call.specs.Words.{Text}

pub third : (a b x : Text) (rest : List Text) (asked : Text) → asked ≡ x → Contains (a ∷ b ∷ x ∷ rest) asked
third a b x rest asked is = (2, omega arith, sym is)

-- and so does one of those behind the third
pub behind-three : (a b x : Text) (rest : List Text) (asked : Text) → Contains rest asked → Contains (a ∷ b ∷ x ∷ rest) asked
behind-three a b x rest asked (n, small, is) = (suc (suc (suc n)), omega (arith, small), is)

-- A count that rose from here on rose from an earlier state too.
pub Rose-later : (before here now : ℕ) → before ≤ here → Rose here now → Rose before now
Rose-later before here now earlier rose = omega (arith, rose)
