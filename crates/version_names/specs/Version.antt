-- The two versions of an updated program.
use Rattle.std.specs.Prelude.{Bool, true, false}

pub data Version : Type 0 where
  Old : Version
  New : Version

abbrev pub is_old : Version → Bool
is_old Old = true
is_old New = false
