-- What is told of the system's files.
use Rattle.std.specs.Prelude.{ℕ, List}

-- The faults so far, and the name that the last failed read asked for.
pub record FilesFaults : Type 0 where
  pub faults : ℕ
  pub failed : List ℕ
