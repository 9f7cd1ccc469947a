-- Files in memory, and what a read of them does.
use Rattle.std.specs.Prelude.{◌≡◌, ℕ, ◌≤◌, List, [], Option, Some, IsNone, Contains, take, bytes_eq, ◌⊎◌}
use Rattle.std.specs.Map.{lookup}
use Rattle.outside.specs.Counts.{next}

-- Pairs of a name and its bytes, the reads that are to fail, the reads and the faults so far, and
-- the name that the last failed read asked for.
pub record FilesInMemory : Type 0 where
  pub files : List (List ℕ × List ℕ)
  pub failing : List ℕ
  pub calls : ℕ
  pub faults : ℕ
  pub failed : List ℕ

-- Nothing was read yet.
abbrev pub unread : List (List ℕ × List ℕ) → List ℕ → FilesInMemory
unread files failing = record { files = files; failing = failing; calls = 0; faults = 0; failed = [] }

-- The bytes of the first pair with this name.
abbrev pub held_in : List (List ℕ × List ℕ) → List ℕ → Option (List ℕ)
held_in files name = lookup (λ other. bytes_eq other name) files

-- The next read is to fail, or the name is missing.
abbrev pub MustFail : FilesInMemory → List ℕ → Type 0
MustFail files name = Contains files.failing files.calls ⊎ IsNone (held_in files.files name)

-- A read gives the first bytes of what is held, and counts itself.
pub record Gives (old : FilesInMemory) (name : List ℕ) (most : ℕ) (bytes : List ℕ) (new : FilesInMemory) : Type 0 where
  pub allowed : MustFail old name → ⊥
  pub content : (all : List ℕ) × (held_in old.files name ≡ Some all) × (bytes ≡ take most all)
  pub after : new ≡ record old { calls = next old.calls }

-- A read fails, and counts itself and the fault.
pub record Fails (old : FilesInMemory) (name : List ℕ) (new : FilesInMemory) : Type 0 where
  pub forced : MustFail old name
  pub after : new ≡ record old { calls = next old.calls; faults = next old.faults; failed = name }
  pub later : old.faults ≤ new.faults
