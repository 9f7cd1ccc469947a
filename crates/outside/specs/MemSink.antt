-- A sink in memory, and what a put to it does.
use Rattle.std.specs.Prelude.{◌≡◌, ℕ, ◌-◌, ◌<◌, ◌≤◌, min, List, [], ◌++◌, Option, Result, length, take, unwrap_or, ◌==◌, IsErr, is_err, IsSome, if◌then◌else◌, ◌⊎◌, ◌↔◌}
use Rattle.std.specs.Map.{lookup}
use Rattle.outside.specs.Counts.{next}
use Rattle.outside.specs.declared.sink.Failed.{Failed}

-- What was written, the room left, the puts that are to fail with the most bytes that each takes,
-- and the puts and the faults so far.
pub record SinkInMemory : Type 0 where
  pub written : List ℕ
  pub room : ℕ
  pub failing : List (ℕ × ℕ)
  pub calls : ℕ
  pub faults : ℕ

-- Nothing was written yet.
abbrev pub unwritten : ℕ → List (ℕ × ℕ) → SinkInMemory
unwritten room failing = record { written = []; room = room; failing = failing; calls = 0; faults = 0 }

-- The first number that is listed for a call.
abbrev pub listed_for : List (ℕ × ℕ) → ℕ → Option ℕ
listed_for failing call = lookup (λ other. other == call) failing

-- The number that is listed for the next put.
abbrev pub next_cut : SinkInMemory → Option ℕ
next_cut sink = listed_for sink.failing sink.calls

-- How many bytes of a piece the next put takes.
abbrev pub count_taken : SinkInMemory → List ℕ → ℕ
count_taken sink piece = min (min (length piece) sink.room) (unwrap_or (next_cut sink) (length piece))

-- What a put does and answers.
pub record Puts (old : SinkInMemory) (piece : List ℕ) (result : Result (Unit {0}) Failed) (new : SinkInMemory) : Type 0 where
  pub fails : IsErr result ↔ (IsSome (next_cut old) ⊎ (old.room < length piece))
  pub after : new ≡ record old {
    written = old.written ++ take (count_taken old piece) piece;
    room = old.room - count_taken old piece;
    calls = next old.calls;
    faults = if is_err result then next old.faults else old.faults;
  }
  pub later : old.faults ≤ new.faults
