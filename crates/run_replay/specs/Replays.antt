-- What a replay says: of any run, of a program's run, and of a world's updating run.
use Rattle.std.specs.Prelude.{ℕ, ◌<◌, ◌≤◌, ℤ, List}
use Rattle.c_lang.specs.Limits.{frame_limit}
use Rattle.c_lang.specs.declared.program.Program.{Program}
use Rattle.plain_run.specs.Moves.{Move, events_of}
use Rattle.plain_run.specs.Steps.{Config}
use Rattle.plain_run.specs.PlainRun.{start, step}
use Rattle.plain_run.specs.Runs.{frame_count}
use Rattle.update_semantics.specs.UpdatingRun.{World, start_updating, step_updating}
use Rattle.run_replay.specs.declared.replay.Close.{Close}
use Rattle.run_replay.specs.Closes.{IsClose}
use Rattle.run_replay.specs.Reached.{reached}

-- the run from a configuration on by a function that gives each move, with answers, and n steps of it
module _ {F G O : Type 0} (next : Config F G O → Move (Config F G O)) (first : Config F G O) (a : List ℤ) (n : ℕ) where
  -- how it stands after them
  abbrev pub IsRunClose : Close → Type 0
  IsRunClose close = let here = reached next n first a in IsClose (next here.0) here.1 (events_of next n first a) close

  -- none of them makes frame 10,001
  abbrev pub RunStaysShallow : Type 0
  RunStaysShallow = (k : ℕ) → k ≤ n → frame_count (reached next k first a).0 ≤ frame_limit

  -- one of them does
  abbrev pub RunGetsDeep : Type 0
  RunGetsDeep = (k : ℕ) × ((k ≤ n) × (frame_limit < frame_count (reached next k first a).0))

-- ---- of a program

abbrev pub IsPlainClose : Program → List ℤ → ℕ → Close → Type 0
IsPlainClose P = IsRunClose (step P) (start P)

abbrev pub StaysShallow : Program → List ℤ → ℕ → Type 0
StaysShallow P = RunStaysShallow (step P) (start P)

abbrev pub GetsDeep : Program → List ℤ → ℕ → Type 0
GetsDeep P = RunGetsDeep (step P) (start P)

-- ---- of a world

abbrev pub IsUpdatedClose : World → List ℤ → ℕ → Close → Type 0
IsUpdatedClose W = IsRunClose (step_updating W) (start_updating W)

abbrev pub UpdatedStaysShallow : World → List ℤ → ℕ → Type 0
UpdatedStaysShallow W = RunStaysShallow (step_updating W) (start_updating W)

abbrev pub UpdatedGetsDeep : World → List ℤ → ℕ → Type 0
UpdatedGetsDeep W = RunGetsDeep (step_updating W) (start_updating W)
