-- The command `run`: what it reads, what it refuses, and what it puts.
use Rattle.std.specs.Prelude.{◌≡◌, ◌⊎◌, Option}
use Rattle.c_lang.specs.declared.unit.Unit.TheVariants.{Merge}
use Rattle.c_lang.specs.declared.refusal.Refusal.{Refusal}
use Rattle.c_lang.specs.declared.program.Program.{Program}
use Rattle.plain_run.specs.PlainRun.{events}
use Rattle.run_replay.specs.declared.replay.Close.{Close}
use Rattle.run_replay.specs.Replays.{IsPlainClose, StaysShallow, GetsDeep}
use Rattle.top_call.specs.Words.{Text, RunRequest}
use Rattle.top_call.specs.Replies.{Reply, done, refused}
use Rattle.top_call.specs.Held.{IsHeld}
use Rattle.top_call.specs.Shown.{run_lines}
use Rattle.front_end.specs.TypedText.{HasProgram, IsRefused}

-- The text is a typed program. The lines are those of the events of its run, and of how that stands then;
-- no step made one frame more than 10,000.
pub record IsRunOf (run : RunRequest) (text lines : Text) : Type 0 where
  pub program : Program
  pub close : Close
  pub has_program : HasProgram Merge text program
  pub shallow : StaysShallow program run.answers run.steps
  pub closes : IsPlainClose program run.answers run.steps close
  pub are_lines : lines ≡ run_lines (events program run.answers run.steps) close

-- The text is refused, or its run is shown.
abbrev pub Runs : RunRequest → Text → Reply → Type 0
Runs run text reply =
    ((refusal : Refusal) × IsRefused Merge text refusal × (reply ≡ refused refusal))
    ⊎ ((lines : Text) × IsRunOf run text lines × (reply ≡ done lines))

-- The text is a typed program, and a step of its run makes one frame more than 10,000.
abbrev pub GoesTooDeep : RunRequest → Text → Type 0
GoesTooDeep run text = (program : Program) × HasProgram Merge text program × GetsDeep program run.answers run.steps

-- what `run` may reply over the held files
abbrev pub RunAllows : (Text → Option Text) → RunRequest → Reply → Type 0
RunAllows held run reply = (text : Text) × IsHeld held Merge run.file text × Runs run text reply

abbrev pub RunGoesDeep : (Text → Option Text) → RunRequest → Type 0
RunGoesDeep held run = (text : Text) × IsHeld held Merge run.file text × GoesTooDeep run text
