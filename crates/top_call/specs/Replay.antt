-- The command `replay`: what it reads, what it refuses, and what it puts.
use Rattle.std.specs.Prelude.{◌≡◌, ◌⊎◌, Option}
use Rattle.c_lang.specs.declared.refusal.Refusal.{Refusal}
use Rattle.front_end.specs.Conditions.{IsFirstRefusal}
use Rattle.front_end.specs.Worlds.{Texts, conditions, IsAccepted}
use Rattle.update_semantics.specs.UpdatingRun.{World, events_updating}
use Rattle.run_replay.specs.declared.replay.Close.{Close}
use Rattle.run_replay.specs.Replays.{IsUpdatedClose, UpdatedStaysShallow, UpdatedGetsDeep}
use Rattle.top_call.specs.Words.{Text, ReplayRequest}
use Rattle.top_call.specs.Replies.{Reply, done, refused}
use Rattle.top_call.specs.Merge.{AreHeld}
use Rattle.top_call.specs.Shown.{run_lines}

-- The texts are accepted as this world. The lines are those of the events of its updating run, and of how that
-- stands then; no step made one frame more than 10,000.
pub record IsReplayOf (replay : ReplayRequest) (ts : Texts) (lines : Text) : Type 0 where
  pub world : World
  pub close : Close
  pub accepted : IsAccepted replay.points ts world
  pub shallow : UpdatedStaysShallow world replay.answers replay.steps
  pub closes : IsUpdatedClose world replay.answers replay.steps close
  pub are_lines : lines ≡ run_lines (events_updating world replay.answers replay.steps) close

-- The texts are refused by the first condition that fails, or the run of their world is shown.
abbrev pub Replays : ReplayRequest → Texts → Reply → Type 0
Replays replay ts reply =
    ((refusal : Refusal) × IsFirstRefusal (conditions replay.points ts) refusal × (reply ≡ refused refusal))
    ⊎ ((lines : Text) × IsReplayOf replay ts lines × (reply ≡ done lines))

-- The texts are accepted as a world, and a step of its run makes one frame more than 10,000.
abbrev pub ReplaysTooDeep : ReplayRequest → Texts → Type 0
ReplaysTooDeep replay ts = (world : World) × IsAccepted replay.points ts world × UpdatedGetsDeep world replay.answers replay.steps

-- what `replay` may reply over the held files
abbrev pub ReplayAllows : (Text → Option Text) → ReplayRequest → Reply → Type 0
ReplayAllows held replay reply = (ts : Texts) × AreHeld held replay.files ts × Replays replay ts reply

abbrev pub ReplayGoesDeep : (Text → Option Text) → ReplayRequest → Type 0
ReplayGoesDeep held replay = (ts : Texts) × AreHeld held replay.files ts × ReplaysTooDeep replay ts
