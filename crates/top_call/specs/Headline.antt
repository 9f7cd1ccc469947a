-- What `merge`, `run` and `replay` owe where files and sink tell their bytes, as those in memory do. For the operating
-- system's files and standard output that is trusted.
use Rattle.std.specs.Prelude.{⊤, ◌≡◌, ◌++◌, Option, Some, None, ◌⊎◌}
use Rattle.outside.specs.Counts.{Rose}
use Rattle.c_lang.specs.declared.unit.Unit.TheVariants as unit
use Rattle.c_lang.specs.declared.program.Program.{Program}
use Rattle.top_call.specs.Words.{Text, ClientFile, UpdateFiles, MergeRequest, RunRequest, ReplayRequest, Request, Merge, Run, Replay}
use Rattle.front_end.specs.Conditions.{AllHold}
use Rattle.front_end.specs.Worlds.{ClientText, Texts, conditions}
use Rattle.top_call.specs.MergedText.{IsMergedText}
use Rattle.front_end.specs.TypedText.{IsTypedText}
use Rattle.top_call.specs.Run.{IsRunOf, GoesTooDeep}
use Rattle.top_call.specs.Replay.{IsReplayOf, ReplaysTooDeep}
use Rattle.top_call.specs.Around.{Around}
use Rattle.top_call.specs.declared.status.Status.{Status}
use Rattle.top_call.specs.declared.status.Status.TheVariants.{Done, NoMemory, Deep}

-- There is no client, or the files hold this text under its name.
abbrev pub HoldClient : Around → Option ClientFile → Option ClientText → Type 0
HoldClient around None None = ⊤
HoldClient around (Some client) (Some c) = (around.held client.file ≡ Some c.text) × (c.spec ≡ client.spec)
HoldClient around _ _ = ⊥

-- The files hold these texts under the names of the request.
pub record Hold (around : Around) (update : UpdateFiles) (texts : Texts) : Type 0 where
  pub old : around.held update.old ≡ Some texts.old
  pub new : around.held update.new ≡ Some texts.new
  pub xform : around.held update.xform ≡ Some texts.xform
  pub client : HoldClient around update.client texts.client

-- With `Done` the sink gained the merged text of what the files hold.
abbrev pub WritesMergedText : Around → Option Request → Status → Type 0
WritesMergedText around request status =
    (merge : MergeRequest) (ts : Texts) (written : Text)
    → request ≡ Some (Merge merge) → Hold around merge.files ts → around.written_before ≡ Some written → status ≡ Done
    → (text : Text) × (around.written_after ≡ Some (written ++ text)) × IsMergedText merge.points ts text

-- Neither files nor sink had a fault.
pub record HadNoFault (around : Around) : Type 0 where
  pub reads : Rose around.read_faults_before around.read_faults_after → ⊥
  pub writes : Rose around.write_faults_before around.write_faults_after → ⊥

-- Texts that meet all conditions of a world are merged, unless there was a fault or memory was wanted.
abbrev pub MergesWhatIsAccepted : Around → Option Request → Status → Type 0
MergesWhatIsAccepted around request status =
    (merge : MergeRequest) (ts : Texts)
    → request ≡ Some (Merge merge) → Hold around merge.files ts → AllHold (conditions merge.points ts) → HadNoFault around
    → (status ≡ Done) ⊎ (status ≡ NoMemory)

-- With `Done` the sink gained the lines of the run of the text that the file holds.
abbrev pub WritesEvents : Around → Option Request → Status → Type 0
WritesEvents around request status =
    (run : RunRequest) (text written : Text)
    → request ≡ Some (Run run) → around.held run.file ≡ Some text → around.written_before ≡ Some written → status ≡ Done
    → (lines : Text) × (around.written_after ≡ Some (written ++ lines)) × IsRunOf run text lines

-- A text that is a typed program is run, unless there was a fault, memory was wanted, or the run goes too deep.
abbrev pub RunsWhatIsAccepted : Around → Option Request → Status → Type 0
RunsWhatIsAccepted around request status =
    (run : RunRequest) (text : Text) (program : Program)
    → request ≡ Some (Run run) → around.held run.file ≡ Some text → IsTypedText unit.Merge text program → HadNoFault around
    → (status ≡ Done) ⊎ ((status ≡ NoMemory) ⊎ ((status ≡ Deep) × GoesTooDeep run text))

-- With `Done` the sink gained the lines of the updating run of what the files hold.
abbrev pub WritesUpdatedEvents : Around → Option Request → Status → Type 0
WritesUpdatedEvents around request status =
    (replay : ReplayRequest) (ts : Texts) (written : Text)
    → request ≡ Some (Replay replay) → Hold around replay.files ts → around.written_before ≡ Some written → status ≡ Done
    → (lines : Text) × (around.written_after ≡ Some (written ++ lines)) × IsReplayOf replay ts lines

-- Texts that meet all conditions of a world are replayed, unless there was a fault, memory was wanted, or the
-- run goes too deep.
abbrev pub ReplaysWhatIsAccepted : Around → Option Request → Status → Type 0
ReplaysWhatIsAccepted around request status =
    (replay : ReplayRequest) (ts : Texts)
    → request ≡ Some (Replay replay) → Hold around replay.files ts → AllHold (conditions replay.points ts) → HadNoFault around
    → (status ≡ Done) ⊎ ((status ≡ NoMemory) ⊎ ((status ≡ Deep) × ReplaysTooDeep replay ts))
