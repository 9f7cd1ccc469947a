-- What a call of the tool answers and puts, by the status.
use Rattle.std.specs.Prelude.{⊤, ◌≡◌, List, [], ◌∷◌, Option, None, Some, IsNone, IsSomeAnd, Contains}
use Rattle.outside.specs.Counts.{Rose}
use Rattle.top_call.specs.Words.{Text, Request, Merge, Run, Replay}
use Rattle.top_call.specs.Replies.{Reply, usage_line}
use Rattle.top_call.specs.Around.{Around, Put, PutInPart, PutNothing}
use Rattle.top_call.specs.Merge.{names_of, MergeAllows}
use Rattle.top_call.specs.Run.{RunAllows, RunGoesDeep}
use Rattle.top_call.specs.Replay.{ReplayAllows, ReplayGoesDeep}
use Rattle.top_call.specs.declared.status.Status.{Status}
use Rattle.top_call.specs.declared.status.Status.TheVariants.{Done, NotProved, Refused, Usage, ReadFailed, WriteFailed, NoMemory, Deep}

-- A line for each command: the files that it names, and what it may reply.
abbrev pub named_files : Request → List Text
named_files (Merge merge) = names_of merge.files
named_files (Run run) = run.file ∷ []
named_files (Replay replay) = names_of replay.files

abbrev pub Allows : (Text → Option Text) → Request → Reply → Type 0
Allows held (Merge merge) reply = MergeAllows held merge reply
Allows held (Run run) reply = RunAllows held run reply
Allows held (Replay replay) reply = ReplayAllows held replay reply

-- The command asks for one frame more than a run may have.
abbrev pub GoesDeep : (Text → Option Text) → Request → Type 0
GoesDeep held (Merge merge) = ⊥
GoesDeep held (Run run) = RunGoesDeep held run
GoesDeep held (Replay replay) = ReplayGoesDeep held replay

-- what may be put where the words ask for this: the usage line, or a reply
abbrev pub MayPut : (Text → Option Text) → Option Request → Text → Type 0
MayPut held None text = text ≡ usage_line
MayPut held (Some request) text = (reply : Reply) × Allows held request reply × (text ≡ reply.text)

-- A reply of this status was put whole.
abbrev pub Replied : Around → Option Request → Status → Type 0
Replied around request status =
    IsSomeAnd request (λ asked. (reply : Reply) × Allows around.held asked reply × (reply.status ≡ status) × Put around reply.text)

-- The whole call, status by status.
abbrev pub Outcome : Around → Option Request → Status → Type 0
Outcome around request Done = Replied around request Done
Outcome around request NotProved = Replied around request NotProved
Outcome around request Refused = Replied around request Refused
Outcome around request Usage = IsNone request × Put around usage_line
Outcome around request ReadFailed =
    Rose around.read_faults_before around.read_faults_after
    × PutNothing around
    × IsSomeAnd request (λ asked. Contains (named_files asked) around.asked)
Outcome around request WriteFailed =
    Rose around.write_faults_before around.write_faults_after
    × ((text : Text) × MayPut around.held request text × PutInPart around text)
Outcome around request NoMemory = PutNothing around
Outcome around request Deep = PutNothing around × IsSomeAnd request (GoesDeep around.held)

-- These put nothing.
abbrev pub PutsNothing : Status → Type 0
PutsNothing ReadFailed = ⊤
PutsNothing NoMemory = ⊤
PutsNothing Deep = ⊤
PutsNothing _ = ⊥
