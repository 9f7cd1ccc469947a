-- The program's data as plain data.
use Rattle.std.specs.Prelude.{◌≡◌, ◌<◌, ℕ, ℤ, List, [], ◌∷◌, length, Vec, Option, option_map}
use Rattle.std.specs.Borrow.{Bor}
use Rattle.std.specs.declared.alloc.Global.{Global}
use Rattle.top_call.specs.Words as plain
use Rattle.front_end.specs.Worlds as worlds
use Rattle.top_call.specs.Replies as replies
use Rattle.top_call.specs.declared.words.ClientFile.{ClientFile}
use Rattle.top_call.specs.declared.words.UpdateFiles.{UpdateFiles}
use Rattle.top_call.specs.declared.words.Request.{Request}
use Rattle.top_call.specs.declared.words.Request.TheVariants.{Merge, Run, Replay}
use Rattle.top_call.specs.declared.run_words.RunRequest.{RunRequest}
use Rattle.top_call.specs.declared.merge_words.MergeRequest.{MergeRequest}
use Rattle.top_call.specs.declared.replay_words.ReplayRequest.{ReplayRequest}
use Rattle.top_call.specs.declared.option_words.Chosen.{Chosen}
use Rattle.top_call.specs.declared.option_words.Chosen.TheVariants.{Nothing, One, Several}
use Rattle.top_call.specs.declared.texts.ClientText.{ClientText}
use Rattle.top_call.specs.declared.texts.Texts.{Texts}
use Rattle.top_call.specs.declared.reply.Reply.{Reply}

abbrev pub seen_text : Bor plain.Text → plain.Text
seen_text text = text.now

abbrev pub seen_client_file : ClientFile → plain.ClientFile
seen_client_file client = record { file = client.file.now; spec = client.spec.now }

abbrev pub seen_update_files : UpdateFiles → plain.UpdateFiles
seen_update_files update = record {
  old = update.old.now;
  new = update.new.now;
  xform = update.xform.now;
  client = option_map seen_client_file update.client;
}

abbrev pub seen_numbers : Vec ℤ Global → List ℤ
seen_numbers numbers = numbers.items

abbrev pub seen_run : RunRequest → plain.RunRequest
seen_run run = record { file = run.file.now; answers = run.answers.items; steps = run.steps }

abbrev pub seen_naturals : Vec ℕ Global → List ℕ
seen_naturals numbers = numbers.items

-- a name that is given, or none is
abbrev pub seen_spec : Option (Bor plain.Text) → Option plain.Text
seen_spec spec = option_map seen_text spec

-- points that are listed, or none are
abbrev pub seen_points : Option (Vec ℕ Global) → Option (List ℕ)
seen_points points = option_map seen_naturals points

abbrev pub seen_merge : MergeRequest → plain.MergeRequest
seen_merge merge = record { files = seen_update_files merge.files; points = seen_points merge.points }

abbrev pub seen_replay : ReplayRequest → plain.ReplayRequest
seen_replay replay = record {
  files = seen_update_files replay.files;
  points = seen_points replay.points;
  answers = replay.answers.items;
  steps = replay.steps;
}

abbrev pub seen : Request → plain.Request
seen (Merge merge) = plain.Merge (seen_merge merge)
seen (Run run) = plain.Run (seen_run run)
seen (Replay replay) = plain.Replay (seen_replay replay)

-- what was chosen: nothing, one text, or several
abbrev pub IsChosen : List plain.Text → Chosen → Type 0
IsChosen texts Nothing = texts ≡ []
IsChosen texts (One text) = texts ≡ text.now ∷ []
IsChosen texts Several = 1 < length texts

abbrev pub seen_reply : Reply → replies.Reply
seen_reply reply = record { status = reply.status; text = reply.text.items }

abbrev pub seen_client_text : ClientText → worlds.ClientText
seen_client_text client = record { text = client.text.items; spec = client.spec.now }

abbrev pub seen_texts : Texts → worlds.Texts
seen_texts texts = record {
  old = texts.old.items;
  new = texts.new.items;
  xform = texts.xform.items;
  client = option_map seen_client_text texts.client;
}
