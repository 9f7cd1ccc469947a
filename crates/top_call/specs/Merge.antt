-- The command `merge`: what it reads, what it refuses, and what it writes.
use Rattle.std.specs.Prelude.{⊤, ◌≡◌, List, [], ◌∷◌, Option, Some, None, ◌⊎◌}
use Rattle.c_lang.specs.declared.unit.Unit.TheVariants.{Old, New, Xform, Client}
use Rattle.c_lang.specs.declared.refusal.Refusal.{Refusal}
use Rattle.front_end.specs.Conditions.{IsFirstRefusal}
use Rattle.front_end.specs.Worlds.{ClientText, Texts, conditions}
use Rattle.top_call.specs.Words.{Text, ClientFile, UpdateFiles, MergeRequest}
use Rattle.top_call.specs.Replies.{Reply, done, refused}
use Rattle.top_call.specs.Held.{IsHeld}
use Rattle.top_call.specs.MergedText.{IsMergedText}

abbrev pub client_names : Option ClientFile → List Text
client_names None = []
client_names (Some client) = client.file ∷ []

-- the names of the files, in the order in which they are read
abbrev pub names_of : UpdateFiles → List Text
names_of update = update.old ∷ update.new ∷ update.xform ∷ client_names update.client

-- there is no client, or this is its text, with the name of its function
abbrev pub IsHeldClient : (Text → Option Text) → Option ClientFile → Option ClientText → Type 0
IsHeldClient held None None = ⊤
IsHeldClient held (Some client) (Some c) = IsHeld held Client client.file c.text × (c.spec ≡ client.spec)
IsHeldClient held _ _ = ⊥

pub record AreHeld (held : Text → Option Text) (update : UpdateFiles) (texts : Texts) : Type 0 where
  pub old : IsHeld held Old update.old texts.old
  pub new : IsHeld held New update.new texts.new
  pub xform : IsHeld held Xform update.xform texts.xform
  pub client : IsHeldClient held update.client texts.client

-- The texts are refused by the first condition that fails, or the text is merged from them.
abbrev pub Merges : MergeRequest → Texts → Reply → Type 0
Merges merge ts reply =
    ((refusal : Refusal) × IsFirstRefusal (conditions merge.points ts) refusal × (reply ≡ refused refusal))
    ⊎ ((text : Text) × IsMergedText merge.points ts text × (reply ≡ done text))

-- what `merge` may reply over the held files
abbrev pub MergeAllows : (Text → Option Text) → MergeRequest → Reply → Type 0
MergeAllows held merge reply = (ts : Texts) × AreHeld held merge.files ts × Merges merge ts reply
