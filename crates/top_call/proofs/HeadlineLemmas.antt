-- What follows from the outcome of `merge` where files and sink tell their bytes.
use Rattle.std.proofs.Common.{◌≡◌, ◌∙◌, ◌≤◌, ◌+◌, List, [], ◌∷◌, ◌++◌, length, take, Option, None, Some, length-take, sym, ap, refl, arith, subst, inl, inr}
use Rattle.std.proofs.lemmas.List.{take_all}
use Rattle.std.specs.Prelude.{◌⊎◌}
use Rattle.std.specs.Io.KnownBytes.{Appends}
use Rattle.c_lang.specs.Limits.{size_limit}
use Rattle.c_lang.specs.declared.unit.Unit.{Unit}
use Rattle.c_lang.specs.declared.unit.Unit.TheVariants.{Old, New, Xform, Client}
use Rattle.top_call.specs.Words.{Text, ClientFile, UpdateFiles, MergeRequest, Request, Merge}
use Rattle.top_call.specs.Replies.{Reply}
use Rattle.top_call.specs.Held.{IsHeld}
use Rattle.front_end.specs.Conditions.{Condition, AllHold}
use Rattle.front_end.proofs.ConditionLemmas.{all-first, no-refusal}
use Rattle.front_end.specs.Worlds.{ClientText, Texts, of_client, within_limit, size_conditions, token_conditions, grammar_conditions, type_conditions, update_conditions, conditions}
use Rattle.top_call.specs.Merge.{IsHeldClient, AreHeld, MergeAllows}
use Rattle.top_call.specs.MergedText.{IsMergedText}
use Rattle.top_call.specs.Around.{Around, Put}
use Rattle.top_call.specs.Outcome.{Outcome}
use Rattle.top_call.specs.Headline.{HoldClient, Hold, HadNoFault, WritesMergedText, MergesWhatIsAccepted}
use Rattle.top_call.specs.declared.status.Status.{Status}
use Rattle.top_call.specs.declared.status.Status.TheVariants.{Done, NotProved, Refused, Usage, ReadFailed, WriteFailed, NoMemory, Deep}

-- what was read, where what is held is known
read-is : (held : Text → Option Text) (unit : Unit) (name text all : Text) → IsHeld held unit name text → held name ≡ Some all → text ≡ take (size_limit unit + 1) all
read-is held unit name text all is_held known = rw known at is_held

-- A text within the limit was read whole.
pub read-whole : (held : Text → Option Text) (unit : Unit) (name text all : Text) → IsHeld held unit name text → held name ≡ Some all
    → length text ≤ size_limit unit → text ≡ all
read-whole held unit name text all is_held known small =
    let is = read-is held unit name text all is_held known in
    is ∙ take_all (size_limit unit + 1) all (omega (arith, ap length is, length-take (size_limit unit + 1) all))

pub read-accepted : (held : Text → Option Text) (unit : Unit) (name text all : Text) → IsHeld held unit name text → held name ≡ Some all
    → length all ≤ size_limit unit → text ≡ all
read-accepted held unit name text all is_held known small =
    read-is held unit name text all is_held known ∙ take_all (size_limit unit + 1) all (omega arith)

same-texts : (a b : Texts) → a.old ≡ b.old → a.new ≡ b.new → a.xform ≡ b.xform → a.client ≡ b.client → a ≡ b
same-texts a b old new xform client = λ i. record { old = old i; new = new i; xform = xform i; client = client i }

same-client : (a b : ClientText) → a.text ≡ b.text → a.spec ≡ b.spec → Some a ≡ Some b
same-client a b text spec = λ i. Some (record { text = text i; spec = spec i })

pub appended : (before after : Option Text) (written text : Text) → before ≡ Some written → Appends before after text → after ≡ Some (written ++ text)
appended None after written text is put = absurd (cc)
appended (Some old) None written text is put = absurd put
appended (Some old) (Some new) written text is put =
    ap (λ (t : Text). Some t) (put ∙ ap (λ (t : Text). t ++ text) (let same : old ≡ written = cc in same))

-- the client's text that was read, where it is within its limit
client-whole : (around : Around) (file : Option ClientFile) (read held : Option ClientText) → HoldClient around file held → IsHeldClient around.held file read
    → AllHold (of_client (λ c. within_limit Client c.text) read) → read ≡ held
client-whole around None None None hold is small = refl
client-whole around None None (Some c) hold is small = absurd hold
client-whole around None (Some r) held hold is small = absurd is
client-whole around (Some f) None held hold is small = absurd is
client-whole around (Some f) (Some r) None hold is small = absurd hold
client-whole around (Some f) (Some r) (Some c) hold is small =
    same-client r c (read-whole around.held Client f.file r.text c.text is.0 hold.0 small.0) (is.1 ∙ sym hold.1)

-- the same where what is held is within the limit
client-accepted : (around : Around) (file : Option ClientFile) (read held : Option ClientText) → HoldClient around file held → IsHeldClient around.held file read
    → AllHold (of_client (λ c. within_limit Client c.text) held) → read ≡ held
client-accepted around None None None hold is small = refl
client-accepted around None None (Some c) hold is small = absurd hold
client-accepted around None (Some r) held hold is small = absurd is
client-accepted around (Some f) None held hold is small = absurd is
client-accepted around (Some f) (Some r) None hold is small = absurd hold
client-accepted around (Some f) (Some r) (Some c) hold is small =
    same-client r c (read-accepted around.held Client f.file r.text c.text is.0 hold.0 small.0) (is.1 ∙ sym hold.1)

module _ (around : Around) (update : UpdateFiles) (texts : Texts) (hold : Hold around update texts) where
  -- the texts that were read, where they are within their limits
  pub whole-within : (read : Texts) → AreHeld around.held update read → AllHold (size_conditions read) → read ≡ texts
  whole-within read held (old, (new, (xform, client))) =
      same-texts read texts (read-whole around.held Old update.old read.old texts.old held.old hold.old old)
      (read-whole around.held New update.new read.new texts.new held.new hold.new new)
      (read-whole around.held Xform update.xform read.xform texts.xform held.xform hold.xform xform)
      (client-whole around update.client read.client texts.client hold.client held.client client)

  -- the same where what is held is within the limits
  pub within-whole : (read : Texts) → AreHeld around.held update read → AllHold (size_conditions texts) → texts ≡ read
  within-whole read held (old, (new, (xform, client))) =
      sym (same-texts read texts (read-accepted around.held Old update.old read.old texts.old held.old hold.old old)
      (read-accepted around.held New update.new read.new texts.new held.new hold.new new)
      (read-accepted around.held Xform update.xform read.xform texts.xform held.xform hold.xform xform)
      (client-accepted around update.client read.client texts.client hold.client held.client client))

module _ (around : Around) (merge : MergeRequest) (ts : Texts) (hold : Hold around merge.files ts) where
  abbrev behind_sizes : Texts → List Condition
  behind_sizes read = token_conditions read ++ (grammar_conditions read ++ (type_conditions read ++ update_conditions merge.points read))

  -- the texts that were read, where they are a world
  whole : (read : Texts) → AreHeld around.held merge.files read → AllHold (conditions merge.points read) → read ≡ ts
  whole read held all = whole-within around merge.files ts hold read held (all-first (size_conditions read) (behind_sizes read) all)

  written-text : (written : Text) → around.written_before ≡ Some written
      → (reply : Reply) → MergeAllows around.held merge reply → reply.status ≡ Done → Put around reply.text
      → (text : Text) × (around.written_after ≡ Some (written ++ text)) × IsMergedText merge.points ts text
  written-text written before reply (read, held, merges) is_done put = elim merges [
    | inl (refusal, first, is) ↦ let never : Refused ≡ Done = sym (ap (λ (r : Reply). r.status) is) ∙ is_done in absurd (cc)
    | inr (text, merged, is) ↦ (
      reply.text,
      appended around.written_before around.written_after written reply.text before put,
      subst (λ (t : Text). IsMergedText merge.points ts t) (sym (ap (λ (r : Reply). r.text) is))
          (subst (λ (t : Texts). IsMergedText merge.points t text) (whole read held merged.accepted.0) merged),
    )
  ]

  module _ (all : AllHold (conditions merge.points ts)) where
    ts-read : (read : Texts) → AreHeld around.held merge.files read → ts ≡ read
    ts-read read held = within-whole around merge.files ts hold read held (all-first (size_conditions ts) (behind_sizes ts) all)

    reply-is-done : (reply : Reply) → MergeAllows around.held merge reply → reply.status ≡ Done
    reply-is-done reply (read, held, merges) = elim merges [
      | inl (refusal, first, is) ↦
          absurd (no-refusal (conditions merge.points read) refusal (subst (λ (t : Texts). AllHold (conditions merge.points t)) (ts-read read held) all) first)
      | inr (text, merged, is) ↦ ap (λ (r : Reply). r.status) is
    ]

    accepted-merges : (status : Status) → Outcome around (Some (Merge merge)) status → HadNoFault around
        → (status ≡ Done) ⊎ (status ≡ NoMemory)
    accepted-merges Done outcome fine = inl refl
    accepted-merges NotProved (reply, allows, is, put) fine = inl (sym is ∙ reply-is-done reply allows)
    accepted-merges Refused (reply, allows, is, put) fine = inl (sym is ∙ reply-is-done reply allows)
    accepted-merges Usage outcome fine = let none = outcome.0 in absurd (cc)
    accepted-merges ReadFailed outcome fine = absurd (fine.reads outcome.0)
    accepted-merges WriteFailed outcome fine = absurd (fine.writes outcome.0)
    accepted-merges NoMemory outcome fine = inr refl
    accepted-merges Deep outcome fine = absurd outcome.1

pub writes-merged-text : (around : Around) (request : Option Request) (status : Status) → Outcome around request status → WritesMergedText around request status
writes-merged-text around request status outcome = λ merge ts written asked hold before is_done.
    let here : Outcome around request Done = subst (λ (s : Status). Outcome around request s) is_done outcome in
    let there : Outcome around (Some (Merge merge)) Done = subst (λ (r : Option Request). Outcome around r Done) asked here in
    written-text around merge ts hold written before there.0 there.1 there.2 there.3

pub merges-what-is-accepted : (around : Around) (request : Option Request) (status : Status) → Outcome around request status → MergesWhatIsAccepted around request status
merges-what-is-accepted around request status outcome = λ merge ts asked hold all fine.
    accepted-merges around merge ts hold all status (subst (λ (r : Option Request). Outcome around r status) asked outcome) fine
