-- What follows from the outcome of `replay` where files and sink tell their bytes.
use Rattle.std.proofs.Common.{◌≡◌, ◌∙◌, ◌++◌, List, Option, Some, sym, ap, refl, subst, inl, inr}
use Rattle.std.specs.Prelude.{◌⊎◌}
use Rattle.front_end.specs.Conditions.{Condition, AllHold}
use Rattle.front_end.specs.Worlds.{Texts, size_conditions, token_conditions, grammar_conditions, type_conditions, update_conditions, conditions}
use Rattle.front_end.proofs.ConditionLemmas.{all-first, no-refusal}
use Rattle.top_call.specs.Words.{Text, ReplayRequest, Request, Replay}
use Rattle.top_call.specs.Replies.{Reply}
use Rattle.top_call.specs.Merge.{AreHeld}
use Rattle.top_call.specs.Replay.{IsReplayOf, ReplayAllows, ReplayGoesDeep, ReplaysTooDeep}
use Rattle.top_call.specs.Around.{Around, Put}
use Rattle.top_call.specs.Outcome.{Outcome}
use Rattle.top_call.specs.Headline.{Hold, HadNoFault, WritesUpdatedEvents, ReplaysWhatIsAccepted}
use Rattle.top_call.specs.declared.status.Status.{Status}
use Rattle.top_call.specs.declared.status.Status.TheVariants.{Done, NotProved, Refused, Usage, ReadFailed, WriteFailed, NoMemory, Deep}
use Rattle.top_call.proofs.HeadlineLemmas.{whole-within, within-whole, appended}

module _ (around : Around) (replay : ReplayRequest) (ts : Texts) (hold : Hold around replay.files ts) where
  abbrev behind_sizes : Texts → List Condition
  behind_sizes read = token_conditions read ++ (grammar_conditions read ++ (type_conditions read ++ update_conditions replay.points read))

  -- the texts that were read, where they are a world
  whole : (read : Texts) → AreHeld around.held replay.files read → AllHold (conditions replay.points read) → read ≡ ts
  whole read held all = whole-within around replay.files ts hold read held (all-first (size_conditions read) (behind_sizes read) all)

  written-events : (written : Text) → around.written_before ≡ Some written
      → (reply : Reply) → ReplayAllows around.held replay reply → reply.status ≡ Done → Put around reply.text
      → (lines : Text) × (around.written_after ≡ Some (written ++ lines)) × IsReplayOf replay ts lines
  written-events written before reply (read, held, replays) is_done put = elim replays [
    | inl (refusal, refused, is) ↦ let never : Refused ≡ Done = sym (ap (λ (r : Reply). r.status) is) ∙ is_done in absurd (cc)
    | inr (lines, shown, is) ↦ (
      reply.text,
      appended around.written_before around.written_after written reply.text before put,
      subst (λ (t : Text). IsReplayOf replay ts t) (sym (ap (λ (r : Reply). r.text) is))
          (subst (λ (t : Texts). IsReplayOf replay t lines) (whole read held shown.accepted.0) shown),
    )
  ]

  module _ (all : AllHold (conditions replay.points ts)) where
    read-is : (read : Texts) → AreHeld around.held replay.files read → ts ≡ read
    read-is read held = within-whole around replay.files ts hold read held (all-first (size_conditions ts) (behind_sizes ts) all)

    reply-is-done : (reply : Reply) → ReplayAllows around.held replay reply → reply.status ≡ Done
    reply-is-done reply (read, held, replays) = elim replays [
      | inl (refusal, first, is) ↦
          absurd (no-refusal (conditions replay.points read) refusal (subst (λ (t : Texts). AllHold (conditions replay.points t)) (read-is read held) all) first)
      | inr (lines, shown, is) ↦ ap (λ (r : Reply). r.status) is
    ]

    goes-deep : ReplayGoesDeep around.held replay → ReplaysTooDeep replay ts
    goes-deep (read, held, deep) = subst (λ (t : Texts). ReplaysTooDeep replay t) (sym (read-is read held)) deep

    accepted-replays : (status : Status) → Outcome around (Some (Replay replay)) status → HadNoFault around
        → (status ≡ Done) ⊎ ((status ≡ NoMemory) ⊎ ((status ≡ Deep) × ReplaysTooDeep replay ts))
    accepted-replays Done outcome fine = inl refl
    accepted-replays NotProved (reply, allows, is, put) fine = inl (sym is ∙ reply-is-done reply allows)
    accepted-replays Refused (reply, allows, is, put) fine = inl (sym is ∙ reply-is-done reply allows)
    accepted-replays Usage outcome fine = let none = outcome.0 in absurd (cc)
    accepted-replays ReadFailed outcome fine = absurd (fine.reads outcome.0)
    accepted-replays WriteFailed outcome fine = absurd (fine.writes outcome.0)
    accepted-replays NoMemory outcome fine = inr (inl refl)
    accepted-replays Deep outcome fine = inr (inr (refl, goes-deep outcome.1))

pub writes-updated-events : (around : Around) (request : Option Request) (status : Status) → Outcome around request status → WritesUpdatedEvents around request status
writes-updated-events around request status outcome = λ replay ts written asked hold before is_done.
    let here : Outcome around request Done = subst (λ (s : Status). Outcome around request s) is_done outcome in
    let there : Outcome around (Some (Replay replay)) Done = subst (λ (r : Option Request). Outcome around r Done) asked here in
    written-events around replay ts hold written before there.0 there.1 there.2 there.3

pub replays-what-is-accepted : (around : Around) (request : Option Request) (status : Status) → Outcome around request status → ReplaysWhatIsAccepted around request status
replays-what-is-accepted around request status outcome = λ replay ts asked hold all fine.
    accepted-replays around replay ts hold all status (subst (λ (r : Option Request). Outcome around r status) asked outcome) fine
