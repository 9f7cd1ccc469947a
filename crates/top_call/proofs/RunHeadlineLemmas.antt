-- What follows from the outcome of `run` where files and sink tell their bytes.
use Rattle.std.proofs.Common.{◌≡◌, ◌∙◌, ◌≤◌, ◌++◌, length, Option, Some, sym, ap, refl, subst, inl, inr}
use Rattle.std.specs.Prelude.{◌⊎◌}
use Rattle.c_lang.specs.Limits.{size_limit}
use Rattle.c_lang.specs.declared.unit.Unit.TheVariants.{Merge}
use Rattle.c_lang.specs.declared.program.Program.{Program}
use Rattle.top_call.specs.Words.{Text, RunRequest, Request, Run}
use Rattle.top_call.specs.Replies.{Reply}
use Rattle.top_call.specs.Held.{IsHeld}
use Rattle.front_end.specs.TypedText.{IsTypedText}
use Rattle.top_call.specs.Run.{IsRunOf, RunAllows, RunGoesDeep, GoesTooDeep}
use Rattle.top_call.specs.Around.{Around, Put}
use Rattle.top_call.specs.Outcome.{Outcome}
use Rattle.top_call.specs.Headline.{HadNoFault, WritesEvents, RunsWhatIsAccepted}
use Rattle.top_call.specs.declared.status.Status.{Status}
use Rattle.top_call.specs.declared.status.Status.TheVariants.{Done, NotProved, Refused, Usage, ReadFailed, WriteFailed, NoMemory, Deep}
use Rattle.top_call.proofs.HeadlineLemmas.{read-whole, read-accepted, appended}

module _ (around : Around) (run : RunRequest) (text : Text) (hold : around.held run.file ≡ Some text) where
  -- a text within the limit was read whole
  whole : (read : Text) → IsHeld around.held Merge run.file read → length read ≤ size_limit Merge → read ≡ text
  whole read is small = read-whole around.held Merge run.file read text is hold small

  written-events : (written : Text) → around.written_before ≡ Some written
      → (reply : Reply) → RunAllows around.held run reply → reply.status ≡ Done → Put around reply.text
      → (lines : Text) × (around.written_after ≡ Some (written ++ lines)) × IsRunOf run text lines
  written-events written before reply (read, held, runs) is_done put = elim runs [
    | inl (refusal, refused, is) ↦ let never : Refused ≡ Done = sym (ap (λ (r : Reply). r.status) is) ∙ is_done in absurd (cc)
    | inr (lines, shown, is) ↦ (
      reply.text,
      appended around.written_before around.written_after written reply.text before put,
      subst (λ (t : Text). IsRunOf run text t) (sym (ap (λ (r : Reply). r.text) is))
          (subst (λ (t : Text). IsRunOf run t lines) (whole read held shown.has_program.is_typed.is_program.within) shown),
    )
  ]

  module _ (program : Program) (typed : IsTypedText Merge text program) where
    accepted : (read : Text) → IsHeld around.held Merge run.file read → read ≡ text
    accepted read is = read-accepted around.held Merge run.file read text is hold typed.is_program.within

    reply-is-done : (reply : Reply) → RunAllows around.held run reply → reply.status ≡ Done
    reply-is-done reply (read, held, runs) = elim runs [
      | inl (refusal, refused, is) ↦ absurd (refused.none program (subst (λ (t : Text). IsTypedText Merge t program) (sym (accepted read held)) typed))
      | inr (lines, shown, is) ↦ ap (λ (r : Reply). r.status) is
    ]

    goes-deep : RunGoesDeep around.held run → GoesTooDeep run text
    goes-deep (read, held, deep) = subst (λ (t : Text). GoesTooDeep run t) (accepted read held) deep

    accepted-runs : (status : Status) → Outcome around (Some (Run run)) status → HadNoFault around
        → (status ≡ Done) ⊎ ((status ≡ NoMemory) ⊎ ((status ≡ Deep) × GoesTooDeep run text))
    accepted-runs Done outcome fine = inl refl
    accepted-runs NotProved (reply, allows, is, put) fine = inl (sym is ∙ reply-is-done reply allows)
    accepted-runs Refused (reply, allows, is, put) fine = inl (sym is ∙ reply-is-done reply allows)
    accepted-runs Usage outcome fine = let none = outcome.0 in absurd (cc)
    accepted-runs ReadFailed outcome fine = absurd (fine.reads outcome.0)
    accepted-runs WriteFailed outcome fine = absurd (fine.writes outcome.0)
    accepted-runs NoMemory outcome fine = inr (inl refl)
    accepted-runs Deep outcome fine = inr (inr (refl, goes-deep outcome.1))

pub writes-events : (around : Around) (request : Option Request) (status : Status) → Outcome around request status → WritesEvents around request status
writes-events around request status outcome = λ run text written asked hold before is_done.
    let here : Outcome around request Done = subst (λ (s : Status). Outcome around request s) is_done outcome in
    let there : Outcome around (Some (Run run)) Done = subst (λ (r : Option Request). Outcome around r Done) asked here in
    written-events around run text hold written before there.0 there.1 there.2 there.3

pub runs-what-is-accepted : (around : Around) (request : Option Request) (status : Status) → Outcome around request status → RunsWhatIsAccepted around request status
runs-what-is-accepted around request status outcome = λ run text program asked hold typed fine.
    accepted-runs around run text hold program typed status (subst (λ (r : Option Request). Outcome around r status) asked outcome) fine
