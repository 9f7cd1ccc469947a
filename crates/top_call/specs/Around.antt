-- What files and sink tell before and after a call.
use Rattle.std.specs.Prelude.{◌≡◌, ℕ, ◌⊎◌, Option}
use Rattle.std.specs.Io.KnownBytes.{Appends}
use Rattle.outside.specs.Counts.{Rose}
use Rattle.outside.specs.Pieces.{AppendsPrefix}
use Rattle.top_call.specs.Words.{Text}
use Rattle.top_call.specs.declared.status.Status.{Status}
use Rattle.top_call.specs.declared.status.Status.TheVariants.{WriteFailed}

pub record Around : Type 0 where
  -- what is held under a name, where the files tell it
  pub held : Text → Option Text
  pub read_faults_before : ℕ
  pub read_faults_after : ℕ
  -- the name that the last failed read asked for
  pub asked : Text
  -- all that was written, where the sink tells it
  pub written_before : Option Text
  pub written_after : Option Text
  pub write_faults_before : ℕ
  pub write_faults_after : ℕ

-- The text was put whole, or a prefix of it, or nothing.
abbrev pub Put : Around → Text → Type 0
Put around text = Appends around.written_before around.written_after text

abbrev pub PutInPart : Around → Text → Type 0
PutInPart around text = AppendsPrefix around.written_before around.written_after text

abbrev pub PutNothing : Around → Type 0
PutNothing around = around.written_after ≡ around.written_before

-- from the ghost members of files and sink, and both at the start and at the end of a call
abbrev pub around : {F S : Type 0} → (F → Text → Option Text) → (F → ℕ) → (F → Text) → (S → Option Text) → (S → ℕ) → F → F → S → S → Around
around held read_faults failed written write_faults files_old files_new out_old out_new = record {
  held = held files_old;
  read_faults_before = read_faults files_old;
  read_faults_after = read_faults files_new;
  asked = failed files_new;
  written_before = written out_old;
  written_after = written out_new;
  write_faults_before = write_faults out_old;
  write_faults_after = write_faults out_new;
}

-- The text was put whole and the status stands, or in part with a fault.
abbrev pub Puts : Option Text → Option Text → ℕ → ℕ → Text → Status → Status → Type 0
Puts before after faults_before faults_after text status result =
    ((result ≡ status) × Appends before after text)
    ⊎ ((result ≡ WriteFailed) × Rose faults_before faults_after × AppendsPrefix before after text)
