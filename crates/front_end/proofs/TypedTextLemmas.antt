-- From a text to its typed program, stage by stage.
use Rattle.std.proofs.Common.{◌≡◌, refl, sym, ap, ◌∙◌, subst, Result, Ok, Err}
use Rattle.std.specs.Prelude.{MatchResult}
use Rattle.c_lang.specs.Names.{Bytes}
use Rattle.c_lang.specs.declared.unit.Unit.{Unit}
use Rattle.c_lang.specs.declared.refusal.Fail.{Fail}
use Rattle.c_lang.specs.declared.refusal.Fail.TheVariants as fail
use Rattle.c_lang.specs.declared.program.Program.{Program}
use Rattle.c_parser.specs.Texts as parsed
use Rattle.c_parser.specs.Texts.{IsProgramText}
use Rattle.c_lang.specs.declared.refusal.Refusal.{Refusal}
use Rattle.c_types.specs.Kept.{TypedProgram, IsChecked}
use Rattle.c_types.specs.Types.{Types}
use Rattle.c_types.specs.Programs.{resolved_program}
use Rattle.front_end.specs.TypedText.{IsTypedText, by_text, by_types, IsRefusedTextAs, HasProgram, IsRefused}

module _ (u : Unit) (text : Bytes) where
  pub text-refused : (f : Fail) → parsed.IsRefusedTextAs f u text → IsRefusedTextAs f u text
  text-refused fail.NoMemory h = tt
  text-refused (fail.Refused refusal) h = by_text refusal h

  pub checked : (source : Program) (result : Result TypedProgram Fail) → IsProgramText u text source → IsChecked u source result
      → MatchResult result (λ typed. IsTypedText u text typed.program) (λ f. IsRefusedTextAs f u text)
  checked source (Ok typed) is h = record {
    source = source;
    is_program = is;
    typed = h.1;
    resolved = h.2;
  }
  checked source (Err fail.NoMemory) is h = tt
  checked source (Err (fail.Refused refusal)) is h = by_types source refusal is h.0 h.1

  pub checked-only : (source : Program) (result : Result TypedProgram Fail) → IsChecked u source result
      → (program : Program) → (is : IsTypedText u text program) → source ≡ is.source → MatchResult result (λ typed. typed.program ≡ program) (λ f. f ≡ fail.NoMemory)
  checked-only source (Ok typed) h program is same = h.2 ∙ ap resolved_program same ∙ sym is.resolved
  checked-only source (Err fail.NoMemory) h program is same = refl
  checked-only source (Err (fail.Refused refusal)) h program is same = absurd (h.0 (subst (λ (p : Program). Types u p) (sym same) is.typed))

-- what the answer says of a text
pub has-program : (u : Unit) (text : Bytes) (typed : Program) → IsTypedText u text typed
    → ((program : Program) → IsTypedText u text program → typed ≡ program) → HasProgram u text typed
has-program u text typed is only = record { is_typed = is; only = λ other it. sym (only other it) }

pub is-refused : (u : Unit) (text : Bytes) (f : Fail) (refusal : Refusal) → f ≡ fail.Refused refusal → IsRefusedTextAs f u text
    → ((program : Program) → IsTypedText u text program → f ≡ fail.NoMemory) → IsRefused u text refusal
is-refused u text f refusal is first none = record {
  first = rw is at first;
  none = λ program typed. let never : fail.Refused refusal ≡ fail.NoMemory = sym is ∙ none program typed in cc;
}
