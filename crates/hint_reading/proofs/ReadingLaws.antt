-- What a text of items is refused for, and what it says.
use Rattle.std.proofs.Common.{◌≡◌, List, Result, Ok, Err, IfOk, inl, inr, All, sym, subst, None, Some, refl, ap, ◌∙◌, arith}
use Rattle.std.specs.Prelude.{MatchResult}
use Rattle.c_lang.specs.Names.{Bytes}
use Rattle.c_lang.specs.declared.program.Program.{Program}
use Rattle.c_lang.specs.declared.refusal.Refusal.{Refusal}
use Rattle.c_lang.specs.declared.refusal.Fail.{Fail}
use Rattle.c_lang.specs.declared.refusal.Fail.TheVariants as fail
use Rattle.c_lang.specs.Programs.{func_named}
use Rattle.hint_texts.specs.declared.fault.Fault.{Fault}
use Rattle.hint_texts.specs.declared.fault.Fault.TheVariants as fault
use Rattle.hint_texts.specs.declared.hints.Item.{Item}
use Rattle.hint_texts.specs.Texts.{IsHintsText}
use Rattle.hint_texts.specs.Texts as texts
use Rattle.hint_texts.proofs.TextLaws.{one_list}
use Rattle.name_tables.specs.Declarations.{function_number}
use Rattle.loop_invariants.specs.Assigned.{lacking}
use Rattle.hint_reading.specs.Meaning.{hints_of}
use Rattle.loop_invariants.specs.Hints.{Hints}
use Rattle.loop_invariants.specs.Clauses.{loop_place}
use Rattle.loop_invariants.specs.Fitting.{Fit, IsContract, AreInvariants}
use Rattle.hint_reading.specs.Demands.{demands, first_unmet}
use Rattle.hint_reading.specs.Reading.{AreHints, IsShort, Refuses, long, unread, IsAnswer}
use Rattle.hint_reading.specs.Reading as spec
use Rattle.hint_reading.specs.Code.Parts.{Fails, RefusesItems, IsCheckedFor, fail_of}
use Rattle.hint_reading.specs.Code.Parts as code
use Rattle.hint_reading.proofs.FitLaws.{items_fit}

-- the text is no list of items
pub not_items : (p : Program) (text : Bytes) (f : Fail) → texts.IsAnswer p text (Err f) → IsAnswer p text (Err f)
not_items p text fail.NoMemory answer = tt
not_items p text (fail.Refused why) (inl x) = subst (Refuses p text) (sym x.1) (long x.0)
not_items p text (fail.Refused why) (inr x) = subst (Refuses p text) (sym x.3) (unread x.0 x.1 x.2)

refuses : (p : Program) (text : Bytes) (items : List Item) → IsShort text → IsHintsText p text items → (why : Refusal) → RefusesItems p items why → Refuses p text why
refuses p text items short read why (code.unmet line e) = spec.unmet short items read line e
refuses p text items short read why (code.lacks met at e) = spec.lacks short items read met at e

pub as_answer : (p : Program) (text : Bytes) (items : List Item) (result : Result Hints Fail)
    → IsShort text → IsHintsText p text items → IsCheckedFor p items result → IsAnswer p text result
as_answer p text items (Ok hints) short read checked = (short, record { items = items; read = read; met = checked.0; said = checked.1; cells = checked.2 })
as_answer p text items (Err fail.NoMemory) short read checked = tt
as_answer p text items (Err (fail.Refused why)) short read checked = refuses p text items short read why checked

pub fits : (p : Program) (items : List Item) (result : Result Hints Fail) → IsCheckedFor p items result → IfOk result (λ hints. Fit p hints)
fits p items (Ok hints) checked = record {
  contracts = subst (λ (h : Hints). All (λ entry. IsContract p (func_named p.funcs entry.0) entry.1) h.contracts) (sym checked.1) (items_fit p items checked.0).0;
  loops = subst (λ (h : Hints). All (λ l. AreInvariants p (loop_place p l.func l.number) l.facts) h.loops) (sym checked.1) (items_fit p items checked.0).1;
  cells = checked.2;
}
fits p items (Err f) checked = tt

pub fails : (p : Program) (items : List Item) (why : Fault) → Fails why (first_unmet (demands p items)) → IsCheckedFor p items (Err (fail_of why))
fails p items fault.NoMemory e = tt
fails p items (fault.NoText line) e = code.unmet line e

-- ---- no text says two hints, and none that is refused says any

same_items : (p : Program) (text : Bytes) (some other : List Item) → IsHintsText p text some → IsHintsText p text other → some ≡ other
same_items p text some other x y = one_list (function_number p) text some other x y

pub same_hints : (p : Program) (text : Bytes) (some other : Hints) → AreHints p text some → AreHints p text other → some ≡ other
same_hints p text some other x y = x.said ∙ ap (hints_of p) (same_items p text x.items y.items x.read y.read) ∙ sym y.said

never : (p : Program) (text : Bytes) (why : Refusal) (hints : Hints) → IsShort text → AreHints p text hints → Refuses p text why → ⊥
never p text why hints short are (long far) = omega (arith)
never p text why hints short are (unread s none line) = none are.items are.read
never p text why hints short are (spec.unmet s items read line e) =
    differ (sym are.met ∙ ap (λ is. first_unmet (demands p is)) (same_items p text are.items items are.read read) ∙ e)
  where
    differ : None ≡ Some line → ⊥
    differ e = cc
never p text why hints short are (spec.lacks s items read met at e) =
    differ (sym are.cells ∙ ap (lacking p) (are.said ∙ ap (hints_of p) (same_items p text are.items items are.read read)) ∙ e)
  where
    differ : None ≡ Some at → ⊥
    differ e = cc

pub only : (p : Program) (text : Bytes) (result : Result Hints Fail) → IsAnswer p text result
    → (hints : Hints) → IsShort text → AreHints p text hints → MatchResult result (λ read. read ≡ hints) (λ f. f ≡ fail.NoMemory)
only p text (Ok read) answer hints short are = same_hints p text read hints answer.1 are
only p text (Err fail.NoMemory) answer hints short are = refl
only p text (Err (fail.Refused why)) answer hints short are = absurd (never p text why hints short are answer)
