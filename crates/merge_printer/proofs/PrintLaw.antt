-- The text of a printable program is read back as its plain form.
use Rattle.std.specs.Global.{Vec}
use Rattle.std.specs.declared.alloc.AllocError.{AllocError}
use Rattle.std.specs.Prelude.{◌≡◌, ℕ, List, [], ◌∷◌, All, Result, Ok, Err, IfOk}
use Rattle.std.proofs.Common.{sym, subst}
use Rattle.std.proofs.lemmas.List.Elements.{All-nil, All-cons, All-head, All-tail}
use Rattle.c_lang.specs.Names.{Bytes}
use Rattle.c_lang.specs.declared.unit.Unit.TheVariants.{Merge}
use Rattle.c_lang.specs.declared.program.Func.{Func}
use Rattle.c_lang.specs.declared.program.Program.{Program}
use Rattle.c_grammar.specs.Written.{Parses}
use Rattle.c_types.specs.Plain.{plain}
use Rattle.merge_printer.specs.Printable.{IsPrintable}
use Rattle.merge_printer.specs.Programs.{program_text}
use Rattle.merge_printer.proofs.DeclarationLaw.{FuncReads, IsBuilt, FuncFits}
use Rattle.merge_printer.proofs.ProgramLaw.{ProgramFits, prints_program}
use Rattle.merge_printer.proofs.WrittenProgram.{written_reads}
use Rattle.merge_printer.proofs.PlainLaw.{same_text, all_built}

pub both : (fs : List Func) → All FuncReads fs → All IsBuilt fs → All FuncFits fs
both [] a b = All-nil FuncFits
both (f ∷ fs) a b = All-cons FuncFits f fs (All-head FuncReads f fs a, All-head IsBuilt f fs b) (both fs (All-tail FuncReads f fs a) (All-tail IsBuilt f fs b))

fits : (P : Program) → IsPrintable P → All IsBuilt P.funcs → ProgramFits P
fits P h built =
    let reads = written_reads P h.written h.accepted in
    record { early = h.accepted; globals = reads.globals; protos = reads.protos; funcs = both P.funcs reads.funcs built }

parses : (P : Program) → IsPrintable P → All IsBuilt P.funcs → Parses Merge 72 (program_text P) P
parses P h built =
    let x = prints_program P (fits P h built) h.positions 72 h.low in
    record { tokens = x.tokens; lexed = x.lexed; parsed = record { nested = h.nested x.tokens x.lexed; gram = x.gram } }

pub parses_again : (P : Program) → IsPrintable (plain P) → Parses Merge 72 (program_text P) (plain P)
parses_again P h = subst (λ (z : Bytes). Parses Merge 72 z (plain P)) (same_text P) (parses (plain P) h (all_built P.funcs))

-- what a function gives that has the text
pub answer : (P : Program) (r : Result (Vec ℕ) AllocError) → IsPrintable (plain P) → IfOk r (λ text. text.items ≡ program_text P)
    → IfOk r (λ text. Parses Merge 72 text.items (plain P))
answer P (Ok text) h is = subst (λ (z : Bytes). Parses Merge 72 z (plain P)) (sym is) (parses_again P h)
answer P (Err e) h is = tt
