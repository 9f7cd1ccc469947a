-- Hints that fit a program, as those that were read for it, with or without added invariants.
use Rattle.std.specs.Prelude.{⊤, ◌≡◌, true, List, Option, Some, None, All}
use Rattle.c_lang.specs.Names.{Bytes}
use Rattle.c_lang.specs.Programs.{func_named}
use Rattle.c_lang.specs.declared.program.Func.{Func}
use Rattle.c_lang.specs.declared.program.Program.{Program}
use Rattle.terms.specs.declared.fact.Fact.{Fact}
use Rattle.loop_invariants.specs.declared.hints.Contract.{Contract}
use Rattle.loop_invariants.specs.Hints.{Hints}
use Rattle.loop_invariants.specs.Clauses.{Place, at_needs, at_promises, loop_place, may_stand}
use Rattle.loop_invariants.specs.Assigned.{lacking}
use Rattle.loop_invariants.specs.SetNames.{is_among}
use Rattle.loop_invariants.specs.Context.{names_of}

abbrev pub MayStand : Program → Place → Fact → Type 0
MayStand p at f = may_stand p at f ≡ true

abbrev pub AreGlobals : Program → Option (List Bytes) → Type 0
AreGlobals p None = ⊤
AreGlobals p (Some listed) = All (λ x. is_among x (names_of p.globals) ≡ true) listed

pub record IsContractFor (p : Program) (f : Func) (c : Contract) : Type 0 where
  pub needs : All (MayStand p (at_needs f)) c.needs
  pub promises : All (MayStand p (at_promises f)) c.promises
  pub assigns : AreGlobals p c.assigns

abbrev pub IsContract : Program → Option Func → Contract → Type 0
IsContract p None c = ⊥
IsContract p (Some f) c = IsContractFor p f c

-- where there is such a place
abbrev pub AreInvariants : Program → Option Place → List Fact → Type 0
AreInvariants p None facts = ⊥
AreInvariants p (Some at) facts = All (MayStand p at) facts

-- Contracts are those of functions and invariants those of loops, each fact may stand where it does, and no
-- contract lists too few cells.
pub record Fit (p : Program) (hints : Hints) : Type 0 where
  pub contracts : All (λ entry. IsContract p (func_named p.funcs entry.0) entry.1) hints.contracts
  pub loops : All (λ l. AreInvariants p (loop_place p l.func l.number) l.facts) hints.loops
  pub cells : lacking p hints ≡ None
