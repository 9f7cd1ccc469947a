-- What the facts of hints that fit a program bind.
use Rattle.std.proofs.Common.{List, [], ◌∷◌, Option, Some, None, All}
use Rattle.std.proofs.lemmas.List.Elements.{All-cons, All-nil, All-head, All-tail}
use Rattle.c_lang.specs.Names.{Bytes}
use Rattle.c_lang.specs.Programs.{func_named}
use Rattle.c_lang.specs.declared.program.Func.{Func}
use Rattle.c_lang.specs.declared.program.Program.{Program}
use Rattle.terms.specs.declared.fact.Fact.{Fact}
use Rattle.loop_invariants.specs.declared.hints.Contract.{Contract}
use Rattle.loop_invariants.specs.declared.hints.LoopInvariants.{LoopInvariants}
use Rattle.loop_invariants.specs.Binding.{BindsBound}
use Rattle.loop_invariants.specs.Hints.{Hints, ContractBinds, HintsBind}
use Rattle.loop_invariants.specs.Clauses.{Place, at_needs, at_promises, names_at, loop_place}
use Rattle.loop_invariants.specs.Fitting.{MayStand, IsContract, AreInvariants}
use Rattle.loop_invariants.proofs.AddingLaws.{allowed_binds}

pub each : {A : Type 0} (P Q : A → Type 0) → ((x : A) → P x → Q x) → (xs : List A) → All P xs → All Q xs
each P Q go [] all = All-nil Q
each P Q go (x ∷ xs) all = All-cons Q x xs (go x (All-head P x xs all)) (each P Q go xs (All-tail P x xs all))

module _ (p : Program) where
  stands_binds : (at : Place) (f : Fact) → MayStand p at f → BindsBound f
  stands_binds at f may = allowed_binds (names_at p at) f may

  all_bind : (at : Place) (fs : List Fact) → All (MayStand p at) fs → All BindsBound fs
  all_bind at fs all = each (MayStand p at) BindsBound (stands_binds at) fs all

  contract_binds : (f : Option Func) (c : Contract) → IsContract p f c → ContractBinds c
  contract_binds None c is = absurd is
  contract_binds (Some f) c is = record {
    needs = all_bind (at_needs f) c.needs is.needs;
    promises = all_bind (at_promises f) c.promises is.promises;
  }

  invariants_bind : (at : Option Place) (fs : List Fact) → AreInvariants p at fs → All BindsBound fs
  invariants_bind None fs all = absurd all
  invariants_bind (Some at) fs all = all_bind at fs all

  pub fit_binds : (hints : Hints) → All (λ entry. IsContract p (func_named p.funcs entry.0) entry.1) hints.contracts
      → All (λ l. AreInvariants p (loop_place p l.func l.number) l.facts) hints.loops → HintsBind hints
  fit_binds hints contracts loops = record {
    contracts = each (λ (entry : Bytes × Contract). IsContract p (func_named p.funcs entry.0) entry.1) (λ entry. ContractBinds entry.1)
        (λ entry is. contract_binds (func_named p.funcs entry.0) entry.1 is) hints.contracts contracts;
    loops = each (λ (l : LoopInvariants). AreInvariants p (loop_place p l.func l.number) l.facts) (λ entry. All BindsBound entry.facts)
        (λ l are. invariants_bind (loop_place p l.func l.number) l.facts are) hints.loops loops;
  }
