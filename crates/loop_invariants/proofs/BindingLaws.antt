-- What hints say binds no number but the one of the base `$`.
use Rattle.std.proofs.Common.{ℕ, Bool, true, false, if◌then◌else◌, ◌==◌, ◌&&◌, List, [], ◌∷◌, Option, Some, None, IfSome, find, unwrap_or, All}
use Rattle.std.specs.Option.{option_map}
use Rattle.std.specs.Str.{bytes_eq}
use Rattle.std.proofs.lemmas.List.Elements.{All-nil, All-head, All-tail}
use Rattle.c_lang.specs.Names.{Bytes}
use Rattle.terms.specs.declared.fact.Fact.{Fact}
use Rattle.loop_invariants.specs.declared.hints.Contract.{Contract}
use Rattle.loop_invariants.specs.declared.hints.LoopInvariants.{LoopInvariants}
use Rattle.loop_invariants.specs.Binding.{BindsBound}
use Rattle.loop_invariants.specs.Hints.{Hints, HintsBind, ContractBinds, invariants_of}
use Rattle.loop_invariants.specs.Context.{needs_of, promises_of}

chosen : {X : Type 0} (P : X → Type 0) (b : Bool) (x : X) (o : Option X) → P x → IfSome o P → IfSome (if b then Some x else o) P
chosen P true x o here later = here
chosen P false x o here later = later

-- what holds of each element holds of the one that is found
found_holds : {X : Type 0} (P : X → Type 0) (test : X → Bool) (xs : List X) → All P xs → IfSome (find test xs) P
found_holds P test [] all = tt
found_holds P test (x ∷ xs) all = chosen P (test x) x (find test xs) (All-head P x xs all) (found_holds P test xs (All-tail P x xs all))

abbrev Entry : Type 0
Entry = Bytes × Contract

pub needs_bind : (hints : Hints) (func : Bytes) → HintsBind hints → All BindsBound (needs_of hints func)
needs_bind hints func binds = of (find (λ entry. bytes_eq entry.0 func) hints.contracts)
    (found_holds (λ entry. ContractBinds entry.1) (λ entry. bytes_eq entry.0 func) hints.contracts binds.contracts)
  where
    of : (o : Option Entry) → IfSome o (λ entry. ContractBinds entry.1)
        → All BindsBound (unwrap_or (option_map (λ c. c.needs) (option_map (λ entry. entry.1) o)) [])
    of None b = All-nil BindsBound
    of (Some entry) b = b.needs

pub promises_bind : (hints : Hints) (func : Bytes) → HintsBind hints → All BindsBound (promises_of hints func)
promises_bind hints func binds = of (find (λ entry. bytes_eq entry.0 func) hints.contracts)
    (found_holds (λ entry. ContractBinds entry.1) (λ entry. bytes_eq entry.0 func) hints.contracts binds.contracts)
  where
    of : (o : Option Entry) → IfSome o (λ entry. ContractBinds entry.1)
        → All BindsBound (unwrap_or (option_map (λ c. c.promises) (option_map (λ entry. entry.1) o)) [])
    of None b = All-nil BindsBound
    of (Some entry) b = b.promises

pub invariants_bind : (hints : Hints) (func : Bytes) (number : ℕ) → HintsBind hints → All BindsBound (invariants_of hints func number)
invariants_bind hints func number binds = of (find (λ entry. (entry.number == number) && bytes_eq entry.func func) hints.loops)
    (found_holds (λ entry. All BindsBound entry.facts) (λ entry. (entry.number == number) && bytes_eq entry.func func) hints.loops binds.loops)
  where
    of : (o : Option LoopInvariants) → IfSome o (λ entry. All BindsBound entry.facts)
        → All BindsBound (unwrap_or (option_map (λ entry. entry.facts) o) [])
    of None b = All-nil BindsBound
    of (Some entry) b = b
