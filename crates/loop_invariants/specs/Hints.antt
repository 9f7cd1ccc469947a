-- What hints say of functions and of loops. Of several entries for one function or one loop the first counts.
use Rattle.std.specs.Prelude.{ℕ, ◌==◌, ◌&&◌, List, [], Option, find, unwrap_or, All}
use Rattle.std.specs.Option.{option_map}
use Rattle.std.specs.Str.{bytes_eq}
use Rattle.c_lang.specs.Names.{Bytes}
use Rattle.terms.specs.declared.fact.Fact.{Fact}
use Rattle.loop_invariants.specs.declared.hints.Contract.{Contract}
use Rattle.loop_invariants.specs.declared.hints.LoopInvariants.{LoopInvariants}
use Rattle.loop_invariants.specs.Binding.{BindsBound}

pub record Hints : Type 0 where
  pub contracts : List (Bytes × Contract)
  pub loops : List LoopInvariants

abbrev pub contract_of : Hints → Bytes → Option Contract
contract_of hints func = option_map (λ entry. entry.1) (find (λ entry. bytes_eq entry.0 func) hints.contracts)

abbrev pub invariants_of : Hints → Bytes → ℕ → List Fact
invariants_of hints func number = unwrap_or (option_map (λ entry. entry.facts) (find (λ entry. (entry.number == number) && bytes_eq entry.func func) hints.loops)) []

-- a contract whose facts bind no number but the one of the base `$`
pub record ContractBinds (c : Contract) : Type 0 where
  pub needs : All BindsBound c.needs
  pub promises : All BindsBound c.promises

-- hints whose facts do
pub record HintsBind (hints : Hints) : Type 0 where
  pub contracts : All (λ entry. ContractBinds entry.1) hints.contracts
  pub loops : All (λ entry. All BindsBound entry.facts) hints.loops
