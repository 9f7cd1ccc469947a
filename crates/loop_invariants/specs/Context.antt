-- What the conditions of a function read of the program and of its hints.
use Rattle.std.specs.Prelude.{ℕ, Bool, List, [], map, Option, Some, None, unwrap_or}
use Rattle.std.specs.Option.{option_map}
use Rattle.c_lang.specs.Names.{Bytes}
use Rattle.c_lang.specs.Programs.{func_in}
use Rattle.c_lang.specs.declared.program.GlobalVar.{GlobalVar}
use Rattle.c_lang.specs.declared.program.Program.{Program}
use Rattle.terms.specs.declared.fact.Fact.{Fact}
use Rattle.loop_invariants.specs.Hints.{Hints}
use Rattle.loop_invariants.specs.Hints.{contract_of, invariants_of}
use Rattle.expression_conditions.specs.Numbers.{Numbers, numbers_in}
use Rattle.expression_conditions.specs.Candidates.{candidates}

pub record Context : Type 0 where
  pub numbers : Numbers
  pub globals : List Bytes
  -- whether a function has a result
  pub gives : Bytes → Bool
  -- what a function asks of its callers and promises them, and the cells that it may change
  pub needs : Bytes → List Fact
  pub promises : Bytes → List Fact
  pub assigns : Bytes → List Bytes
  -- the functions that a call through a pointer with so many arguments may reach
  pub reached : ℕ → List Bytes
  -- the invariants of a loop, by the function and the loop's number
  pub invariants : Bytes → ℕ → List Fact

abbrev pub names_of : List GlobalVar → List Bytes
names_of globals = map (λ g. g.name) globals

abbrev pub needs_of : Hints → Bytes → List Fact
needs_of hints f = unwrap_or (option_map (λ c. c.needs) (contract_of hints f)) []

abbrev pub promises_of : Hints → Bytes → List Fact
promises_of hints f = unwrap_or (option_map (λ c. c.promises) (contract_of hints f)) []

-- without a list, every global
abbrev pub listed_or : List Bytes → Option (List Bytes) → List Bytes
listed_or globals None = globals
listed_or globals (Some listed) = listed

abbrev pub assigns_of : List Bytes → Hints → Bytes → List Bytes
assigns_of globals hints f = unwrap_or (option_map (λ c. listed_or globals c.assigns) (contract_of hints f)) globals

abbrev pub context_of : Program → Hints → Context
context_of p hints = record {
  numbers = numbers_in p;
  globals = names_of p.globals;
  gives = λ f. (func_in p.funcs f).gives;
  needs = needs_of hints;
  promises = promises_of hints;
  assigns = assigns_of (names_of p.globals) hints;
  reached = λ n. map (λ d. d.name) (candidates p n);
  invariants = invariants_of hints;
}
