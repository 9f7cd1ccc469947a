-- Open branches by the facts that they share with the branch at work, the next one first.
use Rattle.std.specs.Prelude.{◌≡◌, ◌≤◌, ℕ, Bool, true, false, List, [], ◌∷◌, ◌++◌, length, take, map, Result, Ok, Err, ⊤}
use Rattle.std.specs.declared.alloc.AllocError.{AllocError}
use Rattle.terms.specs.declared.fact.Fact.{Fact}
use Rattle.terms.specs.declared.sequent.Sort.{Sort}
use Rattle.terms.specs.declared.sym.Sym.{Sym}
use Rattle.cert_form.specs.declared.cert.Rule.{Rule}
use Rattle.cert_checker.specs.declared.branch.Branch.{Branch}
use Rattle.cert_checker.specs.Checks.{checks}

-- how many facts are shared, and the facts that follow
abbrev pub Shared : Type 0
Shared = ℕ × List Fact

abbrev pub seen_branches : List Branch → List Shared
seen_branches branches = map (λ b. (b.shared, b.added.items)) branches

abbrev pub with_shared : ℕ → List (List Fact) → List Shared
with_shared n made = map (λ facts. (n, facts)) made

-- the facts of each branch
abbrev pub all_facts : List Fact → List Shared → List (List Fact)
all_facts facts branches = map (λ b. take b.0 facts ++ b.1) branches

-- each shares no more than the one before it
abbrev pub AreShared : ℕ → List Shared → Type 0
AreShared n [] = ⊤
AreShared n (b ∷ bs) = (b.0 ≤ n) × AreShared b.0 bs

-- one rule is done, or doesn't apply
abbrev pub IsStepDone : List (Sym × Sort) → Rule → List Fact → List Shared → Result Bool AllocError → List Fact → List Shared → Type 0
IsStepDone sorts rule facts branches (Ok true) more waiting =
    ((rules : List Rule) → checks sorts (rule ∷ rules) (all_facts facts branches) ≡ checks sorts rules (all_facts more waiting)) × AreShared (length more) waiting
IsStepDone sorts rule facts branches (Ok false) more waiting = (rules : List Rule) → checks sorts (rule ∷ rules) (all_facts facts branches) ≡ false
IsStepDone sorts rule facts branches (Err e) more waiting = ⊤

-- what is left of the rules and the branches checks where all does
pub record IsChecking (sorts : List (Sym × Sort)) (rules rest : List Rule) (start facts : List Fact) (branches : List Shared) : Type 0 where
  pub left : checks sorts rest (all_facts facts branches) ≡ checks sorts rules (start ∷ [])
  pub shared : AreShared (length facts) branches
