-- The hints that items are.
use Rattle.std.specs.Prelude.{List, [], ◌∷◌, map, flat_map, Option, Some, None}
use Rattle.c_lang.specs.Names.{Bytes}
use Rattle.c_lang.specs.declared.program.Program.{Program}
use Rattle.terms.specs.declared.fact.Fact.{Fact}
use Rattle.hint_texts.specs.declared.hints.Head.{Head}
use Rattle.hint_texts.specs.declared.hints.Head.TheVariants as head
use Rattle.hint_texts.specs.declared.hints.Clause.{Clause}
use Rattle.hint_texts.specs.declared.hints.ClauseKind.{ClauseKind}
use Rattle.hint_texts.specs.declared.hints.ClauseKind.TheVariants as clause
use Rattle.hint_texts.specs.declared.hints.Item.{Item}
use Rattle.loop_invariants.specs.declared.hints.Contract.{Contract}
use Rattle.loop_invariants.specs.declared.hints.LoopInvariants.{LoopInvariants}
use Rattle.loop_invariants.specs.Hints.{Hints}
use Rattle.hint_reading.specs.Subjects.{subjects}

-- ---- what a clause says

abbrev pub needs_by : ClauseKind → List Fact
needs_by (clause.Requires q) = q.fact ∷ []
needs_by (clause.Ensures q) = []
needs_by (clause.Assigns xs) = []
needs_by (clause.Invariant q) = []

abbrev pub promises_by : ClauseKind → List Fact
promises_by (clause.Requires q) = []
promises_by (clause.Ensures q) = q.fact ∷ []
promises_by (clause.Assigns xs) = []
promises_by (clause.Invariant q) = []

abbrev pub invariants_by : ClauseKind → List Fact
invariants_by (clause.Requires q) = []
invariants_by (clause.Ensures q) = []
invariants_by (clause.Assigns xs) = []
invariants_by (clause.Invariant q) = q.fact ∷ []

abbrev pub cells_by : ClauseKind → Option (List Bytes)
cells_by (clause.Requires q) = None
cells_by (clause.Ensures q) = None
cells_by (clause.Assigns xs) = Some xs
cells_by (clause.Invariant q) = None

-- ---- what an item says

abbrev pub or_later : Option (List Bytes) → Option (List Bytes) → Option (List Bytes)
or_later (Some xs) later = Some xs
or_later None later = later

-- the cells that its clauses list, if one does
abbrev pub cells_in : List Clause → Option (List Bytes)
cells_in [] = None
cells_in (c ∷ cs) = or_later (cells_by c.kind) (cells_in cs)

abbrev pub contract_in : List Clause → Contract
contract_in cs = record {
  needs = flat_map (λ c. needs_by c.kind) cs;
  promises = flat_map (λ c. promises_by c.kind) cs;
  assigns = cells_in cs;
}

abbrev pub contracts_by : Program → Item → List (Bytes × Contract)
contracts_by p item = map (λ f. (f.name, contract_in item.clauses)) (subjects p item.head)

abbrev pub loops_under : Head → List Clause → List LoopInvariants
loops_under (head.Both f) cs = []
loops_under (head.At f) cs = []
loops_under (head.Loop f n) cs = (record { func = f; number = n; facts = flat_map (λ c. invariants_by c.kind) cs }) ∷ []

abbrev pub loops_by : Item → List LoopInvariants
loops_by item = loops_under item.head item.clauses

-- ---- what all items say

abbrev pub hints_of : Program → List Item → Hints
hints_of p items = record { contracts = flat_map (contracts_by p) items; loops = flat_map loops_by items }
