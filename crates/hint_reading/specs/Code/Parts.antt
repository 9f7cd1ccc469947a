-- What the code keeps between two items.
use Rattle.std.specs.Prelude.{⊤, ◌≡◌, ℕ, not, ◌&&◌, ◌∷◌, ◌++◌, List, map, Option, Some, None, Result, Ok, Err}
use Rattle.std.specs.Option.{is_some}
use Rattle.std.specs.Borrow.{Bor}
use Rattle.std.specs.List.{list_all}
use Rattle.c_lang.specs.Names.{Bytes}
use Rattle.c_lang.specs.Refusals.{refused_at, bad_hints, unlisted_cell}
use Rattle.c_lang.specs.declared.unit.Pos.{Pos}
use Rattle.c_lang.specs.declared.refusal.Refusal.{Refusal}
use Rattle.c_lang.specs.declared.refusal.Fail.{Fail}
use Rattle.c_lang.specs.declared.refusal.Fail.TheVariants as fail
use Rattle.c_lang.specs.declared.program.Func.{Func}
use Rattle.c_lang.specs.declared.program.Program.{Program}
use Rattle.terms.specs.declared.fact.Fact.{Fact}
use Rattle.hint_texts.specs.declared.fault.Fault.{Fault}
use Rattle.hint_texts.specs.declared.fault.Fault.TheVariants as fault
use Rattle.hint_texts.specs.declared.hints.Clause.{Clause}
use Rattle.hint_texts.specs.declared.hints.ClauseKind.{ClauseKind}
use Rattle.hint_texts.specs.declared.hints.Head.TheVariants as head
use Rattle.hint_texts.specs.declared.hints.Item.{Item}
use Rattle.hint_texts.specs.Texts.{on_line}
use Rattle.loop_invariants.specs.Assigned.{lacking}
use Rattle.loop_invariants.specs.Hints.{Hints}
use Rattle.loop_invariants.specs.Clauses.{Place, loop_place}
use Rattle.hint_reading.specs.declared.parts.Parts.{Parts}
use Rattle.hint_reading.specs.declared.clauses.Role.{Role}
use Rattle.hint_reading.specs.declared.clauses.Role.TheVariants as role
use Rattle.hint_reading.specs.Meaning.{needs_by, promises_by, invariants_by, contract_in, contracts_by, loops_under, loops_by, hints_of}
use Rattle.hint_reading.specs.Demands.{Demand, demand, demands, first_unmet, may_say, may_say_at, may_say_there, are_new, has_loop, item_demands}

abbrev pub funcs_in : List (Bor Func) → List Func
funcs_in fs = map (λ f. f.now) fs

abbrev pub seen_parts : Parts → Hints
seen_parts parts = record { contracts = parts.contracts; loops = parts.loops }

abbrev pub facts_by : Role → ClauseKind → List Fact
facts_by role.Needs kind = needs_by kind
facts_by role.Promises kind = promises_by kind
facts_by role.Invariants kind = invariants_by kind

-- what a check says of the line of the first demand that isn't met
abbrev pub Fails : Fault → Option ℕ → Type 0
Fails fault.NoMemory first = ⊤
Fails (fault.NoText line) first = first ≡ Some line

abbrev pub Checks : {T : Type 0} → Result T Fault → Option ℕ → Type 0
Checks (Ok x) first = first ≡ None
Checks (Err fault) first = Fails fault first

-- what is asked of clauses in contracts of these functions
abbrev pub contract_demands : Program → List Func → List Clause → List Demand
contract_demands p fs cs = map (λ c. demand c.line (list_all (λ f. may_say p f c.kind) fs)) cs

-- of clauses at a loop
abbrev pub loop_demands : Program → Place → List Clause → List Demand
loop_demands p at cs = map (λ c. demand c.line (may_say_at p at c.kind)) cs

-- the hints with what an item says behind them
abbrev pub with_item : Program → Hints → Item → Hints
with_item p so_far item = record { contracts = so_far.contracts ++ contracts_by p item; loops = so_far.loops ++ loops_by item }

-- What reading something of which this is asked answers: it is so and this was done, or the first that isn't.
abbrev pub Reads : {T : Type 0} → Result T Fault → List Demand → Type 0 → Type 0
Reads (Ok x) ds done = (first_unmet ds ≡ None) × done
Reads (Err fault) ds done = Fails fault (first_unmet ds)

abbrev pub ReadsContract : Program → Hints → List Func → ℕ → List Clause → Hints → Result (Unit {0}) Fault → Type 0
ReadsContract p so_far fs line cs now result = Reads result (demand line (are_new so_far fs) ∷ contract_demands p fs cs)
    ((now.contracts ≡ so_far.contracts ++ map (λ f. (f.name, contract_in cs)) fs) × (now.loops ≡ so_far.loops))

abbrev pub ReadsLoop : Program → Hints → Bytes → ℕ → ℕ → List Clause → Hints → Result (Unit {0}) Fault → Type 0
ReadsLoop p so_far f n line cs now result = Reads result
    (demand line (is_some (loop_place p f n) && not (has_loop so_far f n)) ∷ map (λ c. demand c.line (may_say_there p (loop_place p f n) c.kind)) cs)
    ((now.contracts ≡ so_far.contracts) × (now.loops ≡ so_far.loops ++ loops_under (head.Loop f n) cs))

abbrev pub ReadsItem : Program → Hints → Item → Hints → Result (Unit {0}) Fault → Type 0
ReadsItem p so_far item now result = Reads result (item_demands p so_far item) (now ≡ with_item p so_far item)

abbrev pub ReadsAll : Program → List Item → Result Parts Fault → Type 0
ReadsAll p items (Ok parts) = (first_unmet (demands p items) ≡ None) × (seen_parts parts ≡ hints_of p items)
ReadsAll p items (Err fault) = Fails fault (first_unmet (demands p items))

abbrev pub ReadsHints : Program → List Item → Result Hints Fault → Type 0
ReadsHints p items (Ok hints) = (first_unmet (demands p items) ≡ None) × (hints ≡ hints_of p items)
ReadsHints p items (Err fault) = Fails fault (first_unmet (demands p items))

abbrev pub fail_of : Fault → Fail
fail_of fault.NoMemory = fail.NoMemory
fail_of (fault.NoText line) = fail.Refused (refused_at bad_hints (on_line line))

-- what is answered where the text is these items
pub data RefusesItems (p : Program) (items : List Item) : Refusal → Type 0 where
  unmet : (line : ℕ) → first_unmet (demands p items) ≡ Some line → RefusesItems p items (refused_at bad_hints (on_line line))
  lacks : first_unmet (demands p items) ≡ None → (at : Pos) → lacking p (hints_of p items) ≡ Some at → RefusesItems p items (refused_at unlisted_cell at)

abbrev pub IsCheckedFor : Program → List Item → Result Hints Fail → Type 0
IsCheckedFor p items (Ok hints) = (first_unmet (demands p items) ≡ None) × (hints ≡ hints_of p items) × (lacking p hints ≡ None)
IsCheckedFor p items (Err fail.NoMemory) = ⊤
IsCheckedFor p items (Err (fail.Refused why)) = RefusesItems p items why
