-- What is asked of the items of a text for a program, in the order of the text, each with the line where it is asked.
use Rattle.std.specs.Prelude.{ℕ, Bool, true, false, not, ◌&&◌, if◌then◌else◌, List, [], ◌∷◌, ◌++◌, map, Option, Some, None}
use Rattle.std.specs.List.{list_any, list_all}
use Rattle.std.specs.Option.{is_some}
use Rattle.std.specs.Str.{bytes_eq}
use Rattle.c_lang.specs.Names.{Bytes}
use Rattle.c_lang.specs.Programs.{global_named}
use Rattle.c_lang.specs.declared.program.Func.{Func}
use Rattle.c_lang.specs.declared.program.Program.{Program}
use Rattle.hint_texts.specs.declared.hints.Quantified.{Quantified}
use Rattle.hint_texts.specs.declared.hints.Head.{Head}
use Rattle.hint_texts.specs.declared.hints.Head.TheVariants as head
use Rattle.hint_texts.specs.declared.hints.ClauseKind.{ClauseKind}
use Rattle.hint_texts.specs.declared.hints.ClauseKind.TheVariants as clause
use Rattle.hint_texts.specs.declared.hints.Item.{Item}
use Rattle.loop_invariants.specs.Hints.{Hints}
use Rattle.loop_invariants.specs.Adding.{is_of}
use Rattle.loop_invariants.specs.Clauses.{Place, at_needs, at_promises, loop_place, may_stand, may_bind}
use Rattle.hint_reading.specs.Subjects.{subjects}
use Rattle.hint_reading.specs.Meaning.{hints_of}

-- something that is asked on a line, and whether it is so
pub record Demand : Type 0 where
  pub line : ℕ
  pub met : Bool

abbrev pub demand : ℕ → Bool → Demand
demand line met = record { line = line; met = met }

-- the line of the first that isn't met
abbrev pub first_unmet : List Demand → Option ℕ
first_unmet [] = None
first_unmet (d ∷ ds) = if d.met then first_unmet ds else Some d.line

-- ---- clauses

abbrev pub may_be_bound : Program → Place → Option Bytes → Bool
may_be_bound p at None = true
may_be_bound p at (Some x) = may_bind p at x

-- the fact may stand there, and so may the name that its `forall` has
abbrev pub may_be_said : Program → Place → Quantified → Bool
may_be_said p at q = may_be_bound p at q.name && may_stand p at q.fact

abbrev pub are_globals : Program → List Bytes → Bool
are_globals p xs = list_all (λ x. is_some (global_named p.globals x)) xs

-- in a contract of the function
abbrev pub may_say : Program → Func → ClauseKind → Bool
may_say p f (clause.Requires q) = may_be_said p (at_needs f) q
may_say p f (clause.Ensures q) = may_be_said p (at_promises f) q
may_say p f (clause.Assigns xs) = are_globals p xs
may_say p f (clause.Invariant q) = false

-- at a loop, where there is one
abbrev pub may_say_at : Program → Place → ClauseKind → Bool
may_say_at p at (clause.Requires q) = false
may_say_at p at (clause.Ensures q) = false
may_say_at p at (clause.Assigns xs) = false
may_say_at p at (clause.Invariant q) = may_be_said p at q

abbrev pub may_say_there : Program → Option Place → ClauseKind → Bool
may_say_there p None kind = false
may_say_there p (Some at) kind = may_say_at p at kind

-- in each contract that the item gives, or at its loop
abbrev pub may_say_in : Program → Head → ClauseKind → Bool
may_say_in p (head.Both f) kind = list_all (λ d. may_say p d kind) (subjects p (head.Both f))
may_say_in p (head.At f) kind = list_all (λ d. may_say p d kind) (subjects p (head.At f))
may_say_in p (head.Loop f n) kind = may_say_there p (loop_place p f n) kind

-- ---- the beginnings of items

abbrev pub has_contract : Hints → Bytes → Bool
has_contract hints f = list_any (λ entry. bytes_eq entry.0 f) hints.contracts

abbrev pub has_loop : Hints → Bytes → ℕ → Bool
has_loop hints f n = list_any (is_of f n) hints.loops

abbrev pub has_some : {A : Type 0} → List A → Bool
has_some [] = false
has_some (x ∷ xs) = true

-- there is such a function, and none of them has a contract yet
abbrev pub are_new : Hints → List Func → Bool
are_new so_far fs = has_some fs && list_all (λ f. not (has_contract so_far f.name)) fs

-- behind items that are the hints so far
abbrev pub may_begin : Program → Hints → Head → Bool
may_begin p so_far (head.Both f) = are_new so_far (subjects p (head.Both f))
may_begin p so_far (head.At f) = are_new so_far (subjects p (head.At f))
may_begin p so_far (head.Loop f n) = is_some (loop_place p f n) && not (has_loop so_far f n)

-- ---- items

abbrev pub item_demands : Program → Hints → Item → List Demand
item_demands p so_far item = demand item.line (may_begin p so_far item.head) ∷ map (λ c. demand c.line (may_say_in p item.head c.kind)) item.clauses

-- of items behind others
abbrev pub demands_behind : Program → List Item → List Item → List Demand
demands_behind p before [] = []
demands_behind p before (item ∷ items) = item_demands p (hints_of p before) item ++ demands_behind p (before ++ (item ∷ [])) items

abbrev pub demands : Program → List Item → List Demand
demands p items = demands_behind p [] items
