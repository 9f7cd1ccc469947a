-- The conditions of a program with its hints: those of its functions in their order, and then the initial ones.
use Rattle.std.specs.Prelude.{ℕ, suc, ℤ, pos, ◌+◌, Bool, true, false, ◌&&◌, ◌||◌, nat_lt, if◌then◌else◌, ⊤, ◌≡◌, List, [], ◌∷◌, ◌++◌, map, flat_map, length, codes, Option, Some, None, Result, Ok, Err}
use Rattle.std.specs.Ordering.{int_eq}
use Rattle.std.specs.List.{list_any}
use Rattle.std.specs.Str.{bytes_eq}
use Rattle.c_lang.specs.Names.{Bytes}
use Rattle.c_lang.specs.Programs.{func_named}
use Rattle.c_lang.specs.Trees.{statements, statement_of}
use Rattle.c_lang.specs.declared.unit.Pos.{Pos}
use Rattle.c_lang.specs.declared.refusal.Fail.{Fail}
use Rattle.c_lang.specs.declared.refusal.Fail.TheVariants.{NoMemory, Refused}
use Rattle.c_lang.specs.Refusals.{refused_at, too_many_conditions}
use Rattle.std.specs.Option.{option_map}
use Rattle.c_lang.specs.declared.program.Shape.{Shape}
use Rattle.c_lang.specs.declared.program.Shape.TheVariants as shape
use Rattle.c_lang.specs.declared.program.Func.{Func}
use Rattle.c_lang.specs.declared.program.Program.{Program}
use Rattle.terms.specs.declared.sym.Sym.{Sym}
use Rattle.terms.specs.declared.fact.Fact.{Fact}
use Rattle.terms.specs.declared.fact.Fact.TheVariants as fact
use Rattle.terms.specs.declared.changes.Changes.{Changes}
use Rattle.terms.specs.declared.sequent.What.TheVariants as what
use Rattle.terms.specs.declared.sequent.Sequent.{Sequent}
use Rattle.terms.specs.Symbols.{same_sym}
use Rattle.terms.specs.Trees.{number, name, read, array, equal}
use Rattle.terms.specs.Names.{Occurrence, as_number, as_array, fact_names}
use Rattle.terms.specs.Replacing.{replaced_fact}
use Rattle.terms.specs.Sizes.{sequent_size}
use Rattle.loop_invariants.specs.Hints.{Hints}
use Rattle.expression_conditions.specs.Meanings.{current}
use Rattle.name_tables.specs.Declarations.{function_number}
use Rattle.loop_invariants.specs.EntryNames.{bound}
use Rattle.weakest_preconditions.specs.Changing.{change, entering}
use Rattle.loop_invariants.specs.Context.{Context, context_of}
use Rattle.weakest_preconditions.specs.Annotating.{start, annotated_all}
use Rattle.weakest_preconditions.specs.Annotated.{Body}
use Rattle.weakest_preconditions.specs.Wp.{Condition, changed, all_imply, goal_of, goals, promised, wp_all}
use Rattle.weakest_preconditions.specs.Sorts.{sequent}

abbrev pub main_name : Bytes
main_name = codes "main"

-- What has to hold where the end of the body is reached. The function that starts the program then gives 0; no
-- other function with a result comes to its end.
abbrev pub at_end : Context → Func → List Condition
at_end c f = if f.gives
    then (if bytes_eq f.name main_name then promised c f.name f.pos (number (pos 0)) else [])
    else goals f.pos what.Ensures (c.promises f.name)

abbrev pub annotated_body : Context → Func → Body
annotated_body c f = annotated_all c f.name start (statements (map statement_of f.body))

-- The conditions of a function, where its callers keep what it asks.
abbrev pub function_conditions : Context → Func → List Condition
function_conditions c f = map (changed (change (entering c.globals (map (λ p. p.1) f.params))))
    (all_imply (c.needs f.name) (wp_all c f.name (annotated_body c f) (at_end c f) (at_end c f)))

-- ---- the start of the program

-- a global's number at the start; an array's name is no number, and 0 here
abbrev pub initial_number : Program → Shape → ℤ
initial_number p (shape.Int z) = z
initial_number p (shape.Arr zs) = pos 0
initial_number p (shape.Fp n None) = pos 0
initial_number p (shape.Fp n (Some f)) = pos (function_number p f)

abbrev pub initial_numbers : Program → Changes
initial_numbers p = record { numbers = map (λ g. (current g.name, number (initial_number p g.shape))) p.globals; arrays = [] }

abbrev pub all_zero : List ℤ → Bool
all_zero [] = true
all_zero (z ∷ zs) = int_eq z (pos 0) && all_zero zs

-- The elements from the place k on, n in all: a fact for each up to the last one that isn't 0, and one for the others.
abbrev pub elements_are : Sym → ℕ → ℕ → List ℤ → List Fact
elements_are a n k [] = fact.All bound (number (pos k)) (number (pos n)) (equal (read (array a) (name bound)) (number (pos 0))) ∷ []
elements_are a n k (z ∷ zs) = if all_zero (z ∷ zs)
    then fact.All bound (number (pos k)) (number (pos n)) (equal (read (array a) (name bound)) (number (pos 0))) ∷ []
    else fact.Plain (equal (read (array a) (number (pos k))) (number z)) ∷ elements_are a n (suc k) zs

abbrev pub is_array : Sym → Occurrence → Bool
is_array x (as_array y) = same_sym x y
is_array x (as_number y) = false

-- what is known of a global at the start, if it is an array of which the fact speaks
abbrev pub known_elements : Fact → Bytes → Shape → List Fact
known_elements f a (shape.Arr zs) =
    if list_any (is_array (current a)) (fact_names f) then elements_are (current a) (length zs) 0 zs else []
known_elements f a (shape.Int z) = []
known_elements f a (shape.Fp n g) = []

abbrev pub initial_condition : Program → Pos → Fact → Condition
initial_condition p at f = record (goal_of at what.Initial (replaced_fact (change (initial_numbers p)) f)) {
  hyps = flat_map (λ g. known_elements f g.name g.shape) p.globals;
}

abbrev pub initial_conditions : Program → Context → Func → List Condition
initial_conditions p c main = map (initial_condition p main.pos) (c.needs main_name)

-- ---- the whole list

-- a part of the list, with the function to which it counts and how many conditions of this one stand before it
pub record Part : Type 0 where
  pub func : Func
  pub before : ℕ
  pub conditions : List Sequent

abbrev pub function_part : Program → Context → Func → Part
function_part p c f = record { func = f; before = 0; conditions = map (sequent p f) (function_conditions c f) }

abbrev pub initial_part : Program → Context → Option Func → List Part
initial_part p c None = []
initial_part p c (Some main) = record {
  func = main;
  before = length (function_conditions c main);
  conditions = map (sequent p main) (initial_conditions p c main);
} ∷ []

abbrev pub parts : Program → Hints → List Part
parts p hints =
    let c : Context = context_of p hints in
    map (function_part p c) p.funcs ++ initial_part p c (func_named p.funcs main_name)

abbrev pub conds : Program → Hints → List Sequent
conds p hints = flat_map (λ part. part.conditions) (parts p hints)

-- ---- too many

abbrev pub condition_limit : ℕ
condition_limit = 4096

abbrev pub node_limit : ℕ
node_limit = 16777216

abbrev pub sequents_size : List Sequent → ℕ
sequents_size [] = 0
sequents_size (s ∷ ss) = sequent_size s + sequents_size ss

-- The position of the first function with too many conditions, or with which all so far are too large together;
-- `nodes` is the size of those before.
abbrev pub first_too_many : ℕ → List Part → Option Pos
first_too_many nodes [] = None
first_too_many nodes (part ∷ rest) =
    if nat_lt condition_limit (part.before + length part.conditions) || nat_lt node_limit (nodes + sequents_size part.conditions)
    then Some part.func.pos
    else first_too_many (nodes + sequents_size part.conditions) rest

-- What `conditions` answers: the whole list, or a refusal exactly where there is too much.
abbrev pub AreConditions : Program → Hints → Result (List Sequent) Fail → Type 0
AreConditions p hints (Ok made) = (made ≡ conds p hints) × (first_too_many 0 (parts p hints) ≡ None)
AreConditions p hints (Err NoMemory) = ⊤
AreConditions p hints (Err (Refused r)) = option_map (refused_at too_many_conditions) (first_too_many 0 (parts p hints)) ≡ Some r
