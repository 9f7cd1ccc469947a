-- The list of conditions while it grows, which is given up once it is too large.
use Rattle.std.specs.Prelude.{ℕ, ◌≤◌, ◌-◌, nat_le, if◌then◌else◌, List, [], ◌∷◌, ◌++◌, Option, Some, None}
use Rattle.c_lang.specs.declared.program.Func.{Func}
use Rattle.c_lang.specs.declared.program.Program.{Program}
use Rattle.terms.specs.declared.sequent.Sequent.{Sequent}
use Rattle.weakest_preconditions.specs.Wp.{Condition}
use Rattle.condition_sorts.specs.Sorted.{with_sorts}
use Rattle.weakest_preconditions.specs.Sorts.{sequent}
use Rattle.weakest_preconditions.specs.Conditions.{node_limit, sequents_size}

-- the list, if it isn't too large
abbrev pub within : List Sequent → Option (List Sequent)
within l = if nat_le (sequents_size l) node_limit then Some l else None

-- with one condition more of the function f
abbrev pub pushed : Program → Func → Option (List Sequent) → Condition → Option (List Sequent)
pushed p f None s = None
pushed p f (Some l) s = within (l ++ (sequent p f s ∷ []))

-- with these behind it
abbrev pub grown : Program → Func → Option (List Sequent) → List Condition → Option (List Sequent)
grown p f made [] = made
grown p f made (s ∷ l) = grown p f (pushed p f made s) l

-- how many nodes there is room for
abbrev pub room_in : Option (List Sequent) → ℕ
room_in None = 0
room_in (Some l) = node_limit - sequents_size l

abbrev pub HasRoom : Option (List Sequent) → ℕ → Type 0
HasRoom None n = ⊥
HasRoom (Some l) n = n ≤ node_limit - sequents_size l

abbrev pub with_one : Option (List Sequent) → Sequent → Option (List Sequent)
with_one None s = None
with_one (Some l) s = Some (l ++ (s ∷ []))

-- with what is made for each of these behind it
abbrev pub grown_each : {X : Type 0} → Program → Func → Option (List Sequent) → (X → List Condition) → List X → Option (List Sequent)
grown_each p f made make [] = made
grown_each p f made make (x ∷ xs) = grown_each p f (grown p f made (make x)) make xs

-- the same with a sequent that says nothing of its names
abbrev pub pushed_sequent : Program → Func → Option (List Sequent) → Sequent → Option (List Sequent)
pushed_sequent p f None s = None
pushed_sequent p f (Some l) s = within (l ++ (with_sorts p f s ∷ []))

abbrev pub grown_sequents : Program → Func → Option (List Sequent) → List Sequent → Option (List Sequent)
grown_sequents p f made [] = made
grown_sequents p f made (s ∷ l) = grown_sequents p f (pushed_sequent p f made s) l
