-- How far the list of a whole program has come.
use Rattle.std.specs.Prelude.{◌≡◌, ◌≤◌, Bool, true, false, List, [], ◌∷◌, ◌++◌, map, flat_map, Option, Some, None, unwrap_or}
use Rattle.c_lang.specs.declared.unit.Pos.{Pos}
use Rattle.c_lang.specs.declared.program.Func.{Func}
use Rattle.terms.specs.declared.sequent.Sequent.{Sequent}
use Rattle.weakest_preconditions.specs.Sorts.{sequent}
use Rattle.weakest_preconditions.specs.Conditions.{Part, function_conditions, function_part, initial_conditions, initial_part, node_limit, sequents_size, first_too_many}
use Rattle.annotated_bodies.specs.Sources.{Sources, context_in}

abbrev pub IsWithin : Option (List Sequent) → Type 0
IsWithin None = ⊥
IsWithin (Some l) = sequents_size l ≤ node_limit

abbrev pub so_far : Option (List Sequent) → List Sequent
so_far m = unwrap_or m []

-- the function's conditions, as sequents
abbrev pub sequents_of : Sources → Func → List Sequent
sequents_of s f = map (sequent s.0 f) (function_conditions (context_in s) f)

-- What is known behind a function, where these are made so far: its conditions are made, or there is too much with it.
abbrev pub IsOneRun : Sources → List Sequent → Func → Option (List Sequent) → Bool → Type 0
IsOneRun s l f new true = (new ≡ Some (l ++ sequents_of s f)) × IsWithin new
    × ((parts : List Part) → first_too_many (sequents_size l) (function_part s.0 (context_in s) f ∷ parts)
    ≡ first_too_many (sequents_size (l ++ sequents_of s f)) parts)
IsOneRun s l f new false = (parts : List Part) → first_too_many (sequents_size l) (function_part s.0 (context_in s) f ∷ parts) ≡ Some f.pos

-- The same behind several functions, with the position where there is too much.
abbrev pub IsRun : Sources → List Sequent → List Func → Option (List Sequent) → Option Pos → Type 0
IsRun s l fs new None = (new ≡ Some (l ++ flat_map (sequents_of s) fs)) × IsWithin new
    × ((parts : List Part) → first_too_many (sequents_size l) (map (function_part s.0 (context_in s)) fs ++ parts)
    ≡ first_too_many (sequents_size (l ++ flat_map (sequents_of s) fs)) parts)
IsRun s l fs new (Some pos) = (parts : List Part) → first_too_many (sequents_size l) (map (function_part s.0 (context_in s)) fs ++ parts) ≡ Some pos

-- Of `fs` the functions `rest` are left, where `m0` was made before them and `m` is made so far.
pub record Runs (s : Sources) (m0 : Option (List Sequent)) (fs : List Func) (m : Option (List Sequent)) (rest : List Func) : Type 0 where
  pub within : IsWithin m
  pub list : so_far m ++ flat_map (sequents_of s) rest ≡ so_far m0 ++ flat_map (sequents_of s) fs
  pub parts : (parts : List Part) → first_too_many (sequents_size (so_far m)) (map (function_part s.0 (context_in s)) rest ++ parts)
      ≡ first_too_many (sequents_size (so_far m0)) (map (function_part s.0 (context_in s)) fs ++ parts)

-- those of the start, for the function that starts the program
abbrev pub initial_of : Sources → Func → List Sequent
initial_of s main = map (sequent s.0 main) (initial_conditions s.0 (context_in s) main)

-- What is known behind the start, where these are made so far.
abbrev pub IsStart : Sources → List Sequent → Func → Option (List Sequent) → Bool → Type 0
IsStart s l main new true = (new ≡ Some (l ++ initial_of s main)) × (first_too_many (sequents_size l) (initial_part s.0 (context_in s) (Some main)) ≡ None)
IsStart s l main new false = first_too_many (sequents_size l) (initial_part s.0 (context_in s) (Some main)) ≡ Some main.pos
