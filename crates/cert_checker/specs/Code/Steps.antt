-- How the row of a sum is made: steps that are left to do, and rows that are done, the next and the last one first.
use Rattle.std.specs.Prelude.{◌≡◌, ℕ, ◌+◌, ◌*◌, ◌≤◌, ℤ, pos, negsuc, ◌-ℤ◌, Bool, true, false, ◌&&◌, List, [], ◌∷◌, ◌++◌, reverse, length, Option, Some, None, Result, Ok, Err, ⊤}
use Rattle.std.specs.List.{list_all, AllZip}
use Rattle.linear_rows.specs.declared.row.Row.{Row}
use Rattle.linear_rows.specs.declared.row.RowFail.{RowFail}
use Rattle.linear_rows.specs.declared.row.RowFail.TheVariants.{NoMemory, Wide}
use Rattle.linear_rows.specs.Sums.{row_fits, plus_times}
use Rattle.terms.specs.Nodes.{term_size}
use Rattle.terms.specs.Trees.{TermTree, number, plus, minus, times}
use Rattle.cert_checker.specs.declared.step.Step.{Step}
use Rattle.cert_checker.specs.declared.step.Step.TheVariants as step
use Rattle.cert_checker.specs.declared.step.Operation.{Operation}
use Rattle.cert_checker.specs.declared.step.Operation.TheVariants as operation
use Rattle.cert_checker.specs.Linear.{Sum, number_sum, scaled_sum, total, difference, sum_of, linear_terms, sum_is_small}
use Rattle.cert_checker.specs.Numbering.{atom_number, with_atom, with_atoms}
use Rattle.cert_checker.specs.Code.SumRows.{IsSumRow}

abbrev pub number_row : ℤ → Row
number_row z = record { parts = []; bound = z; equal = true }

abbrev pub atom_row : ℕ → Row
atom_row n = record { parts = (n, pos 1) ∷ []; bound = pos 0; equal = true }

-- u - t + 1 in the order of t and u
abbrev pub turned : Sum → Sum → Sum
turned s r = total (scaled_sum (negsuc 0) s) (total r (number_sum (pos 1)))

abbrev pub less_one : Row → Row
less_one row = record row { bound = row.bound -ℤ pos 1 }

-- the number that a term is as written
abbrev pub literal_of : TermTree → Option ℤ
literal_of (number z) = Some z
literal_of t = None

-- how many rows an operation takes
abbrev pub operands : Operation → ℕ
operands (operation.Scale z) = 1
operands o = 2

abbrev pub sums_behind : Operation → List Sum → List Sum
sums_behind operation.Add (r ∷ s ∷ ss) = total s r ∷ ss
sums_behind operation.Subtract (r ∷ s ∷ ss) = difference s r ∷ ss
sums_behind operation.Turn (r ∷ s ∷ ss) = turned s r ∷ ss
sums_behind (operation.Scale z) (s ∷ ss) = scaled_sum z s ∷ ss
sums_behind o ss = []

-- the last rows put together, the last one first
abbrev pub sum_behind : ℤ → List Row → List Row
sum_behind c (r ∷ l ∷ rows) = plus_times l c r ∷ rows
sum_behind c rows = []

abbrev pub turn_behind : List Row → List Row
turn_behind (r ∷ l ∷ rows) = plus_times r (negsuc 0) (less_one l) ∷ rows
turn_behind rows = []

abbrev pub scale_behind : ℤ → List Row → List Row
scale_behind z (r ∷ rows) = plus_times (number_row (pos 0)) z r ∷ rows
scale_behind z [] = []

abbrev pub rows_behind : Operation → List Row → List Row
rows_behind operation.Add rows = sum_behind (pos 1) rows
rows_behind operation.Subtract rows = sum_behind (negsuc 0) rows
rows_behind operation.Turn rows = turn_behind rows
rows_behind (operation.Scale z) rows = scale_behind z rows

abbrev pub first_fits : List Row → Bool
first_fits [] = true
first_fits (row ∷ rows) = row_fits row

abbrev pub first_small : List Sum → Bool
first_small [] = true
first_small (s ∷ ss) = sum_is_small s

-- the sum that the steps make of sums, where every operation has its operands and one sum is left
unfoldable pub sum_after : List Step → List Sum → Option Sum
sum_after [] [] = None
sum_after [] (s ∷ []) = Some s
sum_after [] (s ∷ r ∷ ss) = None
sum_after (step.Term t ∷ steps) ss = sum_after steps (sum_of t ∷ ss)
sum_after (step.Apply (operation.Scale z) ∷ steps) [] = None
sum_after (step.Apply (operation.Scale z) ∷ steps) (s ∷ ss) = sum_after steps (scaled_sum z s ∷ ss)
sum_after (step.Apply o ∷ steps) [] = None
sum_after (step.Apply o ∷ steps) (s ∷ []) = None
sum_after (step.Apply o ∷ steps) (r ∷ s ∷ ss) = sum_after steps (sums_behind o (r ∷ s ∷ ss))

-- whether all sums on the way are small
unfoldable pub are_small_after : List Step → List Sum → Bool
are_small_after [] ss = true
are_small_after (step.Term t ∷ steps) ss = list_all (λ u. sum_is_small (sum_of u)) (linear_terms t) && are_small_after steps (sum_of t ∷ ss)
are_small_after (step.Apply o ∷ steps) ss = first_small (sums_behind o ss) && are_small_after steps (sums_behind o ss)

unfoldable pub atoms_after : List Step → List TermTree → List TermTree
atoms_after [] atoms = atoms
atoms_after (step.Term t ∷ steps) atoms = atoms_after steps (with_atoms atoms (sum_of t).multiples)
atoms_after (step.Apply o ∷ steps) atoms = atoms_after steps atoms

-- how much is left to do
unfoldable pub work : List Step → ℕ
work [] = 0
work (step.Term t ∷ steps) = 2 * term_size t + work steps
work (step.Apply o ∷ steps) = 1 + work steps

-- what the steps come to: the sum, whether all sums on the way are small, and the atoms
pub record Goal : Type 0 where
  pub sum : Sum
  pub small : Bool
  pub atoms : List TermTree

-- these steps, rows and atoms come to the goal
pub record ComesTo (goal : Goal) (steps : List Step) (rows : List Row) (atoms : List TermTree) : Type 0 where
  pub sums : List Sum
  pub stand : AllZip (IsSumRow atoms) sums rows
  pub fit : list_all row_fits rows ≡ true
  pub sum : sum_after steps sums ≡ Some goal.sum
  pub small : are_small_after steps sums ≡ goal.small
  pub numbered : atoms_after steps atoms ≡ goal.atoms

-- what stands behind a step: the rest comes to the same, or the goal isn't small
abbrev pub GoesOn : Goal → Result (Unit {0}) RowFail → List Step → List Row → List TermTree → Type 0
GoesOn goal (Ok u) steps rows atoms = ComesTo goal steps rows atoms
GoesOn goal (Err Wide) steps rows atoms = goal.small ≡ false
GoesOn goal (Err NoMemory) steps rows atoms = ⊤

-- what a row answers that was to be added
abbrev pub IsPushed : Row → List Row → Result (Unit {0}) RowFail → List Row → Type 0
IsPushed row old (Ok u) new = (new ≡ old ++ (row ∷ [])) × (row_fits row ≡ true)
IsPushed row old (Err Wide) new = row_fits row ≡ false
IsPushed row old (Err NoMemory) new = ⊤

-- what an operation answers
abbrev pub IsApplied : List Row → Result (Unit {0}) RowFail → List Row → Type 0
IsApplied made (Ok u) new = (reverse new ≡ made) × (first_fits made ≡ true)
IsApplied made (Err Wide) new = first_fits made ≡ false
IsApplied made (Err NoMemory) new = ⊤

-- a list that has grown at its end
pub record Grown {X : Type 0} (old new : List X) : Type 0 where
  pub more : List X
  pub is : new ≡ old ++ more

-- ---- a term as a step

-- how the row of a term is made of those of its parts
pub data Shape : Type 0 where
  a_number : ℤ → Shape
  a_total : TermTree → TermTree → Shape
  a_difference : TermTree → TermTree → Shape
  a_multiple : ℤ → TermTree → Shape
  an_atom : Shape

abbrev pub product_shape : Option ℤ → Option ℤ → TermTree → TermTree → Shape
product_shape (Some z) o t u = a_multiple z u
product_shape None (Some z) t u = a_multiple z t
product_shape None None t u = an_atom

abbrev pub shape_of : TermTree → Shape
shape_of (number z) = a_number z
shape_of (plus t u) = a_total t u
shape_of (minus t u) = a_difference t u
shape_of (times t u) = product_shape (literal_of t) (literal_of u) t u
shape_of t = an_atom

abbrev pub opened_steps : Shape → List Step → List Step
opened_steps (a_total t u) steps = step.Term t ∷ (step.Term u ∷ (step.Apply operation.Add ∷ steps))
opened_steps (a_difference t u) steps = step.Term t ∷ (step.Term u ∷ (step.Apply operation.Subtract ∷ steps))
opened_steps (a_multiple z t) steps = step.Term t ∷ (step.Apply (operation.Scale z) ∷ steps)
opened_steps s steps = steps

abbrev pub opened_rows : Shape → TermTree → List TermTree → List Row → List Row
opened_rows (a_number z) t atoms rows = number_row z ∷ rows
opened_rows an_atom t atoms rows = atom_row (atom_number (with_atom atoms t) t) ∷ rows
opened_rows s t atoms rows = rows

abbrev pub opened_atoms : Shape → TermTree → List TermTree → List TermTree
opened_atoms an_atom t atoms = with_atom atoms t
opened_atoms s t atoms = atoms

abbrev pub opened_fits : Shape → Bool
opened_fits (a_number z) = row_fits (number_row z)
opened_fits (a_multiple z t) = row_fits (number_row z)
opened_fits s = true

-- what opening a term answers, where the rows and steps stand the last one first
pub record IsOpen (s : Shape) (t : TermTree) (steps more : List Step) (rows done : List Row) (atoms numbered : List TermTree) : Type 0 where
  pub steps_are : more ≡ opened_steps s steps
  pub rows_are : done ≡ opened_rows s t atoms rows
  pub atoms_are : numbered ≡ opened_atoms s t atoms
  pub fits : opened_fits s ≡ true

abbrev pub IsOpened : Shape → TermTree → List Step → List Row → List TermTree → Result (Unit {0}) RowFail → List Step → List Row → List TermTree → Type 0
IsOpened s t steps rows atoms (Ok u) more done numbered = IsOpen s t steps more rows done atoms numbered
IsOpened s t steps rows atoms (Err Wide) more done numbered = opened_fits s ≡ false
IsOpened s t steps rows atoms (Err NoMemory) more done numbered = ⊤

-- steps that are pushed where a test holds
abbrev pub IsScaled : Bool → Result (Unit {0}) RowFail → List Step → List Step → Type 0
IsScaled small (Ok u) made new = (new ≡ made) × (small ≡ true)
IsScaled small (Err Wide) made new = small ≡ false
IsScaled small (Err NoMemory) made new = ⊤

-- ---- all steps

abbrev pub HasOperands : Step → List Row → Type 0
HasOperands (step.Term t) rows = ⊤
HasOperands (step.Apply o) rows = operands o ≤ length rows

-- the steps come to some goal
pub record HasGoal (steps : List Step) (rows : List Row) (atoms : List TermTree) : Type 0 where
  pub goal : Goal
  pub comes : ComesTo goal steps rows atoms

-- the row that all steps make
pub record IsMade (goal : Goal) (row : Row) (atoms : List TermTree) : Type 0 where
  pub is_row : IsSumRow atoms goal.sum row
  pub fits : row_fits row ≡ true
  pub small : goal.small ≡ true
  pub atoms_are : atoms ≡ goal.atoms

abbrev pub Makes : Goal → Result Row RowFail → List TermTree → Type 0
Makes goal (Ok row) atoms = IsMade goal row atoms
Makes goal (Err Wide) atoms = goal.small ≡ false
Makes goal (Err NoMemory) atoms = ⊤
