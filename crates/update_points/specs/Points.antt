-- The points of an old program and a client, and which of them may update.
use Rattle.std.specs.Prelude.{⊤, ◌≡◌, ℕ, Bool, nat_eq, if◌then◌else◌, List, [], ◌∷◌, ◌++◌, map, Option, Some, None, Result, Ok, Err}
use Rattle.std.specs.List.{list_any, list_all, flat_map}
use Rattle.c_lang.specs.Trees.{Statement, Statements, if_else, while_loop, point, pick, none, more, statement_of, statements}
use Rattle.c_lang.specs.declared.unit.Unit.TheVariants.{Old}
use Rattle.c_lang.specs.Refusals as refusal
use Rattle.c_lang.specs.Refusals.{refused_at}
use Rattle.c_lang.specs.Units.{at}
use Rattle.c_lang.specs.declared.unit.Pos.{Pos}
use Rattle.c_lang.specs.declared.refusal.Refusal.{Refusal}
use Rattle.c_lang.specs.declared.refusal.Fail.{Fail}
use Rattle.c_lang.specs.declared.refusal.Fail.TheVariants as fail
use Rattle.c_lang.specs.declared.program.Func.{Func}
use Rattle.c_lang.specs.declared.program.Program.{Program}
use Rattle.update_points.specs.declared.gathering.PointAt.{PointAt}
use Rattle.update_points.specs.declared.points.Points.{Points}

-- ---- points in text order

abbrev mutual
  pub points_at : Statement → List PointAt
  points_at (point p k) = record { k = k; pos = p } ∷ []
  points_at (if_else p e a b) = points_in a ++ points_in b
  points_at (while_loop p e a) = points_in a
  points_at (pick p a b) = points_at a ++ points_at b
  points_at s = []

  pub points_in : Statements → List PointAt
  points_in none = []
  points_in (more s ss) = points_at s ++ points_in ss

abbrev pub points_of_func : Func → List PointAt
points_of_func f = points_in (statements (map statement_of f.body))

abbrev pub points_of : Program → List PointAt
points_of p = flat_map points_of_func p.funcs

abbrev pub client_points : Option Program → List PointAt
client_points None = []
client_points (Some p) = points_of p

-- of the old program, and then of the client
abbrev pub all_points : Program → Option Program → List PointAt
all_points first client = points_of first ++ client_points client

-- ---- numbers

abbrev pub is_listed : ℕ → List ℕ → Bool
is_listed k ks = list_any (nat_eq k) ks

abbrev pub numbers : List PointAt → List ℕ
numbers [] = []
numbers (p ∷ ps) = p.k ∷ numbers ps

-- the first point whose number stands before it, or among these
abbrev pub first_twice : List ℕ → List PointAt → Option Pos
first_twice seen [] = None
first_twice seen (p ∷ ps) = if is_listed p.k seen then Some p.pos else first_twice (seen ++ p.k ∷ []) ps

-- each listed number is that of a point
abbrev pub are_points : List ℕ → List ℕ → Bool
are_points ks ls = list_all (λ l. is_listed l ks) ls

-- ---- refusals

abbrev pub no_such_point : List ℕ → Option (List ℕ) → Option Refusal
no_such_point ks None = None
no_such_point ks (Some ls) = if are_points ks ls then None else Some (refused_at refusal.no_such_point (at Old 1))

abbrev pub refusal_by : Option Pos → Option Refusal → Option Refusal
refusal_by (Some p) other = Some (refused_at refusal.point_twice p)
refusal_by None other = other

-- 16 at the second point of a number, then 17 where a listed number is no point
abbrev pub refusal_of : List PointAt → Option (List ℕ) → Option Refusal
refusal_of points listed = refusal_by (first_twice [] points) (no_such_point (numbers points) listed)

-- ---- which points may update

-- the listed ones, or all where there is no list
abbrev pub permitted_by : List ℕ → Option (List ℕ) → ℕ → Bool
permitted_by ks None k = is_listed k ks
permitted_by ks (Some ls) k = is_listed k ls

abbrev pub permits : List PointAt → Option (List ℕ) → ℕ → Bool
permits points listed k = permitted_by (numbers points) listed k

-- what may update, or the first refusal
abbrev pub IsListed : List PointAt → Option (List ℕ) → Result Points Fail → Type 0
IsListed points listed (Ok may) = (refusal_of points listed ≡ None) × ((k : ℕ) → is_listed k may.numbers ≡ permits points listed k)
IsListed points listed (Err fail.NoMemory) = ⊤
IsListed points listed (Err (fail.Refused r)) = refusal_of points listed ≡ Some r

-- ---- the parts of the call

abbrev pub added : List ℕ → ℕ → List ℕ
added ks k = if is_listed k ks then ks else ks ++ k ∷ []

abbrev pub all_added : List ℕ → List ℕ → List ℕ
all_added ks [] = ks
all_added ks (l ∷ ls) = all_added (added ks l) ls

-- the numbers of points, where none comes twice
abbrev pub IsDistinct : List PointAt → Result (List ℕ) Fail → Type 0
IsDistinct points (Ok ks) = (first_twice [] points ≡ None) × (ks ≡ numbers points)
IsDistinct points (Err fail.NoMemory) = ⊤
IsDistinct points (Err (fail.Refused r)) = refusal_by (first_twice [] points) None ≡ Some r

-- the numbers that may update, of points with these numbers
abbrev pub IsPermitted : List ℕ → Option (List ℕ) → Result (List ℕ) Fail → Type 0
IsPermitted ks listed (Ok may) = (no_such_point ks listed ≡ None) × ((k : ℕ) → is_listed k may ≡ permitted_by ks listed k)
IsPermitted ks listed (Err fail.NoMemory) = ⊤
IsPermitted ks listed (Err (fail.Refused r)) = no_such_point ks listed ≡ Some r
