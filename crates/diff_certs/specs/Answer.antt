-- What the answers mean.
use Rattle.std.specs.Prelude.{◌≡◌, ◌<◌, ℕ, ℤ, pos, ◌-ℤ◌, List, length, get_or, ⊤}
use Rattle.diff_certs.specs.declared.row.DiffRow.{DiffRow}
use Rattle.diff_certs.specs.declared.walk.Reached.{Reached}
use Rattle.diff_certs.specs.declared.answer.DiffLeaf.{DiffLeaf}
use Rattle.diff_certs.specs.declared.answer.DiffLeaf.TheVariants.{Found, Point, NoMemory}
use Rattle.diff_certs.specs.Rows.{SatisfiesAll, AreRefuted, IsCycle}
use Rattle.diff_certs.specs.Code.Distances.{distance_at}

-- A name's integer, 0 where none is given.
abbrev pub coordinate : List ℤ → ℕ → ℤ
coordinate values n = get_or values n (pos 0)

-- The distances of the names less that of 0.
abbrev pub IsShifted : List Reached → List ℤ → Type 0
IsShifted nodes values = (length values ≡ 64) × ((n : ℕ) → n < length values → coordinate values n ≡ (distance_at nodes n -ℤ distance_at nodes 64))

-- Found: no integers satisfy all rows, and the cycle shows it. Point: the integers, one for each of the 64 names, satisfy every row.
abbrev pub IsAnswer : List DiffRow → DiffLeaf → Type 0
IsAnswer rows (Found cycle) = AreRefuted rows × IsCycle rows cycle.items
IsAnswer rows (Point values) = SatisfiesAll (coordinate values.items) rows × (length values.items ≡ 64)
IsAnswer rows NoMemory = ⊤
