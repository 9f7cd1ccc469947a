-- The limits that the rows of a stage set to its atom, whose numerator is still 0, and how large the numbers become.
use Rattle.std.specs.Prelude.{◌≡◌, ◌≤◌, ◌<◌, ℕ, ◌+◌, ◌*◌, ◌^◌, ℤ, pos, ◌-ℤ◌, ◌*ℤ◌, ◌≤ℤ◌, ◌<ℤ◌, List, Bool, true, false, length, unsigned_abs, Option, Some, None, ◌⊎◌}
use Rattle.std.specs.Int.{◌∣◌}
use Rattle.std.specs.List.{All, Contains}
use Rattle.linear_rows.specs.Sums.{dot, coefficient}
use Rattle.linear_certs.specs.declared.entry.Entry.{Entry}
use Rattle.linear_certs.specs.declared.limit.Limit.{Limit}
use Rattle.linear_certs.specs.Stages.{is_upper, is_lower}
use Rattle.linear_certs.specs.Points.{HasNone, IsValue, IsLowest, size_bound}

-- The lower rows, or the upper ones.
abbrev pub side_of : Bool → ℕ → Entry → Bool
side_of true atom entry = is_lower atom entry
side_of false atom entry = is_upper atom entry

-- Of two lower limits the greater is tighter, of two upper ones the smaller.
abbrev pub IsAsTight : Bool → ℤ → ℤ → Type 0
IsAsTight true x y = y ≤ℤ x
IsAsTight false x y = x ≤ℤ y

-- What a row leaves to its atom, times the denominator.
abbrev pub room : (ℕ → ℤ) → ℤ → Entry → ℤ
room point den entry = (entry.row.bound *ℤ den) -ℤ dot point entry.row.parts

-- The row is true with the limit as its atom's value, or is an equation.
abbrev pub Leaves : ℕ → (ℕ → ℤ) → ℤ → Limit → Entry → Type 0
Leaves atom point den limit entry = (coefficient atom entry.row.parts *ℤ limit.num) ≤ℤ (room point den entry *ℤ limit.den)

abbrev pub Fixes : ℕ → (ℕ → ℤ) → ℤ → Limit → Entry → Type 0
Fixes atom point den limit entry = coefficient atom entry.row.parts *ℤ limit.num ≡ room point den entry *ℤ limit.den

-- Sizes that entries and a point over a denominator keep.
pub record AreSizes (atoms coefficient bound den num : ℕ) (point : ℕ → ℤ) (over : ℤ) (entries : List Entry) : Type 0 where
  pub lengths : All (λ e. length e.row.parts ≤ atoms) entries
  pub coefficients : All (λ e. All (λ part. unsigned_abs part.1 ≤ coefficient) e.row.parts) entries
  pub bounds : All (λ e. unsigned_abs e.row.bound ≤ bound) entries
  pub dens : unsigned_abs over ≤ den
  pub nums : (atom : ℕ) → unsigned_abs (point atom) ≤ num

-- The size bound passes 2^120, whatever sizes are kept.
abbrev pub IsPast : (ℕ → ℤ) → ℤ → List Entry → Type 0
IsPast point over entries = (atoms coefficient bound den num : ℕ) → AreSizes atoms coefficient bound den num point over entries → 2 ^ 120 < size_bound atoms coefficient bound den num

abbrev pub IsSmallLimit : (ℕ → ℤ) → ℤ → List Entry → Limit → Type 0
IsSmallLimit point over entries limit = (atoms coefficient bound den num : ℕ) → AreSizes atoms coefficient bound den num point over entries
    → (unsigned_abs limit.num ≤ bound * den + atoms * coefficient * num) × (unsigned_abs limit.den ≤ coefficient)

-- The limit that a row sets.
pub record IsLimitOf (atom : ℕ) (point : ℕ → ℤ) (over : ℤ) (entries : List Entry) (entry : Entry) (limit : Limit) : Type 0 where
  pub up : pos 0 <ℤ limit.den
  pub fixes : Fixes atom point over limit entry
  pub small : IsSmallLimit point over entries limit

-- The tightest limit that the rows of a side set.
pub record IsTightest (side : Entry → Bool) (atom : ℕ) (point : ℕ → ℤ) (over : ℤ) (entries : List Entry) (limit : Limit) : Type 0 where
  pub up : pos 0 <ℤ limit.den
  pub all : All (λ entry. side entry ≡ true → Leaves atom point over limit entry) entries
  pub one : (entry : Entry) × (Contains entries entry × (side entry ≡ true) × Fixes atom point over limit entry)
  pub small : IsSmallLimit point over entries limit

-- The tightest limit of the rows so far, or none where no row is on the side.
abbrev pub IsBest : Bool → ℕ → (ℕ → ℤ) → ℤ → List Entry → Option Limit → Type 0
IsBest lower atom point over seen None = HasNone (side_of lower atom) seen
IsBest lower atom point over seen (Some limit) = IsTightest (side_of lower atom) atom point over seen limit

-- The tighter one of two limits.
abbrev pub IsTighter : Bool → Limit → Limit → Limit → Type 0
IsTighter lower limit other chosen = ((chosen ≡ limit) × IsAsTight lower (limit.num *ℤ other.den) (other.num *ℤ limit.den))
    ⊎ ((chosen ≡ other) × IsAsTight lower (other.num *ℤ limit.den) (limit.num *ℤ other.den))

-- The limit that gives the atom its value, or none where no row has the atom.
abbrev pub IsChosen : ℕ → (ℕ → ℤ) → ℤ → List Entry → Option Limit → Type 0
IsChosen atom point over entries None = HasNone (is_lower atom) entries × HasNone (is_upper atom) entries
IsChosen atom point over entries (Some limit) = IsTightest (is_lower atom) atom point over entries limit
    ⊎ (HasNone (is_lower atom) entries × IsTightest (is_upper atom) atom point over entries limit)

-- The same limit, with nothing in common: what divides both numbers times a third one divides that.
pub record IsReduced (limit lowest : Limit) : Type 0 where
  pub common : ℤ
  pub common_up : pos 0 <ℤ common
  pub num : limit.num ≡ common *ℤ lowest.num
  pub den : limit.den ≡ common *ℤ lowest.den
  pub up : pos 0 <ℤ lowest.den
  pub apart : (m s : ℕ) → m ∣ (unsigned_abs lowest.num * s) → m ∣ (unsigned_abs lowest.den * s) → m ∣ s

-- The point with the limit as the value of an atom, over the denominator of both.
pub record IsMoved (atom : ℕ) (limit : Limit) (point : ℕ → ℤ) (over : ℤ) (new : ℕ → ℤ) (new_over : ℤ) : Type 0 where
  pub others : (a : ℕ) → (a ≡ atom → ⊥) → new a ≡ point a *ℤ limit.den
  pub here : new atom ≡ limit.num
  pub den : new_over ≡ over *ℤ limit.den

-- The point with the value of one atom more.
pub record IsNextPoint (atom : ℕ) (entries : List Entry) (point : ℕ → ℤ) (over : ℤ) (new : ℕ → ℤ) (new_over : ℤ) : Type 0 where
  pub times : ℤ
  pub up : pos 0 <ℤ times
  pub others : (a : ℕ) → (a ≡ atom → ⊥) → new a ≡ point a *ℤ times
  pub den : new_over ≡ over *ℤ times
  pub value : IsValue new new_over atom entries
  pub lowest : IsLowest new new_over
