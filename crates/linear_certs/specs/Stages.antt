-- The stages of the elimination of Fourier and Motzkin, over unbounded numbers.
use Rattle.std.specs.Prelude.{ℕ, ◌/◌, zero, suc, ℤ, pos, negsuc, ◌+ℤ◌, ◌*ℤ◌, List, [], ◌∷◌, ◌++◌, map, filter, Bool, true, false, ◌&&◌, Option, Some, None, if◌then◌else◌, nat_eq, min, unsigned_abs, length, replicate, slice_set}
use Rattle.std.specs.List.{list_any, flat_map}
use Rattle.std.specs.Ordering.{int_eq}
use Rattle.std.specs.Cmp.Lexicographic.{pointwise}
use Rattle.linear_rows.specs.declared.row.Row.{Row}
use Rattle.linear_rows.specs.Numbers.{is_zero}
use Rattle.linear_rows.specs.Sums.{Part, coefficient, plus_times}
use Rattle.linear_rows.specs.Combinations.{nothing}
use Rattle.linear_certs.specs.declared.entry.Entry.{Entry}
use Rattle.linear_certs.specs.Divisors.{gcd}

-- times * row
abbrev pub multiple : ℤ → Row → Row
multiple times row = plus_times nothing times row

-- a * left + b * right
abbrev pub mixed : ℤ → Row → ℤ → Row → Row
mixed a left b right = plus_times (multiple a left) b right

-- a * left + b * right, place by place.
abbrev pub mixed_multipliers : ℤ → List ℤ → ℤ → List ℤ → List ℤ
mixed_multipliers a [] b right = []
mixed_multipliers a (m ∷ ms) b [] = []
mixed_multipliers a (m ∷ ms) b (n ∷ ns) = (a *ℤ m +ℤ b *ℤ n) ∷ mixed_multipliers a ms b ns

-- One of `count` rows alone, with this multiplier.
abbrev pub single : ℕ → ℕ → ℤ → List ℤ
single count number times = slice_set (replicate count (pos 0)) number times

-- A row as an inequality, and the other inequality of an equality.
abbrev pub first_half : Row → Row
first_half row = record { parts = row.parts; bound = row.bound; equal = false }

abbrev pub second_half : Row → Row
second_half row = record { parts = (multiple (negsuc 0) row).parts; bound = (multiple (negsuc 0) row).bound; equal = false }

-- The inequalities of a given row, with their multipliers: the first half counts once, and the second half of an equality less once.
abbrev pub first_entry : ℕ → ℕ → Row → Entry
first_entry count number row = record { row = first_half row; multipliers = single count number (pos 1) }

abbrev pub second_entry : ℕ → ℕ → Row → Entry
second_entry count number row = record { row = second_half row; multipliers = single count number (negsuc 0) }

abbrev pub second_entries : ℕ → ℕ → Row → List Entry
second_entries count number row = if row.equal then second_entry count number row ∷ [] else []

abbrev pub halves : ℕ → ℕ → Row → List Entry
halves count number row = first_entry count number row ∷ second_entries count number row

-- Those of the rows from this number on, of `count` rows in all.
abbrev pub opened : ℕ → ℕ → List Row → List Entry
opened count number [] = []
opened count number (row ∷ rows) = halves count number row ++ opened count (suc number) rows

abbrev pub same_row : Row → Row → Bool
same_row left right = int_eq left.bound right.bound && pointwise (λ x y. nat_eq x.0 y.0 && int_eq x.1 y.1) left.parts right.parts

-- Whether one of the entries has the row.
abbrev pub has_row : List Entry → Row → Bool
has_row entries row = list_any (λ e. same_row e.row row) entries

-- Further entries behind those that are kept, each row once, the first of equal ones.
abbrev pub kept_once : List Entry → List Entry → List Entry
kept_once kept [] = kept
kept_once kept (entry ∷ more) = kept_once (if has_row kept entry.row then kept else kept ++ entry ∷ []) more

abbrev pub first_stage : List Row → List Entry
first_stage rows = kept_once [] (opened (length rows) 0 rows)

-- The first atom of a row. Atoms ascend, so it is the least one.
abbrev pub first_atom : List Part → Option ℕ
first_atom [] = None
first_atom (x ∷ xs) = Some x.0

abbrev pub smaller : Option ℕ → Option ℕ → Option ℕ
smaller None other = other
smaller (Some atom) None = Some atom
smaller (Some atom) (Some other) = Some (min atom other)

-- The least atom that a row has.
abbrev pub least_atom : List Entry → Option ℕ
least_atom [] = None
least_atom (e ∷ es) = smaller (first_atom e.row.parts) (least_atom es)

abbrev pub is_positive : ℤ → Bool
is_positive (pos zero) = false
is_positive (pos (suc n)) = true
is_positive (negsuc n) = false

abbrev pub is_negative : ℤ → Bool
is_negative (pos n) = false
is_negative (negsuc n) = true

-- An upper row bounds the atom from above, and a lower row from below.
abbrev pub is_upper : ℕ → Entry → Bool
is_upper atom entry = is_positive (coefficient atom entry.row.parts)

abbrev pub is_lower : ℕ → Entry → Bool
is_lower atom entry = is_negative (coefficient atom entry.row.parts)

abbrev pub lacks : ℕ → Entry → Bool
lacks atom entry = is_zero (coefficient atom entry.row.parts)

abbrev pub size_in : ℕ → Entry → ℕ
size_in atom entry = unsigned_abs (coefficient atom entry.row.parts)

-- Of a row with p times the atom and a row with -n times it: n/g and p/g, g being the greatest common divisor of p and n.
abbrev pub upper_times : ℕ → Entry → Entry → ℤ
upper_times atom upper lower = pos (size_in atom lower / gcd (size_in atom upper) (size_in atom lower))

abbrev pub lower_times : ℕ → Entry → Entry → ℤ
lower_times atom upper lower = pos (size_in atom upper / gcd (size_in atom upper) (size_in atom lower))

-- The sum of a pair, in which the atom cancels, and its multipliers.
abbrev pub combined : ℕ → Entry → Entry → Entry
combined atom upper lower = record {
  row = mixed (upper_times atom upper lower) upper.row (lower_times atom upper lower) lower.row;
  multipliers = mixed_multipliers (upper_times atom upper lower) upper.multipliers (lower_times atom upper lower) lower.multipliers;
}

abbrev pub pairs_of : ℕ → List Entry → Entry → List Entry
pairs_of atom stage upper = map (combined atom upper) (filter (is_lower atom) stage)

-- The stage behind one whose least atom is given: the rows without the atom, then the sums of the pairs, each row once.
abbrev pub eliminated : ℕ → List Entry → List Entry
eliminated atom stage = kept_once [] (filter (lacks atom) stage ++ flat_map (pairs_of atom stage) (filter (is_upper atom) stage))

-- A stage without atoms is the last one: it stays as it is.
abbrev pub next_at : Option ℕ → List Entry → List Entry
next_at None stage = stage
next_at (Some atom) stage = eliminated atom stage

abbrev pub next : List Entry → List Entry
next stage = next_at (least_atom stage) stage

abbrev pub after : ℕ → List Entry → List Entry
after zero entries = entries
after (suc k) entries = after k (next entries)

-- The stages of the rows, counted from 0.
abbrev pub stage : List Row → ℕ → List Entry
stage rows k = after k (first_stage rows)

abbrev pub no_parts : List Part → Bool
no_parts [] = true
no_parts (x ∷ xs) = false

-- A row without parts whose bound is below 0.
abbrev pub is_false : Entry → Bool
is_false entry = no_parts entry.row.parts && is_negative entry.row.bound

abbrev pub has_false : List Entry → Bool
has_false entries = list_any is_false entries
