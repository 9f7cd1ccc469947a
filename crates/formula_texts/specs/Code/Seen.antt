-- What the readers' answers are, with the tokens behind their slices.
use Rattle.formula_texts.specs.declared.found.Found as found
use Rattle.formula_texts.specs.declared.found.FoundRow as found_row
use Rattle.std.specs.Prelude.{ℕ, ◌≤◌}
use Rattle.formula_texts.specs.declared.size.Size.{Size}
use Rattle.formula_texts.specs.Code.Reading.{Found, FoundRow}

abbrev pub seen : found.Found → Found
seen x = record { value = x.value; size = x.size; rest = x.rest.now }

abbrev pub seen_row : found_row.FoundRow → FoundRow
seen_row x = record { row = x.row; size = x.size; rest = x.rest.now }

-- every bracket and every operator is a part
abbrev pub IsInside : Size → Type 0
IsInside s = (s.brackets ≤ s.height) × (s.operators ≤ s.height)

abbrev pub IsWithin : ℕ → Size → Type 0
IsWithin d s = (1 ≤ s.height) × (s.height ≤ d) × (s.brackets ≤ s.height) × (s.operators ≤ s.height)
