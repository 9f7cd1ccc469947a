-- Rows over numbered atoms.
use Rattle.std.specs.Prelude.{◌≡◌, ℕ, ℤ, Bool, true, if◌then◌else◌, List, [], ◌∷◌, ◌++◌, Option, Some, None, is_some, Result, Ok, Err}
use Rattle.std.specs.List.{list_any, list_all, position_or_len}
use Rattle.linear_rows.specs.declared.row.Row.{Row}
use Rattle.linear_rows.specs.declared.row.RowFail.{RowFail}
use Rattle.linear_rows.specs.declared.row.RowFail.TheVariants.{NoMemory, Wide}
use Rattle.linear_rows.specs.Sums.{IsInForm, row_fits, dot}
use Rattle.terms.specs.Equality.{same_term}
use Rattle.terms.specs.Trees.{TermTree, FormTree}
use Rattle.cert_checker.specs.Linear.{Multiple}
use Rattle.cert_checker.specs.Rows.{Line, line_of, row_of}
use Rattle.cert_checker.specs.Worth.{weighed}

-- the number of an atom: its first place
abbrev pub atom_number : List TermTree → TermTree → ℕ
atom_number atoms t = position_or_len (λ u. same_term u t) atoms

abbrev pub has_atom : List TermTree → TermTree → Bool
has_atom atoms t = list_any (λ u. same_term u t) atoms

-- the atoms, with a new one at the end
abbrev pub with_atom : List TermTree → TermTree → List TermTree
with_atom atoms t = if has_atom atoms t then atoms else atoms ++ (t ∷ [])

-- the same for all atoms of multiples, in their order
unfoldable pub with_atoms : List TermTree → List Multiple → List TermTree
with_atoms atoms [] = atoms
with_atoms atoms (m ∷ ms) = with_atoms (with_atom atoms m.0) ms

-- what multiples come to where each atom stands for the number that a point gives its number
abbrev pub at_point : (ℕ → ℤ) → List TermTree → List Multiple → ℤ
at_point point atoms ms = weighed (λ t. point (atom_number atoms t)) ms

-- every atom of the multiples has a number
abbrev pub have_numbers : List TermTree → List Multiple → Bool
have_numbers atoms ms = list_all (λ m. has_atom atoms m.0) ms

-- a row over these atoms that says what a line says
pub record IsRow (atoms : List TermTree) (line : Line) (row : Row) : Type 0 where
  pub in_form : IsInForm row
  pub fits : row_fits row ≡ true
  pub parts : (point : ℕ → ℤ) → dot point row.parts ≡ at_point point atoms line.multiples
  pub bound : row.bound ≡ line.bound
  pub equal : row.equal ≡ line.is_equality

-- The row of a form over atoms, to which its new ones are added in the order of their first places.
abbrev pub IsRowOf : FormTree → List TermTree → Result (Option Row) RowFail → List TermTree → Type 0
IsRowOf f old (Ok None) new = (line_of f ≡ None) × (new ≡ old)
IsRowOf f old (Ok (Some row)) new = (line : Line) × (row_of f ≡ Some line) × IsRow new line row × (new ≡ with_atoms old line.multiples)
IsRowOf f old (Err Wide) new = (is_some (line_of f) ≡ true) × (row_of f ≡ None) × (new ≡ old)
IsRowOf f old (Err NoMemory) new = new ≡ old
