-- What sums of multiples are worth, and when a row is true.
use Rattle.std.specs.Prelude.{◌≡◌, ℤ, pos, ◌+ℤ◌, ◌*ℤ◌, ◌≤ℤ◌, true, List, [], ◌∷◌}
use Rattle.terms.specs.Trees.{TermTree}
use Rattle.terms.specs.Truth.{Interpretation, term_at}
use Rattle.cert_checker.specs.Linear.{Multiple, Sum}
use Rattle.cert_checker.specs.Rows.{Line}

-- what multiples come to where each atom is worth what a function gives
abbrev pub weighed : (TermTree → ℤ) → List Multiple → ℤ
weighed f [] = pos 0
weighed f (m ∷ ms) = m.1 *ℤ f m.0 +ℤ weighed f ms

abbrev pub worth : Interpretation → List Multiple → ℤ
worth v ms = weighed (term_at v) ms

abbrev pub sum_at : Interpretation → Sum → ℤ
sum_at v s = worth v s.multiples +ℤ s.constant

-- the row is true
pub record LineAt (v : Interpretation) (line : Line) : Type 0 where
  pub below : worth v line.multiples ≤ℤ line.bound
  pub tight : line.is_equality ≡ true → worth v line.multiples ≡ line.bound
