-- The rows of facts, and combinations of them.
use Rattle.std.specs.Prelude.{ℕ, ℤ, pos, negsuc, ◌+ℤ◌, ◌*ℤ◌, neg_ℤ, Bool, true, false, not, ◌&&◌, ◌||◌, if◌then◌else◌, int_le, int_lt, List, [], ◌∷◌, ◌++◌, Option, Some, None, option_and_then, slice_get}
use Rattle.std.specs.List.{list_all}
use Rattle.linear_rows.specs.Numbers.{is_zero}
use Rattle.terms.specs.declared.fact.Fact.{Fact}
use Rattle.terms.specs.Trees.{TermTree, FormTree, at_most, equal, denied}
use Rattle.terms.specs.declared.fact.Fact.TheVariants as fact
use Rattle.terms.specs.Valuations.{is_small}
use Rattle.cert_checker.specs.Linear.{Multiple, Sum, scaled_multiples, scaled_sum, number_sum, total, difference, sum_of, sum_is_small, linear_terms, coefficients, are_small}

-- Multiples of atoms are together at most the bound, or equal to it.
pub record Line : Type 0 where
  pub multiples : List Multiple
  pub bound : ℤ
  pub is_equality : Bool

-- s <= 0, and s = 0
abbrev pub at_most_zero : Sum → Line
at_most_zero s = record { multiples = s.multiples; bound = neg_ℤ s.constant; is_equality = false }

abbrev pub equal_to_zero : Sum → Line
equal_to_zero s = record { multiples = s.multiples; bound = neg_ℤ s.constant; is_equality = true }

-- t - u <= 0, u - t + 1 <= 0 with the atoms in the same order, t - u = 0
abbrev pub line_of : FormTree → Option Line
line_of (at_most t u) = Some (at_most_zero (difference (sum_of t) (sum_of u)))
line_of (denied (at_most t u)) = Some (at_most_zero (total (scaled_sum (negsuc 0) (sum_of t)) (total (sum_of u) (number_sum (pos 1)))))
line_of (equal t u) = Some (equal_to_zero (difference (sum_of t) (sum_of u)))
line_of f = None

-- the linear terms in such a form
abbrev pub linear_terms_of : FormTree → List TermTree
linear_terms_of (at_most t u) = linear_terms t ++ linear_terms u
linear_terms_of (denied (at_most t u)) = linear_terms t ++ linear_terms u
linear_terms_of (equal t u) = linear_terms t ++ linear_terms u
linear_terms_of f = []

abbrev pub line_is_small : Line → Bool
line_is_small line = are_small line.multiples && is_small line.bound

-- no number of the row, or of a sum in the form, is past 2^100 in size
abbrev pub has_small_numbers : FormTree → Line → Bool
has_small_numbers f line = line_is_small line && list_all (λ t. sum_is_small (sum_of t)) (linear_terms_of f)

abbrev pub row_of : FormTree → Option Line
row_of f = option_and_then (λ line. if has_small_numbers f line then Some line else None) (line_of f)

-- ---- facts by their numbers

abbrev pub form_of : Fact → Option FormTree
form_of (fact.Plain f) = Some f
form_of (fact.All x lo hi f) = None

-- the form of the fact with the number, where that is plain
abbrev pub plain_at : List Fact → ℕ → Option FormTree
plain_at facts i = option_and_then form_of (slice_get facts i)

abbrev pub row_at : List Fact → ℕ → Option Line
row_at facts i = option_and_then row_of (plain_at facts i)

-- ---- combinations

abbrev pub nothing : Line
nothing = record { multiples = []; bound = pos 0; is_equality = true }

abbrev pub plus_multiple : Line → ℤ → Line → Line
plus_multiple sum m row = record {
  multiples = sum.multiples ++ scaled_multiples m row.multiples;
  bound = sum.bound +ℤ m *ℤ row.bound;
  is_equality = sum.is_equality && row.is_equality;
}

-- a multiplier is negative only for an equality, and it and the sum are small
abbrev pub may_be_added : Line → ℤ → Line → Bool
may_be_added sum m row = (row.is_equality || int_le (pos 0) m) && (is_small m && line_is_small (plus_multiple sum m row))

abbrev pub checked_plus : Line → ℤ → Line → Option Line
checked_plus sum m row = if may_be_added sum m row then Some (plus_multiple sum m row) else None

-- the rows of the facts with their multipliers, added to a sum in the order written
abbrev pub added : List Fact → List (ℕ × ℤ) → Line → Option Line
added facts [] sum = Some sum
added facts (p ∷ ps) sum = option_and_then (added facts ps) (option_and_then (checked_plus sum p.1) (row_at facts p.0))

abbrev pub combination : List Fact → List (ℕ × ℤ) → Option Line
combination facts pairs = added facts pairs nothing

-- all coefficients are 0
abbrev pub is_constant : Line → Bool
is_constant line = list_all (λ m. is_zero m.1) (coefficients line.multiples)

-- 0 <= b, or 0 = b, of a number b where that is false
abbrev pub is_false : Line → Bool
is_false line = is_constant line && (int_lt line.bound (pos 0) || (line.is_equality && not (is_zero line.bound)))
