-- Valuations that are written as lists: of several pairs of one name or one index the first counts,
-- and what isn't listed is 0.
use Rattle.std.specs.Prelude.{◌^◌, ℤ, pos, Bool, ◌&&◌, nat_le, unsigned_abs, if◌then◌else◌, List, [], find, Option, Some, None, is_some, unwrap_or}
use Rattle.std.specs.List.{list_all}
use Rattle.std.specs.Option.{option_map}
use Rattle.std.specs.Ordering.{int_eq}
use Rattle.terms.specs.declared.sym.Sym.{Sym}
use Rattle.terms.specs.declared.valuation.Valuation.{Valuation}
use Rattle.terms.specs.Symbols.{same_sym}
use Rattle.terms.specs.Trees.{TermTree, ArrayTree, FormTree}
use Rattle.terms.specs.Names.{Occurrence, as_number, as_array, term_names, array_names, form_names, terms_in_term, terms_in_array, terms_in_form}
use Rattle.terms.specs.Truth.{Interpretation, term_at, array_at, form_at}

abbrev pub listed_number : Valuation → Sym → Option ℤ
listed_number v x = option_map (λ p. p.1) (find (λ p. same_sym p.0 x) v.wholes)

abbrev pub listed_row : Valuation → Sym → Option (List (ℤ × ℤ))
listed_row v x = option_map (λ p. p.1) (find (λ p. same_sym p.0 x) v.rows)

abbrev pub element_in : List (ℤ × ℤ) → ℤ → ℤ
element_in row k = unwrap_or (option_map (λ p. p.1) (find (λ p. int_eq p.0 k) row)) (pos 0)

abbrev pub interpretation_of : Valuation → Interpretation
interpretation_of v = record {
  value = λ x. unwrap_or (listed_number v x) (pos 0);
  element = λ x k. element_in (unwrap_or (listed_row v x) []) k;
}

abbrev pub is_listed : Valuation → Occurrence → Bool
is_listed v (as_number x) = is_some (listed_number v x)
is_listed v (as_array x) = is_some (listed_row v x)

-- at most 2^100 in size
unfoldable pub is_small : ℤ → Bool
is_small z = nat_le (unsigned_abs z) (2 ^ 100)

-- the number, where it is small
unfoldable pub kept : ℤ → Option ℤ
kept z = if is_small z then Some z else None

-- each of these names is listed, and what each of these terms is worth is small
abbrev pub can_evaluate : Valuation → List Occurrence → List TermTree → Bool
can_evaluate v names terms = list_all (is_listed v) names && list_all (λ t. is_small (term_at (interpretation_of v) t)) terms

-- what a term is worth, what an array holds at an index, and whether a form is true, where that can
-- be evaluated
unfoldable pub term_value : Valuation → TermTree → Option ℤ
term_value v t = if can_evaluate v (term_names t) (terms_in_term t) then Some (term_at (interpretation_of v) t) else None

unfoldable pub element_value : Valuation → ArrayTree → ℤ → Option ℤ
element_value v a k = if can_evaluate v (array_names a) (terms_in_array a) then Some (array_at (interpretation_of v) a k) else None

unfoldable pub form_value : Valuation → FormTree → Option Bool
form_value v f = if can_evaluate v (form_names f) (terms_in_form f) then Some (form_at (interpretation_of v) f) else None
