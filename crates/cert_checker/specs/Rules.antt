-- The rules of certificates: what each adds to the facts of a branch.
use Rattle.std.specs.Prelude.{ℕ, ◌^◌, ℤ, pos, negsuc, ◌-ℤ◌, neg_ℤ, Bool, true, false, not, ◌&&◌, ◌||◌, if◌then◌else◌, int_lt, unsigned_abs, List, [], ◌∷◌, map, filter, filter_map, Option, Some, None, option_and_then, option_map, slice_get}
use Rattle.std.specs.List.{list_all, fold}
use Rattle.std.specs.Int.{int_div_euclid, int_rem_euclid}
use Rattle.std.specs.Ordering.{int_eq}
use Rattle.linear_rows.specs.Numbers.{is_zero}
use Rattle.terms.specs.declared.sym.Sym.{Sym}
use Rattle.terms.specs.declared.sequent.Sort.{Sort}
use Rattle.terms.specs.declared.sequent.Sort.TheVariants as sort
use Rattle.terms.specs.Symbols.{same_sym}
use Rattle.terms.specs.Names.{terms_in_form}
use Rattle.terms.specs.declared.fact.Fact.{Fact}
use Rattle.terms.specs.Trees.{TermTree, number, name, plus, times, divided, remainder, FormTree, always, never, at_most, equal, denied, both, either}
use Rattle.terms.specs.declared.fact.Fact.TheVariants as fact
use Rattle.terms.specs.Valuations.{is_small}
use Rattle.terms.specs.Equality.{same_form}
use Rattle.cert_checker.specs.Linear.{Multiple, coefficients}
use Rattle.cert_checker.specs.Rows.{Line, plain_at, combination, is_false}
use Rattle.cert_checker.specs.Places.{truths_in, division_of, exchanged_form}
use Rattle.cert_form.specs.declared.cert.Rule.{Rule}
use Rattle.cert_form.specs.declared.cert.Rule.TheVariants as rule

-- What a rule gives where it applies: the forms that each child adds, as plain facts.
abbrev pub Children : Type 0
Children = Option (List (List FormTree))

abbrev pub one_child : List FormTree → Children
one_child forms = Some (forms ∷ [])

abbrev pub two_children : List FormTree → List FormTree → Children
two_children forms others = Some (forms ∷ others ∷ [])

-- what a rule on one fact gives, where that fact is plain
abbrev pub on_plain : List Fact → ℕ → (FormTree → Children) → Children
on_plain facts i apply = option_and_then apply (plain_at facts i)

-- ---- Close

-- the form is false by itself
abbrev pub is_contradiction : Option FormTree → Bool
is_contradiction (Some never) = true
is_contradiction (Some (denied always)) = true
is_contradiction f = false

-- the second form is the first one denied
abbrev pub are_opposite : Option FormTree → Option FormTree → Bool
are_opposite (Some f) (Some (denied g)) = same_form f g
are_opposite f g = false

abbrev pub is_once : ℕ × ℤ → Bool
is_once p = int_eq p.1 (pos 1)

-- one fact that is false by itself, or a fact and the same denied
abbrev pub closes_as_written : List Fact → List (ℕ × ℤ) → Bool
closes_as_written facts (p ∷ []) = is_once p && is_contradiction (plain_at facts p.0)
closes_as_written facts (p ∷ q ∷ []) = (is_once p && is_once q) && are_opposite (plain_at facts p.0) (plain_at facts q.0)
closes_as_written facts pairs = false

abbrev pub closes_by_sum : Option Line → Bool
closes_by_sum (Some line) = is_false line
closes_by_sum None = false

abbrev pub close : List Fact → List (ℕ × ℤ) → Children
close facts pairs = if closes_by_sum (combination facts pairs) || closes_as_written facts pairs then Some [] else None

-- ---- Both, Case, Cut

abbrev pub both_parts : FormTree → Children
both_parts (both f g) = one_child (f ∷ g ∷ [])
both_parts (denied (either f g)) = one_child (denied f ∷ denied g ∷ [])
both_parts (equal a b) = one_child (at_most a b ∷ at_most b a ∷ [])
both_parts (denied (denied f)) = one_child (f ∷ [])
both_parts f = None

abbrev pub one : TermTree
one = number (pos 1)

abbrev pub each_case : FormTree → Children
each_case (either f g) = two_children (f ∷ []) (g ∷ [])
each_case (denied (both f g)) = two_children (denied f ∷ []) (denied g ∷ [])
each_case (denied (equal a b)) = two_children (at_most (plus a one) b ∷ []) (at_most (plus b one) a ∷ [])
each_case f = None

abbrev pub cut : FormTree → Children
cut f = two_children (f ∷ []) (denied f ∷ [])

-- ---- Round

abbrev pub divides : ℤ → Multiple → Bool
divides d m = is_zero (int_rem_euclid m.1 d)

abbrev pub may_round : ℤ → Line → Bool
may_round d line = int_lt (pos 0) d && (is_small d && list_all (divides d) (coefficients line.multiples))

-- a multiple divided by d, as a term
abbrev pub divided_term : ℤ → Multiple → TermTree
divided_term d m = times (number (int_div_euclid m.1 d)) m.0

-- the terms joined by `plus` from the left, 0 where there are none
abbrev pub joined : List TermTree → TermTree
joined [] = number (pos 0)
joined (t ∷ ts) = fold plus t ts

-- The row divided by d, and its bound rounded down.
abbrev pub rounded : ℤ → Line → FormTree
rounded d line = at_most (joined (map (divided_term d) (filter (λ m. not (is_zero m.1)) (coefficients line.multiples)))) (number (int_div_euclid line.bound d))

abbrev pub round : ℤ → Line → Children
round d line = if may_round d line then one_child (rounded d line ∷ []) else None

-- ---- Range of a name

abbrev pub bounds_of : Sort → Option (ℤ × ℤ)
bounds_of sort.Whole = Some (neg_ℤ (pos (2 ^ 31)), pos (2 ^ 31) -ℤ pos 1)
bounds_of (sort.Code n) = Some (pos 0, pos n)
bounds_of (sort.Row n) = None

-- the bounds that an entry of the sorts gives the name
abbrev pub bounds_in : Sym → Sym × Sort → Option (ℤ × ℤ)
bounds_in x entry = if same_sym x entry.0 then bounds_of entry.1 else None

abbrev pub within_bounds : TermTree → ℤ × ℤ → Children
within_bounds t bounds = one_child (at_most (number bounds.0) t ∷ at_most t (number bounds.1) ∷ [])

-- by the first entry that gives bounds
abbrev pub range_of_name : List (Sym × Sort) → Sym → Children
range_of_name sorts x = option_and_then (within_bounds (name x)) (slice_get (filter_map (bounds_in x) sorts) 0)

-- ---- Same

-- the second form with the right side of the first, an equality, for each occurrence of its left side
abbrev pub exchange : FormTree → FormTree → Children
exchange (equal a b) f = one_child (exchanged_form a b f ∷ [])
exchange e f = None

-- ---- Truth

abbrev pub true_or_false : FormTree × (TermTree → FormTree) → Children
true_or_false place = two_children (place.0 ∷ place.1 (number (pos 1)) ∷ []) (denied place.0 ∷ place.1 (number (pos 0)) ∷ [])

abbrev pub split_truth : ℕ → FormTree → Children
split_truth k f = option_and_then true_or_false (slice_get (truths_in f) k)

-- ---- Divide

-- between two numbers, both included
abbrev pub between : ℤ → TermTree → ℤ → FormTree
between low t high = both (at_most (number low) t) (at_most t (number high))

-- What division of a by d says: a is d times the quotient and the remainder, and the remainder is
-- smaller than d in size and has the sign of a.
abbrev pub division : TermTree → ℤ → List FormTree
division a d = let r = remainder a (number d) in let m = pos (unsigned_abs d) in
    equal a (plus (times (number d) (divided a (number d))) r)
    ∷ either (both (at_most (number (pos 0)) a) (between (pos 0) r (m -ℤ pos 1))) (both (at_most a (number (negsuc 0))) (between (pos 1 -ℤ m) r (pos 0)))
    ∷ []

abbrev pub divide_by : TermTree × ℤ → Children
divide_by p = if is_small p.1 then one_child (division p.0 p.1) else None

abbrev pub divide : ℕ → FormTree → Children
divide k f = option_and_then divide_by (slice_get (filter_map division_of (terms_in_form f)) k)

-- ---- every rule

-- What a rule adds to the facts: a list for each child, or `None` where it doesn't apply.
abbrev pub forms_of : List (Sym × Sort) → List Fact → Rule → Children
forms_of sorts facts (rule.Close pairs) = close facts pairs
forms_of sorts facts (rule.Both i) = on_plain facts i both_parts
forms_of sorts facts (rule.Case i) = on_plain facts i each_case
forms_of sorts facts (rule.Cut f) = cut f
forms_of sorts facts (rule.Round pairs d) = option_and_then (round d) (combination facts pairs)
forms_of sorts facts (rule.RangeName x) = range_of_name sorts x
forms_of sorts facts (rule.RangeRead i k) = None
forms_of sorts facts (rule.Same i j) = on_plain facts i (λ e. on_plain facts j (exchange e))
forms_of sorts facts (rule.Read i k) = None
forms_of sorts facts (rule.Inst i t) = None
forms_of sorts facts (rule.Truth i k) = on_plain facts i (split_truth k)
forms_of sorts facts (rule.Divide i k) = on_plain facts i (divide k)

abbrev pub children : List (Sym × Sort) → List Fact → Rule → Option (List (List Fact))
children sorts facts r = option_map (map (map fact.Plain)) (forms_of sorts facts r)
