-- Rounding a combination is rounding its row.
use Rattle.std.proofs.Common.{◌≡◌, ◌∙◌, ℕ, ◌%◌, zero, suc, ℤ, pos, negsuc, int_lt, Bool, true, false, not, ◌&&◌, cond, if◌then◌else◌, List, [], ◌∷◌, map, filter, Option, Some, None, Result, Ok, Err, IfOk, ap, ap₂, sym, refl, arith}
use Rattle.std.specs.Prelude.{option_and_then, option_map}
use Rattle.std.specs.List.{list_all}
use Rattle.std.specs.Int.{int_div_euclid}
use Rattle.linear_rows.specs.declared.row.Row.{Row}
use Rattle.linear_rows.specs.Numbers.{is_zero}
use Rattle.linear_rows.specs.Sums.{Part}
use Rattle.terms.specs.declared.fact.Fact.{Fact}
use Rattle.terms.specs.Trees.{TermTree, number, at_most}
use Rattle.terms.specs.Valuations.{is_small}
use Rattle.cert_checker.specs.Linear.{Multiple, coefficients}
use Rattle.cert_checker.specs.Rows.{Line, combination}
use Rattle.cert_checker.specs.Rules.{divides, may_round, divided_term, joined, rounded, round}
use Rattle.cert_checker.specs.Code.Combined.{IsCombined, Combines}
use Rattle.cert_checker.specs.Code.Made.{as_facts}
use Rattle.std.specs.declared.alloc.AllocError.{AllocError}
use Rattle.cert_checker.specs.Code.Rounding.{multiple_of, part_term, divides_part, rounded_row, may_round_row, round_row}
use Rattle.cert_checker.proofs.Choices.{by_bool}
use Rattle.cert_checker.proofs.OrderLaws.{used-parts}

abbrev is_used : Multiple → Bool
is_used m = not (is_zero m.1)

no-rest : (k : ℕ) → 0 % suc k ≡ 0
no-rest k = omega arith

zero-divides : (d : ℤ) → int_lt (pos 0) d ≡ true → (m : Multiple) → is_zero m.1 ≡ true → divides d m ≡ true
zero-divides d up (t, pos (suc n)) e = absurd cc
zero-divides d up (t, negsuc n) e = absurd cc
zero-divides (pos zero) up (t, pos zero) e = absurd cc
zero-divides (pos (suc k)) up (t, pos zero) e = ap (λ n. is_zero (pos n)) (no-rest k)
zero-divides (negsuc k) up (t, pos zero) e = absurd cc

all-used : (test : Multiple → Bool) → ((m : Multiple) → is_zero m.1 ≡ true → test m ≡ true) → (ms : List Multiple) → list_all test ms ≡ list_all test (filter is_used ms)
all-used test says [] = refl
all-used test says (m ∷ ms) = by_bool (is_zero m.1)
    (λ e. ap₂ (λ a b. a && b) (says m e) (all-used test says ms) ∙ sym (ap (λ b. list_all test (cond (not b) (m ∷ filter is_used ms) (filter is_used ms))) e))
    (λ e. ap (λ b. test m && b) (all-used test says ms) ∙ sym (ap (λ b. list_all test (cond (not b) (m ∷ filter is_used ms) (filter is_used ms))) e))

all-parts : (d : ℤ) (us : List TermTree) (parts : List Part) → list_all (divides d) (map (multiple_of us) parts) ≡ list_all (divides_part d) parts
all-parts d us [] = refl
all-parts d us (p ∷ ps) = ap (λ b. divides_part d p && b) (all-parts d us ps)

and-same : (a b c : Bool) → (a ≡ true → b ≡ c) → (a && b) ≡ (a && c)
and-same true b c h = h refl
and-same false b c h = refl

pub may-is : (d : ℤ) (line : Line) (row : Row) (us : List TermTree) → IsCombined line row us → may_round d line ≡ may_round_row d row
may-is d line row us c = and-same (int_lt (pos 0) d) (is_small d && list_all (divides d) (coefficients line.multiples)) (is_small d && list_all (divides_part d) row.parts)
    (λ up. ap (λ b. is_small d && b) (all-used (divides d) (zero-divides d up) (coefficients line.multiples) ∙ ap (list_all (divides d)) (used-parts line row us c) ∙ all-parts d us row.parts))

terms-are : (d : ℤ) (us : List TermTree) (parts : List Part) → map (divided_term d) (map (multiple_of us) parts) ≡ map (part_term us d) parts
terms-are d us [] = refl
terms-are d us (p ∷ ps) = ap (λ l. part_term us d p ∷ l) (terms-are d us ps)

pub rounded-is : (d : ℤ) (line : Line) (row : Row) (us : List TermTree) → IsCombined line row us → rounded d line ≡ rounded_row us d row
rounded-is d line row us c = ap₂ (λ ts b. at_most (joined ts) (number (int_div_euclid b d))) (ap (map (divided_term d)) (used-parts line row us c) ∙ terms-are d us row.parts) (sym c.is_row.bound)

pub round-is : (facts : List Fact) (pairs : List (ℕ × ℤ)) (d : ℤ) (line : Line) (row : Row) (us : List TermTree) → combination facts pairs ≡ Some line → IsCombined line row us
    → round_row us d row ≡ option_and_then (round d) (combination facts pairs)
round-is facts pairs d line row us is c = sym (ap (option_and_then (round d)) is ∙ ap₂ (λ b f. if b then Some ((f ∷ []) ∷ []) else None) (may-is d line row us c) (rounded-is d line row us c))

-- the answer by the row is the answer by the combination
pub round-answer : {T : Type 0} (view : T → List (List Fact)) (facts : List Fact) (pairs : List (ℕ × ℤ)) (d e : ℤ) (row : Row) (us slice : List TermTree) (result : Result (Option T) AllocError)
    → Combines facts pairs (Ok (Some row)) us → slice ≡ us → e ≡ d → IfOk result (λ made. option_map view made ≡ as_facts (round_row slice e row))
    → IfOk result (λ made. option_map view made ≡ as_facts (option_and_then (round d) (combination facts pairs)))
round-answer view facts pairs d e row us slice (Ok made) h same by is = is ∙ ap as_facts (ap₂ (λ l k. round_row l k row) same by ∙ round-is facts pairs d h.0 row us h.1 h.2)
round-answer view facts pairs d e row us slice (Err fail) h same by is = tt
