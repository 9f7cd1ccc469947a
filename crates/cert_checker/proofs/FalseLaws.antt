-- A combination is false exactly where its row is.
use Rattle.std.proofs.Common.{◌≡◌, ◌∙◌, ℕ, ℤ, pos, Bool, true, false, not, ◌&&◌, ◌||◌, int_lt, List, [], ◌∷◌, map, Some, Ok, ap, ap₂, sym, refl, inl, inr}
use Rattle.std.specs.List.{list_all}
use Rattle.linear_rows.specs.declared.row.Row.{Row}
use Rattle.linear_rows.specs.Numbers.{is_zero}
use Rattle.linear_rows.specs.Sums.{Part, From, coefficient}
use Rattle.linear_rows.proofs.FormLaws.{unit}
use Rattle.terms.specs.declared.fact.Fact.{Fact}
use Rattle.terms.specs.Trees.{TermTree}
use Rattle.cert_checker.specs.Linear.{Multiple, Sum, atoms, coefficients}
use Rattle.cert_checker.specs.Linear.{coefficient as term_coefficient}
use Rattle.cert_checker.specs.Rows.{Line, combination, is_constant, is_false}
use Rattle.cert_checker.specs.Rules.{closes_by_sum}
use Rattle.cert_checker.specs.Numbering.{atom_number, has_atom, at_point}
use Rattle.cert_checker.specs.Code.SumRows.{IsSumRow}
use Rattle.cert_checker.specs.Code.Combined.{sum_for, IsCombined, Combines}
use Rattle.cert_checker.specs.Code.Closing.{is_nil, row_is_false}
use Rattle.cert_checker.proofs.Choices.{by_bool, and_left, and_right, and_true}
use Rattle.cert_checker.proofs.CombinationLaws.{zero-is}
use Rattle.cert_checker.proofs.SizeLaws.{numbers-found, row-coefficient, coefficient-number, is_among, absent, among-atoms, all-has, atoms-numbered, coefficient-first, same-bool}

abbrev zero_in : List Multiple → TermTree → Bool
zero_in ms t = is_zero (term_coefficient t ms)

zero-map : (ms : List Multiple) (ts : List TermTree) → list_all (λ (m : Multiple). is_zero m.1) (map (λ t. (t, term_coefficient t ms)) ts) ≡ list_all (zero_in ms) ts
zero-map ms [] = refl
zero-map ms (t ∷ ts) = ap (λ b. zero_in ms t && b) (zero-map ms ts)

zero-all : (ms : List Multiple) (ts : List TermTree) (test : TermTree → Bool) → ((t : TermTree) → test t ≡ true → zero_in ms t ≡ true) → list_all test ts ≡ true → list_all (zero_in ms) ts ≡ true
zero-all ms [] test says h = refl
zero-all ms (t ∷ ts) test says h = and_true (zero_in ms t) (list_all (zero_in ms) ts) (says t (and_left (test t) (list_all test ts) h)) (zero-all ms ts test says (and_right (test t) (list_all test ts) h))

-- without parts every coefficient is 0
nil-constant : (us : List TermTree) (s : Sum) (row : Row) → IsSumRow us s row → is_nil row.parts ≡ true → list_all (λ (m : Multiple). is_zero m.1) (coefficients s.multiples) ≡ true
nil-constant us s row is nil = zero-map s.multiples (atoms s.multiples) ∙ zero-all s.multiples (atoms s.multiples) (has_atom us)
    (λ t h. ap is_zero (sym (coefficient-number us t s.multiples h is.numbered) ∙ sym (row-coefficient us s row is (atom_number us t)) ∙ ap (coefficient (atom_number us t)) (no-parts row.parts nil)))
    (atoms-numbered us s.multiples is.numbered)
  where
    no-parts : (parts : List Part) → is_nil parts ≡ true → parts ≡ []
    no-parts [] e = refl
    no-parts (p ∷ ps) e = absurd (let other : false ≡ true = e in cc)

zero-at : (ms : List Multiple) → list_all (λ (m : Multiple). is_zero m.1) (coefficients ms) ≡ true → (t : TermTree) → term_coefficient t ms ≡ pos 0
zero-at ms h t = by_bool (is_among t ms)
    (λ e. zero-is (term_coefficient t ms) (all-has (zero_in ms) (atoms ms) t (sym (zero-map ms (atoms ms)) ∙ h) (among-atoms t ms e)))
    (absent t ms)

-- a first part has a coefficient other than 0
constant-nil : (us : List TermTree) (s : Sum) (row : Row) → IsSumRow us s row → list_all (λ (m : Multiple). is_zero m.1) (coefficients s.multiples) ≡ true → is_nil row.parts ≡ true
constant-nil us s row is h = go row.parts refl is.in_form
  where
    go : (parts : List Part) → row.parts ≡ parts → From 0 parts → is_nil parts ≡ true
    go [] e from = refl
    go (x ∷ xs) e from =
        let first : coefficient x.0 row.parts ≡ x.1 = ap (coefficient x.0) e ∙ coefficient-first x xs in
        let none : coefficient x.0 row.parts ≡ pos 0 = row-coefficient us s row is x.0 ∙
        elim (numbers-found us x.0 s.multiples is.numbered) [
          | inl none ↦ none
          | inr found ↦ ap (λ k. at_point (unit k) us s.multiples) (sym found.is) ∙ coefficient-number us found.atom s.multiples found.has is.numbered ∙ zero-at s.multiples h found.atom
        ] in
        absurd (let other : true ≡ false = sym (ap is_zero (sym first ∙ none)) ∙ from.1 in cc)

pub false-row : (line : Line) (row : Row) (us : List TermTree) → IsCombined line row us → row_is_false row ≡ is_false line
false-row line row us c = ap₂ (λ a b. a && b) (same-bool (is_nil row.parts) (is_constant line) (nil-constant us (sum_for line) row c.is_row) (constant-nil us (sum_for line) row c.is_row))
    (ap₂ (λ b e. int_lt b (pos 0) || (e && not (is_zero b))) c.is_row.bound c.equal)

pub closing-row : (facts : List Fact) (pairs : List (ℕ × ℤ)) (row : Row) (us : List TermTree) (b : Bool) → Combines facts pairs (Ok (Some row)) us → b ≡ row_is_false row → b ≡ closes_by_sum (combination facts pairs)
closing-row facts pairs row us b h e = e ∙ false-row h.0 row us h.2 ∙ sym (ap closes_by_sum h.1)
