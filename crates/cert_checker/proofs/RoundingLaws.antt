-- A true row that is divided and rounded down is true.
use Rattle.std.proofs.Common.{◌≡◌, ◌∙◌, ℤ, pos, ◌+ℤ◌, ◌*ℤ◌, ◌≤ℤ◌, ◌<ℤ◌, int_le, int_lt, true, not, ◌&&◌, cond, IsTrue, List, [], ◌∷◌, map, filter, ap, ap₂, sym, subst, refl, arith}
use Rattle.std.specs.List.{list_all, fold}
use Rattle.std.specs.Int.{int_div_euclid, int_rem_euclid}
use Rattle.std.proofs.lemmas.Int.{ints}
use Rattle.std.proofs.Math.IntN.{zero-*ℤ, *ℤ-zero}
use Rattle.linear_rows.specs.Numbers.{is_zero}
use Rattle.linear_rows.proofs.Ring.{dist-left, assoc, round-down}
use Rattle.terms.specs.Trees.{TermTree, plus}
use Rattle.terms.specs.Truth.{Interpretation, term_at, form_at}
use Rattle.terms.specs.Valuations.{is_small}
use Rattle.cert_checker.proofs.Choices.{by_bool}
use Rattle.cert_checker.specs.Linear.{Multiple, coefficients}
use Rattle.cert_checker.specs.Rows.{Line}
use Rattle.cert_checker.specs.Rules.{divides, may_round, divided_term, joined, rounded}
use Rattle.cert_checker.specs.Worth.{worth, LineAt}
use Rattle.cert_checker.proofs.Choices.{and_left, and_right}
use Rattle.cert_checker.proofs.CoefficientLaws.{worth-coefficients}
use Rattle.cert_checker.proofs.CombinationLaws.{zero-is}
use Rattle.cert_checker.proofs.QuotientLaws.{rounded-down}

-- what terms are worth together
abbrev all_at : Interpretation → List TermTree → ℤ
all_at v [] = pos 0
all_at v (t ∷ ts) = term_at v t +ℤ all_at v ts

left_first : (p q r : ℤ) → p +ℤ (q +ℤ r) ≡ (p +ℤ q) +ℤ r
left_first p q r = omega (arith, ints)

sum-zero : (b : ℤ) → b ≡ b +ℤ pos 0
sum-zero b = omega (arith, ints)

fold-at : (v : Interpretation) (t : TermTree) (ts : List TermTree) → term_at v (fold plus t ts) ≡ term_at v t +ℤ all_at v ts
fold-at v t [] = sum-zero (term_at v t)
fold-at v t (u ∷ us) = fold-at v (plus t u) us ∙ sym (left_first (term_at v t) (term_at v u) (all_at v us))

joined-at : (v : Interpretation) (ts : List TermTree) → term_at v (joined ts) ≡ all_at v ts
joined-at v [] = refl
joined-at v (t ∷ ts) = fold-at v t ts

up : (d : ℤ) → int_lt (pos 0) d ≡ true → pos 0 <ℤ d
up d h = grind (arith, ints, h)

up-le : (d : ℤ) → pos 0 <ℤ d → pos 0 ≤ℤ d
up-le d h = omega (arith, ints)

no-rest : (a p r : ℤ) → a ≡ p +ℤ r → r ≡ pos 0 → a ≡ p
no-rest a p r e h = omega (arith, ints)

exact : (d : ℤ) → pos 0 <ℤ d → (m : Multiple) → divides d m ≡ true → m.1 ≡ d *ℤ int_div_euclid m.1 d
exact d d_up m h = no-rest m.1 (d *ℤ int_div_euclid m.1 d) (int_rem_euclid m.1 d) (rounded-down m.1 d d_up).is (zero-is (int_rem_euclid m.1 d) h)

zero-first : (a b : ℤ) → a ≡ pos 0 → a +ℤ b ≡ b
zero-first a b e = omega (arith, ints)

-- multiples with coefficients that d divides are d times what the terms are worth
divided-at : (v : Interpretation) (d : ℤ) → pos 0 <ℤ d → (ms : List Multiple) → list_all (divides d) ms ≡ true
    → worth v ms ≡ d *ℤ all_at v (map (divided_term d) (filter (λ m. not (is_zero m.1)) ms))
divided-at v d d_up [] h = sym (*ℤ-zero d)
divided-at v d d_up (m ∷ ms) h =
    let rest = divided-at v d d_up ms (and_right (divides d m) (list_all (divides d) ms) h) in
    by_bool (is_zero m.1)
    (λ e. zero-first (m.1 *ℤ term_at v m.0) (worth v ms) (ap (λ z. z *ℤ term_at v m.0) (zero-is m.1 e) ∙ zero-*ℤ (term_at v m.0)) ∙ rest
    ∙ sym (ap (λ b. d *ℤ all_at v (map (divided_term d) (cond (not b) (m ∷ filter (λ m. not (is_zero m.1)) ms) (filter (λ m. not (is_zero m.1)) ms)))) e))
    (λ e. ap₂ (λ y z. y *ℤ term_at v m.0 +ℤ z) (exact d d_up m (and_left (divides d m) (list_all (divides d) ms) h)) rest
    ∙ ap (λ y. y +ℤ d *ℤ all_at v (map (divided_term d) (filter (λ m. not (is_zero m.1)) ms))) (assoc d (int_div_euclid m.1 d) (term_at v m.0))
    ∙ sym (dist-left d (int_div_euclid m.1 d *ℤ term_at v m.0) (all_at v (map (divided_term d) (filter (λ m. not (is_zero m.1)) ms))))
    ∙ sym (ap (λ b. d *ℤ all_at v (map (divided_term d) (cond (not b) (m ∷ filter (λ m. not (is_zero m.1)) ms) (filter (λ m. not (is_zero m.1)) ms)))) e))

le-test : (a b : ℤ) → a ≤ℤ b → IsTrue (int_le a b)
le-test a b h = grind (arith, ints, h)

pub rounded-true : (v : Interpretation) (d : ℤ) (line : Line) → may_round d line ≡ true → LineAt v line → IsTrue (form_at v (rounded d line))
rounded-true v d line may h =
    let d_up = up d (and_left (int_lt (pos 0) d) (is_small d && list_all (divides d) (coefficients line.multiples)) may) in
    let all = and_right (is_small d) (list_all (divides d) (coefficients line.multiples)) (and_right (int_lt (pos 0) d) (is_small d && list_all (divides d) (coefficients line.multiples)) may) in
    let terms = map (divided_term d) (filter (λ m. not (is_zero m.1)) (coefficients line.multiples)) in
    let whole : worth v line.multiples ≡ d *ℤ term_at v (joined terms) = sym (worth-coefficients v line.multiples) ∙ divided-at v d d_up (coefficients line.multiples) all
    ∙ ap (λ z. d *ℤ z) (sym (joined-at v terms)) in
    let bound = rounded-down line.bound d d_up in
    le-test (term_at v (joined terms)) (int_div_euclid line.bound d)
    (round-down d (term_at v (joined terms)) line.bound (int_div_euclid line.bound d) (int_rem_euclid line.bound d) (up-le d d_up) bound.is bound.below
    (subst (λ w. w ≤ℤ line.bound) whole h.below))
