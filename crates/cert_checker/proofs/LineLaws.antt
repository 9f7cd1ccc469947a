-- What rows say of forms, and what combinations of rows say.
use Rattle.std.proofs.Common.{◌≡◌, ◌∙◌, ℤ, pos, negsuc, neg_ℤ, ◌+ℤ◌, ◌-ℤ◌, ◌≤ℤ◌, ◌<ℤ◌, int_le, Bool, true, false, not, if◌then◌else◌, IsTrue, Some, None, ap, ap₂, sym, subst, refl, arith, ◌↔◌}
use Rattle.std.proofs.lemmas.Int.{ints}
use Rattle.std.proofs.lemmas.Bool.Decides.{Decides-int_eq}
use Rattle.std.proofs.lemmas.Option.{option_and_then_some, same_Some}
use Rattle.terms.specs.Trees.{TermTree, FormTree, at_most, equal, denied}
use Rattle.terms.specs.Truth.{Interpretation, term_at, form_at}
use Rattle.cert_checker.specs.Linear.{Sum, number_sum, scaled_sum, total, difference, sum_of}
use Rattle.cert_checker.specs.Rows.{Line, at_most_zero, equal_to_zero, line_of, has_small_numbers, row_of}
use Rattle.cert_checker.specs.Worth.{worth, sum_at, LineAt}
use Rattle.cert_checker.proofs.WorthLaws.{sum_at-total, sum_at-scaled, sum_at-difference, minus-one, term_at-sum_of}

-- ---- rows of forms

past_below : (w c : ℤ) → w ≤ℤ neg_ℤ c → (w +ℤ c) ≤ℤ pos 0
past_below w c h = omega (arith, ints)

below_past : (w c : ℤ) → (w +ℤ c) ≤ℤ pos 0 → w ≤ℤ neg_ℤ c
below_past w c h = omega (arith, ints)

past_equal : (w c : ℤ) → w ≡ neg_ℤ c → w +ℤ c ≡ pos 0
past_equal w c h = omega (arith, ints)

equal_past : (w c : ℤ) → w +ℤ c ≡ pos 0 → w ≡ neg_ℤ c
equal_past w c h = omega (arith, ints)

no_more : (w c : ℤ) → w +ℤ c ≡ pos 0 → w ≤ℤ neg_ℤ c
no_more w c h = omega (arith, ints)

at_most_zero-at : (v : Interpretation) (s : Sum) → LineAt v (at_most_zero s) ↔ (sum_at v s ≤ℤ pos 0)
at_most_zero-at v s = (λ h. past_below (worth v s.multiples) s.constant h.below, λ h. record { below = below_past (worth v s.multiples) s.constant h; tight = λ e. absurd cc })

equal_to_zero-at : (v : Interpretation) (s : Sum) → LineAt v (equal_to_zero s) ↔ (sum_at v s ≡ pos 0)
equal_to_zero-at v s = (
  λ h. past_equal (worth v s.multiples) s.constant (h.tight refl),
  λ h. record { below = no_more (worth v s.multiples) s.constant h; tight = λ e. equal_past (worth v s.multiples) s.constant h },
)

difference-is : (v : Interpretation) (t u : TermTree) → sum_at v (difference (sum_of t) (sum_of u)) ≡ term_at v t -ℤ term_at v u
difference-is v t u = sum_at-difference v (sum_of t) (sum_of u) ∙ sym (ap₂ (λ y z. y -ℤ z) (term_at-sum_of v t) (term_at-sum_of v u))

-- u - t + 1 in the order of t and u
abbrev turned : TermTree → TermTree → Sum
turned t u = total (scaled_sum (negsuc 0) (sum_of t)) (total (sum_of u) (number_sum (pos 1)))

turned-sum : (a b c t u z : ℤ) → a ≡ neg_ℤ t → b ≡ u +ℤ pos 1 → z ≡ a +ℤ b → z ≡ (u -ℤ t) +ℤ pos 1
turned-sum a b c t u z e f h = omega (arith, ints)

one-is : (v : Interpretation) → sum_at v (number_sum (pos 1)) ≡ pos 1
one-is v = refl

turned-is : (v : Interpretation) (t u : TermTree) → sum_at v (turned t u) ≡ (term_at v u -ℤ term_at v t) +ℤ pos 1
turned-is v t u = turned-sum (sum_at v (scaled_sum (negsuc 0) (sum_of t))) (sum_at v (total (sum_of u) (number_sum (pos 1)))) (pos 0) (term_at v t) (term_at v u) (sum_at v (turned t u))
    (sum_at-scaled v (negsuc 0) (sum_of t) ∙ minus-one (sum_at v (sum_of t)) ∙ ap neg_ℤ (sym (term_at-sum_of v t)))
    (sum_at-total v (sum_of u) (number_sum (pos 1)) ∙ ap (λ z. z +ℤ pos 1) (sym (term_at-sum_of v u)))
    (sum_at-total v (scaled_sum (negsuc 0) (sum_of t)) (total (sum_of u) (number_sum (pos 1))))

le-difference : (t u d : ℤ) → d ≡ t -ℤ u → IsTrue (int_le t u) → d ≤ℤ pos 0
le-difference t u d e h = let le : t ≤ℤ u = grind (arith, ints, h) in omega (arith, ints)

difference-le : (t u d : ℤ) → d ≡ t -ℤ u → d ≤ℤ pos 0 → IsTrue (int_le t u)
difference-le t u d e h = let le : t ≤ℤ u = omega (arith, ints) in grind (arith, ints, le)

more-turned : (t u d : ℤ) → d ≡ (u -ℤ t) +ℤ pos 1 → IsTrue (not (int_le t u)) → d ≤ℤ pos 0
more-turned t u d e h = let less : u <ℤ t = grind (arith, ints, h) in omega (arith, ints)

turned-more : (t u d : ℤ) → d ≡ (u -ℤ t) +ℤ pos 1 → d ≤ℤ pos 0 → IsTrue (not (int_le t u))
turned-more t u d e h = let less : u <ℤ t = omega (arith, ints) in grind (arith, ints, less)

eq-difference : (t u d : ℤ) → d ≡ t -ℤ u → t ≡ u → d ≡ pos 0
eq-difference t u d e h = omega (arith, ints)

difference-eq : (t u d : ℤ) → d ≡ t -ℤ u → d ≡ pos 0 → t ≡ u
difference-eq t u d e h = omega (arith, ints)

abbrev SaysLine : Interpretation → FormTree → Line → Type 0
SaysLine v f line = IsTrue (form_at v f) ↔ LineAt v line

at_most-says : (v : Interpretation) (t u : TermTree) → SaysLine v (at_most t u) (at_most_zero (difference (sum_of t) (sum_of u)))
at_most-says v t u = let is = at_most_zero-at v (difference (sum_of t) (sum_of u)) in (
  λ h. is.1 (le-difference (term_at v t) (term_at v u) (sum_at v (difference (sum_of t) (sum_of u))) (difference-is v t u) h),
  λ h. difference-le (term_at v t) (term_at v u) (sum_at v (difference (sum_of t) (sum_of u))) (difference-is v t u) (is.0 h),
)

turned-says : (v : Interpretation) (t u : TermTree) → SaysLine v (denied (at_most t u)) (at_most_zero (turned t u))
turned-says v t u = let is = at_most_zero-at v (turned t u) in (
  λ h. is.1 (more-turned (term_at v t) (term_at v u) (sum_at v (turned t u)) (turned-is v t u) h),
  λ h. turned-more (term_at v t) (term_at v u) (sum_at v (turned t u)) (turned-is v t u) (is.0 h),
)

equal-says : (v : Interpretation) (t u : TermTree) → SaysLine v (equal t u) (equal_to_zero (difference (sum_of t) (sum_of u)))
equal-says v t u = let is = equal_to_zero-at v (difference (sum_of t) (sum_of u)) in
    let decides = Decides-int_eq (term_at v t) (term_at v u) in (
      λ h. is.1 (eq-difference (term_at v t) (term_at v u) (sum_at v (difference (sum_of t) (sum_of u))) (difference-is v t u) (decides.0 h)),
      λ h. decides.1 (difference-eq (term_at v t) (term_at v u) (sum_at v (difference (sum_of t) (sum_of u))) (difference-is v t u) (is.0 h)),
    )

at-line : (v : Interpretation) (f : FormTree) (made line : Line) → SaysLine v f made → Some made ≡ Some line → SaysLine v f line
at-line v f made line says e = subst (SaysLine v f) (same_Some made line e) says

-- The row of a form is true exactly where the form is.
pub line_of-says : (v : Interpretation) (f : FormTree) (line : Line) → line_of f ≡ Some line → SaysLine v f line
line_of-says v (at_most t u) line e = at-line v (at_most t u) _ line (at_most-says v t u) e
line_of-says v (denied (at_most t u)) line e = at-line v (denied (at_most t u)) _ line (turned-says v t u) e
line_of-says v (equal t u) line e = at-line v (equal t u) _ line (equal-says v t u) e
line_of-says v f line e = absurd cc

kept-some : (b : Bool) (made line : Line) → (if b then Some made else None) ≡ Some line → Some made ≡ Some line
kept-some true made line e = e
kept-some false made line e = absurd cc

row-line : (f : FormTree) (line : Line) → row_of f ≡ Some line → line_of f ≡ Some line
row-line f line e = option_and_then_some (λ l. if has_small_numbers f l then Some l else None) (line_of f) line e
    (λ l is kept. is ∙ kept-some (has_small_numbers f l) l line kept)

pub row_of-says : (v : Interpretation) (f : FormTree) (line : Line) → row_of f ≡ Some line → SaysLine v f line
row_of-says v f line e = line_of-says v f line (row-line f line e)
