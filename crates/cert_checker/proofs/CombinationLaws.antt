-- A combination of the rows of true facts is true.
use Rattle.std.proofs.Common.{◌≡◌, ◌∙◌, ℕ, zero, suc, ℤ, pos, negsuc, ◌+ℤ◌, ◌*ℤ◌, ◌≤ℤ◌, ◌<ℤ◌, int_le, int_lt, Bool, true, false, not, ◌&&◌, ◌||◌, if◌then◌else◌, IsTrue, List, [], ◌∷◌, Some, None, ap, sym, subst, refl, arith, All}
use Rattle.std.specs.Prelude.{option_and_then, slice_get}
use Rattle.std.specs.List.{list_all}
use Rattle.std.proofs.lemmas.Int.{ints}
use Rattle.std.proofs.lemmas.Option.{option_and_then_some, get_or_from_slice_get, slice_get_within, same_Some}
use Rattle.std.proofs.Math.IntN.{zero-*ℤ}
use Rattle.linear_rows.specs.Numbers.{is_zero}
use Rattle.linear_rows.proofs.Ring.{mul-le}
use Rattle.terms.specs.declared.fact.Fact.{Fact}
use Rattle.terms.specs.Trees.{FormTree}
use Rattle.terms.specs.declared.fact.Fact.TheVariants as fact
use Rattle.terms.specs.Truth.{Interpretation, term_at, form_at, FactAt}
use Rattle.cert_checker.specs.Linear.{Multiple, scaled_multiples, coefficients}
use Rattle.cert_checker.specs.Rows.{Line, row_of, form_of, plain_at, row_at, nothing, plus_multiple, may_be_added, line_is_small, checked_plus, added, combination, is_constant, is_false}
use Rattle.terms.specs.Valuations.{is_small}
use Rattle.cert_checker.specs.Worth.{worth, LineAt}
use Rattle.cert_checker.proofs.Choices.{and_left, and_right}
use Rattle.cert_checker.proofs.WorthLaws.{worth-append, worth-scaled}
use Rattle.cert_checker.proofs.CoefficientLaws.{worth-coefficients}
use Rattle.cert_checker.proofs.LineLaws.{row_of-says}

-- ---- facts by their numbers

pub all_at : {X : Type 0} (P : X → Type 0) (xs : List X) (i : ℕ) (x : X) → All P xs → slice_get xs i ≡ Some x → P x
all_at P xs i x all e = subst P (get_or_from_slice_get xs i x x e) (all i x (slice_get_within xs i x e))

form-true : (v : Interpretation) (f : Fact) (g : FormTree) → form_of f ≡ Some g → FactAt v f → IsTrue (form_at v g)
form-true v (fact.Plain f) g e h = subst (λ k. IsTrue (form_at v k)) (same_Some f g e) h
form-true v (fact.All x lo hi f) g e h = absurd cc

pub plain-true : (v : Interpretation) (facts : List Fact) (i : ℕ) (f : FormTree) → All (FactAt v) facts → plain_at facts i ≡ Some f → IsTrue (form_at v f)
plain-true v facts i f all e = option_and_then_some form_of (slice_get facts i) f e
    (λ there is plain. form-true v there f plain (all_at (FactAt v) facts i there all is))

row-true : (v : Interpretation) (facts : List Fact) (i : ℕ) (row : Line) → All (FactAt v) facts → row_at facts i ≡ Some row → LineAt v row
row-true v facts i row all e = option_and_then_some row_of (plain_at facts i) row e
    (λ f is has. (row_of-says v f row has).0 (plain-true v facts i f all is))

-- ---- sums

two-le : (a b c d s t : ℤ) → a ≤ℤ b → c ≤ℤ d → t ≡ a +ℤ c → s ≡ b +ℤ d → t ≤ℤ s
two-le a b c d s t h k e f = omega (arith, ints)

same-le : (a b : ℤ) → a ≡ b → a ≤ℤ b
same-le a b e = omega (arith, ints)

least : (m : ℤ) → int_le (pos 0) m ≡ true → pos 0 ≤ℤ m
least m h = grind (arith, ints, h)

-- a multiple of a row that is true
times-at : (v : Interpretation) (m : ℤ) (row : Line) → (row.is_equality || int_le (pos 0) m) ≡ true → LineAt v row → (m *ℤ worth v row.multiples) ≤ℤ (m *ℤ row.bound)
times-at v m row allowed h = go row.is_equality refl
  where
    go : (b : Bool) → row.is_equality ≡ b → (m *ℤ worth v row.multiples) ≤ℤ (m *ℤ row.bound)
    go true e = same-le (m *ℤ worth v row.multiples) (m *ℤ row.bound) (ap (λ z. m *ℤ z) (h.tight e))
    go false e = mul-le m (worth v row.multiples) row.bound (least m (ap (λ b. b || int_le (pos 0) m) (sym e) ∙ allowed)) h.below

plus_multiple-is : (v : Interpretation) (sum : Line) (m : ℤ) (row : Line)
    → worth v (plus_multiple sum m row).multiples ≡ worth v sum.multiples +ℤ m *ℤ worth v row.multiples
plus_multiple-is v sum m row = worth-append v sum.multiples (scaled_multiples m row.multiples) ∙ ap (λ z. worth v sum.multiples +ℤ z) (worth-scaled v m row.multiples)

plus_multiple-at : (v : Interpretation) (sum : Line) (m : ℤ) (row : Line) → (row.is_equality || int_le (pos 0) m) ≡ true → LineAt v sum → LineAt v row
    → LineAt v (plus_multiple sum m row)
plus_multiple-at v sum m row allowed one two = record {
  below = two-le (worth v sum.multiples) sum.bound (m *ℤ worth v row.multiples) (m *ℤ row.bound) (sum.bound +ℤ m *ℤ row.bound) _
      one.below (times-at v m row allowed two) (plus_multiple-is v sum m row) refl;
  tight = λ both. plus_multiple-is v sum m row
      ∙ ap (λ z. z +ℤ m *ℤ worth v row.multiples) (one.tight (and_left sum.is_equality row.is_equality both))
      ∙ ap (λ z. sum.bound +ℤ m *ℤ z) (two.tight (and_right sum.is_equality row.is_equality both));
}

checked-at : (v : Interpretation) (sum : Line) (m : ℤ) (row made : Line) → checked_plus sum m row ≡ Some made → LineAt v sum → LineAt v row → LineAt v made
checked-at v sum m row made e one two = go (may_be_added sum m row) refl e
  where
    go : (b : Bool) → may_be_added sum m row ≡ b → (if b then Some (plus_multiple sum m row) else None) ≡ Some made → LineAt v made
    go true is e = subst (LineAt v) (same_Some (plus_multiple sum m row) made e)
        (plus_multiple-at v sum m row (and_left (row.is_equality || int_le (pos 0) m) (is_small m && line_is_small (plus_multiple sum m row)) is) one two)
    go false is e = absurd cc

pub added-at : (v : Interpretation) (facts : List Fact) → All (FactAt v) facts → (pairs : List (ℕ × ℤ)) (sum line : Line) → added facts pairs sum ≡ Some line → LineAt v sum → LineAt v line
added-at v facts all [] sum line e h = subst (LineAt v) (same_Some sum line e) h
added-at v facts all (p ∷ ps) sum line e h = option_and_then_some (added facts ps) (option_and_then (checked_plus sum p.1) (row_at facts p.0)) line e
    (λ next made rest. option_and_then_some (checked_plus sum p.1) (row_at facts p.0) next made
    (λ row has plus. added-at v facts all ps next line rest (checked-at v sum p.1 row next plus h (row-true v facts p.0 row all has))))

nothing-at : (v : Interpretation) → LineAt v nothing
nothing-at v = record { below = same-le (pos 0) (pos 0) refl; tight = λ e. refl }

-- A combination of rows of true facts is true.
pub combination-at : (v : Interpretation) (facts : List Fact) (pairs : List (ℕ × ℤ)) (line : Line) → All (FactAt v) facts → combination facts pairs ≡ Some line → LineAt v line
combination-at v facts pairs line all e = added-at v facts all pairs nothing line e (nothing-at v)

-- ---- rows that are false

pub zero-is : (z : ℤ) → is_zero z ≡ true → z ≡ pos 0
zero-is (pos zero) e = refl
zero-is (pos (suc n)) e = absurd cc
zero-is (negsuc n) e = absurd cc

is-zero : (z : ℤ) → z ≡ pos 0 → is_zero z ≡ true
is-zero z e = ap is_zero e

sum-of-zeros : (a b : ℤ) → a ≡ pos 0 → b ≡ pos 0 → a +ℤ b ≡ pos 0
sum-of-zeros a b e h = omega (arith, ints)

worth-zero : (v : Interpretation) (ms : List Multiple) → list_all (λ m. is_zero m.1) ms ≡ true → worth v ms ≡ pos 0
worth-zero v [] h = refl
worth-zero v (m ∷ ms) h = sum-of-zeros (m.1 *ℤ term_at v m.0) (worth v ms)
    (ap (λ z. z *ℤ term_at v m.0) (zero-is m.1 (and_left (is_zero m.1) (list_all (λ m. is_zero m.1) ms) h)) ∙ zero-*ℤ (term_at v m.0))
    (worth-zero v ms (and_right (is_zero m.1) (list_all (λ m. is_zero m.1) ms) h))

below-zero : (w b : ℤ) → w ≡ pos 0 → w ≤ℤ b → int_lt b (pos 0) ≡ true → ⊥
below-zero w b e h less = let low : b <ℤ pos 0 = grind (arith, ints, less) in omega (arith, ints)

not-zero : (b : ℤ) → pos 0 ≡ b → not (is_zero b) ≡ true → ⊥
not-zero b e h = let other : not (is_zero b) ≡ false = ap not (is-zero b (sym e)) in absurd (let both : false ≡ true = sym other ∙ h in cc)

-- A false row isn't true.
pub false-nowhere : (v : Interpretation) (line : Line) → is_false line ≡ true → LineAt v line → ⊥
false-nowhere v line is h =
    let none : worth v line.multiples ≡ pos 0 = sym (worth-coefficients v line.multiples)
    ∙ worth-zero v (coefficients line.multiples) (and_left (is_constant line) (int_lt line.bound (pos 0) || (line.is_equality && not (is_zero line.bound))) is) in
    go none (int_lt line.bound (pos 0)) refl (and_right (is_constant line) (int_lt line.bound (pos 0) || (line.is_equality && not (is_zero line.bound))) is)
  where
    go : worth v line.multiples ≡ pos 0 → (b : Bool) → int_lt line.bound (pos 0) ≡ b → (b || (line.is_equality && not (is_zero line.bound))) ≡ true → ⊥
    go none true less k = below-zero (worth v line.multiples) line.bound none h.below less
    go none false less k = not-zero line.bound (sym none ∙ h.tight (and_left line.is_equality (not (is_zero line.bound)) k)) (and_right line.is_equality (not (is_zero line.bound)) k)
