-- What is found by places is what the rules take.
use Rattle.std.proofs.Common.{◌≡◌, ◌∙◌, ℕ, zero, suc, Bool, true, false, cond, List, [], ◌∷◌, filter, filter_map, slice_get, Option, Some, None, is_some, unwrap_or, pos, ap, sym, refl}
use Rattle.std.specs.Option.{option_map, option_and_then}
use Rattle.std.specs.List.{cons_option}
use Rattle.terms.specs.Trees.{TermTree, number, truth, FormTree}
use Rattle.terms.specs.Names.{terms_in_form}
use Rattle.cert_checker.specs.Places.{truths_in, division_of}
use Rattle.cert_checker.specs.Code.Finding.{truth_form, is_truth}
use Rattle.cert_checker.specs.Code.Truths.{put_form}
use Rattle.cert_checker.proofs.TruthLaws.{truths-found, put_there}

both-ways : {X : Type 0} (o : Option (FormTree × X)) → option_and_then truth_form (option_map (λ q. truth q.0) o) ≡ option_map (λ q. q.0) o
both-ways None = refl
both-ways (Some q) = refl

-- the form of the truth that was found
pub truth-inside : (f : FormTree) (k : ℕ) (found : Option TermTree) → found ≡ slice_get (filter is_truth (terms_in_form f)) k
    → option_and_then truth_form found ≡ option_map (λ p. p.0) (slice_get (truths_in f) k)
truth-inside f k found e = ap (option_and_then truth_form) (e ∙ truths-found f k) ∙ both-ways (slice_get (truths_in f) k)

-- the three forms of Truth
abbrev pub Split : Type 0
Split = FormTree × FormTree × FormTree

abbrev pub triple : FormTree → FormTree → FormTree → Split
triple inside one other = (inside, one, other)

abbrev pub split : FormTree × (TermTree → FormTree) → Split
split p = (p.0, p.1 (number (pos 1)), p.1 (number (pos 0)))

some-is : (x y : FormTree) → Some x ≡ Some y → x ≡ y
some-is x y e = ap (λ o. unwrap_or o x) e

module _ (f : FormTree) (k : ℕ) (inside one other : FormTree) (g : one ≡ (put_form (number (pos 1)) f (Some k)).0) (h : other ≡ (put_form (number (pos 0)) f (Some k)).0) where
  split-at : (o : Option (FormTree × (TermTree → FormTree))) → slice_get (truths_in f) k ≡ o → Some inside ≡ option_map (λ p. p.0) o
      → Some (triple inside one other) ≡ option_map split o
  split-at None is e = absurd cc
  split-at (Some q) is e = λ i. Some (triple (some-is inside q.0 e i) ((g ∙ put_there (number (pos 1)) f k q is) i) ((h ∙ put_there (number (pos 0)) f k q is) i))

  pub truth-split : Some inside ≡ option_map (λ p. p.0) (slice_get (truths_in f) k) → Some (triple inside one other) ≡ option_map split (slice_get (truths_in f) k)
  truth-split e = split-at (slice_get (truths_in f) k) refl e

pub nothing-inside : {X Y : Type 0} (g : X → Y) (h : X → FormTree) (o : Option X) → None ≡ option_map h o → None ≡ option_map g o
nothing-inside g h None e = refl
nothing-inside g h (Some x) e = absurd cc

-- a list by what a function finds in it
module _ {X Y : Type 0} (g : X → Option Y) (x : X) (kept : List X) (found : List Y) (same : (k : ℕ) → option_and_then g (slice_get kept k) ≡ slice_get found k) where
  first-found : (o : Option Y) → g x ≡ o → (k : ℕ) → option_and_then g (slice_get (cond (is_some (g x)) (x ∷ kept) kept) k) ≡ slice_get (cons_option (g x) found) k
  first-found None e k =
      ap (λ o. option_and_then g (slice_get (cond (is_some o) (x ∷ kept) kept) k)) e ∙ same k ∙ sym (ap (λ o. slice_get (cons_option o found) k) e)
  first-found (Some y) e zero =
      ap (λ o. option_and_then g (slice_get (cond (is_some o) (x ∷ kept) kept) zero)) e ∙ e ∙ sym (ap (λ o. slice_get (cons_option o found) zero) e)
  first-found (Some y) e (suc k) =
      ap (λ o. option_and_then g (slice_get (cond (is_some o) (x ∷ kept) kept) (suc k))) e ∙ same k ∙ sym (ap (λ o. slice_get (cons_option o found) (suc k)) e)

pub kept-found : {X Y : Type 0} (g : X → Option Y) (xs : List X) (k : ℕ) → option_and_then g (slice_get (filter (λ x. is_some (g x)) xs) k) ≡ slice_get (filter_map g xs) k
kept-found {Y = Y} g [] k = refl
kept-found g (x ∷ xs) k = first-found g x (filter (λ y. is_some (g y)) xs) (filter_map g xs) (kept-found g xs) (g x) refl k
