-- Truth where names are replaced is truth at the changed interpretation.
use Rattle.std.proofs.Common.{◌≡◌, ℤ, Bool, true, false, not, ◌&&◌, ◌||◌, ◌+ℤ◌, ◌-ℤ◌, ◌*ℤ◌, ◌≤ℤ◌, ◌<ℤ◌, int_le, if◌then◌else◌, IsTrue, refl, ap, ap₂, sym, subst, ◌∙◌, ◌↔◌, [], ◌∷◌}
use Rattle.std.specs.Ordering.{int_eq}
use Rattle.terms.specs.declared.sym.Sym.{Sym}
use Rattle.terms.specs.declared.fact.Fact.{Fact}
use Rattle.terms.specs.declared.fact.Fact.TheVariants as fact
use Rattle.terms.specs.Symbols.{same_sym}
use Rattle.terms.specs.Trees.{TermTree, number, name, plus, minus, times, divided, remainder, read, truth, ArrayTree, array, stored, FormTree, always, never, at_most, equal, denied, both, either}
use Rattle.terms.specs.Truth.{Interpretation, with_value, with_array, quotient_of, remainder_of, number_of, term_at, array_at, form_at, FactAt, AgreesAt}
use Rattle.terms.specs.Names.{as_number, as_array, term_names, array_names, is_number, captures}
use Rattle.terms.specs.Replacing.{Change, number_by, array_by, replaced_term, replaced_array, replaced_form, below, replaced_fact, changed, Avoids}
use Rattle.terms.proofs.Choices.{All-none}
use Rattle.terms.proofs.NameLaws.{term_at-agree, array_at-agree, AgreesAt-with_value}

mutual
  pub term_at-replaced : (c : Change) (v : Interpretation) (t : TermTree) → term_at v (replaced_term c t) ≡ term_at (changed c v) t
  term_at-replaced c v (number z) = refl
  term_at-replaced c v (name x) = refl
  term_at-replaced c v (plus t u) = ap₂ (λ x y. x +ℤ y) (term_at-replaced c v t) (term_at-replaced c v u)
  term_at-replaced c v (minus t u) = ap₂ (λ x y. x -ℤ y) (term_at-replaced c v t) (term_at-replaced c v u)
  term_at-replaced c v (times t u) = ap₂ (λ x y. x *ℤ y) (term_at-replaced c v t) (term_at-replaced c v u)
  term_at-replaced c v (divided t u) = ap₂ quotient_of (term_at-replaced c v t) (term_at-replaced c v u)
  term_at-replaced c v (remainder t u) = ap₂ remainder_of (term_at-replaced c v t) (term_at-replaced c v u)
  term_at-replaced c v (read a i) = ap₂ (λ (row : ℤ → ℤ) k. row k) (array_at-replaced c v a) (term_at-replaced c v i)
  term_at-replaced c v (truth f) = ap number_of (form_at-replaced c v f)

  pub array_at-replaced : (c : Change) (v : Interpretation) (a : ArrayTree) → array_at v (replaced_array c a) ≡ array_at (changed c v) a
  array_at-replaced c v (array x) = refl
  array_at-replaced c v (stored a i t) =
      λ j k. if int_eq (term_at-replaced c v i j) k then term_at-replaced c v t j else array_at-replaced c v a j k

  pub form_at-replaced : (c : Change) (v : Interpretation) (f : FormTree) → form_at v (replaced_form c f) ≡ form_at (changed c v) f
  form_at-replaced c v always = refl
  form_at-replaced c v never = refl
  form_at-replaced c v (at_most t u) = ap₂ int_le (term_at-replaced c v t) (term_at-replaced c v u)
  form_at-replaced c v (equal t u) = ap₂ int_eq (term_at-replaced c v t) (term_at-replaced c v u)
  form_at-replaced c v (denied f) = ap not (form_at-replaced c v f)
  form_at-replaced c v (both f g) = ap₂ (λ x y. x && y) (form_at-replaced c v f) (form_at-replaced c v g)
  form_at-replaced c v (either f g) = ap₂ (λ x y. x || y) (form_at-replaced c v f) (form_at-replaced c v g)

-- ---- under a bound number

choice : (b : Bool) (w : Interpretation) (y : Sym) (t : TermTree) (n z : ℤ) → (b ≡ true → w.value y ≡ n) → (b ≡ false → term_at w t ≡ z)
    → term_at w (if b then name y else t) ≡ (if b then n else z)
choice true w y t n z h k = h refl
choice false w y t n z h k = k refl

-- a test on one name alone
captures-one : (x y : Sym) (lo hi : TermTree) (f : FormTree) → same_sym x y ≡ false → captures (fact.All x lo hi f) (as_number y ∷ []) ≡ false
captures-one x y lo hi f e = ap (λ b. b || false) e

under_bound : (c : Change) (x : Sym) (lo hi : TermTree) (f : FormTree) → Avoids c (fact.All x lo hi f) → (v : Interpretation) (n : ℤ)
    → changed (below x c) (with_value v x n) ≡ with_value (changed c v) x n
under_bound c x lo hi f avoids v n = λ i. record {
  value = λ y. choice (same_sym x y) (with_value v x n) y (c.number y) n (term_at v (c.number y))
      (ap (λ b. if b then n else v.value y))
      (λ e. term_at-agree (with_value v x n) v (c.number y)
      (All-none (is_number x) (AgreesAt (with_value v x n) v) (AgreesAt-with_value v x n) (term_names (c.number y))
      (avoids.numbers y (captures-one x y lo hi f e)))) i;
  element = λ y k. array_at-agree (with_value v x n) v (c.array y) k
      (All-none (is_number x) (AgreesAt (with_value v x n) v) (AgreesAt-with_value v x n) (array_names (c.array y)) (avoids.arrays y)) i;
}

pub FactAt-replaced : (c : Change) (v : Interpretation) (f : Fact) → Avoids c f → FactAt v (replaced_fact c f) ≡ FactAt (changed c v) f
FactAt-replaced c v (fact.Plain f) avoids = ap IsTrue (form_at-replaced c v f)
FactAt-replaced c v (fact.All x lo hi f) avoids = λ i. (n : ℤ) → term_at-replaced c v lo i ≤ℤ n → n <ℤ term_at-replaced c v hi i
    → IsTrue ((form_at-replaced (below x c) (with_value v x n) f ∙ ap (λ w. form_at w f) (under_bound c x lo hi f avoids v n)) i)

pub FactAt-changed : (c : Change) (v : Interpretation) (f : Fact) → Avoids c f → FactAt v (replaced_fact c f) ↔ FactAt (changed c v) f
FactAt-changed c v f avoids = (subst (λ A. A) (FactAt-replaced c v f avoids), subst (λ A. A) (sym (FactAt-replaced c v f avoids)))

-- ---- one name

choice_value : (b : Bool) (v : Interpretation) (y : Sym) (t : TermTree) → term_at v (if b then t else name y) ≡ (if b then term_at v t else v.value y)
choice_value true v y t = refl
choice_value false v y t = refl

choice_array : (b : Bool) (v : Interpretation) (y : Sym) (a : ArrayTree) → array_at v (if b then a else array y) ≡ (if b then array_at v a else v.element y)
choice_array true v y a = refl
choice_array false v y a = refl

pub changed-number_by : (x : Sym) (t : TermTree) (v : Interpretation) → changed (number_by x t) v ≡ with_value v x (term_at v t)
changed-number_by x t v = λ i. record { value = λ y. choice_value (same_sym x y) v y t i; element = v.element }

pub changed-array_by : (x : Sym) (a : ArrayTree) (v : Interpretation) → changed (array_by x a) v ≡ with_array v x (array_at v a)
changed-array_by x a v = λ i. record { value = v.value; element = λ y. choice_array (same_sym x y) v y a i }

pub form_at-number_by : (x : Sym) (t : TermTree) (v : Interpretation) (f : FormTree)
    → form_at v (replaced_form (number_by x t) f) ≡ form_at (with_value v x (term_at v t)) f
form_at-number_by x t v f = form_at-replaced (number_by x t) v f ∙ ap (λ w. form_at w f) (changed-number_by x t v)

pub form_at-array_by : (x : Sym) (a : ArrayTree) (v : Interpretation) (f : FormTree)
    → form_at v (replaced_form (array_by x a) f) ≡ form_at (with_array v x (array_at v a)) f
form_at-array_by x a v f = form_at-replaced (array_by x a) v f ∙ ap (λ w. form_at w f) (changed-array_by x a v)

kept : (b : Bool) (f : Fact) (t : TermTree) (y : Sym) → captures f (term_names t) ≡ false → captures f (as_number y ∷ []) ≡ false
    → captures f (term_names (if b then t else name y)) ≡ false
kept true f t y h k = h
kept false f t y h k = k

no_number : (f : Fact) (y : Sym) → captures f (as_array y ∷ []) ≡ false
no_number (fact.Plain f) y = refl
no_number (fact.All x lo hi f) y = refl

kept_array : (b : Bool) (f : Fact) (a : ArrayTree) (y : Sym) → captures f (array_names a) ≡ false
    → captures f (array_names (if b then a else array y)) ≡ false
kept_array true f a y h = h
kept_array false f a y h = no_number f y

pub Avoids-number_by : (x : Sym) (t : TermTree) (f : Fact) → captures f (term_names t) ≡ false → Avoids (number_by x t) f
Avoids-number_by x t f h = record { numbers = λ y k. kept (same_sym x y) f t y h k; arrays = λ y. no_number f y }

no_names : (f : Fact) (y : Sym) → captures f (as_number y ∷ []) ≡ false → captures f (term_names (name y)) ≡ false
no_names f y k = k

pub Avoids-array_by : (x : Sym) (a : ArrayTree) (f : Fact) → captures f (array_names a) ≡ false → Avoids (array_by x a) f
Avoids-array_by x a f h = record { numbers = λ y k. no_names f y k; arrays = λ y. kept_array (same_sym x y) f a y h }

pub FactAt-number_by : (x : Sym) (t : TermTree) (v : Interpretation) (f : Fact) → captures f (term_names t) ≡ false
    → FactAt v (replaced_fact (number_by x t) f) ↔ FactAt (with_value v x (term_at v t)) f
FactAt-number_by x t v f h = subst (λ w. FactAt v (replaced_fact (number_by x t) f) ↔ FactAt w f) (changed-number_by x t v)
    (FactAt-changed (number_by x t) v f (Avoids-number_by x t f h))

pub FactAt-array_by : (x : Sym) (a : ArrayTree) (v : Interpretation) (f : Fact) → captures f (array_names a) ≡ false
    → FactAt v (replaced_fact (array_by x a) f) ↔ FactAt (with_array v x (array_at v a)) f
FactAt-array_by x a v f h = subst (λ w. FactAt v (replaced_fact (array_by x a) f) ↔ FactAt w f) (changed-array_by x a v)
    (FactAt-changed (array_by x a) v f (Avoids-array_by x a f h))
