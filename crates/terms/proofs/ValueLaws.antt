-- Values of terms, arrays and forms by the values of their parts.
use Rattle.std.proofs.Common.{◌≡◌, ℤ, pos, Bool, true, false, not, ◌&&◌, ◌||◌, int_le, if◌then◌else◌, List, [], ◌∷◌, ◌++◌, Option, Some, None, is_some, unwrap_or, refl, sym, ap, ap₂, ◌∙◌}
use Rattle.std.specs.List.{list_all}
use Rattle.std.specs.Option.{option_and_then}
use Rattle.std.specs.Ordering.{int_eq}
use Rattle.std.proofs.lemmas.List.Folds.{list_all-append}
use Rattle.terms.specs.declared.sym.Sym.{Sym}
use Rattle.terms.specs.declared.valuation.Valuation.{Valuation}
use Rattle.terms.specs.declared.evaluate.Operation.TheVariants as operation
use Rattle.terms.specs.Trees.{TermTree, number, name, plus, minus, times, divided, remainder, read, truth, ArrayTree, array, stored, FormTree, always, never, at_most, equal, denied, both, either}
use Rattle.terms.specs.Names.{Occurrence, term_names, array_names, form_names, terms_in_term, terms_in_array, terms_in_form}
use Rattle.terms.specs.Truth.{number_of, term_at, array_at, form_at}
use Rattle.terms.specs.Valuations.{listed_number, listed_row, element_in, interpretation_of, is_listed, is_small, kept, can_evaluate, term_value, element_value, form_value}
use Rattle.terms.specs.Code.Operations.{worth, written}

-- a value that is there or not
abbrev pub answer : {A : Type 0} → Bool → A → Option A
answer b x = if b then Some x else None

-- of two values that both have to be there
abbrev pub joined : {A B : Type 0} → (A → A → Option B) → Option A → Option A → Option B
joined f x y = option_and_then (λ a. option_and_then (λ b. f a b) y) x

-- ---- tests

regroup_four : (a b c d : Bool) → ((a && b) && (c && d)) ≡ ((a && c) && (b && d))
regroup_four false b c d = refl
regroup_four true b true d = refl
regroup_four true true false d = refl
regroup_four true false false d = refl

behind : (a s b : Bool) → (a && (s && b)) ≡ ((a && b) && s)
behind false s b = refl
behind true true true = refl
behind true true false = refl
behind true false true = refl
behind true false false = refl

and_true : (b : Bool) → (b && true) ≡ b
and_true true = refl
and_true false = refl

module _ (v : Valuation) where
  -- what can be evaluated in two parts
  both_parts : (names names' : List Occurrence) (terms terms' : List TermTree)
      → can_evaluate v (names ++ names') (terms ++ terms') ≡ (can_evaluate v names terms && can_evaluate v names' terms')
  both_parts names names' terms terms' =
      ap₂ (λ a b. a && b) (list_all-append (is_listed v) names names') (list_all-append (λ t. is_small (term_at (interpretation_of v) t)) terms terms')
      ∙ regroup_four (list_all (is_listed v) names) (list_all (is_listed v) names')
      (list_all (λ t. is_small (term_at (interpretation_of v) t)) terms) (list_all (λ t. is_small (term_at (interpretation_of v) t)) terms')

  -- a term before its parts
  term_and_parts : (names : List Occurrence) (t : TermTree) (terms : List TermTree)
      → can_evaluate v names (t ∷ terms) ≡ (can_evaluate v names terms && is_small (term_at (interpretation_of v) t))
  term_and_parts names t terms =
      behind (list_all (is_listed v) names) (is_small (term_at (interpretation_of v) t)) (list_all (λ u. is_small (term_at (interpretation_of v) u)) terms)

-- ---- answers

kept_answer : (a : Bool) (z : ℤ) → answer (a && is_small z) z ≡ option_and_then kept (answer a z)
unfolding kept
kept_answer true z = refl
kept_answer false z = refl

joined_answer : {A B : Type 0} (f : A → A → B) (a b : Bool) (x y : A) → answer (a && b) (f x y) ≡ joined (λ p q. Some (f p q)) (answer a x) (answer b y)
joined_answer f true true x y = refl
joined_answer f true false x y = refl
joined_answer f false b x y = refl

joined_kept : (f : ℤ → ℤ → ℤ) (x y : Option ℤ) → option_and_then kept (joined (λ p q. Some (f p q)) x y) ≡ joined (λ p q. kept (f p q)) x y
joined_kept f None y = refl
joined_kept f (Some p) None = refl
joined_kept f (Some p) (Some q) = refl

-- ---- terms

module _ (v : Valuation) where
  pub term_value-number : (z : ℤ) → term_value v (number z) ≡ kept z
  unfolding term_value kept
  term_value-number z = ap (λ b. answer b z) (and_true (is_small z))

  named : (o : Option ℤ) → answer ((is_some o && true) && (is_small (unwrap_or o (pos 0)) && true)) (unwrap_or o (pos 0)) ≡ option_and_then kept o
  unfolding kept
  named None = refl
  named (Some z) = ap (λ b. answer b z) (and_true (is_small z))

  pub term_value-name : (x : Sym) → term_value v (name x) ≡ option_and_then kept (listed_number v x)
  unfolding term_value
  term_value-name x = named (listed_number v x)

  -- an operation on two terms
  operation_value : (f : ℤ → ℤ → ℤ) (whole t u : TermTree) → term_at (interpretation_of v) whole ≡ f (term_at (interpretation_of v) t) (term_at (interpretation_of v) u)
      → answer (can_evaluate v (term_names t ++ term_names u) (whole ∷ (terms_in_term t ++ terms_in_term u))) (term_at (interpretation_of v) whole)
      ≡ joined (λ p q. kept (f p q)) (term_value v t) (term_value v u)
  unfolding term_value
  operation_value f whole t u e =
      ap₂ answer
      (term_and_parts v (term_names t ++ term_names u) whole (terms_in_term t ++ terms_in_term u)
      ∙ ap₂ (λ a z. a && is_small z) (both_parts v (term_names t) (term_names u) (terms_in_term t) (terms_in_term u)) e) e
      ∙ kept_answer (can_evaluate v (term_names t) (terms_in_term t) && can_evaluate v (term_names u) (terms_in_term u)) (f (term_at (interpretation_of v) t) (term_at (interpretation_of v) u))
      ∙ ap (option_and_then kept) (joined_answer f (can_evaluate v (term_names t) (terms_in_term t)) (can_evaluate v (term_names u) (terms_in_term u)) (term_at (interpretation_of v) t) (term_at (interpretation_of v) u))
      ∙ joined_kept f (term_value v t) (term_value v u)

  pub term_value-plus : (t u : TermTree) → term_value v (plus t u) ≡ joined (λ p q. kept (worth operation.Sum p q)) (term_value v t) (term_value v u)
  unfolding term_value worth
  term_value-plus t u = operation_value (worth operation.Sum) (plus t u) t u refl

  pub term_value-minus : (t u : TermTree) → term_value v (minus t u) ≡ joined (λ p q. kept (worth operation.Difference p q)) (term_value v t) (term_value v u)
  unfolding term_value worth
  term_value-minus t u = operation_value (worth operation.Difference) (minus t u) t u refl

  pub term_value-times : (t u : TermTree) → term_value v (times t u) ≡ joined (λ p q. kept (worth operation.Product p q)) (term_value v t) (term_value v u)
  unfolding term_value worth
  term_value-times t u = operation_value (worth operation.Product) (times t u) t u refl

  pub term_value-divided : (t u : TermTree) → term_value v (divided t u) ≡ joined (λ p q. kept (worth operation.Quotient p q)) (term_value v t) (term_value v u)
  unfolding term_value worth
  term_value-divided t u = operation_value (worth operation.Quotient) (divided t u) t u refl

  pub term_value-remainder : (t u : TermTree) → term_value v (remainder t u) ≡ joined (λ p q. kept (worth operation.Remainder p q)) (term_value v t) (term_value v u)
  unfolding term_value worth
  term_value-remainder t u = operation_value (worth operation.Remainder) (remainder t u) t u refl

  read_answer : (a b : Bool) (row : ℤ → ℤ) (k : ℤ) → answer ((a && b) && is_small (row k)) (row k) ≡ option_and_then (λ i. option_and_then kept (answer a (row i))) (answer b k)
  unfolding kept
  read_answer true true row k = refl
  read_answer true false row k = refl
  read_answer false true row k = refl
  read_answer false false row k = refl

  pub term_value-read : (a : ArrayTree) (i : TermTree) → term_value v (read a i) ≡ option_and_then (λ k. option_and_then kept (element_value v a k)) (term_value v i)
  unfolding term_value element_value
  term_value-read a i =
      ap (λ b. answer b (array_at (interpretation_of v) a (term_at (interpretation_of v) i)))
      (term_and_parts v (array_names a ++ term_names i) (read a i) (terms_in_array a ++ terms_in_term i)
      ∙ ap (λ b. b && is_small (array_at (interpretation_of v) a (term_at (interpretation_of v) i))) (both_parts v (array_names a) (term_names i) (terms_in_array a) (terms_in_term i)))
      ∙ read_answer (can_evaluate v (array_names a) (terms_in_array a)) (can_evaluate v (term_names i) (terms_in_term i)) (array_at (interpretation_of v) a) (term_at (interpretation_of v) i)

  one_or_zero : (b : Bool) → is_small (number_of b) ≡ true
  unfolding is_small
  one_or_zero true = refl
  one_or_zero false = refl

  truth_answer : (a b : Bool) → answer (a && true) (number_of b) ≡ option_and_then (λ c. Some (number_of c)) (answer a b)
  truth_answer true b = refl
  truth_answer false b = refl

  pub term_value-truth : (f : FormTree) → term_value v (truth f) ≡ option_and_then (λ b. Some (number_of b)) (form_value v f)
  unfolding term_value form_value
  term_value-truth f =
      ap (λ b. answer b (number_of (form_at (interpretation_of v) f)))
      (term_and_parts v (form_names f) (truth f) (terms_in_form f) ∙ ap (λ b. can_evaluate v (form_names f) (terms_in_form f) && b) (one_or_zero (form_at (interpretation_of v) f)))
      ∙ truth_answer (can_evaluate v (form_names f) (terms_in_form f)) (form_at (interpretation_of v) f)

  -- ---- arrays

  base_value : (o : Option (List (ℤ × ℤ))) (k : ℤ) → answer ((is_some o && true) && true) (element_in (unwrap_or o []) k) ≡ option_and_then (λ row. Some (element_in row k)) o
  base_value None k = refl
  base_value (Some row) k = refl

  pub element_value-array : (x : Sym) (k : ℤ) → element_value v (array x) k ≡ option_and_then (λ row. Some (element_in row k)) (listed_row v x)
  unfolding element_value
  element_value-array x k = base_value (listed_row v x) k

  stored_answer : (a b c : Bool) (k below index value : ℤ) → answer (a && (b && c)) (written k below index value)
      ≡ option_and_then (λ z. joined (λ i w. Some (written k z i w)) (answer b index) (answer c value)) (answer a below)
  stored_answer true true true k below index value = refl
  stored_answer true true false k below index value = refl
  stored_answer true false c k below index value = refl
  stored_answer false b c k below index value = refl

  pub element_value-stored : (a : ArrayTree) (i t : TermTree) (k : ℤ)
      → element_value v (stored a i t) k ≡ option_and_then (λ below. joined (λ index value. Some (written k below index value)) (term_value v i) (term_value v t)) (element_value v a k)
  unfolding element_value term_value written
  element_value-stored a i t k =
      ap (λ b. answer b (array_at (interpretation_of v) (stored a i t) k))
      (both_parts v (array_names a) (term_names i ++ term_names t) (terms_in_array a) (terms_in_term i ++ terms_in_term t)
      ∙ ap (λ b. can_evaluate v (array_names a) (terms_in_array a) && b) (both_parts v (term_names i) (term_names t) (terms_in_term i) (terms_in_term t)))
      ∙ stored_answer (can_evaluate v (array_names a) (terms_in_array a)) (can_evaluate v (term_names i) (terms_in_term i)) (can_evaluate v (term_names t) (terms_in_term t))
      k (array_at (interpretation_of v) a k) (term_at (interpretation_of v) i) (term_at (interpretation_of v) t)

  -- ---- forms

  pub form_value-always : form_value v always ≡ Some true
  unfolding form_value
  form_value-always = refl

  pub form_value-never : form_value v never ≡ Some false
  unfolding form_value
  form_value-never = refl

  pub form_value-at_most : (t u : TermTree) → form_value v (at_most t u) ≡ joined (λ p q. Some (int_le p q)) (term_value v t) (term_value v u)
  unfolding form_value term_value
  form_value-at_most t u =
      ap (λ b. answer b (form_at (interpretation_of v) (at_most t u))) (both_parts v (term_names t) (term_names u) (terms_in_term t) (terms_in_term u))
      ∙ joined_answer int_le (can_evaluate v (term_names t) (terms_in_term t)) (can_evaluate v (term_names u) (terms_in_term u)) (term_at (interpretation_of v) t) (term_at (interpretation_of v) u)

  pub form_value-equal : (t u : TermTree) → form_value v (equal t u) ≡ joined (λ p q. Some (int_eq p q)) (term_value v t) (term_value v u)
  unfolding form_value term_value
  form_value-equal t u =
      ap (λ b. answer b (form_at (interpretation_of v) (equal t u))) (both_parts v (term_names t) (term_names u) (terms_in_term t) (terms_in_term u))
      ∙ joined_answer int_eq (can_evaluate v (term_names t) (terms_in_term t)) (can_evaluate v (term_names u) (terms_in_term u)) (term_at (interpretation_of v) t) (term_at (interpretation_of v) u)

  denied_answer : (a b : Bool) → answer a (not b) ≡ option_and_then (λ c. Some (not c)) (answer a b)
  denied_answer true b = refl
  denied_answer false b = refl

  pub form_value-denied : (f : FormTree) → form_value v (denied f) ≡ option_and_then (λ b. Some (not b)) (form_value v f)
  unfolding form_value
  form_value-denied f = denied_answer (can_evaluate v (form_names f) (terms_in_form f)) (form_at (interpretation_of v) f)

  pub form_value-both : (f g : FormTree) → form_value v (both f g) ≡ joined (λ p q. Some (p && q)) (form_value v f) (form_value v g)
  unfolding form_value
  form_value-both f g =
      ap (λ b. answer b (form_at (interpretation_of v) (both f g))) (both_parts v (form_names f) (form_names g) (terms_in_form f) (terms_in_form g))
      ∙ joined_answer (λ p q. p && q) (can_evaluate v (form_names f) (terms_in_form f)) (can_evaluate v (form_names g) (terms_in_form g)) (form_at (interpretation_of v) f) (form_at (interpretation_of v) g)

  pub form_value-either : (f g : FormTree) → form_value v (either f g) ≡ joined (λ p q. Some (p || q)) (form_value v f) (form_value v g)
  unfolding form_value
  form_value-either f g =
      ap (λ b. answer b (form_at (interpretation_of v) (either f g))) (both_parts v (form_names f) (form_names g) (terms_in_form f) (terms_in_form g))
      ∙ joined_answer (λ p q. p || q) (can_evaluate v (form_names f) (terms_in_form f)) (can_evaluate v (form_names g) (terms_in_form g)) (form_at (interpretation_of v) f) (form_at (interpretation_of v) g)

pub ruleset values = (term_value-number, term_value-name, term_value-plus, term_value-minus, term_value-times, term_value-divided, term_value-remainder, term_value-read, term_value-truth, element_value-array, element_value-stored, form_value-always, form_value-never, form_value-at_most, form_value-equal, form_value-denied, form_value-both, form_value-either)

pub stored_value : (v : Valuation) (whole a : ArrayTree) (i t : TermTree) (k before index value : ℤ) → stored a i t ≡ whole
    → Some before ≡ element_value v a k → Some index ≡ term_value v i → Some value ≡ term_value v t
    → Some (written k before index value) ≡ element_value v whole k
stored_value v whole a i t k before index value is e f g =
    (λ j. option_and_then (λ z. joined (λ p q. Some (written k z p q)) (f j) (g j)) (e j))
    ∙ sym (element_value-stored v a i t k)
    ∙ ap (λ r. element_value v r k) is
