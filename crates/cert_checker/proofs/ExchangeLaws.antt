-- Opening a part leaves what is made unchanged, and less to do.
use Rattle.std.proofs.Common.{◌≡◌, ◌∙◌, ℕ, ◌+◌, ◌*◌, ◌<◌, Bool, true, false, if◌then◌else◌, List, [], ◌∷◌, ◌++◌, ap, sym, refl, subst, arith, Result, Ok, Err, OnOk}
use Rattle.std.proofs.lemmas.List.{append-nil}
use Rattle.terms.specs.declared.node.Node.{Node}
use Rattle.terms.specs.Trees.{TermTree, number, name, plus, minus, times, divided, remainder, read, truth, ArrayTree, array, stored, FormTree, always, never, at_most, equal, denied, both, either}
use Rattle.terms.specs.Nodes.{term_nodes, array_nodes, form_nodes, term_size, array_size, form_size}
use Rattle.terms.specs.Equality.{same_term}
use Rattle.terms.proofs.OperatorLaws.{put_plus, put_minus, put_times, put_divided, put_remainder, put_read, put_at_most, put_equal, put_both, put_either, put_truth, put_denied, put_stored}
use Rattle.cert_checker.specs.declared.part.Part.{Part}
use Rattle.cert_checker.specs.declared.part.Part.TheVariants as part
use Rattle.cert_checker.specs.Places.{unless_same, exchanged_term, exchanged_array, exchanged_form}
use Rattle.cert_checker.specs.Code.Parts.{opened_term, opened_array, opened_form, leaf_of_term, leaf_of_array, leaf_of_form}
use Rattle.cert_checker.specs.Code.Exchanging.{exchanged_after, parts_work}

module _ (a b : TermTree) where
  -- a term that isn't the one that is exchanged
  kept : (t other : TermTree) → same_term a t ≡ false → unless_same a b t other ≡ other
  kept t other e = ap (λ c. if c then b else other) e

  pub term_opened : (t : TermTree) (parts : List Part) (done : List Node) → same_term a t ≡ false
      → exchanged_after a b (opened_term t ++ parts) (done ++ leaf_of_term t) ≡ exchanged_after a b (part.Term t ∷ parts) done
  term_opened (number z) parts done e = ap (λ x. exchanged_after a b parts (done ++ term_nodes x)) (sym (kept (number z) (number z) e))
  term_opened (name x) parts done e = ap (λ y. exchanged_after a b parts (done ++ term_nodes y)) (sym (kept (name x) (name x) e))
  term_opened (plus t u) parts done e =
      ap (λ d. exchanged_after a b (opened_term (plus t u) ++ parts) d) (append-nil done)
      ∙ ap (λ d. exchanged_after a b parts d) (put_plus done (exchanged_term a b t) (exchanged_term a b u) ∙ ap (λ v. done ++ term_nodes v) (sym (kept (plus t u) (plus (exchanged_term a b t) (exchanged_term a b u)) e)))
  term_opened (minus t u) parts done e =
      ap (λ d. exchanged_after a b (opened_term (minus t u) ++ parts) d) (append-nil done)
      ∙ ap (λ d. exchanged_after a b parts d) (put_minus done (exchanged_term a b t) (exchanged_term a b u) ∙ ap (λ v. done ++ term_nodes v) (sym (kept (minus t u) (minus (exchanged_term a b t) (exchanged_term a b u)) e)))
  term_opened (times t u) parts done e =
      ap (λ d. exchanged_after a b (opened_term (times t u) ++ parts) d) (append-nil done)
      ∙ ap (λ d. exchanged_after a b parts d) (put_times done (exchanged_term a b t) (exchanged_term a b u) ∙ ap (λ v. done ++ term_nodes v) (sym (kept (times t u) (times (exchanged_term a b t) (exchanged_term a b u)) e)))
  term_opened (divided t u) parts done e =
      ap (λ d. exchanged_after a b (opened_term (divided t u) ++ parts) d) (append-nil done)
      ∙ ap (λ d. exchanged_after a b parts d) (put_divided done (exchanged_term a b t) (exchanged_term a b u) ∙ ap (λ v. done ++ term_nodes v) (sym (kept (divided t u) (divided (exchanged_term a b t) (exchanged_term a b u)) e)))
  term_opened (remainder t u) parts done e =
      ap (λ d. exchanged_after a b (opened_term (remainder t u) ++ parts) d) (append-nil done)
      ∙ ap (λ d. exchanged_after a b parts d) (put_remainder done (exchanged_term a b t) (exchanged_term a b u) ∙ ap (λ v. done ++ term_nodes v) (sym (kept (remainder t u) (remainder (exchanged_term a b t) (exchanged_term a b u)) e)))
  term_opened (read r i) parts done e =
      ap (λ d. exchanged_after a b (opened_term (read r i) ++ parts) d) (append-nil done)
      ∙ ap (λ d. exchanged_after a b parts d) (put_read done (exchanged_array a b r) (exchanged_term a b i) ∙ ap (λ v. done ++ term_nodes v) (sym (kept (read r i) (read (exchanged_array a b r) (exchanged_term a b i)) e)))
  term_opened (truth f) parts done e =
      ap (λ d. exchanged_after a b (opened_term (truth f) ++ parts) d) (append-nil done)
      ∙ ap (λ d. exchanged_after a b parts d) (put_truth done (exchanged_form a b f) ∙ ap (λ v. done ++ term_nodes v) (sym (kept (truth f) (truth (exchanged_form a b f)) e)))

  pub term_exchanged : (t : TermTree) (parts : List Part) (done : List Node) → same_term a t ≡ true
      → exchanged_after a b parts (done ++ term_nodes b) ≡ exchanged_after a b (part.Term t ∷ parts) done
  term_exchanged t parts done e = ap (λ v. exchanged_after a b parts (done ++ term_nodes v)) (sym (same t e))
    where
      by : (c : Bool) (other : TermTree) → c ≡ true → (if c then b else other) ≡ b
      by c other h = ap (λ d. if d then b else other) h

      same : (t : TermTree) → same_term a t ≡ true → exchanged_term a b t ≡ b
      same (number z) h = by (same_term a (number z)) (number z) h
      same (name x) h = by (same_term a (name x)) (name x) h
      same (plus t u) h = by (same_term a (plus t u)) (plus (exchanged_term a b t) (exchanged_term a b u)) h
      same (minus t u) h = by (same_term a (minus t u)) (minus (exchanged_term a b t) (exchanged_term a b u)) h
      same (times t u) h = by (same_term a (times t u)) (times (exchanged_term a b t) (exchanged_term a b u)) h
      same (divided t u) h = by (same_term a (divided t u)) (divided (exchanged_term a b t) (exchanged_term a b u)) h
      same (remainder t u) h = by (same_term a (remainder t u)) (remainder (exchanged_term a b t) (exchanged_term a b u)) h
      same (read r i) h = by (same_term a (read r i)) (read (exchanged_array a b r) (exchanged_term a b i)) h
      same (truth f) h = by (same_term a (truth f)) (truth (exchanged_form a b f)) h

  pub array_opened : (r : ArrayTree) (parts : List Part) (done : List Node)
      → exchanged_after a b (opened_array r ++ parts) (done ++ leaf_of_array r) ≡ exchanged_after a b (part.Array r ∷ parts) done
  array_opened (array x) parts done = refl
  array_opened (stored r i t) parts done =
      ap (λ d. exchanged_after a b (opened_array (stored r i t) ++ parts) d) (append-nil done)
      ∙ ap (λ d. exchanged_after a b parts d) (put_stored done (exchanged_array a b r) (exchanged_term a b i) (exchanged_term a b t))

  pub form_opened : (f : FormTree) (parts : List Part) (done : List Node)
      → exchanged_after a b (opened_form f ++ parts) (done ++ leaf_of_form f) ≡ exchanged_after a b (part.Form f ∷ parts) done
  form_opened always parts done = refl
  form_opened never parts done = refl
  form_opened (at_most t u) parts done =
      ap (λ d. exchanged_after a b (opened_form (at_most t u) ++ parts) d) (append-nil done)
      ∙ ap (λ d. exchanged_after a b parts d) (put_at_most done (exchanged_term a b t) (exchanged_term a b u))
  form_opened (equal t u) parts done =
      ap (λ d. exchanged_after a b (opened_form (equal t u) ++ parts) d) (append-nil done)
      ∙ ap (λ d. exchanged_after a b parts d) (put_equal done (exchanged_term a b t) (exchanged_term a b u))
  form_opened (both f g) parts done =
      ap (λ d. exchanged_after a b (opened_form (both f g) ++ parts) d) (append-nil done)
      ∙ ap (λ d. exchanged_after a b parts d) (put_both done (exchanged_form a b f) (exchanged_form a b g))
  form_opened (either f g) parts done =
      ap (λ d. exchanged_after a b (opened_form (either f g) ++ parts) d) (append-nil done)
      ∙ ap (λ d. exchanged_after a b parts d) (put_either done (exchanged_form a b f) (exchanged_form a b g))
  form_opened (denied f) parts done =
      ap (λ d. exchanged_after a b (opened_form (denied f) ++ parts) d) (append-nil done)
      ∙ ap (λ d. exchanged_after a b parts d) (put_denied done (exchanged_form a b f))

-- ---- less is left

size-up : (n : ℕ) → 0 < 1 + n
size-up n = omega arith

less-leaf : (w : ℕ) → w < 2 * 1 + w
less-leaf w = omega arith

less-one : (n w : ℕ) → 2 * n + (1 + w) < 2 * (1 + n) + w
less-one n w = omega arith

less-two : (m n w : ℕ) → 2 * m + (2 * n + (1 + w)) < 2 * (1 + (m + n)) + w
less-two m n w = omega arith

less-three : (l m n w : ℕ) → 2 * l + (2 * m + (2 * n + (1 + w))) < 2 * (1 + (l + (m + n))) + w
less-three l m n w = omega arith

pub term_less : (t : TermTree) (parts : List Part) → parts_work (opened_term t ++ parts) < parts_work (part.Term t ∷ parts)
term_less (number z) parts = less-leaf (parts_work parts)
term_less (name x) parts = less-leaf (parts_work parts)
term_less (plus t u) parts = less-two (term_size t) (term_size u) (parts_work parts)
term_less (minus t u) parts = less-two (term_size t) (term_size u) (parts_work parts)
term_less (times t u) parts = less-two (term_size t) (term_size u) (parts_work parts)
term_less (divided t u) parts = less-two (term_size t) (term_size u) (parts_work parts)
term_less (remainder t u) parts = less-two (term_size t) (term_size u) (parts_work parts)
term_less (read r i) parts = less-two (array_size r) (term_size i) (parts_work parts)
term_less (truth f) parts = less-one (form_size f) (parts_work parts)

pub array_less : (r : ArrayTree) (parts : List Part) → parts_work (opened_array r ++ parts) < parts_work (part.Array r ∷ parts)
array_less (array x) parts = less-leaf (parts_work parts)
array_less (stored r i t) parts = less-three (array_size r) (term_size i) (term_size t) (parts_work parts)

pub form_less : (f : FormTree) (parts : List Part) → parts_work (opened_form f ++ parts) < parts_work (part.Form f ∷ parts)
form_less always parts = less-leaf (parts_work parts)
form_less never parts = less-leaf (parts_work parts)
form_less (at_most t u) parts = less-two (term_size t) (term_size u) (parts_work parts)
form_less (equal t u) parts = less-two (term_size t) (term_size u) (parts_work parts)
form_less (both f g) parts = less-two (form_size f) (form_size g) (parts_work parts)
form_less (either f g) parts = less-two (form_size f) (form_size g) (parts_work parts)
form_less (denied f) parts = less-one (form_size f) (parts_work parts)

-- ---- answers

pub on-one : {T E : Type 0} {A B : Type 0} (r : Result T E) → OnOk r A → (A → B) → OnOk r B
on-one (Ok x) h f = f h
on-one (Err e) h f = tt

pub on-both : {T E : Type 0} {A B C : Type 0} (r : Result T E) → OnOk r A → OnOk r B → (A → B → C) → OnOk r C
on-both (Ok x) h k f = f h k
on-both (Err e) h k f = tt

module _ (a b : TermTree) where
  pub term_left : (t : TermTree) (parts more : List Part) (done made : List Node) → same_term a t ≡ false
      → more ≡ opened_term t ++ parts → made ≡ done ++ leaf_of_term t → exchanged_after a b more made ≡ exchanged_after a b (part.Term t ∷ parts) done
  term_left t parts more done made other e f = (λ i. exchanged_after a b (e i) (f i)) ∙ term_opened a b t parts done other

  pub array_left : (r : ArrayTree) (parts more : List Part) (done made : List Node)
      → more ≡ opened_array r ++ parts → made ≡ done ++ leaf_of_array r → exchanged_after a b more made ≡ exchanged_after a b (part.Array r ∷ parts) done
  array_left r parts more done made e f = (λ i. exchanged_after a b (e i) (f i)) ∙ array_opened a b r parts done

  pub form_left : (g : FormTree) (parts more : List Part) (done made : List Node)
      → more ≡ opened_form g ++ parts → made ≡ done ++ leaf_of_form g → exchanged_after a b more made ≡ exchanged_after a b (part.Form g ∷ parts) done
  form_left g parts more done made e f = (λ i. exchanged_after a b (e i) (f i)) ∙ form_opened a b g parts done

pub fewer : (n m w : ℕ) → n ≡ m → m < w → n < w
fewer n m w e h = subst (λ k. k < w) (sym e) h

some-more : (n w : ℕ) → 0 < n → w < 2 * n + w
some-more n w h = omega arith

-- a term counts for something
term-up : (t : TermTree) → 0 < term_size t
term-up (number z) = size-up 0
term-up (name x) = size-up 0
term-up (plus t u) = size-up (term_size t + term_size u)
term-up (minus t u) = size-up (term_size t + term_size u)
term-up (times t u) = size-up (term_size t + term_size u)
term-up (divided t u) = size-up (term_size t + term_size u)
term-up (remainder t u) = size-up (term_size t + term_size u)
term-up (read r i) = size-up (array_size r + term_size i)
term-up (truth f) = size-up (form_size f)

pub term_some : (t : TermTree) (parts : List Part) → parts_work parts < parts_work (part.Term t ∷ parts)
term_some t parts = some-more (term_size t) (parts_work parts) (term-up t)
