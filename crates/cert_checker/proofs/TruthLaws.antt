-- Opening a part leaves what is made unchanged, and what is made is the form with the term at that place.
use Rattle.std.proofs.Common.{◌≡◌, ◌∙◌, Bool, true, false, ℕ, zero, suc, ◌+◌, ◌-◌, ◌≤◌, List, [], ◌∷◌, ◌++◌, map, length, filter_map, filter, slice_get, unwrap_or, Option, Some, None, ap, ap₂, sym, refl, subst, arith}
use Rattle.std.specs.Option.{option_map}
use Rattle.std.proofs.lemmas.List.{append-nil, length-append}
use Rattle.std.proofs.lemmas.List.Elements.{filter_map-append}
use Rattle.terms.specs.declared.node.Node.{Node}
use Rattle.terms.specs.Trees.{TermTree, number, name, plus, minus, times, divided, remainder, read, truth, ArrayTree, array, stored, FormTree, always, never, at_most, equal, denied, both, either}
use Rattle.terms.specs.Nodes.{term_nodes, array_nodes, form_nodes}
use Rattle.terms.specs.Names.{terms_in_term, terms_in_array, terms_in_form}
use Rattle.terms.proofs.OperatorLaws as op
use Rattle.cert_checker.specs.declared.part.Part.{Part}
use Rattle.cert_checker.specs.declared.part.Part.TheVariants as part
use Rattle.cert_checker.specs.Places.{Place, within, itself_and, places_in_term, places_in_array, places_in_form, truth_at, truths_in}
use Rattle.cert_checker.specs.Code.Parts.{opened_term, opened_array, opened_form, leaf_of_term, leaf_of_array, leaf_of_form}
use Rattle.cert_checker.specs.Code.Finding.{is_truth}
use Rattle.cert_checker.specs.Code.Truths.{Left, Putting, unchanged, in_one, in_two, in_three, in_truth, put_term, put_array, put_form, put_after}

-- ---- opening

module _ (v : TermTree) where
  pub term_put : (t : TermTree) (parts : List Part) (s : Left) (done : List Node) → is_truth t ≡ false
      → put_after v (opened_term t ++ parts) s (done ++ leaf_of_term t) ≡ put_after v (part.Term t ∷ parts) s done
  term_put (number z) parts s done e = refl
  term_put (name x) parts s done e = refl
  term_put (plus t u) parts s done e =
      let one = put_term v t s in
      let two = put_term v u one.1 in
      ap (λ d. put_after v (opened_term (plus t u) ++ parts) s d) (append-nil done) ∙ ap (put_after v parts two.1) (op.put_plus done one.0 two.0)
  term_put (minus t u) parts s done e =
      let one = put_term v t s in
      let two = put_term v u one.1 in
      ap (λ d. put_after v (opened_term (minus t u) ++ parts) s d) (append-nil done) ∙ ap (put_after v parts two.1) (op.put_minus done one.0 two.0)
  term_put (times t u) parts s done e =
      let one = put_term v t s in
      let two = put_term v u one.1 in
      ap (λ d. put_after v (opened_term (times t u) ++ parts) s d) (append-nil done) ∙ ap (put_after v parts two.1) (op.put_times done one.0 two.0)
  term_put (divided t u) parts s done e =
      let one = put_term v t s in
      let two = put_term v u one.1 in
      ap (λ d. put_after v (opened_term (divided t u) ++ parts) s d) (append-nil done) ∙ ap (put_after v parts two.1) (op.put_divided done one.0 two.0)
  term_put (remainder t u) parts s done e =
      let one = put_term v t s in
      let two = put_term v u one.1 in
      ap (λ d. put_after v (opened_term (remainder t u) ++ parts) s d) (append-nil done) ∙ ap (put_after v parts two.1) (op.put_remainder done one.0 two.0)
  term_put (read r i) parts s done e =
      let one = put_array v r s in
      let two = put_term v i one.1 in
      ap (λ d. put_after v (opened_term (read r i) ++ parts) s d) (append-nil done) ∙ ap (put_after v parts two.1) (op.put_read done one.0 two.0)
  term_put (truth f) parts s done e = absurd cc

  pub truth_passed : (f : FormTree) (parts : List Part) (k : ℕ) (done : List Node)
      → put_after v (opened_term (truth f) ++ parts) (Some k) (done ++ leaf_of_term (truth f)) ≡ put_after v (part.Term (truth f) ∷ parts) (Some (suc k)) done
  truth_passed f parts k done =
      let one = put_form v f (Some k) in
      ap (λ d. put_after v (opened_term (truth f) ++ parts) (Some k) d) (append-nil done) ∙ ap (put_after v parts one.1) (op.put_truth done one.0)

  pub truth_done : (f : FormTree) (parts : List Part) (done : List Node)
      → put_after v (opened_term (truth f) ++ parts) None (done ++ leaf_of_term (truth f)) ≡ put_after v (part.Term (truth f) ∷ parts) None done
  truth_done f parts done =
      let one = put_form v f None in
      ap (λ d. put_after v (opened_term (truth f) ++ parts) None d) (append-nil done) ∙ ap (put_after v parts one.1) (op.put_truth done one.0)

  pub array_put : (r : ArrayTree) (parts : List Part) (s : Left) (done : List Node)
      → put_after v (opened_array r ++ parts) s (done ++ leaf_of_array r) ≡ put_after v (part.Array r ∷ parts) s done
  array_put (array x) parts s done = refl
  array_put (stored r i t) parts s done =
      let one = put_array v r s in
      let two = put_term v i one.1 in
      let three = put_term v t two.1 in
      ap (λ d. put_after v (opened_array (stored r i t) ++ parts) s d) (append-nil done) ∙ ap (put_after v parts three.1) (op.put_stored done one.0 two.0 three.0)

  pub form_put : (f : FormTree) (parts : List Part) (s : Left) (done : List Node)
      → put_after v (opened_form f ++ parts) s (done ++ leaf_of_form f) ≡ put_after v (part.Form f ∷ parts) s done
  form_put always parts s done = refl
  form_put never parts s done = refl
  form_put (at_most t u) parts s done =
      let one = put_term v t s in
      let two = put_term v u one.1 in
      ap (λ d. put_after v (opened_form (at_most t u) ++ parts) s d) (append-nil done) ∙ ap (put_after v parts two.1) (op.put_at_most done one.0 two.0)
  form_put (equal t u) parts s done =
      let one = put_term v t s in
      let two = put_term v u one.1 in
      ap (λ d. put_after v (opened_form (equal t u) ++ parts) s d) (append-nil done) ∙ ap (put_after v parts two.1) (op.put_equal done one.0 two.0)
  form_put (both f g) parts s done =
      let one = put_form v f s in
      let two = put_form v g one.1 in
      ap (λ d. put_after v (opened_form (both f g) ++ parts) s d) (append-nil done) ∙ ap (put_after v parts two.1) (op.put_both done one.0 two.0)
  form_put (either f g) parts s done =
      let one = put_form v f s in
      let two = put_form v g one.1 in
      ap (λ d. put_after v (opened_form (either f g) ++ parts) s d) (append-nil done) ∙ ap (put_after v parts two.1) (op.put_either done one.0 two.0)
  form_put (denied f) parts s done =
      let one = put_form v f s in
      ap (λ d. put_after v (opened_form (denied f) ++ parts) s d) (append-nil done) ∙ ap (put_after v parts one.1) (op.put_denied done one.0)

-- ---- places in lists

got-left : {X : Type 0} (xs ys : List X) (k : ℕ) (x : X) → slice_get xs k ≡ Some x → slice_get (xs ++ ys) k ≡ Some x
got-left [] ys k x e = absurd cc
got-left (y ∷ xs) ys zero x e = e
got-left (y ∷ xs) ys (suc k) x e = got-left xs ys k x e

got-right : {X : Type 0} (xs ys : List X) (k : ℕ) → slice_get xs k ≡ None → (length xs ≤ k) × (slice_get (xs ++ ys) k ≡ slice_get ys (k - length xs))
got-right [] ys k e = (omega arith, ap (slice_get ys) (none-less k))
  where
    none-less : (k : ℕ) → k ≡ k - 0
    none-less k = omega arith
got-right (y ∷ xs) ys zero e = absurd cc
got-right (y ∷ xs) ys (suc k) e = let rest = got-right xs ys k e in (up (length xs) k rest.0, rest.1 ∙ ap (slice_get ys) (less (length xs) k))
  where
    up : (n k : ℕ) → n ≤ k → suc n ≤ suc k
    up n k h = omega arith

    less : (n k : ℕ) → k - n ≡ suc k - suc n
    less n k = omega arith

got-mapped : {X Y : Type 0} (f : X → Y) (xs : List X) (k : ℕ) → slice_get (map f xs) k ≡ option_map f (slice_get xs k)
got-mapped f [] k = refl
got-mapped f (x ∷ xs) zero = refl
got-mapped f (x ∷ xs) (suc k) = got-mapped f xs k

length-mapped : {X Y : Type 0} (f : X → Y) (xs : List X) → length (map f xs) ≡ length xs
length-mapped f [] = refl
length-mapped f (x ∷ xs) = ap suc (length-mapped f xs)

-- ---- truths by their places

abbrev Found : Type 0 → Type 0
Found Whole = FormTree × (TermTree → Whole)

abbrev truths : {Whole : Type 0} → List (Place Whole) → List (Found Whole)
truths places = filter_map truth_at places

abbrev lifted : {Part Whole : Type 0} → (Part → Whole) → Found Part → Found Whole
lifted make q = (q.0, λ t. make (q.1 t))

truths-within : {Part Whole : Type 0} (make : Part → Whole) (places : List (Place Part)) → truths (within make places) ≡ map (lifted make) (truths places)
truths-within make [] = refl
truths-within make ((number z, put) ∷ places) = truths-within make places
truths-within make ((name x, put) ∷ places) = truths-within make places
truths-within make ((plus t u, put) ∷ places) = truths-within make places
truths-within make ((minus t u, put) ∷ places) = truths-within make places
truths-within make ((times t u, put) ∷ places) = truths-within make places
truths-within make ((divided t u, put) ∷ places) = truths-within make places
truths-within make ((remainder t u, put) ∷ places) = truths-within make places
truths-within make ((read a i, put) ∷ places) = truths-within make places
truths-within make ((truth f, put) ∷ places) = ap (λ qs. (f, λ t. make (put t)) ∷ qs) (truths-within make places)

-- Putting goes to the place that is asked for, and without one nothing changes.
record Follows (v : TermTree) {Whole : Type 0} (found : List (Found Whole)) (whole : Whole) (put : Putting Whole) : Type 0 where
  none : put None ≡ (whole, None)
  hit : (k : ℕ) (q : Found Whole) → slice_get found k ≡ Some q → put (Some k) ≡ (q.1 v, None)
  miss : (k : ℕ) → slice_get found k ≡ None → put (Some k) ≡ (whole, Some (k - length found))

none-some : {X : Type 0} (x : X) → None ≡ Some x → ⊥
none-some x e = absurd cc

-- which of the two a place is
data Case {X : Type 0} (o : Option X) : Type 0 where
  there : (x : X) → o ≡ Some x → Case o
  missing : o ≡ None → Case o

case : {X : Type 0} (o : Option X) → Case o
case (Some x) = there x refl
case None = missing refl

none-less : (k : ℕ) → k ≡ k - 0
none-less k = omega arith

unchanged-follows : (v : TermTree) {Whole : Type 0} (whole : Whole) → Follows v [] whole (unchanged whole)
unchanged-follows v whole = record { none = refl; hit = λ k q e. absurd cc; miss = λ k e. ap (λ n. (whole, Some n)) (none-less k) }

some-is : {X : Type 0} (x y : X) → Some x ≡ Some y → x ≡ y
some-is x y e = ap (λ o. unwrap_or o x) e

module _ (v : TermTree) {Part Whole : Type 0} (make : Part → Whole) (found : List (Found Part)) (part : Part) (put : Putting Part) (follows : Follows v found part put) where
  one-hit : (k : ℕ) (q : Found Whole) → slice_get (map (lifted make) found) k ≡ Some q → Case (slice_get found k) → in_one make put (Some k) ≡ (q.1 v, None)
  one-hit k q e (there x h) = ap (λ p. (make p.0, p.1)) (follows.hit k x h)
      ∙ ap (λ (r : Found Whole). (r.1 v, None)) (some-is (lifted make x) q (sym (got-mapped (lifted make) found k ∙ ap (option_map (lifted make)) h) ∙ e))
  one-hit k q e (missing h) = absurd (none-some q (sym (got-mapped (lifted make) found k ∙ ap (option_map (lifted make)) h) ∙ e))

  one-miss : (k : ℕ) → slice_get (map (lifted make) found) k ≡ None → Case (slice_get found k) → in_one make put (Some k) ≡ (make part, Some (k - length (map (lifted make) found)))
  one-miss k e (there x h) = absurd (none-some (lifted make x) (sym e ∙ got-mapped (lifted make) found k ∙ ap (option_map (lifted make)) h))
  one-miss k e (missing h) = ap (λ p. (make p.0, p.1)) (follows.miss k h) ∙ ap (λ n. (make part, Some (k - n))) (sym (length-mapped (lifted make) found))

  one-follows : Follows v (map (lifted make) found) (make part) (in_one make put)
  one-follows = record {
    none = ap (λ p. (make p.0, p.1)) follows.none;
    hit = λ k q e. one-hit k q e (case (slice_get found k));
    miss = λ k e. one-miss k e (case (slice_get found k));
  }

two-less : (k m n : ℕ) → (k - m) - n ≡ k - (m + n)
two-less k m n = omega arith

module _ (v : TermTree) {One Two Whole : Type 0} (make : One → Two → Whole) (first : List (Found One)) (one : One) (put : Putting One) (follows : Follows v first one put)
    (second : List (Found Two)) (two : Two) (puts : Putting Two) (goes : Follows v second two puts) where
  abbrev lefts : List (Found Whole)
  lefts = map (lifted (λ p. make p two)) first

  abbrev rights : List (Found Whole)
  rights = map (lifted (make one)) second

  out : One × Left → Whole × Left
  out p = (make p.0 (puts p.1).0, (puts p.1).1)

  in-left : (k : ℕ) → slice_get lefts k ≡ option_map (lifted (λ p. make p two)) (slice_get first k)
  in-left k = got-mapped (lifted (λ p. make p two)) first k

  in-right : (k : ℕ) → slice_get rights k ≡ option_map (lifted (make one)) (slice_get second k)
  in-right k = got-mapped (lifted (make one)) second k

  -- behind the first list
  beyond : (k : ℕ) → slice_get first k ≡ None → slice_get (lefts ++ rights) k ≡ slice_get rights (k - length first)
  beyond k h =
      (got-right lefts rights k (in-left k ∙ ap (option_map (lifted (λ p. make p two))) h)).1
      ∙ ap (λ n. slice_get rights (k - n)) (length-mapped (lifted (λ p. make p two)) first)

  two-hit : (k : ℕ) (q : Found Whole) → slice_get (lefts ++ rights) k ≡ Some q → Case (slice_get first k) → in_two make put puts (Some k) ≡ (q.1 v, None)
  unfolding out
  two-hit k q e (there x h) =
      let is : slice_get (lefts ++ rights) k ≡ Some (lifted (λ p. make p two) x) =
      got-left lefts rights k (lifted (λ p. make p two) x) (in-left k ∙ ap (option_map (lifted (λ p. make p two))) h) in
      ap out (follows.hit k x h) ∙ ap (λ p. (make (x.1 v) p.0, p.1)) goes.none
      ∙ ap (λ (r : Found Whole). (r.1 v, None)) (some-is (lifted (λ p. make p two) x) q (sym is ∙ e))
  two-hit k q e (missing h) = later (case (slice_get second (k - length first)))
    where
      later : Case (slice_get second (k - length first)) → in_two make put puts (Some k) ≡ (q.1 v, None)
      later (there x g) = ap out (follows.miss k h) ∙ ap (λ p. (make one p.0, p.1)) (goes.hit (k - length first) x g)
          ∙ ap (λ (r : Found Whole). (r.1 v, None)) (some-is (lifted (make one) x) q (sym (beyond k h ∙ in-right (k - length first) ∙ ap (option_map (lifted (make one))) g) ∙ e))
      later (missing g) = absurd (none-some q (sym (beyond k h ∙ in-right (k - length first) ∙ ap (option_map (lifted (make one))) g) ∙ e))

  two-miss : (k : ℕ) → slice_get (lefts ++ rights) k ≡ None → Case (slice_get first k) → in_two make put puts (Some k) ≡ (make one two, Some (k - length (lefts ++ rights)))
  unfolding out
  two-miss k e (there x h) = absurd (none-some (lifted (λ p. make p two) x) (sym e
      ∙ got-left lefts rights k (lifted (λ p. make p two) x) (in-left k ∙ ap (option_map (lifted (λ p. make p two))) h)))
  two-miss k e (missing h) = later (case (slice_get second (k - length first)))
    where
      count : length first + length second ≡ length (lefts ++ rights)
      count = sym (length-append lefts rights ∙ ap₂ (λ m n. m + n) (length-mapped (lifted (λ p. make p two)) first) (length-mapped (lifted (make one)) second))

      later : Case (slice_get second (k - length first)) → in_two make put puts (Some k) ≡ (make one two, Some (k - length (lefts ++ rights)))
      later (there x g) = absurd (none-some (lifted (make one) x) (sym e ∙ beyond k h ∙ in-right (k - length first) ∙ ap (option_map (lifted (make one))) g))
      later (missing g) = ap out (follows.miss k h) ∙ ap (λ p. (make one p.0, p.1)) (goes.miss (k - length first) g)
          ∙ ap (λ n. (make one two, Some n)) (two-less k (length first) (length second) ∙ ap (λ n. k - n) count)

  two-follows : Follows v (lefts ++ rights) (make one two) (in_two make put puts)
  unfolding out
  two-follows = record {
    none = ap out follows.none ∙ ap (λ p. (make one p.0, p.1)) goes.none;
    hit = λ k q e. two-hit k q e (case (slice_get first k));
    miss = λ k e. two-miss k e (case (slice_get first k));
  }

-- ---- every form

map-lifted : {One Two Whole : Type 0} (g : Two → Whole) (h : One → Two) (xs : List (Found One)) → map (lifted g) (map (lifted h) xs) ≡ map (lifted (λ x. g (h x))) xs
map-lifted g h [] = refl
map-lifted g h (x ∷ xs) = ap (λ ys. lifted (λ y. g (h y)) x ∷ ys) (map-lifted g h xs)

map-joined : {X Y : Type 0} (f : X → Y) (xs ys : List X) → map f (xs ++ ys) ≡ map f xs ++ map f ys
map-joined f [] ys = refl
map-joined f (x ∷ xs) ys = ap (λ zs. f x ∷ zs) (map-joined f xs ys)

truths-two : {One Two Whole : Type 0} (make : One → Whole) (built : Two → Whole) (ps : List (Place One)) (qs : List (Place Two))
    → map (lifted make) (truths ps) ++ map (lifted built) (truths qs) ≡ truths (within make ps ++ within built qs)
truths-two make built ps qs =
    ap₂ (λ xs ys. xs ++ ys) (sym (truths-within make ps)) (sym (truths-within built qs)) ∙ sym (filter_map-append truth_at (within make ps) (within built qs))

module _ (v : TermTree) (f : FormTree) (found : List (Found FormTree)) (put : Putting FormTree) (follows : Follows v found f put) where
  truth-hit : (k : ℕ) (q : Found TermTree) → slice_get ((f, λ t. t) ∷ map (lifted truth) found) k ≡ Some q → in_truth v put (Some k) ≡ (q.1 v, None)
  truth-hit zero q e = ap (λ (r : Found TermTree). (r.1 v, None)) (some-is (f, λ t. t) q e)
  truth-hit (suc k) q e = one-hit v truth found f put follows k q e (case (slice_get found k))

  truth-miss : (k : ℕ) → slice_get ((f, λ t. t) ∷ map (lifted truth) found) k ≡ None
      → in_truth v put (Some k) ≡ (truth f, Some (k - length ((f, λ (t : TermTree). t) ∷ map (lifted truth) found)))
  truth-miss zero e = absurd cc
  truth-miss (suc k) e = one-miss v truth found f put follows k e (case (slice_get found k)) ∙ ap (λ n. (truth f, Some n)) (up k (length (map (lifted truth) found)))
    where
      up : (k n : ℕ) → k - n ≡ suc k - suc n
      up k n = omega arith

  truth-follows : Follows v ((f, λ t. t) ∷ map (lifted truth) found) (truth f) (in_truth v put)
  truth-follows = record { none = ap (λ p. (truth p.0, p.1)) follows.none; hit = truth-hit; miss = truth-miss }

module _ (v : TermTree) where
  mutual
    term-follows : (t : TermTree) → Follows v (truths (places_in_term t)) t (put_term v t)
    term-follows (number z) = unchanged-follows v (number z)
    term-follows (name x) = unchanged-follows v (name x)
    term-follows (plus t u) = subst (λ fs. Follows v fs (plus t u) (in_two plus (put_term v t) (put_term v u)))
        (truths-two (λ w. plus w u) (plus t) (places_in_term t) (places_in_term u))
        (two-follows v plus (truths (places_in_term t)) t (put_term v t) (term-follows t) (truths (places_in_term u)) u (put_term v u) (term-follows u))
    term-follows (minus t u) = subst (λ fs. Follows v fs (minus t u) (in_two minus (put_term v t) (put_term v u)))
        (truths-two (λ w. minus w u) (minus t) (places_in_term t) (places_in_term u))
        (two-follows v minus (truths (places_in_term t)) t (put_term v t) (term-follows t) (truths (places_in_term u)) u (put_term v u) (term-follows u))
    term-follows (times t u) = subst (λ fs. Follows v fs (times t u) (in_two times (put_term v t) (put_term v u)))
        (truths-two (λ w. times w u) (times t) (places_in_term t) (places_in_term u))
        (two-follows v times (truths (places_in_term t)) t (put_term v t) (term-follows t) (truths (places_in_term u)) u (put_term v u) (term-follows u))
    term-follows (divided t u) = subst (λ fs. Follows v fs (divided t u) (in_two divided (put_term v t) (put_term v u)))
        (truths-two (λ w. divided w u) (divided t) (places_in_term t) (places_in_term u))
        (two-follows v divided (truths (places_in_term t)) t (put_term v t) (term-follows t) (truths (places_in_term u)) u (put_term v u) (term-follows u))
    term-follows (remainder t u) = subst (λ fs. Follows v fs (remainder t u) (in_two remainder (put_term v t) (put_term v u)))
        (truths-two (λ w. remainder w u) (remainder t) (places_in_term t) (places_in_term u))
        (two-follows v remainder (truths (places_in_term t)) t (put_term v t) (term-follows t) (truths (places_in_term u)) u (put_term v u) (term-follows u))
    term-follows (read r i) = subst (λ fs. Follows v fs (read r i) (in_two read (put_array v r) (put_term v i)))
        (truths-two (λ w. read w i) (read r) (places_in_array r) (places_in_term i))
        (two-follows v read (truths (places_in_array r)) r (put_array v r) (array-follows r) (truths (places_in_term i)) i (put_term v i) (term-follows i))
    term-follows (truth f) = subst (λ fs. Follows v ((f, λ t. t) ∷ fs) (truth f) (in_truth v (put_form v f))) (sym (truths-within truth (places_in_form f)))
        (truth-follows v f (truths (places_in_form f)) (put_form v f) (form-follows f))

    array-follows : (r : ArrayTree) → Follows v (truths (places_in_array r)) r (put_array v r)
    array-follows (array x) = unchanged-follows v (array x)
    array-follows (stored a i t) =
        let pair : TermTree → TermTree → TermTree × TermTree = λ x y. (x, y) in
        let make : ArrayTree → TermTree × TermTree → ArrayTree = λ b p. stored b p.0 p.1 in
        let is : List (Found TermTree) = truths (places_in_term i) in
        let ts : List (Found TermTree) = truths (places_in_term t) in
        let inner = two-follows v pair is i (put_term v i) (term-follows i) ts t (put_term v t) (term-follows t) in
        let whole = two-follows v make (truths (places_in_array a)) a (put_array v a) (array-follows a)
        (map (lifted (λ x. pair x t)) is ++ map (lifted (pair i)) ts) (i, t) (in_two pair (put_term v i) (put_term v t)) inner in
        let rest : map (lifted (make a)) (map (lifted (λ x. pair x t)) is ++ map (lifted (pair i)) ts) ≡ truths (within (λ x. stored a x t) (places_in_term i) ++ within (stored a i) (places_in_term t)) =
        map-joined (lifted (make a)) (map (lifted (λ x. pair x t)) is) (map (lifted (pair i)) ts)
        ∙ ap₂ (λ xs ys. xs ++ ys) (map-lifted (make a) (λ x. pair x t) is) (map-lifted (make a) (pair i) ts)
        ∙ truths-two (λ x. stored a x t) (stored a i) (places_in_term i) (places_in_term t) in
        subst (λ fs. Follows v fs (stored a i t) (put_array v (stored a i t)))
        (ap₂ (λ xs ys. xs ++ ys) (sym (truths-within (λ b. stored b i t) (places_in_array a))) rest
        ∙ sym (filter_map-append truth_at (within (λ b. stored b i t) (places_in_array a)) (within (λ x. stored a x t) (places_in_term i) ++ within (stored a i) (places_in_term t))))
        whole

    form-follows : (f : FormTree) → Follows v (truths (places_in_form f)) f (put_form v f)
    form-follows always = unchanged-follows v always
    form-follows never = unchanged-follows v never
    form-follows (at_most t u) = subst (λ fs. Follows v fs (at_most t u) (in_two at_most (put_term v t) (put_term v u)))
        (truths-two (λ w. at_most w u) (at_most t) (places_in_term t) (places_in_term u))
        (two-follows v at_most (truths (places_in_term t)) t (put_term v t) (term-follows t) (truths (places_in_term u)) u (put_term v u) (term-follows u))
    form-follows (equal t u) = subst (λ fs. Follows v fs (equal t u) (in_two equal (put_term v t) (put_term v u)))
        (truths-two (λ w. equal w u) (equal t) (places_in_term t) (places_in_term u))
        (two-follows v equal (truths (places_in_term t)) t (put_term v t) (term-follows t) (truths (places_in_term u)) u (put_term v u) (term-follows u))
    form-follows (both f g) = subst (λ fs. Follows v fs (both f g) (in_two both (put_form v f) (put_form v g)))
        (truths-two (λ w. both w g) (both f) (places_in_form f) (places_in_form g))
        (two-follows v both (truths (places_in_form f)) f (put_form v f) (form-follows f) (truths (places_in_form g)) g (put_form v g) (form-follows g))
    form-follows (either f g) = subst (λ fs. Follows v fs (either f g) (in_two either (put_form v f) (put_form v g)))
        (truths-two (λ w. either w g) (either f) (places_in_form f) (places_in_form g))
        (two-follows v either (truths (places_in_form f)) f (put_form v f) (form-follows f) (truths (places_in_form g)) g (put_form v g) (form-follows g))
    form-follows (denied f) = subst (λ fs. Follows v fs (denied f) (in_one denied (put_form v f))) (sym (truths-within denied (places_in_form f)))
        (one-follows v denied (truths (places_in_form f)) f (put_form v f) (form-follows f))

-- the term is put at the place that was asked for
pub put_there : (v : TermTree) (f : FormTree) (k : ℕ) (q : FormTree × (TermTree → FormTree)) → slice_get (truths_in f) k ≡ Some q → (put_form v f (Some k)).0 ≡ q.1 v
put_there v f k q e = ap (λ p. p.0) ((form-follows v f).hit k q e)

-- ---- truths and terms

firsts-within : {Part Whole : Type 0} (make : Part → Whole) (ps : List (Place Part)) → map (λ p. p.0) (within make ps) ≡ map (λ p. p.0) ps
firsts-within make [] = refl
firsts-within make (p ∷ ps) = ap (λ ts. p.0 ∷ ts) (firsts-within make ps)

firsts-two : {One Two Whole : Type 0} (make : One → Whole) (built : Two → Whole) (ps : List (Place One)) (qs : List (Place Two)) (xs ys : List TermTree)
    → map (λ p. p.0) ps ≡ xs → map (λ p. p.0) qs ≡ ys → map (λ p. p.0) (within make ps ++ within built qs) ≡ xs ++ ys
firsts-two make built ps qs xs ys h k = map-joined (λ p. p.0) (within make ps) (within built qs) ∙ ap₂ (λ a b. a ++ b) (firsts-within make ps ∙ h) (firsts-within built qs ∙ k)

mutual
  term-firsts : (t : TermTree) → map (λ p. p.0) (places_in_term t) ≡ terms_in_term t
  term-firsts (number z) = refl
  term-firsts (name x) = refl
  term-firsts (plus t u) = ap (λ ts. plus t u ∷ ts) (firsts-two (λ w. plus w u) (plus t) (places_in_term t) (places_in_term u) (terms_in_term t) (terms_in_term u) (term-firsts t) (term-firsts u))
  term-firsts (minus t u) = ap (λ ts. minus t u ∷ ts) (firsts-two (λ w. minus w u) (minus t) (places_in_term t) (places_in_term u) (terms_in_term t) (terms_in_term u) (term-firsts t) (term-firsts u))
  term-firsts (times t u) = ap (λ ts. times t u ∷ ts) (firsts-two (λ w. times w u) (times t) (places_in_term t) (places_in_term u) (terms_in_term t) (terms_in_term u) (term-firsts t) (term-firsts u))
  term-firsts (divided t u) = ap (λ ts. divided t u ∷ ts) (firsts-two (λ w. divided w u) (divided t) (places_in_term t) (places_in_term u) (terms_in_term t) (terms_in_term u) (term-firsts t) (term-firsts u))
  term-firsts (remainder t u) = ap (λ ts. remainder t u ∷ ts) (firsts-two (λ w. remainder w u) (remainder t) (places_in_term t) (places_in_term u) (terms_in_term t) (terms_in_term u) (term-firsts t) (term-firsts u))
  term-firsts (read r i) = ap (λ ts. read r i ∷ ts) (firsts-two (λ w. read w i) (read r) (places_in_array r) (places_in_term i) (terms_in_array r) (terms_in_term i) (array-firsts r) (term-firsts i))
  term-firsts (truth f) = ap (λ ts. truth f ∷ ts) (firsts-within truth (places_in_form f) ∙ form-firsts f)

  array-firsts : (r : ArrayTree) → map (λ p. p.0) (places_in_array r) ≡ terms_in_array r
  array-firsts (array x) = refl
  array-firsts (stored a i t) =
      map-joined (λ p. p.0) (within (λ b. stored b i t) (places_in_array a)) (within (λ x. stored a x t) (places_in_term i) ++ within (stored a i) (places_in_term t))
      ∙ ap₂ (λ xs ys. xs ++ ys) (firsts-within (λ b. stored b i t) (places_in_array a) ∙ array-firsts a)
      (firsts-two (λ x. stored a x t) (stored a i) (places_in_term i) (places_in_term t) (terms_in_term i) (terms_in_term t) (term-firsts i) (term-firsts t))

  pub form-firsts : (f : FormTree) → map (λ p. p.0) (places_in_form f) ≡ terms_in_form f
  form-firsts always = refl
  form-firsts never = refl
  form-firsts (at_most t u) = firsts-two (λ w. at_most w u) (at_most t) (places_in_term t) (places_in_term u) (terms_in_term t) (terms_in_term u) (term-firsts t) (term-firsts u)
  form-firsts (equal t u) = firsts-two (λ w. equal w u) (equal t) (places_in_term t) (places_in_term u) (terms_in_term t) (terms_in_term u) (term-firsts t) (term-firsts u)
  form-firsts (both f g) = firsts-two (λ w. both w g) (both f) (places_in_form f) (places_in_form g) (terms_in_form f) (terms_in_form g) (form-firsts f) (form-firsts g)
  form-firsts (either f g) = firsts-two (λ w. either w g) (either f) (places_in_form f) (places_in_form g) (terms_in_form f) (terms_in_form g) (form-firsts f) (form-firsts g)
  form-firsts (denied f) = firsts-within denied (places_in_form f) ∙ form-firsts f

truths-firsts : {Whole : Type 0} (ps : List (Place Whole)) → filter is_truth (map (λ p. p.0) ps) ≡ map (λ q. truth q.0) (truths ps)
truths-firsts [] = refl
truths-firsts ((number z, put) ∷ ps) = truths-firsts ps
truths-firsts ((name x, put) ∷ ps) = truths-firsts ps
truths-firsts ((plus t u, put) ∷ ps) = truths-firsts ps
truths-firsts ((minus t u, put) ∷ ps) = truths-firsts ps
truths-firsts ((times t u, put) ∷ ps) = truths-firsts ps
truths-firsts ((divided t u, put) ∷ ps) = truths-firsts ps
truths-firsts ((remainder t u, put) ∷ ps) = truths-firsts ps
truths-firsts ((read a i, put) ∷ ps) = truths-firsts ps
truths-firsts ((truth f, put) ∷ ps) = ap (λ ts. truth f ∷ ts) (truths-firsts ps)

pub truths-found : (f : FormTree) (k : ℕ) → slice_get (filter is_truth (terms_in_form f)) k ≡ option_map (λ q. truth q.0) (slice_get (truths_in f) k)
truths-found f k =
    ap (λ ts. slice_get ts k) (ap (filter is_truth) (sym (form-firsts f)) ∙ truths-firsts (places_in_form f))
    ∙ got-mapped (λ q. truth q.0) (truths_in f) k

-- ---- a truth that is met

module _ (v : TermTree) where
  pub truth_skipped : (t : TermTree) (parts : List Part) (k : ℕ) (done : List Node) → is_truth t ≡ true
      → put_after v (opened_term t ++ parts) (Some k) (done ++ leaf_of_term t) ≡ put_after v (part.Term t ∷ parts) (Some (suc k)) done
  truth_skipped (truth f) parts k done e = truth_passed v f parts k done
  truth_skipped (number z) parts k done e = absurd cc
  truth_skipped (name x) parts k done e = absurd cc
  truth_skipped (plus t u) parts k done e = absurd cc
  truth_skipped (minus t u) parts k done e = absurd cc
  truth_skipped (times t u) parts k done e = absurd cc
  truth_skipped (divided t u) parts k done e = absurd cc
  truth_skipped (remainder t u) parts k done e = absurd cc
  truth_skipped (read a i) parts k done e = absurd cc

  pub truth_kept : (t : TermTree) (parts : List Part) (done : List Node) → is_truth t ≡ true
      → put_after v (opened_term t ++ parts) None (done ++ leaf_of_term t) ≡ put_after v (part.Term t ∷ parts) None done
  truth_kept (truth f) parts done e = truth_done v f parts done
  truth_kept (number z) parts done e = absurd cc
  truth_kept (name x) parts done e = absurd cc
  truth_kept (plus t u) parts done e = absurd cc
  truth_kept (minus t u) parts done e = absurd cc
  truth_kept (times t u) parts done e = absurd cc
  truth_kept (divided t u) parts done e = absurd cc
  truth_kept (remainder t u) parts done e = absurd cc
  truth_kept (read a i) parts done e = absurd cc

  pub truth_replaced : (t : TermTree) (parts : List Part) (done : List Node) → is_truth t ≡ true
      → put_after v parts None (done ++ term_nodes v) ≡ put_after v (part.Term t ∷ parts) (Some 0) done
  truth_replaced (truth f) parts done e = refl
  truth_replaced (number z) parts done e = absurd cc
  truth_replaced (name x) parts done e = absurd cc
  truth_replaced (plus t u) parts done e = absurd cc
  truth_replaced (minus t u) parts done e = absurd cc
  truth_replaced (times t u) parts done e = absurd cc
  truth_replaced (divided t u) parts done e = absurd cc
  truth_replaced (remainder t u) parts done e = absurd cc
  truth_replaced (read a i) parts done e = absurd cc

-- what is left to do is the same where the parts and the nodes are
pub same_after : (v : TermTree) (parts more : List Part) (s : Left) (done made : List Node) (whole : List Node) → more ≡ parts → made ≡ done
    → put_after v parts s done ≡ whole → put_after v more s made ≡ whole
same_after v parts more s done made whole e f h = (λ i. put_after v (e i) s (f i)) ∙ h
