-- The point of the stages satisfies the given rows.
use Rattle.std.proofs.Common.{◌≡◌, ◌∙◌, ◌<◌, ℕ, ℤ, pos, negsuc, ◌+ℤ◌, ◌*ℤ◌, ◌≤ℤ◌, ◌<ℤ◌, List, [], ◌∷◌, ◌++◌, ap, sym, refl, arith, subst, Bool, true, false, ◌&&◌, ◌||◌, suc, zero, length, get_or, map, nat_eq, if◌then◌else◌, Option, Some, None, inl, inr}
use Rattle.std.specs.Prelude.{filter}
use Rattle.std.specs.List.{All, Contains, flat_map}
use Rattle.std.specs.Ordering.{int_eq}
use Rattle.std.specs.Cmp.Lexicographic.{pointwise}
use Rattle.std.proofs.lemmas.Int.{ints}
use Rattle.std.proofs.lemmas.List.Elements.{All-cons, All-nil, All-head, All-tail, All-contains}
use Rattle.linear_rows.specs.declared.row.Row.{Row}
use Rattle.linear_rows.specs.Numbers.{is_zero}
use Rattle.linear_rows.specs.Sums.{Part, dot, coefficient, Holds}
use Rattle.linear_rows.proofs.Ring.{dist, assoc, times-one}
use Rattle.linear_rows.proofs.SumLaws.{dot-sums}
use Rattle.std.proofs.Math.IntN.{*ℤ_comm, zero-*ℤ, pos-*ℤ-pos}
use Rattle.linear_certs.specs.declared.entry.Entry.{Entry}
use Rattle.linear_certs.specs.Stages.{first_atom, smaller, is_positive, is_negative, same_row, has_row, kept_once, mixed, combined, upper_times, lower_times, is_upper, is_lower, lacks, pairs_of, eliminated, second_half, second_entry, second_entries, halves, opened, first_stage, next, next_at, stage, least_atom, no_parts, is_false, has_false}
use Rattle.linear_certs.specs.Points.{HoldsAt, IsValue, IsPartialPoint}
use Rattle.linear_certs.proofs.DerivedLaws.{dot-mixed, bound-mixed}
use Rattle.linear_certs.proofs.LeastLaws.{upper-times-up}
use Rattle.linear_certs.proofs.FractionLaws.{cancel-le, le-between, le-both}
use Rattle.linear_certs.proofs.StageLaws.{after-next}
use Rattle.linear_certs.proofs.Basics.{and-both}

-- Lists that were made of lists.
pub unfilter : {X : Type 0} (p : X → Bool) (Q : X → Type 0) (xs : List X) → All Q (filter p xs) → All (λ x. p x ≡ true → Q x) xs
unfilter p Q [] all = All-nil (λ x. p x ≡ true → Q x)
unfilter p Q (x ∷ xs) all = by_case (p x) refl all (unfilter p Q xs)
  where
    both-ways : (b : Bool) → b ≡ false → b ≡ true → ⊥
    both-ways true h k = cc
    both-ways false h k = cc

    by_case : (b : Bool) → p x ≡ b → All Q (filter p (x ∷ xs)) → (All Q (filter p xs) → All (λ x. p x ≡ true → Q x) xs) → All (λ x. p x ≡ true → Q x) (x ∷ xs)
    by_case true e all rest = let shown : filter p (x ∷ xs) ≡ x ∷ filter p xs = grind (arith, e) in
        let here = subst (All Q) shown all in
        All-cons (λ x. p x ≡ true → Q x) x xs (λ _. All-head Q x (filter p xs) here) (rest (All-tail Q x (filter p xs) here))
    by_case false e all rest = let shown : filter p (x ∷ xs) ≡ filter p xs = grind (arith, e) in
        All-cons (λ x. p x ≡ true → Q x) x xs (λ h. absurd (both-ways (p x) e h)) (rest (subst (All Q) shown all))

pub unmap : {X Y : Type 0} (Q : Y → Type 0) (f : X → Y) (xs : List X) → All Q (map f xs) → All (λ x. Q (f x)) xs
unmap Q f [] all = All-nil (λ x. Q (f x))
unmap Q f (x ∷ xs) all = All-cons (λ x. Q (f x)) x xs (All-head Q (f x) (map f xs) all) (unmap Q f xs (All-tail Q (f x) (map f xs) all))

front : {X : Type 0} (Q : X → Type 0) (xs ys : List X) → All Q (xs ++ ys) → All Q xs × All Q ys
front Q [] ys all = (All-nil Q, all)
front Q (x ∷ xs) ys all = let rest = front Q xs ys (All-tail Q x (xs ++ ys) all) in (All-cons Q x xs (All-head Q x (xs ++ ys) all) rest.0, rest.1)

pub unflat : {X Y : Type 0} (Q : Y → Type 0) (f : X → List Y) (xs : List X) → All Q (flat_map f xs) → All (λ x. All Q (f x)) xs
unflat Q f [] all = All-nil (λ x. All Q (f x))
unflat Q f (x ∷ xs) all = let both = front Q (f x) (flat_map f xs) all in All-cons (λ x. All Q (f x)) x xs both.0 (unflat Q f xs both.1)

-- Of equal rows one is true where the other is.
same-parts : (left right : List Part) → pointwise (λ x y. nat_eq x.0 y.0 && int_eq x.1 y.1) left right ≡ true → left ≡ right
same-parts [] [] h = refl
same-parts [] (y ∷ ys) h = absurd cc
same-parts (x ∷ xs) [] h = absurd cc
same-parts (x ∷ xs) (y ∷ ys) h = let both = and-both (nat_eq x.0 y.0 && int_eq x.1 y.1) (pointwise (λ x y. nat_eq x.0 y.0 && int_eq x.1 y.1) xs ys) h in
    let one = and-both (nat_eq x.0 y.0) (int_eq x.1 y.1) both.0 in
    let first : x.0 ≡ y.0 = grind (arith, one.0) in
    let second : x.1 ≡ y.1 = int_eq-true x.1 y.1 one.1 in
    ap (λ p. p ∷ xs) (pair x y first second) ∙ ap (λ l. y ∷ l) (same-parts xs ys both.1)
  where
    pair : (x y : Part) → x.0 ≡ y.0 → x.1 ≡ y.1 → x ≡ y
    pair (a, c) (b, d) e f = cc

    int_eq-true : (a b : ℤ) → int_eq a b ≡ true → a ≡ b
    int_eq-true a b h = grind (arith, ints, h)

same-holds : (point : ℕ → ℤ) (den : ℤ) (left right : Entry) → same_row left.row right.row ≡ true → HoldsAt point den left → HoldsAt point den right
same-holds point den left right same holds = let both = and-both (int_eq left.row.bound right.row.bound) (pointwise (λ x y. nat_eq x.0 y.0 && int_eq x.1 y.1) left.row.parts right.row.parts) same in
    let parts = same-parts left.row.parts right.row.parts both.1 in
    let bound : left.row.bound ≡ right.row.bound = grind (arith, ints, both.0) in
    subst (λ b. dot point right.row.parts ≤ℤ (b *ℤ den)) bound (subst (λ p. dot point p ≤ℤ (left.row.bound *ℤ den)) parts holds)

held : (point : ℕ → ℤ) (den : ℤ) (kept : List Entry) (x : Entry) → has_row kept x.row ≡ true → All (HoldsAt point den) kept → HoldsAt point den x
held point den [] x has all = absurd cc
held point den (e ∷ es) x has all = by_or (same_row e.row x.row) (has_row es x.row) has
    (λ same. same-holds point den e x same (All-head (HoldsAt point den) e es all))
    (λ more. held point den es x more (All-tail (HoldsAt point den) e es all))
  where
    by_or : {P : Type 0} (a b : Bool) → (a || b) ≡ true → (a ≡ true → P) → (b ≡ true → P) → P
    by_or true b h one two = one refl
    by_or false b h one two = two h

-- Where the rows that were kept are true, all are.
pub unkept : (point : ℕ → ℤ) (den : ℤ) (kept xs : List Entry) → All (HoldsAt point den) (kept_once kept xs) → All (HoldsAt point den) kept × All (HoldsAt point den) xs
unkept point den kept [] all = (all, All-nil (HoldsAt point den))
unkept point den kept (x ∷ xs) all = by_case (has_row kept x.row) refl (unkept point den (if has_row kept x.row then kept else kept ++ x ∷ []) xs all)
  where
    by_case : (b : Bool) → has_row kept x.row ≡ b → All (HoldsAt point den) (if b then kept else kept ++ x ∷ []) × All (HoldsAt point den) xs → All (HoldsAt point den) kept × All (HoldsAt point den) (x ∷ xs)
    by_case true e both = (both.0, All-cons (HoldsAt point den) x xs (held point den kept x e both.0) both.1)
    by_case false e both = let parts = front (HoldsAt point den) kept (x ∷ []) both.0 in
        (parts.0, All-cons (HoldsAt point den) x xs (All-head (HoldsAt point den) x [] parts.1) both.1)

-- What the sum of a pair says of its upper row, where its lower row is an equation.
apart : (au bl tot : ℤ) (bu : ℤ) → (au +ℤ bl) ≤ℤ tot → tot ≡ bu +ℤ bl → au ≤ℤ bu
apart au bl tot bu h e = omega (arith, ints)

upper-holds : (point : ℕ → ℤ) (den a b : ℤ) (upper lower : Row) → pos 0 <ℤ a → dot point lower.parts ≡ lower.bound *ℤ den
    → dot point (mixed a upper b lower).parts ≤ℤ ((mixed a upper b lower).bound *ℤ den) → dot point upper.parts ≤ℤ (upper.bound *ℤ den)
upper-holds point den a b upper lower up tight holds = cancel-le a (dot point upper.parts) (upper.bound *ℤ den) up
    (apart (a *ℤ dot point upper.parts) (b *ℤ (lower.bound *ℤ den)) ((mixed a upper b lower).bound *ℤ den) (a *ℤ (upper.bound *ℤ den))
    (subst (λ z. z ≤ℤ ((mixed a upper b lower).bound *ℤ den)) (dot-mixed point a b upper lower ∙ ap (λ z. a *ℤ dot point upper.parts +ℤ b *ℤ z) tight) holds)
    (ap (λ z. z *ℤ den) (bound-mixed a b upper lower) ∙ dist (a *ℤ upper.bound) (b *ℤ lower.bound) den ∙ ap (λ z. z +ℤ (b *ℤ lower.bound) *ℤ den) (assoc a upper.bound den) ∙ ap (λ z. a *ℤ (upper.bound *ℤ den) +ℤ z) (assoc b lower.bound den)))

-- The rows of a stage are true where the rows of the next one are, and the atom has its value.
by_sign : {R : Type 0} (c : ℤ) → (is_zero c ≡ true → R) → (is_positive c ≡ true → R) → (is_negative c ≡ true → R) → R
by_sign (pos zero) one two three = one refl
by_sign (pos (suc n)) one two three = two refl
by_sign (negsuc n) one two three = three refl

not-both : (b : Bool) → b ≡ false → b ≡ true → ⊥
not-both true h k = cc
not-both false h k = cc

pub stage-back : (point : ℕ → ℤ) (den : ℤ) (atom : ℕ) (entries : List Entry) → IsValue point den atom entries → All (HoldsAt point den) (eliminated atom entries) → All (HoldsAt point den) entries
stage-back point den atom entries value all = λ k d h. each (get_or entries k d) (k, h, get_or-default entries k d h)
  where
    whole : All (HoldsAt point den) (filter (lacks atom) entries) × All (HoldsAt point den) (flat_map (pairs_of atom entries) (filter (is_upper atom) entries))
    whole = front (HoldsAt point den) (filter (lacks atom) entries) (flat_map (pairs_of atom entries) (filter (is_upper atom) entries)) (unkept point den [] _ all).1

    pairs : (upper lower : Entry) → Contains entries upper → Contains entries lower → is_upper atom upper ≡ true → is_lower atom lower ≡ true → HoldsAt point den (combined atom upper lower)
    pairs upper lower up_in low_in above below =
        let one : All (HoldsAt point den) (pairs_of atom entries upper) = All-contains (λ u. is_upper atom u ≡ true → All (HoldsAt point den) (pairs_of atom entries u)) entries upper
        (unfilter (is_upper atom) (λ u. All (HoldsAt point den) (pairs_of atom entries u)) entries (unflat (HoldsAt point den) (pairs_of atom entries) (filter (is_upper atom) entries) whole.1)) up_in above in
        All-contains (λ l. is_lower atom l ≡ true → HoldsAt point den (combined atom upper l)) entries lower
        (unfilter (is_lower atom) (λ l. HoldsAt point den (combined atom upper l)) entries (unmap (HoldsAt point den) (combined atom upper) (filter (is_lower atom) entries) one)) low_in below

    above-holds : (upper : Entry) → Contains entries upper → is_upper atom upper ≡ true → HoldsAt point den upper
    above-holds upper up_in above = elim value [
      | inl lower ↦ upper-holds point den (upper_times atom upper lower.one.0) (lower_times atom upper lower.one.0) upper.row lower.one.0.row
          (upper-times-up atom upper lower.one.0 above lower.one.1.1) lower.one.1.2
          (pairs upper lower.one.0 up_in lower.one.1.0 above lower.one.1.1)
      | inr none ↦ elim none.1 [
        | inl reached ↦ All-contains (λ e. is_upper atom e ≡ true → HoldsAt point den e) entries upper reached.all up_in above
        | inr free ↦ absurd (not-both (is_upper atom upper) (All-contains (λ e. is_upper atom e ≡ false) entries upper free.0 up_in) above)
      ]
    ]

    below-holds : (lower : Entry) → Contains entries lower → is_lower atom lower ≡ true → HoldsAt point den lower
    below-holds lower low_in below = elim value [
      | inl reached ↦ All-contains (λ e. is_lower atom e ≡ true → HoldsAt point den e) entries lower reached.all low_in below
      | inr none ↦ absurd (not-both (is_lower atom lower) (All-contains (λ e. is_lower atom e ≡ false) entries lower none.0 low_in) below)
    ]

    each : (e : Entry) → Contains entries e → HoldsAt point den e
    each e e_in = by_sign (coefficient atom e.row.parts)
        (λ zero_is. All-contains (λ e. lacks atom e ≡ true → HoldsAt point den e) entries e (unfilter (lacks atom) (HoldsAt point den) entries whole.0) e_in zero_is)
        (λ above. above-holds e e_in above)
        (λ below. below-holds e e_in below)

    get_or-default : (xs : List Entry) (k : ℕ) (d : Entry) → k < length xs → get_or xs k (get_or xs k d) ≡ get_or xs k d
    get_or-default [] k d h = absurd (omega arith)
    get_or-default (x ∷ xs) zero d h = refl
    get_or-default (x ∷ xs) (suc k) d h = get_or-default xs k d (omega arith)

no-parts-at : (parts : List Part) → first_atom parts ≡ None → parts ≡ []
no-parts-at [] h = refl
no-parts-at (x ∷ xs) h = absurd cc

no-atoms : (a b : Option ℕ) → smaller a b ≡ None → (a ≡ None) × (b ≡ None)
no-atoms None b h = (refl, h)
no-atoms (Some a) None h = absurd cc
no-atoms (Some a) (Some b) h = absurd cc

not-negative : (b den : ℤ) → is_negative b ≡ false → pos 0 <ℤ den → pos 0 ≤ℤ (b *ℤ den)
not-negative (pos b) (pos d) h up = subst (λ z. pos 0 ≤ℤ z) (sym (pos-*ℤ-pos b d)) (omega (arith, ints))
not-negative (pos b) (negsuc d) h up = absurd (omega (arith, ints))
not-negative (negsuc b) den h up = absurd cc

or-none : (a b : Bool) → (a || b) ≡ false → (a ≡ false) × (b ≡ false)
or-none true b h = absurd cc
or-none false b h = (refl, h)

constant-holds : (point : ℕ → ℤ) (den : ℤ) (e : Entry) → pos 0 <ℤ den → e.row.parts ≡ [] → is_false e ≡ false → HoldsAt point den e
constant-holds point den e up none h = subst (λ parts. dot point parts ≤ℤ (e.row.bound *ℤ den)) (sym none)
    (not-negative e.row.bound den (sym (ap (λ parts. no_parts parts && is_negative e.row.bound) none) ∙ h) up)

-- The rows of a stage without atoms.
last-holds : (point : ℕ → ℤ) (den : ℤ) (entries : List Entry) → pos 0 <ℤ den → least_atom entries ≡ None → has_false entries ≡ false → All (HoldsAt point den) entries
last-holds point den [] up none h = All-nil (HoldsAt point den)
last-holds point den (e ∷ es) up none h = let both = no-atoms (first_atom e.row.parts) (least_atom es) none in
    let parts = or-none (is_false e) (has_false es) h in
    All-cons (HoldsAt point den) e es (constant-holds point den e up (no-parts-at e.row.parts both.0) parts.0) (last-holds point den es up both.1 parts.1)

one-back : (point : ℕ → ℤ) (den : ℤ) (entries : List Entry) → ((atom : ℕ) → least_atom entries ≡ Some atom → IsValue point den atom entries) → All (HoldsAt point den) (next entries) → All (HoldsAt point den) entries
one-back point den entries value all = by_least (least_atom entries) refl all
  where
    by_least : (o : Option ℕ) → least_atom entries ≡ o → All (HoldsAt point den) (next_at o entries) → All (HoldsAt point den) entries
    by_least None e all = all
    by_least (Some atom) e all = stage-back point den atom entries (value atom e) all

all-back : (point : ℕ → ℤ) (den : ℤ) (rows : List Row) (m : ℕ) → ((k atom : ℕ) → least_atom (stage rows k) ≡ Some atom → IsValue point den atom (stage rows k)) → All (HoldsAt point den) (stage rows m) → All (HoldsAt point den) (first_stage rows)
all-back point den rows zero values all = all
all-back point den rows (suc m) values all = all-back point den rows m values
    (one-back point den (stage rows m) (values m) (subst (All (HoldsAt point den)) (after-next m (first_stage rows)) all))

one-times : (z : ℤ) → pos 1 *ℤ z ≡ z
one-times z = *ℤ_comm (pos 1) z ∙ times-one z

minus-one : (z : ℤ) → negsuc 0 *ℤ z +ℤ z ≡ pos 0
minus-one z = ap (λ w. negsuc 0 *ℤ z +ℤ w) (sym (one-times z)) ∙ sym (dist (negsuc 0) (pos 1) z) ∙ zero-*ℤ z

turned : (mx x my y : ℤ) → mx +ℤ x ≡ pos 0 → my +ℤ y ≡ pos 0 → mx ≤ℤ my → y ≤ℤ x
turned mx x my y e f h = omega (arith, ints)

zero-plus : (z : ℤ) → pos 0 +ℤ z ≡ z
zero-plus z = omega (arith, ints)

-- An equality is true where both of its halves are.
other-half : (point : ℕ → ℤ) (den : ℤ) (row : Row) → dot point (second_half row).parts ≤ℤ ((second_half row).bound *ℤ den) → (row.bound *ℤ den) ≤ℤ dot point row.parts
other-half point den row holds = turned (negsuc 0 *ℤ dot point row.parts) (dot point row.parts) (negsuc 0 *ℤ (row.bound *ℤ den)) (row.bound *ℤ den) (minus-one (dot point row.parts)) (minus-one (row.bound *ℤ den))
    (le-between (negsuc 0 *ℤ dot point row.parts) (dot point (second_half row).parts) ((second_half row).bound *ℤ den) (negsuc 0 *ℤ (row.bound *ℤ den))
    (sym (dot-sums point (negsuc 0) [] row.parts ∙ zero-plus (negsuc 0 *ℤ dot point row.parts))) holds
    (ap (λ z. z *ℤ den) (zero-plus (negsuc 0 *ℤ row.bound)) ∙ assoc (negsuc 0) row.bound den))

row-holds : (point : ℕ → ℤ) (den : ℤ) (count number : ℕ) (row : Row) → All (HoldsAt point den) (halves count number row) → Holds point den row
row-holds point den count number row all = record {
  below = All-head (HoldsAt point den) _ (second_entries count number row) all;
  tight = λ equal. le-both (dot point row.parts) (row.bound *ℤ den) (All-head (HoldsAt point den) _ (second_entries count number row) all)
      (other-half point den row (All-head (HoldsAt point den) (second_entry count number row) []
      (subst (λ b. All (HoldsAt point den) (if b then second_entry count number row ∷ [] else [])) equal (All-tail (HoldsAt point den) _ (second_entries count number row) all))));
}

rows-hold : (point : ℕ → ℤ) (den : ℤ) (count number : ℕ) (rows : List Row) → All (HoldsAt point den) (opened count number rows) → All (Holds point den) rows
rows-hold point den count number [] all = All-nil (Holds point den)
rows-hold point den count number (row ∷ rows) all = let both = front (HoldsAt point den) (halves count number row) (opened count (suc number) rows) all in
    All-cons (Holds point den) row rows (row-holds point den count number row both.0) (rows-hold point den count (suc number) rows both.1)

-- The point of all stages satisfies the rows.
pub point-satisfies : (rows : List Row) (m : ℕ) (point : ℕ → ℤ) (den : ℤ) → IsPartialPoint rows 0 point den → least_atom (stage rows m) ≡ None → has_false (stage rows m) ≡ false → All (Holds point den) rows
point-satisfies rows m point den whole none not_false = rows-hold point den (length rows) 0 rows
    (unkept point den [] (opened (length rows) 0 rows) (all-back point den rows m (λ k atom h. whole.values k atom (omega arith) h) (last-holds point den (stage rows m) whole.positive none not_false))).1
