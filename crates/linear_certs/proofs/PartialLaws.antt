-- The point, atom by atom.
use Rattle.std.proofs.Common.{◌≡◌, ◌∙◌, ◌<◌, ◌≤◌, ℕ, ◌+◌, ◌-◌, ℤ, pos, negsuc, ◌+ℤ◌, ◌*ℤ◌, ◌≤ℤ◌, ◌<ℤ◌, List, [], ◌∷◌, ap, sym, refl, arith, subst, Bool, true, false, suc, zero, length, get_or, Option, Some, None, inl, inr}
use Rattle.std.specs.List.{All}
use Rattle.std.specs.Int.{◌∣◌}
use Rattle.std.proofs.lemmas.Int.{ints}
use Rattle.std.proofs.lemmas.List.Elements.{All-cons, All-nil, All-head, All-tail, All-contains}
use Rattle.std.proofs.Math.IntN.{*ℤ_comm, zero-*ℤ, pos-*ℤ-pos}
use Rattle.std.proofs.Math.Nat.{one-dvd}
use Rattle.std.proofs.lemmas.Nat.Gcd.{dvd_antisymm}
use Rattle.linear_rows.specs.declared.row.Row.{Row}
use Rattle.linear_rows.specs.Sums.{Part, From, dot}
use Rattle.linear_rows.proofs.Ring.{dist, assoc, mul-le}
use Rattle.linear_certs.specs.declared.entry.Entry.{Entry}
use Rattle.linear_certs.specs.declared.elimination.Stage.{Stage}
use Rattle.linear_certs.specs.declared.elimination.Elimination.{Elimination}
use Rattle.linear_certs.specs.Stages.{upper_times, lower_times, is_upper, is_lower, next, next_at, after, stage, first_stage, least_atom, has_false}
use Rattle.linear_certs.specs.Points.{HoldsAt, IsTight, IsReached, IsValue, IsPartialPoint}
use Rattle.linear_certs.specs.Code.Limits.{IsNextPoint}
use Rattle.linear_certs.specs.Code.Building.{IsStageAt, AreStages, IsEliminated}
use Rattle.linear_certs.proofs.FractionLaws.{le-between, at-most}
use Rattle.linear_certs.proofs.DerivedLaws.{mixed-in-form}
use Rattle.linear_certs.proofs.LeastLaws.{AtLeast, least-from, from-least, eliminated-All, eliminated-from}
use Rattle.linear_certs.proofs.StageLaws.{stage-next}
use Rattle.linear_certs.proofs.EliminationLaws.{good-forms}

-- ---- another denominator

dot-times : (old new : ℕ → ℤ) (t : ℤ) (low : ℕ) (parts : List Part) → From low parts → ((a : ℕ) → low ≤ a → new a ≡ old a *ℤ t) → dot new parts ≡ dot old parts *ℤ t
dot-times old new t low [] from law = sym (zero-*ℤ t)
dot-times old new t low (x ∷ xs) from law = let first = from.0 in
    ap (λ z. x.1 *ℤ z +ℤ dot new xs) (law x.0 first) ∙ ap (λ z. z +ℤ dot new xs) (sym (assoc x.1 (old x.0) t))
    ∙ ap (λ z. (x.1 *ℤ old x.0) *ℤ t +ℤ z) (dot-times old new t (suc x.0) xs from.2 (λ a h. law a (omega arith)))
    ∙ sym (dist (x.1 *ℤ old x.0) (dot old xs) t)

bound-times : (b over t new_over : ℤ) → new_over ≡ over *ℤ t → (b *ℤ over) *ℤ t ≡ b *ℤ new_over
bound-times b over t new_over e = assoc b over t ∙ ap (λ z. b *ℤ z) (sym e)

up-right : (x y t : ℤ) → pos 0 <ℤ t → x ≤ℤ y → (x *ℤ t) ≤ℤ (y *ℤ t)
up-right x y t up h = le-between (x *ℤ t) (t *ℤ x) (t *ℤ y) (y *ℤ t) (*ℤ_comm x t) (mul-le t x y (at-most (pos 0) t up) h) (*ℤ_comm t y)

holds-times : (old new : ℕ → ℤ) (t over new_over : ℤ) (low : ℕ) (e : Entry) → pos 0 <ℤ t → new_over ≡ over *ℤ t → ((a : ℕ) → low ≤ a → new a ≡ old a *ℤ t) → From low e.row.parts → HoldsAt old over e → HoldsAt new new_over e
holds-times old new t over new_over low e up is law from holds = le-between (dot new e.row.parts) (dot old e.row.parts *ℤ t) ((e.row.bound *ℤ over) *ℤ t) (e.row.bound *ℤ new_over)
    (dot-times old new t low e.row.parts from law) (up-right (dot old e.row.parts) (e.row.bound *ℤ over) t up holds) (bound-times e.row.bound over t new_over is)

tight-times : (old new : ℕ → ℤ) (t over new_over : ℤ) (low : ℕ) (e : Entry) → new_over ≡ over *ℤ t → ((a : ℕ) → low ≤ a → new a ≡ old a *ℤ t) → From low e.row.parts → IsTight old over e → IsTight new new_over e
tight-times old new t over new_over low e is law from tight = dot-times old new t low e.row.parts from law ∙ ap (λ z. z *ℤ t) tight ∙ bound-times e.row.bound over t new_over is

reached-times : (side : Entry → Bool) (old new : ℕ → ℤ) (t over new_over : ℤ) (low : ℕ) (entries : List Entry) → pos 0 <ℤ t → new_over ≡ over *ℤ t → ((a : ℕ) → low ≤ a → new a ≡ old a *ℤ t)
    → All (λ e. From low e.row.parts) entries → IsReached side old over entries → IsReached side new new_over entries
reached-times side old new t over new_over low entries up is law from reached = record {
  all = each entries from reached.all;
  one = (reached.one.0, (reached.one.1.0, reached.one.1.1, tight-times old new t over new_over low reached.one.0 is law (All-contains (λ e. From low e.row.parts) entries reached.one.0 from reached.one.1.0) reached.one.1.2));
}
  where
    each : (xs : List Entry) → All (λ e. From low e.row.parts) xs → All (λ e. side e ≡ true → HoldsAt old over e) xs → All (λ e. side e ≡ true → HoldsAt new new_over e) xs
    each [] from all = All-nil (λ e. side e ≡ true → HoldsAt new new_over e)
    each (x ∷ xs) from all = All-cons (λ e. side e ≡ true → HoldsAt new new_over e) x xs
        (λ on. holds-times old new t over new_over low x up is law (All-head (λ e. From low e.row.parts) x xs from) (All-head (λ e. side e ≡ true → HoldsAt old over e) x xs all on))
        (each xs (All-tail (λ e. From low e.row.parts) x xs from) (All-tail (λ e. side e ≡ true → HoldsAt old over e) x xs all))

value-times : (old new : ℕ → ℤ) (t over new_over : ℤ) (low atom : ℕ) (entries : List Entry) → pos 0 <ℤ t → new_over ≡ over *ℤ t → ((a : ℕ) → low ≤ a → new a ≡ old a *ℤ t) → low ≤ atom
    → All (λ e. From low e.row.parts) entries → IsValue old over atom entries → IsValue new new_over atom entries
value-times old new t over new_over low atom entries up is law h from (inl lower) = inl (reached-times (is_lower atom) old new t over new_over low entries up is law from lower)
value-times old new t over new_over low atom entries up is law h from (inr (none, inl upper)) = inr (none, inl (reached-times (is_upper atom) old new t over new_over low entries up is law from upper))
value-times old new t over new_over low atom entries up is law h from (inr (none, inr (no_upper, zero_is))) = inr (none, inr (no_upper, law atom h ∙ ap (λ z. z *ℤ t) zero_is ∙ zero-*ℤ t))

-- ---- the stages behind one

next-from : (low : ℕ) (entries : List Entry) → All (λ e. From low e.row.parts) entries → All (λ e. From low e.row.parts) (next entries)
next-from low entries all = at (least_atom entries)
  where
    at : (o : Option ℕ) → All (λ e. From low e.row.parts) (next_at o entries)
    at None = all
    at (Some atom) = eliminated-All (λ e. From low e.row.parts) (λ e. From low e.row.parts) atom entries all (λ e h lack. h)
        (λ upper lower one two above below. mixed-in-form low (upper_times atom upper lower) (lower_times atom upper lower) upper.row lower.row one two)

after-from : (low k : ℕ) (entries : List Entry) → All (λ e. From low e.row.parts) entries → All (λ e. From low e.row.parts) (after k entries)
after-from low zero entries all = all
after-from low (suc k) entries all = after-from low k (next entries) (next-from low entries all)

after-more : (j k : ℕ) (entries : List Entry) → after j (after k entries) ≡ after (k + j) entries
after-more j zero entries = let e : j ≡ 0 + j = omega arith in ap (λ n. after n entries) e
after-more j (suc k) entries = after-more j k (next entries) ∙ same (k + j) (suc k + j) (one-more k j)
  where
    same : (m n : ℕ) → n ≡ suc m → after m (next entries) ≡ after n entries
    same m n e = ap (λ i. after i entries) (sym e)

    one-more : (k j : ℕ) → suc k + j ≡ suc (k + j)
    one-more k j = omega arith

by_le : (k n : ℕ) → k ≤ n → (j : ℕ) × (n ≡ k + j)
by_le zero n h = (n, omega arith)
by_le (suc k) zero h = absurd (omega arith)
by_le (suc k) (suc n) h = let rest = by_le k n (omega arith) in (rest.0, more n k rest.0 rest.1)
  where
    more : (n k j : ℕ) → n ≡ k + j → suc n ≡ suc k + j
    more n k j e = omega arith

-- The rows of later stages are from the same atom on.
later-from : (rows : List Row) (low k n : ℕ) → k ≤ n → All (λ e. From low e.row.parts) (stage rows k) → All (λ e. From low e.row.parts) (stage rows n)
later-from rows low k n h all = let split = by_le k n h in
    subst (λ m. All (λ e. From low e.row.parts) (stage rows m)) (sym split.1) (subst (All (λ e. From low e.row.parts)) (after-more split.0 k (first_stage rows)) (after-from low split.0 (stage rows k) all))

behind-from : (rows : List Row) (k n : ℕ) (built : Stage) → IsStageAt rows k built → suc k ≤ n → All (λ e. From (suc built.atom) e.row.parts) (stage rows n)
behind-from rows k n built at h = later-from rows (suc built.atom) (suc k) n h
    (subst (All (λ e. From (suc built.atom) e.row.parts)) (sym (stage-next rows built.atom built.entries k at.is at.least))
    (eliminated-from built.atom built.entries (least-from built.atom built.entries (good-forms rows built.entries at.good) at.least)))

behind-least : (rows : List Row) (k n atom : ℕ) (built : Stage) → IsStageAt rows k built → suc k ≤ n → least_atom (stage rows n) ≡ Some atom → suc built.atom ≤ atom
behind-least rows k n atom built at h least = subst (AtLeast (suc built.atom)) least (from-least (suc built.atom) (stage rows n) (behind-from rows k n built at h))

some-same : (a b : ℕ) → Some a ≡ Some b → a ≡ b
some-same a b e = cc

not-itself : (a : ℕ) → suc a ≤ a → ⊥
not-itself a h = omega arith

-- Before a stage gives its atom a value, that is 0.
pub still-zero : (rows : List Row) (k : ℕ) (built : Stage) (point : ℕ → ℤ) (over : ℤ) → IsStageAt rows k built → IsPartialPoint rows (suc k) point over → point built.atom ≡ pos 0
still-zero rows k built point over at part = part.others built.atom (λ n h least. not-itself built.atom (behind-least rows k n built.atom built at h least))

apart-from : (a atom : ℕ) → suc atom ≤ a → a ≡ atom → ⊥
apart-from a atom h e = omega arith

product-up : (x t : ℤ) → pos 0 <ℤ x → pos 0 <ℤ t → pos 0 <ℤ (x *ℤ t)
product-up (pos zero) t h k = absurd (omega (arith, ints))
product-up (negsuc m) t h k = absurd (omega (arith, ints))
product-up (pos (suc m)) (pos zero) h k = absurd (omega (arith, ints))
product-up (pos (suc m)) (negsuc n) h k = absurd (omega (arith, ints))
product-up (pos (suc m)) (pos (suc n)) h k = subst (λ z. pos 0 <ℤ z) (sym (pos-*ℤ-pos (suc m) (suc n))) (omega (arith, ints))

by_order : {R : Type 0} (k n : ℕ) → k ≤ n → (n ≡ k → R) → (suc k ≤ n → R) → R
by_order zero zero h one two = one refl
by_order zero (suc n) h one two = two (omega arith)
by_order (suc k) zero h one two = absurd (omega arith)
by_order (suc k) (suc n) h one two = by_order k n (omega arith) (λ e. one (ap suc e)) (λ m. two (omega arith))

-- With the value of one atom more.
pub partial-next : (rows : List Row) (k : ℕ) (built : Stage) (point : ℕ → ℤ) (over : ℤ) (new : ℕ → ℤ) (new_over : ℤ) → IsStageAt rows k built → IsPartialPoint rows (suc k) point over
    → IsNextPoint built.atom built.entries point over new new_over → IsPartialPoint rows k new new_over
partial-next rows k built point over new new_over at part step = record {
  positive = subst (λ z. pos 0 <ℤ z) (sym step.den) (product-up over step.times part.positive step.up);
  values = λ n atom h least. by_order k n h
      (λ same. let here : built.atom ≡ atom = some-same built.atom atom (sym at.least ∙ ap least_atom (sym at.is ∙ ap (stage rows) (sym same)) ∙ least) in
      subst (IsValue new new_over atom) (sym at.is ∙ ap (stage rows) (sym same)) (subst (λ a. IsValue new new_over a built.entries) here step.value))
      (λ later. value-times point new step.times over new_over (suc built.atom) atom (stage rows n) step.up step.den
      (λ a more. step.others a (apart-from a built.atom more)) (behind-least rows k n atom built at later least) (behind-from rows k n built at later) (part.values n atom later least));
  others = λ atom none. step.others atom (λ same. none k (omega arith) (ap least_atom at.is ∙ at.least ∙ ap Some (sym same)))
      ∙ ap (λ z. z *ℤ step.times) (part.others atom (λ n h least. none n (omega arith) least)) ∙ zero-*ℤ step.times;
  lowest = step.lowest;
}

-- ---- the last stage

stays : (j : ℕ) (entries : List Entry) → least_atom entries ≡ None → after j entries ≡ entries
stays zero entries none = refl
stays (suc j) entries none = ap (after j) (ap (λ o. next_at o entries) none) ∙ stays j entries none

pub last-stays : (rows : List Row) (m n : ℕ) (last : List Entry) → stage rows m ≡ last → least_atom last ≡ None → m ≤ n → stage rows n ≡ last
last-stays rows m n last is none h = let split = by_le m n h in
    ap (stage rows) split.1 ∙ sym (after-more split.0 m (first_stage rows)) ∙ ap (after split.0) is ∙ stays split.0 last none

no-atom : (a : ℕ) → None ≡ Some a → ⊥
no-atom a e = cc

one-divides : (d : ℕ) → d ∣ 1 → d ≡ 1
one-divides d h = dvd_antisymm h (one-dvd d)

-- Before any atom has a value.
pub partial-first : (rows : List Row) (m : ℕ) (last : List Entry) (point : ℕ → ℤ) → stage rows m ≡ last → least_atom last ≡ None → ((a : ℕ) → point a ≡ pos 0) → IsPartialPoint rows m point (pos 1)
partial-first rows m last point is none zeros = record {
  positive = omega (arith, ints);
  values = λ n atom h least. absurd (no-atom atom (sym none ∙ ap least_atom (sym (last-stays rows m n last is none h)) ∙ least));
  others = λ atom no. zeros atom;
  lowest = λ d h all. one-divides d h;
}

-- No stage has a constant false row.
pub none-false : (rows : List Row) (whole : Elimination) → IsEliminated rows whole → (k : ℕ) → has_false (stage rows k) ≡ false
none-false rows whole done k = by_less k (length whole.stages) (λ h. done.none_false k h)
    (λ h. ap has_false (last-stays rows (length whole.stages) k whole.last done.last done.none (omega arith) ∙ sym done.last) ∙ done.none_false (length whole.stages) (omega arith))
  where
    by_less : {R : Type 0} (a b : ℕ) → (a ≤ b → R) → (b < a → R) → R
    by_less zero b one two = one (omega arith)
    by_less (suc a) zero one two = two (omega arith)
    by_less (suc a) (suc b) one two = by_less a b (λ h. one (omega arith)) (λ h. two (omega arith))

-- The stage of a number that was built.
pub stage-at : (rows : List Row) (from i : ℕ) (stages : List Stage) (built : Stage) → AreStages rows from stages → i < length stages → built ≡ get_or stages i built → IsStageAt rows (from + i) built
stage-at rows from i [] built are h is = absurd (omega arith)
stage-at rows from zero (s ∷ ss) built are h is = subst (λ n. IsStageAt rows n built) (omega arith) (subst (IsStageAt rows from) (sym is) are.0)
stage-at rows from (suc i) (s ∷ ss) built are h is = subst (λ n. IsStageAt rows n built) (omega arith) (stage-at rows (suc from) i ss built are.1 (omega arith) is)

-- The stage that a count down comes to.
pub stage-left : (rows : List Row) (whole : Elimination) (stages : List Stage) (left : ℕ) (built : Stage) → IsEliminated rows whole → stages ≡ whole.stages → 0 < left → left ≤ length stages → built ≡ get_or stages (left - 1) built → IsStageAt rows (left - 1) built
stage-left rows whole stages left built done same up within is = subst (λ n. IsStageAt rows n built) (zero-plus (left - 1)) (stage-at rows 0 (left - 1) stages built (subst (AreStages rows 0) (sym same) done.stages) (omega arith) is)
  where
    zero-plus : (n : ℕ) → 0 + n ≡ n
    zero-plus n = omega arith

pub part-left : (rows : List Row) (left : ℕ) (point : ℕ → ℤ) (over : ℤ) → 0 < left → IsPartialPoint rows left point over → IsPartialPoint rows (suc (left - 1)) point over
part-left rows left point over up part = subst (λ n. IsPartialPoint rows n point over) (omega arith) part
