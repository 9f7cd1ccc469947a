-- Changes of the walks.
use Rattle.std.proofs.Common.{◌≡◌, ◌≢◌, ◌∙◌, ◌<◌, ℕ, ◌+◌, ◌^◌, ℤ, pos, negsuc, neg_ℤ, ◌≤ℤ◌, ◌<ℤ◌, List, [], ◌∷◌, length, get_or, set, ap, sym, refl, arith, subst, suc, zero}
use Rattle.std.specs.List.{All}
use Rattle.std.proofs.lemmas.Int.{ints}
use Rattle.std.proofs.lemmas.List.{length-set, get_or-set_other}
use Rattle.std.proofs.lemmas.List.Sums.{sum_by-set}
use Rattle.std.proofs.lemmas.List.Elements.{All-get_or, All-cons, All-nil, All-append}
use Rattle.std.proofs.lemmas.Grind.{get_or-set_at}
use Rattle.diff_certs.specs.declared.row.DiffRow.{DiffRow}
use Rattle.diff_certs.specs.declared.walk.Reached.{Reached}
use Rattle.diff_certs.specs.Rows.{IsInside}
use Rattle.diff_certs.specs.Code.Walks.{IsReached}
use Rattle.diff_certs.specs.Code.Distances.{AreReached, distance_at, height, weight, IsStart, IsEmpty}
use Rattle.diff_certs.proofs.WalkLaws.{right-below, left-below, inside-at, reached-bounds, reached-start}

pub distance-is : (nodes : List Reached) (v : ℕ) (d : Reached) → v < length nodes → (get_or nodes v d).distance ≡ distance_at nodes v
distance-is [] v d h = absurd (omega arith)
distance-is (r ∷ rs) zero d h = refl
distance-is (r ∷ rs) (suc v) d h = distance-is rs v d (omega arith)

pub height-less : (d e : ℤ) → neg_ℤ (pos (2 ^ 46)) ≤ℤ d → d <ℤ e → height d < height e
height-less (pos a) (pos b) low h = omega (arith, ints)
height-less (pos a) (negsuc b) low h = omega (arith, ints)
height-less (negsuc a) (pos b) low h = omega (arith, ints)
height-less (negsuc a) (negsuc b) low h = omega (arith, ints)

by_nat_eq : {P : Type 0} (a b : ℕ) → (a ≡ b → P) → (a ≢ b → P) → P
by_nat_eq zero zero one two = one refl
by_nat_eq zero (suc b) one two = two (λ e. omega arith)
by_nat_eq (suc a) zero one two = two (λ e. omega arith)
by_nat_eq (suc a) (suc b) one two = by_nat_eq a b (λ e. one (ap suc e)) (λ n. two (λ e. n (omega arith)))

pub put-known : (rows : List DiffRow) (nodes : List Reached) (v : ℕ) (r : Reached) → AreReached rows nodes → v < 65 → IsReached rows v r.distance r.walk.items → AreReached rows (set nodes v r)
put-known rows nodes v r known v_in new = record {
  count = length-set nodes v r ∙ known.count;
  each = λ w d w_in. by_nat_eq w v
      (λ same. let at : get_or (set nodes v r) w d ≡ r = let count = known.count in get_or-set_at nodes v w r d same (omega arith) in
      subst (λ x. IsReached rows w x.distance x.walk.items) (sym at) (subst (λ n. IsReached rows n r.distance r.walk.items) (sym same) new))
      (λ other. let at : get_or (set nodes v r) w d ≡ get_or nodes w d = get_or-set_other nodes v w r d other in
      subst (λ x. IsReached rows w x.distance x.walk.items) (sym at) (known.each w d w_in));
}

pub put-less : (rows : List DiffRow) (nodes : List Reached) (v : ℕ) (r : Reached) → All IsInside rows → AreReached rows nodes → v < 65 → IsReached rows v r.distance r.walk.items
    → r.distance <ℤ distance_at nodes v → weight (set nodes v r) < weight nodes
put-less rows nodes v r inside known v_in new less =
    let count = known.count in
    let v_len : v < length nodes = omega arith in
    let bounds = reached-bounds rows v r.distance r.walk.items inside v_in new in
    let same = distance-is nodes v r v_len in
    let less_here : r.distance <ℤ (get_or nodes v r).distance = subst (λ e. r.distance <ℤ e) (sym same) less in
    let lower = height-less r.distance (get_or nodes v r).distance bounds.0 less_here in
    let sums = sum_by-set (λ x. height x.distance) nodes v r r v_len in
    omega arith

pub distance-bounds : (rows : List DiffRow) (nodes : List Reached) (v : ℕ) → All IsInside rows → AreReached rows nodes → v < 65
    → (neg_ℤ (pos (2 ^ 46)) ≤ℤ distance_at nodes v) × (distance_at nodes v ≤ℤ pos (2 ^ 46))
distance-bounds rows [] v inside known h = absurd (let count = known.count in omega arith)
distance-bounds rows (r ∷ rs) v inside known h =
    let count = known.count in
    let v_len : v < length (r ∷ rs) = omega arith in
    subst (λ d. (neg_ℤ (pos (2 ^ 46)) ≤ℤ d) × (d ≤ℤ pos (2 ^ 46))) (distance-is (r ∷ rs) v r v_len)
    (reached-bounds rows v (get_or (r ∷ rs) v r).distance (get_or (r ∷ rs) v r).walk.items inside h (known.each v r h))

pub ruleset distances = (distance-is, inside-at, right-below, left-below)

pub below-next : (P : ℕ → Type 0) (n : ℕ) → ((k : ℕ) → k < n → P k) → P n → (k : ℕ) → k < n + 1 → P k
below-next P n all here k h = by_nat_eq k n (λ same. subst P (sym same) here) (λ other. all k (omega arith))

pub start-known : (rows : List DiffRow) (nodes : List Reached) → IsStart nodes → AreReached rows nodes
start-known rows nodes start = record {
  count = start.0;
  each = λ v d h.
      let count = start.0 in
      let empty = All-get_or IsEmpty nodes v d (omega arith) start.1 in
      subst (λ e. IsReached rows v e (get_or nodes v d).walk.items) (sym empty.0) (subst (λ w. IsReached rows v (pos 0) w) (sym empty.1) (reached-start rows v));
}

pub ruleset starts = (All-append, All-cons, All-nil)
