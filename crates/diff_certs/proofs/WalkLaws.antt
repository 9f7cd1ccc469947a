-- What chains mean.
use Rattle.std.proofs.Common.{◌≡◌, ◌∙◌, ◌<◌, ◌≤◌, ℕ, ◌+◌, ◌*◌, ◌^◌, ℤ, pos, neg_ℤ, ◌+ℤ◌, ◌≤ℤ◌, ◌<ℤ◌, List, [], ◌∷◌, Option, None, Some, length, get_or, take, drop, take_all, add-one, ap, sym, refl, arith, subst, Bool, true, false, ◌||◌, suc, zero}
use Rattle.std.specs.Prelude.{nat_eq, IfOk, Result, Ok, Err}
use Rattle.std.specs.List.{All, IsDistinct, AllByRecursion, list_any}
use Rattle.std.proofs.lemmas.Int.{ints}
use Rattle.std.proofs.lemmas.List.Elements.{All-get_or, All-head, All-tail, All-cons, All-nil}
use Rattle.std.proofs.lemmas.Map.Keys.{IsDistinct-cons}
use Rattle.std.proofs.lemmas.Map.Steps.{length-le_from_distinct_below}
use Rattle.diff_certs.specs.declared.row.DiffRow.{DiffRow}
use Rattle.diff_certs.specs.Rows.{side, Satisfies, SatisfiesAll, AreRefuted, IsInside, IsName, node, row_at, no_row, left_at, right_at, Chain, total, IsCycle}
use Rattle.diff_certs.specs.declared.walk.Longer.{Longer}
use Rattle.diff_certs.specs.declared.walk.Longer.TheVariants.{Cycle, Walk}
use Rattle.diff_certs.specs.Code.Walks.{IsReached, rights, IsCut, IsLonger}

-- A valuation of sides by their numbers, which gives 0 the value 0.
record Fits (values : ℕ → ℤ) (nodes : ℕ → ℤ) : Type 0 where
  zero_is : nodes 64 ≡ pos 0
  name_is : (n : ℕ) → n < 64 → nodes n ≡ values n

abbrev node_value : (ℕ → ℤ) → ℕ → ℤ
node_value values n = elim (nat_eq n 64) [ true ↦ pos 0 | false ↦ values n ]

node-fits : (values : ℕ → ℤ) → Fits values (node_value values)
node-fits values = record { zero_is = refl; name_is = λ n h. grind (arith) }

side-is : (values nodes : ℕ → ℤ) → Fits values nodes → (s : Option ℕ) → IsName s → nodes (node s) ≡ side values s
side-is values nodes fits None h = fits.zero_is
side-is values nodes fits (Some n) h = fits.name_is n h

-- A chain bounds the difference of its ends.
chain-bounds : (values nodes : ℕ → ℤ) → Fits values nodes → (rows : List DiffRow) → All IsInside rows → SatisfiesAll values rows
    → (ks : List ℕ) (a b : ℕ) → Chain rows a ks b → nodes a ≤ℤ (nodes b +ℤ total rows ks)
chain-bounds values nodes fits rows inside holds [] a b chain = subst (λ n. nodes a ≤ℤ (nodes n +ℤ pos 0)) chain (omega (arith, ints))
chain-bounds values nodes fits rows inside holds (k ∷ ks) a b chain =
    let row = row_at rows k in
    let within : IsInside row = All-get_or IsInside rows k no_row chain.0 inside in
    let true_here : Satisfies values row = All-get_or (Satisfies values) rows k no_row chain.0 holds in
    let later = chain-bounds values nodes fits rows inside holds ks (right_at rows k) b chain.2 in
    let left = side-is values nodes fits row.left within.left in
    let right = side-is values nodes fits row.right within.right in
    let start : nodes (left_at rows k) ≡ nodes a = ap nodes chain.1 in
    omega (arith, ints)

pub cycle-refutes : (rows : List DiffRow) (cycle : List ℕ) → All IsInside rows → IsCycle rows cycle → AreRefuted rows
cycle-refutes rows cycle inside is values holds =
    let bounds = chain-bounds values (node_value values) (node-fits values) rows inside holds cycle is.closed.0 is.closed.0 is.closed.1 in
    let less = is.negative in
    omega (arith, ints)

-- Sides are below 65.
node-below : (s : Option ℕ) → IsName s → node s < 65
node-below None h = omega arith
node-below (Some n) h = omega arith

pub right-below : (rows : List DiffRow) → All IsInside rows → (k : ℕ) → k < length rows → right_at rows k < 65
right-below rows inside k h = node-below _ (All-get_or IsInside rows k no_row h inside).right

pub left-below : (rows : List DiffRow) → All IsInside rows → (k : ℕ) → k < length rows → left_at rows k < 65
left-below rows inside k h = node-below _ (All-get_or IsInside rows k no_row h inside).left

absent : (v : ℕ) (xs : List ℕ) → list_any (nat_eq v) xs ≡ false → AllByRecursion (λ y. nat_eq v y ≡ false) xs
absent v [] h = tt
absent v (x ∷ xs) h = (grind (arith, h), absent v xs (grind (arith, h)))

pub reached-start : (rows : List DiffRow) (v : ℕ) → IsReached rows v (pos 0) []
unfolding IsDistinct
reached-start rows v = record { chain = (v, refl); is = refl; distinct = (tt, tt) }

pub reached-more : (rows : List DiffRow) (v k u : ℕ) (d e : ℤ) (walk : List ℕ) → k < length rows → left_at rows k ≡ v → right_at rows k ≡ u → IsReached rows u d walk
    → list_any (nat_eq v) (rights rows (k ∷ walk)) ≡ false → e ≡ d +ℤ (row_at rows k).bound → IsReached rows v e (k ∷ walk)
reached-more rows v k u d e walk h left right known new is = record {
  chain = (known.chain.0, (h, left, subst (λ n. Chain rows n walk known.chain.0) (sym right) known.chain.1));
  is = let d_is = known.is in omega (arith, ints);
  distinct = IsDistinct-cons nat_eq v (rights rows (k ∷ walk)) (absent v (rights rows (k ∷ walk)) new) (subst (λ n. IsDistinct nat_eq (n ∷ rights rows walk)) (sym right) known.distinct);
}

-- A chain cut behind a place.
pub chain-cut : (rows : List DiffRow) (ks : List ℕ) (p a b : ℕ) → p < length ks → Chain rows a ks b
    → Chain rows a (take (suc p) ks) (right_at rows (get_or ks p 0)) × Chain rows (right_at rows (get_or ks p 0)) (drop (suc p) ks) b
chain-cut rows [] p a b h chain = absurd (omega arith)
chain-cut rows (k ∷ ks) zero a b h chain = ((chain.0, chain.1, refl), chain.2)
chain-cut rows (k ∷ ks) (suc p) a b h chain =
    let rest = chain-cut rows ks p (right_at rows k) b (omega arith) chain.2 in
    ((chain.0, chain.1, rest.0), rest.1)

by_or : {P : Type 0} (a b : Bool) → (a || b) ≡ true → (a ≡ true → P) → (b ≡ true → P) → P
by_or true b h one two = one refl
by_or false b h one two = two h

-- The sides of a walk are below 65.
below : (rows : List DiffRow) → All IsInside rows → (walk : List ℕ) (a b : ℕ) → Chain rows a walk b → (q : ℕ) → list_any (nat_eq q) (rights rows walk) ≡ true → q < 65
below rows inside [] a b chain q h = absurd cc
below rows inside (k ∷ ks) a b chain q h =
    let first = right-below rows inside k chain.0 in
    let rest = below rows inside ks (right_at rows k) b chain.2 q in
    by_or (nat_eq q (right_at rows k)) (list_any (nat_eq q) (rights rows ks)) h (λ same. grind (arith, same, first)) rest

length-rights : (rows : List DiffRow) (walk : List ℕ) → length (rights rows walk) ≡ length walk
length-rights rows [] = refl
length-rights rows (k ∷ ks) = ap suc (length-rights rows ks)

pub reached-short : (rows : List DiffRow) (v : ℕ) (d : ℤ) (walk : List ℕ) → All IsInside rows → v < 65 → IsReached rows v d walk → length walk ≤ 64
reached-short rows v d walk inside v_below known =
    let all_below : (q : ℕ) → list_any (nat_eq q) (v ∷ rights rows walk) ≡ true → q < 65
    = λ q h. by_or (nat_eq q v) (list_any (nat_eq q) (rights rows walk)) h (λ same. grind (arith, same, v_below)) (below rows inside walk v known.chain.0 known.chain.1 q) in
    let most = length-le_from_distinct_below (v ∷ rights rows walk) 65 known.distinct all_below in
    let same = length-rights rows walk in
    omega arith

all-take : {X : Type 0} (P : X → Type 0) (n : ℕ) (xs : List X) → AllByRecursion P xs → AllByRecursion P (take n xs)
all-take P zero xs h = tt
all-take P (suc n) [] h = tt
all-take P (suc n) (x ∷ xs) h = (h.0, all-take P n xs h.1)

distinct-take : (n : ℕ) (xs : List ℕ) → IsDistinct nat_eq xs → IsDistinct nat_eq (take n xs)
unfolding IsDistinct
distinct-take zero xs h = tt
distinct-take (suc n) [] h = tt
distinct-take (suc n) (x ∷ xs) h = (all-take (λ y. nat_eq x y ≡ false) n xs h.0, distinct-take n xs h.1)

distinct-drop : (n : ℕ) (xs : List ℕ) → IsDistinct nat_eq xs → IsDistinct nat_eq (drop n xs)
unfolding IsDistinct
distinct-drop zero xs h = h
distinct-drop (suc n) [] h = tt
distinct-drop (suc n) (x ∷ xs) h = distinct-drop n xs h.1

map-take-rights : (rows : List DiffRow) (n : ℕ) (ks : List ℕ) → rights rows (take n ks) ≡ take n (rights rows ks)
map-take-rights rows zero ks = refl
map-take-rights rows (suc n) [] = refl
map-take-rights rows (suc n) (k ∷ ks) = ap (λ xs. right_at rows k ∷ xs) (map-take-rights rows n ks)

-- The sides from a place on.
rights-drop : (rows : List DiffRow) (p : ℕ) (ks : List ℕ) → p < length ks → drop p (rights rows ks) ≡ right_at rows (get_or ks p 0) ∷ rights rows (drop (suc p) ks)
rights-drop rows p [] h = absurd (omega arith)
rights-drop rows zero (k ∷ ks) h = refl
rights-drop rows (suc p) (k ∷ ks) h = rights-drop rows p ks (omega arith)

pub total-cut : (rows : List DiffRow) (n : ℕ) (ks : List ℕ) → total rows ks ≡ total rows (take n ks) +ℤ total rows (drop n ks)
total-cut rows zero ks = omega (arith, ints)
total-cut rows (suc n) [] = refl
total-cut rows (suc n) (k ∷ ks) = let rest = total-cut rows n ks in omega (arith, ints)

pub total-bounds : (rows : List DiffRow) → All IsInside rows → (ks : List ℕ) → All (λ k. k < length rows) ks
    → (neg_ℤ (pos (2 ^ 40 * length ks)) ≤ℤ total rows ks) × (total rows ks ≤ℤ pos (2 ^ 40 * length ks))
total-bounds rows inside [] h = (omega (arith, ints), omega (arith, ints))
total-bounds rows inside (k ∷ ks) h =
    let within = All-get_or IsInside rows k no_row (All-head (λ k. k < length rows) k ks h) inside in
    let rest = total-bounds rows inside ks (All-tail (λ k. k < length rows) k ks h) in
    let low = within.low in let high = within.high in
    (omega (arith, ints), omega (arith, ints))

-- A longer walk that comes back to its side: the part up to the place is a cycle, and the rest is a walk.
pub cycle-here : (rows : List DiffRow) (v k u p : ℕ) (d : ℤ) (walk : List ℕ) → All IsInside rows → k < length rows → left_at rows k ≡ v → right_at rows k ≡ u → IsReached rows u d walk
    → p < length (k ∷ walk) → right_at rows (get_or (k ∷ walk) p 0) ≡ v → total rows (take (suc p) (k ∷ walk)) <ℤ pos 0 → IsCycle rows (take (suc p) (k ∷ walk))
cycle-here rows v k u p d walk inside h left right known p_in place negative =
    let chain : Chain rows v (k ∷ walk) known.chain.0 = (h, left, subst (λ n. Chain rows n walk known.chain.0) (sym right) known.chain.1) in
    let cut = chain-cut rows (k ∷ walk) p v known.chain.0 p_in chain in
    let closed = subst (λ n. Chain rows v (take (suc p) (k ∷ walk)) n) place cut.0 in
    let apart : IsDistinct nat_eq (rights rows (k ∷ walk)) = subst (λ n. IsDistinct nat_eq (n ∷ rights rows walk)) (sym right) known.distinct in
    let apart_here : IsDistinct nat_eq (rights rows (take (suc p) (k ∷ walk))) = rw (map-take-rights rows (suc p) (k ∷ walk)) (distinct-take (suc p) (rights rows (k ∷ walk)) apart) in
    let most = length-le_from_distinct_below (rights rows (take (suc p) (k ∷ walk))) 65 apart_here (below rows inside (take (suc p) (k ∷ walk)) v v closed) in
    let same = length-rights rows (take (suc p) (k ∷ walk)) in
    record { closed = (v, closed); short = omega arith; negative = negative }

pub reached-rest : (rows : List DiffRow) (v k u p : ℕ) (d : ℤ) (walk : List ℕ) → All IsInside rows → k < length rows → left_at rows k ≡ v → right_at rows k ≡ u → IsReached rows u d walk
    → p < length (k ∷ walk) → right_at rows (get_or (k ∷ walk) p 0) ≡ v → IsReached rows v (total rows (drop (suc p) (k ∷ walk))) (drop (suc p) (k ∷ walk))
reached-rest rows v k u p d walk inside h left right known p_in place =
    let chain : Chain rows v (k ∷ walk) known.chain.0 = (h, left, subst (λ n. Chain rows n walk known.chain.0) (sym right) known.chain.1) in
    let cut = chain-cut rows (k ∷ walk) p v known.chain.0 p_in chain in
    let apart : IsDistinct nat_eq (rights rows (k ∷ walk)) = subst (λ n. IsDistinct nat_eq (n ∷ rights rows walk)) (sym right) known.distinct in
    let apart_rest = subst (λ xs. IsDistinct nat_eq xs) (rights-drop rows p (k ∷ walk) p_in) (distinct-drop p (rights rows (k ∷ walk)) apart) in
    record {
      chain = (known.chain.0, subst (λ n. Chain rows n (drop (suc p) (k ∷ walk)) known.chain.0) place cut.1);
      is = refl;
      distinct = subst (λ n. IsDistinct nat_eq (n ∷ rights rows (drop (suc p) (k ∷ walk)))) place apart_rest;
    }

pub total-next : (rows : List DiffRow) (ks : List ℕ) (n : ℕ) → n < length ks → total rows (take (n + 1) ks) ≡ total rows (take n ks) +ℤ (row_at rows (get_or ks n 0)).bound
total-next rows [] n h = absurd (omega arith)
total-next rows (k ∷ ks) zero h = omega (arith, ints)
total-next rows (k ∷ ks) (suc n) h = let rest = total-next rows ks n (omega arith) in rw add-one (let again : total rows (take (suc n) ks) ≡ total rows (take n ks) +ℤ (row_at rows (get_or ks n 0)).bound = rw (← add-one) rest in omega (arith, ints))

pub place-next : (rows : List DiffRow) (v : ℕ) (ks : List ℕ) (n : ℕ) → n < length ks → list_any (nat_eq v) (rights rows (take n ks)) ≡ false → nat_eq v (right_at rows (get_or ks n 0)) ≡ false
    → list_any (nat_eq v) (rights rows (take (n + 1) ks)) ≡ false
place-next rows v [] n h so_far new = absurd (omega arith)
place-next rows v (k ∷ ks) zero h so_far new = grind (arith, new)
place-next rows v (k ∷ ks) (suc n) h so_far new = rw add-one (let rest = place-next rows v ks n (omega arith) in grind (arith, add-one, so_far, new, rest))

pub inside-at : (rows : List DiffRow) (k : ℕ) → All IsInside rows → k < length rows → IsInside (row_at rows k)
inside-at rows k inside h = All-get_or IsInside rows k no_row h inside

pub row-in : (rows : List DiffRow) (ks : List ℕ) (n : ℕ) → All (λ k. k < length rows) ks → n < length ks → get_or ks n 0 < length rows
row-in rows ks n known h = All-get_or (λ k. k < length rows) ks n 0 h known

pub place-none : (rows : List DiffRow) (v : ℕ) (ks : List ℕ) (n : ℕ) → length ks ≤ n → list_any (nat_eq v) (rights rows (take n ks)) ≡ false → list_any (nat_eq v) (rights rows ks) ≡ false
place-none rows v ks n h so_far = subst (λ xs. list_any (nat_eq v) (rights rows xs) ≡ false) (take_all n ks h) so_far

pub ruleset places = (place-next, row-in)

pub ruleset totals = (total-next, row-in, inside-at)

pub chain-rows : (rows : List DiffRow) (ks : List ℕ) (a b : ℕ) → Chain rows a ks b → All (λ k. k < length rows) ks
chain-rows rows [] a b chain = All-nil (λ k. k < length rows)
chain-rows rows (k ∷ ks) a b chain = All-cons (λ k. k < length rows) k ks chain.0 (chain-rows rows ks (right_at rows k) b chain.2)

pub longer-rows : (rows : List DiffRow) (k u : ℕ) (d : ℤ) (walk : List ℕ) → k < length rows → IsReached rows u d walk → All (λ k. k < length rows) (k ∷ walk)
longer-rows rows k u d walk h known = All-cons (λ k. k < length rows) k walk h (chain-rows rows walk u known.chain.0 known.chain.1)

pub longer-short : (rows : List DiffRow) (k : ℕ) (d : ℤ) (walk : List ℕ) → All IsInside rows → k < length rows → IsReached rows (right_at rows k) d walk → length (k ∷ walk) ≤ 65
longer-short rows k d walk inside h known = let most = reached-short rows (right_at rows k) d walk inside (right-below rows inside k h) known in omega arith

pub reached-bounds : (rows : List DiffRow) (u : ℕ) (d : ℤ) (walk : List ℕ) → All IsInside rows → u < 65 → IsReached rows u d walk
    → (neg_ℤ (pos (2 ^ 46)) ≤ℤ d) × (d ≤ℤ pos (2 ^ 46))
reached-bounds rows u d walk inside u_below known =
    let most = reached-short rows u d walk inside u_below known in
    let bounds = total-bounds rows inside walk (chain-rows rows walk u known.chain.0 known.chain.1) in
    let is = known.is in
    (omega (arith, ints), omega (arith, ints))

longer-cut-here : (rows : List DiffRow) (k at : ℕ) (d : ℤ) (walk : List ℕ) (r : Longer) → All IsInside rows → k < length rows → IsReached rows (right_at rows k) d walk
    → at < length (k ∷ walk) → right_at rows (get_or (k ∷ walk) at 0) ≡ left_at rows k → IsCut rows (k ∷ walk) at r → IsLonger rows k d r
longer-cut-here rows k at d walk (Cycle cycle) inside h known at_in place cut =
    let as_suc : cycle.items ≡ take (suc at) (k ∷ walk) = cut.0 ∙ ap (λ n. take n (k ∷ walk)) (add-one at) in
    let negative : total rows (take (suc at) (k ∷ walk)) <ℤ pos 0 = subst (λ l. total rows l <ℤ pos 0) as_suc cut.1 in
    subst (λ l. IsCycle rows l) (sym as_suc) (cycle-here rows (left_at rows k) k (right_at rows k) at d walk inside h refl refl known at_in place negative)
longer-cut-here rows k at d walk (Walk reached) inside h known at_in place cut =
    let as_suc : reached.walk.items ≡ drop (suc at) (k ∷ walk) = cut.0 ∙ ap (λ n. drop n (k ∷ walk)) (add-one at) in
    let rest = reached-rest rows (left_at rows k) k (right_at rows k) at d walk inside h refl refl known at_in place in
    let total_is : reached.distance ≡ total rows (drop (suc at) (k ∷ walk)) = cut.1 ∙ ap (total rows) as_suc in
    let front_is : pos 0 ≤ℤ total rows (take (suc at) (k ∷ walk)) = subst (λ n. pos 0 ≤ℤ total rows (take n (k ∷ walk))) (add-one at) cut.2 in
    let whole = total-cut rows (suc at) (k ∷ walk) in
    let d_is = known.is in (
      subst (λ e. IsReached rows (left_at rows k) e reached.walk.items) (sym total_is) (subst (λ l. IsReached rows (left_at rows k) (total rows (drop (suc at) (k ∷ walk))) l) (sym as_suc) rest),
      omega (arith, ints),
    )

pub longer-cut : (rows : List DiffRow) (k at : ℕ) (d : ℤ) (walk longer : List ℕ) (r : Longer) → All IsInside rows → k < length rows → IsReached rows (right_at rows k) d walk
    → longer ≡ k ∷ walk → at < length longer → right_at rows (get_or longer at 0) ≡ left_at rows k → IsCut rows longer at r → IsLonger rows k d r
longer-cut rows k at d walk longer r inside h known is at_in place cut =
    longer-cut-here rows k at d walk r inside h known (subst (λ l. at < length l) is at_in) (subst (λ l. right_at rows (get_or l at 0) ≡ left_at rows k) is place) (subst (λ l. IsCut rows l at r) is cut)

pub longer-new : (rows : List DiffRow) (k : ℕ) (d e : ℤ) (walk longer : List ℕ) → k < length rows → IsReached rows (right_at rows k) d walk
    → longer ≡ k ∷ walk → list_any (nat_eq (left_at rows k)) (rights rows longer) ≡ false → e ≡ d +ℤ (row_at rows k).bound
    → IsReached rows (left_at rows k) e longer × (e ≤ℤ (d +ℤ (row_at rows k).bound))
longer-new rows k d e walk longer h known is new e_is = (
  subst (λ l. IsReached rows (left_at rows k) e l) (sym is) (reached-more rows (left_at rows k) k (right_at rows k) d e walk h refl refl known (subst (λ l. list_any (nat_eq (left_at rows k)) (rights rows l) ≡ false) is new) e_is),
  omega (arith, ints),
)

pub ok-map : {T E : Type 0} {P Q : T → Type 0} (r : Result T E) → ((x : T) → P x → Q x) → IfOk r P → IfOk r Q
ok-map (Ok x) f h = f x h
ok-map (Err e) f h = h
