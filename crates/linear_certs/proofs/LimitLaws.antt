-- The tightest limit gives an atom its value.
use Rattle.std.proofs.Common.{◌≡◌, ◌∙◌, ◌<◌, ◌≤◌, ℕ, ◌+◌, ◌*◌, ◌^◌, ℤ, pos, negsuc, ◌+ℤ◌, ◌-ℤ◌, ◌*ℤ◌, ◌≤ℤ◌, ◌<ℤ◌, List, [], ◌∷◌, ◌++◌, ap, sym, refl, arith, subst, Bool, true, false, suc, zero, length, get_or, take, drop, Option, Some, None, ◌⊎◌, inl, inr}
use Rattle.std.specs.Prelude.{unsigned_abs}
use Rattle.std.specs.List.{All, Contains}
use Rattle.std.specs.Int.{◌∣◌}
use Rattle.std.proofs.lemmas.Int.{ints, unsigned_abs-mul}
use Rattle.std.proofs.lemmas.List.Elements.{All-push, All-cons, All-nil, All-head, All-tail, All-contains, Contains-append_left, Contains-push}
use Rattle.std.proofs.lemmas.List.{take_more, take-append-drop}
use Rattle.std.proofs.Math.IntN.{*ℤ_comm, zero-*ℤ}
use Rattle.std.proofs.Math.Nat.{mul_comm, dvd-mul_right_of_dvd}
use Rattle.std.proofs.lemmas.Nat.Gcd.{dvd-zero}
use Rattle.linear_rows.specs.Sums.{Part, From, dot, coefficient}
use Rattle.linear_rows.proofs.Ring.{dist, dist-left, assoc, times-one}
use Rattle.linear_rows.proofs.FormLaws.{dot-unit, unit}
use Rattle.linear_certs.specs.declared.entry.Entry.{Entry}
use Rattle.linear_certs.specs.declared.limit.Limit.{Limit}
use Rattle.linear_rows.specs.Numbers.{is_zero}
use Rattle.linear_certs.specs.Stages.{is_positive, is_negative, is_upper, is_lower}
use Rattle.linear_certs.specs.Points.{HoldsAt, IsTight, IsReached, HasNone, IsValue, IsLowest, size_bound}
use Rattle.linear_certs.specs.Code.Limits.{side_of, IsAsTight, room, Leaves, Fixes, AreSizes, IsPast, IsSmallLimit, IsLimitOf, IsTightest, IsBest, IsTighter, IsChosen, IsReduced, IsMoved, IsNextPoint}
use Rattle.linear_certs.proofs.SizeLaws.{room-size, coefficient-size, sizes-up, past-product, over-up, cross-in, num-in, den-in}
use Rattle.linear_certs.proofs.FractionLaws.{cancel-le, cancel, le-same, le-between, moved-side, swap}

-- Sizes of a list are sizes of each part of it.
pub sizes-front : (atoms c b d n : ℕ) (point : ℕ → ℤ) (over : ℤ) (xs ys : List Entry) → AreSizes atoms c b d n point over (xs ++ ys) → AreSizes atoms c b d n point over xs
sizes-front atoms c b d n point over xs ys sizes = record {
  lengths = first (λ e. length e.row.parts ≤ atoms) xs sizes.lengths;
  coefficients = first (λ e. All (λ part. unsigned_abs part.1 ≤ c) e.row.parts) xs sizes.coefficients;
  bounds = first (λ e. unsigned_abs e.row.bound ≤ b) xs sizes.bounds;
  dens = sizes.dens;
  nums = sizes.nums;
}
  where
    first : (P : Entry → Type 0) (xs : List Entry) → All P (xs ++ ys) → All P xs
    first P [] all = All-nil P
    first P (x ∷ xs) all = All-cons P x xs (All-head P x (xs ++ ys) all) (first P xs (All-tail P x (xs ++ ys) all))

pub sizes-back : (atoms c b d n : ℕ) (point : ℕ → ℤ) (over : ℤ) (xs ys : List Entry) → AreSizes atoms c b d n point over (xs ++ ys) → AreSizes atoms c b d n point over ys
sizes-back atoms c b d n point over xs ys sizes = record {
  lengths = last (λ e. length e.row.parts ≤ atoms) xs sizes.lengths;
  coefficients = last (λ e. All (λ part. unsigned_abs part.1 ≤ c) e.row.parts) xs sizes.coefficients;
  bounds = last (λ e. unsigned_abs e.row.bound ≤ b) xs sizes.bounds;
  dens = sizes.dens;
  nums = sizes.nums;
}
  where
    last : (P : Entry → Type 0) (xs : List Entry) → All P (xs ++ ys) → All P ys
    last P [] all = all
    last P (x ∷ xs) all = last P xs (All-tail P x (xs ++ ys) all)

pub past-front : (point : ℕ → ℤ) (over : ℤ) (xs ys : List Entry) → IsPast point over xs → IsPast point over (xs ++ ys)
past-front point over xs ys past atoms c b d n sizes = past atoms c b d n (sizes-front atoms c b d n point over xs ys sizes)

pub past-back : (point : ℕ → ℤ) (over : ℤ) (xs ys : List Entry) → IsPast point over ys → IsPast point over (xs ++ ys)
past-back point over xs ys past atoms c b d n sizes = past atoms c b d n (sizes-back atoms c b d n point over xs ys sizes)

pub small-front : (point : ℕ → ℤ) (over : ℤ) (xs ys : List Entry) (limit : Limit) → IsSmallLimit point over xs limit → IsSmallLimit point over (xs ++ ys) limit
small-front point over xs ys limit small atoms c b d n sizes = small atoms c b d n (sizes-front atoms c b d n point over xs ys sizes)

pub small-back : (point : ℕ → ℤ) (over : ℤ) (xs ys : List Entry) (limit : Limit) → IsSmallLimit point over ys limit → IsSmallLimit point over (xs ++ ys) limit
small-back point over xs ys limit small atoms c b d n sizes = small atoms c b d n (sizes-back atoms c b d n point over xs ys sizes)

not-both : (b : Bool) → b ≡ true → b ≡ false → ⊥
not-both true h k = cc
not-both false h k = cc

implied : (P : Entry → Type 0) (side : Entry → Bool) (xs : List Entry) → HasNone side xs → All (λ e. side e ≡ true → P e) xs
implied P side [] none = All-nil (λ e. side e ≡ true → P e)
implied P side (x ∷ xs) none = All-cons (λ e. side e ≡ true → P e) x xs (λ h. absurd (not-both (side x) h (All-head (λ e. side e ≡ false) x xs none))) (implied P side xs (All-tail (λ e. side e ≡ false) x xs none))

-- A row that isn't on the side changes nothing.
pub best-same : (lower : Bool) (atom : ℕ) (point : ℕ → ℤ) (over : ℤ) (seen : List Entry) (e : Entry) (best : Option Limit) → side_of lower atom e ≡ false → IsBest lower atom point over seen best → IsBest lower atom point over (seen ++ e ∷ []) best
best-same lower atom point over seen e None off none = All-push (λ e. side_of lower atom e ≡ false) seen e none off
best-same lower atom point over seen e (Some limit) off is = record {
  up = is.up;
  all = All-push (λ e. side_of lower atom e ≡ true → Leaves atom point over limit e) seen e is.all (λ h. absurd (not-both (side_of lower atom e) h off));
  one = (is.one.0, (Contains-append_left seen (e ∷ []) is.one.0 is.one.1.0, is.one.1.1, is.one.1.2));
  small = small-front point over seen (e ∷ []) limit is.small;
}

-- The first row of a side.
pub best-first : (lower : Bool) (atom : ℕ) (point : ℕ → ℤ) (over : ℤ) (seen : List Entry) (e : Entry) (limit : Limit) → side_of lower atom e ≡ true → HasNone (side_of lower atom) seen
    → IsLimitOf atom point over (e ∷ []) e limit → IsBest lower atom point over (seen ++ e ∷ []) (Some limit)
best-first lower atom point over seen e limit on none is = record {
  up = is.up;
  all = All-push (λ e. side_of lower atom e ≡ true → Leaves atom point over limit e) seen e (implied (Leaves atom point over limit) (side_of lower atom) seen none) (λ _. le-same _ _ is.fixes);
  one = (e, (Contains-push seen e, on, is.fixes));
  small = small-back point over seen (e ∷ []) limit is.small;
}

move-all : (lower : Bool) (atom : ℕ) (point : ℕ → ℤ) (over : ℤ) (old new : Limit) (xs : List Entry) → pos 0 <ℤ old.den → pos 0 <ℤ new.den → IsAsTight lower (new.num *ℤ old.den) (old.num *ℤ new.den)
    → All (λ e. side_of lower atom e ≡ true → Leaves atom point over old e) xs → All (λ e. side_of lower atom e ≡ true → Leaves atom point over new e) xs
move-all lower atom point over old new [] up up' tight all = All-nil (λ e. side_of lower atom e ≡ true → Leaves atom point over new e)
move-all lower atom point over old new (x ∷ xs) up up' tight all = All-cons (λ e. side_of lower atom e ≡ true → Leaves atom point over new e) x xs
    (λ on. moved-side lower atom x (room point over x) old.num old.den new.num new.den up up' on tight (All-head (λ e. side_of lower atom e ≡ true → Leaves atom point over old e) x xs all on))
    (move-all lower atom point over old new xs up up' tight (All-tail (λ e. side_of lower atom e ≡ true → Leaves atom point over old e) x xs all))

-- One row more of a side, whose limit or the one so far is tighter.
pub best-next : (lower : Bool) (atom : ℕ) (point : ℕ → ℤ) (over : ℤ) (seen : List Entry) (e : Entry) (limit other chosen : Limit) → side_of lower atom e ≡ true → IsLimitOf atom point over (e ∷ []) e limit
    → IsBest lower atom point over seen (Some other) → IsTighter lower limit other chosen → IsBest lower atom point over (seen ++ e ∷ []) (Some chosen)
best-next lower atom point over seen e limit other chosen on is best (inl new) = subst (λ l. IsBest lower atom point over (seen ++ e ∷ []) (Some l)) (sym new.0) (record {
  up = is.up;
  all = All-push (λ e. side_of lower atom e ≡ true → Leaves atom point over limit e) seen e (move-all lower atom point over other limit seen best.up is.up new.1 best.all) (λ _. le-same _ _ is.fixes);
  one = (e, (Contains-push seen e, on, is.fixes));
  small = small-back point over seen (e ∷ []) limit is.small;
})
best-next lower atom point over seen e limit other chosen on is best (inr old) = subst (λ l. IsBest lower atom point over (seen ++ e ∷ []) (Some l)) (sym old.0) (record {
  up = best.up;
  all = All-push (λ e. side_of lower atom e ≡ true → Leaves atom point over other e) seen e best.all
      (λ _. moved-side lower atom e (room point over e) limit.num limit.den other.num other.den is.up best.up on old.1 (le-same _ _ is.fixes));
  one = (best.one.0, (Contains-append_left seen (e ∷ []) best.one.0 best.one.1.0, best.one.1.1, best.one.1.2));
  small = small-front point over seen (e ∷ []) other best.small;
})

-- ---- a limit in lowest terms

abs-part : (z g w : ℤ) (n : ℕ) → pos 0 <ℤ g → z ≡ g *ℤ w → unsigned_abs z ≤ n → unsigned_abs w ≤ n
abs-part z g w n up e h = small (unsigned_abs z) (unsigned_abs g) (unsigned_abs w) n (at-least g up) (ap unsigned_abs e ∙ unsigned_abs-mul g w) h
  where
    at-least : (g : ℤ) → pos 0 <ℤ g → 1 ≤ unsigned_abs g
    at-least (pos zero) up = absurd (omega (arith, ints))
    at-least (pos (suc n)) up = omega arith
    at-least (negsuc n) up = absurd (omega (arith, ints))

    small : (z g w n : ℕ) → 1 ≤ g → z ≡ g * w → z ≤ n → w ≤ n
    small z zero w n up e h = absurd (omega arith)
    small z (suc g) w n up e h = omega arith

same-fraction : (c num den room common num' den' : ℤ) → num ≡ common *ℤ num' → den ≡ common *ℤ den' → (c *ℤ num ≡ common *ℤ (c *ℤ num')) × (room *ℤ den ≡ common *ℤ (room *ℤ den'))
same-fraction c num den room common num' den' e f = (ap (λ z. c *ℤ z) e ∙ swap c common num', ap (λ z. room *ℤ z) f ∙ swap room common den')

reduced-leaves : (atom : ℕ) (point : ℕ → ℤ) (over : ℤ) (limit lowest : Limit) (e : Entry) → IsReduced limit lowest → Leaves atom point over limit e → Leaves atom point over lowest e
reduced-leaves atom point over limit lowest e is leaves =
    let both = same-fraction (coefficient atom e.row.parts) limit.num limit.den (room point over e) is.common lowest.num lowest.den is.num is.den in
    cancel-le is.common (coefficient atom e.row.parts *ℤ lowest.num) (room point over e *ℤ lowest.den) is.common_up (le-between _ _ _ _ (sym both.0) leaves both.1)

reduced-fixes : (atom : ℕ) (point : ℕ → ℤ) (over : ℤ) (limit lowest : Limit) (e : Entry) → IsReduced limit lowest → Fixes atom point over limit e → Fixes atom point over lowest e
reduced-fixes atom point over limit lowest e is fixes =
    let both = same-fraction (coefficient atom e.row.parts) limit.num limit.den (room point over e) is.common lowest.num lowest.den is.num is.den in
    cancel is.common (coefficient atom e.row.parts *ℤ lowest.num) (room point over e *ℤ lowest.den) is.common_up (sym both.0 ∙ fixes ∙ both.1)

pub reduced-tightest : (side : Entry → Bool) (atom : ℕ) (point : ℕ → ℤ) (over : ℤ) (entries : List Entry) (limit lowest : Limit) → IsReduced limit lowest → IsTightest side atom point over entries limit → IsTightest side atom point over entries lowest
reduced-tightest side atom point over entries limit lowest is best = record {
  up = is.up;
  all = each entries best.all;
  one = (best.one.0, (best.one.1.0, best.one.1.1, reduced-fixes atom point over limit lowest best.one.0 is best.one.1.2));
  small = λ atoms c b d n sizes. let both = best.small atoms c b d n sizes in
      (abs-part limit.num is.common lowest.num (b * d + atoms * c * n) is.common_up is.num both.0, abs-part limit.den is.common lowest.den c is.common_up is.den both.1);
}
  where
    each : (xs : List Entry) → All (λ e. side e ≡ true → Leaves atom point over limit e) xs → All (λ e. side e ≡ true → Leaves atom point over lowest e) xs
    each [] all = All-nil (λ e. side e ≡ true → Leaves atom point over lowest e)
    each (x ∷ xs) all = All-cons (λ e. side e ≡ true → Leaves atom point over lowest e) x xs (λ on. reduced-leaves atom point over limit lowest x is (All-head (λ e. side e ≡ true → Leaves atom point over limit e) x xs all on))
        (each xs (All-tail (λ e. side e ≡ true → Leaves atom point over limit e) x xs all))

-- ---- the point with the limit

four : (p q r s : ℤ) → (p +ℤ q) +ℤ (r +ℤ s) ≡ (p +ℤ r) +ℤ (q +ℤ s)
four p q r s = omega (arith, ints)

part-moved : (c p u d m : ℤ) → c *ℤ (p *ℤ d +ℤ u *ℤ m) ≡ (c *ℤ p) *ℤ d +ℤ (c *ℤ u) *ℤ m
part-moved c p u d m = dist-left c (p *ℤ d) (u *ℤ m) ∙ ap (λ z. z +ℤ c *ℤ (u *ℤ m)) (sym (assoc c p d)) ∙ ap (λ z. (c *ℤ p) *ℤ d +ℤ z) (sym (assoc c u m))

dot-linear : (point step new : ℕ → ℤ) (d m : ℤ) → ((a : ℕ) → new a ≡ point a *ℤ d +ℤ step a *ℤ m) → (parts : List Part) → dot new parts ≡ dot point parts *ℤ d +ℤ dot step parts *ℤ m
dot-linear point step new d m law [] = sym (ap (λ z. z +ℤ pos 0 *ℤ m) (zero-*ℤ d) ∙ ap (λ z. pos 0 +ℤ z) (zero-*ℤ m))
dot-linear point step new d m law (x ∷ xs) =
    ap (λ z. x.1 *ℤ z +ℤ dot new xs) (law x.0) ∙ ap (λ z. z +ℤ dot new xs) (part-moved x.1 (point x.0) (step x.0) d m)
    ∙ ap (λ z. ((x.1 *ℤ point x.0) *ℤ d +ℤ (x.1 *ℤ step x.0) *ℤ m) +ℤ z) (dot-linear point step new d m law xs)
    ∙ four ((x.1 *ℤ point x.0) *ℤ d) ((x.1 *ℤ step x.0) *ℤ m) (dot point xs *ℤ d) (dot step xs *ℤ m)
    ∙ ap (λ z. z +ℤ ((x.1 *ℤ step x.0) *ℤ m +ℤ dot step xs *ℤ m)) (sym (dist (x.1 *ℤ point x.0) (dot point xs) d))
    ∙ ap (λ z. (x.1 *ℤ point x.0 +ℤ dot point xs) *ℤ d +ℤ z) (sym (dist (x.1 *ℤ step x.0) (dot step xs) m))

pub by_equal : {R : Type 0} (a b : ℕ) → (a ≡ b → R) → ((a ≡ b → ⊥) → R) → R
by_equal zero zero one two = one refl
by_equal zero (suc b) one two = two (λ e. omega arith)
by_equal (suc a) zero one two = two (λ e. omega arith)
by_equal (suc a) (suc b) one two = by_equal a b (λ e. one (ap suc e)) (λ n. two (λ e. n (omega arith)))

unit-here : (a atom : ℕ) → a ≡ atom → unit atom a ≡ pos 1
unit-here a atom e = grind (arith, e)

unit-other : (a atom : ℕ) → (a ≡ atom → ⊥) → unit atom a ≡ pos 0
unit-other a atom n = grind (arith, n)

zero-left : (z : ℤ) → pos 0 +ℤ z ≡ z
zero-left z = omega (arith, ints)

zero-right : (z : ℤ) → z +ℤ pos 0 ≡ z
zero-right z = omega (arith, ints)

moved-value : (atom : ℕ) (limit : Limit) (point : ℕ → ℤ) (over : ℤ) (new : ℕ → ℤ) (new_over : ℤ) → IsMoved atom limit point over new new_over → point atom ≡ pos 0 → (a : ℕ) → new a ≡ point a *ℤ limit.den +ℤ unit atom a *ℤ limit.num
moved-value atom limit point over new new_over moved zero_is a = by_equal a atom
    (λ same. ap new same ∙ moved.here ∙ sym (ap (λ z. point z *ℤ limit.den +ℤ unit atom a *ℤ limit.num) same ∙ ap (λ z. z *ℤ limit.den +ℤ unit atom a *ℤ limit.num) zero_is
    ∙ ap (λ z. z +ℤ unit atom a *ℤ limit.num) (zero-*ℤ limit.den) ∙ zero-left (unit atom a *ℤ limit.num) ∙ ap (λ z. z *ℤ limit.num) (unit-here a atom same) ∙ *ℤ_comm (pos 1) limit.num ∙ times-one limit.num))
    (λ other. moved.others a other ∙ sym (ap (λ z. point a *ℤ limit.den +ℤ z *ℤ limit.num) (unit-other a atom other) ∙ ap (λ z. point a *ℤ limit.den +ℤ z) (zero-*ℤ limit.num) ∙ zero-right (point a *ℤ limit.den)))

-- What an entry comes to at the new point.
moved-dot : (atom : ℕ) (limit : Limit) (point : ℕ → ℤ) (over : ℤ) (new : ℕ → ℤ) (new_over : ℤ) → IsMoved atom limit point over new new_over → point atom ≡ pos 0 → (parts : List Part) → From atom parts
    → dot new parts ≡ dot point parts *ℤ limit.den +ℤ coefficient atom parts *ℤ limit.num
moved-dot atom limit point over new new_over moved zero_is parts from = dot-linear point (unit atom) new limit.den limit.num (moved-value atom limit point over new new_over moved zero_is) parts
    ∙ ap (λ z. dot point parts *ℤ limit.den +ℤ z *ℤ limit.num) (dot-unit atom atom parts from)

rest-is : (b s : ℤ) → s +ℤ (b -ℤ s) ≡ b
rest-is b s = omega (arith, ints)

add-le : (s x y z : ℤ) → x ≤ℤ y → s +ℤ y ≡ z → (s +ℤ x) ≤ℤ z
add-le s x y z h e = omega (arith, ints)

whole-is : (point : ℕ → ℤ) (over den new_over : ℤ) (e : Entry) → new_over ≡ over *ℤ den → dot point e.row.parts *ℤ den +ℤ room point over e *ℤ den ≡ e.row.bound *ℤ new_over
whole-is point over den new_over e is = sym (dist (dot point e.row.parts) (room point over e) den) ∙ ap (λ z. z *ℤ den) (rest-is (e.row.bound *ℤ over) (dot point e.row.parts)) ∙ assoc e.row.bound over den ∙ ap (λ z. e.row.bound *ℤ z) (sym is)

leaves-holds : (atom : ℕ) (limit : Limit) (point : ℕ → ℤ) (over : ℤ) (new : ℕ → ℤ) (new_over : ℤ) → IsMoved atom limit point over new new_over → point atom ≡ pos 0 → (e : Entry) → From atom e.row.parts → Leaves atom point over limit e → HoldsAt new new_over e
leaves-holds atom limit point over new new_over moved zero_is e from leaves = subst (λ z. z ≤ℤ (e.row.bound *ℤ new_over)) (sym (moved-dot atom limit point over new new_over moved zero_is e.row.parts from))
    (add-le (dot point e.row.parts *ℤ limit.den) (coefficient atom e.row.parts *ℤ limit.num) (room point over e *ℤ limit.den) (e.row.bound *ℤ new_over) leaves (whole-is point over limit.den new_over e moved.den))

fixes-tight : (atom : ℕ) (limit : Limit) (point : ℕ → ℤ) (over : ℤ) (new : ℕ → ℤ) (new_over : ℤ) → IsMoved atom limit point over new new_over → point atom ≡ pos 0 → (e : Entry) → From atom e.row.parts → Fixes atom point over limit e → IsTight new new_over e
fixes-tight atom limit point over new new_over moved zero_is e from fixes = moved-dot atom limit point over new new_over moved zero_is e.row.parts from
    ∙ ap (λ z. dot point e.row.parts *ℤ limit.den +ℤ z) fixes ∙ whole-is point over limit.den new_over e moved.den

pub tightest-reached : (side : Entry → Bool) (atom : ℕ) (limit : Limit) (point : ℕ → ℤ) (over : ℤ) (new : ℕ → ℤ) (new_over : ℤ) (entries : List Entry) → IsMoved atom limit point over new new_over → point atom ≡ pos 0
    → All (λ e. From atom e.row.parts) entries → IsTightest side atom point over entries limit → IsReached side new new_over entries
tightest-reached side atom limit point over new new_over entries moved zero_is from best = record {
  all = each entries from best.all;
  one = (best.one.0, (best.one.1.0, best.one.1.1, fixes-tight atom limit point over new new_over moved zero_is best.one.0 (All-contains (λ e. From atom e.row.parts) entries best.one.0 from best.one.1.0) best.one.1.2));
}
  where
    each : (xs : List Entry) → All (λ e. From atom e.row.parts) xs → All (λ e. side e ≡ true → Leaves atom point over limit e) xs → All (λ e. side e ≡ true → HoldsAt new new_over e) xs
    each [] from all = All-nil (λ e. side e ≡ true → HoldsAt new new_over e)
    each (x ∷ xs) from all = All-cons (λ e. side e ≡ true → HoldsAt new new_over e) x xs
        (λ on. leaves-holds atom limit point over new new_over moved zero_is x (All-head (λ e. From atom e.row.parts) x xs from) (All-head (λ e. side e ≡ true → Leaves atom point over limit e) x xs all on))
        (each xs (All-tail (λ e. From atom e.row.parts) x xs from) (All-tail (λ e. side e ≡ true → Leaves atom point over limit e) x xs all))

-- ---- nothing in common

divides-product : (d : ℕ) (z p t : ℤ) → z ≡ p *ℤ t → d ∣ unsigned_abs z → d ∣ (unsigned_abs t * unsigned_abs p)
divides-product d z p t e h = subst (λ n. d ∣ n) (ap unsigned_abs e ∙ unsigned_abs-mul p t ∙ mul_comm (unsigned_abs p) (unsigned_abs t)) h

pub moved-lowest : (atom : ℕ) (limit : Limit) (point : ℕ → ℤ) (over : ℤ) (new : ℕ → ℤ) (new_over : ℤ) → IsMoved atom limit point over new new_over → point atom ≡ pos 0
    → ((m s : ℕ) → m ∣ (unsigned_abs limit.num * s) → m ∣ (unsigned_abs limit.den * s) → m ∣ s) → IsLowest point over → IsLowest new new_over
moved-lowest atom limit point over new new_over moved zero_is apart lowest d in_den in_nums = lowest d
    (part over (divides-product d new_over over limit.den moved.den in_den))
    (λ a. by_equal a atom (λ same. subst (λ z. d ∣ unsigned_abs z) (sym (ap point same ∙ zero_is)) (dvd-zero d))
    (λ other. part (point a) (divides-product d (new a) (point a) limit.den (moved.others a other) (in_nums a))))
  where
    part : (p : ℤ) → d ∣ (unsigned_abs limit.den * unsigned_abs p) → d ∣ unsigned_abs p
    part p h = apart d (unsigned_abs p) (dvd-mul_right_of_dvd d (subst (λ z. d ∣ unsigned_abs z) moved.here (in_nums atom)) (unsigned_abs p)) h

-- ---- what a row sets

pub limit-is : (atom : ℕ) (point : ℕ → ℤ) (over : ℤ) (e : Entry) (left factor : ℤ) (limit : Limit) → left ≡ room point over e → factor ≡ coefficient atom e.row.parts
    → (pos 0 <ℤ limit.den) × (factor *ℤ limit.num ≡ left *ℤ limit.den) × (unsigned_abs limit.num ≡ unsigned_abs left) × (unsigned_abs limit.den ≡ unsigned_abs factor)
    → IsLimitOf atom point over (e ∷ []) e limit
limit-is atom point over e left factor limit left_is factor_is is = record {
  up = is.0;
  fixes = ap (λ z. z *ℤ limit.num) (sym factor_is) ∙ is.1 ∙ ap (λ z. z *ℤ limit.den) left_is;
  small = λ atoms c b d n sizes. (
    subst (λ z. z ≤ b * d + atoms * c * n) (sym (is.2 ∙ ap unsigned_abs left_is)) (room-size atoms c b d n point over e sizes),
    subst (λ z. z ≤ c) (sym (is.3 ∙ ap unsigned_abs factor_is)) (coefficient-size atom c e.row.parts (All-head (λ e. All (λ part. unsigned_abs part.1 ≤ c) e.row.parts) e [] sizes.coefficients)),
  );
}

-- Where two limits can't be compared.
pub past-cross : (point : ℕ → ℤ) (over : ℤ) (entries : List Entry) (limit other : Limit) → pos 0 <ℤ over → IsSmallLimit point over entries limit → IsSmallLimit point over entries other
    → ((m n : ℕ) → unsigned_abs limit.num ≤ m → unsigned_abs other.num ≤ m → unsigned_abs limit.den ≤ n → unsigned_abs other.den ≤ n → 2 ^ 127 ≤ m * n) → IsPast point over entries
past-cross point over entries limit other up one two past atoms c b d n sizes =
    let first = one atoms c b d n sizes in let second = two atoms c b d n sizes in
    past-product (b * d + atoms * c * n) c d ((b * d + atoms * c * n) * c) (over-up over d up sizes.dens) (cross-in (b * d + atoms * c * n) c) (past (b * d + atoms * c * n) c first.0 second.0 first.1 second.1)

-- ---- the rows of a stage, one after the other

pub best-more : (lower : Bool) (atom : ℕ) (point : ℕ → ℤ) (over : ℤ) (entries : List Entry) (i : ℕ) (e : Entry) (best : Option Limit) → i < length entries → e ≡ get_or entries i e
    → IsBest lower atom point over (take i entries ++ e ∷ []) best → IsBest lower atom point over (take (i + 1) entries) best
best-more lower atom point over entries i e best h is next = subst (λ l. IsBest lower atom point over l best) (ap (λ x. take i entries ++ x ∷ []) is ∙ sym (take_more entries i e h)) next

pub past-whole : (point : ℕ → ℤ) (over : ℤ) (entries : List Entry) (i : ℕ) (e : Entry) → i < length entries → e ≡ get_or entries i e → IsPast point over (take i entries ++ e ∷ []) → IsPast point over entries
past-whole point over entries i e h is past = subst (IsPast point over) (take-append-drop (i + 1) entries)
    (past-front point over (take (i + 1) entries) (drop (i + 1) entries) (subst (IsPast point over) (ap (λ x. take i entries ++ x ∷ []) is ∙ sym (take_more entries i e h)) past))

pub best-chosen : (atom : ℕ) (point : ℕ → ℤ) (over : ℤ) (entries : List Entry) (best : Option Limit) → HasNone (is_lower atom) entries → IsBest false atom point over entries best → IsChosen atom point over entries best
best-chosen atom point over entries None none best = (none, best)
best-chosen atom point over entries (Some limit) none best = inr (none, best)

-- ---- one atom more

pub next-same : (atom : ℕ) (entries : List Entry) (point : ℕ → ℤ) (over : ℤ) → IsChosen atom point over entries None → point atom ≡ pos 0 → IsLowest point over → IsNextPoint atom entries point over point over
next-same atom entries point over none zero_is lowest = record {
  times = pos 1;
  up = omega (arith, ints);
  others = λ a other. sym (times-one (point a));
  den = sym (times-one over);
  value = inr (none.0, inr (none.1, zero_is));
  lowest = lowest;
}

pub next-moved : (atom : ℕ) (entries : List Entry) (limit lowest : Limit) (point : ℕ → ℤ) (over : ℤ) (new : ℕ → ℤ) (new_over : ℤ) → All (λ e. From atom e.row.parts) entries → IsChosen atom point over entries (Some limit)
    → IsReduced limit lowest → point atom ≡ pos 0 → IsLowest point over → IsMoved atom lowest point over new new_over → IsNextPoint atom entries point over new new_over
next-moved atom entries limit lowest point over new new_over from chosen reduced zero_is in_terms moved = record {
  times = lowest.den;
  up = reduced.up;
  others = moved.others;
  den = moved.den;
  value = by_side chosen;
  lowest = moved-lowest atom lowest point over new new_over moved zero_is reduced.apart in_terms;
}
  where
    reached : (side : Entry → Bool) → IsTightest side atom point over entries limit → IsReached side new new_over entries
    reached side best = tightest-reached side atom lowest point over new new_over entries moved zero_is from (reduced-tightest side atom point over entries limit lowest reduced best)

    by_side : IsTightest (is_lower atom) atom point over entries limit ⊎ (HasNone (is_lower atom) entries × IsTightest (is_upper atom) atom point over entries limit) → IsValue new new_over atom entries
    by_side (inl lower) = inl (reached (is_lower atom) lower)
    by_side (inr upper) = inr (upper.0, inl (reached (is_upper atom) upper.1))

sizes-one : (atoms c b d n : ℕ) (point : ℕ → ℤ) (over : ℤ) (entries : List Entry) (e : Entry) → Contains entries e → AreSizes atoms c b d n point over entries → AreSizes atoms c b d n point over (e ∷ [])
sizes-one atoms c b d n point over entries e there sizes = record {
  lengths = All-cons (λ e. length e.row.parts ≤ atoms) e [] (All-contains (λ e. length e.row.parts ≤ atoms) entries e sizes.lengths there) (All-nil (λ e. length e.row.parts ≤ atoms));
  coefficients = All-cons (λ e. All (λ part. unsigned_abs part.1 ≤ c) e.row.parts) e [] (All-contains (λ e. All (λ part. unsigned_abs part.1 ≤ c) e.row.parts) entries e sizes.coefficients there) (All-nil (λ e. All (λ part. unsigned_abs part.1 ≤ c) e.row.parts));
  bounds = All-cons (λ e. unsigned_abs e.row.bound ≤ b) e [] (All-contains (λ e. unsigned_abs e.row.bound ≤ b) entries e sizes.bounds there) (All-nil (λ e. unsigned_abs e.row.bound ≤ b));
  dens = sizes.dens;
  nums = sizes.nums;
}

lower-has : (z : ℤ) → is_negative z ≡ true → is_zero z ≡ false
lower-has (pos zero) h = absurd cc
lower-has (pos (suc n)) h = refl
lower-has (negsuc n) h = refl

upper-has : (z : ℤ) → is_positive z ≡ true → is_zero z ≡ false
upper-has (pos zero) h = absurd cc
upper-has (pos (suc n)) h = refl
upper-has (negsuc n) h = absurd cc

-- Where the numbers can't be multiplied for a limit.
pub past-moved : (atom : ℕ) (entries : List Entry) (limit lowest : Limit) (point : ℕ → ℤ) (over : ℤ) → IsChosen atom point over entries (Some limit) → IsReduced limit lowest
    → ((c d n : ℕ) → ((a : ℕ) → unsigned_abs (point a) ≤ n) → unsigned_abs over ≤ d → unsigned_abs lowest.den ≤ c → (2 ^ 127 ≤ n * c) ⊎ (2 ^ 127 ≤ d * c)) → pos 0 <ℤ over → IsPast point over entries
past-moved atom entries limit lowest point over chosen reduced past up atoms c b d n sizes = by_side chosen
  where
    with_size : (e : Entry) → Contains entries e → is_zero (coefficient atom e.row.parts) ≡ false → unsigned_abs limit.den ≤ c → 2 ^ 120 < size_bound atoms c b d n
    with_size e there has small = let ups = sizes-up atom atoms c b d n point over e has (sizes-one atoms c b d n point over entries e there sizes) in
        elim (past c d n sizes.nums sizes.dens (abs-part limit.den reduced.common lowest.den c reduced.common_up reduced.den small)) [
          | inl nums ↦ past-product (b * d + atoms * c * n) c d (n * c) (over-up over d up sizes.dens) (num-in atoms c b d n ups.1 ups.0) nums
          | inr dens ↦ large-den (d * c) ((b * d + atoms * c * n + 1) * c * d) dens (den-in (b * d + atoms * c * n) c d)
        ]
      where
        large-den : (x y : ℕ) → 2 ^ 127 ≤ x → x ≤ y → 2 ^ 120 < y
        large-den x y h k = omega arith

    by_side : IsTightest (is_lower atom) atom point over entries limit ⊎ (HasNone (is_lower atom) entries × IsTightest (is_upper atom) atom point over entries limit) → 2 ^ 120 < size_bound atoms c b d n
    by_side (inl lower) = with_size lower.one.0 lower.one.1.0 (lower-has (coefficient atom lower.one.0.row.parts) lower.one.1.1) (lower.small atoms c b d n sizes).1
    by_side (inr upper) = with_size upper.1.one.0 upper.1.one.1.0 (upper-has (coefficient atom upper.1.one.0.row.parts) upper.1.one.1.1) (upper.1.small atoms c b d n sizes).1
