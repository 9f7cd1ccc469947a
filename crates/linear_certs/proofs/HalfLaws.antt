-- Sums of two products, by halves of 50 bits.
use Rattle.std.proofs.Common.{◌≡◌, ◌∙◌, ◌<◌, ◌≤◌, ℕ, ◌+◌, ◌*◌, ◌^◌, ℤ, pos, ◌+ℤ◌, ◌-ℤ◌, ◌*ℤ◌, ap, sym, refl, arith, subst, Bool, true, false, to_z, of_z, FitsSigned}
use Rattle.std.specs.Prelude.{unsigned_abs}
use Rattle.std.specs.Int.{w128}
use Rattle.std.proofs.lemmas.Int.{ints, unsigned_abs-mul, fits_signed_from_abs, to_z-of_z}
use Rattle.std.proofs.Math.IntN.{*ℤ_comm}
use Rattle.linear_rows.specs.Numbers.{fits}
use Rattle.linear_rows.proofs.Ring.{dist, dist-left, assoc}
use Rattle.linear_certs.specs.declared.mix.Halves.{Halves}
use Rattle.linear_certs.specs.Code.Building.{IsHalved}
use Rattle.linear_certs.proofs.PairLaws.{fits-size}
use Rattle.linear_certs.proofs.SizeLaws.{abs-add, abs-sub, abs-mul}

four : (p q r s : ℤ) → (p +ℤ q) +ℤ (r +ℤ s) ≡ (p +ℤ r) +ℤ (q +ℤ s)
four p q r s = omega (arith, ints)

-- (x * y) * z = (x * z) * y
turn-right : (x y z : ℤ) → (x *ℤ y) *ℤ z ≡ (x *ℤ z) *ℤ y
turn-right x y z = assoc x y z ∙ ap (λ w. x *ℤ w) (*ℤ_comm y z) ∙ sym (assoc x z y)

first-part : (x y h : ℤ) → (x *ℤ h) *ℤ (y *ℤ h) ≡ ((x *ℤ y) *ℤ h) *ℤ h
first-part x y h = sym (assoc (x *ℤ h) y h) ∙ ap (λ z. z *ℤ h) (turn-right x h y)

left_to : (p q r s : ℤ) → (p +ℤ q) +ℤ (r +ℤ s) ≡ (p +ℤ (q +ℤ r)) +ℤ s
left_to p q r s = omega (arith, ints)

product-halves : (x x' y y' h : ℤ) → (x *ℤ h +ℤ x') *ℤ (y *ℤ h +ℤ y') ≡ ((x *ℤ y) *ℤ h +ℤ (x *ℤ y' +ℤ x' *ℤ y)) *ℤ h +ℤ x' *ℤ y'
product-halves x x' y y' h = dist (x *ℤ h) x' (y *ℤ h +ℤ y')
    ∙ ap (λ z. z +ℤ x' *ℤ (y *ℤ h +ℤ y')) (dist-left (x *ℤ h) (y *ℤ h) y') ∙ ap (λ z. ((x *ℤ h) *ℤ (y *ℤ h) +ℤ (x *ℤ h) *ℤ y') +ℤ z) (dist-left x' (y *ℤ h) y')
    ∙ left_to ((x *ℤ h) *ℤ (y *ℤ h)) ((x *ℤ h) *ℤ y') (x' *ℤ (y *ℤ h)) (x' *ℤ y')
    ∙ ap (λ z. z +ℤ x' *ℤ y') (ap (λ z. z +ℤ ((x *ℤ h) *ℤ y' +ℤ x' *ℤ (y *ℤ h))) (first-part x y h)
    ∙ ap (λ z. ((x *ℤ y) *ℤ h) *ℤ h +ℤ z) (ap (λ z. z +ℤ x' *ℤ (y *ℤ h)) (turn-right x h y') ∙ ap (λ z. (x *ℤ y') *ℤ h +ℤ z) (sym (assoc x' y h)) ∙ sym (dist (x *ℤ y') (x' *ℤ y) h))
    ∙ sym (dist ((x *ℤ y) *ℤ h) (x *ℤ y' +ℤ x' *ℤ y) h))

sum-halves : (p q r p' q' r' h : ℤ) → ((p *ℤ h +ℤ q) *ℤ h +ℤ r) +ℤ ((p' *ℤ h +ℤ q') *ℤ h +ℤ r') ≡ ((p +ℤ p') *ℤ h +ℤ (q +ℤ q')) *ℤ h +ℤ (r +ℤ r')
sum-halves p q r p' q' r' h = four ((p *ℤ h +ℤ q) *ℤ h) r ((p' *ℤ h +ℤ q') *ℤ h) r'
    ∙ ap (λ z. z +ℤ (r +ℤ r')) (sym (dist (p *ℤ h +ℤ q) (p' *ℤ h +ℤ q') h) ∙ ap (λ z. z *ℤ h) (four (p *ℤ h) q (p' *ℤ h) q' ∙ ap (λ z. z +ℤ (q +ℤ q')) (sym (dist p p' h))))

-- a * m + b * n, where each number is given by its halves.
pub by-halves : (a m b n x x' y y' v v' w w' h : ℤ) → a ≡ x *ℤ h +ℤ x' → m ≡ y *ℤ h +ℤ y' → b ≡ v *ℤ h +ℤ v' → n ≡ w *ℤ h +ℤ w'
    → a *ℤ m +ℤ b *ℤ n ≡ ((x *ℤ y +ℤ v *ℤ w) *ℤ h +ℤ ((x *ℤ y' +ℤ v *ℤ w') +ℤ (x' *ℤ y +ℤ v' *ℤ w))) *ℤ h +ℤ (x' *ℤ y' +ℤ v' *ℤ w')
by-halves a m b n x x' y y' v v' w w' h e f g k =
    ap (λ z. z *ℤ m +ℤ b *ℤ n) e ∙ ap (λ z. (x *ℤ h +ℤ x') *ℤ z +ℤ b *ℤ n) f ∙ ap (λ z. (x *ℤ h +ℤ x') *ℤ (y *ℤ h +ℤ y') +ℤ z *ℤ n) g ∙ ap (λ z. (x *ℤ h +ℤ x') *ℤ (y *ℤ h +ℤ y') +ℤ (v *ℤ h +ℤ v') *ℤ z) k
    ∙ ap (λ z. z +ℤ (v *ℤ h +ℤ v') *ℤ (w *ℤ h +ℤ w')) (product-halves x x' y y' h)
    ∙ ap (λ z. (((x *ℤ y) *ℤ h +ℤ (x *ℤ y' +ℤ x' *ℤ y)) *ℤ h +ℤ x' *ℤ y') +ℤ z) (product-halves v v' w w' h)
    ∙ sum-halves (x *ℤ y) (x *ℤ y' +ℤ x' *ℤ y) (x' *ℤ y') (v *ℤ w) (v *ℤ w' +ℤ v' *ℤ w) (v' *ℤ w') h
    ∙ ap (λ z. ((x *ℤ y +ℤ v *ℤ w) *ℤ h +ℤ z) *ℤ h +ℤ (x' *ℤ y' +ℤ v' *ℤ w')) (four (x *ℤ y') (x' *ℤ y) (v *ℤ w') (v' *ℤ w))

-- ---- what is too large

by_fits : (b : Bool) → (b ≡ true → ⊥) → b ≡ false
by_fits true none = absurd (none refl)
by_fits false _ = refl

pub large-wide : (z : ℤ) → 2 ^ 126 ≤ unsigned_abs z → fits z ≡ false
large-wide z h = by_fits (fits z) (λ yes. too-large (unsigned_abs z) h (fits-size z yes))
  where
    too-large : (n : ℕ) → 2 ^ 126 ≤ n → n ≤ 2 ^ 100 → ⊥
    too-large n h k = omega arith

back : (x y z : ℤ) → x +ℤ y ≡ z → x ≡ z -ℤ y
back x y z e = omega (arith, ints)

no-smaller : (n : ℕ) → n ≤ n * 2 ^ 50
no-smaller n = omega arith

-- A large upper half makes the whole wide.
pub upper-wide : (u l : ℤ) → 2 ^ 126 ≤ unsigned_abs u → unsigned_abs l ≤ 2 ^ 102 → fits (u *ℤ pos (2 ^ 50) +ℤ l) ≡ false
upper-wide u l h k = by_fits (fits (u *ℤ pos (2 ^ 50) +ℤ l)) (λ yes.
    let whole = u *ℤ pos (2 ^ 50) +ℤ l in
    let small : unsigned_abs (u *ℤ pos (2 ^ 50)) ≤ 2 ^ 100 + 2 ^ 102 = subst (λ z. unsigned_abs z ≤ 2 ^ 100 + 2 ^ 102) (sym (back (u *ℤ pos (2 ^ 50)) l whole refl)) (abs-sub whole l (2 ^ 100) (2 ^ 102) (fits-size whole yes) k) in
    too-large (unsigned_abs u) h (subst (λ n. n ≤ 2 ^ 100 + 2 ^ 102) (unsigned_abs-mul u (pos (2 ^ 50))) small))
  where
    too-large : (n : ℕ) → 2 ^ 126 ≤ n → n * 2 ^ 50 ≤ 2 ^ 100 + 2 ^ 102 → ⊥
    too-large n h k = omega arith

pub fits-128 : (z : ℤ) (n : ℕ) → unsigned_abs z ≤ n → n < 2 ^ 127 → FitsSigned w128 z
fits-128 z n h k = fits_signed_from_abs w128 z (less (unsigned_abs z) n h k)
  where
    less : (m n : ℕ) → m ≤ n → n < 2 ^ 127 → m < 2 ^ 127
    less m n h k = omega arith

-- The size of a sum of two products.
pub products-small : (a b c d : ℤ) → unsigned_abs a ≤ 2 ^ 50 → unsigned_abs b ≤ 2 ^ 50 → unsigned_abs c ≤ 2 ^ 50 → unsigned_abs d ≤ 2 ^ 50 → unsigned_abs (a *ℤ b +ℤ c *ℤ d) ≤ 2 ^ 101
products-small a b c d ha hb hc hd = twice (unsigned_abs (a *ℤ b +ℤ c *ℤ d)) (abs-add (a *ℤ b) (c *ℤ d) (2 ^ 50 * 2 ^ 50) (2 ^ 50 * 2 ^ 50) (abs-mul a b (2 ^ 50) (2 ^ 50) ha hb) (abs-mul c d (2 ^ 50) (2 ^ 50) hc hd))
  where
    twice : (n : ℕ) → n ≤ 2 ^ 50 * 2 ^ 50 + 2 ^ 50 * 2 ^ 50 → n ≤ 2 ^ 101
    twice n h = omega arith

pub product-fits : (a b : ℤ) → unsigned_abs a ≤ 2 ^ 50 → unsigned_abs b ≤ 2 ^ 50 → FitsSigned w128 (a *ℤ b)
product-fits a b ha hb = fits-128 (a *ℤ b) (2 ^ 50 * 2 ^ 50) (abs-mul a b (2 ^ 50) (2 ^ 50) ha hb) (omega arith)

pub middle-small : (x y : ℤ) → unsigned_abs x ≤ 2 ^ 101 → unsigned_abs y ≤ 2 ^ 101 → unsigned_abs (x +ℤ y) ≤ 2 ^ 102
middle-small x y h k = twice (unsigned_abs (x +ℤ y)) (abs-add x y (2 ^ 101) (2 ^ 101) h k)
  where
    twice : (n : ℕ) → n ≤ 2 ^ 101 + 2 ^ 101 → n ≤ 2 ^ 102
    twice n h = omega arith

-- What is read from 128 bits.
pub read : (z : ℤ) (n : ℕ) → unsigned_abs z ≤ n → n < 2 ^ 127 → to_z w128 (of_z w128 z) ≡ z
read z n h k = to_z-of_z w128 z (fits-128 z n h k)

read-half : (z : ℤ) → unsigned_abs z ≤ 2 ^ 50 → to_z w128 (of_z w128 z) ≡ z
read-half z h = read z (2 ^ 50) h (omega arith)

read-product : (a b : ℤ) → unsigned_abs a ≤ 2 ^ 50 → unsigned_abs b ≤ 2 ^ 50 → to_z w128 (of_z w128 a) *ℤ to_z w128 (of_z w128 b) ≡ a *ℤ b
read-product a b ha hb = ap (λ z. z *ℤ to_z w128 (of_z w128 b)) (read-half a ha) ∙ ap (λ z. a *ℤ z) (read-half b hb)

pub read-products : (a b c d : ℤ) → unsigned_abs a ≤ 2 ^ 50 → unsigned_abs b ≤ 2 ^ 50 → unsigned_abs c ≤ 2 ^ 50 → unsigned_abs d ≤ 2 ^ 50
    → to_z w128 (of_z w128 a) *ℤ to_z w128 (of_z w128 b) +ℤ to_z w128 (of_z w128 c) *ℤ to_z w128 (of_z w128 d) ≡ a *ℤ b +ℤ c *ℤ d
read-products a b c d ha hb hc hd = ap (λ z. z +ℤ to_z w128 (of_z w128 c) *ℤ to_z w128 (of_z w128 d)) (read-product a b ha hb) ∙ ap (λ z. a *ℤ b +ℤ z) (read-product c d hc hd)

made-product : (a b : ℤ) → unsigned_abs a ≤ 2 ^ 50 → unsigned_abs b ≤ 2 ^ 50 → to_z w128 (of_z w128 (to_z w128 (of_z w128 a) *ℤ to_z w128 (of_z w128 b))) ≡ a *ℤ b
made-product a b ha hb = ap (λ z. to_z w128 (of_z w128 z)) (read-product a b ha hb) ∙ to_z-of_z w128 (a *ℤ b) (product-fits a b ha hb)

pub made-products : (a b c d : ℤ) → unsigned_abs a ≤ 2 ^ 50 → unsigned_abs b ≤ 2 ^ 50 → unsigned_abs c ≤ 2 ^ 50 → unsigned_abs d ≤ 2 ^ 50
    → to_z w128 (of_z w128 (to_z w128 (of_z w128 a) *ℤ to_z w128 (of_z w128 b))) +ℤ to_z w128 (of_z w128 (to_z w128 (of_z w128 c) *ℤ to_z w128 (of_z w128 d))) ≡ a *ℤ b +ℤ c *ℤ d
made-products a b c d ha hb hc hd = ap (λ z. z +ℤ to_z w128 (of_z w128 (to_z w128 (of_z w128 c) *ℤ to_z w128 (of_z w128 d)))) (made-product a b ha hb) ∙ ap (λ z. a *ℤ b +ℤ z) (made-product c d hc hd)

-- A number that was read from 128 bits.
abbrev pub bits : ℤ → ℤ
bits z = to_z w128 (of_z w128 z)

-- The sums of the products of the halves, put together.
pub whole-is : (a m b n : ℤ) (x y v w : Halves) (high one two low : ℤ) → IsHalved a x → IsHalved m y → IsHalved b v → IsHalved n w
    → high ≡ bits x.high *ℤ bits y.high +ℤ bits v.high *ℤ bits w.high → one ≡ bits x.high *ℤ bits y.low +ℤ bits v.high *ℤ bits w.low
    → two ≡ bits x.low *ℤ bits y.high +ℤ bits v.low *ℤ bits w.high → low ≡ bits x.low *ℤ bits y.low +ℤ bits v.low *ℤ bits w.low
    → unsigned_abs high ≤ 2 ^ 101 → unsigned_abs one ≤ 2 ^ 101 → unsigned_abs two ≤ 2 ^ 101 → unsigned_abs low ≤ 2 ^ 101
    → a *ℤ m +ℤ b *ℤ n ≡ (bits high *ℤ pos (2 ^ 50) +ℤ bits (bits one +ℤ bits two)) *ℤ pos (2 ^ 50) +ℤ bits low
whole-is a m b n x y v w high one two low hx hy hv hw high_is one_is two_is low_is high_small one_small two_small low_small =
    by-halves a m b n x.high x.low y.high y.low v.high v.low w.high w.low (pos (2 ^ 50)) hx.value hy.value hv.value hw.value
    ∙ sym (ap (λ z. (z *ℤ pos (2 ^ 50) +ℤ bits (bits one +ℤ bits two)) *ℤ pos (2 ^ 50) +ℤ bits low) (number high high_small ∙ high_is ∙ read-products x.high y.high v.high w.high hx.high hy.high hv.high hw.high)
    ∙ ap (λ z. ((x.high *ℤ y.high +ℤ v.high *ℤ w.high) *ℤ pos (2 ^ 50) +ℤ z) *ℤ pos (2 ^ 50) +ℤ bits low)
    (ap (λ z. bits (z +ℤ bits two)) (number one one_small) ∙ ap (λ z. bits (one +ℤ z)) (number two two_small) ∙ read (one +ℤ two) (2 ^ 102) (middle-small one two one_small two_small) (omega arith)
    ∙ ap (λ z. z +ℤ two) (one_is ∙ read-products x.high y.low v.high w.low hx.high hy.low hv.high hw.low)
    ∙ ap (λ z. (x.high *ℤ y.low +ℤ v.high *ℤ w.low) +ℤ z) (two_is ∙ read-products x.low y.high v.low w.high hx.low hy.high hv.low hw.high))
    ∙ ap (λ z. ((x.high *ℤ y.high +ℤ v.high *ℤ w.high) *ℤ pos (2 ^ 50) +ℤ ((x.high *ℤ y.low +ℤ v.high *ℤ w.low) +ℤ (x.low *ℤ y.high +ℤ v.low *ℤ w.high))) *ℤ pos (2 ^ 50) +ℤ z)
    (number low low_small ∙ low_is ∙ read-products x.low y.low v.low w.low hx.low hy.low hv.low hw.low))
  where
    number : (z : ℤ) → unsigned_abs z ≤ 2 ^ 101 → bits z ≡ z
    number z h = read z (2 ^ 101) h (omega arith)

pub bits-small : (z : ℤ) → unsigned_abs z ≤ 2 ^ 101 → unsigned_abs (bits z) ≤ 2 ^ 102
bits-small z h = subst (λ y. unsigned_abs y ≤ 2 ^ 102) (sym (read z (2 ^ 101) h (omega arith))) (more (unsigned_abs z) h)
  where
    more : (n : ℕ) → n ≤ 2 ^ 101 → n ≤ 2 ^ 102
    more n h = omega arith
