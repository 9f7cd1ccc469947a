-- Laws of whole numbers.
use Rattle.std.proofs.Common.{◌≡◌, ◌∙◌, ℕ, ℤ, pos, negsuc, ◌+ℤ◌, ◌-ℤ◌, ◌*ℤ◌, ◌≤ℤ◌, ◌<ℤ◌, ap, sym, arith, subst, suc, zero}
use Rattle.std.proofs.lemmas.Int.{ints, by_lt_z}
use Rattle.std.proofs.Math.IntN.{suc_ℤ-*ℤ, pred_ℤ-*ℤ, *ℤ_comm, zero-*ℤ, suc_ℤ-+ℤ, pred_ℤ-+ℤ, pos-*ℤ-pos}

zero-sum : (b : ℤ) → pos 0 +ℤ b ≡ b
zero-sum b = omega (arith, ints)

move : (p q c : ℤ) → (p +ℤ q) +ℤ c ≡ (p +ℤ c) +ℤ q
move p q c = omega (arith, ints)

move-minus : (p q c : ℤ) → (p +ℤ q) -ℤ c ≡ (p -ℤ c) +ℤ q
move-minus p q c = omega (arith, ints)

dist-pos : (n : ℕ) (b c : ℤ) → (pos n +ℤ b) *ℤ c ≡ pos n *ℤ c +ℤ b *ℤ c
dist-pos zero b c = ap (λ z. z *ℤ c) (zero-sum b) ∙ sym (zero-sum (b *ℤ c)) ∙ ap (λ z. z +ℤ b *ℤ c) (sym (zero-*ℤ c))
dist-pos (suc n) b c = ap (λ z. z *ℤ c) (suc_ℤ-+ℤ (pos n) b) ∙ suc_ℤ-*ℤ (pos n +ℤ b) c ∙ ap (λ z. z +ℤ c) (dist-pos n b c)
    ∙ move (pos n *ℤ c) (b *ℤ c) c ∙ ap (λ z. z +ℤ b *ℤ c) (sym (suc_ℤ-*ℤ (pos n) c))

dist-neg : (n : ℕ) (b c : ℤ) → (negsuc n +ℤ b) *ℤ c ≡ negsuc n *ℤ c +ℤ b *ℤ c
dist-neg zero b c = ap (λ z. z *ℤ c) (pred_ℤ-+ℤ (pos 0) b) ∙ pred_ℤ-*ℤ (pos 0 +ℤ b) c ∙ ap (λ z. z -ℤ c) (dist-pos 0 b c)
    ∙ move-minus (pos 0 *ℤ c) (b *ℤ c) c ∙ ap (λ z. z +ℤ b *ℤ c) (sym (pred_ℤ-*ℤ (pos 0) c))
dist-neg (suc n) b c = ap (λ z. z *ℤ c) (pred_ℤ-+ℤ (negsuc n) b) ∙ pred_ℤ-*ℤ (negsuc n +ℤ b) c ∙ ap (λ z. z -ℤ c) (dist-neg n b c)
    ∙ move-minus (negsuc n *ℤ c) (b *ℤ c) c ∙ ap (λ z. z +ℤ b *ℤ c) (sym (pred_ℤ-*ℤ (negsuc n) c))

pub dist : (a b c : ℤ) → (a +ℤ b) *ℤ c ≡ a *ℤ c +ℤ b *ℤ c
dist (pos n) b c = dist-pos n b c
dist (negsuc n) b c = dist-neg n b c

pub dist-left : (c a b : ℤ) → c *ℤ (a +ℤ b) ≡ c *ℤ a +ℤ c *ℤ b
dist-left c a b = *ℤ_comm c (a +ℤ b) ∙ dist a b c ∙ ap (λ z. z +ℤ b *ℤ c) (*ℤ_comm a c) ∙ ap (λ z. c *ℤ a +ℤ z) (*ℤ_comm b c)

back : (a b : ℤ) → (a -ℤ b) +ℤ b ≡ a
back a b = omega (arith, ints)

left_alone : (x y z : ℤ) → x +ℤ y ≡ z → x ≡ z -ℤ y
left_alone x y z e = omega (arith, ints)

minus-dist : (a b c : ℤ) → (a -ℤ b) *ℤ c ≡ a *ℤ c -ℤ b *ℤ c
minus-dist a b c = let whole = sym (dist (a -ℤ b) b c) ∙ ap (λ z. z *ℤ c) (back a b) in left_alone _ _ _ whole

assoc-pos : (n : ℕ) (b c : ℤ) → (pos n *ℤ b) *ℤ c ≡ pos n *ℤ (b *ℤ c)
assoc-pos zero b c = ap (λ z. z *ℤ c) (zero-*ℤ b) ∙ zero-*ℤ c ∙ sym (zero-*ℤ (b *ℤ c))
assoc-pos (suc n) b c = ap (λ z. z *ℤ c) (suc_ℤ-*ℤ (pos n) b) ∙ dist (pos n *ℤ b) b c ∙ ap (λ z. z +ℤ b *ℤ c) (assoc-pos n b c) ∙ sym (suc_ℤ-*ℤ (pos n) (b *ℤ c))

assoc-neg : (n : ℕ) (b c : ℤ) → (negsuc n *ℤ b) *ℤ c ≡ negsuc n *ℤ (b *ℤ c)
assoc-neg zero b c = ap (λ z. z *ℤ c) (pred_ℤ-*ℤ (pos 0) b) ∙ minus-dist (pos 0 *ℤ b) b c ∙ ap (λ z. z -ℤ b *ℤ c) (assoc-pos 0 b c) ∙ sym (pred_ℤ-*ℤ (pos 0) (b *ℤ c))
assoc-neg (suc n) b c = ap (λ z. z *ℤ c) (pred_ℤ-*ℤ (negsuc n) b) ∙ minus-dist (negsuc n *ℤ b) b c ∙ ap (λ z. z -ℤ b *ℤ c) (assoc-neg n b c) ∙ sym (pred_ℤ-*ℤ (negsuc n) (b *ℤ c))

pub assoc : (a b c : ℤ) → (a *ℤ b) *ℤ c ≡ a *ℤ (b *ℤ c)
assoc (pos n) b c = assoc-pos n b c
assoc (negsuc n) b c = assoc-neg n b c

-- A number that is at least 0 keeps an order.
nonneg : (m g : ℤ) → pos 0 ≤ℤ m → pos 0 ≤ℤ g → pos 0 ≤ℤ (m *ℤ g)
nonneg (pos m) (pos g) h k = subst (λ z. pos 0 ≤ℤ z) (sym (pos-*ℤ-pos m g)) (omega (arith, ints))
nonneg (pos m) (negsuc g) h k = absurd (omega (arith, ints))
nonneg (negsuc m) g h k = absurd (omega (arith, ints))

gap : (x y : ℤ) → x +ℤ (y -ℤ x) ≡ y
gap x y = omega (arith, ints)

gap-up : (x y : ℤ) → x ≤ℤ y → pos 0 ≤ℤ (y -ℤ x)
gap-up x y h = omega (arith, ints)

add-up : (x g y : ℤ) → pos 0 ≤ℤ g → x +ℤ g ≡ y → x ≤ℤ y
add-up x g y h e = omega (arith, ints)

pub mul-le : (m x y : ℤ) → pos 0 ≤ℤ m → x ≤ℤ y → (m *ℤ x) ≤ℤ (m *ℤ y)
mul-le m x y m_up h = add-up (m *ℤ x) (m *ℤ (y -ℤ x)) (m *ℤ y) (nonneg m (y -ℤ x) m_up (gap-up x y h)) (sym (dist-left m x (y -ℤ x)) ∙ ap (λ z. m *ℤ z) (gap x y))

pub times-one : (d : ℤ) → d *ℤ pos 1 ≡ d
times-one d = *ℤ_comm d (pos 1) ∙ suc_ℤ-*ℤ (pos 0) d ∙ ap (λ z. z +ℤ d) (zero-*ℤ d) ∙ zero-sum d

round-core : (dq ds next d b r : ℤ) → next ≡ dq +ℤ d → next ≤ℤ ds → ds ≤ℤ b → b ≡ dq +ℤ r → r <ℤ d → ⊥
round-core dq ds next d b r e h k is small = omega (arith, ints)

one-more : (q s : ℤ) → q <ℤ s → (q +ℤ pos 1) ≤ℤ s
one-more q s h = omega (arith, ints)

-- A row whose coefficients d divides keeps its bound rounded down: d * s <= b, with b = d * q + r and r below d.
pub round-down : (d s b q r : ℤ) → pos 0 ≤ℤ d → b ≡ d *ℤ q +ℤ r → r <ℤ d → (d *ℤ s) ≤ℤ b → s ≤ℤ q
round-down d s b q r up is small h = by_lt_z q s
    (λ less. absurd (round-core (d *ℤ q) (d *ℤ s) (d *ℤ (q +ℤ pos 1)) d b r (dist-left d q (pos 1) ∙ ap (λ z. d *ℤ q +ℤ z) (times-one d)) (mul-le d (q +ℤ pos 1) s up (one-more q s less)) h is small))
    (λ le. le)
