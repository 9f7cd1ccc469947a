-- Orders of products, and of the fractions that rows set as limits.
use Rattle.std.proofs.Common.{◌≡◌, ◌∙◌, ℕ, ℤ, pos, negsuc, ◌+ℤ◌, ◌-ℤ◌, ◌*ℤ◌, ◌≤ℤ◌, ◌<ℤ◌, ap, sym, arith, Bool, true, false, suc, zero, neg_ℤ}
use Rattle.std.proofs.lemmas.Int.{ints, by_lt_z}
use Rattle.std.proofs.Math.IntN.{*ℤ_comm, zero-*ℤ, *ℤ-zero}
use Rattle.linear_rows.proofs.Ring.{dist, dist-left, assoc, mul-le, times-one}
use Rattle.linear_rows.specs.Sums.{coefficient}
use Rattle.linear_certs.specs.declared.entry.Entry.{Entry}
use Rattle.linear_certs.specs.Stages.{is_positive, is_negative}
use Rattle.linear_certs.specs.Code.Limits.{IsAsTight, side_of}

pub at-most : (a b : ℤ) → a <ℤ b → a ≤ℤ b
at-most a b h = omega (arith, ints)

pub le-same : (a b : ℤ) → a ≡ b → a ≤ℤ b
le-same a b e = omega (arith, ints)

pub le-trans : (a b c : ℤ) → a ≤ℤ b → b ≤ℤ c → a ≤ℤ c
le-trans a b c h k = omega (arith, ints)

pub le-between : (a b c d : ℤ) → a ≡ b → b ≤ℤ c → c ≡ d → a ≤ℤ d
le-between a b c d e h f = omega (arith, ints)

pub le-both : (a b : ℤ) → a ≤ℤ b → b ≤ℤ a → a ≡ b
le-both a b h k = omega (arith, ints)

one-more : (q s : ℤ) → q <ℤ s → (q +ℤ pos 1) ≤ℤ s
one-more q s h = omega (arith, ints)

too-far : (mx my m next : ℤ) → pos 0 <ℤ m → next ≡ my +ℤ m → next ≤ℤ mx → mx ≤ℤ my → ⊥
too-far mx my m next up e h k = omega (arith, ints)

pub cancel-le : (m x y : ℤ) → pos 0 <ℤ m → (m *ℤ x) ≤ℤ (m *ℤ y) → x ≤ℤ y
cancel-le m x y up h = by_lt_z y x
    (λ less. absurd (too-far (m *ℤ x) (m *ℤ y) m (m *ℤ (y +ℤ pos 1)) up (dist-left m y (pos 1) ∙ ap (λ z. m *ℤ y +ℤ z) (times-one m)) (mul-le m (y +ℤ pos 1) x (at-most (pos 0) m up) (one-more y x less)) h))
    (λ le. le)

pub cancel : (m x y : ℤ) → pos 0 <ℤ m → m *ℤ x ≡ m *ℤ y → x ≡ y
cancel m x y up e = le-both x y (cancel-le m x y up (le-same _ _ e)) (cancel-le m y x up (le-same _ _ (sym e)))

pub swap : (a b c : ℤ) → a *ℤ (b *ℤ c) ≡ b *ℤ (a *ℤ c)
swap a b c = sym (assoc a b c) ∙ ap (λ z. z *ℤ c) (*ℤ_comm a b) ∙ assoc b a c

-- a * (b * c) = b * (c * a)
pub turn : (a b c : ℤ) → a *ℤ (b *ℤ c) ≡ b *ℤ (c *ℤ a)
turn a b c = swap a b c ∙ ap (λ z. b *ℤ z) (*ℤ_comm a c)

gone : (c : ℤ) → (pos 0 -ℤ c) +ℤ c ≡ pos 0
gone c = omega (arith, ints)

opposite-up : (c : ℤ) → c ≤ℤ pos 0 → pos 0 ≤ℤ (pos 0 -ℤ c)
opposite-up c h = omega (arith, ints)

other-way : (mx my cx cy : ℤ) → mx +ℤ cx ≡ pos 0 → my +ℤ cy ≡ pos 0 → my ≤ℤ mx → cx ≤ℤ cy
other-way mx my cx cy e f h = omega (arith, ints)

pub mul-le-down : (c x y : ℤ) → c ≤ℤ pos 0 → y ≤ℤ x → (c *ℤ x) ≤ℤ (c *ℤ y)
mul-le-down c x y down h = let m = pos 0 -ℤ c in
    other-way (m *ℤ x) (m *ℤ y) (c *ℤ x) (c *ℤ y) (sym (dist m c x) ∙ ap (λ z. z *ℤ x) (gone c) ∙ zero-*ℤ x) (sym (dist m c y) ∙ ap (λ z. z *ℤ y) (gone c) ∙ zero-*ℤ y)
    (mul-le m y x (opposite-up c down) h)

pub positive-up : (c : ℤ) → is_positive c ≡ true → pos 0 <ℤ c
positive-up (pos n) h = by_number n h
  where
    by_number : (n : ℕ) → is_positive (pos n) ≡ true → pos 0 <ℤ pos n
    by_number zero h = absurd cc
    by_number (suc n) h = omega (arith, ints)
positive-up (negsuc n) h = absurd cc

pub negative-down : (c : ℤ) → is_negative c ≡ true → c <ℤ pos 0
negative-down (pos n) h = absurd cc
negative-down (negsuc n) h = omega (arith, ints)

-- A tighter limit makes the atom's part smaller.
times-side : (lower : Bool) (atom : ℕ) (entry : Entry) (x y : ℤ) → side_of lower atom entry ≡ true → IsAsTight lower x y → (coefficient atom entry.row.parts *ℤ x) ≤ℤ (coefficient atom entry.row.parts *ℤ y)
times-side true atom entry x y side tight = mul-le-down (coefficient atom entry.row.parts) x y (at-most _ _ (negative-down (coefficient atom entry.row.parts) side)) tight
times-side false atom entry x y side tight = mul-le (coefficient atom entry.row.parts) x y (at-most _ _ (positive-up (coefficient atom entry.row.parts) side)) tight

-- What leaves a row true at a limit leaves it true at a tighter one.
pub moved : (c room num den num' den' : ℤ) → pos 0 <ℤ den → pos 0 <ℤ den' → (c *ℤ (num' *ℤ den)) ≤ℤ (c *ℤ (num *ℤ den')) → (c *ℤ num) ≤ℤ (room *ℤ den) → (c *ℤ num') ≤ℤ (room *ℤ den')
moved c room num den num' den' up up' tighter holds = cancel-le den (c *ℤ num') (room *ℤ den') up
    (le-trans (den *ℤ (c *ℤ num')) (den' *ℤ (c *ℤ num)) (den *ℤ (room *ℤ den'))
    (le-between (den *ℤ (c *ℤ num')) (c *ℤ (num' *ℤ den)) (c *ℤ (num *ℤ den')) (den' *ℤ (c *ℤ num)) (turn den c num') tighter (sym (turn den' c num)))
    (le-between (den' *ℤ (c *ℤ num)) (den' *ℤ (c *ℤ num)) (den' *ℤ (room *ℤ den)) (den *ℤ (room *ℤ den')) (same (den' *ℤ (c *ℤ num))) (mul-le den' (c *ℤ num) (room *ℤ den) (at-most _ _ up') holds)
    (turn den' room den ∙ sym (swap den room den'))))
  where
    same : (z : ℤ) → z ≡ z
    same z = omega (arith, ints)

pub moved-side : (lower : Bool) (atom : ℕ) (entry : Entry) (room num den num' den' : ℤ) → pos 0 <ℤ den → pos 0 <ℤ den' → side_of lower atom entry ≡ true → IsAsTight lower (num' *ℤ den) (num *ℤ den')
    → (coefficient atom entry.row.parts *ℤ num) ≤ℤ (room *ℤ den) → (coefficient atom entry.row.parts *ℤ num') ≤ℤ (room *ℤ den')
moved-side lower atom entry room num den num' den' up up' side tight holds = moved (coefficient atom entry.row.parts) room num den num' den' up up' (times-side lower atom entry (num' *ℤ den) (num *ℤ den') side tight) holds

unneg : (r : ℤ) → neg_ℤ r +ℤ r ≡ pos 0
unneg r = omega (arith, ints)

same-rest : (p q r : ℤ) → p +ℤ r ≡ pos 0 → q +ℤ r ≡ pos 0 → p ≡ q
same-rest p q r e f = omega (arith, ints)

pub neg-cross : (c r : ℤ) → c *ℤ neg_ℤ r ≡ r *ℤ neg_ℤ c
neg-cross c r = same-rest (c *ℤ neg_ℤ r) (r *ℤ neg_ℤ c) (c *ℤ r) (sym (dist-left c (neg_ℤ r) r) ∙ ap (λ z. c *ℤ z) (unneg r) ∙ *ℤ-zero c)
    (ap (λ z. r *ℤ neg_ℤ c +ℤ z) (*ℤ_comm c r) ∙ sym (dist-left r (neg_ℤ c) c) ∙ ap (λ z. r *ℤ z) (unneg c) ∙ *ℤ-zero r)
