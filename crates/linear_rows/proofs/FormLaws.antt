-- Sums of rows in form are in form, and have the coefficients that the rows give.
use Rattle.std.proofs.Common.{◌≡◌, ◌∙◌, ◌<◌, ◌≤◌, ℕ, ℤ, pos, negsuc, ◌+ℤ◌, ◌*ℤ◌, List, [], ◌∷◌, ap, sym, refl, arith, subst, Bool, true, false, suc, zero, nat_lt, nat_eq, if◌then◌else◌}
use Rattle.std.proofs.lemmas.Int.{ints}
use Rattle.std.proofs.Math.IntN.{*ℤ-zero}
use Rattle.linear_rows.specs.Sums.{Part, From, before, scaled, joined, sums, dot, coefficient}
use Rattle.linear_rows.proofs.Ring.{times-one}
use Rattle.linear_rows.proofs.SumLaws.{dot-sums}

pub From-lower : (low high : ℕ) (parts : List Part) → low ≤ high → From high parts → From low parts
From-lower low high [] h from = tt
From-lower low high (x ∷ xs) h from = let first = from.0 in (omega arith, from.1, from.2)

pub From-before : (low a : ℕ) (c : ℤ) (rest : List Part) → low ≤ a → From (suc a) rest → From low (before (a, c) rest)
From-before low a (pos zero) rest h from = From-lower low (suc a) rest (omega arith) from
From-before low a (pos (suc n)) rest h from = (h, refl, from)
From-before low a (negsuc n) rest h from = (h, refl, from)

pub From-scaled : (low : ℕ) (t : ℤ) (right : List Part) → From low right → From low (scaled t right)
From-scaled low t [] from = tt
From-scaled low t (y ∷ ys) from = From-before low y.0 (t *ℤ y.1) (scaled t ys) from.0 (From-scaled (suc y.0) t ys from.2)

by_order : (x y : ℕ) {a b c : List Part} (P : List Part → Type 0) → (x < y → P a) → (y < x → P b) → (x ≡ y → P c) → P (if nat_lt x y then a else if nat_lt y x then b else c)
by_order x y {a = a} {b = b} {c = c} P less more same = go (nat_lt x y) (nat_lt y x) (λ h. less (grind (arith, h))) (λ h. more (grind (arith, h))) (λ h k. same (grind (arith, h, k)))
  where
    go : (first second : Bool) → (first ≡ true → P a) → (second ≡ true → P b) → (first ≡ false → second ≡ false → P c) → P (if first then a else if second then b else c)
    go true second one two three = one refl
    go false true one two three = two refl
    go false false one two three = three refl refl

From-joined : (t : ℤ) (x : Part) (rest : List Part → List Part) (xs : List Part)
    → ((low : ℕ) (right : List Part) → From low xs → From low right → From low (rest right))
    → (low : ℕ) (right : List Part) → From low (x ∷ xs) → From low right → From low (joined t x rest right)
From-joined t x rest xs known low [] from other = From-before low x.0 x.1 (rest []) from.0 (known (suc x.0) [] from.2 tt)
From-joined t x rest xs known low (y ∷ ys) from other = by_order x.0 y.0 (λ list. From low list)
    (λ less. From-before low x.0 x.1 (rest (y ∷ ys)) from.0 (known (suc x.0) (y ∷ ys) from.2 (omega arith, other.1, other.2)))
    (λ more. From-before low y.0 (t *ℤ y.1) (joined t x rest ys) other.0 (From-joined t x rest xs known (suc y.0) ys (omega arith, from.1, from.2) other.2))
    (λ same. From-before low x.0 (x.1 +ℤ t *ℤ y.1) (rest ys) from.0 (known (suc x.0) ys from.2 (subst (λ n. From (suc n) ys) (sym same) other.2)))

pub From-sums : (t : ℤ) (left : List Part) (low : ℕ) (right : List Part) → From low left → From low right → From low (sums t left right)
From-sums t [] low right from other = From-scaled low t right other
From-sums t (x ∷ xs) low right from other = From-joined t x (sums t xs) xs (From-sums t xs) low right from other

-- The point that is 1 at one atom, and 0 elsewhere.
abbrev pub unit : ℕ → ℕ → ℤ
unit atom a = if nat_eq a atom then pos 1 else pos 0

unit-other : (atom a : ℕ) → atom < a → unit atom a ≡ pos 0
unit-other atom a h = grind (arith, h)

no-part : (c u d : ℤ) → u ≡ pos 0 → d ≡ pos 0 → c *ℤ u +ℤ d ≡ pos 0
no-part c u d e f = ap (λ z. c *ℤ z +ℤ d) e ∙ ap (λ z. z +ℤ d) (*ℤ-zero c) ∙ ap (λ z. pos 0 +ℤ z) f

dot-absent : (atom low : ℕ) (parts : List Part) → atom < low → From low parts → dot (unit atom) parts ≡ pos 0
dot-absent atom low [] h from = refl
dot-absent atom low (x ∷ xs) h from = let first = from.0 in no-part x.1 (unit atom x.0) (dot (unit atom) xs) (unit-other atom x.0 (omega arith)) (dot-absent atom (suc x.0) xs (omega arith) from.2)

by_equal : (x y : ℕ) (P : Bool → Type 0) → (x ≡ y → P true) → (nat_eq x y ≡ false → P false) → P (nat_eq x y)
by_equal x y P same other = go (nat_eq x y) (λ h. same (grind (arith, h))) other
  where
    go : (b : Bool) → (b ≡ true → P true) → (b ≡ false → P false) → P b
    go true one two = one refl
    go false one two = two refl

one-part : (c d : ℤ) → d ≡ pos 0 → c *ℤ pos 1 +ℤ d ≡ c
one-part c d e = ap (λ z. z +ℤ d) (times-one c) ∙ plus-zero c d e
  where
    plus-zero : (p q : ℤ) → q ≡ pos 0 → p +ℤ q ≡ p
    plus-zero p q h = omega (arith, ints)

skipped-part : (c d : ℤ) → c *ℤ pos 0 +ℤ d ≡ d
skipped-part c d = ap (λ z. z +ℤ d) (*ℤ-zero c) ∙ zero-plus d
  where
    zero-plus : (p : ℤ) → pos 0 +ℤ p ≡ p
    zero-plus p = omega (arith, ints)

pub dot-unit : (atom low : ℕ) (parts : List Part) → From low parts → dot (unit atom) parts ≡ coefficient atom parts
dot-unit atom low [] from = refl
dot-unit atom low (x ∷ xs) from = by_equal x.0 atom (λ b. x.1 *ℤ (if b then pos 1 else pos 0) +ℤ dot (unit atom) xs ≡ (if b then x.1 else coefficient atom xs))
    (λ same. one-part x.1 (dot (unit atom) xs) (dot-absent atom (suc x.0) xs (omega arith) from.2))
    (λ other. skipped-part x.1 (dot (unit atom) xs) ∙ dot-unit atom (suc x.0) xs from.2)

pub coefficient-sums : (t : ℤ) (left right : List Part) (atom : ℕ) → From 0 left → From 0 right → coefficient atom (sums t left right) ≡ coefficient atom left +ℤ t *ℤ coefficient atom right
coefficient-sums t left right atom from other = sym (dot-unit atom 0 (sums t left right) (From-sums t left 0 right from other)) ∙ dot-sums (unit atom) t left right
    ∙ ap (λ z. z +ℤ t *ℤ dot (unit atom) right) (dot-unit atom 0 left from) ∙ ap (λ z. coefficient atom left +ℤ t *ℤ z) (dot-unit atom 0 right other)

-- At the point that is 1 at its first atom alone, a row comes to its first coefficient.
pub coefficient-first-unit : (x : Part) (xs : List Part) (low : ℕ) → From low (x ∷ xs) → dot (unit x.0) (x ∷ xs) ≡ x.1
coefficient-first-unit x xs low from = dot-unit x.0 low (x ∷ xs) from ∙ same x.0 x.1 (coefficient x.0 xs)
  where
    same : (a : ℕ) (c e : ℤ) → (if nat_eq a a then c else e) ≡ c
    same a c e = grind arith
