-- What sums mean.
use Rattle.std.proofs.Common.{◌≡◌, ◌∙◌, ℕ, ℤ, pos, negsuc, ◌+ℤ◌, ◌*ℤ◌, List, [], ◌∷◌, ap, sym, refl, arith, Bool, true, false, suc, zero, nat_lt, if◌then◌else◌}
use Rattle.std.proofs.lemmas.Int.{ints}
use Rattle.std.proofs.Math.IntN.{zero-*ℤ, *ℤ_comm}
use Rattle.linear_rows.proofs.Ring.{dist, dist-left, assoc}
use Rattle.linear_rows.specs.Numbers.{is_zero}
use Rattle.linear_rows.specs.Sums.{Part, before, scaled, joined, sums, dot}

lin : (p q r s : ℤ) → (p +ℤ q) +ℤ (r +ℤ s) ≡ (p +ℤ r) +ℤ (q +ℤ s)
lin p q r s = omega (arith, ints)

-- One atom of both.
both : (x t y v dl dr : ℤ) → (x +ℤ t *ℤ y) *ℤ v +ℤ (dl +ℤ t *ℤ dr) ≡ (x *ℤ v +ℤ dl) +ℤ t *ℤ (y *ℤ v +ℤ dr)
both x t y v dl dr = ap (λ z. z +ℤ (dl +ℤ t *ℤ dr)) (dist x (t *ℤ y) v) ∙ lin (x *ℤ v) ((t *ℤ y) *ℤ v) dl (t *ℤ dr)
    ∙ ap (λ z. (x *ℤ v +ℤ dl) +ℤ (z +ℤ t *ℤ dr)) (assoc t y v) ∙ ap (λ z. (x *ℤ v +ℤ dl) +ℤ z) (sym (dist-left t (y *ℤ v) dr))

swap3 : (p q r : ℤ) → p +ℤ (q +ℤ r) ≡ q +ℤ (p +ℤ r)
swap3 p q r = omega (arith, ints)

left_first : (p q r : ℤ) → p +ℤ (q +ℤ r) ≡ (p +ℤ q) +ℤ r
left_first p q r = omega (arith, ints)

zero-sum : (b : ℤ) → pos 0 +ℤ b ≡ b
zero-sum b = omega (arith, ints)

sum-zero : (b : ℤ) → b ≡ b +ℤ pos 0
sum-zero b = omega (arith, ints)

right_first : (t y v dl dr : ℤ) → (t *ℤ y) *ℤ v +ℤ (dl +ℤ t *ℤ dr) ≡ dl +ℤ t *ℤ (y *ℤ v +ℤ dr)
right_first t y v dl dr = ap (λ z. z +ℤ (dl +ℤ t *ℤ dr)) (assoc t y v) ∙ swap3 (t *ℤ (y *ℤ v)) dl (t *ℤ dr) ∙ ap (λ z. dl +ℤ z) (sym (dist-left t (y *ℤ v) dr))

nothing : (x v d : ℤ) → is_zero x ≡ true → x *ℤ v +ℤ d ≡ d
nothing (pos zero) v d h = ap (λ z. z +ℤ d) (zero-*ℤ v) ∙ zero-sum d
nothing (pos (suc n)) v d h = absurd cc
nothing (negsuc n) v d h = absurd cc

dot-before : (point : ℕ → ℤ) (a : ℕ) (c : ℤ) (rest : List Part) → dot point (before (a, c) rest) ≡ c *ℤ point a +ℤ dot point rest
dot-before point a (pos zero) rest = sym (nothing (pos zero) (point a) (dot point rest) refl)
dot-before point a (pos (suc n)) rest = refl
dot-before point a (negsuc n) rest = refl

pub dot-scaled : (point : ℕ → ℤ) (t : ℤ) (right : List Part) → dot point (scaled t right) ≡ t *ℤ dot point right
dot-scaled point t [] = sym (*ℤ_comm t (pos 0) ∙ zero-*ℤ t)
dot-scaled point t (y ∷ ys) = dot-before point y.0 (t *ℤ y.1) (scaled t ys) ∙ ap (λ z. (t *ℤ y.1) *ℤ point y.0 +ℤ z) (dot-scaled point t ys)
    ∙ ap (λ z. z +ℤ t *ℤ dot point ys) (assoc t y.1 (point y.0)) ∙ sym (dist-left t (y.1 *ℤ point y.0) (dot point ys))

choose : (less more : Bool) {a b c : List Part} (P : List Part → Type 0) → P a → P b → (less ≡ false → more ≡ false → P c) → P (if less then a else if more then b else c)
choose true more P pa pb pc = pa
choose false true P pa pb pc = pb
choose false false P pa pb pc = pc refl refl

equal : (x y : ℕ) → nat_lt x y ≡ false → nat_lt y x ≡ false → x ≡ y
equal x y h k = grind (arith, h, k)

dot-joined : (point : ℕ → ℤ) (t : ℤ) (x : Part) (rest : List Part → List Part) (left : List Part)
    → ((right : List Part) → dot point (rest right) ≡ dot point left +ℤ t *ℤ dot point right)
    → (right : List Part) → dot point (joined t x rest right) ≡ (x.1 *ℤ point x.0 +ℤ dot point left) +ℤ t *ℤ dot point right
dot-joined point t x rest left known [] = dot-before point x.0 x.1 (rest []) ∙ ap (λ z. x.1 *ℤ point x.0 +ℤ z) (known []) ∙ left_first (x.1 *ℤ point x.0) (dot point left) (t *ℤ pos 0)
dot-joined point t x rest left known (y ∷ ys) = choose (nat_lt x.0 y.0) (nat_lt y.0 x.0)
    (λ list. dot point list ≡ (x.1 *ℤ point x.0 +ℤ dot point left) +ℤ t *ℤ dot point (y ∷ ys))
    (dot-before point x.0 x.1 (rest (y ∷ ys)) ∙ ap (λ z. x.1 *ℤ point x.0 +ℤ z) (known (y ∷ ys)) ∙ left_first (x.1 *ℤ point x.0) (dot point left) (t *ℤ dot point (y ∷ ys)))
    (dot-before point y.0 (t *ℤ y.1) (joined t x rest ys) ∙ ap (λ z. (t *ℤ y.1) *ℤ point y.0 +ℤ z) (dot-joined point t x rest left known ys)
    ∙ right_first t y.1 (point y.0) (x.1 *ℤ point x.0 +ℤ dot point left) (dot point ys))
    (λ not_less not_more. let same : point x.0 ≡ point y.0 = ap point (equal x.0 y.0 not_less not_more) in
    dot-before point x.0 (x.1 +ℤ t *ℤ y.1) (rest ys) ∙ ap (λ z. (x.1 +ℤ t *ℤ y.1) *ℤ point x.0 +ℤ z) (known ys)
    ∙ both x.1 t y.1 (point x.0) (dot point left) (dot point ys) ∙ ap (λ z. (x.1 *ℤ point x.0 +ℤ dot point left) +ℤ t *ℤ (y.1 *ℤ z +ℤ dot point ys)) same)

pub dot-sums : (point : ℕ → ℤ) (t : ℤ) (left right : List Part) → dot point (sums t left right) ≡ dot point left +ℤ t *ℤ dot point right
dot-sums point t [] right = dot-scaled point t right ∙ sym (zero-sum (t *ℤ dot point right))
dot-sums point t (x ∷ xs) right = dot-joined point t x (sums t xs) xs (dot-sums point t xs) right
