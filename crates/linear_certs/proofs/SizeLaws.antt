-- What doesn't fit 128 bits is past the size bound.
use Rattle.std.proofs.Common.{◌≡◌, ◌<◌, ◌≤◌, ℕ, ◌+◌, ◌*◌, ◌^◌, ℤ, pos, negsuc, ◌+ℤ◌, ◌-ℤ◌, ◌*ℤ◌, ◌≤ℤ◌, ◌<ℤ◌, List, [], ◌∷◌, sym, arith, subst, Bool, true, false, suc, zero, length, nat_eq, if◌then◌else◌, FitsSigned, to_z, of_z, neg_ℤ, Option, Some, None}
use Rattle.std.specs.Prelude.{unsigned_abs, is_some, IfSome, SomeIff}
use Rattle.std.specs.List.{All}
use Rattle.std.specs.Int.{w128}
use Rattle.std.proofs.lemmas.Int.{ints, unsigned_abs-mul, fits_signed_from_abs, to_z-of_z}
use Rattle.std.proofs.lemmas.List.Elements.{All-head, All-tail}
use Rattle.std.proofs.Math.Nat.{mul-le-mul, mul-le-mul_right, le-mul_of_pos_right, mul_assoc, mul_comm, add-mul}
use Rattle.linear_rows.specs.Numbers.{is_zero}
use Rattle.linear_rows.specs.Sums.{Part, dot, coefficient}
use Rattle.linear_certs.specs.declared.entry.Entry.{Entry}
use Rattle.linear_certs.specs.Points.{size_bound}
use Rattle.linear_certs.specs.Code.Limits.{room, AreSizes}

by_less : {P : Type 0} (a b : ℕ) → (a < b → P) → (b ≤ a → P) → P
by_less zero zero one two = two (omega arith)
by_less zero (suc b) one two = one (omega arith)
by_less (suc a) zero one two = two (omega arith)
by_less (suc a) (suc b) one two = by_less a b (λ h. one (omega arith)) (λ h. two (omega arith))

-- What doesn't fit 128 bits has a size of 2^127 or more.
pub unfit : (z : ℤ) → (FitsSigned w128 z → ⊥) → 2 ^ 127 ≤ unsigned_abs z
unfit z none = by_less (unsigned_abs z) (2 ^ 127) (λ less. absurd (none (fits_signed_from_abs w128 z less))) (λ more. more)

in-range : (z : ℤ) (n : ℕ) → unsigned_abs z ≤ n → (z ≤ℤ pos n) × ((pos 0 -ℤ pos n) ≤ℤ z)
in-range (pos m) n h = (omega (arith, ints), omega (arith, ints))
in-range (negsuc m) n h = (omega (arith, ints), omega (arith, ints))

of-range : (z : ℤ) (n : ℕ) → z ≤ℤ pos n → (pos 0 -ℤ pos n) ≤ℤ z → unsigned_abs z ≤ n
of-range (pos m) n h k = omega (arith, ints)
of-range (negsuc m) n h k = omega (arith, ints)

add-up : (x y : ℤ) (m n : ℕ) → x ≤ℤ pos m → y ≤ℤ pos n → (x +ℤ y) ≤ℤ pos (m + n)
add-up x y m n h k = omega (arith, ints)

add-down : (x y : ℤ) (m n : ℕ) → (pos 0 -ℤ pos m) ≤ℤ x → (pos 0 -ℤ pos n) ≤ℤ y → (pos 0 -ℤ pos (m + n)) ≤ℤ (x +ℤ y)
add-down x y m n h k = omega (arith, ints)

pub abs-add : (x y : ℤ) (m n : ℕ) → unsigned_abs x ≤ m → unsigned_abs y ≤ n → unsigned_abs (x +ℤ y) ≤ m + n
abs-add x y m n h k = let one = in-range x m h in let two = in-range y n k in
    of-range (x +ℤ y) (m + n) (add-up x y m n one.0 two.0) (add-down x y m n one.1 two.1)

sub-up : (x y : ℤ) (m n : ℕ) → x ≤ℤ pos m → (pos 0 -ℤ pos n) ≤ℤ y → (x -ℤ y) ≤ℤ pos (m + n)
sub-up x y m n h k = omega (arith, ints)

sub-down : (x y : ℤ) (m n : ℕ) → (pos 0 -ℤ pos m) ≤ℤ x → y ≤ℤ pos n → (pos 0 -ℤ pos (m + n)) ≤ℤ (x -ℤ y)
sub-down x y m n h k = omega (arith, ints)

pub abs-sub : (x y : ℤ) (m n : ℕ) → unsigned_abs x ≤ m → unsigned_abs y ≤ n → unsigned_abs (x -ℤ y) ≤ m + n
abs-sub x y m n h k = let one = in-range x m h in let two = in-range y n k in
    of-range (x -ℤ y) (m + n) (sub-up x y m n one.0 two.1) (sub-down x y m n one.1 two.0)

pub abs-mul : (x y : ℤ) (m n : ℕ) → unsigned_abs x ≤ m → unsigned_abs y ≤ n → unsigned_abs (x *ℤ y) ≤ m * n
abs-mul x y m n h k = subst (λ z. z ≤ m * n) (sym (unsigned_abs-mul x y)) (mul-le-mul h k)

pub abs-neg : (z : ℤ) → unsigned_abs (neg_ℤ z) ≡ unsigned_abs z
abs-neg (pos zero) = omega arith
abs-neg (pos (suc n)) = omega arith
abs-neg (negsuc n) = omega arith

-- A sum of products.
one-more : (x y l : ℕ) → y ≤ l * x → x + y ≤ suc l * x
one-more x y l h = omega arith

pub dot-size : (point : ℕ → ℤ) (c n : ℕ) (parts : List Part) → All (λ part. unsigned_abs part.1 ≤ c) parts → ((atom : ℕ) → unsigned_abs (point atom) ≤ n) → unsigned_abs (dot point parts) ≤ length parts * (c * n)
dot-size point c n [] all nums = omega arith
dot-size point c n (x ∷ xs) all nums = one-more-le (abs-add (x.1 *ℤ point x.0) (dot point xs) (c * n) (length xs * (c * n))
    (abs-mul x.1 (point x.0) c n (All-head (λ part. unsigned_abs part.1 ≤ c) x xs all) (nums x.0)) (dot-size point c n xs (All-tail (λ part. unsigned_abs part.1 ≤ c) x xs all) nums))
  where
    one-more-le : unsigned_abs (dot point (x ∷ xs)) ≤ c * n + length xs * (c * n) → unsigned_abs (dot point (x ∷ xs)) ≤ length (x ∷ xs) * (c * n)
    one-more-le h = grow (unsigned_abs (dot point (x ∷ xs))) (c * n) (length xs) h
      where
        grow : (z y l : ℕ) → z ≤ y + l * y → z ≤ suc l * y
        grow z y l h = omega arith

few : (l atoms c n : ℕ) → l ≤ atoms → l * (c * n) ≤ atoms * c * n
few l atoms c n h = subst (λ z. l * (c * n) ≤ z) (sym (mul_assoc atoms c n)) (mul-le-mul_right (c * n) h)

-- The parts of a room, for an entry with the sizes.
pub parts-size : (atoms c b d n : ℕ) (point : ℕ → ℤ) (over : ℤ) (e : Entry) → AreSizes atoms c b d n point over (e ∷ []) → length e.row.parts * (c * n) ≤ atoms * c * n
parts-size atoms c b d n point over e sizes = few (length e.row.parts) atoms c n (All-head (λ e. length e.row.parts ≤ atoms) e [] sizes.lengths)

pub whole-size : (atoms c b d n : ℕ) (point : ℕ → ℤ) (over : ℤ) (e : Entry) → AreSizes atoms c b d n point over (e ∷ []) → unsigned_abs (e.row.bound *ℤ over) ≤ b * d
whole-size atoms c b d n point over e sizes = abs-mul e.row.bound over b d (All-head (λ e. unsigned_abs e.row.bound ≤ b) e [] sizes.bounds) sizes.dens

le-le : (a b c : ℕ) → a ≤ b → b ≤ c → a ≤ c
le-le a b c h k = omega arith

pub room-size : (atoms c b d n : ℕ) (point : ℕ → ℤ) (over : ℤ) (e : Entry) → AreSizes atoms c b d n point over (e ∷ []) → unsigned_abs (room point over e) ≤ b * d + atoms * c * n
room-size atoms c b d n point over e sizes = abs-sub (e.row.bound *ℤ over) (dot point e.row.parts) (b * d) (atoms * c * n) (whole-size atoms c b d n point over e sizes)
    (le-le (unsigned_abs (dot point e.row.parts)) (length e.row.parts * (c * n)) (atoms * c * n)
    (dot-size point c n e.row.parts (All-head (λ e. All (λ part. unsigned_abs part.1 ≤ c) e.row.parts) e [] sizes.coefficients) sizes.nums) (parts-size atoms c b d n point over e sizes))

pub coefficient-size : (atom c : ℕ) (parts : List Part) → All (λ part. unsigned_abs part.1 ≤ c) parts → unsigned_abs (coefficient atom parts) ≤ c
coefficient-size atom c [] all = omega arith
coefficient-size atom c (x ∷ xs) all = either (nat_eq x.0 atom) x.1 (coefficient atom xs) (All-head (λ part. unsigned_abs part.1 ≤ c) x xs all) (coefficient-size atom c xs (All-tail (λ part. unsigned_abs part.1 ≤ c) x xs all))
  where
    either : (b : Bool) (y e : ℤ) → unsigned_abs y ≤ c → unsigned_abs e ≤ c → unsigned_abs (if b then y else e) ≤ c
    either true y e h k = h
    either false y e h k = k

nonzero-up : (z : ℤ) (c : ℕ) → is_zero z ≡ false → unsigned_abs z ≤ c → 1 ≤ c
nonzero-up (pos zero) c h k = absurd cc
nonzero-up (pos (suc n)) c h k = omega arith
nonzero-up (negsuc n) c h k = omega arith

-- A row with the atom has a part, and so have the sizes.
pub sizes-up : (atom atoms c b d n : ℕ) (point : ℕ → ℤ) (over : ℤ) (e : Entry) → is_zero (coefficient atom e.row.parts) ≡ false → AreSizes atoms c b d n point over (e ∷ []) → (1 ≤ c) × (1 ≤ atoms)
sizes-up atom atoms c b d n point over e has sizes = (
  nonzero-up (coefficient atom e.row.parts) c has (coefficient-size atom c e.row.parts (All-head (λ e. All (λ part. unsigned_abs part.1 ≤ c) e.row.parts) e [] sizes.coefficients)),
  some e.row.parts has (All-head (λ e. length e.row.parts ≤ atoms) e [] sizes.lengths),
)
  where
    some : (parts : List Part) → is_zero (coefficient atom parts) ≡ false → length parts ≤ atoms → 1 ≤ atoms
    some [] h k = absurd cc
    some (x ∷ xs) h k = omega arith

pub over-up : (z : ℤ) (d : ℕ) → pos 0 <ℤ z → unsigned_abs z ≤ d → 1 ≤ d
over-up (pos zero) d h k = absurd (omega (arith, ints))
over-up (pos (suc n)) d h k = omega arith
over-up (negsuc n) d h k = absurd (omega (arith, ints))

-- The size bound is past each of these.
large : (x y : ℕ) → 2 ^ 127 ≤ x → x ≤ y → 2 ^ 120 < y
large x y h k = omega arith

up-by : (x c : ℕ) → 1 ≤ c → x ≤ x * c
up-by x c h = le-mul_of_pos_right x h

pub past-product : (m c d x : ℕ) → 1 ≤ d → x ≤ (m + 1) * c → 2 ^ 127 ≤ x → 2 ^ 120 < (m + 1) * c * d
past-product m c d x h k big = large x ((m + 1) * c * d) big (le-le x ((m + 1) * c) ((m + 1) * c * d) k (up-by ((m + 1) * c) d h))

pub room-in : (m c x : ℕ) → 1 ≤ c → x ≤ m → x ≤ (m + 1) * c
room-in m c x h k = le-le x (m + 1) ((m + 1) * c) (omega arith) (up-by (m + 1) c h)

pub cross-in : (m c : ℕ) → m * c ≤ (m + 1) * c
cross-in m c = mul-le-mul_right c (omega arith)

pub both-in : (m c : ℕ) → 1 ≤ c → m + c ≤ (m + 1) * c
both-in m c h = let e = add-mul m 1 c in let one = up-by m c h in sums m c (m * c) ((m + 1) * c) one e
  where
    sums : (m c x y : ℕ) → m ≤ x → y ≡ x + 1 * c → m + c ≤ y
    sums m c x y h e = omega arith

pub den-in : (m c d : ℕ) → d * c ≤ (m + 1) * c * d
den-in m c d = subst (λ z. z ≤ (m + 1) * c * d) (mul_comm c d) (mul-le-mul_right d (subst (λ z. c ≤ z) (mul_comm c (m + 1)) (up-by c (m + 1) (omega arith))))

pub num-in : (atoms c b d n : ℕ) → 1 ≤ atoms → 1 ≤ c → n * c ≤ (b * d + atoms * c * n + 1) * c
num-in atoms c b d n h k = mul-le-mul_right c (le-le n (atoms * c * n) (b * d + atoms * c * n + 1)
    (subst (λ z. z ≤ atoms * c * n) (one-times n) (mul-le-mul_right n (le-le 1 (1 * c) (atoms * c) (omega arith) (mul-le-mul_right c h)))) (omega arith))
  where
    one-times : (n : ℕ) → 1 * n ≡ n
    one-times n = omega arith

pub unfit-product : (x y : ℤ) (m n : ℕ) → (FitsSigned w128 (x *ℤ y) → ⊥) → unsigned_abs x ≤ m → unsigned_abs y ≤ n → 2 ^ 127 ≤ m * n
unfit-product x y m n none h k = le-le (2 ^ 127) (unsigned_abs (x *ℤ y)) (m * n) (unfit (x *ℤ y) none) (abs-mul x y m n h k)

pub unfit-size : (z : ℤ) (n : ℕ) → (FitsSigned w128 z → ⊥) → unsigned_abs z ≤ n → 2 ^ 127 ≤ n
unfit-size z n none h = le-le (2 ^ 127) (unsigned_abs z) n (unfit z none) h

-- A sum of equal sizes with one more.
pub part-next : (at x z : ℕ) → z ≤ at * x + x → z ≤ (at + 1) * x
part-next at x z h = let e = add-mul at 1 x in grown z (at * x) x ((at + 1) * x) h e
  where
    grown : (z y x w : ℕ) → z ≤ y + x → w ≡ y + 1 * x → z ≤ w
    grown z y x w h e = omega arith

pub part-last : (at l x z : ℕ) → at < l → z ≤ at * x + x → z ≤ l * x
part-last at l x z h k = le-le z ((at + 1) * x) (l * x) (part-next at x z k) (mul-le-mul_right x (omega arith))

-- A number that is read from 128 bits.
pub read-size : (z : ℤ) (n : ℕ) → FitsSigned w128 z → unsigned_abs z ≤ n → unsigned_abs (to_z w128 (of_z w128 z)) ≤ n
read-size z n fits h = subst (λ w. unsigned_abs w ≤ n) (sym (to_z-of_z w128 z fits)) h

pub none-unfit : {T : Type 0} {P : Type 0} (r : Option T) (v : T) → SomeIff r P v → is_some r ≡ false → P → ⊥
none-unfit None v h none = h
none-unfit (Some x) v h none = absurd cc

pub if-some : {T : Type 0} (P Q : T → Type 0) (r : Option T) → ((x : T) → P x → Q x) → IfSome r P → IfSome r Q
if-some P Q None law h = tt
if-some P Q (Some x) law h = law x h

pub past-parts : (atoms c b d n : ℕ) (point : ℕ → ℤ) (over : ℤ) (e : Entry) → AreSizes atoms c b d n point over (e ∷ []) → 2 ^ 127 ≤ length e.row.parts * (c * n) → 2 ^ 127 ≤ b * d + atoms * c * n
past-parts atoms c b d n point over e sizes h = let k = parts-size atoms c b d n point over e sizes in more (length e.row.parts * (c * n)) (b * d) (atoms * c * n) h k
  where
    more : (x y z : ℕ) → 2 ^ 127 ≤ x → x ≤ z → 2 ^ 127 ≤ y + z
    more x y z h k = omega arith

pub past-whole : (b d z : ℕ) → 2 ^ 127 ≤ b * d → 2 ^ 127 ≤ b * d + z
past-whole b d z h = more (b * d) z h
  where
    more : (x z : ℕ) → 2 ^ 127 ≤ x → 2 ^ 127 ≤ x + z
    more x z h = omega arith

-- A row's room, or the room and the coefficient, are too large.
pub past-room : (atom atoms c b d n : ℕ) (point : ℕ → ℤ) (over : ℤ) (e : Entry) → is_zero (coefficient atom e.row.parts) ≡ false → pos 0 <ℤ over → AreSizes atoms c b d n point over (e ∷ [])
    → 2 ^ 127 ≤ b * d + atoms * c * n → 2 ^ 120 < size_bound atoms c b d n
past-room atom atoms c b d n point over e has up sizes h = past-product (b * d + atoms * c * n) c d (b * d + atoms * c * n) (over-up over d up sizes.dens)
    (room-in (b * d + atoms * c * n) c (b * d + atoms * c * n) (sizes-up atom atoms c b d n point over e has sizes).0 (omega arith)) h

pub past-both : (atom atoms c b d n : ℕ) (point : ℕ → ℤ) (over : ℤ) (e : Entry) → is_zero (coefficient atom e.row.parts) ≡ false → pos 0 <ℤ over → AreSizes atoms c b d n point over (e ∷ [])
    → 2 ^ 127 ≤ (b * d + atoms * c * n) + c → 2 ^ 120 < size_bound atoms c b d n
past-both atom atoms c b d n point over e has up sizes h = past-product (b * d + atoms * c * n) c d ((b * d + atoms * c * n) + c) (over-up over d up sizes.dens)
    (both-in (b * d + atoms * c * n) c (sizes-up atom atoms c b d n point over e has sizes).0) h
