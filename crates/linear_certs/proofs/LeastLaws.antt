-- The least atom of a stage, and the stage behind it, which lacks it.
use Rattle.std.proofs.Common.{◌≡◌, ◌∙◌, ◌<◌, ◌≤◌, ℕ, ◌+◌, ◌*◌, ◌/◌, ◌%◌, ℤ, pos, negsuc, ◌+ℤ◌, ◌*ℤ◌, ◌<ℤ◌, List, [], ◌∷◌, ap, sym, refl, arith, subst, Bool, true, false, ◌&&◌, suc, zero, length, get_or, drop, drop-cons, add-one, Option, Some, None, if◌then◌else◌, nat_eq, map, neg_ℤ}
use Rattle.std.specs.Prelude.{filter, unsigned_abs}
use Rattle.std.specs.List.{All, flat_map}
use Rattle.std.specs.Int.{◌∣◌}
use Rattle.std.proofs.lemmas.Int.{ints}
use Rattle.std.proofs.lemmas.List.Elements.{All-append, All-cons, All-nil, All-head, All-tail}
use Rattle.std.proofs.Math.IntN.{pos-*ℤ-pos, pos-*ℤ-negsuc}
use Rattle.std.proofs.lemmas.Nat.Gcd.{dvd_of_mod-eq-zero, mod-eq-zero_of_dvd}
use Rattle.std.proofs.Math.Nat.{one-dvd, mul_assoc, mul_comm}
use Rattle.linear_rows.specs.Numbers.{is_zero}
use Rattle.linear_rows.specs.Sums.{Part, From, IsInForm, dot, coefficient}
use Rattle.linear_rows.proofs.FormLaws.{dot-unit, unit}
use Rattle.linear_certs.specs.declared.entry.Entry.{Entry}
use Rattle.linear_certs.specs.Divisors.{common_below, gcd}
use Rattle.linear_certs.specs.Stages.{first_atom, smaller, least_atom, combined, upper_times, lower_times, is_upper, is_lower, lacks, is_positive, is_negative, pairs_of, eliminated}
use Rattle.linear_certs.proofs.DerivedLaws.{dot-mixed, mixed-in-form}
use Rattle.linear_certs.proofs.StageLaws.{kept_once-All}
use Rattle.linear_certs.proofs.Basics.{drop-all}

smaller-assoc : (a b c : Option ℕ) → smaller (smaller a b) c ≡ smaller a (smaller b c)
smaller-assoc None b c = refl
smaller-assoc (Some a) None c = refl
smaller-assoc (Some a) (Some b) None = refl
smaller-assoc (Some a) (Some b) (Some c) = ap Some (omega arith)

smaller-none : (a : Option ℕ) → smaller a None ≡ a
smaller-none None = refl
smaller-none (Some a) = refl

pub least-next : (entries : List Entry) (i : ℕ) (e : Entry) (least : Option ℕ) → i < length entries → e ≡ get_or entries i e → least_atom entries ≡ smaller least (least_atom (drop i entries))
    → least_atom entries ≡ smaller (smaller least (first_atom e.row.parts)) (least_atom (drop (i + 1) entries))
least-next entries i e least h is so_far = so_far
    ∙ ap (λ l. smaller least (least_atom l)) (drop-cons entries i e h ∙ ap (λ x. x ∷ drop (suc i) entries) (sym is) ∙ ap (λ n. e ∷ drop n entries) (sym (add-one i)))
    ∙ sym (smaller-assoc least (first_atom e.row.parts) (least_atom (drop (i + 1) entries)))

pub least-end : (entries : List Entry) (i : ℕ) (least : Option ℕ) → length entries ≤ i → least_atom entries ≡ smaller least (least_atom (drop i entries)) → least ≡ least_atom entries
least-end entries i least h so_far = sym (so_far ∙ ap (λ l. smaller least (least_atom l)) (drop-all i entries h) ∙ smaller-none least)

-- No atom, or one from `low` on.
abbrev pub AtLeast : ℕ → Option ℕ → Type 0
AtLeast low None = 0 ≤ 0
AtLeast low (Some atom) = low ≤ atom

at-least-both : (low : ℕ) (a b : Option ℕ) → AtLeast low (smaller a b) → AtLeast low a × AtLeast low b
at-least-both low None b h = (omega arith, h)
at-least-both low (Some a) None h = (h, omega arith)
at-least-both low (Some a) (Some b) h = (omega arith, omega arith)

first-from : (low : ℕ) (parts : List Part) → From 0 parts → AtLeast low (first_atom parts) → From low parts
first-from low [] from h = tt
first-from low (x ∷ xs) from h = (h, from.1, from.2)

pub all-from : (low : ℕ) (entries : List Entry) → All (λ e. IsInForm e.row) entries → AtLeast low (least_atom entries) → All (λ e. From low e.row.parts) entries
all-from low [] forms h = All-nil (λ e. From low e.row.parts)
all-from low (e ∷ es) forms h =
    let both = at-least-both low (first_atom e.row.parts) (least_atom es) h in
    All-cons (λ e. From low e.row.parts) e es (first-from low e.row.parts (All-head (λ e. IsInForm e.row) e es forms) both.0) (all-from low es (All-tail (λ e. IsInForm e.row) e es forms) both.1)

pub least-from : (atom : ℕ) (entries : List Entry) → All (λ e. IsInForm e.row) entries → least_atom entries ≡ Some atom → All (λ e. From atom e.row.parts) entries
least-from atom entries forms is = all-from atom entries forms (subst (AtLeast atom) (sym is) (omega arith))

at-least-smaller : (low : ℕ) (a b : Option ℕ) → AtLeast low a → AtLeast low b → AtLeast low (smaller a b)
at-least-smaller low None b h k = k
at-least-smaller low (Some a) None h k = h
at-least-smaller low (Some a) (Some b) h k = omega arith

from-first : (low : ℕ) (parts : List Part) → From low parts → AtLeast low (first_atom parts)
from-first low [] from = omega arith
from-first low (x ∷ xs) from = from.0

pub from-least : (low : ℕ) (entries : List Entry) → All (λ e. From low e.row.parts) entries → AtLeast low (least_atom entries)
from-least low [] all = omega arith
from-least low (e ∷ es) all = at-least-smaller low (first_atom e.row.parts) (least_atom es) (from-first low e.row.parts (All-head (λ e. From low e.row.parts) e es all)) (from-least low es (All-tail (λ e. From low e.row.parts) e es all))

-- A row from an atom on that lacks it begins behind it.
pub lacking-from : (atom : ℕ) (parts : List Part) → From atom parts → is_zero (coefficient atom parts) ≡ true → From (suc atom) parts
lacking-from atom [] from lack = tt
lacking-from atom (x ∷ xs) from lack = (behind (nat_eq x.0 atom) x.0 atom x.1 (coefficient atom xs) from.0 (λ h. grind (arith, h)) from.1 lack, from.1, from.2)
  where
    behind : (b : Bool) (a atom : ℕ) (c e : ℤ) → atom ≤ a → (b ≡ false → a ≡ atom → ⊥) → is_zero c ≡ false → is_zero (if b then c else e) ≡ true → suc atom ≤ a
    behind true a atom c e h other nonzero lack = absurd (never (is_zero c) nonzero lack)
      where
        never : (b : Bool) → b ≡ false → b ≡ true → ⊥
        never true h k = cc
        never false h k = cc
    behind false a atom c e h other nonzero lack = let differ = other refl in strict a atom h differ
      where
        strict : (a atom : ℕ) → atom ≤ a → (a ≡ atom → ⊥) → suc atom ≤ a
        strict a atom h differ = omega arith

-- The atom cancels in the sum of a pair.
common-divides : (most p n : ℕ) → (common_below most p n ∣ p) × (common_below most p n ∣ n)
unfolding common_below
common-divides zero p n = (one-dvd p, one-dvd n)
common-divides (suc most) p n = either (nat_eq (p % suc most) 0 && nat_eq (n % suc most) 0) (suc most) (common_below most p n)
    (λ sure. let both = and-both (nat_eq (p % suc most) 0) (nat_eq (n % suc most) 0) sure in (dvd_of_mod-eq-zero (suc most) (grind (arith, both.0)), dvd_of_mod-eq-zero (suc most) (grind (arith, both.1))))
    (common-divides most p n)
  where
    and-both : (a b : Bool) → (a && b) ≡ true → (a ≡ true) × (b ≡ true)
    and-both true b h = (refl, h)
    and-both false b h = absurd cc

    either : (b : Bool) (x y : ℕ) → (b ≡ true → (x ∣ p) × (x ∣ n)) → (y ∣ p) × (y ∣ n) → ((if b then x else y) ∣ p) × ((if b then x else y) ∣ n)
    either true x y one two = one refl
    either false x y one two = two

common-up : (most p n : ℕ) → 0 < common_below most p n
unfolding common_below
common-up zero p n = omega arith
common-up (suc most) p n = either (nat_eq (p % suc most) 0 && nat_eq (n % suc most) 0) (suc most) (common_below most p n) (omega arith) (common-up most p n)
  where
    either : (b : Bool) (x y : ℕ) → 0 < x → 0 < y → 0 < (if b then x else y)
    either true x y one two = one
    either false x y one two = two

divided-back : (g n : ℕ) → 0 < g → g ∣ n → n ≡ g * (n / g)
divided-back g n up h = let e = mod-eq-zero_of_dvd g h in omega (arith, e)

cross : (g q r : ℕ) → r * (g * q) ≡ q * (g * r)
cross g q r = sym (mul_assoc r g q) ∙ ap (λ z. z * q) (mul_comm r g) ∙ mul_comm (g * r) q

cross-sizes : (g p n : ℕ) → 0 < g → g ∣ p → g ∣ n → (n / g) * p ≡ (p / g) * n
cross-sizes g p n up one two = ap (λ z. (n / g) * z) (divided-back g p up one) ∙ cross g (p / g) (n / g) ∙ ap (λ z. (p / g) * z) (sym (divided-back g n up two))

pub sizes-cross : (p n : ℕ) → (n / gcd p n) * p ≡ (p / gcd p n) * n
unfolding gcd
sizes-cross p n = cross-sizes (common_below p p n) p n (common-up p p n) (common-divides p p n).0 (common-divides p p n).1

opposite : (x y : ℕ) (u v : ℤ) → x ≡ y → u ≡ pos x → v ≡ neg_ℤ (pos y) → u +ℤ v ≡ pos 0
opposite x y u v e f g = omega (arith, ints)

pub cancels : (u l : ℤ) → is_positive u ≡ true → is_negative l ≡ true
    → pos (unsigned_abs l / gcd (unsigned_abs u) (unsigned_abs l)) *ℤ u +ℤ pos (unsigned_abs u / gcd (unsigned_abs u) (unsigned_abs l)) *ℤ l ≡ pos 0
cancels (pos p) (negsuc m) up down = opposite _ _ _ _ (sizes-cross p (suc m)) (pos-*ℤ-pos (suc m / gcd p (suc m)) p) (pos-*ℤ-negsuc (p / gcd p (suc m)) m)
cancels (pos p) (pos n) up down = absurd cc
cancels (negsuc p) l up down = absurd cc

quotient-up : (g q n : ℕ) → n ≡ g * q → 0 < n → 0 < q
quotient-up g zero n e up = absurd (omega arith)
quotient-up g (suc q) n e up = omega arith

times-up : (u l : ℤ) → is_positive u ≡ true → is_negative l ≡ true → pos 0 <ℤ pos (unsigned_abs l / gcd (unsigned_abs u) (unsigned_abs l))
unfolding gcd
times-up (pos p) (negsuc m) up down = up-of (suc m / common_below p p (suc m)) (quotient-up (common_below p p (suc m)) (suc m / common_below p p (suc m)) (suc m)
    (divided-back (common_below p p (suc m)) (suc m) (common-up p p (suc m)) (common-divides p p (suc m)).1) (omega arith))
  where
    up-of : (n : ℕ) → 0 < n → pos 0 <ℤ pos n
    up-of n h = omega (arith, ints)
times-up (pos p) (pos n) up down = absurd cc
times-up (negsuc p) l up down = absurd cc

pub upper-times-up : (atom : ℕ) (upper lower : Entry) → is_upper atom upper ≡ true → is_lower atom lower ≡ true → pos 0 <ℤ upper_times atom upper lower
upper-times-up atom upper lower above below = times-up (coefficient atom upper.row.parts) (coefficient atom lower.row.parts) above below

zero-test : (z : ℤ) → z ≡ pos 0 → is_zero z ≡ true
zero-test z e = ap is_zero e

pub combined-from : (atom : ℕ) (upper lower : Entry) → From atom upper.row.parts → From atom lower.row.parts → is_upper atom upper ≡ true → is_lower atom lower ≡ true → From (suc atom) (combined atom upper lower).row.parts
combined-from atom upper lower one two above below =
    let a = upper_times atom upper lower in
    let b = lower_times atom upper lower in
    let whole = mixed-in-form atom a b upper.row lower.row one two in
    lacking-from atom (combined atom upper lower).row.parts whole (zero-test (coefficient atom (combined atom upper lower).row.parts) (
    sym (dot-unit atom atom (combined atom upper lower).row.parts whole) ∙ dot-mixed (unit atom) a b upper.row lower.row
    ∙ ap (λ z. a *ℤ z +ℤ b *ℤ dot (unit atom) lower.row.parts) (dot-unit atom atom upper.row.parts one)
    ∙ ap (λ z. a *ℤ coefficient atom upper.row.parts +ℤ b *ℤ z) (dot-unit atom atom lower.row.parts two)
    ∙ cancels (coefficient atom upper.row.parts) (coefficient atom lower.row.parts) above below))

filter-case : {X : Type 0} (p : X → Bool) (Q : X → Type 0) (x : X) (xs : List X) (b : Bool) → p x ≡ b → (b ≡ true → Q x) → All Q (filter p xs) → All Q (filter p (x ∷ xs))
filter-case p Q x xs true e here rest = let shown : filter p (x ∷ xs) ≡ x ∷ filter p xs = grind (arith, e) in subst (All Q) (sym shown) (All-cons Q x (filter p xs) (here refl) rest)
filter-case p Q x xs false e here rest = let shown : filter p (x ∷ xs) ≡ filter p xs = grind (arith, e) in subst (All Q) (sym shown) rest

filtered : {X : Type 0} (p : X → Bool) (P : X → Type 0) (xs : List X) → All P xs → All (λ x. P x × (p x ≡ true)) (filter p xs)
filtered p P [] all = All-nil (λ x. P x × (p x ≡ true))
filtered p P (x ∷ xs) all = filter-case p (λ x. P x × (p x ≡ true)) x xs (p x) refl (λ e. (All-head P x xs all, e)) (filtered p P xs (All-tail P x xs all))

mapped : {X Y : Type 0} (P : X → Type 0) (Q : Y → Type 0) (f : X → Y) → ((x : X) → P x → Q (f x)) → (xs : List X) → All P xs → All Q (map f xs)
mapped P Q f law [] all = All-nil Q
mapped P Q f law (x ∷ xs) all = All-cons Q (f x) (map f xs) (law x (All-head P x xs all)) (mapped P Q f law xs (All-tail P x xs all))

flat : {X Y : Type 0} (P : X → Type 0) (Q : Y → Type 0) (f : X → List Y) → ((x : X) → P x → All Q (f x)) → (xs : List X) → All P xs → All Q (flat_map f xs)
flat P Q f law [] all = All-nil Q
flat P Q f law (x ∷ xs) all = All-append Q (f x) (flat_map f xs) (law x (All-head P x xs all)) (flat P Q f law xs (All-tail P x xs all))

abbrev StartsAt : ℕ → Entry → Type 0
StartsAt atom e = From atom e.row.parts

-- What holds of the rows without the atom and of the sums of pairs holds of the next stage.
pub eliminated-All : (P Q : Entry → Type 0) (atom : ℕ) (entries : List Entry) → All P entries
    → ((e : Entry) → P e → lacks atom e ≡ true → Q e)
    → ((upper lower : Entry) → P upper → P lower → is_upper atom upper ≡ true → is_lower atom lower ≡ true → Q (combined atom upper lower))
    → All Q (eliminated atom entries)
eliminated-All P Q atom entries all kept made = kept_once-All Q [] _ (All-nil Q)
    (All-append Q (filter (lacks atom) entries) (flat_map (pairs_of atom entries) (filter (is_upper atom) entries))
    (subst (All Q) (map-same (filter (lacks atom) entries)) (mapped (λ e. P e × (lacks atom e ≡ true)) Q (λ e. e) (λ e h. kept e h.0 h.1) (filter (lacks atom) entries) (filtered (lacks atom) P entries all)))
    (flat (λ e. P e × (is_upper atom e ≡ true)) Q (pairs_of atom entries)
    (λ upper h. mapped (λ e. P e × (is_lower atom e ≡ true)) Q (combined atom upper) (λ lower k. made upper lower h.0 k.0 h.1 k.1) (filter (is_lower atom) entries) (filtered (is_lower atom) P entries all))
    (filter (is_upper atom) entries) (filtered (is_upper atom) P entries all)))
  where
    map-same : (xs : List Entry) → map (λ e. e) xs ≡ xs
    map-same [] = refl
    map-same (x ∷ xs) = ap (λ l. x ∷ l) (map-same xs)

pub eliminated-from : (atom : ℕ) (entries : List Entry) → All (λ e. From atom e.row.parts) entries → All (λ e. From (suc atom) e.row.parts) (eliminated atom entries)
eliminated-from atom entries all = eliminated-All (StartsAt atom) (StartsAt (suc atom)) atom entries all
    (λ e from lack. lacking-from atom e.row.parts from lack) (λ upper lower one two above below. combined-from atom upper lower one two above below)
