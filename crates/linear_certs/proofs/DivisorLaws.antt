-- The greatest common divisor is the greatest number that divides both.
use Rattle.std.proofs.Common.{◌≡◌, ◌∙◌, ◌<◌, ◌≤◌, ℕ, ◌+◌, ◌-◌, ◌*◌, ◌/◌, ◌%◌, ap, sym, refl, arith, subst, Bool, true, false, suc, zero, ◌&&◌, nat_eq, if◌then◌else◌}
use Rattle.std.specs.Int.{◌∣◌, IsGcd}
use Rattle.std.proofs.lemmas.Nat.Gcd.{le_of_dvd, dvd_of_mod-eq-zero, mod-eq-zero_of_dvd, le_from_IsGcd}
use Rattle.std.proofs.Math.Nat.{div-add-mod', dvd-sub, dvd-mul_left_of_dvd, mul_assoc, add-mul}
use Rattle.linear_certs.specs.Divisors.{common_below, gcd}
use Rattle.linear_certs.proofs.Basics.{and-both}

divides : (d n : ℕ) → d ∣ n → nat_eq (n % d) 0 ≡ true
divides d n h = let e = mod-eq-zero_of_dvd d h in grind (arith, e)

divided : (d n : ℕ) → nat_eq (n % d) 0 ≡ true → d ∣ n
divided d n h = dvd_of_mod-eq-zero d (grind (arith, h))

take_then : (b : Bool) (x y : ℕ) → b ≡ true → (if b then x else y) ≡ x
take_then true x y h = refl
take_then false x y h = absurd cc

by_test : (b : Bool) (P : Bool → Type 0) → (b ≡ true → P true) → (b ≡ false → P false) → P b
by_test true P one two = one refl
by_test false P one two = two refl

-- At most `most`, or down to the divisor itself.
found : (most p n g : ℕ) → IsGcd p n g → 0 < g → g ≤ most → common_below most p n ≡ g
unfolding common_below
found zero p n g is up le = absurd (omega arith)
found (suc most) p n g is up le = by_test (nat_eq (p % suc most) 0 && nat_eq (n % suc most) 0) (λ b. (if b then suc most else common_below most p n) ≡ g)
    (λ sure. let both = and-both (nat_eq (p % suc most) 0) (nat_eq (n % suc most) 0) sure in
    let less = le_from_IsGcd p n g (suc most) is up (divided (suc most) p both.0) (divided (suc most) n both.1) in omega arith)
    (λ none. found most p n g is up (below-last most p n g is le none))
  where
    below-last : (most p n g : ℕ) → IsGcd p n g → g ≤ suc most → (nat_eq (p % suc most) 0 && nat_eq (n % suc most) 0) ≡ false → g ≤ most
    below-last most p n g is le none = by_test (nat_eq g (suc most)) (λ _. g ≤ most)
        (λ same. let e : g ≡ suc most = grind (arith, same) in
        let one = divides (suc most) p (subst (λ d. d ∣ p) e is.0) in
        let two = divides (suc most) n (subst (λ d. d ∣ n) e is.1) in
        absurd (not-both (nat_eq (p % suc most) 0) (nat_eq (n % suc most) 0) one two none))
        (λ other. grind (arith, le, other))
      where
        not-both : (a b : Bool) → a ≡ true → b ≡ true → (a && b) ≡ false → ⊥
        not-both true true h k e = cc
        not-both true false h k e = cc
        not-both false b h k e = cc

pub gcd-found : (p n g : ℕ) → 0 < p → 0 < g → IsGcd p n g → g ≡ gcd p n
unfolding gcd
gcd-found p n g p_up up is = sym (found p p n g is up (le_of_dvd p_up is.0))

taken : (x y z w : ℕ) → x ≡ y + z → w ≡ y → x - w ≡ z
taken x y z w e f = omega arith

-- What divides two numbers times a third one divides the remainder times it.
pub divides-rest : (m a b s : ℕ) → m ∣ (a * s) → m ∣ (b * s) → m ∣ ((a % b) * s)
divides-rest m a b s one two = subst (λ z. m ∣ z)
    (taken (a * s) ((a / b) * (b * s)) ((a % b) * s) ((a / b) * (b * s)) (sym (ap (λ z. z * s) (div-add-mod' a b)) ∙ split (a / b * b) (a % b) s ∙ ap (λ z. z + (a % b) * s) (mul_assoc (a / b) b s)) refl)
    (dvd-sub m one (dvd-mul_left_of_dvd m two (a / b)))
  where
    split : (x y s : ℕ) → (x + y) * s ≡ x * s + y * s
    split x y s = add-mul x y s
