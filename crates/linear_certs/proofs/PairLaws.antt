-- The sum of a pair.
use Rattle.std.proofs.Common.{◌≡◌, ◌∙◌, ◌<◌, ◌≤◌, ℕ, ℤ, pos, negsuc, List, [], ◌∷◌, ap, sym, refl, arith, Bool, true, false, suc, nat_eq, if◌then◌else◌, length, get_or, ◌^◌}
use Rattle.std.specs.Prelude.{unsigned_abs}
use Rattle.linear_rows.specs.declared.row.Row.{Row}
use Rattle.linear_rows.specs.Numbers.{fits}
use Rattle.linear_rows.specs.Sums.{Part, From, coefficient, all_fit, row_fits}
use Rattle.linear_certs.proofs.Basics.{and-both}

pub coefficient-absent : (atom low : ℕ) (parts : List Part) → atom < low → From low parts → coefficient atom parts ≡ pos 0
coefficient-absent atom low [] h from = refl
coefficient-absent atom low (x ∷ xs) h from = skipped x.0 atom x.1 (coefficient atom xs) (let first = from.0 in omega arith) (coefficient-absent atom (suc x.0) xs (let first = from.0 in omega arith) from.2)
  where
    skipped : (a b : ℕ) (c d : ℤ) → b < a → d ≡ pos 0 → (if nat_eq a b then c else d) ≡ pos 0
    skipped a b c d h e = grind (arith, h, e)

pub coefficient-none : (atom : ℕ) (parts : List Part) → length parts ≡ 0 → coefficient atom parts ≡ pos 0
coefficient-none atom [] h = refl
coefficient-none atom (x ∷ xs) h = absurd (omega arith)

-- The first part of a row without smaller atoms has the coefficient, or none has it.
pub coefficient-first : (atom : ℕ) (parts : List Part) (d : Part) → 0 < length parts → From atom parts
    → coefficient atom parts ≡ (if nat_eq (get_or parts 0 d).0 atom then (get_or parts 0 d).1 else pos 0)
coefficient-first atom [] d h from = absurd (omega arith)
coefficient-first atom (x ∷ xs) d h from = chosen (nat_eq x.0 atom) x.1 (coefficient atom xs) (coefficient-absent atom (suc x.0) xs (let first = from.0 in omega arith) from.2)
  where
    chosen : (b : Bool) (c e : ℤ) → e ≡ pos 0 → (if b then c else e) ≡ (if b then c else pos 0)
    chosen true c e h = refl
    chosen false c e h = h

pub coefficient-other : (atom : ℕ) (parts slice : List Part) (d : Part) → slice ≡ parts → From atom parts → nat_eq (get_or slice 0 d).0 atom ≡ false → coefficient atom parts ≡ pos 0
coefficient-other atom [] slice d is from other = refl
coefficient-other atom (x ∷ xs) slice d is from other = skip (nat_eq x.0 atom) x.1 (coefficient atom xs) (sym (ap (λ l. nat_eq (get_or l 0 d).0 atom) is) ∙ other) (coefficient-absent atom (suc x.0) xs (let first = from.0 in omega arith) from.2)
  where
    skip : (b : Bool) (c e : ℤ) → b ≡ false → e ≡ pos 0 → (if b then c else e) ≡ pos 0
    skip true c e h k = absurd cc
    skip false c e h k = k

pub fits-size : (z : ℤ) → fits z ≡ true → unsigned_abs z ≤ 2 ^ 100
fits-size (pos n) h = grind (arith, h)
fits-size (negsuc n) h = grind (arith, h)

pub coefficient-size : (atom : ℕ) (parts : List Part) → all_fit parts ≡ true → unsigned_abs (coefficient atom parts) ≤ 2 ^ 100
coefficient-size atom [] h = omega arith
coefficient-size atom (x ∷ xs) h = let both = and-both (fits x.1) (all_fit xs) h in either (nat_eq x.0 atom) x.1 (coefficient atom xs) (fits-size x.1 both.0) (coefficient-size atom xs both.1)
  where
    either : (b : Bool) (c e : ℤ) → unsigned_abs c ≤ 2 ^ 100 → unsigned_abs e ≤ 2 ^ 100 → unsigned_abs (if b then c else e) ≤ 2 ^ 100
    either true c e h k = h
    either false c e h k = k

pub size-small : (atom : ℕ) (row : Row) → row_fits row ≡ true → unsigned_abs (coefficient atom row.parts) ≤ 2 ^ 100
size-small atom row h = coefficient-size atom row.parts (and-both (all_fit row.parts) (fits row.bound) h).0

pub ruleset coefficients = (coefficient-none, coefficient-first)
