-- Small facts that several files use.
use Rattle.std.proofs.Common.{◌≡◌, ◌∙◌, ◌<◌, ◌≤◌, ℕ, ◌+◌, ℤ, pos, negsuc, ◌+ℤ◌, ◌≤ℤ◌, ◌<ℤ◌, List, [], ◌∷◌, ap, sym, refl, arith, Bool, true, false, ◌&&◌, suc, zero, length, get_or, drop, drop-cons, add-one}
use Rattle.std.proofs.lemmas.Int.{ints}
use Rattle.linear_rows.specs.Sums.{Part}
use Rattle.linear_certs.specs.Stages.{no_parts, is_negative}

pub and-both : (a b : Bool) → (a && b) ≡ true → (a ≡ true) × (b ≡ true)
and-both true b h = (refl, h)
and-both false b h = absurd cc

pub and-true : (a b : Bool) → a ≡ true → b ≡ true → (a && b) ≡ true
and-true true b h k = k
and-true false b h k = absurd cc

pub zero-plus : (z : ℤ) → pos 0 +ℤ z ≡ z
zero-plus z = omega (arith, ints)

pub up-pos : (n : ℕ) → pos 0 ≤ℤ pos n
up-pos n = omega (arith, ints)

pub below-zero : (z : ℤ) → is_negative z ≡ true → z <ℤ pos 0
below-zero (pos n) h = absurd cc
below-zero (negsuc n) h = omega (arith, ints)

pub parts-none : (parts : List Part) → no_parts parts ≡ true → parts ≡ []
parts-none [] h = refl
parts-none (x ∷ xs) h = absurd cc

pub drop-next : {X : Type 0} (at : ℕ) (list : List X) (d : X) → at < length list → drop at list ≡ get_or list at d ∷ drop (at + 1) list
drop-next at list d h = drop-cons list at d h ∙ ap (λ n. get_or list at d ∷ drop n list) (sym (add-one at))

pub drop-all : {X : Type 0} (n : ℕ) (list : List X) → length list ≤ n → drop n list ≡ []
drop-all zero [] h = refl
drop-all (suc n) [] h = refl
drop-all zero (x ∷ xs) h = absurd (omega arith)
drop-all (suc n) (x ∷ xs) h = drop-all n xs (omega arith)
