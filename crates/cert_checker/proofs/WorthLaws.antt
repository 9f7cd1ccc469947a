-- What sums are worth.
use Rattle.std.proofs.Common.{◌≡◌, ◌∙◌, ℤ, pos, negsuc, neg_ℤ, ◌+ℤ◌, ◌-ℤ◌, ◌*ℤ◌, List, [], ◌∷◌, ◌++◌, ap, ap₂, sym, refl, arith}
use Rattle.std.proofs.lemmas.Int.{ints}
use Rattle.std.proofs.Math.IntN.{zero-*ℤ, *ℤ_comm}
use Rattle.linear_rows.proofs.Ring.{dist, dist-left, assoc, times-one}
use Rattle.terms.specs.Trees.{TermTree, number, name, plus, minus, times, divided, remainder, read, truth}
use Rattle.terms.specs.Truth.{Interpretation, term_at}
use Rattle.cert_checker.specs.Linear.{Multiple, Sum, scaled_multiples, atom_sum, scaled_sum, total, difference, product, sum_of}
use Rattle.cert_checker.specs.Worth.{weighed, worth, sum_at}

zero-sum : (b : ℤ) → b ≡ pos 0 +ℤ b
zero-sum b = omega (arith, ints)

left_first : (p q r : ℤ) → p +ℤ (q +ℤ r) ≡ (p +ℤ q) +ℤ r
left_first p q r = omega (arith, ints)

pub weighed-append : (f : TermTree → ℤ) (xs ys : List Multiple) → weighed f (xs ++ ys) ≡ weighed f xs +ℤ weighed f ys
weighed-append f [] ys = zero-sum (weighed f ys)
weighed-append f (x ∷ xs) ys = ap (λ z. x.1 *ℤ f x.0 +ℤ z) (weighed-append f xs ys) ∙ left_first (x.1 *ℤ f x.0) (weighed f xs) (weighed f ys)

pub weighed-scaled : (f : TermTree → ℤ) (c : ℤ) (ms : List Multiple) → weighed f (scaled_multiples c ms) ≡ c *ℤ weighed f ms
weighed-scaled f c [] = sym (*ℤ_comm c (pos 0) ∙ zero-*ℤ c)
weighed-scaled f c (m ∷ ms) = ap₂ (λ y z. y +ℤ z) (assoc c m.1 (f m.0)) (weighed-scaled f c ms) ∙ sym (dist-left c (m.1 *ℤ f m.0) (weighed f ms))

pub worth-append : (v : Interpretation) (xs ys : List Multiple) → worth v (xs ++ ys) ≡ worth v xs +ℤ worth v ys
worth-append v = weighed-append (term_at v)

pub worth-scaled : (v : Interpretation) (c : ℤ) (ms : List Multiple) → worth v (scaled_multiples c ms) ≡ c *ℤ worth v ms
worth-scaled v = weighed-scaled (term_at v)

by_fours : (p q r s : ℤ) → (p +ℤ q) +ℤ (r +ℤ s) ≡ (p +ℤ r) +ℤ (q +ℤ s)
by_fours p q r s = omega (arith, ints)

pub sum_at-total : (v : Interpretation) (s r : Sum) → sum_at v (total s r) ≡ sum_at v s +ℤ sum_at v r
sum_at-total v s r = ap (λ z. z +ℤ (s.constant +ℤ r.constant)) (worth-append v s.multiples r.multiples)
    ∙ by_fours (worth v s.multiples) (worth v r.multiples) s.constant r.constant

pub sum_at-scaled : (v : Interpretation) (c : ℤ) (s : Sum) → sum_at v (scaled_sum c s) ≡ c *ℤ sum_at v s
sum_at-scaled v c s = ap (λ z. z +ℤ c *ℤ s.constant) (worth-scaled v c s.multiples) ∙ sym (dist-left c (worth v s.multiples) s.constant)

zero-left : (z y : ℤ) → y ≡ pos 0 → z +ℤ y ≡ z
zero-left z y e = omega (arith, ints)

pub one-times : (z : ℤ) → pos 1 *ℤ z ≡ z
one-times z = *ℤ_comm (pos 1) z ∙ times-one z

pub sum_at-atom : (v : Interpretation) (t : TermTree) → term_at v t ≡ sum_at v (atom_sum t)
sum_at-atom v t = sym (one-times (term_at v t)) ∙ sym (zero-left (pos 1 *ℤ term_at v t) (pos 0) refl) ∙ sym (zero-left (pos 1 *ℤ term_at v t +ℤ pos 0) (pos 0) refl)

opposite : (z p : ℤ) → z +ℤ p ≡ pos 0 → p ≡ neg_ℤ z
opposite z p e = omega (arith, ints)

pub minus-one : (z : ℤ) → negsuc 0 *ℤ z ≡ neg_ℤ z
minus-one z = opposite z (negsuc 0 *ℤ z) (ap (λ y. y +ℤ negsuc 0 *ℤ z) (sym (one-times z)) ∙ sym (dist (pos 1) (negsuc 0) z) ∙ zero-*ℤ z)

less : (a b c : ℤ) → c ≡ neg_ℤ b → a -ℤ b ≡ a +ℤ c
less a b c e = omega (arith, ints)

pub sum_at-difference : (v : Interpretation) (s r : Sum) → sum_at v (difference s r) ≡ sum_at v s -ℤ sum_at v r
sum_at-difference v s r = sum_at-total v s (scaled_sum (negsuc 0) r)
    ∙ sym (less (sum_at v s) (sum_at v r) (sum_at v (scaled_sum (negsuc 0) r)) (sum_at-scaled v (negsuc 0) r ∙ minus-one (sum_at v r)))

scaled-by : (v : Interpretation) (z a : ℤ) (s : Sum) → a ≡ sum_at v s → z *ℤ a ≡ sum_at v (scaled_sum z s)
scaled-by v z a s e = ap (λ y. z *ℤ y) e ∙ sym (sum_at-scaled v z s)

sum_at-product : (v : Interpretation) (t u : TermTree) (s r : Sum) → term_at v t ≡ sum_at v s → term_at v u ≡ sum_at v r
    → term_at v t *ℤ term_at v u ≡ sum_at v (product t u s r)
sum_at-product v (number z) u s r e h = scaled-by v z (term_at v u) r h
sum_at-product v t (number z) s r e h = *ℤ_comm (term_at v t) z ∙ scaled-by v z (term_at v t) s e
sum_at-product v t u s r e h = sum_at-atom v (times t u)

-- A term is worth what its sum is.
pub term_at-sum_of : (v : Interpretation) (t : TermTree) → term_at v t ≡ sum_at v (sum_of t)
term_at-sum_of v (number z) = zero-sum z
term_at-sum_of v (plus t u) = ap₂ (λ y z. y +ℤ z) (term_at-sum_of v t) (term_at-sum_of v u) ∙ sym (sum_at-total v (sum_of t) (sum_of u))
term_at-sum_of v (minus t u) = ap₂ (λ y z. y -ℤ z) (term_at-sum_of v t) (term_at-sum_of v u) ∙ sym (sum_at-difference v (sum_of t) (sum_of u))
term_at-sum_of v (times t u) = sum_at-product v t u (sum_of t) (sum_of u) (term_at-sum_of v t) (term_at-sum_of v u)
term_at-sum_of v (name x) = sum_at-atom v (name x)
term_at-sum_of v (divided t u) = sum_at-atom v (divided t u)
term_at-sum_of v (remainder t u) = sum_at-atom v (remainder t u)
term_at-sum_of v (read a i) = sum_at-atom v (read a i)
term_at-sum_of v (truth f) = sum_at-atom v (truth f)
