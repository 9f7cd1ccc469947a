-- The numbers of a point, one after the other, and how many it needs.
use Rattle.std.proofs.Common.{◌≡◌, ◌∙◌, ◌<◌, ◌≤◌, ℕ, ◌+◌, ℤ, pos, ◌*ℤ◌, List, [], ◌∷◌, ◌++◌, ap, sym, arith, subst, refl, suc, zero, length, get_or, take, take_all, drop}
use Rattle.std.specs.List.{All}
use Rattle.std.proofs.lemmas.List.{take_more}
use Rattle.std.proofs.lemmas.List.Elements.{All-append, All-cons, All-nil}
use Rattle.std.specs.Prelude.{slice_set, replicate}
use Rattle.std.proofs.lemmas.List.{get_or-set_same, get_or-set_other}
use Rattle.linear_rows.specs.Sums.{Part}
use Rattle.linear_certs.specs.declared.limit.Limit.{Limit}
use Rattle.linear_certs.specs.Answers.{coordinate}
use Rattle.linear_certs.specs.Code.Limits.{IsMoved}
use Rattle.linear_certs.proofs.Basics.{drop-all}
use Rattle.std.proofs.Math.IntN.{zero-*ℤ}
use Rattle.linear_certs.proofs.FarLaws.{past-end}
use Rattle.linear_certs.proofs.LimitLaws.{by_equal}

less-le : (a b c : ℕ) → a < b → b ≤ c → a < c
less-le a b c h k = omega arith

pub past-more : (parts : List Part) (m n : ℕ) → m ≤ n → All (λ part. part.0 < m) parts → All (λ part. part.0 < n) parts
past-more parts m n h all = λ k d within. less-le _ m n (all k d within) h

pub past-next : (parts : List Part) (i m n : ℕ) → i < length parts → m ≤ n → (get_or parts i (0, pos 0)).0 < n → All (λ part. part.0 < m) (take i parts) → All (λ part. part.0 < n) (take (i + 1) parts)
past-next parts i m n h more here all = subst (All (λ part. part.0 < n)) (sym (take_more parts i (0, pos 0) h))
    (All-append (λ part. part.0 < n) (take i parts) (get_or parts i (0, pos 0) ∷ []) (past-more (take i parts) m n more all) (All-cons (λ part. part.0 < n) (get_or parts i (0, pos 0)) [] here (All-nil (λ part. part.0 < n))))

-- One number more is multiplied.
pub made-next : (old now : List ℤ) (by v : ℤ) (at : ℕ) → at < length now → v ≡ coordinate old at *ℤ by → ((a : ℕ) → a < at → coordinate now a ≡ coordinate old a *ℤ by)
    → (a : ℕ) → a < at + 1 → coordinate (slice_set now at v) a ≡ coordinate old a *ℤ by
made-next old now by v at h is made a less = by_equal a at
    (λ same. ap (coordinate (slice_set now at v)) same ∙ get_or-set_same now at v (pos 0) h ∙ is ∙ ap (λ i. coordinate old i *ℤ by) (sym same))
    (λ other. get_or-set_other now at a v (pos 0) other ∙ made a (strict a at less other))
  where
    strict : (a at : ℕ) → a < at + 1 → (a ≡ at → ⊥) → a < at
    strict a at h other = omega arith

pub left-next : (old now : List ℤ) (v : ℤ) (at : ℕ) → ((a : ℕ) → at ≤ a → coordinate now a ≡ coordinate old a) → (a : ℕ) → at + 1 ≤ a → coordinate (slice_set now at v) a ≡ coordinate old a
left-next old now v at left a more = get_or-set_other now at a v (pos 0) (behind a at more) ∙ left a (below a at more)
  where
    behind : (a at : ℕ) → at + 1 ≤ a → a ≡ at → ⊥
    behind a at h e = omega arith

    below : (a at : ℕ) → at + 1 ≤ a → at ≤ a
    below a at h = omega arith

-- All were multiplied.
pub all-made : (old now : List ℤ) (by : ℤ) (at : ℕ) → length now ≤ at → length now ≡ length old → ((a : ℕ) → a < at → coordinate now a ≡ coordinate old a *ℤ by) → (a : ℕ) → coordinate now a ≡ coordinate old a *ℤ by
all-made old now by at h same made a = by_less a at (λ less. made a less)
    (λ more. past-end now a (pos 0) (le-le (length now) at a h more) ∙ sym (ap (λ z. z *ℤ by) (past-end old a (pos 0) (subst (λ n. n ≤ a) same (le-le (length now) at a h more))) ∙ zero-*ℤ by))
  where
    by_less : {P : Type 0} (a b : ℕ) → (a < b → P) → (b ≤ a → P) → P
    by_less zero zero one two = two (omega arith)
    by_less zero (suc b) one two = one (omega arith)
    by_less (suc a) zero one two = two (omega arith)
    by_less (suc a) (suc b) one two = by_less a b (λ h. one (omega arith)) (λ h. two (omega arith))

    le-le : (a b c : ℕ) → a ≤ b → b ≤ c → a ≤ c
    le-le a b c h k = omega arith

-- What is written back to a list through a slice of the whole.
pub written-back : (len : ℕ) (made old : List ℤ) → len ≡ length old → length made ≡ length old → take len (made ++ drop (length made) old) ≡ made
written-back len made old whole same = ap (λ l. take len (made ++ l)) (drop-all (length made) old (le-same (length old) (length made) (sym same))) ∙ ap (take len) (append-nil made)
    ∙ take_all len made (le-same (length made) len (same ∙ sym whole))
  where
    le-same : (a b : ℕ) → a ≡ b → a ≤ b
    le-same a b e = omega arith

    append-nil : (xs : List ℤ) → xs ++ [] ≡ xs
    append-nil [] = refl
    append-nil (x ∷ xs) = ap (λ l. x ∷ l) (append-nil xs)

pub moved-is : (old made : List ℤ) (atom : ℕ) (limit : Limit) (over new_over num den : ℤ) → atom < length old → length made ≡ length old → ((a : ℕ) → coordinate made a ≡ coordinate old a *ℤ den) → num ≡ limit.num → den ≡ limit.den
    → new_over ≡ over *ℤ limit.den → IsMoved atom limit (coordinate old) over (coordinate (slice_set made atom num)) new_over
moved-is old made atom limit over new_over num den h same law num_is den_is over_is = record {
  others = λ a other. get_or-set_other made atom a num (pos 0) other ∙ law a ∙ ap (λ z. coordinate old a *ℤ z) den_is;
  here = get_or-set_same made atom num (pos 0) (subst (λ n. atom < n) (sym same) h) ∙ num_is;
  den = over_is;
}

pub zeros-value : (n a : ℕ) → coordinate (replicate n (pos 0)) a ≡ pos 0
zeros-value zero a = refl
zeros-value (suc n) zero = refl
zeros-value (suc n) (suc a) = zeros-value n a

pub zeros-length : (n : ℕ) → length (replicate n (pos 0)) ≡ n
zeros-length zero = refl
zeros-length (suc n) = ap suc (zeros-length n)
