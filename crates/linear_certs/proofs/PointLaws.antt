-- Numbers that are looked at part by part, and row by row.
use Rattle.std.proofs.Common.{◌≡◌, ◌∙◌, ◌<◌, ℕ, ◌+◌, ℤ, ◌+ℤ◌, ◌*ℤ◌, List, [], ◌∷◌, ◌++◌, ap, sym, arith, subst, length, get_or, drop, take, drop-cons, add-one}
use Rattle.std.specs.List.{All}
use Rattle.std.proofs.lemmas.Int.{ints}
use Rattle.std.proofs.lemmas.List.{take_more}
use Rattle.std.proofs.lemmas.List.Elements.{All-append, All-cons, All-nil}
use Rattle.linear_rows.specs.declared.row.Row.{Row}
use Rattle.linear_rows.specs.Sums.{Part, dot}

move : (s p r w : ℤ) → w ≡ s +ℤ (p +ℤ r) → w ≡ (s +ℤ p) +ℤ r
move s p r w e = omega (arith, ints)

pub dot-next : (point : ℕ → ℤ) (parts : List Part) (at : ℕ) (d : Part) (sum : ℤ) → at < length parts → dot point parts ≡ sum +ℤ dot point (drop at parts)
    → dot point parts ≡ (sum +ℤ (get_or parts at d).1 *ℤ point (get_or parts at d).0) +ℤ dot point (drop (at + 1) parts)
dot-next point parts at d sum h so_far =
    move sum ((get_or parts at d).1 *ℤ point (get_or parts at d).0) (dot point (drop (at + 1) parts)) (dot point parts)
    (so_far ∙ ap (λ l. sum +ℤ dot point l) (drop-cons parts at d h ∙ ap (λ n. get_or parts at d ∷ drop n parts) (sym (add-one at))))

pub hold-next : (P : Row → Type 0) (rows : List Row) (i : ℕ) (row : Row) → i < length rows → row ≡ get_or rows i row → All P (take i rows) → P row → All P (take (i + 1) rows)
hold-next P rows i row h is before here = subst (All P) (ap (λ r. take i rows ++ r ∷ []) is ∙ sym (take_more rows i row h)) (All-append P (take i rows) (row ∷ []) before (All-cons P row [] here (All-nil P)))
