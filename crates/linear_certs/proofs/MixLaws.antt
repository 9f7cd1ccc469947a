-- Multipliers mixed place by place.
use Rattle.std.proofs.Common.{◌≡◌, ◌∙◌, ◌<◌, ◌≤◌, ℕ, ◌+◌, ℤ, pos, ◌+ℤ◌, ◌*ℤ◌, List, [], ◌∷◌, ◌++◌, ap, sym, refl, arith, Bool, true, false, ◌&&◌, length, drop, get_or, append_assoc, append-nil, suc, zero, Err}
use Rattle.std.specs.List.{list_all}
use Rattle.std.proofs.lemmas.List.Folds.{list_all-append}
use Rattle.linear_rows.specs.Numbers.{fits}
use Rattle.linear_rows.specs.declared.row.RowFail.{RowFail}
use Rattle.linear_rows.specs.declared.row.RowFail.TheVariants.{NoMemory, Wide}
use Rattle.linear_certs.specs.Stages.{mixed_multipliers}
use Rattle.linear_certs.specs.Code.Building.{IsNumber, IsMixedList}
use Rattle.linear_certs.proofs.Basics.{and-both, and-true, drop-all, drop-next}

and-false : (a b : Bool) → b ≡ false → (a && b) ≡ false
and-false true b h = h
and-false false b h = refl

mixed-drop : (a b : ℤ) (left right : List ℤ) (at : ℕ) → at < length left → length left ≡ length right
    → mixed_multipliers a (drop at left) b (drop at right) ≡ (a *ℤ get_or left at (pos 0) +ℤ b *ℤ get_or right at (pos 0)) ∷ mixed_multipliers a (drop (at + 1) left) b (drop (at + 1) right)
mixed-drop a b left right at h same = ap (λ l. mixed_multipliers a l b (drop at right)) (drop-next at left (pos 0) h) ∙ ap (λ r. mixed_multipliers a (get_or left at (pos 0) ∷ drop (at + 1) left) b r) (drop-next at right (pos 0) (omega arith))

pub mixed-next : (a b : ℤ) (left right done pushed : List ℤ) (at : ℕ) (sum : ℤ) → at < length left → length left ≡ length right
    → mixed_multipliers a left b right ≡ done ++ mixed_multipliers a (drop at left) b (drop at right) → list_all fits done ≡ true
    → sum ≡ a *ℤ get_or left at (pos 0) +ℤ b *ℤ get_or right at (pos 0) → fits sum ≡ true → pushed ≡ done ++ sum ∷ []
    → (mixed_multipliers a left b right ≡ pushed ++ mixed_multipliers a (drop (at + 1) left) b (drop (at + 1) right)) × (list_all fits pushed ≡ true)
mixed-next a b left right done pushed at sum h same so_far fit is small push =
    let rest = mixed_multipliers a (drop (at + 1) left) b (drop (at + 1) right) in (
      so_far ∙ ap (λ l. done ++ l) (mixed-drop a b left right at h same ∙ ap (λ z. z ∷ rest) (sym is)) ∙ sym (append_assoc done (sum ∷ []) rest) ∙ ap (λ p. p ++ rest) (sym push),
      ap (list_all fits) push ∙ list_all-append fits done (sum ∷ []) ∙ and-true _ _ fit (and-true _ _ small refl),
    )

and-first : (a b : Bool) → a ≡ false → (a && b) ≡ false
and-first true b h = absurd cc
and-first false b h = refl

pub mixed-wide : (a b : ℤ) (left right done : List ℤ) (at : ℕ) → at < length left → length left ≡ length right
    → mixed_multipliers a left b right ≡ done ++ mixed_multipliers a (drop at left) b (drop at right)
    → fits (a *ℤ get_or left at (pos 0) +ℤ b *ℤ get_or right at (pos 0)) ≡ false → list_all fits (mixed_multipliers a left b right) ≡ false
mixed-wide a b left right done at h same so_far wide =
    ap (list_all fits) (so_far ∙ ap (λ l. done ++ l) (mixed-drop a b left right at h same)) ∙ list_all-append fits done _ ∙ and-false _ _ (and-first _ _ wide)

mixed-end : (a b : ℤ) (left right : List ℤ) (at : ℕ) → length left ≤ at → mixed_multipliers a (drop at left) b (drop at right) ≡ []
mixed-end a b left right at h = ap (λ l. mixed_multipliers a l b (drop at right)) (drop-all at left h)

pub mixed-whole : (a b : ℤ) (left right done : List ℤ) (at : ℕ) → length left ≤ at
    → mixed_multipliers a left b right ≡ done ++ mixed_multipliers a (drop at left) b (drop at right) → done ≡ mixed_multipliers a left b right
mixed-whole a b left right done at h so_far = sym (so_far ∙ ap (λ l. done ++ l) (mixed-end a b left right at h) ∙ append-nil done)

-- A place that fails makes the whole fail.
pub mixed-failed : (a b : ℤ) (left right done : List ℤ) (at : ℕ) (exact : ℤ) (fail : RowFail) → at < length left → length left ≡ length right
    → mixed_multipliers a left b right ≡ done ++ mixed_multipliers a (drop at left) b (drop at right)
    → exact ≡ a *ℤ get_or left at (pos 0) +ℤ b *ℤ get_or right at (pos 0) → IsNumber exact (Err fail) → IsMixedList a left b right (Err fail)
mixed-failed a b left right done at exact NoMemory h same so_far is failed = tt
mixed-failed a b left right done at exact Wide h same so_far is failed = mixed-wide a b left right done at h same so_far (ap fits (sym is) ∙ failed)

-- A member of a list that fits.
pub fits-at : (xs : List ℤ) (i : ℕ) → list_all fits xs ≡ true → i < length xs → fits (get_or xs i (pos 0)) ≡ true
fits-at [] i h k = absurd (omega arith)
fits-at (x ∷ xs) zero h k = (and-both (fits x) (list_all fits xs) h).0
fits-at (x ∷ xs) (suc i) h k = fits-at xs i (and-both (fits x) (list_all fits xs) h).1 (omega arith)
