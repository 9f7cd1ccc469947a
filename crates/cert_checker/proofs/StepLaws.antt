-- Operations on the last rows.
use Rattle.std.proofs.Common.{◌≡◌, ◌∙◌, ℕ, ◌+◌, ◌<◌, ◌≤◌, ◌^◌, zero, suc, ℤ, pos, negsuc, ◌-ℤ◌, true, ◌&&◌, List, [], ◌∷◌, reverse, Result, Ok, Err, ap, sym, refl, arith, lit<, FitsSigned}
use Rattle.std.specs.Prelude.{unsigned_abs}
use Rattle.std.specs.Int.{w128}
use Rattle.std.specs.List.{list_all}
use Rattle.std.proofs.lemmas.Int.{ints, fits_signed_from_abs}
use Rattle.std.proofs.lemmas.Bool.Decides.{nat_tests}
use Rattle.std.proofs.lemmas.List.{reverse-append}
use Rattle.std.proofs.lemmas.List.Folds.{list_all-append}
use Rattle.linear_rows.specs.declared.row.Row.{Row}
use Rattle.linear_rows.specs.declared.row.RowFail.{RowFail}
use Rattle.linear_rows.specs.declared.row.RowFail.TheVariants.{NoMemory, Wide}
use Rattle.linear_rows.specs.Numbers.{fits}
use Rattle.linear_rows.specs.Sums.{all_fit, row_fits, plus_times}
use Rattle.cert_checker.specs.Code.Steps.{sum_behind, turn_behind, less_one, IsPushed, IsApplied, first_fits}
use Rattle.cert_checker.proofs.Choices.{and_left, and_right, and_true}

-- ---- all rows fit

pub fit-reversed : (rows : List Row) → list_all row_fits rows ≡ true → list_all row_fits (reverse rows) ≡ true
fit-reversed [] h = refl
fit-reversed (row ∷ rows) h = ap (list_all row_fits) (reverse-append (row ∷ []) rows) ∙ list_all-append row_fits (reverse rows) (row ∷ [])
    ∙ and_true (list_all row_fits (reverse rows)) (list_all row_fits (row ∷ [])) (fit-reversed rows (and_right (row_fits row) (list_all row_fits rows) h))
    (and_true (row_fits row) true (and_left (row_fits row) (list_all row_fits rows) h) refl)

pub last-fits : (old rest : List Row) (first last : Row) → list_all row_fits old ≡ true → reverse old ≡ last ∷ (first ∷ rest) → (row_fits last ≡ true) × (row_fits first ≡ true)
last-fits old rest first last h is =
    let all : list_all row_fits (last ∷ (first ∷ rest)) ≡ true = ap (list_all row_fits) (sym is) ∙ fit-reversed old h in
    (and_left (row_fits last) (row_fits first && list_all row_fits rest) all, and_left (row_fits first) (list_all row_fits rest) (and_right (row_fits last) (row_fits first && list_all row_fits rest) all))

-- ---- what is pushed stands first in the reversed list

pub pushed-applied : (row : Row) (popped made : List Row) (result : Result (Unit {0}) RowFail) (new : List Row) → made ≡ row ∷ reverse popped → IsPushed row popped result new → IsApplied made result new
pushed-applied row popped made (Ok u) new is h = (ap reverse h.0 ∙ reverse-append popped (row ∷ []) ∙ sym is, ap first_fits is ∙ h.1)
pushed-applied row popped made (Err Wide) new is h = ap first_fits is ∙ h
pushed-applied row popped made (Err NoMemory) new is h = tt

pub sum-applied : (times : ℤ) (old popped : List Row) (first last : Row) (result : Result (Unit {0}) RowFail) (new : List Row) → reverse old ≡ last ∷ (first ∷ reverse popped)
    → IsPushed (plus_times first times last) popped result new → IsApplied (sum_behind times (reverse old)) result new
sum-applied times old popped first last result new is h = pushed-applied (plus_times first times last) popped (sum_behind times (reverse old)) result new (ap (sum_behind times) is) h

pub turn-applied : (old popped : List Row) (first less last : Row) (result : Result (Unit {0}) RowFail) (new : List Row) → reverse old ≡ last ∷ (first ∷ reverse popped)
    → less ≡ less_one first → IsPushed (plus_times last (negsuc 0) less) popped result new → IsApplied (turn_behind (reverse old)) result new
turn-applied old popped first less last result new is same h = pushed-applied (plus_times last (negsuc 0) less) popped (turn_behind (reverse old)) result new
    (ap turn_behind is ∙ ap (λ r. plus_times last (negsuc 0) r ∷ reverse popped) (sym same)) h

-- ---- one less

one-less : (z : ℤ) → fits z ≡ true → unsigned_abs (z -ℤ pos 1) ≤ 2 ^ 100 + 1
one-less (pos n) h = let le : n ≤ 2 ^ 100 = grind (arith, nat_tests, h) in below n le
  where
    below : (n : ℕ) → n ≤ 2 ^ 100 → unsigned_abs (pos n -ℤ pos 1) ≤ 2 ^ 100 + 1
    below zero h = omega arith
    below (suc n) h = omega (arith, ints)
one-less (negsuc n) h = let less : n < 2 ^ 100 = grind (arith, nat_tests, h) in omega (arith, ints)

under : (n m k : ℕ) → n ≤ m → m < k → n < k
under n m k h l = omega arith

pub less-fits : (row : Row) → row_fits row ≡ true → FitsSigned w128 (row.bound -ℤ pos 1)
less-fits row h = fits_signed_from_abs w128 (row.bound -ℤ pos 1) (under (unsigned_abs (row.bound -ℤ pos 1)) (2 ^ 100 + 1) (2 ^ 127) (one-less row.bound (and_right (all_fit row.parts) (fits row.bound) h)) (lit< tt))
