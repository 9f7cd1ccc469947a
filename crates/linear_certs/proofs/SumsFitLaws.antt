-- Partial sums, one row after the other.
use Rattle.std.proofs.Common.{◌≡◌, ◌∙◌, ◌<◌, ◌≤◌, ℕ, ◌+◌, ℤ, pos, List, [], ◌∷◌, ap, sym, refl, arith, Bool, true, false, ◌&&◌, suc, zero, length, drop, get_or}
use Rattle.std.specs.List.{list_all}
use Rattle.linear_rows.specs.declared.row.Row.{Row}
use Rattle.linear_rows.specs.Numbers.{fits}
use Rattle.linear_rows.specs.Sums.{row_fits, plus_times}
use Rattle.linear_rows.specs.Combinations.{all_sums_fit}
use Rattle.linear_certs.proofs.Basics.{drop-all, drop-next}

both-fit : (a b c : Bool) → a ≡ true → b ≡ true → ((a && b) && c) ≡ c
both-fit true true c h k = refl
both-fit true false c h k = absurd cc
both-fit false b c h k = absurd cc

and-right : (a b : Bool) → (a && b) ≡ true → b ≡ true
and-right true b h = h
and-right false b h = absurd cc

and-left : (a b : Bool) → (a && b) ≡ true → a ≡ true
and-left true b h = refl
and-left false b h = absurd cc

number-fits : (at : ℕ) (list : List ℤ) → at < length list → list_all fits list ≡ true → fits (get_or list at (pos 0)) ≡ true
number-fits at [] h all = absurd (omega arith)
number-fits zero (x ∷ xs) h all = and-left (fits x) (list_all fits xs) all
number-fits (suc at) (x ∷ xs) h all = number-fits at xs (omega arith) (and-right (fits x) (list_all fits xs) all)

pub sums-next : (whole : Bool) (sum : Row) (rows : List Row) (ms : List ℤ) (at : ℕ) (row : Row) → at < length rows → length ms ≡ length rows → list_all fits ms ≡ true → row_fits sum ≡ true
    → row ≡ get_or rows at row → whole ≡ all_sums_fit sum (drop at rows) (drop at ms)
    → whole ≡ all_sums_fit (plus_times sum (get_or ms at (pos 0)) row) (drop (at + 1) rows) (drop (at + 1) ms)
sums-next whole sum rows ms at row h same small narrow is so_far =
    let m = get_or ms at (pos 0) in
    let m_fits = number-fits at ms (omega arith) small in
    so_far ∙ ap (λ l. all_sums_fit sum l (drop at ms)) (drop-next at rows row h ∙ ap (λ r. r ∷ drop (at + 1) rows) (sym is))
    ∙ ap (λ l. all_sums_fit sum (row ∷ drop (at + 1) rows) l) (drop-next at ms (pos 0) (omega arith))
    ∙ both-fit (row_fits sum) (fits m) (all_sums_fit (plus_times sum m row) (drop (at + 1) rows) (drop (at + 1) ms)) narrow m_fits

wide-first : (a b c : Bool) → a ≡ false → ((a && b) && c) ≡ false
wide-first true b c h = absurd cc
wide-first false b c h = refl

pub sums-wide : (sum : Row) (rows : List Row) (ms : List ℤ) → row_fits sum ≡ false → all_sums_fit sum rows ms ≡ false
sums-wide sum [] ms wide = wide
sums-wide sum (r ∷ rs) [] wide = wide
sums-wide sum (r ∷ rs) (m ∷ ms) wide = wide-first (row_fits sum) (fits m) (all_sums_fit (plus_times sum m r) rs ms) wide

pub sums-end : (whole : Bool) (sum : Row) (rows : List Row) (ms : List ℤ) (at : ℕ) → length rows ≤ at → row_fits sum ≡ true → whole ≡ all_sums_fit sum (drop at rows) (drop at ms) → whole ≡ true
sums-end whole sum rows ms at h narrow so_far = so_far ∙ ap (λ l. all_sums_fit sum l (drop at ms)) (drop-all at rows h) ∙ narrow
