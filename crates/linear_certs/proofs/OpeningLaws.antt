-- The inequalities of given rows.
use Rattle.std.proofs.Common.{◌≡◌, ◌∙◌, ◌<◌, ◌≤◌, ℕ, ◌+◌, ℤ, pos, negsuc, ◌+ℤ◌, ◌*ℤ◌, ◌≤ℤ◌, List, [], ◌∷◌, ◌++◌, ap, sym, refl, arith, true, suc, zero, length, get_or, take, ◌⊎◌, inl, inr, append_assoc, append-nil}
use Rattle.std.specs.Prelude.{replicate}
use Rattle.std.specs.List.{list_all}
use Rattle.std.proofs.lemmas.Int.{ints}
use Rattle.std.proofs.lemmas.List.{take_more}
use Rattle.std.proofs.Math.IntN.{zero-*ℤ, *ℤ_comm}
use Rattle.linear_rows.specs.declared.row.Row.{Row}
use Rattle.linear_rows.specs.Numbers.{fits}
use Rattle.linear_rows.specs.Sums.{dot, row_fits}
use Rattle.linear_rows.specs.Combinations.{AreAllowed}
use Rattle.linear_rows.proofs.Ring.{times-one}
use Rattle.linear_rows.proofs.SumLaws.{dot-sums}
use Rattle.linear_rows.proofs.FormLaws.{From-sums}
use Rattle.linear_certs.specs.declared.entry.Entry.{Entry}
use Rattle.linear_certs.specs.Stages.{single, second_half, first_entry, second_entry, halves, opened, kept_once}
use Rattle.linear_certs.specs.Code.Building.{weighed, IsOpening, IsGiven}
use Rattle.linear_certs.proofs.StageLaws.{kept_once-append}
use Rattle.linear_certs.proofs.Basics.{and-true, zero-plus}

nothing-here : (x d : ℤ) → d ≡ pos 0 → pos 0 *ℤ x +ℤ d ≡ pos 0
nothing-here x d e = ap (λ z. z +ℤ d) (zero-*ℤ x) ∙ ap (λ z. pos 0 +ℤ z) e

skipped : (x d : ℤ) → pos 0 *ℤ x +ℤ d ≡ d
skipped x d = ap (λ z. z +ℤ d) (zero-*ℤ x) ∙ zero-plus d
  where
    zero-plus : (z : ℤ) → pos 0 +ℤ z ≡ z
    zero-plus z = omega (arith, ints)

weighed-none : (value : Row → ℤ) (rows : List Row) → weighed value rows (replicate (length rows) (pos 0)) ≡ pos 0
weighed-none value [] = refl
weighed-none value (r ∷ rs) = nothing-here (value r) _ (weighed-none value rs)

plus-none : (x d : ℤ) → d ≡ pos 0 → x +ℤ d ≡ x
plus-none x d e = omega (arith, ints)

weighed-single : (value : Row → ℤ) (rows : List Row) (k : ℕ) (t : ℤ) (d : Row) → k < length rows → weighed value rows (single (length rows) k t) ≡ t *ℤ value (get_or rows k d)
weighed-single value [] k t d h = absurd (omega arith)
weighed-single value (r ∷ rs) zero t d h = plus-none (t *ℤ value r) _ (weighed-none value rs)
weighed-single value (r ∷ rs) (suc k) t d h = skipped (value r) _ ∙ weighed-single value rs k t d (omega arith)

length-copies : (n : ℕ) → length (replicate n (pos 0)) ≡ n
length-copies zero = refl
length-copies (suc n) = ap suc (length-copies n)

length-single : (n k : ℕ) (t : ℤ) → length (single n k t) ≡ n
length-single zero k t = refl
length-single (suc n) zero t = ap suc (length-copies n)
length-single (suc n) (suc k) t = ap suc (length-single n k t)

allowed-none : (rows : List Row) (n : ℕ) → AreAllowed rows (replicate n (pos 0))
allowed-none [] n = tt
allowed-none (r ∷ rs) zero = tt
allowed-none (r ∷ rs) (suc n) = (inl (omega (arith, ints)), allowed-none rs n)

allowed-single : (rows : List Row) (n k : ℕ) (t : ℤ) (d : Row) → (pos 0 ≤ℤ t) ⊎ ((get_or rows k d).equal ≡ true) → AreAllowed rows (single n k t)
allowed-single [] n k t d h = tt
allowed-single (r ∷ rs) zero k t d h = tt
allowed-single (r ∷ rs) (suc n) zero t d h = (h, allowed-none rs n)
allowed-single (r ∷ rs) (suc n) (suc k) t d h = (inl (omega (arith, ints)), allowed-single rs n k t d h)

fits-none : (n : ℕ) → list_all fits (replicate n (pos 0)) ≡ true
fits-none zero = refl
fits-none (suc n) = and-true (fits (pos 0)) _ refl (fits-none n)

fits-single : (n k : ℕ) (t : ℤ) → fits t ≡ true → list_all fits (single n k t) ≡ true
fits-single zero k t h = refl
fits-single (suc n) zero t h = and-true (fits t) _ h (fits-none n)
fits-single (suc n) (suc k) t h = and-true (fits (pos 0)) _ refl (fits-single n k t h)

one-times : (x : ℤ) → pos 1 *ℤ x ≡ x
one-times x = *ℤ_comm (pos 1) x ∙ times-one x

pub first-opening : (rows : List Row) (k : ℕ) (row : Row) → IsGiven rows k row → IsOpening rows (first_entry (length rows) k row)
first-opening rows k row given =
    let there : (value : Row → ℤ) → value row ≡ weighed value rows (single (length rows) k (pos 1))
    = λ value. sym (weighed-single value rows k (pos 1) row given.within ∙ one-times (value (get_or rows k row)) ∙ ap value (sym given.is)) in record {
      derived = record {
        count = length-single (length rows) k (pos 1);
        parts = λ point. there (λ r. dot point r.parts);
        bound = there (λ r. r.bound);
        allowed = allowed-single rows (length rows) k (pos 1) row (inl (omega (arith, ints)));
      };
      form = given.form;
      strict = refl;
      narrow = given.narrow;
      small = fits-single (length rows) k (pos 1) refl;
    }

pub second-opening : (rows : List Row) (k : ℕ) (row : Row) → IsGiven rows k row → row.equal ≡ true → row_fits (second_half row) ≡ true → IsOpening rows (second_entry (length rows) k row)
second-opening rows k row given equal narrow =
    let there : (value : Row → ℤ) → negsuc 0 *ℤ value row ≡ weighed value rows (single (length rows) k (negsuc 0))
    = λ value. sym (weighed-single value rows k (negsuc 0) row given.within ∙ ap (λ r. negsuc 0 *ℤ value r) (sym given.is)) in record {
      derived = record {
        count = length-single (length rows) k (negsuc 0);
        parts = λ point. dot-sums point (negsuc 0) [] row.parts ∙ zero-plus (negsuc 0 *ℤ dot point row.parts) ∙ there (λ r. dot point r.parts);
        bound = zero-plus (negsuc 0 *ℤ row.bound) ∙ there (λ r. r.bound);
        allowed = allowed-single rows (length rows) k (negsuc 0) row (inr (ap (λ r. r.equal) (sym given.is) ∙ equal));
      };
      form = From-sums (negsuc 0) [] 0 row.parts tt given.form;
      strict = refl;
      narrow = narrow;
      small = fits-single (length rows) k (negsuc 0) refl;
    }

opened-append : (count number : ℕ) (xs ys : List Row) → opened count number (xs ++ ys) ≡ opened count number xs ++ opened count (number + length xs) ys
opened-append count number [] ys = ap (λ n. opened count n ys) (none number)
  where
    none : (n : ℕ) → n ≡ n + 0
    none n = omega arith
opened-append count number (x ∷ xs) ys = ap (λ l. halves count number x ++ l) (opened-append count (suc number) xs ys ∙ ap (λ n. opened count (suc number) xs ++ opened count n ys) (shift number (length xs)))
    ∙ sym (append_assoc (halves count number x) (opened count (suc number) xs) (opened count (number + suc (length xs)) ys))
  where
    shift : (n m : ℕ) → suc n + m ≡ n + suc m
    shift n m = omega arith

length-front : {X : Type 0} (n : ℕ) (xs : List X) → n ≤ length xs → length (take n xs) ≡ n
length-front zero xs h = refl
length-front (suc n) [] h = absurd (omega arith)
length-front (suc n) (x ∷ xs) h = ap suc (length-front n xs (omega arith))

at-place : (i : ℕ) (rows : List Row) → i < length rows → i ≡ 0 + length (take i rows)
at-place i rows h = let e = length-front i rows (omega arith) in omega arith

pub opened-step : (rows : List Row) (so_far now : List Entry) (i : ℕ) (row : Row) → i < length rows → row ≡ get_or rows i row
    → so_far ≡ kept_once [] (opened (length rows) 0 (take i rows)) → now ≡ kept_once so_far (halves (length rows) i row) → now ≡ kept_once [] (opened (length rows) 0 (take (i + 1) rows))
opened-step rows so_far now i row h is before here =
    here ∙ ap (λ l. kept_once l (halves (length rows) i row)) before ∙ sym (kept_once-append [] (opened (length rows) 0 (take i rows)) (halves (length rows) i row))
    ∙ ap (kept_once []) (ap (λ l. opened (length rows) 0 (take i rows) ++ l) (sym (append-nil (halves (length rows) i row)) ∙ ap (λ n. opened (length rows) n (row ∷ [])) (at-place i rows h))
    ∙ sym (opened-append (length rows) 0 (take i rows) (row ∷ [])) ∙ ap (opened (length rows) 0) (ap (λ e. take i rows ++ e ∷ []) is ∙ sym (take_more rows i row h)))
