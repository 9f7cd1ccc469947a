-- A loop that merges.
use Rattle.std.proofs.Common.{◌≡◌, ◌∙◌, ℕ, ◌+◌, ℤ, pos, negsuc, List, [], ◌∷◌, ◌++◌, ap, sym, refl, arith, subst, Bool, true, false, ◌&&◌, suc, zero, Option, Some, None, append_assoc, drop, if◌then◌else◌}
use Rattle.std.proofs.lemmas.List.Folds.{list_all-append}
use Rattle.linear_rows.specs.Numbers.{is_zero, fits, kept}
use Rattle.linear_rows.specs.Sums.{Part, before, all_fit, sums}

by_bool : (b : Bool) (e c : ℤ) → Some c ≡ (if b then Some e else None) → (b ≡ true) × (c ≡ e)
by_bool true e c h = (refl, grind (arith, h))
by_bool false e c h = absurd cc

kept-some : (e c : ℤ) → Some c ≡ kept e → (fits e ≡ true) × (c ≡ e)
kept-some e c h = by_bool (fits e) e c h

by_none : (b : Bool) (e : ℤ) → None ≡ (if b then Some e else None) → b ≡ false
by_none true e h = absurd cc
by_none false e h = refl

kept-none : (e : ℤ) → None ≡ kept e → fits e ≡ false
kept-none e h = by_none (fits e) e h

by_zero : (b : Bool) (p : Part) (rest : List Part) → (if b then rest else p ∷ rest) ≡ (if b then [] else p ∷ []) ++ rest
by_zero true p rest = refl
by_zero false p rest = refl

before-append : (p : Part) (rest : List Part) → before p rest ≡ before p [] ++ rest
before-append p rest = by_zero (is_zero p.1) p rest

all_fit-append : (xs ys : List Part) → all_fit (xs ++ ys) ≡ (all_fit xs && all_fit ys)
all_fit-append xs ys = list_all-append (λ part. fits part.1) xs ys

before-fits : (a : ℕ) (c : ℤ) → fits c ≡ true → all_fit (before (a, c) []) ≡ true
before-fits a (pos zero) h = refl
before-fits a (pos (suc n)) h = grind (arith, h)
before-fits a (negsuc n) h = grind (arith, h)

before-wide : (a : ℕ) (c : ℤ) (rest : List Part) → fits c ≡ false → all_fit (before (a, c) rest) ≡ false
before-wide a (pos zero) rest h = absurd cc
before-wide a (pos (suc n)) rest h = grind (arith, h)
before-wide a (negsuc n) rest h = grind (arith, h)

and-true : (a b : Bool) → a ≡ true → b ≡ true → (a && b) ≡ true
and-true true b h k = k
and-true false b h k = absurd cc

and-false : (a b : Bool) → b ≡ false → (a && b) ≡ false
and-false true b h = h
and-false false b h = refl

pub merge-next : (whole done front rest : List Part) (a : ℕ) (e c : ℤ) → whole ≡ done ++ front → front ≡ before (a, e) rest → Some c ≡ kept e → all_fit done ≡ true
    → (whole ≡ (done ++ before (a, c) []) ++ rest) × (all_fit (done ++ before (a, c) []) ≡ true)
merge-next whole done front rest a e c so_far here known fit =
    let k = kept-some e c known in
    let c_fits : fits c ≡ true = ap fits k.1 ∙ k.0 in (
      so_far ∙ ap (λ l. done ++ l) (here ∙ ap (λ z. before (a, z) rest) (sym k.1) ∙ before-append (a, c) rest) ∙ sym (append_assoc done (before (a, c) []) rest),
      all_fit-append done (before (a, c) []) ∙ and-true _ _ fit (before-fits a c c_fits),
    )

pub merge-wide : (whole done front rest : List Part) (a : ℕ) (e : ℤ) → whole ≡ done ++ front → front ≡ before (a, e) rest → None ≡ kept e → all_fit whole ≡ false
merge-wide whole done front rest a e so_far here known =
    ap all_fit (so_far ∙ ap (λ l. done ++ l) here) ∙ all_fit-append done (before (a, e) rest) ∙ and-false _ _ (before-wide a e rest (kept-none e known))

zero-plus : (n : ℕ) → n ≡ zero + n
zero-plus n = omega arith

suc-plus : (i n : ℕ) → suc (i + n) ≡ suc i + n
suc-plus i n = omega arith

drop-nil : {X : Type 0} (n : ℕ) → drop {A = X} n [] ≡ []
drop-nil zero = refl
drop-nil (suc n) = refl

pub drop-add : {X : Type 0} (i n : ℕ) (l : List X) → drop n (drop i l) ≡ drop (i + n) l
drop-add zero n l = ap (λ k. drop k l) (zero-plus n)
drop-add (suc i) n [] = drop-nil n ∙ sym (drop-nil (suc i + n))
drop-add {X = X} (suc i) n (x ∷ xs) = drop-add i n xs ∙ ap (λ k. drop k (x ∷ xs)) (suc-plus i n)

and-right : (a b : Bool) → (a && b) ≡ true → b ≡ true
and-right true b h = h
and-right false b h = absurd cc

pub all_fit-drop : (n : ℕ) (l : List Part) → all_fit l ≡ true → all_fit (drop n l) ≡ true
all_fit-drop zero l h = h
all_fit-drop (suc n) [] h = refl
all_fit-drop (suc n) (x ∷ xs) h = all_fit-drop n xs (and-right (fits x.1) (all_fit xs) h)

pub merge-step : (t : ℤ) (left right lrest rrest done pushed : List Part) (i j lb rb a : ℕ) (e c : ℤ) (coefficient : Option ℤ)
    → sums t left right ≡ done ++ sums t (drop i left) (drop j right) → all_fit done ≡ true
    → lrest ≡ drop i left → rrest ≡ drop j right
    → sums t lrest rrest ≡ before (a, e) (sums t (drop lb lrest) (drop rb rrest)) → coefficient ≡ kept e → coefficient ≡ Some c
    → pushed ≡ done ++ before (a, c) []
    → (sums t left right ≡ pushed ++ sums t (drop (i + lb) left) (drop (j + rb) right)) × (all_fit pushed ≡ true)
merge-step t left right lrest rrest done pushed i j lb rb a e c coefficient so_far fit l_is r_is here known is push =
    let front_is : sums t (drop i left) (drop j right) ≡ before (a, e) (sums t (drop lb (drop i left)) (drop rb (drop j right)))
    = subst (λ l. sums t l (drop j right) ≡ before (a, e) (sums t (drop lb l) (drop rb (drop j right)))) l_is
    (subst (λ r. sums t lrest r ≡ before (a, e) (sums t (drop lb lrest) (drop rb r))) r_is here) in
    let next = merge-next (sums t left right) done (sums t (drop i left) (drop j right)) (sums t (drop lb (drop i left)) (drop rb (drop j right))) a e c so_far front_is (sym is ∙ known) fit in (
      next.0 ∙ ap (λ p. p ++ sums t (drop lb (drop i left)) (drop rb (drop j right))) (sym push)
          ∙ ap (λ l. pushed ++ sums t l (drop rb (drop j right))) (drop-add i lb left) ∙ ap (λ r. pushed ++ sums t (drop (i + lb) left) r) (drop-add j rb right),
      ap all_fit push ∙ next.1,
    )
