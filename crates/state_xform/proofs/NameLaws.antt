-- What stands in a set of references to names, as it changes.
use Rattle.std.proofs.Common.{◌≡◌, ℕ, suc, ◌+◌, ◌<◌, length, drop, get_or, Bool, true, false, if◌then◌else◌, ◌&&◌, ◌||◌, List, [], ◌∷◌, ◌++◌, map, filter, refl, sym, ap, ◌∙◌, arith, drop-cons}
use Rattle.std.specs.Str.{bytes_eq}
use Rattle.std.specs.Borrow.{Bor}
use Rattle.std.specs.List.{list_any}
use Rattle.std.proofs.lemmas.List.Folds.{list_any-append}
use Rattle.std.proofs.lemmas.Map.Views.{any-filter_same}
use Rattle.std.proofs.lemmas.Slice.Eq.{bytes_eq-Decides}
use Rattle.indexmap.specs.IndexSet.{insert_key}
use Rattle.c_lang.specs.Names.{Bytes}

abbrev pub same_name : Bor Bytes → Bor Bytes → Bool
same_name k n = bytes_eq k.now n.now

abbrev pub names_of : List (Bor Bytes) → List Bytes
names_of ks = map (λ k. k.now) ks

-- the name stands there, as the set looks for it, and as it is seen
abbrev pub stands : Bytes → List (Bor Bytes) → Bool
stands x ks = list_any (λ k. bytes_eq x k.now) ks

from_true : (x y : Bytes) → bytes_eq x y ≡ true → x ≡ y
from_true x y = (bytes_eq-Decides x y).0

pub stands-seen : (x : Bytes) (ks : List (Bor Bytes)) → stands x ks ≡ list_any (bytes_eq x) (names_of ks)
stands-seen x [] = refl
stands-seen x (k ∷ ks) = ap (λ b. bytes_eq x k.now || b) (stands-seen x ks)

last_first : (a b : Bool) → (a || (b || false)) ≡ (b || a)
last_first true true = refl
last_first true false = refl
last_first false true = refl
last_first false false = refl

or_same : (a b : Bool) → (a ≡ true → b ≡ true) → b ≡ (a || b)
or_same true b h = h refl
or_same false b h = refl

pub stands-insert : (x : Bytes) (ks : List (Bor Bytes)) (k : Bor Bytes) → stands x (insert_key same_name ks k) ≡ (bytes_eq x k.now || stands x ks)
stands-insert x ks k = by (stands k.now ks) refl
  where
    by : (b : Bool) → stands k.now ks ≡ b → stands x (if b then ks else ks ++ k ∷ []) ≡ (bytes_eq x k.now || stands x ks)
    by true there = or_same (bytes_eq x k.now) (stands x ks) (λ is. ap (λ y. stands y ks) (from_true x k.now is) ∙ there)
    by false there = list_any-append (λ n. bytes_eq x n.now) ks (k ∷ []) ∙ last_first (stands x ks) (bytes_eq x k.now)

pub seen-insert : (x : Bytes) (ks : List (Bor Bytes)) (k : Bor Bytes)
    → list_any (bytes_eq x) (names_of (insert_key same_name ks k)) ≡ (bytes_eq x k.now || list_any (bytes_eq x) (names_of ks))
seen-insert x ks k =
    sym (stands-seen x (insert_key same_name ks k)) ∙ stands-insert x ks k ∙ ap (λ b. bytes_eq x k.now || b) (stands-seen x ks)

-- one more name, whether or not there are all
pub past : (a b c d : Bool) → d ≡ (b || c) → (a || d) ≡ (b || (a || c))
past true true c d is = refl
past true false c d is = refl
past false b c d is = is

and_swap : (a b : Bool) → (a && b) ≡ (b && a)
and_swap true true = refl
and_swap true false = refl
and_swap false true = refl
and_swap false false = refl

pub seen-filter : (test : Bytes → Bool) (x : Bytes) (ks : List (Bor Bytes))
    → list_any (bytes_eq x) (names_of (filter (λ k. test k.now) ks)) ≡ (list_any (bytes_eq x) (names_of ks) && test x)
seen-filter test x ks =
    sym (stands-seen x (filter (λ k. test k.now) ks))
    ∙ any-filter_same (λ k. bytes_eq x k.now) (λ k. test k.now) (test x) (λ k is. ap test (sym (from_true x k.now is))) ks
    ∙ and_swap (test x) (stands x ks)
    ∙ ap (λ b. b && test x) (stands-seen x ks)

-- a loop that adds names: what is left, and what stands there
pub one_added : (first rest old new whole : Bool) → new ≡ (first || old) → ((first || rest) || old) ≡ whole → (rest || new) ≡ whole
one_added true true old new whole is all = all
one_added true false old new whole is all = is ∙ all
one_added false true old new whole is all = all
one_added false false old new whole is all = is ∙ all

pub drop-next : {X : Type 0} (xs : List X) (i : ℕ) (x : X) → i < length xs → x ≡ get_or xs i x → drop i xs ≡ x ∷ drop (i + 1) xs
drop-next xs i x within is =
    let next : suc i ≡ i + 1 = omega arith in
    drop-cons xs i x within ∙ ap (λ y. y ∷ drop (suc i) xs) (sym is) ∙ ap (λ n. x ∷ drop n xs) next
