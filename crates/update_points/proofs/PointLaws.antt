-- Sets of numbers, and the answer of the whole from those of its parts.
use Rattle.std.specs.Prelude.{◌≡◌, ℕ, Bool, true, false, ◌||◌, nat_eq, if◌then◌else◌, List, [], ◌∷◌, ◌++◌, Option, Some, None}
use Rattle.std.proofs.Common.{refl, sym, ap, ◌∙◌}
use Rattle.std.proofs.lemmas.List.Folds.{list_any-append}
use Rattle.std.proofs.lemmas.Bool.{eqb-true}
use Rattle.update_points.specs.Points.{is_listed, added, all_added, are_points, no_such_point, permitted_by}

or_assoc : (a b c : Bool) → (a || (b || c)) ≡ ((a || b) || c)
or_assoc true b c = refl
or_assoc false b c = refl

or_none : (b : Bool) → (b || false) ≡ b
or_none true = refl
or_none false = refl

listed_added : (ks : List ℕ) (l k : ℕ) → is_listed k (added ks l) ≡ (is_listed k ks || nat_eq k l)
listed_added ks l k = by_test (is_listed l ks) refl
  where
    there : (b : Bool) → nat_eq k l ≡ b → is_listed l ks ≡ true → is_listed k ks ≡ (is_listed k ks || b)
    there true same h = let e : is_listed k ks ≡ true = ap (λ j. is_listed j ks) (eqb-true k l same) ∙ h in rw e refl
    there false same h = sym (or_none (is_listed k ks))

    by_test : (b : Bool) → is_listed l ks ≡ b → is_listed k (if b then ks else ks ++ l ∷ []) ≡ (is_listed k ks || nat_eq k l)
    by_test true h = there (nat_eq k l) refl h
    by_test false h = list_any-append (nat_eq k) ks (l ∷ []) ∙ ap (λ b. is_listed k ks || b) (or_none (nat_eq k l))

listed_all : (ks ls : List ℕ) (k : ℕ) → is_listed k (all_added ks ls) ≡ (is_listed k ks || is_listed k ls)
listed_all ks [] k = sym (or_none (is_listed k ks))
listed_all ks (l ∷ ls) k =
    listed_all (added ks l) ls k ∙ ap (λ b. b || is_listed k ls) (listed_added ks l k) ∙ sym (or_assoc (is_listed k ks) (nat_eq k l) (is_listed k ls))

-- a set of these has just these
pub same_members : (ls : List ℕ) (k : ℕ) → is_listed k (all_added [] ls) ≡ is_listed k ls
same_members ls k = listed_all [] ls k

-- a list of points alone is permitted
pub permitted-is : (ks ls may : List ℕ) (listed : Option (List ℕ)) (test : Bool) → listed ≡ Some ls → test ≡ are_points ks ls → test ≡ true → may ≡ all_added [] ls
    → (no_such_point ks listed ≡ None) × ((k : ℕ) → is_listed k may ≡ permitted_by ks listed k)
permitted-is ks ls may listed test is tested all set =
    let good : are_points ks ls ≡ true = sym tested ∙ all in
    (rw (is, good) refl, λ k. rw (is, set) (same_members ls k))
