-- Names that are gathered one after the other are those of a list, each at its first place.
use Rattle.std.proofs.Common.{ℕ, suc, ◌+◌, ◌<◌, ◌≤◌, length, drop, get_or, flat_map, drop-cons, add-one, ◌≡◌, Bool, true, false, not, ◌&&◌, ◌||◌, if◌then◌else◌, cond, List, [], ◌∷◌, ◌++◌, filter, map, refl, sym, ap, ◌∙◌, append_assoc}
use Rattle.std.specs.List.{list_any}
use Rattle.std.proofs.Math.ListN.{drop_of_length-le}
use Rattle.std.proofs.lemmas.List.{append-nil}
use Rattle.std.proofs.lemmas.List.Folds.{list_any-append}
use Rattle.terms.specs.declared.sym.Sym.{Sym}
use Rattle.terms.specs.Symbols.{same_sym}
use Rattle.terms.specs.Names.{Occurrence, symbol, with_name, with_names, first_occurrences, distinct}
use Rattle.terms.proofs.Choices.{by_bool}
use Rattle.terms.specs.Code.SymbolLaws.{same_sym-equal}

pub with_names-nil : (names : List Sym) → with_names names [] ≡ names
unfolding with_names
with_names-nil names = refl

pub with_names-one : (names : List Sym) (o : Occurrence) → with_names names (o ∷ []) ≡ with_name names (symbol o)
unfolding with_names
with_names-one names o = refl

pub with_names-append : (names : List Sym) (os ps : List Occurrence) → with_names names (os ++ ps) ≡ with_names (with_names names os) ps
unfolding with_names
with_names-append names [] ps = refl
with_names-append names (o ∷ os) ps = with_names-append (with_name names (symbol o)) os ps

pub ruleset adding = (with_names-nil, with_names-one, with_names-append)

-- ---- the gathered list is the definition's

kept_or_not : {X : Type 0} (p : X → Bool) (b : Bool) (x : X) (xs ys : List X) → xs ≡ filter p ys → cond (b && p x) (x ∷ xs) xs ≡ filter p (cond b (x ∷ ys) ys)
kept_or_not p true x xs ys e = λ i. cond (p x) (x ∷ e i) (e i)
kept_or_not p false x xs ys e = e

two_filters : {X : Type 0} (p q r : X → Bool) → ((x : X) → r x ≡ (q x && p x)) → (xs : List X) → filter r xs ≡ filter p (filter q xs)
two_filters p q r is [] = refl
two_filters p q r is (x ∷ xs) =
    ap (λ b. cond b (x ∷ filter r xs) (filter r xs)) (is x) ∙ kept_or_not p (q x) x (filter r xs) (filter q xs) (two_filters p q r is xs)

abbrev is_in : List Sym → Sym → Bool
is_in names x = list_any (λ y. same_sym y x) names

abbrev is_new : List Sym → Sym → Bool
is_new names x = not (is_in names x)

abbrev is_other : Sym → Sym → Bool
is_other x y = not (same_sym x y)

neither : (a b : Bool) → not (a || (b || false)) ≡ (not b && not a)
neither true true = refl
neither true false = refl
neither false true = refl
neither false false = refl

-- a name that is new behind x is another one than x
new_behind : (names : List Sym) (x y : Sym) → is_new (names ++ (x ∷ [])) y ≡ (is_other x y && is_new names y)
new_behind names x y = ap not (list_any-append (λ z. same_sym z y) names (x ∷ [])) ∙ neither (is_in names y) (same_sym x y)

-- a new name is another one than x, which isn't new
new_other : (names : List Sym) (x : Sym) → is_in names x ≡ true → (y : Sym) → is_new names y ≡ (is_other x y && is_new names y)
new_other names x e y = by_bool (same_sym x y)
    (λ same. ap not (ap (is_in names) (sym (same_sym-equal x y same)) ∙ e) ∙ sym (ap (λ b. not b && is_new names y) same))
    (λ other. sym (ap (λ b. not b && is_new names y) other))

one_more : (names : List Sym) (x : Sym) (xs : List Sym)
    → with_name names x ++ filter (is_new (with_name names x)) xs ≡ names ++ filter (is_new names) (x ∷ filter (is_other x) xs)
one_more names x xs = by_bool (is_in names x)
    (λ e. ap (λ b. (if b then names else names ++ (x ∷ [])) ++ filter (is_new (if b then names else names ++ (x ∷ []))) xs) e
    ∙ ap (λ (ys : List Sym). names ++ ys) (two_filters (is_new names) (is_other x) (is_new names) (new_other names x e) xs)
    ∙ sym (ap (λ b. names ++ cond (not b) (x ∷ filter (is_new names) (filter (is_other x) xs)) (filter (is_new names) (filter (is_other x) xs))) e))
    (λ e. ap (λ b. (if b then names else names ++ (x ∷ [])) ++ filter (is_new (if b then names else names ++ (x ∷ []))) xs) e
    ∙ ap (λ (ys : List Sym). (names ++ (x ∷ [])) ++ ys) (two_filters (is_new names) (is_other x) (is_new (names ++ (x ∷ []))) (new_behind names x) xs)
    ∙ append_assoc names (x ∷ []) (filter (is_new names) (filter (is_other x) xs))
    ∙ sym (ap (λ b. names ++ cond (not b) (x ∷ filter (is_new names) (filter (is_other x) xs)) (filter (is_new names) (filter (is_other x) xs))) e))

gathered : (names : List Sym) (os : List Occurrence) → with_names names os ≡ names ++ filter (is_new names) (first_occurrences (map symbol os))
unfolding with_names
gathered names [] = sym (append-nil names)
gathered names (o ∷ os) = gathered (with_name names (symbol o)) os ∙ one_more names (symbol o) (first_occurrences (map symbol os))

all_new : (xs : List Sym) → filter (is_new []) xs ≡ xs
all_new [] = refl
all_new (x ∷ xs) = ap (λ (ys : List Sym). x ∷ ys) (all_new xs)

pub with_names-distinct : (os : List Occurrence) → with_names [] os ≡ distinct os
with_names-distinct os = gathered [] os ∙ all_new (distinct os)

pub ruleset gathering = (with_names-distinct)

-- ---- a loop that gathers the names of a list's items

module _ {X : Type 0} (f : X → List Occurrence) where
  pub gather_more : (start names more : List Sym) (xs : List X) (i : ℕ) (x : X) → i < length xs → x ≡ get_or xs i x
      → with_names start (flat_map f xs) ≡ with_names names (flat_map f (drop i xs)) → more ≡ with_names names (f x)
      → with_names start (flat_map f xs) ≡ with_names more (flat_map f (drop (i + 1) xs))
  gather_more start names more xs i x within is kept made =
      let here : drop i xs ≡ x ∷ drop (i + 1) xs = drop-cons xs i x within ∙ ap (λ y. y ∷ drop (suc i) xs) (sym is) ∙ ap (λ n. x ∷ drop n xs) (sym (add-one i)) in
      kept ∙ ap (λ ys. with_names names (flat_map f ys)) here
      ∙ with_names-append names (f x) (flat_map f (drop (i + 1) xs))
      ∙ ap (λ ns. with_names ns (flat_map f (drop (i + 1) xs))) (sym made)

  pub gather_end : (start names : List Sym) (xs : List X) (i : ℕ) → length xs ≤ i
      → with_names start (flat_map f xs) ≡ with_names names (flat_map f (drop i xs)) → names ≡ with_names start (flat_map f xs)
  gather_end start names xs i past kept =
      sym (kept ∙ ap (λ ys. with_names names (flat_map f ys)) (drop_of_length-le xs past) ∙ with_names-nil names)
