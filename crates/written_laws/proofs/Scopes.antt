-- Which names a function's text has declared: by the scope of its grammar, and by its statements.
use Rattle.std.specs.Prelude.{◌⊎◌, ◌≡◌, suc, Bool, true, false, cond, ◌||◌, bytes_eq, List, [], ◌∷◌, ◌++◌, map}
use Rattle.std.proofs.Common.{refl, sym, ap, subst, ◌∙◌, inl, inr, arith}
use Rattle.std.specs.List.{list_any, Contains}
use Rattle.std.proofs.lemmas.List.Folds.{list_any-append}
use Rattle.std.proofs.lemmas.Slice.Eq.{bytes_eq-Decides}
use Rattle.c_lang.specs.Names.{Bytes}
use Rattle.c_lang.specs.declared.stmt.Kind.{Kind}
use Rattle.c_grammar.specs.Scopes.{Scope, is_declared, declare}
use Rattle.c_grammar.specs.Units.{all_declared}

pub at_front : (x : Bytes) (xs : List Bytes) → Contains (x ∷ xs) x
at_front x xs = (0, omega arith, refl)

pub further : (x y : Bytes) (xs : List Bytes) → Contains xs y → Contains (x ∷ xs) y
further x y xs h = (suc h.0, omega (arith, h.1), h.2)

or_cases : (a b : Bool) → (a || b) ≡ true → (a ≡ true) ⊎ (b ≡ true)
or_cases true b h = inl refl
or_cases false b h = inr h

pub same_bytes : (x y : Bytes) → bytes_eq x y ≡ true → x ≡ y
same_bytes x y h = (bytes_eq-Decides x y).0 h

or_none : (b : Bool) → (b || false) ≡ b
or_none true = refl
or_none false = refl

declared_cases : (sc : Scope) (x y : Bytes) → is_declared (declare sc x) y ≡ true → (is_declared sc y ≡ true) ⊎ (y ≡ x)
declared_cases sc x y h = by_test (is_declared sc x) h
  where
    by_test : (b : Bool) → list_any (bytes_eq y) (cond b sc.declared (sc.declared ++ x ∷ [])) ≡ true → (is_declared sc y ≡ true) ⊎ (y ≡ x)
    by_test true h = inl h
    by_test false h = elim (or_cases (is_declared sc y) (bytes_eq y x) (ap (λ (b : Bool). is_declared sc y || b) (sym (or_none (bytes_eq y x))) ∙ sym (list_any-append (bytes_eq y) sc.declared (x ∷ [])) ∙ h)) [
      | inl old ↦ inl old
      | inr new ↦ inr (same_bytes y x new)
    ]

-- all that the grammar has declared is among the names
abbrev pub Covers : Scope → List Bytes → Type 0
Covers sc names = (x : Bytes) → is_declared sc x ≡ true → Contains names x

pub covers_more : (sc : Scope) (names : List Bytes) (x : Bytes) → Covers sc names → Covers sc (x ∷ names)
covers_more sc names x covers y h = further x y names (covers y h)

pub covers_both : (sc : Scope) (names : List Bytes) (x : Bytes) → Covers sc names → Covers (declare sc x) (x ∷ names)
covers_both sc names x covers y h = elim (declared_cases sc x y h) [
  | inl old ↦ further x y names (covers y old)
  | inr same ↦ subst (λ (z : Bytes). Contains (x ∷ names) z) (sym same) (at_front x names)
]

covers_same : (sc : Scope) (names : List Bytes) (x : Bytes) → Contains names x → Covers sc names → Covers (declare sc x) names
covers_same sc names x there covers y h = elim (declared_cases sc x y h) [
  | inl old ↦ covers y old
  | inr same ↦ subst (λ (z : Bytes). Contains names z) (sym same) there
]

abbrev pub names_in : List (Kind × Bytes) → List Bytes
names_in qs = map (λ (q : Kind × Bytes). q.1) qs

pub params_covered : (qs : List (Kind × Bytes)) (sc : Scope) (names : List Bytes)
    → ((x : Bytes) → Contains (names_in qs) x → Contains names x) → Covers sc names → Covers (all_declared qs sc) names
params_covered [] sc names within covers = covers
params_covered (q ∷ qs) sc names within covers =
    params_covered qs (declare sc q.1) names (λ x h. within x (further q.1 x (names_in qs) h)) (covers_same sc names q.1 (within q.1 (at_front q.1 (names_in qs))) covers)
