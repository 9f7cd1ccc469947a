-- Where names stand in entries, and entries under other names.
use Rattle.std.proofs.Common.{◌≡◌, ◌+◌, ℕ, suc, nat_lt, eqb, cond, Bool, true, false, not, List, [], ◌∷◌, ◌++◌, map, length, Option, Some, None, is_some, refl, sym, ap, ap₂, ◌∙◌, arith}
use Rattle.std.specs.Prelude.{if◌then◌else◌, position}
use Rattle.std.specs.List.{position_or_len}
use Rattle.std.specs.Map.{keys_of}
use Rattle.std.specs.Str.{bytes_eq}
use Rattle.std.proofs.lemmas.Bool.Decides.{nat_tests}
use Rattle.std.proofs.lemmas.List.{map-append, length-map}
use Rattle.std.proofs.lemmas.List.Folds.{position_or_len_push}
use Rattle.c_lang.specs.Names.{Bytes}
use Rattle.c_types.specs.Names.{Means, Entries, found, added, stands_from, stands_before, at_least, less_than}
use Rattle.merged_program.proofs.MergedNames.{bytes_eq-refl}

-- ---- where a name that isn't there would stand

place_absent : (es : Entries) (x : Bytes) → found es x ≡ None → position_or_len (bytes_eq x) (keys_of es) ≡ length (keys_of es)
place_absent [] x h = refl
place_absent (e ∷ es) x h = by_test (bytes_eq x e.0) h (place_absent es x)
  where
    by_test : (b : Bool) → cond b (Some e.1) (found es x) ≡ None
        → (found es x ≡ None → position_or_len (bytes_eq x) (keys_of es) ≡ length (keys_of es))
        → cond (not b) (1 + position_or_len (bytes_eq x) (keys_of es)) 0 ≡ suc (length (keys_of es))
    by_test true h more = absurd cc
    by_test false h more = let e = more h in omega (arith, e)

pub absent_from : (base : ℕ) (es : Entries) (x : Bytes) → found es x ≡ None → stands_from base es x ≡ false
absent_from base es x h =
    let e = place_absent es x h in
    let t : nat_lt (length (keys_of es)) (length (keys_of es)) ≡ false = grind (arith, nat_tests) in
    ap (λ n. at_least base (cond (nat_lt n (length (keys_of es))) (Some n) None)) e ∙ ap (λ (b : Bool). at_least base (cond b (Some (length (keys_of es))) None)) t

-- a name that is added stands behind those before
pub added_behind : (es : Entries) (x : Bytes) (m : Means) → found es x ≡ None → stands_before (length es) (added es x m) x ≡ false
added_behind es x m h =
    let whole : added es x m ≡ es ++ (x, m) ∷ [] = ap (λ (o : Option Means). if is_some o then es else es ++ (x, m) ∷ []) h in
    let keys : keys_of (es ++ (x, m) ∷ []) ≡ keys_of es ++ x ∷ [] = map-append (λ (e : Bytes × Means). e.0) es ((x, m) ∷ []) in
    let e = place_absent es x h in
    let p : position_or_len (bytes_eq x) (keys_of es ++ x ∷ []) ≡ length es = placed e in
    ap (λ (fs : Entries). stands_before (length es) fs x) whole
    ∙ ap (λ (ks : List Bytes). less_than (length es) (position (bytes_eq x) ks)) keys
    ∙ by_test (nat_lt (position_or_len (bytes_eq x) (keys_of es ++ x ∷ [])) (length (keys_of es ++ x ∷ []))) p
  where
    placed : position_or_len (bytes_eq x) (keys_of es) ≡ length (keys_of es) → position_or_len (bytes_eq x) (keys_of es ++ x ∷ []) ≡ length es
    placed e =
        let l : length (keys_of es) ≡ length es = length-map es (λ (e : Bytes × Means). e.0) in
        let t : eqb (position_or_len (bytes_eq x) (keys_of es)) (length (keys_of es)) ≡ true = grind (arith, nat_tests, e) in
        let n : length (keys_of es) + 0 ≡ length es = omega (arith, l) in
        position_or_len_push (bytes_eq x) (keys_of es) x
        ∙ ap (λ (b : Bool). cond b (length (keys_of es) + cond (bytes_eq x x) 0 1) (position_or_len (bytes_eq x) (keys_of es))) t
        ∙ ap (λ (b : Bool). length (keys_of es) + cond b 0 1) (bytes_eq-refl x) ∙ n

    by_test : {place : ℕ} (b : Bool) → place ≡ length es → less_than (length es) (cond b (Some place) None) ≡ false
    by_test true p = grind (arith, nat_tests, p)
    by_test false p = refl

-- ---- entries under other names

module _ (ρ : Bytes → Bytes) where
  abbrev pub renamed_entries : Entries → Entries
  renamed_entries es = map (λ (e : Bytes × Means). (ρ e.0, e.1)) es

  pub apart_found : (es : Entries) (z : Bytes) → ((x : Bytes) → bytes_eq z (ρ x) ≡ false) → found (renamed_entries es) z ≡ None
  apart_found [] z apart = refl
  apart_found (e ∷ es) z apart = ap (λ (b : Bool). cond b (Some e.1) (found (renamed_entries es) z)) (apart e.0) ∙ apart_found es z apart

  module _ (same : (x y : Bytes) → bytes_eq (ρ x) (ρ y) ≡ bytes_eq x y) where
    pub renamed_found : (es : Entries) (x : Bytes) → found (renamed_entries es) (ρ x) ≡ found es x
    renamed_found [] x = refl
    renamed_found (e ∷ es) x = ap₂ (λ (b : Bool) (o : Option Means). cond b (Some e.1) o) (same x e.0) (renamed_found es x)

    pub renamed_added : (es : Entries) (x : Bytes) (m : Means) → added (renamed_entries es) (ρ x) m ≡ renamed_entries (added es x m)
    renamed_added es x m =
        ap (λ (o : Option Means). if is_some o then renamed_entries es else renamed_entries es ++ (ρ x, m) ∷ []) (renamed_found es x)
        ∙ by_test (is_some (found es x))
      where
        by_test : (b : Bool) → (if b then renamed_entries es else renamed_entries es ++ (ρ x, m) ∷ []) ≡ renamed_entries (if b then es else es ++ (x, m) ∷ [])
        by_test true = refl
        by_test false = sym (map-append (λ (e : Bytes × Means). (ρ e.0, e.1)) es ((x, m) ∷ []))

    same_place : (es : Entries) (x : Bytes) → position_or_len (bytes_eq (ρ x)) (keys_of (renamed_entries es)) ≡ position_or_len (bytes_eq x) (keys_of es)
    same_place [] x = refl
    same_place (e ∷ es) x = ap₂ (λ (b : Bool) n. cond (not b) (1 + n) 0) (same x e.0) (same_place es x)

    same_length : (es : Entries) → length (keys_of (renamed_entries es)) ≡ length (keys_of es)
    same_length es = length-map (renamed_entries es) (λ (e : Bytes × Means). e.0) ∙ length-map es (λ (e : Bytes × Means). (ρ e.0, e.1)) ∙ sym (length-map es (λ (e : Bytes × Means). e.0))

    pub same_position : (es : Entries) (x : Bytes) → position (bytes_eq (ρ x)) (keys_of (renamed_entries es)) ≡ position (bytes_eq x) (keys_of es)
    same_position es x = ap₂ (λ n l. cond (nat_lt n l) (Some n) None) (same_place es x) (same_length es)
