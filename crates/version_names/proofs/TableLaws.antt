-- A new name goes last, and is found.
use Rattle.std.proofs.Common.{◌≡◌, ◌∙◌, ◌++◌, ◌∷◌, [], List, Bool, true, cond, Option, None, Some, false, is_some, refl, sym, ap}
use Rattle.std.specs.Prelude.{bytes_eq, if◌then◌else◌}
use Rattle.std.proofs.lemmas.Slice.Eq.{bytes_eq-Decides}
use Rattle.std.specs.Map.{lookup}
use Rattle.indexmap.specs.IndexMap.{IndexMap, insert_entry}
use Rattle.indexmap.proofs.CallerLemmas.{insert_entry-new}
use Rattle.c_lang.specs.Names.{Bytes}
use Rattle.version_names.specs.Code.Tables.{found, added}

nothing : {X : Type 0} (o : Option X) → is_some o ≡ false → o ≡ None
nothing None h = refl
nothing (Some x) h = absurd cc

added-absent : {X : Type 0} (entries : List (Bytes × X)) (x : Bytes) (v : X) → is_some (found entries x) ≡ false → added entries x v ≡ entries ++ (x, v) ∷ []
added-absent entries x v absent = rw absent refl

pub added-new : {X S : Type 0} (map : IndexMap Bytes X S) (entries new : List (Bytes × X)) (x : Bytes) (v : X)
    → map.entries ≡ entries → new ≡ insert_entry bytes_eq map.entries x v → is_some (lookup (bytes_eq x) map.entries) ≡ false
    → new ≡ added entries x v
added-new map entries new x v same inserted absent =
    let none : lookup (bytes_eq x) map.entries ≡ None = nothing (lookup (bytes_eq x) map.entries) absent in
    rw (← same) (inserted ∙ insert_entry-new bytes_eq map x v none ∙ sym (added-absent map.entries x v absent))

-- what is found, or else this
abbrev pub or_else : {X : Type 0} → Option X → Option X → Option X
or_else None other = other
or_else (Some x) other = Some x

pub none_else : {X : Type 0} (o : Option X) → o ≡ or_else o None
none_else None = refl
none_else (Some w) = refl

-- behind the entries that are there
found-append : {X : Type 0} (entries : List (Bytes × X)) (x y : Bytes) (v : X)
    → found (entries ++ (x, v) ∷ []) y ≡ or_else (found entries y) (if bytes_eq y x then Some v else None)
found-append [] x y v = refl
found-append (e ∷ entries) x y v = by_test (bytes_eq y e.0) (found-append entries x y v)
  where
    by_test : (b : Bool) → found (entries ++ (x, v) ∷ []) y ≡ or_else (found entries y) (if bytes_eq y x then Some v else None)
        → cond b (Some e.1) (found (entries ++ (x, v) ∷ []) y) ≡ or_else (cond b (Some e.1) (found entries y)) (if bytes_eq y x then Some v else None)
    by_test true h = refl
    by_test false h = h

-- a name that is added is found where it wasn't before
pub found-added : {X : Type 0} (entries : List (Bytes × X)) (x y : Bytes) (v : X)
    → found (added entries x v) y ≡ or_else (found entries y) (if bytes_eq y x then Some v else None)
found-added {X} entries x y v = by_test (found entries x) refl
  where
    there : (o : Option X) → is_some o ≡ true → (b : Bool) → o ≡ or_else o (if b then Some v else None)
    there (Some w) h b = refl
    there None h b = absurd cc

    by_test : (o : Option X) → found entries x ≡ o → found (if is_some o then entries else entries ++ (x, v) ∷ []) y ≡ or_else (found entries y) (if bytes_eq y x then Some v else None)
    by_test None h = found-append entries x y v
    by_test (Some w) h = by_name (bytes_eq y x) refl
      where
        by_name : (b : Bool) → bytes_eq y x ≡ b → found entries y ≡ or_else (found entries y) (if b then Some v else None)
        by_name true same = there (found entries y) (ap is_some (ap (found entries) ((bytes_eq-Decides y x).0 same) ∙ h)) true
        by_name false same = none_else (found entries y)
