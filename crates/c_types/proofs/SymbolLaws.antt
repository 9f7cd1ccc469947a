-- A table of names and what it stands for.
use Rattle.std.proofs.Common.{◌≡◌, ◌∙◌, ◌++◌, ◌∷◌, [], ℕ, List, map, take, length, Option, None, Some, true, false, is_some, refl, sym, ap}
use Rattle.std.specs.Prelude.{bytes_eq}
use Rattle.std.specs.Map.{lookup, keys_of}
use Rattle.std.proofs.lemmas.List.{map-append, take-map, length-map}
use Rattle.std.proofs.lemmas.Map.Made.{lookup-map_values, keys_of-map_values}
use Rattle.indexmap.specs.IndexMap.{IndexMap, insert_entry}
use Rattle.indexmap.proofs.CallerLemmas.{insert_entry-new}
use Rattle.c_lang.specs.Names.{Bytes}
use Rattle.c_types.specs.declared.means.Means as code
use Rattle.c_types.specs.Names.{Means, Entries, added, found}
use Rattle.c_types.specs.Code.SeenMeans.{seen_means, seen_name, seen_entry}

pub is_some_seen : (o : Option code.Means) → is_some (seen_name o) ≡ is_some o
is_some_seen None = refl
is_some_seen (Some m) = refl

pub found_seen : (es : List (Bytes × code.Means)) (x : Bytes) → found (map seen_entry es) x ≡ seen_name (lookup (bytes_eq x) es)
found_seen es x = lookup-map_values seen_means (bytes_eq x) es

pub keys_seen : (es : List (Bytes × code.Means)) → keys_of (map seen_entry es) ≡ keys_of es
keys_seen es = keys_of-map_values seen_means es

pub length_seen : (es : List (Bytes × code.Means)) → length (map seen_entry es) ≡ length es
length_seen es = length-map es seen_entry

pub take_seen : (n : ℕ) (es : List (Bytes × code.Means)) → map seen_entry (take n es) ≡ take n (map seen_entry es)
take_seen n es = sym (take-map seen_entry n es)

-- ---- a name is added

is_some_found : (es : List (Bytes × code.Means)) (x : Bytes) → is_some (found (map seen_entry es) x) ≡ is_some (lookup (bytes_eq x) es)
is_some_found es x = ap is_some (found_seen es x) ∙ is_some_seen (lookup (bytes_eq x) es)

nothing : {X : Type 0} (o : Option X) → is_some o ≡ false → o ≡ None
nothing None h = refl
nothing (Some x) h = absurd (cc)

added-absent : (entries : Entries) (x : Bytes) (m : Means) → is_some (found entries x) ≡ false → added entries x m ≡ entries ++ (x, m) ∷ []
added-absent entries x m absent = rw absent refl

pub added-present : (es : List (Bytes × code.Means)) (entries : Entries) (x : Bytes) (m : Means)
    → entries ≡ map seen_entry es → is_some (lookup (bytes_eq x) es) ≡ true → entries ≡ added entries x m
added-present es entries x m same present =
    let there : is_some (found entries x) ≡ true = ap (λ (e : Entries). is_some (found e x)) same ∙ is_some_found es x ∙ present in
    rw there refl

pub added-new : {S : Type 0} (table : IndexMap Bytes code.Means S) (entries : Entries) (new : List (Bytes × code.Means)) (x : Bytes) (m : code.Means)
    → map seen_entry table.entries ≡ entries → new ≡ insert_entry bytes_eq table.entries x m → is_some (lookup (bytes_eq x) table.entries) ≡ false
    → map seen_entry new ≡ added entries x (seen_means m)
added-new table entries new x m same inserted absent =
    let none : lookup (bytes_eq x) table.entries ≡ None = nothing (lookup (bytes_eq x) table.entries) absent in
    let is : map seen_entry new ≡ map seen_entry table.entries ++ (x, seen_means m) ∷ [] =
    ap (map seen_entry) (inserted ∙ insert_entry-new bytes_eq table x m none) ∙ map-append seen_entry table.entries ((x, m) ∷ []) in
    let missing : is_some (found (map seen_entry table.entries) x) ≡ false = is_some_found table.entries x ∙ absent in
    rw (← same) (is ∙ sym (added-absent (map seen_entry table.entries) x (seen_means m) missing))
