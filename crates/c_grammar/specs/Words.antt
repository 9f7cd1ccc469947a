-- Keywords with their numbers, and reserved words.
use Rattle.std.specs.Prelude.{ℕ, Bool, true, false, not, ◌&&◌, ◌||◌, if◌then◌else◌, nat_lt, nat_eq, bytes_eq, List, [], ◌∷◌, ◌++◌, length, count_by, Option, Some, None, codes}
use Rattle.std.specs.List.{list_any, starts_with}
use Rattle.std.specs.Ordering.{is_lt, nat_cmp}
use Rattle.std.specs.Cmp.Lexicographic.{slice_cmp}
use Rattle.c_lang.specs.Names.{Bytes, c_keywords, own_keywords, is_reserved}
use Rattle.c_lang.specs.declared.unit.Unit.{Unit}
use Rattle.c_lang.specs.declared.unit.Unit.TheVariants.{Old, New, Xform, Client, Merge, Hints, Certs}

-- the words that are no identifiers
abbrev pub keywords : List Bytes
keywords =
    c_keywords ++ own_keywords
    ++ (codes "dsu_update" ∷ codes "dsu_force" ∷ codes "dsu_updated" ∷ codes "dsu_choice" ∷ [])

-- in the order of the bytes
abbrev pub comes_before : Bytes → Bytes → Bool
comes_before word other = is_lt (slice_cmp nat_cmp word other)

-- how many keywords come before this one
unfoldable pub keyword_number : Bytes → Option ℕ
keyword_number word =
    if list_any (bytes_eq word) keywords then Some (count_by (λ other. comes_before other word) keywords) else None

-- it begins with `dsu_old_` or `dsu_new_`, and goes on
abbrev pub is_version_name : Bytes → Bool
is_version_name word =
    nat_lt 8 (length word) && (starts_with nat_eq word (codes "dsu_old_") || starts_with nat_eq word (codes "dsu_new_"))

-- the reserved words that a unit may use
unfoldable pub is_allowed : Unit → Bytes → Bool
is_allowed Merge word = true
is_allowed Old word = bytes_eq word (codes "dsu_update")
is_allowed New word = bytes_eq word (codes "dsu_update")
is_allowed Client word =
    bytes_eq word (codes "dsu_update") || bytes_eq word (codes "dsu_force") || bytes_eq word (codes "dsu_updated")
is_allowed Xform word =
    bytes_eq word (codes "dsu_update") || bytes_eq word (codes "dsu_transform") || is_version_name word
is_allowed Hints word = false
is_allowed Certs word = false

abbrev pub is_refused : Unit → Bytes → Bool
is_refused unit word = is_reserved word && not (is_allowed unit word)
