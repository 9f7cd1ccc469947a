-- Sets of names.
use Rattle.std.specs.Prelude.{◌≡◌, Bool, ◌&&◌, ◌||◌, List, bytes_eq}
use Rattle.std.specs.List.{list_any}
use Rattle.c_lang.specs.Names.{Bytes}

-- Every name there can be, or the listed ones.
pub record Names : Type 0 where
  pub all : Bool
  pub listed : List Bytes

abbrev pub has : Names → Bytes → Bool
has names x = names.all || list_any (bytes_eq x) names.listed

-- it has the names of both
abbrev pub IsUnion : Names → Names → Names → Type 0
IsUnion first second both = (x : Bytes) → has both x ≡ (has first x || has second x)

-- it has the names that stand in both
abbrev pub IsCommon : Names → Names → Names → Type 0
IsCommon first second both = (x : Bytes) → has both x ≡ (has first x && has second x)
