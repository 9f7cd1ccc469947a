-- What names stand for, and the numbers that refuse their use.
use Rattle.std.specs.Prelude.{ℕ, nat_lt, nat_le, Bool, false, if◌then◌else◌, List, [], ◌∷◌, ◌++◌, Option, Some, None, bytes_eq, position}
use Rattle.std.specs.Option.{is_some}
use Rattle.std.specs.Map.{lookup, keys_of}
use Rattle.c_lang.specs.Refusals as refused
use Rattle.c_lang.specs.Names.{Bytes}
use Rattle.c_lang.specs.Kinds.{same_kind}
use Rattle.c_lang.specs.declared.stmt.Kind.{Kind}

-- what a name stands for where it is used
pub data Means : Type 0 where
  -- a global, parameter or local that holds one value
  Cell : Kind → Means
  -- a global array
  Array : Means
  -- a function: the kinds of its parameters, whether it gives a value, the number of parameters with which its
  -- name is a value, where it is one, and the number that refuses a call of it, where one does
  Code : List Kind → Bool → Option ℕ → Option ℕ → Means
  -- a name that may not be used, for the reason with this number
  Refused : ℕ → Means

-- what each name stands for at a place of the text
abbrev pub Names : Type 0
Names = Bytes → Means

-- names with what they stand for, in the order of their declarations
abbrev pub Entries : Type 0
Entries = List (Bytes × Means)

abbrev pub found : Entries → Bytes → Option Means
found entries x = lookup (bytes_eq x) entries

-- a name that nothing declares is unknown
abbrev pub meant : Option Means → Means
meant (Some m) = m
meant None = Refused refused.unknown

-- of several declarations of one name the first counts
abbrev pub added : Entries → Bytes → Means → Entries
added entries x m = if is_some (found entries x) then entries else entries ++ (x, m) ∷ []

abbrev pub at_least : ℕ → Option ℕ → Bool
at_least base None = false
at_least base (Some i) = nat_le base i

abbrev pub less_than : ℕ → Option ℕ → Bool
less_than mark None = false
less_than mark (Some i) = nat_lt i mark

-- the name stands at this place of the entries, or behind it
abbrev pub stands_from : ℕ → Entries → Bytes → Bool
stands_from base entries x = at_least base (position (bytes_eq x) (keys_of entries))

-- the name stands before this place of the entries
abbrev pub stands_before : ℕ → Entries → Bytes → Bool
stands_before mark entries x = less_than mark (position (bytes_eq x) (keys_of entries))

-- the smaller of two numbers of refusals, where there are any
abbrev pub smaller : Option ℕ → Option ℕ → Option ℕ
smaller None b = b
smaller (Some m) None = Some m
smaller (Some m) (Some n) = if nat_lt n m then Some n else Some m

-- 10 where a kind doesn't fit its place
abbrev pub fits : Kind → Kind → Option ℕ
fits place k = if same_kind place k then None else Some refused.wrong_kind
