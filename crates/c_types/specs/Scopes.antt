-- What is in scope, and which declarations of locals are refused.
use Rattle.std.specs.Prelude.{codes, nat_eq, ◌&&◌, ℕ, nat_lt, Bool, false, not, if◌then◌else◌, Option, Some, None, ◌||◌}
use Rattle.std.specs.Option.{is_some, option_or}
use Rattle.std.specs.List.{starts_with}
use Rattle.c_lang.specs.Refusals as refused
use Rattle.c_lang.specs.Limits.{parameter_limit}
use Rattle.c_lang.specs.Names.{Bytes}
use Rattle.c_lang.specs.Kinds.{same_kind}
use Rattle.c_lang.specs.declared.stmt.Kind.{Kind}
use Rattle.c_lang.specs.declared.stmt.Kind.TheVariants.{Int, Fp}
use Rattle.c_lang.specs.declared.stmt.Dest.{Dest}
use Rattle.c_lang.specs.declared.stmt.Dest.TheVariants.{Nowhere, Into, Fresh}
use Rattle.c_types.specs.Names.{Means, Cell, Array, Code, Refused, Names, Entries, found, meant, added, stands_from, stands_before, smaller}

-- what the two calls of a pick see of the unit and of the versions
pub record Picks : Type 0 where
  pub after : Entries
  pub before : Entries

-- the names that a statement of a function sees, and the rules that it is under
pub record Scope : Type 0 where
  -- what is visible in the whole unit, as it is here
  pub outside : Entries
  -- what is visible in its place behind `dsu_force();`, where one may stand here
  pub forced : Option Entries
  -- what is visible in its place in picks, where they may stand
  pub picks : Option Picks
  -- the parameters, then the locals that are visible
  pub locals : Entries
  -- the locals of the function's blocks that have ended
  pub told : Entries
  -- the locals of all open blocks, also those that are declared further on
  pub ahead : Entries
  -- whether the function gives a value
  pub gives : Bool
  -- whether the function is a transformer's
  pub xform : Bool

-- one of the calls of a pick sees these names
abbrev pub in_pick : Scope → Entries → Scope
in_pick scope outside = record scope { outside = outside; picks = None }

-- where the names of a block begin in `locals`, and in `ahead`
pub record Block : Type 0 where
  pub base : ℕ
  pub mark : ℕ

-- ---- names

-- globals and functions, then parameters and locals
abbrev pub in_scope : Scope → Bytes → Option Means
in_scope scope x = option_or (found scope.outside x) (found scope.locals x)

abbrev pub names_of : Scope → Names
names_of scope x = meant (in_scope scope x)

-- ---- declarations

-- a pointer of too many parameters
abbrev pub wrong_kind : Kind → Option ℕ
wrong_kind Int = None
wrong_kind (Fp n) = if nat_lt parameter_limit n then Some refused.past_limit else None

-- 19 in a transformer, which only computes
abbrev pub wrong_effect : Scope → Option ℕ
wrong_effect scope = if scope.xform then Some refused.transformer_effect else None

-- the name is, in a transformer, that of a version's global or function
unfoldable pub names_version : Bytes → Bool
names_version x = starts_with nat_eq x (codes "dsu_old_") || starts_with nat_eq x (codes "dsu_new_")

abbrev pub is_another : Option Means → Kind → Bool
is_another (Some (Cell j)) k = not (same_kind j k)
is_another (Some Array) k = false
is_another (Some (Code params gives value denied)) k = false
is_another (Some (Refused n)) k = false
is_another None k = false

-- 7 where the block has the local already, or a block that has ended had it with another kind; 8 where the
-- name is in scope, so that a global, a function, a parameter or a local of an enclosing block has it, where
-- an enclosing block declares it further on, or a transformer names a version's so
abbrev pub wrong_fresh : Block → Scope → Kind → Bytes → Option ℕ
wrong_fresh block scope k x =
    if stands_from block.base scope.locals x then Some refused.duplicate
    else if is_another (found scope.told x) k then Some refused.duplicate
    else if is_some (in_scope scope x) then Some refused.shadowed
    else if stands_before block.mark scope.ahead x then Some refused.shadowed
    else if scope.xform && names_version x then Some refused.shadowed
    else None

abbrev pub with_dest : Entries → Dest → Entries
with_dest entries Nowhere = entries
with_dest entries (Into x) = entries
with_dest entries (Fresh k x) = added entries x (Cell k)

abbrev pub declared : Scope → Dest → Scope
declared scope d = record scope { locals = with_dest scope.locals d }

-- ---- where a value goes

abbrev pub wrong_target : Means → Option ℕ
wrong_target (Cell k) = None
wrong_target Array = Some refused.wrong_kind
wrong_target (Code params gives value denied) = Some refused.wrong_kind
wrong_target (Refused n) = Some n

abbrev pub wrong_dest : Block → Scope → Dest → Option ℕ
wrong_dest block scope Nowhere = None
wrong_dest block scope (Into x) = wrong_target (names_of scope x)
wrong_dest block scope (Fresh k x) = smaller (wrong_fresh block scope k x) (wrong_kind k)

abbrev pub kind_of_target : Means → Option Kind
kind_of_target (Cell k) = Some k
kind_of_target Array = None
kind_of_target (Code params gives value denied) = None
kind_of_target (Refused n) = None

abbrev pub kind_of_dest : Scope → Dest → Option Kind
kind_of_dest scope Nowhere = None
kind_of_dest scope (Into x) = kind_of_target (names_of scope x)
kind_of_dest scope (Fresh k x) = Some k
