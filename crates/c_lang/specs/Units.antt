-- The units' words, and positions in them.
use Rattle.std.specs.Prelude.{⊤, ℕ, ◌≤◌, List, codes}
use Rattle.c_lang.specs.declared.unit.Unit.{Unit}
use Rattle.c_lang.specs.declared.unit.Unit.TheVariants.{Old, New, Xform, Client, Merge, Hints, Certs}
use Rattle.c_lang.specs.declared.unit.Pos.{Pos}

abbrev pub word : Unit → List ℕ
word Old = codes "old"
word New = codes "new"
word Xform = codes "xform"
word Client = codes "client"
word Merge = codes "merge"
word Hints = codes "hints"
word Certs = codes "certs"

abbrev pub at : Unit → ℕ → Pos
at unit line = record { unit = unit; line = line }

-- a number that a text can have: an `int` that isn't negative
abbrev pub FitsNumber : ℕ → Type 0
FitsNumber value = value ≤ 2147483647

-- a unit that `#line` can name
abbrev pub HasPrograms : Unit → Type 0
HasPrograms Hints = ⊥
HasPrograms Certs = ⊥
HasPrograms _ = ⊤

-- a position that `#line` can give
abbrev pub IsPosition : Pos → Type 0
IsPosition p = HasPrograms p.unit × (1 ≤ p.line) × FitsNumber p.line
