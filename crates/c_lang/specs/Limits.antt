-- The limits on texts, programs and runs.
use Rattle.std.specs.Prelude.{ℕ}
use Rattle.c_lang.specs.declared.unit.Unit.{Unit}
use Rattle.c_lang.specs.declared.unit.Unit.TheVariants.{Old, New, Xform, Client, Merge, Hints, Certs}

-- the most bytes of a unit's text
abbrev pub size_limit : Unit → ℕ
size_limit Old = 262144
size_limit New = 262144
size_limit Xform = 262144
size_limit Client = 262144
size_limit Merge = 67108864
size_limit Hints = 262144
size_limit Certs = 67108864

-- how high a unit's statements may be, and how many of its brackets may be open
abbrev pub height_limit : Unit → ℕ
height_limit Merge = 72
height_limit _ = 64

-- how many cells a unit may have, each element of an array being one
abbrev pub cell_limit : Unit → ℕ
cell_limit Merge = 3145728
cell_limit _ = 1048576

-- the most elements of an array; the fewest are 1
abbrev pub element_limit : ℕ
element_limit = 65536

-- the most parameters of a function or pointer
abbrev pub parameter_limit : ℕ
parameter_limit = 32

-- the most frames of a run
abbrev pub frame_limit : ℕ
frame_limit = 10000
