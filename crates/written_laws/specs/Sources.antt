-- The units of sources.
use Rattle.std.specs.Prelude.{⊤}
use Rattle.c_lang.specs.declared.unit.Unit.{Unit}
use Rattle.c_lang.specs.declared.unit.Unit.TheVariants.{Old, New, Xform, Client}

abbrev pub IsSource : Unit → Type 0
IsSource Old = ⊤
IsSource New = ⊤
IsSource Xform = ⊤
IsSource Client = ⊤
IsSource _ = ⊥
