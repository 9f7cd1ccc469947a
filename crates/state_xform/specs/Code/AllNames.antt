-- What a walk finds for all names at once.
use Rattle.std.specs.Prelude.{◌≡◌}
use Rattle.c_lang.specs.Names.{Bytes}
use Rattle.state_xform.specs.Code.NameSets.{has}
use Rattle.state_xform.specs.Code.Walk.{Sets, found}
use Rattle.state_xform.specs.declared.always.PathNames.{PathNames}

-- what is found of one name
abbrev pub sets_at : PathNames → Bytes → Sets
sets_at names x = found (has names.behind x) (has names.returned x)

-- of each name this is found
abbrev pub IsFound : PathNames → (Bytes → Sets) → Type 0
IsFound names sets = (x : Bytes) → sets_at names x ≡ sets x
