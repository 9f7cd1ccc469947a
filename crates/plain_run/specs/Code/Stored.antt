-- What storing a value does to a frame's locals and to the state.
use Rattle.std.specs.Prelude.{◌≡◌, Bool, List}
use Rattle.plain_run.specs.Environments.{Sees}
use Rattle.plain_run.specs.Steps.{Access, Frame, Item, Live, stored}
use Rattle.c_lang.specs.declared.stmt.Dest.{Dest}
use Rattle.plain_run.specs.declared.value.Value.{Value}
use Rattle.plain_run.specs.Code.Frames.{frame_with}
use Rattle.plain_run.specs.Code.Names.{Entries, seen_locals}
use Rattle.plain_run.specs.Values.{seen_value}

-- for any rest of the configuration, since it plays no part
abbrev pub Stores : {X Y F G O : Type 0} → Sees X Y F O → Access F G O → Y → G → Entries X → Dest → Value X → G → Entries X → Type 0
Stores {X} {Y} {F} {G} {O} see N origin g locals d v g' locals' =
    (items : List Item) (dest : Dest) (gives : Bool) (below : List (Frame F O))
    → stored N g (frame_with (see.origin origin) (seen_locals see.function locals) items dest gives) below d (seen_value see.function v)
    ≡ Live g' (frame_with (see.origin origin) (seen_locals see.function locals') items dest gives) below
