-- What is visible at the loops of a small body, by computing.
use Rattle.std.proofs.Common.{◌≡◌, [], ◌∷◌, codes, refl}
use Rattle.c_lang.specs.Names.{Bytes}
use Rattle.c_lang.specs.Trees.{Statements, none, more, set, while_loop, variable}
use Rattle.c_lang.specs.declared.unit.Pos.{Pos}
use Rattle.c_lang.specs.declared.unit.Unit.TheVariants as unit
use Rattle.c_lang.specs.declared.stmt.Kind.TheVariants as kind
use Rattle.c_lang.specs.declared.stmt.Dest.TheVariants as dest
use Rattle.loop_invariants.specs.Loops.{loops_in}

at : Pos
at = record { unit = unit.Merge; line = 1 }

x : Bytes
x = codes "x"

y : Bytes
y = codes "y"

-- a loop that declares y, and one in it
body : Statements
body = more (while_loop at (variable x)
    (more (set at (dest.Fresh kind.Int y) (variable x))
    (more (while_loop at (variable y) (more (set at (dest.Into y) (variable x)) none))
    none))) none

shown : loops_in (x ∷ []) body ≡ (x ∷ []) ∷ (x ∷ y ∷ []) ∷ []
unfolding body
shown = refl
