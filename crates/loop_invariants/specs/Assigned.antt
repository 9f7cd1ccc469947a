-- Functions whose contracts list too few cells.
use Rattle.std.specs.Prelude.{Bool, not, ◌&&◌, if◌then◌else◌, List, [], ◌∷◌, map, Option, Some, None}
use Rattle.std.specs.List.{list_any}
use Rattle.c_lang.specs.Trees.{statements, statement_of}
use Rattle.c_lang.specs.declared.unit.Pos.{Pos}
use Rattle.c_lang.specs.declared.program.Func.{Func}
use Rattle.c_lang.specs.declared.program.Program.{Program}
use Rattle.loop_invariants.specs.Hints.{Hints}
use Rattle.loop_invariants.specs.Context.{Context, context_of}
use Rattle.loop_invariants.specs.SetNames.{is_among, sets_in}

-- The body, or a function that it calls, may change a cell that the function's contract doesn't list. For a call
-- through a pointer each function that it may reach counts.
abbrev pub lists_too_few : Context → Func → Bool
lists_too_few c f = list_any (λ x. is_among x c.globals && not (is_among x (c.assigns f.name)))
    (sets_in c (statements (map statement_of f.body)))

abbrev pub first_too_few : Context → List Func → Option Pos
first_too_few c [] = None
first_too_few c (f ∷ fs) = if lists_too_few c f then Some f.pos else first_too_few c fs

-- the position of the first function that does
abbrev pub lacking : Program → Hints → Option Pos
lacking p hints = first_too_few (context_of p hints) p.funcs
