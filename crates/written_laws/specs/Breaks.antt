-- `break` stands in loops alone.
use Rattle.std.specs.Prelude.{⊤, ◌≡◌, true}
use Rattle.c_lang.specs.Trees.{Statement, break_loop}
use Rattle.c_lang.specs.declared.program.Program.{Program}
use Rattle.written_laws.specs.Walk.{Context, InBodies}

abbrev pub IsNoStrayBreak : Context → Statement → Type 0
IsNoStrayBreak at (break_loop p) = at.in_loop ≡ true
IsNoStrayBreak at s = ⊤

abbrev pub BreaksStandInLoops : Program → Type 0
BreaksStandInLoops p = InBodies IsNoStrayBreak p
