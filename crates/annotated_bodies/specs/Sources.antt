-- What a context is read from.
use Rattle.std.specs.Prelude.{List, map}
use Rattle.std.specs.Borrow.{Bor}
use Rattle.c_lang.specs.Names.{Bytes}
use Rattle.c_lang.specs.declared.program.Program.{Program}
use Rattle.loop_invariants.specs.Hints.{Hints}
use Rattle.loop_invariants.specs.Context.{Context, context_of}

abbrev pub Sources : Type 0
Sources = Program × Hints

abbrev pub context_in : Sources → Context
context_in s = context_of s.0 s.1

abbrev pub names_in : List (Bor Bytes) → List Bytes
names_in = map (λ x. x.now)
