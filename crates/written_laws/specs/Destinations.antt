-- Where the results of calls, inputs and choices go.
use Rattle.std.specs.Prelude.{⊤, ◌≡◌, false, None}
use Rattle.std.specs.List.{Contains}
use Rattle.c_lang.specs.Programs.{global_named}
use Rattle.c_lang.specs.Trees.{Statement, call, call_by, input, choice}
use Rattle.c_lang.specs.declared.stmt.Dest.{Dest}
use Rattle.c_lang.specs.declared.stmt.Dest.TheVariants.{Nowhere, Into, Fresh}
use Rattle.c_lang.specs.declared.program.Program.{Program}
use Rattle.written_laws.specs.Walk.{Context, InBodies}

-- of the result of a call, an input or a choice
abbrev pub OfResult : (Dest → Type 0) → Statement → Type 0
OfResult Says (call p d f es) = Says d
OfResult Says (call_by p d x es) = Says d
OfResult Says (input p d) = Says d
OfResult Says (choice p d k) = Says d
OfResult Says s = ⊤

-- Outside of picks, whose calls may go to any name, a name that isn't declared here is a parameter, or
-- a local that is declared before.
abbrev pub IsLocal : Context → Dest → Type 0
IsLocal at Nowhere = ⊤
IsLocal at (Into x) = at.in_pick ≡ false → Contains at.declared x
IsLocal at (Fresh k x) = ⊤

abbrev pub ResultsGoToLocals : Program → Type 0
ResultsGoToLocals p = InBodies (λ at s. OfResult (IsLocal at) s) p

abbrev pub IsNoGlobal : Program → Dest → Type 0
IsNoGlobal p Nowhere = ⊤
IsNoGlobal p (Into x) = global_named p.globals x ≡ None
IsNoGlobal p (Fresh k x) = global_named p.globals x ≡ None

abbrev pub ResultsGoToNoGlobals : Program → Type 0
ResultsGoToNoGlobals p = InBodies (λ at s. OfResult (IsNoGlobal p) s) p
