-- Declarations of a unit that stands beside two versions: it has functions of its own and no globals.
use Rattle.std.specs.Prelude.{ℕ, List, [], ◌∷◌, Option, Some, None}
use Rattle.c_lang.specs.Limits.{cell_limit}
use Rattle.c_lang.specs.declared.unit.Unit.{Unit}
use Rattle.c_lang.specs.declared.refusal.Refusal.{Refusal}
use Rattle.c_lang.specs.declared.program.GlobalVar.{GlobalVar}
use Rattle.c_lang.specs.declared.program.Func.{Func}
use Rattle.c_lang.specs.declared.program.Program.{Program}
use Rattle.c_types.specs.Names.{Means, Code, Entries, added, smaller}
use Rattle.c_types.specs.Checks.{at_place, first}
use Rattle.c_types.specs.Functions.{kinds_of}
use Rattle.c_types.specs.Programs.{with_globals, with_funcs, wrong_global, refusal_of_protos}

-- an own function may be called, unless a number refuses it, and its name is no value
abbrev pub own_func : Option ℕ → Func → Means
own_func denied f = Code (kinds_of f.params) f.gives None denied

abbrev pub with_own_funcs : Option ℕ → Entries → List Func → Entries
with_own_funcs denied entries [] = entries
with_own_funcs denied entries (f ∷ fs) = with_own_funcs denied (added entries f.name (own_func denied f)) fs

abbrev pub own_names : Option ℕ → Program → Entries
own_names denied p = with_own_funcs denied (with_globals [] p.globals) p.funcs

-- the number refuses the first global, unless a smaller number refuses the same declaration
abbrev pub refusal_of_first : ℕ → Unit → List Refusal → Entries → List GlobalVar → Option Refusal
refusal_of_first number u early outside [] = None
refusal_of_first number u early outside (g ∷ gs) =
    at_place (smaller (Some number) (wrong_global early outside [] (cell_limit u) g)) g.pos

-- of globals and prototypes
abbrev pub refusal_of_declarations : ℕ → Unit → Entries → Program → Option Refusal
refusal_of_declarations number u outside p =
    first (refusal_of_first number u p.early outside p.globals) (refusal_of_protos (with_funcs [] p.funcs) p.protos)
