-- The numbers of globals at the start, name by name.
use Rattle.std.specs.Prelude.{ℤ, nat_eq, if◌then◌else◌, Option, Some, None}
use Rattle.std.specs.Option.{option_map}
use Rattle.c_lang.specs.Programs.{global_named}
use Rattle.c_lang.specs.declared.program.Program.{Program}
use Rattle.terms.specs.declared.sym.Sym.{Sym}
use Rattle.terms.specs.declared.node.NodeKind.{NodeKind}
use Rattle.terms.specs.declared.node.NodeKind.TheVariants as kind
use Rattle.terms.specs.Symbols.{same_sym}
use Rattle.loop_invariants.specs.EntryNames.{bound}
use Rattle.weakest_preconditions.specs.Conditions.{initial_number}

-- the number at the start of the global whose current value the name is; the bound number is none
abbrev pub number_at_start : Program → Sym → Option ℤ
number_at_start p x = if same_sym bound x then None
    else (if nat_eq 0 x.count then option_map (λ g. initial_number p g.shape) (global_named p.globals x.base) else None)

-- a name, or the number that it is
abbrev pub name_or_number : Sym → Option ℤ → NodeKind
name_or_number x None = kind.Of x
name_or_number x (Some z) = kind.Num z

abbrev pub kind_at_start : Program → NodeKind → NodeKind
kind_at_start p (kind.Of x) = name_or_number x (number_at_start p x)
kind_at_start p k = k
