-- Changes that leave the number that facts bind.
use Rattle.std.specs.Prelude.{◌∷◌}
use Rattle.terms.specs.declared.changes.Changes.{Changes}
use Rattle.terms.specs.Trees.{name}
use Rattle.loop_invariants.specs.EntryNames.{bound}

-- the same ones, but the bound number is itself, whatever they have for it
abbrev pub keeping_bound : Changes → Changes
keeping_bound c = record c { numbers = (bound, name bound) ∷ c.numbers }
