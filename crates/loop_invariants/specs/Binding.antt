-- Facts that bind no number but the one of the base `$`, as those of hints do.
use Rattle.std.specs.Prelude.{⊤, ◌≡◌}
use Rattle.terms.specs.declared.fact.Fact.{Fact}
use Rattle.terms.specs.declared.fact.Fact.TheVariants as fact
use Rattle.terms.specs.Trees.{name}
use Rattle.terms.specs.Replacing.{Change}
use Rattle.loop_invariants.specs.EntryNames.{bound}

abbrev pub BindsBound : Fact → Type 0
BindsBound (fact.Plain f) = ⊤
BindsBound (fact.All x lo hi f) = x ≡ bound

-- the change leaves the bound number as it is
abbrev pub KeepsBound : Change → Type 0
KeepsBound c = c.number bound ≡ name bound
