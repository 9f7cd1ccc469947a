-- What the laws of the rules speak of.
use Rattle.std.specs.Prelude.{List, All}
use Rattle.terms.specs.declared.fact.Fact.{Fact}
use Rattle.terms.specs.Truth.{Interpretation, FactAt}

-- not all facts of a branch hold
abbrev pub Fails : Interpretation → List Fact → Type 0
Fails v facts = All (FactAt v) facts → ⊥
