-- What a rule makes, as the code has it.
use Rattle.std.specs.Prelude.{List, map, Option, option_map, Vec}
use Rattle.std.specs.declared.alloc.Global.{Global}
use Rattle.terms.specs.declared.fact.Fact.{Fact}
use Rattle.terms.specs.declared.fact.Fact.TheVariants as fact
use Rattle.cert_checker.specs.Rules.{Children}

abbrev pub seen : Vec (Vec Fact Global) Global → List (List Fact)
seen made = map (λ facts. facts.items) made.items

-- the forms of children as plain facts
abbrev pub as_facts : Children → Option (List (List Fact))
as_facts made = option_map (map (map fact.Plain)) made
