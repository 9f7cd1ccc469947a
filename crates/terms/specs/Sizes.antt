-- How large facts and sequents are: the number of their facts, forms, terms and arrays.
use Rattle.std.specs.Prelude.{ℕ, ◌+◌, List, [], ◌∷◌}
use Rattle.terms.specs.declared.fact.Fact.{Fact}
use Rattle.terms.specs.declared.fact.Fact.TheVariants as fact
use Rattle.terms.specs.declared.sequent.Sequent.{Sequent}
use Rattle.terms.specs.Nodes.{term_size, form_size}

abbrev pub fact_size : Fact → ℕ
fact_size (fact.Plain f) = 1 + form_size f
fact_size (fact.All x lo hi f) = 1 + (term_size lo + (term_size hi + form_size f))

abbrev pub facts_size : List Fact → ℕ
facts_size [] = 0
facts_size (f ∷ fs) = fact_size f + facts_size fs

abbrev pub sequent_size : Sequent → ℕ
sequent_size s = facts_size s.hyps + fact_size s.goal
