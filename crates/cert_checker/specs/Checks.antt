-- When a certificate checks. It is a list of rules in preorder: each rule works on the facts of the
-- nearest open branch, and its children are the branches that come next.
use Rattle.std.specs.Prelude.{◌≡◌, Bool, true, false, not, ◌&&◌, List, [], ◌∷◌, ◌++◌, map, codes, Option, Some, None}
use Rattle.terms.specs.declared.sym.Sym.{Sym}
use Rattle.terms.specs.declared.sequent.Sort.{Sort}
use Rattle.terms.specs.declared.fact.Fact.{Fact}
use Rattle.terms.specs.Trees.{name, plus, at_most, denied}
use Rattle.terms.specs.declared.fact.Fact.TheVariants as fact
use Rattle.terms.specs.Replacing.{number_by, replaced_form}
use Rattle.cert_checker.specs.Rules.{one, children}
use Rattle.terms.specs.Names.{occurs_in_sequent}
use Rattle.terms.specs.declared.sequent.Sequent.{Sequent}
use Rattle.cert_form.specs.declared.cert.Rule.{Rule}
use Rattle.cert_form.specs.declared.cert.Cert.{Cert}

-- the name for a number at which the goal is false
abbrev pub fresh : Sym
fresh = record { base = codes "$0"; count = 0 }

-- what holds where the fact is false
abbrev pub denied_fact : Fact → List Fact
denied_fact (fact.Plain f) = fact.Plain (denied f) ∷ []
denied_fact (fact.All x lo hi f) = fact.Plain (at_most lo (name fresh)) ∷ fact.Plain (at_most (plus (name fresh) one) hi)
    ∷ fact.Plain (denied (replaced_form (number_by x (name fresh)) f)) ∷ []

-- the hypotheses, and then the facts of the denied goal
abbrev pub opening : Sequent → List Fact
opening s = s.hyps ++ denied_fact s.goal

-- the rest of a branch's rules, where its first rule gives these children
abbrev pub goes_on : (List (List Fact) → Bool) → List Fact → List (List Fact) → Option (List (List Fact)) → Bool
goes_on rest facts waiting None = false
goes_on rest facts waiting (Some made) = rest (map (λ forms. facts ++ forms) made ++ waiting)

-- Every rule applies, every branch ends, and no rule is left. The nearest open branch stands first.
abbrev pub checks : List (Sym × Sort) → List Rule → List (List Fact) → Bool
checks sorts [] [] = true
checks sorts [] (facts ∷ waiting) = false
checks sorts (rule ∷ rules) [] = false
checks sorts (rule ∷ rules) (facts ∷ waiting) = goes_on (checks sorts rules) facts waiting (children sorts facts rule)

-- lists of rules put together
abbrev pub one_after_another : List (List Rule) → List Rule
one_after_another [] = []
one_after_another (rules ∷ rest) = rules ++ one_after_another rest

-- a denied `All` takes a name that occurs nowhere else
abbrev pub has_fresh_name : Sequent → Fact → Bool
has_fresh_name s (fact.Plain f) = true
has_fresh_name s (fact.All x lo hi f) = not (occurs_in_sequent fresh s)

abbrev pub checks_sequent : Sequent → List Rule → Bool
checks_sequent s rules = has_fresh_name s s.goal && checks s.sorts rules (opening s ∷ [])

pub record Checks (s : Sequent) (cert : Cert) : Type 0 where
  pub is_checked : checks_sequent s cert.rules ≡ true
