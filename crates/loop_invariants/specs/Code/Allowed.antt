-- What the code keeps of a place in which a fact may stand.
use Rattle.std.specs.Prelude.{ℕ, zero, suc, Bool, false, ◌&&◌, if◌then◌else◌}
use Rattle.terms.specs.Trees.{TermTree, FormTree}
use Rattle.loop_invariants.specs.Clauses.{Site, Names, names_at, with_bound, may_be_term, may_be_form}
use Rattle.loop_invariants.specs.Clauses as spec
use Rattle.loop_invariants.specs.declared.clauses.Place.{Place}

abbrev pub seen_place : Place → spec.Place
seen_place p = record { locals = p.locals.items; parameters = p.parameters; result = p.result; entry = p.at_entry }

abbrev pub seen_names : Site → Names
seen_names site = names_at site.program site.place

-- the same, in the body of a quantifier
abbrev pub seen_under : Bool → Site → Names
seen_under inside site = if inside then with_bound (seen_names site) else seen_names site

-- two operands under an operator, with n operators on each path at most
abbrev pub are_terms : Names → ℕ → TermTree → TermTree → Bool
are_terms names zero t u = false
are_terms names (suc n) t u = may_be_term names n t && may_be_term names n u

abbrev pub are_forms : Names → ℕ → FormTree → FormTree → Bool
are_forms names zero f g = false
are_forms names (suc n) f g = may_be_form names n f && may_be_form names n g
