-- A finished condition is the facts that are given and its own ones, each with what its names stand for.
use Rattle.std.proofs.Common.{◌≡◌, ℕ, ◌+◌, ◌<◌, ◌≤◌, List, [], ◌∷◌, ◌++◌, map, length, refl, sym, ap, ◌∙◌, subst, arith}
use Rattle.terms.specs.declared.fact.Fact.{Fact}
use Rattle.terms.specs.declared.fact.Fact.TheVariants as fact
use Rattle.terms.specs.declared.sequent.Label.{Label}
use Rattle.terms.specs.declared.sequent.Sequent.{Sequent}
use Rattle.terms.specs.Trees.{FormTree}
use Rattle.terms.specs.Sizes.{fact_size, facts_size, sequent_size}
use Rattle.terms.specs.Replacing.{replaced_form, replaced_fact}
use Rattle.loop_invariants.specs.Binding.{BindsBound}
use Rattle.symbolic_state.specs.declared.step.Step.{Step}
use Rattle.symbolic_state.specs.Steps.{finished, owed, without_sorts}
use Rattle.symbolic_state.specs.Code.Joined.{change_of, given_of, AllBindBound, GivesBound}
use Rattle.symbolic_state.specs.Code.Writing.{change_at, finished_forms}
use Rattle.symbolic_state.proofs.ValueLaws.{outer_more}
use Rattle.symbolic_state.proofs.FinishedLaws.{finished_is}

forms_bind : (hs : List FormTree) → AllBindBound (map fact.Plain hs)
forms_bind [] = tt
forms_bind (h ∷ hs) = (tt, forms_bind hs)

forms_same : (steps : List Step) (hs : List FormTree) → finished_forms (change_of steps) hs ≡ map (replaced_fact (change_of steps)) (map fact.Plain hs)
forms_same steps [] = refl
forms_same steps (h ∷ hs) = ap (λ fs. fact.Plain (replaced_form (change_of steps) h) ∷ fs) (forms_same steps hs)

all_steps : (steps : List Step) → change_at steps (length steps) ≡ change_of steps
all_steps steps = ap change_of (outer_more (length steps) steps (omega (arith)))

pub is_finished : (steps : List Step) (hs : List FormTree) (goal : Fact) (label : Label) (facts : List Fact) (made : Fact) → GivesBound steps → BindsBound goal
    → facts ≡ given_of steps ++ finished_forms (change_at steps (length steps)) hs → made ≡ replaced_fact (change_at steps (length steps)) goal
    → record { sorts = []; hyps = facts; goal = made; label = label } ≡ without_sorts (finished steps (owed hs goal label))
is_finished steps hs goal label facts made gives binds e f =
    (λ i. record {
      sorts = [];
      hyps = (e ∙ ap (λ c. given_of steps ++ finished_forms c hs) (all_steps steps) ∙ ap (λ fs. given_of steps ++ fs) (forms_same steps hs)) i;
      goal = (f ∙ ap (λ c. replaced_fact c goal) (all_steps steps)) i;
      label = label;
    })
    ∙ ap without_sorts (sym (finished_is steps (owed hs goal label) gives (forms_bind hs) binds))

-- ---- where there is no room

module _ (steps : List Step) (hs : List FormTree) (goal : Fact) (label : Label) (gives : GivesBound steps) (binds : BindsBound goal) where
  abbrev facts : List Fact
  facts = given_of steps ++ finished_forms (change_at steps (length steps)) hs

  abbrev made : Fact
  made = replaced_fact (change_at steps (length steps)) goal

  abbrev pub whole : Sequent
  whole = without_sorts (finished steps (owed hs goal label))

  by_parts : (room : ℕ) → room < facts_size facts + fact_size made → room < sequent_size whole
  by_parts room past = subst (λ s. room < sequent_size s) (is_finished steps hs goal label facts made gives binds refl refl) past

  pub facts_past : (room : ℕ) → room < facts_size facts → room < sequent_size whole
  facts_past room past = by_parts room (omega (arith, past))

  pub goal_past : (room left : ℕ) → room ≤ left + facts_size facts → left < fact_size made → room < sequent_size whole
  goal_past room left taken past = by_parts room (omega (arith, taken, past))
