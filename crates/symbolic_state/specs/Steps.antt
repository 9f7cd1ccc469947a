-- What stands round a condition, as steps, the innermost first: names that are replaced, and facts that are given.
use Rattle.std.specs.Prelude.{◌≡◌, ℕ, ◌-◌, ◌≤◌, ◌<◌, List, [], ◌∷◌, map, length, drop, Option, Some, None}
use Rattle.terms.specs.declared.fact.Fact.{Fact}
use Rattle.terms.specs.declared.fact.Fact.TheVariants as fact
use Rattle.terms.specs.declared.sequent.Label.{Label}
use Rattle.terms.specs.declared.sequent.Sequent.{Sequent}
use Rattle.terms.specs.Trees.{FormTree}
use Rattle.terms.specs.Sizes.{sequent_size}
use Rattle.weakest_preconditions.specs.Changing.{change}
use Rattle.weakest_preconditions.specs.Wp.{Condition, changed, under}
use Rattle.symbolic_state.specs.declared.step.Step.{Step}
use Rattle.symbolic_state.specs.declared.step.Step.TheVariants as step

-- a condition with all that stands round it
abbrev pub finished : List Step → Condition → Condition
finished [] s = s
finished (step.Replaces c ∷ steps) s = finished steps (changed (change c) s)
finished (step.Assumes f ∷ steps) s = finished steps (under f s)

-- facts that are given one after the other, so that the last one is the innermost
abbrev pub assumed : List Fact → List Step → List Step
assumed [] steps = steps
assumed (f ∷ fs) steps = assumed fs (step.Assumes f ∷ steps)

-- the first n steps that were made, which are the outermost
abbrev pub outermost : ℕ → List Step → List Step
outermost n steps = drop (length steps - n) steps

-- what is to hold, where these forms are given
abbrev pub owed : List FormTree → Fact → Label → Condition
owed hyps goal label = record { hyps = map fact.Plain hyps; goal = goal; label = label }

-- a condition as a sequent that says nothing of its names
abbrev pub without_sorts : Condition → Sequent
without_sorts s = record { sorts = []; hyps = s.hyps; goal = s.goal; label = s.label }

-- the sequent, or nothing exactly where it is larger than the room
abbrev pub IsMadeWithin : ℕ → Sequent → Option Sequent → Type 0
IsMadeWithin room s None = room < sequent_size s
IsMadeWithin room s (Some made) = (made ≡ s) × (sequent_size s ≤ room)
