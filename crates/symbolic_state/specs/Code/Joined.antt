-- All that stands round a condition at once: one change, and the facts as they are in the end.
use Rattle.std.specs.Prelude.{List, [], ◌∷◌, ◌++◌, map, ⊤}
use Rattle.terms.specs.declared.fact.Fact.{Fact}
use Rattle.terms.specs.Replacing.{Change, replaced_fact}
use Rattle.loop_invariants.specs.Binding.{BindsBound}
use Rattle.weakest_preconditions.specs.Changing.{change, composed, nothing}
use Rattle.weakest_preconditions.specs.Wp.{Condition}
use Rattle.symbolic_state.specs.declared.step.Step.{Step}
use Rattle.symbolic_state.specs.declared.step.Step.TheVariants as step

abbrev pub change_of : List Step → Change
change_of [] = nothing
change_of (step.Replaces c ∷ steps) = composed (change_of steps) (change c)
change_of (step.Assumes f ∷ steps) = change_of steps

abbrev pub given_of : List Step → List Fact
given_of [] = []
given_of (step.Replaces c ∷ steps) = given_of steps
given_of (step.Assumes f ∷ steps) = given_of steps ++ (replaced_fact (change_of steps) f ∷ [])

-- the fact that the innermost step gives
abbrev pub given_first : List Step → List Fact
given_first [] = []
given_first (step.Replaces c ∷ steps) = []
given_first (step.Assumes f ∷ steps) = replaced_fact (change_of steps) f ∷ []

-- each fact binds no number but `$`
abbrev pub AllBindBound : List Fact → Type 0
AllBindBound [] = ⊤
AllBindBound (f ∷ fs) = BindsBound f × AllBindBound fs

-- so does each fact that a step gives
abbrev pub GivesBound : List Step → Type 0
GivesBound [] = ⊤
GivesBound (step.Replaces c ∷ steps) = GivesBound steps
GivesBound (step.Assumes f ∷ steps) = BindsBound f × GivesBound steps

-- the condition behind all steps
abbrev pub joined : List Step → Condition → Condition
joined steps s = record s {
  hyps = given_of steps ++ map (replaced_fact (change_of steps)) s.hyps;
  goal = replaced_fact (change_of steps) s.goal;
}
