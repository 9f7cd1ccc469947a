-- The facts that the steps give, one step after the other.
use Rattle.std.proofs.Common.{◌≡◌, ℕ, zero, suc, ◌+◌, ◌-◌, ◌<◌, List, [], ◌∷◌, length, take, reverse, drop, slice_index_or, sym, ap, ◌∙◌, subst}
use Rattle.std.proofs.lemmas.List.{reverse-append, take_more}
use Rattle.terms.specs.declared.sym.Sym.{Sym}
use Rattle.terms.specs.declared.fact.Fact.{Fact}
use Rattle.terms.specs.declared.fact.Fact.TheVariants as fact
use Rattle.terms.specs.Trees.{TermTree, FormTree}
use Rattle.terms.specs.Replacing.{replaced_term, replaced_form, replaced_fact}
use Rattle.terms.specs.declared.changes.Changes.{Changes}
use Rattle.loop_invariants.specs.Binding.{BindsBound}
use Rattle.loop_invariants.specs.EntryNames.{bound}
use Rattle.symbolic_state.specs.declared.step.Step.{Step}
use Rattle.symbolic_state.specs.Steps.{outermost}
use Rattle.symbolic_state.specs.declared.step.Step.TheVariants as step
use Rattle.symbolic_state.specs.Code.Joined.{given_first, GivesBound}
use Rattle.symbolic_state.specs.Code.Writing.{change_at}
use Rattle.symbolic_state.proofs.StepLaws.{first_outermost}
use Rattle.symbolic_state.proofs.FinishedLaws.{joined_keeps, replaced_all}

-- a fact over the bound number, from its parts
pub all_made : (steps : List Step) (n : ℕ) (x : Sym) (lo hi : TermTree) (f : FormTree) → x ≡ bound
    → fact.All x (replaced_term (change_at steps n) lo) (replaced_term (change_at steps n) hi) (replaced_form (change_at steps n) f)
    ≡ replaced_fact (change_at steps n) (fact.All x lo hi f)
all_made steps n x lo hi f is =
    subst (λ y. fact.All y (replaced_term (change_at steps n) lo) (replaced_term (change_at steps n) hi) (replaced_form (change_at steps n) f)
    ≡ replaced_fact (change_at steps n) (fact.All y lo hi f)) (sym is)
    (sym (replaced_all (change_at steps n) lo hi f (joined_keeps (outermost n steps))))

-- ---- one step more

-- the first n steps and the next one
pub outer_next : (made : List Step) (n : ℕ) (d : Step) → n < length made → outermost (n + 1) (reverse made) ≡ slice_index_or made n d ∷ outermost n (reverse made)
outer_next made n d within =
    sym (first_outermost (n + 1) made) ∙ ap reverse (take_more made n d within) ∙ reverse-append (take n made) (slice_index_or made n d ∷ [])
    ∙ ap (λ l. slice_index_or made n d ∷ l) (first_outermost n made)

gives_dropped : (k : ℕ) (steps : List Step) → GivesBound steps → GivesBound (drop k steps)
gives_dropped zero steps gives = gives
gives_dropped (suc k) [] gives = tt
gives_dropped (suc k) (step.Replaces c ∷ steps) gives = gives_dropped k steps gives
gives_dropped (suc k) (step.Assumes f ∷ steps) gives = gives_dropped k steps gives.1

module _ (made : List Step) (n : ℕ) (d : Step) (within : n < length made) where
  next_is : (s : Step) → slice_index_or made n d ≡ s → outermost (n + 1) (reverse made) ≡ s ∷ outermost n (reverse made)
  next_is s is = outer_next made n d within ∙ ap (λ z. z ∷ outermost n (reverse made)) is

  -- each fact that is given binds `$`
  pub gives_at : (f : Fact) → GivesBound (reverse made) → slice_index_or made n d ≡ step.Assumes f → BindsBound f
  gives_at f gives is = (subst GivesBound (next_is (step.Assumes f) is) (gives_dropped (length (reverse made) - (n + 1)) (reverse made) gives)).0

  -- the fact of the step, or none
  pub gives_fact : (f : Fact) → slice_index_or made n d ≡ step.Assumes f → replaced_fact (change_at (reverse made) n) f ∷ [] ≡ given_first (outermost (n + 1) (reverse made))
  gives_fact f is = sym (ap given_first (next_is (step.Assumes f) is))

  pub gives_none : (c : Changes) → slice_index_or made n d ≡ step.Replaces c → [] ≡ given_first (outermost (n + 1) (reverse made))
  gives_none c is = sym (ap given_first (next_is (step.Replaces c) is))
