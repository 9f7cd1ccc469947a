-- A finished condition, by the one change and the facts that all steps come to.
use Rattle.std.proofs.Common.{◌≡◌, Bool, true, false, if◌then◌else◌, List, [], ◌∷◌, ◌++◌, map, refl, sym, ap, ap₂, ◌∙◌, subst, append_assoc}
use Rattle.terms.specs.declared.sym.Sym.{Sym}
use Rattle.terms.specs.declared.fact.Fact.{Fact}
use Rattle.terms.specs.declared.fact.Fact.TheVariants as fact
use Rattle.terms.specs.Symbols.{same_sym}
use Rattle.terms.specs.Code.SymbolLaws.{same_sym-equal}
use Rattle.terms.specs.Trees.{TermTree, number, name, plus, minus, times, divided, remainder, read, truth, ArrayTree, array, stored, FormTree, always, never, at_most, equal, denied, both, either}
use Rattle.terms.specs.Replacing.{Change, below, replaced_term, replaced_array, replaced_form, replaced_fact}
use Rattle.loop_invariants.specs.EntryNames.{bound}
use Rattle.loop_invariants.specs.Binding.{BindsBound, KeepsBound}
use Rattle.weakest_preconditions.specs.Changing.{change, composed, nothing}
use Rattle.weakest_preconditions.specs.Wp.{Condition, changed, under}
use Rattle.weakest_preconditions.proofs.Composed.{change_keeps, composed_keeps, fact_twice}
use Rattle.symbolic_state.specs.declared.step.Step.{Step}
use Rattle.symbolic_state.specs.declared.step.Step.TheVariants as step
use Rattle.symbolic_state.specs.Steps.{finished}
use Rattle.symbolic_state.specs.Code.Joined.{change_of, given_of, AllBindBound, GivesBound, joined}

-- ---- nothing is replaced

mutual
  pub term_same : (t : TermTree) → replaced_term nothing t ≡ t
  term_same (number z) = refl
  term_same (name x) = refl
  term_same (plus t u) = ap₂ plus (term_same t) (term_same u)
  term_same (minus t u) = ap₂ minus (term_same t) (term_same u)
  term_same (times t u) = ap₂ times (term_same t) (term_same u)
  term_same (divided t u) = ap₂ divided (term_same t) (term_same u)
  term_same (remainder t u) = ap₂ remainder (term_same t) (term_same u)
  term_same (read x i) = ap₂ read (array_same x) (term_same i)
  term_same (truth f) = ap truth (form_same f)

  pub array_same : (x : ArrayTree) → replaced_array nothing x ≡ x
  array_same (array x) = refl
  array_same (stored x k t) = λ i. stored (array_same x i) (term_same k i) (term_same t i)

  pub form_same : (f : FormTree) → replaced_form nothing f ≡ f
  form_same always = refl
  form_same never = refl
  form_same (at_most t u) = ap₂ at_most (term_same t) (term_same u)
  form_same (equal t u) = ap₂ equal (term_same t) (term_same u)
  form_same (denied f) = ap denied (form_same f)
  form_same (both f g) = ap₂ both (form_same f) (form_same g)
  form_same (either f g) = ap₂ either (form_same f) (form_same g)

-- ---- the bound number stays

choose : (b : Bool) (y : Sym) (t : TermTree) → (b ≡ true → t ≡ name y) → (if b then name y else t) ≡ t
choose true y t e = sym (e refl)
choose false y t e = refl

pub below_same : (c : Change) → KeepsBound c → below bound c ≡ c
below_same c keeps = λ i. record { number = λ y. numbers y i; array = c.array }
  where
    numbers : (y : Sym) → (if same_sym bound y then name y else c.number y) ≡ c.number y
    numbers y = choose (same_sym bound y) y (c.number y) (λ e. subst (λ z. c.number z ≡ name z) (same_sym-equal bound y e) keeps)

pub joined_keeps : (steps : List Step) → KeepsBound (change_of steps)
joined_keeps [] = refl
joined_keeps (step.Replaces c ∷ steps) = composed_keeps (change_of steps) (change c) (joined_keeps steps) (change_keeps c)
joined_keeps (step.Assumes f ∷ steps) = joined_keeps steps

-- a fact that binds `$` is replaced everywhere by the same change
pub replaced_all : (c : Change) (lo hi : TermTree) (f : FormTree) → KeepsBound c
    → replaced_fact c (fact.All bound lo hi f) ≡ fact.All bound (replaced_term c lo) (replaced_term c hi) (replaced_form c f)
replaced_all c lo hi f keeps = ap (λ d. fact.All bound (replaced_term c lo) (replaced_term c hi) (replaced_form d f)) (below_same c keeps)

fact_same : (f : Fact) → BindsBound f → replaced_fact nothing f ≡ f
fact_same (fact.Plain f) binds = ap fact.Plain (form_same f)
fact_same (fact.All x lo hi f) binds = subst (λ x. replaced_fact nothing (fact.All x lo hi f) ≡ fact.All x lo hi f) (sym binds)
    (replaced_all nothing lo hi f refl ∙ (λ i. fact.All bound (term_same lo i) (term_same hi i) (form_same f i)))

-- ---- lists of facts

facts_same : (fs : List Fact) → AllBindBound fs → map (replaced_fact nothing) fs ≡ fs
facts_same [] bind = refl
facts_same (f ∷ fs) bind = ap₂ (λ x xs. x ∷ xs) (fact_same f bind.0) (facts_same fs bind.1)

facts_twice : (a b : Change) → KeepsBound a → KeepsBound b → (fs : List Fact) → AllBindBound fs
    → map (replaced_fact a) (map (replaced_fact b) fs) ≡ map (replaced_fact (composed a b)) fs
facts_twice a b ka kb [] bind = refl
facts_twice a b ka kb (f ∷ fs) bind = ap₂ (λ x xs. x ∷ xs) (fact_twice a b ka kb f bind.0) (facts_twice a b ka kb fs bind.1)

replaced_binds : (c : Change) (f : Fact) → BindsBound f → BindsBound (replaced_fact c f)
replaced_binds c (fact.Plain f) binds = tt
replaced_binds c (fact.All x lo hi f) binds = binds

all_binds : (c : Change) (fs : List Fact) → AllBindBound fs → AllBindBound (map (replaced_fact c) fs)
all_binds c [] bind = tt
all_binds c (f ∷ fs) bind = (replaced_binds c f bind.0, all_binds c fs bind.1)

-- ---- the whole

pub finished_is : (steps : List Step) (s : Condition) → GivesBound steps → AllBindBound s.hyps → BindsBound s.goal → finished steps s ≡ joined steps s
finished_is [] s gives hyps goal = λ i. record s { hyps = sym (facts_same s.hyps hyps) i; goal = sym (fact_same s.goal goal) i }
finished_is (step.Replaces c ∷ steps) s gives hyps goal =
    finished_is steps (changed (change c) s) gives (all_binds (change c) s.hyps hyps) (replaced_binds (change c) s.goal goal)
    ∙ (λ i. record s {
      hyps = given_of steps ++ facts_twice (change_of steps) (change c) (joined_keeps steps) (change_keeps c) s.hyps hyps i;
      goal = fact_twice (change_of steps) (change c) (joined_keeps steps) (change_keeps c) s.goal goal i;
    })
finished_is (step.Assumes f ∷ steps) s gives hyps goal =
    finished_is steps (under f s) gives.1 (gives.0, hyps) goal
    ∙ (λ i. record s {
      hyps = sym (append_assoc (given_of steps) (replaced_fact (change_of steps) f ∷ []) (map (replaced_fact (change_of steps)) s.hyps)) i;
      goal = replaced_fact (change_of steps) s.goal;
    })
