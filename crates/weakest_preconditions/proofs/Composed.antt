-- Two changes, one around the other, are one change.
use Rattle.std.proofs.Common.{◌≡◌, Bool, true, false, if◌then◌else◌, refl, sym, ap, ap₂, ◌∙◌, subst}
use Rattle.terms.specs.declared.sym.Sym.{Sym}
use Rattle.terms.specs.declared.changes.Changes.{Changes}
use Rattle.terms.specs.declared.fact.Fact.{Fact}
use Rattle.terms.specs.declared.fact.Fact.TheVariants as fact
use Rattle.terms.specs.Symbols.{same_sym}
use Rattle.terms.specs.Code.SymbolLaws.{same_sym-equal}
use Rattle.terms.specs.Trees.{TermTree, number, name, plus, minus, times, divided, remainder, read, truth, ArrayTree, array, stored, FormTree, always, never, at_most, equal, denied, both, either}
use Rattle.terms.specs.Replacing.{Change, below, replaced_term, replaced_array, replaced_form, replaced_fact}
use Rattle.loop_invariants.specs.EntryNames.{bound}
use Rattle.weakest_preconditions.specs.Changing.{change, composed}
use Rattle.loop_invariants.specs.Binding.{BindsBound, KeepsBound}

mutual
  pub term_twice : (a b : Change) (t : TermTree) → replaced_term a (replaced_term b t) ≡ replaced_term (composed a b) t
  term_twice a b (number z) = refl
  term_twice a b (name x) = refl
  term_twice a b (plus t u) = ap₂ plus (term_twice a b t) (term_twice a b u)
  term_twice a b (minus t u) = ap₂ minus (term_twice a b t) (term_twice a b u)
  term_twice a b (times t u) = ap₂ times (term_twice a b t) (term_twice a b u)
  term_twice a b (divided t u) = ap₂ divided (term_twice a b t) (term_twice a b u)
  term_twice a b (remainder t u) = ap₂ remainder (term_twice a b t) (term_twice a b u)
  term_twice a b (read x i) = ap₂ read (array_twice a b x) (term_twice a b i)
  term_twice a b (truth f) = ap truth (form_twice a b f)

  pub array_twice : (a b : Change) (x : ArrayTree) → replaced_array a (replaced_array b x) ≡ replaced_array (composed a b) x
  array_twice a b (array x) = refl
  array_twice a b (stored x k t) = λ i. stored (array_twice a b x i) (term_twice a b k i) (term_twice a b t i)

  pub form_twice : (a b : Change) (f : FormTree) → replaced_form a (replaced_form b f) ≡ replaced_form (composed a b) f
  form_twice a b always = refl
  form_twice a b never = refl
  form_twice a b (at_most t u) = ap₂ at_most (term_twice a b t) (term_twice a b u)
  form_twice a b (equal t u) = ap₂ equal (term_twice a b t) (term_twice a b u)
  form_twice a b (denied f) = ap denied (form_twice a b f)
  form_twice a b (both f g) = ap₂ both (form_twice a b f) (form_twice a b g)
  form_twice a b (either f g) = ap₂ either (form_twice a b f) (form_twice a b g)

-- every change of the list keeps the bound number
pub change_keeps : (c : Changes) → KeepsBound (change c)
change_keeps c = refl

choose : (b : Bool) (y : Sym) (t : TermTree) → (b ≡ true → t ≡ name y) → (if b then name y else t) ≡ t
choose true y t e = sym (e refl)
choose false y t e = refl

below_same : (c : Change) → KeepsBound c → below bound c ≡ c
below_same c keeps = λ i. record { number = λ y. numbers y i; array = c.array }
  where
    numbers : (y : Sym) → (if same_sym bound y then name y else c.number y) ≡ c.number y
    numbers y = choose (same_sym bound y) y (c.number y) (λ e. subst (λ z. c.number z ≡ name z) (same_sym-equal bound y e) keeps)

pub composed_keeps : (a b : Change) → KeepsBound a → KeepsBound b → KeepsBound (composed a b)
composed_keeps a b ka kb = ap (replaced_term a) kb ∙ ka

all_twice : (a b : Change) → KeepsBound a → KeepsBound b → (f : FormTree) →
    replaced_form (below bound a) (replaced_form (below bound b) f) ≡ replaced_form (below bound (composed a b)) f
all_twice a b ka kb f = ap₂ (λ p q. replaced_form p (replaced_form q f)) (below_same a ka) (below_same b kb) ∙ form_twice a b f
    ∙ ap (λ c. replaced_form c f) (sym (below_same (composed a b) (composed_keeps a b ka kb)))

pub fact_twice : (a b : Change) → KeepsBound a → KeepsBound b → (f : Fact) → BindsBound f →
    replaced_fact a (replaced_fact b f) ≡ replaced_fact (composed a b) f
fact_twice a b ka kb (fact.Plain f) binds = ap fact.Plain (form_twice a b f)
fact_twice a b ka kb (fact.All x lo hi f) binds =
    subst (λ x. replaced_fact a (replaced_fact b (fact.All x lo hi f)) ≡ replaced_fact (composed a b) (fact.All x lo hi f)) (sym binds)
    (λ i. fact.All bound (term_twice a b lo i) (term_twice a b hi i) (all_twice a b ka kb f i))
