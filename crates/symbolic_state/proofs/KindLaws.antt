-- What a step doesn't give a value stays as it is.
use Rattle.std.proofs.Common.{◌≡◌, ℕ, Bool, true, false, if◌then◌else◌, Option, Some, None, unwrap_or, find, List, ◌∷◌, refl, ap}
use Rattle.std.specs.Option.{option_map}
use Rattle.c_lang.specs.Names.{Bytes}
use Rattle.terms.specs.declared.sym.Sym.{Sym}
use Rattle.terms.specs.Symbols.{same_sym}
use Rattle.terms.specs.Trees.{TermTree, name, ArrayTree, array}
use Rattle.terms.specs.Replacing.{replaced_term, replaced_array}
use Rattle.expression_conditions.specs.Meanings.{current}
use Rattle.loop_invariants.specs.EntryNames.{bound}
use Rattle.symbolic_state.specs.declared.step.Step.{Step}
use Rattle.symbolic_state.specs.declared.step.Step.TheVariants as step
use Rattle.symbolic_state.specs.declared.bindings.Binding.{Binding}
use Rattle.symbolic_state.specs.Code.Bindings.{latest}
use Rattle.symbolic_state.specs.Code.Joined.{change_of}
use Rattle.symbolic_state.proofs.ValueLaws.{latest_found}
use Rattle.symbolic_state.specs.Code.Values.{IsKind, HasValues, IsFound, as_numbers, as_arrays, number_in, array_in}

number_stays : (y : Sym) (b : Bool) (o : Option TermTree) → (if b then None else o) ≡ None → (if b then name y else unwrap_or o (name y)) ≡ name y
number_stays y true o e = refl
number_stays y false None e = refl
number_stays y false (Some t) e = absurd cc

array_stays : (y : Sym) (o : Option ArrayTree) → o ≡ None → unwrap_or o (array y) ≡ array y
array_stays y None e = refl
array_stays y (Some a) e = absurd cc

number_kept : (s : Step) (steps : List Step) (x : Bytes) → number_in x s ≡ None → (change_of (s ∷ steps)).number (current x) ≡ (change_of steps).number (current x)
number_kept (step.Assumes f) steps x none = refl
number_kept (step.Replaces c) steps x none = ap (replaced_term (change_of steps))
    (number_stays (current x) (same_sym bound (current x)) (option_map (λ p. p.1) (find (λ p. same_sym p.0 (current x)) c.numbers)) none)

array_kept : (s : Step) (steps : List Step) (x : Bytes) → array_in x s ≡ None → (change_of (s ∷ steps)).array (current x) ≡ (change_of steps).array (current x)
array_kept (step.Assumes f) steps x none = refl
array_kept (step.Replaces c) steps x none = ap (replaced_array (change_of steps))
    (array_stays (current x) (option_map (λ p. p.1) (find (λ p. same_sym p.0 (current x)) c.arrays)) none)

pub numbers_are : IsKind as_numbers
numbers_are = record { initial = λ x. refl; kept = number_kept }

pub arrays_are : IsKind as_arrays
arrays_are = record { initial = λ x. refl; kept = array_kept }

pub latest_number : (steps : List Step) (x : Bytes) (bs : List Binding) (t : ℕ) → HasValues as_numbers steps x bs → IsFound as_numbers steps x t (latest t bs)
latest_number = latest_found as_numbers numbers_are

pub latest_array : (steps : List Step) (x : Bytes) (bs : List Binding) (t : ℕ) → HasValues as_arrays steps x bs → IsFound as_arrays steps x t (latest t bs)
latest_array = latest_found as_arrays arrays_are
