-- A step that gives one name a value, which may stand where another name's value stands.
use Rattle.std.proofs.Common.{◌≡◌, inl, inr, Bool, true, false, bytes_eq, if◌then◌else◌, List, [], ◌∷◌, ◌++◌, length, reverse, Option, Some, None, refl, sym, ap, ◌∙◌, subst}
use Rattle.std.specs.Option.{option_map}
use Rattle.std.proofs.lemmas.List.{length-reverse, reverse-append}
use Rattle.c_lang.specs.Names.{Bytes}
use Rattle.terms.specs.declared.sym.Sym.{Sym}
use Rattle.terms.specs.Symbols.{same_sym}
use Rattle.terms.specs.Trees.{TermTree}
use Rattle.terms.specs.Replacing.{replaced_term}
use Rattle.expression_conditions.specs.Meanings.{current}
use Rattle.loop_invariants.specs.EntryNames.{bound}
use Rattle.weakest_preconditions.specs.Changing.{setting}
use Rattle.symbolic_state.specs.declared.step.Step.{Step}
use Rattle.symbolic_state.specs.declared.step.Step.TheVariants as step
use Rattle.symbolic_state.specs.declared.bindings.Binding.{Binding}
use Rattle.symbolic_state.specs.Code.Bindings.{bound as with_binding}
use Rattle.symbolic_state.specs.Code.Joined.{change_of}
use Rattle.symbolic_state.specs.Code.Values.{Source, EndsIn, Chosen, HasValues, as_numbers, own_value, IsBindingOf, HasTables}
use Rattle.symbolic_state.proofs.ValueLaws.{source_more}
use Rattle.symbolic_state.proofs.ChangeLaws.{value_added}
use Rattle.symbolic_state.proofs.PairLaws.{same_base}
use Rattle.symbolic_state.proofs.StepValues.{number_put, made_more}

module _ (x : Bytes) (v : TermTree) (steps : List Step) (b : Binding) where
  abbrev s : Step
  s = step.Replaces (setting x v)

  -- what is found of a name in the step
  abbrev here : Bool → Option (Sym × TermTree)
  here yes_same = if yes_same then Some (current x, v) else None

  value_is : (y : Bytes) (c : Bool) → same_sym bound (current y) ≡ false → same_sym (current x) (current y) ≡ c
      → as_numbers.value y s ≡ option_map (λ p. p.1) (here c)
  value_is y c free e = ap (λ d. if d then None else option_map (λ p. p.1) (here (same_sym (current x) (current y)))) free ∙ ap (λ d. option_map (λ p. p.1) (here d)) e

  numbers_more : (y : Bytes) (bs : List Binding) → same_sym bound (current y) ≡ false → b.step ≡ length steps → Source as_numbers steps b (replaced_term (change_of steps) v)
      → HasValues as_numbers steps y bs → HasValues as_numbers (s ∷ steps) y (if bytes_eq x y then with_binding bs b else bs)
  numbers_more y bs free at source has = by (bytes_eq x y) refl
    where
      by : (c : Bool) → bytes_eq x y ≡ c → HasValues as_numbers (s ∷ steps) y (if c then with_binding bs b else bs)
      by true e =
          let same = same_base y (current x) refl ∙ e in
          value_added as_numbers s steps y bs b v (value_is y true free same) at
          (subst (Source as_numbers (s ∷ steps) b) (sym (number_put s steps y (current x, v) free (ap here same))) (source_more as_numbers s steps b (replaced_term (change_of steps) v) source)) has
      by false e = subst (λ o. Chosen o (EndsIn as_numbers (s ∷ steps) y (length steps) bs (HasValues as_numbers steps y)) (HasValues as_numbers steps y bs))
          (sym (value_is y false free (same_base y (current x) refl ∙ e))) has

pub set_more : (made : List Step) (x : Bytes) (v : TermTree) (b : Binding) (n a m : Bytes → List Binding) → HasTables (reverse made) n a → IsBindingOf (reverse made) v b
    → ((y : Bytes) → m y ≡ (if bytes_eq x y then with_binding (n y) b else n y)) → HasTables (reverse (made ++ (step.Replaces (setting x v) ∷ []))) m a
set_more made x v b n a m has (inl own) ms =
    made_more made (step.Replaces (setting x v)) n a m a has has.gives ((refl, tt), tt)
    (λ y. ms y ∙ ap (λ d. if bytes_eq x y then with_binding (n y) d else n y) (own ∙ ap (λ k. own_value k 0) (length-reverse made))) (λ y. refl)
set_more made x v b n a m has (inr (at, source)) ms = subst (λ l. HasTables l m a) (sym (reverse-append made (step.Replaces (setting x v) ∷ []))) (record {
  gives = has.gives;
  names = (((refl, tt), tt), has.names);
  numbers = λ y free. subst (HasValues as_numbers (step.Replaces (setting x v) ∷ reverse made) y) (sym (ms y))
      (numbers_more x v (reverse made) b y (n y) free at source (has.numbers y free));
  arrays = λ y. has.arrays y;
})
