-- A step more, and a step less, with all its pairs.
use Rattle.std.proofs.Common.{◌≡◌, ℕ, ◌+◌, false, find, if◌then◌else◌, List, [], ◌∷◌, ◌++◌, length, reverse, slice_get, Option, Some, None, unwrap_or, refl, sym, ap, ◌∙◌, subst, arith}
use Rattle.std.specs.Option.{option_map}
use Rattle.std.proofs.lemmas.Bool.{eq-eqb}
use Rattle.std.proofs.lemmas.List.{length-reverse, reverse-append}
use Rattle.c_lang.specs.Names.{Bytes}
use Rattle.terms.specs.declared.sym.Sym.{Sym}
use Rattle.terms.specs.Symbols.{same_sym}
use Rattle.terms.specs.Trees.{TermTree, name, ArrayTree, array}
use Rattle.terms.specs.Replacing.{replaced_term, replaced_array}
use Rattle.expression_conditions.specs.Meanings.{current}
use Rattle.loop_invariants.specs.EntryNames.{bound}
use Rattle.symbolic_state.specs.declared.step.Step.{Step}
use Rattle.symbolic_state.specs.declared.step.Step.TheVariants as step
use Rattle.symbolic_state.specs.declared.bindings.Binding.{Binding}
use Rattle.symbolic_state.specs.Code.Bindings.{unbound}
use Rattle.symbolic_state.specs.Code.Joined.{change_of, GivesBound}
use Rattle.symbolic_state.specs.Code.Values.{step_at, Kind, pair_of, EndsIn, Chosen, HasValues, as_numbers, as_arrays, own_value, bound_by, unbound_by, numbers_of, arrays_of, AreCurrent, HasTables}
use Rattle.symbolic_state.proofs.ValueLaws.{outer_less, outer_more}
use Rattle.symbolic_state.proofs.ChangeLaws.{not_yet, taken_back}
use Rattle.symbolic_state.proofs.PairLaws.{bound_none, bound_some, unbound_none, unbound_some}

abbrev first : {T : Type 0} → Bytes → List (Sym × T) → Option (Sym × T)
first x ps = find (λ p. same_sym p.0 (current x)) ps

module _ {T : Type 0} (K : Kind T) (s : Step) (steps : List Step) (x : Bytes) (ps : List (Sym × T)) (are : AreCurrent ps)
    (value : K.value x s ≡ option_map (λ p. p.1) (first x ps)) where
  abbrev n : ℕ
  n = length steps

  pub step_more : ((k : ℕ) → K.pair s k ≡ option_map (λ p. p.1) (slice_get ps k))
      → ((q : Sym × T) → first x ps ≡ Some q → K.at (change_of (s ∷ steps)) x ≡ K.put (change_of steps) q.1)
      → (bs : List Binding) → HasValues K steps x bs → HasValues K (s ∷ steps) x (bound_by n 0 ps x bs)
  step_more pair put bs has = by (first x ps) refl
    where
      goal : Option T → Type 0
      goal o = Chosen o (EndsIn K (s ∷ steps) x n (bound_by n 0 ps x bs) (HasValues K steps x)) (HasValues K steps x (bound_by n 0 ps x bs))

      by : (o : Option (Sym × T)) → first x ps ≡ o → goal (K.value x s)
      by None e = subst goal (sym (value ∙ ap (option_map (λ p. p.1)) e)) (subst (HasValues K steps x) (sym (bound_none n x 0 ps bs are e)) has)
      by (Some q) e =
          let at = bound_some n x 0 ps bs q are e (not_yet K steps x bs n (omega arith) has) in
          let less : 0 + at.place ≡ at.place = omega arith in
          let here : step_at (s ∷ steps) n ≡ Some s = ap (λ b. if b then Some s else step_at steps n) (eq-eqb n n refl) in
          subst goal (sym (value ∙ ap (option_map (λ p. p.1)) e)) (record {
            front = bs;
            last = own_value n at.place;
            whole = at.is ∙ ap (λ j. bs ++ (own_value n j ∷ [])) less;
            step = refl;
            source = record {
              earlier = omega arith;
              own = q.1;
              found = ap (λ o. pair_of K o at.place) here ∙ pair at.place ∙ ap (option_map (λ p. p.1)) at.there;
              is = put q e ∙ sym (ap (λ l. K.put (change_of l) q.1) (outer_less n s steps (omega arith) ∙ outer_more n steps (omega arith)));
            };
            rest = has;
          })

  pub step_less : (bs : List Binding) → HasValues K (s ∷ steps) x bs → HasValues K steps x (unbound_by n ps x bs)
  step_less bs has = by (first x ps) refl
    where
      by : (o : Option (Sym × T)) → first x ps ≡ o → HasValues K steps x (unbound_by n ps x bs)
      by None e = subst (HasValues K steps x) (sym (unbound_none n x ps bs are e))
          (subst (λ o. Chosen o (EndsIn K (s ∷ steps) x n bs (HasValues K steps x)) (HasValues K steps x bs)) (value ∙ ap (option_map (λ p. p.1)) e) has)
      by (Some q) e =
          let back = taken_back K s steps x bs has in
          subst (HasValues K steps x) (sym (unbound_some n x ps bs q are e (not_yet K steps x (unbound n bs) n (omega arith) back))) back

-- ---- numbers and arrays

number_value : (x : Bytes) (s : Step) → same_sym bound (current x) ≡ false → as_numbers.value x s ≡ option_map (λ p. p.1) (first x (numbers_of s))
number_value x s free = ap (λ b. if b then None else option_map (λ p. p.1) (first x (numbers_of s))) free

pub number_put : (s : Step) (steps : List Step) (x : Bytes) (q : Sym × TermTree) → same_sym bound (current x) ≡ false → first x (numbers_of s) ≡ Some q
    → as_numbers.at (change_of (s ∷ steps)) x ≡ replaced_term (change_of steps) q.1
number_put (step.Replaces c) steps x q free e =
    ap (λ b. replaced_term (change_of steps) (if b then name (current x) else unwrap_or (option_map (λ p. p.1) (first x c.numbers)) (name (current x)))) free
    ∙ ap (λ o. replaced_term (change_of steps) (unwrap_or (option_map (λ p. p.1) o) (name (current x)))) e
number_put (step.Assumes f) steps x q free e = absurd cc

array_put : (s : Step) (steps : List Step) (x : Bytes) (q : Sym × ArrayTree) → first x (arrays_of s) ≡ Some q
    → as_arrays.at (change_of (s ∷ steps)) x ≡ replaced_array (change_of steps) q.1
array_put (step.Replaces c) steps x q e = ap (λ o. replaced_array (change_of steps) (unwrap_or (option_map (λ p. p.1) o) (array (current x)))) e
array_put (step.Assumes f) steps x q e = absurd cc

module _ (s : Step) (steps : List Step) where
  -- a step more
  pub more : (n a m b : Bytes → List Binding) → HasTables steps n a → GivesBound (s ∷ steps) → AreCurrent (numbers_of s) × AreCurrent (arrays_of s)
      → ((x : Bytes) → m x ≡ bound_by (length steps) 0 (numbers_of s) x (n x)) → ((x : Bytes) → b x ≡ bound_by (length steps) 0 (arrays_of s) x (a x))
      → HasTables (s ∷ steps) m b
  more n a m b has gives are ms bs = record {
    gives = gives;
    names = (are, has.names);
    numbers = λ x free. subst (HasValues as_numbers (s ∷ steps) x) (sym (ms x))
        (step_more as_numbers s steps x (numbers_of s) are.0 (number_value x s free) (λ k. refl) (λ q e. number_put s steps x q free e) (n x) (has.numbers x free));
    arrays = λ x. subst (HasValues as_arrays (s ∷ steps) x) (sym (bs x))
        (step_more as_arrays s steps x (arrays_of s) are.1 refl (λ k. refl) (λ q e. array_put s steps x q e) (a x) (has.arrays x));
  }

  gives_less : (s : Step) → GivesBound (s ∷ steps) → GivesBound steps
  gives_less (step.Replaces c) gives = gives
  gives_less (step.Assumes f) gives = gives.1

  -- a step less
  pub less : (n a m b : Bytes → List Binding) → HasTables (s ∷ steps) n a
      → ((x : Bytes) → m x ≡ unbound_by (length steps) (numbers_of s) x (n x)) → ((x : Bytes) → b x ≡ unbound_by (length steps) (arrays_of s) x (a x))
      → HasTables steps m b
  less n a m b has ms bs = record {
    gives = gives_less s has.gives;
    names = has.names.1;
    numbers = λ x free. subst (HasValues as_numbers steps x) (sym (ms x))
        (step_less as_numbers s steps x (numbers_of s) has.names.0.0 (number_value x s free) (n x) (has.numbers x free));
    arrays = λ x. subst (HasValues as_arrays steps x) (sym (bs x))
        (step_less as_arrays s steps x (arrays_of s) has.names.0.1 refl (a x) (has.arrays x));
  }

-- ---- the same, where the steps stand as they were made

pub none : (n a : Bytes → List Binding) → ((x : Bytes) → n x ≡ []) → ((x : Bytes) → a x ≡ []) → HasTables [] n a
none n a no_numbers no_arrays = record { gives = tt; names = tt; numbers = λ x free. no_numbers x; arrays = no_arrays }

pub made_more : (made : List Step) (s : Step) (n a m b : Bytes → List Binding) → HasTables (reverse made) n a → GivesBound (s ∷ reverse made)
    → AreCurrent (numbers_of s) × AreCurrent (arrays_of s)
    → ((x : Bytes) → m x ≡ bound_by (length made) 0 (numbers_of s) x (n x)) → ((x : Bytes) → b x ≡ bound_by (length made) 0 (arrays_of s) x (a x))
    → HasTables (reverse (made ++ (s ∷ []))) m b
made_more made s n a m b has gives are ms bs =
    let count = sym (length-reverse made) in
    subst (λ l. HasTables l m b) (sym (reverse-append made (s ∷ [])))
    (more s (reverse made) n a m b has gives are
    (λ x. ms x ∙ ap (λ k. bound_by k 0 (numbers_of s) x (n x)) count) (λ x. bs x ∙ ap (λ k. bound_by k 0 (arrays_of s) x (a x)) count))

pub made_less : (made : List Step) (s : Step) (n a m b : Bytes → List Binding) → HasTables (reverse (made ++ (s ∷ []))) n a
    → ((x : Bytes) → m x ≡ unbound_by (length made) (numbers_of s) x (n x)) → ((x : Bytes) → b x ≡ unbound_by (length made) (arrays_of s) x (a x))
    → HasTables (reverse made) m b
made_less made s n a m b has ms bs =
    let count = sym (length-reverse made) in
    less s (reverse made) n a m b (subst (λ l. HasTables l n a) (reverse-append made (s ∷ [])) has)
    (λ x. ms x ∙ ap (λ k. unbound_by k (numbers_of s) x (n x)) count) (λ x. bs x ∙ ap (λ k. unbound_by k (arrays_of s) x (a x)) count)
