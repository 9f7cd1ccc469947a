-- What a name stands for at a step, by the state's tables.
use Rattle.std.proofs.Common.{◌≡◌, ℕ, ◌≤◌, Bool, true, false, List, length, reverse, slice_get, unwrap_or, Option, Some, None, Bor, refl, sym, ap, ◌∙◌, subst}
use Rattle.std.proofs.lemmas.List.{length-reverse}
use Rattle.c_lang.specs.Names.{Bytes}
use Rattle.terms.specs.declared.sym.Sym.{Sym}
use Rattle.terms.specs.declared.node.Node.{Node}
use Rattle.terms.specs.Symbols.{same_sym}
use Rattle.terms.specs.Code.SymbolLaws.{same_sym-equal, same_sym-Decides}
use Rattle.terms.specs.Trees.{TermTree, name, ArrayTree, array}
use Rattle.terms.specs.Replacing.{replaced_term}
use Rattle.terms.specs.Nodes.{term_nodes, array_nodes}
use Rattle.expression_conditions.specs.Meanings.{current}
use Rattle.loop_invariants.specs.EntryNames.{bound}
use Rattle.symbolic_state.specs.declared.step.Step.{Step}
use Rattle.symbolic_state.specs.declared.bindings.Binding.{Binding}
use Rattle.symbolic_state.specs.Steps.{outermost}
use Rattle.symbolic_state.specs.Code.Bindings.{latest}
use Rattle.symbolic_state.specs.Code.Joined.{change_of}
use Rattle.symbolic_state.specs.Code.Values.{Kind, pair_of, Source, HasValues, IsFound, IsKind, as_numbers, as_arrays, HasTables}
use Rattle.symbolic_state.specs.Code.Writing.{change_at, NumberStands, ArrayStands}
use Rattle.symbolic_state.proofs.FinishedLaws.{joined_keeps}
use Rattle.symbolic_state.proofs.ValueLaws.{latest_found, outer_more}
use Rattle.symbolic_state.proofs.KindLaws.{numbers_are, arrays_are}
use Rattle.symbolic_state.proofs.NameLaws.{number_itself, array_itself, outer_current, by_number}

current_is : (x : Sym) → x.count ≡ 0 → current x.base ≡ x
current_is x e = λ i. record { base = x.base; count = sym e i }

some_is : {T : Type 0} (o : Option T) (a b : T) → o ≡ Some a → o ≡ Some b → a ≡ b
some_is o a b p q = sym (ap (λ s. unwrap_or s a) p) ∙ ap (λ s. unwrap_or s a) q

never : {T : Type 0} (o : Option T) (a : T) → o ≡ Some a → o ≡ None → ⊥
never o a p q = let clash : None ≡ Some a = sym q ∙ p in absurd cc

pub not_bound : (x : Sym) → x.count ≡ 0 → same_sym x bound ≡ false → same_sym bound (current x.base) ≡ false
not_bound x e differ = by (same_sym bound (current x.base)) refl
  where
    by : (b : Bool) → same_sym bound (current x.base) ≡ b → b ≡ false
    by true p =
        let same : same_sym x bound ≡ true = (same_sym-Decides x bound).1 (sym (current_is x e) ∙ sym (same_sym-equal bound (current x.base) p)) in absurd cc
    by false p = refl

-- what the latest value comes to
module _ {T : Type 0} (K : Kind T) (is : IsKind K) (made : List Step) (t : ℕ) (x : Bytes) (bs : List Binding) (has : HasValues K (reverse made) x bs) where
  pub value_none : latest t bs ≡ None → K.at (change_at (reverse made) t) x ≡ K.start x
  value_none e = subst (IsFound K (reverse made) x t) e (latest_found K is (reverse made) x bs t has)

  pub value_is : (b : Binding) (own : T) → latest t bs ≡ Some b → pair_of K (slice_get made b.source) b.pair ≡ Some own
      → K.at (change_at (reverse made) t) x ≡ K.put (change_at (reverse made) b.source) own
  value_is b own e there =
      let source : Source K (reverse made) b (K.at (change_at (reverse made) t) x) = subst (IsFound K (reverse made) x t) e (latest_found K is (reverse made) x bs t has) in
      let found : pair_of K (slice_get made b.source) b.pair ≡ Some source.own = ap (λ o. pair_of K o b.pair) (by_number made b.source) ∙ source.found in
      source.is ∙ ap (K.put (change_at (reverse made) b.source)) (some_is (pair_of K (slice_get made b.source) b.pair) source.own own found there)

  pub value_there : (b : Binding) → latest t bs ≡ Some b → pair_of K (slice_get made b.source) b.pair ≡ None → ⊥
  value_there b e nothing =
      let source : Source K (reverse made) b (K.at (change_at (reverse made) t) x) = subst (IsFound K (reverse made) x t) e (latest_found K is (reverse made) x bs t has) in
      never (pair_of K (slice_get made b.source) b.pair) source.own (ap (λ o. pair_of K o b.pair) (by_number made b.source) ∙ source.found) nothing

module _ (made : List Step) (n a : Bytes → List Binding) (has : HasTables (reverse made) n a) (t : ℕ) (x : Sym) where
  pub bound_stays : same_sym x bound ≡ true → (change_at (reverse made) t).number x ≡ name x
  bound_stays e = subst (λ y. (change_at (reverse made) t).number y ≡ name y) (sym (same_sym-equal x bound e)) (joined_keeps (outermost t (reverse made)))

  pub number_counted : (x.count ≡ 0 → ⊥) → (change_at (reverse made) t).number x ≡ name x
  number_counted counted = number_itself (outermost t (reverse made)) x counted (outer_current t (reverse made) has.names)

  pub number_stays : x.count ≡ 0 → same_sym x bound ≡ false → latest t (n x.base) ≡ None → (change_at (reverse made) t).number x ≡ name x
  number_stays zero_count free e = subst (λ y. (change_at (reverse made) t).number y ≡ name y) (current_is x zero_count)
      (value_none as_numbers numbers_are made t x.base (n x.base) (has.numbers x.base (not_bound x zero_count free)) e)

  pub number_there : x.count ≡ 0 → same_sym x bound ≡ false → (b : Binding) → latest t (n x.base) ≡ Some b → pair_of as_numbers (slice_get made b.source) b.pair ≡ None → ⊥
  number_there zero_count free b e nothing = value_there as_numbers numbers_are made t x.base (n x.base) (has.numbers x.base (not_bound x zero_count free)) b e nothing

  pub number_stands : x.count ≡ 0 → same_sym x bound ≡ false → (b : Binding) (own : TermTree) → latest t (n x.base) ≡ Some b → pair_of as_numbers (slice_get made b.source) b.pair ≡ Some own
      → (part : Bor (List Node) × ℕ) → part.0.now ≡ term_nodes own → part.1 ≡ b.source → NumberStands (reverse made) t x part
  number_stands zero_count free b own e there part nodes source = record {
    tree = own;
    nodes = nodes;
    is = subst (λ y. (change_at (reverse made) t).number y ≡ as_numbers.put (change_at (reverse made) part.1) own) (current_is x zero_count)
        (value_is as_numbers numbers_are made t x.base (n x.base) (has.numbers x.base (not_bound x zero_count free)) b own e there
        ∙ ap (λ m. as_numbers.put (change_at (reverse made) m) own) (sym source));
  }

  -- a term that is this name has its value where the name's latest one stands
  pub number_shared : x.count ≡ 0 → same_sym x bound ≡ false → length made ≤ t → (b : Binding) → latest t (n x.base) ≡ Some b → (term : TermTree) → term ≡ name x
      → Source as_numbers (reverse made) (record { step = t; source = b.source; pair = b.pair }) (replaced_term (change_of (reverse made)) term)
  number_shared zero_count free all b e term is =
      let found : Source as_numbers (reverse made) b ((change_at (reverse made) t).number (current x.base)) = subst (IsFound as_numbers (reverse made) x.base t) e
      (latest_found as_numbers numbers_are (reverse made) x.base (n x.base) t (has.numbers x.base (not_bound x zero_count free))) in
      let whole : replaced_term (change_of (reverse made)) term ≡ (change_at (reverse made) t).number (current x.base) =
      ap (replaced_term (change_of (reverse made))) is
      ∙ sym (ap (λ l. (change_of l).number x) (outer_more t (reverse made) (subst (λ k. k ≤ t) (sym (length-reverse made)) all)))
      ∙ sym (ap ((change_at (reverse made) t).number) (current_is x zero_count)) in
      record { earlier = found.earlier; own = found.own; found = found.found; is = whole ∙ found.is }

  pub array_counted : (x.count ≡ 0 → ⊥) → (change_at (reverse made) t).array x ≡ array x
  array_counted counted = array_itself (outermost t (reverse made)) x counted (outer_current t (reverse made) has.names)

  pub array_stays : x.count ≡ 0 → latest t (a x.base) ≡ None → (change_at (reverse made) t).array x ≡ array x
  array_stays zero_count e = subst (λ y. (change_at (reverse made) t).array y ≡ array y) (current_is x zero_count)
      (value_none as_arrays arrays_are made t x.base (a x.base) (has.arrays x.base) e)

  pub array_there : x.count ≡ 0 → (b : Binding) → latest t (a x.base) ≡ Some b → pair_of as_arrays (slice_get made b.source) b.pair ≡ None → ⊥
  array_there zero_count b e nothing = value_there as_arrays arrays_are made t x.base (a x.base) (has.arrays x.base) b e nothing

  pub array_stands : x.count ≡ 0 → (b : Binding) (own : ArrayTree) → latest t (a x.base) ≡ Some b → pair_of as_arrays (slice_get made b.source) b.pair ≡ Some own
      → (part : Bor (List Node) × ℕ) → part.0.now ≡ array_nodes own → part.1 ≡ b.source → ArrayStands (reverse made) t x part
  array_stands zero_count b own e there part nodes source = record {
    tree = own;
    nodes = nodes;
    is = subst (λ y. (change_at (reverse made) t).array y ≡ as_arrays.put (change_at (reverse made) part.1) own) (current_is x zero_count)
        (value_is as_arrays arrays_are made t x.base (a x.base) (has.arrays x.base) b own e there
        ∙ ap (λ m. as_arrays.put (change_at (reverse made) m) own) (sym source));
  }
