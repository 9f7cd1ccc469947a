-- Names that stand for themselves, and values that are found by their places.
use Rattle.std.proofs.Common.{◌≡◌, ℕ, zero, suc, ◌+◌, ◌-◌, Bool, true, false, ◌&&◌, nat_eq, bytes_eq, find, if◌then◌else◌, unwrap_or, List, [], ◌∷◌, ◌++◌, length, reverse, slice_get, drop, Some, None, refl, sym, ap, ap₂, ◌∙◌, arith}
use Rattle.std.specs.Option.{option_map}
use Rattle.std.proofs.lemmas.Bool.{ne_eqb, eq-eqb}
use Rattle.std.proofs.lemmas.Bool.Decides.{Decides-eqb}
use Rattle.std.proofs.lemmas.List.{length-append, reverse-append}
use Rattle.terms.specs.declared.sym.Sym.{Sym}
use Rattle.terms.specs.Symbols.{same_sym}
use Rattle.terms.specs.Trees.{name, array}
use Rattle.terms.specs.Replacing.{replaced_term, replaced_array}
use Rattle.loop_invariants.specs.EntryNames.{bound}
use Rattle.symbolic_state.specs.declared.step.Step.{Step}
use Rattle.symbolic_state.specs.declared.step.Step.TheVariants as step
use Rattle.symbolic_state.specs.Steps.{outermost}
use Rattle.symbolic_state.specs.Code.Joined.{change_of}
use Rattle.symbolic_state.specs.Code.Values.{step_at, AreCurrent, ReplacesCurrent}

-- ---- a name with a count

never_both : (b : Bool) → (b && false) ≡ false
never_both true = refl
never_both false = refl

module _ {T : Type 0} (x : Sym) (counted : x.count ≡ 0 → ⊥) where
  pub not_found : (ps : List (Sym × T)) → AreCurrent ps → find (λ p. same_sym p.0 x) ps ≡ None
  not_found [] are = refl
  not_found (p ∷ ps) are =
      let apart : p.0.count ≡ x.count → ⊥ = λ e. counted (sym e ∙ are.0) in
      let differ : same_sym p.0 x ≡ false = ap (λ c. bytes_eq p.0.base x.base && c) (ne_eqb p.0.count x.count apart) ∙ never_both (bytes_eq p.0.base x.base) in
      ap (λ b. if b then Some p else find (λ p. same_sym p.0 x) ps) differ ∙ not_found ps are.1

either_name : (b : Bool) (x : Sym) → (if b then name x else name x) ≡ name x
either_name true x = refl
either_name false x = refl

pub number_itself : (steps : List Step) (x : Sym) → (x.count ≡ 0 → ⊥) → ReplacesCurrent steps → (change_of steps).number x ≡ name x
number_itself [] x counted are = refl
number_itself (step.Replaces c ∷ steps) x counted are =
    ap (λ o. replaced_term (change_of steps) (if same_sym bound x then name x else unwrap_or (option_map (λ p. p.1) o) (name x))) (not_found x counted c.numbers are.0.0)
    ∙ ap (replaced_term (change_of steps)) (either_name (same_sym bound x) x) ∙ number_itself steps x counted are.1
number_itself (step.Assumes f ∷ steps) x counted are = number_itself steps x counted are.1

pub array_itself : (steps : List Step) (x : Sym) → (x.count ≡ 0 → ⊥) → ReplacesCurrent steps → (change_of steps).array x ≡ array x
array_itself [] x counted are = refl
array_itself (step.Replaces c ∷ steps) x counted are =
    ap (λ o. replaced_array (change_of steps) (unwrap_or (option_map (λ p. p.1) o) (array x))) (not_found x counted c.arrays are.0.1)
    ∙ array_itself steps x counted are.1
array_itself (step.Assumes f ∷ steps) x counted are = array_itself steps x counted are.1

dropped : (k : ℕ) (steps : List Step) → ReplacesCurrent steps → ReplacesCurrent (drop k steps)
dropped zero steps are = are
dropped (suc k) [] are = tt
dropped (suc k) (s ∷ steps) are = dropped k steps are.1

pub outer_current : (n : ℕ) (steps : List Step) → ReplacesCurrent steps → ReplacesCurrent (outermost n steps)
outer_current n steps are = dropped (length steps - n) steps are

-- ---- steps by their numbers

step_inner : (xs : List Step) (s : Step) → step_at (xs ++ (s ∷ [])) 0 ≡ Some s
step_inner [] s = refl
step_inner (x ∷ xs) s =
    let long : length (xs ++ (s ∷ [])) ≡ length xs + 1 = length-append xs (s ∷ []) in
    let apart : 0 ≡ length (xs ++ (s ∷ [])) → ⊥ = λ e. omega (arith, long, e) in
    ap (λ b. if b then Some x else step_at (xs ++ (s ∷ [])) 0) (ne_eqb 0 (length (xs ++ (s ∷ []))) apart) ∙ step_inner xs s

suc_eq : (n m : ℕ) → nat_eq (suc n) (suc m) ≡ nat_eq n m
suc_eq n m = by (nat_eq n m) refl
  where
    by : (b : Bool) → nat_eq n m ≡ b → nat_eq (suc n) (suc m) ≡ b
    by true e = eq-eqb (suc n) (suc m) (ap suc ((Decides-eqb n m).0 e))
    by false e = ne_eqb (suc n) (suc m) (λ s. let same : n ≡ m = omega (arith, s) in let yes_equal : nat_eq n m ≡ true = eq-eqb n m same in absurd cc)

step_outer : (xs : List Step) (s : Step) (n : ℕ) → step_at (xs ++ (s ∷ [])) (suc n) ≡ step_at xs n
step_outer [] s n =
    let apart : suc n ≡ 0 → ⊥ = λ e. omega (arith, e) in
    ap (λ b. if b then Some s else None) (ne_eqb (suc n) 0 apart)
step_outer (x ∷ xs) s n =
    let long : length (xs ++ (s ∷ [])) ≡ suc (length xs) = omega (arith, length-append xs (s ∷ [])) in
    ap₂ (λ b o. if b then Some x else o) (ap (nat_eq (suc n)) long ∙ suc_eq n (length xs)) (step_outer xs s n)

pub by_number : (made : List Step) (n : ℕ) → slice_get made n ≡ step_at (reverse made) n
by_number [] n = refl
by_number (s ∷ made) zero = sym (ap (λ l. step_at l 0) (reverse-append (s ∷ []) made) ∙ step_inner (reverse made) s)
by_number (s ∷ made) (suc n) = by_number made n ∙ sym (ap (λ l. step_at l (suc n)) (reverse-append (s ∷ []) made) ∙ step_outer (reverse made) s n)
