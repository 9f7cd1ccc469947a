-- The values of a name ascend by their steps.
use Rattle.std.proofs.Common.{◌≡◌, ℕ, ◌+◌, ◌-◌, ◌<◌, ◌≤◌, ◌⊎◌, inl, inr, List, [], ◌∷◌, ◌++◌, length, slice_index_or, Option, Some, None, sym, ap, subst, arith}
use Rattle.std.specs.List.Sorted.{IsNonDecreasingBy}
use Rattle.std.proofs.lemmas.Bool.{cases_lt}
use Rattle.std.proofs.lemmas.List.{length-append, get_or_append_left, get_or_push}
use Rattle.std.proofs.lemmas.List.Sorted.{IsNonDecreasingBy-short, IsNonDecreasingBy-push}
use Rattle.c_lang.specs.Names.{Bytes}
use Rattle.symbolic_state.specs.declared.step.Step.{Step}
use Rattle.symbolic_state.specs.declared.bindings.Binding.{Binding}
use Rattle.symbolic_state.specs.Code.Values.{Kind, EndsIn, Chosen, HasValues}

record Ascends (n : ℕ) (bs : List Binding) : Type 0 where
  pub order : IsNonDecreasingBy (λ b. b.step) bs
  pub below : (i : ℕ) (d : Binding) → i < length bs → (slice_index_or bs i d).step < n

ascent : {T : Type 0} (K : Kind T) (steps : List Step) (x : Bytes) (bs : List Binding) → HasValues K steps x bs → Ascends (length steps) bs
ascent {T} K [] x bs has = subst (Ascends 0) (sym has) (record {
  order = IsNonDecreasingBy-short (λ b. b.step) [] (omega arith);
  below = λ i d within. let never : ⊥ = omega (arith, within) in absurd never;
})
ascent {T} K (s ∷ steps) x bs has = by (K.value x s) has (λ cs h. ascent K steps x cs h)
  where
    by : (o : Option T) → Chosen o (EndsIn K (s ∷ steps) x (length steps) bs (HasValues K steps x)) (HasValues K steps x bs)
        → ((cs : List Binding) → HasValues K steps x cs → Ascends (length steps) cs) → Ascends (length (s ∷ steps)) bs
    by None h before = let is = before bs h in record { order = is.order; below = λ i d within. omega (arith, is.below i d within) }
    by (Some v) h before =
        let is = before h.front h.rest in
        let long : length (h.front ++ (h.last ∷ [])) ≡ length h.front + 1 = length-append h.front (h.last ∷ []) in
        subst (Ascends (length (s ∷ steps))) (sym h.whole) (record {
          order = IsNonDecreasingBy-push (λ b. b.step) h.front h.last is.order (λ d some. omega (arith, h.step, is.below (length h.front - 1) d (omega (arith, some))));
          below = λ i d within. at i d within (cases_lt i (length h.front)) long is;
        })
      where
        at : (i : ℕ) (d : Binding) → i < length (h.front ++ (h.last ∷ [])) → (i < length h.front) ⊎ (length h.front ≤ i)
            → length (h.front ++ (h.last ∷ [])) ≡ length h.front + 1 → Ascends (length steps) h.front → (slice_index_or (h.front ++ (h.last ∷ [])) i d).step < length (s ∷ steps)
        at i d within (inl early) long is =
            let same : (slice_index_or (h.front ++ (h.last ∷ [])) i d).step ≡ (slice_index_or h.front i d).step = ap (λ b. b.step) (get_or_append_left h.front (h.last ∷ []) d i early) in
            omega (arith, same, is.below i d early)
        at i d within (inr late) long is =
            let end : length h.front ≡ i = omega (arith, within, late, long) in
            let same : (slice_index_or (h.front ++ (h.last ∷ [])) i d).step ≡ h.last.step = ap (λ b. b.step) (get_or_push h.front h.last d i end) in
            omega (arith, same, h.step)

pub ascending : {T : Type 0} (K : Kind T) (steps : List Step) (x : Bytes) (bs : List Binding) → HasValues K steps x bs → IsNonDecreasingBy (λ b. b.step) bs
ascending K steps x bs has = (ascent K steps x bs has).order
