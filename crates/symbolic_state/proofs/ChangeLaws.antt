-- The values of a name where a step is added, and where it is taken back.
use Rattle.std.proofs.Common.{◌≡◌, ℕ, ◌≤◌, true, false, if◌then◌else◌, List, [], ◌∷◌, ◌++◌, length, Option, Some, None, sym, ap, ◌∙◌, subst, arith}
use Rattle.std.proofs.lemmas.Bool.{ne_eqb, eq-eqb}
use Rattle.c_lang.specs.Names.{Bytes}
use Rattle.symbolic_state.specs.declared.step.Step.{Step}
use Rattle.symbolic_state.specs.declared.bindings.Binding.{Binding}
use Rattle.symbolic_state.specs.Code.Joined.{change_of}
use Rattle.symbolic_state.specs.Code.Bindings.{ends_at, front, bound, unbound}
use Rattle.symbolic_state.specs.Code.Values.{Kind, Source, EndsIn, Chosen, HasValues}
use Rattle.symbolic_state.proofs.BindingLaws.{ends_at-last, front-last}

-- a step to come has given no value yet
pub not_yet : {T : Type 0} (K : Kind T) (steps : List Step) (x : Bytes) (bs : List Binding) (n : ℕ) → length steps ≤ n → HasValues K steps x bs → ends_at n bs ≡ false
not_yet {T} K [] x bs n within has = ap (ends_at n) has
not_yet {T} K (s ∷ steps) x bs n within has = by (K.value x s) has (λ h. not_yet K steps x bs n (omega (arith, within)) h)
  where
    by : (o : Option T) → Chosen o (EndsIn K (s ∷ steps) x (length steps) bs (HasValues K steps x)) (HasValues K steps x bs) → (HasValues K steps x bs → ends_at n bs ≡ false) → ends_at n bs ≡ false
    by None h before = before h
    by (Some v) h before =
        let apart : h.last.step ≡ n → ⊥ = λ e. omega (arith, within, e, h.step) in
        ap (ends_at n) h.whole ∙ ends_at-last n h.front h.last ∙ ne_eqb h.last.step n apart

pub taken_back : {T : Type 0} (K : Kind T) (s : Step) (steps : List Step) (x : Bytes) (bs : List Binding) → HasValues K (s ∷ steps) x bs → HasValues K steps x (unbound (length steps) bs)
taken_back {T} K s steps x bs has = by (K.value x s) has
  where
    n : ℕ
    n = length steps

    by : (o : Option T) → Chosen o (EndsIn K (s ∷ steps) x (length steps) bs (HasValues K steps x)) (HasValues K steps x bs) → HasValues K steps x (unbound n bs)
    by None h = subst (HasValues K steps x) (sym (ap (λ b. if b then front bs else bs) (not_yet K steps x bs n (omega arith) h))) h
    by (Some v) h =
        let ends : ends_at n bs ≡ true = ap (ends_at n) h.whole ∙ ends_at-last n h.front h.last ∙ eq-eqb h.last.step n h.step in
        let left : unbound n bs ≡ h.front = ap (λ b. if b then front bs else bs) ends ∙ ap front h.whole ∙ front-last h.front h.last in
        subst (HasValues K steps x) (sym left) h.rest

pub value_added : {T : Type 0} (K : Kind T) (s : Step) (steps : List Step) (x : Bytes) (bs : List Binding) (b : Binding) (v : T) → K.value x s ≡ Some v → b.step ≡ length steps
    → Source K (s ∷ steps) b (K.at (change_of (s ∷ steps)) x) → HasValues K steps x bs → HasValues K (s ∷ steps) x (bound bs b)
value_added K s steps x bs b v gives is source has =
    let new : ends_at b.step bs ≡ false = not_yet K steps x bs b.step (omega (arith, is)) has in
    subst (λ o. Chosen o (EndsIn K (s ∷ steps) x (length steps) (bound bs b) (HasValues K steps x)) (HasValues K steps x (bound bs b))) (sym gives)
    (record { front = bs; last = b; whole = ap (λ c. if c then bs else bs ++ (b ∷ [])) new; step = is; source = source; rest = has })
