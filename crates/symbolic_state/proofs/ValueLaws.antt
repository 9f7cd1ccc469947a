-- The latest value before a step is what a name stands for there.
use Rattle.std.proofs.Common.{◌≡◌, ◌⊎◌, inl, inr, ℕ, suc, ◌-◌, ◌<◌, ◌≤◌, Bool, true, false, if◌then◌else◌, nat_eq, nat_lt, List, [], ◌∷◌, ◌++◌, length, drop, Option, Some, None, refl, sym, ap, ◌∙◌, subst, arith}
use Rattle.std.proofs.lemmas.Bool.{ne_eqb, lt-ltb, le-ltb, cases_lt}
use Rattle.c_lang.specs.Names.{Bytes}
use Rattle.symbolic_state.specs.declared.step.Step.{Step}
use Rattle.symbolic_state.specs.declared.bindings.Binding.{Binding}
use Rattle.symbolic_state.specs.Steps.{outermost}
use Rattle.symbolic_state.specs.Code.Joined.{change_of}
use Rattle.symbolic_state.specs.Code.Bindings.{later, latest}
use Rattle.symbolic_state.specs.Code.Values.{step_at, Kind, pair_of, Source, EndsIn, Chosen, HasValues, IsFound, IsKind}

pub outer_less : (n : ℕ) (s : Step) (steps : List Step) → n ≤ length steps → outermost n (s ∷ steps) ≡ outermost n steps
outer_less n s steps within =
    let count : length (s ∷ steps) - n ≡ suc (length steps - n) = omega (arith, within) in
    ap (λ m. drop m (s ∷ steps)) count

pub outer_more : (n : ℕ) (steps : List Step) → length steps ≤ n → outermost n steps ≡ steps
outer_more n steps within =
    let count : length steps - n ≡ 0 = omega (arith, within) in
    ap (λ m. drop m steps) count

pub step_less : (n : ℕ) (s : Step) (steps : List Step) → n < length steps → step_at (s ∷ steps) n ≡ step_at steps n
step_less n s steps within =
    let apart : n ≡ length steps → ⊥ = λ e. omega (arith, within, e) in
    let other : nat_eq n (length steps) ≡ false = ne_eqb n (length steps) apart in
    ap (λ b. if b then Some s else step_at steps n) other

latest-last : (t : ℕ) (bs : List Binding) (b : Binding) → latest t (bs ++ (b ∷ [])) ≡ (if nat_lt b.step t then Some b else latest t bs)
latest-last t [] b = refl
latest-last t (c ∷ bs) b = ap (λ o. if nat_lt c.step t then later o c else o) (latest-last t bs b) ∙ by (nat_lt c.step t) (nat_lt b.step t)
  where
    by : (d e : Bool) → (if d then later (if e then Some b else latest t bs) c else (if e then Some b else latest t bs)) ≡ (if e then Some b else (if d then later (latest t bs) c else latest t bs))
    by true true = refl
    by true false = refl
    by false true = refl
    by false false = refl

-- ---- one step more

pub source_more : {T : Type 0} (K : Kind T) (s : Step) (steps : List Step) (b : Binding) (w : T) → Source K steps b w → Source K (s ∷ steps) b w
source_more K s steps b w h = record {
  earlier = omega (arith, h.earlier);
  own = h.own;
  found = ap (λ o. pair_of K o b.pair) (step_less b.source s steps h.earlier) ∙ h.found;
  is = h.is ∙ ap (λ l. K.put (change_of l) h.own) (sym (outer_less b.source s steps (omega (arith, h.earlier))));
}

found_within : {T : Type 0} (K : Kind T) (s : Step) (steps : List Step) (x : Bytes) (t : ℕ) (o : Option Binding) → t ≤ length steps → IsFound K steps x t o → IsFound K (s ∷ steps) x t o
found_within K s steps x t None within h = ap (λ l. K.at (change_of l) x) (outer_less t s steps within) ∙ h
found_within K s steps x t (Some b) within h =
    subst (λ l. Source K (s ∷ steps) b (K.at (change_of l) x)) (sym (outer_less t s steps within)) (source_more K s steps b (K.at (change_of (outermost t steps)) x) h)

-- the step gives the name no value
found_past : {T : Type 0} (K : Kind T) → IsKind K → (s : Step) (steps : List Step) (x : Bytes) (t : ℕ) (o : Option Binding) → K.value x s ≡ None → length steps < t
    → IsFound K steps x t o → IsFound K (s ∷ steps) x t o
found_past K is s steps x t o none past h = by o h
  where
    same : K.at (change_of (outermost t (s ∷ steps))) x ≡ K.at (change_of (outermost t steps)) x
    same = ap (λ l. K.at (change_of l) x) (outer_more t (s ∷ steps) (omega (arith, past))) ∙ is.kept s steps x none
        ∙ ap (λ l. K.at (change_of l) x) (sym (outer_more t steps (omega (arith, past))))

    by : (o : Option Binding) → IsFound K steps x t o → IsFound K (s ∷ steps) x t o
    by None h = same ∙ h
    by (Some b) h = subst (λ w. Source K (s ∷ steps) b w) (sym same) (source_more K s steps b (K.at (change_of (outermost t steps)) x) h)

pub latest_found : {T : Type 0} (K : Kind T) → IsKind K → (steps : List Step) (x : Bytes) (bs : List Binding) (t : ℕ) → HasValues K steps x bs → IsFound K steps x t (latest t bs)
latest_found {T} K is [] x bs t has =
    subst (λ cs. IsFound K [] x t (latest t cs)) (sym has) (ap (λ l. K.at (change_of l) x) (outer_more t [] (omega arith)) ∙ is.initial x)
latest_found {T} K is (s ∷ steps) x bs t has = by (K.value x s) refl has (cases_lt (length steps) t) (λ cs h. latest_found K is steps x cs t h)
  where
    by : (o : Option T) → K.value x s ≡ o → Chosen o (EndsIn K (s ∷ steps) x (length steps) bs (HasValues K steps x)) (HasValues K steps x bs)
        → (length steps < t) ⊎ (t ≤ length steps) → ((cs : List Binding) → HasValues K steps x cs → IsFound K steps x t (latest t cs)) → IsFound K (s ∷ steps) x t (latest t bs)
    by None e h (inl past) before = found_past K is s steps x t (latest t bs) e past (before bs h)
    by None e h (inr within) before = found_within K s steps x t (latest t bs) within (before bs h)
    by (Some v) e h (inl past) before =
        let here : latest t bs ≡ Some h.last = ap (latest t) h.whole ∙ latest-last t h.front h.last
        ∙ ap (λ b. if b then Some h.last else latest t h.front) (lt-ltb h.last.step t (omega (arith, past, h.step))) in
        subst (λ o. IsFound K (s ∷ steps) x t o) (sym here)
        (subst (λ l. Source K (s ∷ steps) h.last (K.at (change_of l) x)) (sym (outer_more t (s ∷ steps) (omega (arith, past)))) h.source)
    by (Some v) e h (inr within) before =
        let here : latest t bs ≡ latest t h.front = ap (latest t) h.whole ∙ latest-last t h.front h.last
        ∙ ap (λ b. if b then Some h.last else latest t h.front) (le-ltb h.last.step t (omega (arith, within, h.step))) in
        subst (λ o. IsFound K (s ∷ steps) x t o) (sym here) (found_within K s steps x t (latest t h.front) within (before h.front h.rest))
