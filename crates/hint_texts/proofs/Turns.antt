-- A loop that reads a list a part at a time.
use Rattle.std.proofs.Common.{◌≡◌, ℕ, zero, suc, ◌<◌, ◌≤◌, List, [], ◌∷◌, ◌++◌, length, Option, Some, None, refl, sym, ap, ◌∙◌, append_assoc, arith}
use Rattle.formula_texts.specs.Grammar.{◌>>=◌}
use Rattle.formula_texts.specs.declared.stop.Stop.{Stop}
use Rattle.formula_texts.specs.declared.stop.Stop.TheVariants as stop
use Rattle.formula_texts.specs.Code.Reading as reading
use Rattle.hint_texts.specs.declared.fault.Fault.{Fault}
use Rattle.hint_texts.specs.declared.fault.Fault.TheVariants as fault
use Rattle.hint_texts.specs.Code.Runs.{Fails, Step, all, parts_in}

-- enough turns are left for the whole, where f makes it of the parts that are left
abbrev pub IsLeft : {A B C : Type 0} → Step A B → (List B → Option C) → List A → Option C → Type 0
IsLeft step f rest total = (k : ℕ) × (length rest ≤ k) × ((all step k rest >>= f) ≡ total)

moved : {B C : Type 0} (f g : List B → Option C) (b : B) (o : Option (List B)) → ((bs : List B) → f (b ∷ bs) ≡ g bs) → (o >>= g) ≡ (o >>= (λ bs. Some (b ∷ bs)) >>= f)
moved f g b None h = refl
moved f g b (Some bs) h = sym (h bs)

nothing : {B C : Type 0} (f : List B → Option C) (b : B) (o : Option (List B)) → ((bs : List B) → f (b ∷ bs) ≡ None) → (o >>= (λ bs. Some (b ∷ bs)) >>= f) ≡ None
nothing f b None h = refl
nothing f b (Some bs) h = h bs

-- a part more at the end
pub pushed : {B : Type 0} (front more : List B) (b : B) (bs : List B) → more ≡ front ++ (b ∷ []) → Some (front ++ (b ∷ bs)) ≡ Some (more ++ bs)
pushed front more b bs m = rw m (ap (λ (x : List _). Some x) (sym (append_assoc front (b ∷ []) bs)))

pub pushed_copy : {B : Type 0} (front more : List B) (b c : B) (bs : List B) → c ≡ b → more ≡ front ++ (c ∷ []) → Some (front ++ (b ∷ bs)) ≡ Some (more ++ bs)
pushed_copy front more b c bs same m = pushed front more b bs (rw (← same) m)

module _ {A B C : Type 0} (step : Step A B) where
  pub begins : (f : List B → Option C) (xs : List A) → IsLeft step f xs (parts_in step xs >>= f)
  begins f xs = (length xs, omega arith, refl)

  pub goes_on : (f g : List B → Option C) (rest after : List A) (b : B) (total : Option C) → step rest ≡ Some (b, after) → length after < length rest → ((bs : List B) → f (b ∷ bs) ≡ g bs)
      → IsLeft step f rest total → IsLeft step g after total
  unfolding all
  goes_on f g [] after b total e lt h left = let never : ⊥ = omega arith in absurd never
  goes_on f g (x ∷ xs) after b total e lt h (zero, le, so_far) = let never : ⊥ = omega arith in absurd never
  goes_on f g (x ∷ xs) after b total e lt h (suc k, le, so_far) =
      let turn : (all step k after >>= g) ≡ (all step (suc k) (x ∷ xs) >>= f) = rw e (moved f g b (all step k after) h) in
      (k, omega arith, turn ∙ so_far)

  pub ends : (f : List B → Option C) (rest : List A) (total : Option C) → length rest ≡ 0 → IsLeft step f rest total → total ≡ f []
  unfolding all
  ends f [] total e (k, le, so_far) = sym so_far
  ends f (x ∷ xs) total e left = let never : ⊥ = omega arith in absurd never

  pub fails_none : (f : List B → Option C) (rest : List A) (total : Option C) → 1 ≤ length rest → step rest ≡ None → IsLeft step f rest total → total ≡ None
  unfolding all
  fails_none f [] total some e left = let never : ⊥ = omega arith in absurd never
  fails_none f (x ∷ xs) total some e (zero, le, so_far) = let never : ⊥ = omega arith in absurd never
  fails_none f (x ∷ xs) total some e (suc k, le, so_far) = sym so_far ∙ rw e refl

  pub fails_stop : (f : List B → Option C) (rest : List A) (total : Option C) (s : Stop) → 1 ≤ length rest → reading.Fails s (step rest) → IsLeft step f rest total → reading.Fails s total
  fails_stop f rest total stop.NoMemory some e left = tt
  fails_stop f rest total stop.NoText some e left = fails_none f rest total some e left

  pub fails : (f : List B → Option C) (rest : List A) (total : Option C) (s : Fault) → 1 ≤ length rest → Fails s (step rest) → IsLeft step f rest total → Fails s total
  fails f rest total fault.NoMemory some e left = tt
  fails f rest total (fault.NoText line) some e left = fails_none f rest total some e left

  -- the part at the front can't stand there
  pub stops : (f : List B → Option C) (rest after : List A) (b : B) (total : Option C) → 1 ≤ length rest → step rest ≡ Some (b, after) → ((bs : List B) → f (b ∷ bs) ≡ None) → IsLeft step f rest total → total ≡ None
  unfolding all
  stops f [] after b total some e h left = let never : ⊥ = omega arith in absurd never
  stops f (x ∷ xs) after b total some e h (zero, le, so_far) = let never : ⊥ = omega arith in absurd never
  stops f (x ∷ xs) after b total some e h (suc k, le, so_far) =
      let turn : (all step (suc k) (x ∷ xs) >>= f) ≡ None = rw e (nothing f b (all step k after) h) in
      sym so_far ∙ turn
