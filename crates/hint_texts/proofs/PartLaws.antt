-- A list is a row of parts exactly where it is read as them.
use Rattle.std.proofs.Common.{◌≡◌, ℕ, zero, suc, ◌≤◌, List, [], ◌∷◌, ◌++◌, length, Some, refl, sym, subst, arith}
use Rattle.std.proofs.lemmas.List.{length-append}
use Rattle.formula_texts.specs.Grammar.{◌>>=◌}
use Rattle.formula_texts.proofs.OperatorLaws.{bind_some}
use Rattle.hint_texts.specs.Parts.{AreParts}
use Rattle.hint_texts.specs.Parts as parts
use Rattle.hint_texts.specs.Code.Runs.{Step, all, parts_in}

-- which part was read from the front
pub record IsRead {A B : Type 0} (Is : List A → List A → B → Type 0) (xs : List A) (b : B) (rest : List A) : Type 0 where
  pub front : List A
  pub splits : xs ≡ front ++ rest
  pub is : Is rest front b

-- each part is read again
abbrev pub Again : {A B : Type 0} → (List A → List A → B → Type 0) → Step A B → Type 0
Again {A} {B} Is step = (rest front : List A) (b : B) → Is rest front b → (1 ≤ length front) × (step (front ++ rest) ≡ Some (b, rest))

-- what is read is a part
abbrev pub Sound : {A B : Type 0} → (List A → List A → B → Type 0) → Step A B → Type 0
Sound {A} {B} Is step = (xs rest : List A) (b : B) → step xs ≡ Some (b, rest) → IsRead Is xs b rest

module _ {A B : Type 0} (Is : List A → List A → B → Type 0) (step : Step A B) where
  one_more : (k : ℕ) (front rest : List A) (b : B) (bs : List B) → 1 ≤ length front → step (front ++ rest) ≡ Some (b, rest) → length (front ++ rest) ≤ k
      → ((j : ℕ) → length rest ≤ j → all step j rest ≡ Some bs) → all step k (front ++ rest) ≡ Some (b ∷ bs)
  unfolding all
  one_more k [] rest b bs some e le later = let never : ⊥ = omega arith in absurd never
  one_more zero (x ∷ front) rest b bs some e le later = let never : ⊥ = omega arith in absurd never
  one_more (suc k) (x ∷ front) rest b bs some e le later = rw (e, later k (omega (arith, length-append front rest))) refl

  all_again : Again Is step → (xs : List A) (bs : List B) → AreParts Is xs bs → (k : ℕ) → length xs ≤ k → all step k xs ≡ Some bs
  unfolding all
  all_again again xs bs parts.ends k le = refl
  all_again again xs bs (parts.goes front rest b more is are) k le =
      let h = again rest front b is in
      one_more k front rest b more h.0 h.1 le (λ j few. all_again again rest more are j few)

  pub read_again : Again Is step → (xs : List A) (bs : List B) → AreParts Is xs bs → parts_in step xs ≡ Some bs
  read_again again xs bs are = all_again again xs bs are (length xs) (omega arith)

  all_is : Sound Is step → (k : ℕ) (xs : List A) (bs : List B) → all step k xs ≡ Some bs → AreParts Is xs bs
  unfolding all
  all_is sound k [] bs e = subst (AreParts Is []) (let f = e in cc) parts.ends
  all_is sound zero (x ∷ xs) bs e = absurd cc
  all_is sound (suc k) (x ∷ xs) bs e =
      let a = bind_some (step (x ∷ xs)) (λ s. all step k s.1 >>= λ more. Some (s.0 ∷ more)) bs e in
      let b = bind_some (all step k a.0.1) (λ more. Some (a.0.0 ∷ more)) bs a.2 in
      let r = sound (x ∷ xs) a.0.1 a.0.0 a.1 in
      let whole = parts.goes r.front a.0.1 a.0.0 b.0 r.is (all_is sound k a.0.1 b.0 b.1) in
      subst (AreParts Is (x ∷ xs)) (some_is _ bs b.2) (subst (λ (y : List A). AreParts Is y (a.0.0 ∷ b.0)) (sym r.splits) whole)
    where
      some_is : (y z : List B) → Some y ≡ Some z → y ≡ z
      some_is y z h = cc

  pub read_is : Sound Is step → (xs : List A) (bs : List B) → parts_in step xs ≡ Some bs → AreParts Is xs bs
  read_is sound xs bs e = all_is sound (length xs) xs bs e
