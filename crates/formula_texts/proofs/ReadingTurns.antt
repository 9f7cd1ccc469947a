-- The loop over operators, a turn at a time.
use Rattle.std.proofs.Common.{◌≡◌, ℕ, zero, suc, ◌+◌, ◌-◌, ◌<◌, ◌≤◌, List, Option, Some, None, refl, sym, ap, ◌∙◌, subst, arith}
use Rattle.std.proofs.lemmas.Bool.{le-ltb, lt-ltb}
use Rattle.formula_texts.specs.declared.token.Token.{Token}
use Rattle.formula_texts.specs.declared.token.Operator.{Operator}
use Rattle.formula_texts.specs.declared.stop.Stop.{Stop}
use Rattle.formula_texts.specs.declared.stop.Stop.TheVariants as stop
use Rattle.formula_texts.specs.Grammar.{◌>>=◌, level}
use Rattle.formula_texts.specs.Code.Reading.{Found, Fails, next_operator, join, operand, more_by, more, readers}

-- enough turns are left for the whole that is read
abbrev pub IsLeft : ℕ → ℕ → ℕ → Found → Option Found → Type 0
IsLeft below d m left total = (k : ℕ) × (d < left.size.height + k) × (more (readers below).value (readers below).row k d m left ≡ total)

pub begins : (d m : ℕ) (ts : List Token) (left : Found) → 1 ≤ d → 1 ≤ left.size.height → operand (readers (d - 1)).value (readers (d - 1)).row m ts ≡ Some left → IsLeft (d - 1) d m left ((readers d).value m ts)
unfolding readers
begins zero m ts left le low e = let never : ⊥ = omega arith in absurd never
begins (suc d) m ts left le low e =
    let same : suc d - 1 ≡ d = omega arith in
    let f : operand (readers d).value (readers d).row m ts ≡ Some left = subst (λ (n : ℕ). operand (readers n).value (readers n).row m ts ≡ Some left) same e in
    subst (λ (n : ℕ). IsLeft n (suc d) m left ((readers (suc d)).value m ts)) (sym same)
    (suc d, omega arith, sym (ap (λ (r : Option Found). r >>= more (readers d).value (readers d).row (suc d) (suc d) m) f))

-- an operand that can't be read
pub fails_first : (d m : ℕ) (ts : List Token) (s : Stop) → 1 ≤ d → Fails s (operand (readers (d - 1)).value (readers (d - 1)).row m ts) → Fails s ((readers d).value m ts)
unfolding readers
fails_first d m ts stop.NoMemory le e = tt
fails_first zero m ts stop.NoText le e = let never : ⊥ = omega arith in absurd never
fails_first (suc d) m ts stop.NoText le e =
    let same : suc d - 1 ≡ d = omega arith in
    let f : operand (readers d).value (readers d).row m ts ≡ None = subst (λ (n : ℕ). operand (readers n).value (readers n).row m ts ≡ None) same e in
    ap (λ (r : Option Found). r >>= more (readers d).value (readers d).row (suc d) (suc d) m) f

module _ (below d m : ℕ) where
  -- what comes after an operator that binds tightly enough
  turn : (k : ℕ) (left : Found) (o : Operator) (ts : List Token) → next_operator left.rest ≡ Some (o, ts) → m ≤ level o → left.size.height < d
      → more (readers below).value (readers below).row (suc k) d m left ≡ ((readers below).value (level o + 1) ts >>= λ right. join o left right >>= more (readers below).value (readers below).row k d m)
  unfolding more
  turn k left o ts e le lt = ap (more_by (readers below).value (readers below).row (more (readers below).value (readers below).row k d m) d m left) e ∙ rw (le-ltb _ _ le, lt-ltb _ _ lt) refl

  pub goes_on : (left right both : Found) (o : Operator) (ts : List Token) (total : Option Found) → next_operator left.rest ≡ Some (o, ts) → m ≤ level o
      → (readers below).value (level o + 1) ts ≡ Some right → join o left right ≡ Some both → left.size.height < both.size.height → left.size.height < d → IsLeft below d m left total → IsLeft below d m both total
  goes_on left right both o ts total e le r j higher lt (zero, enough, so_far) = let never : ⊥ = omega arith in absurd never
  goes_on left right both o ts total e le r j higher lt (suc k, enough, so_far) =
      (k, omega arith, sym (turn k left o ts e le lt ∙ rw (r, j) refl) ∙ so_far)

  pub ends : (left : Found) (total : Option Found) → next_operator left.rest ≡ None → left.size.height ≤ d → IsLeft below d m left total → total ≡ Some left
  unfolding more
  ends left total e high (zero, enough, so_far) = let never : ⊥ = omega arith in absurd never
  ends left total e high (suc k, enough, so_far) = sym so_far ∙ ap (more_by (readers below).value (readers below).row (more (readers below).value (readers below).row k d m) d m left) e

  pub stops : (left : Found) (o : Operator) (ts : List Token) (total : Option Found) → next_operator left.rest ≡ Some (o, ts) → level o < m → left.size.height ≤ d → IsLeft below d m left total → total ≡ Some left
  unfolding more
  stops left o ts total e lt high (zero, enough, so_far) = let never : ⊥ = omega arith in absurd never
  stops left o ts total e lt high (suc k, enough, so_far) =
      sym so_far ∙ ap (more_by (readers below).value (readers below).row (more (readers below).value (readers below).row k d m) d m left) e ∙ rw (lt-ltb _ _ lt) refl

  pub fails_high : (left : Found) (o : Operator) (ts : List Token) (total : Option Found) → next_operator left.rest ≡ Some (o, ts) → m ≤ level o → d ≤ left.size.height → left.size.height ≤ d
      → IsLeft below d m left total → total ≡ None
  unfolding more
  fails_high left o ts total e le low high (zero, enough, so_far) = let never : ⊥ = omega arith in absurd never
  fails_high left o ts total e le low high (suc k, enough, so_far) =
      sym so_far ∙ ap (more_by (readers below).value (readers below).row (more (readers below).value (readers below).row k d m) d m left) e ∙ rw (le-ltb _ _ le, le-ltb _ _ low) refl

  pub fails_right : (left : Found) (o : Operator) (ts : List Token) (total : Option Found) (s : Stop) → next_operator left.rest ≡ Some (o, ts) → m ≤ level o
      → Fails s ((readers below).value (level o + 1) ts) → left.size.height < d → IsLeft below d m left total → Fails s total
  fails_right left o ts total s e le r lt (zero, enough, so_far) = let never : ⊥ = omega arith in absurd never
  fails_right left o ts total stop.NoMemory e le r lt (suc k, enough, so_far) = tt
  fails_right left o ts total stop.NoText e le r lt (suc k, enough, so_far) = sym so_far ∙ turn k left o ts e le lt ∙ rw r refl

  pub fails_join : (left right : Found) (o : Operator) (ts : List Token) (total : Option Found) (s : Stop) → next_operator left.rest ≡ Some (o, ts) → m ≤ level o
      → (readers below).value (level o + 1) ts ≡ Some right → Fails s (join o left right) → left.size.height < d → IsLeft below d m left total → Fails s total
  fails_join left right o ts total s e le r j lt (zero, enough, so_far) = let never : ⊥ = omega arith in absurd never
  fails_join left right o ts total stop.NoMemory e le r j lt (suc k, enough, so_far) = tt
  fails_join left right o ts total stop.NoText e le r j lt (suc k, enough, so_far) = sym so_far ∙ turn k left o ts e le lt ∙ rw (r, j) refl
