-- The loop over operators, a turn at a time.
use Rattle.std.proofs.Common.{◌≡◌, ℕ, zero, suc, ◌+◌, ◌-◌, ◌<◌, ◌≤◌, List, Option, Some, None, refl, sym, ap, ◌∙◌, subst, arith}
use Rattle.std.proofs.lemmas.Bool.{le-ltb, lt-ltb}
use Rattle.c_lang.specs.Operators.{level}
use Rattle.c_lang.specs.declared.expr.Op.{Op}
use Rattle.c_grammar.specs.declared.token.Token.{Token}
use Rattle.c_expressions.specs.declared.parse_error.ParseError.{ParseError}
use Rattle.c_expressions.specs.declared.parse_error.ParseError.TheVariants as error
use Rattle.c_expressions.specs.Code.ParseSteps.{◌>>=◌, Fails}
use Rattle.c_expressions.specs.Code.ExpressionReading.{Found, Parse, next_operator, join, operand, more_by, more, expr}

-- enough turns are left for the whole that is read
abbrev pub IsLeft : (ℕ → Parse) → ℕ → ℕ → Found → Option Found → Type 0
IsLeft inner d m left total = (k : ℕ) × (d < left.height + k) × (more inner k d m left ≡ total)

pub begins : (d m : ℕ) (ts : List Token) (left : Found) → 1 ≤ d → 1 ≤ left.height → operand (expr (d - 1)) ts ≡ Some left → IsLeft (expr (d - 1)) d m left (expr d m ts)
unfolding expr
begins zero m ts left le low e = let never : ⊥ = omega arith in absurd never
begins (suc d) m ts left le low e =
    let same : suc d - 1 ≡ d = omega arith in
    let f : operand (expr d) ts ≡ Some left = subst (λ (n : ℕ). operand (expr n) ts ≡ Some left) same e in
    subst (λ (n : ℕ). IsLeft (expr n) (suc d) m left (expr (suc d) m ts)) (sym same) (suc d, omega arith, sym (ap (λ (r : Option Found). r >>= more (expr d) (suc d) (suc d) m) f))

module _ (inner : ℕ → Parse) (d m : ℕ) where
  -- what comes after an operator that binds tightly enough
  turn : (k : ℕ) (left : Found) (op : Op) (ts : List Token) → next_operator left.rest ≡ Some (op, ts) → m ≤ level op → left.height < d
      → more inner (suc k) d m left ≡ (inner (level op + 1) ts >>= λ right. more inner k d m (join op left right))
  unfolding more
  turn k left op ts e le lt = ap (more_by inner (more inner k d m) d m left) e ∙ rw (le-ltb _ _ le, lt-ltb _ _ lt) refl

  pub goes_on : (left right : Found) (op : Op) (ts : List Token) (total : Option Found) → next_operator left.rest ≡ Some (op, ts) → m ≤ level op
      → inner (level op + 1) ts ≡ Some right → left.height < d → IsLeft inner d m left total → IsLeft inner d m (join op left right) total
  goes_on left right op ts total e le r lt (zero, enough, so_far) = let never : ⊥ = omega arith in absurd never
  goes_on left right op ts total e le r lt (suc k, enough, so_far) =
      (k, omega arith, sym (turn k left op ts e le lt ∙ rw r refl) ∙ so_far)

  pub ends : (left : Found) (total : Option Found) → next_operator left.rest ≡ None → left.height ≤ d → IsLeft inner d m left total → total ≡ Some left
  unfolding more
  ends left total e high (zero, enough, so_far) = let never : ⊥ = omega arith in absurd never
  ends left total e high (suc k, enough, so_far) = sym so_far ∙ ap (more_by inner (more inner k d m) d m left) e

  pub stops : (left : Found) (op : Op) (ts : List Token) (total : Option Found) → next_operator left.rest ≡ Some (op, ts) → level op < m → left.height ≤ d → IsLeft inner d m left total → total ≡ Some left
  unfolding more
  stops left op ts total e lt high (zero, enough, so_far) = let never : ⊥ = omega arith in absurd never
  stops left op ts total e lt high (suc k, enough, so_far) = sym so_far ∙ ap (more_by inner (more inner k d m) d m left) e ∙ rw (lt-ltb _ _ lt) refl

  pub fails_high : (left : Found) (op : Op) (ts : List Token) (total : Option Found) → next_operator left.rest ≡ Some (op, ts) → m ≤ level op → d ≤ left.height → left.height ≤ d
      → IsLeft inner d m left total → total ≡ None
  unfolding more
  fails_high left op ts total e le low high (zero, enough, so_far) = let never : ⊥ = omega arith in absurd never
  fails_high left op ts total e le low high (suc k, enough, so_far) =
      sym so_far ∙ ap (more_by inner (more inner k d m) d m left) e ∙ rw (le-ltb _ _ le, le-ltb _ _ low) refl

  pub fails_right : (left : Found) (op : Op) (ts : List Token) (total : Option Found) (f : ParseError) → next_operator left.rest ≡ Some (op, ts) → m ≤ level op
      → Fails f (inner (level op + 1) ts) → left.height < d → IsLeft inner d m left total → Fails f total
  fails_right left op ts total f e le r lt (zero, enough, so_far) = let never : ⊥ = omega arith in absurd never
  fails_right left op ts total error.NoMemory e le r lt (suc k, enough, so_far) = tt
  fails_right left op ts total (error.Syntax n) e le r lt (suc k, enough, so_far) = sym so_far ∙ turn k left op ts e le lt ∙ rw r refl
