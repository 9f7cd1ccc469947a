-- Lists with commas, a turn at a time.
use Rattle.std.proofs.Common.{◌≡◌, ℕ, zero, suc, ◌<◌, List, length, Option, Some, None, sym, ap, ◌∙◌, arith}
use Rattle.c_grammar.specs.declared.token.Token.{Token}
use Rattle.c_expressions.specs.declared.parse_error.ParseError.{ParseError}
use Rattle.c_expressions.specs.declared.parse_error.ParseError.TheVariants as error
use Rattle.c_grammar.specs.Tokens.{comma}
use Rattle.c_expressions.specs.Code.ParseSteps.{◌>>=◌, Fails, after, separated_by, separated}

module _ {A : Type 0} (step : A → List Token → Option (A × List Token)) where
  -- enough turns are left for the whole
  abbrev pub IsLeft : A → List Token → Option (A × List Token) → Type 0
  IsLeft acc ts total = (k : ℕ) × (length ts < k) × (separated step k acc ts ≡ total)

  pub goes_on : (acc : A) (ts rest : List Token) (x : A × List Token) (total : Option (A × List Token)) → step acc ts ≡ Some x → after comma x.1 ≡ Some rest → length rest < length ts
      → IsLeft acc ts total → IsLeft x.0 rest total
  unfolding separated
  goes_on acc ts rest x total e n lt (zero, enough, so_far) = let never : ⊥ = omega arith in absurd never
  goes_on acc ts rest x total e n lt (suc k, enough, so_far) =
      (k, omega arith, sym (ap (λ (r : Option (A × List Token)). r >>= λ y. separated_by step (separated step k) y (after comma y.1)) e ∙ ap (separated_by step (separated step k) x) n) ∙ so_far)

  pub ends : (acc : A) (ts : List Token) (x : A × List Token) (total : Option (A × List Token)) → step acc ts ≡ Some x → after comma x.1 ≡ None → IsLeft acc ts total → total ≡ Some x
  unfolding separated
  ends acc ts x total e n (zero, enough, so_far) = let never : ⊥ = omega arith in absurd never
  ends acc ts x total e n (suc k, enough, so_far) =
      sym so_far ∙ ap (λ (r : Option (A × List Token)). r >>= λ y. separated_by step (separated step k) y (after comma y.1)) e ∙ ap (separated_by step (separated step k) x) n

  pub fails : (acc : A) (ts : List Token) (total : Option (A × List Token)) (f : ParseError) → Fails f (step acc ts) → IsLeft acc ts total → Fails f total
  unfolding separated
  fails acc ts total f e (zero, enough, so_far) = let never : ⊥ = omega arith in absurd never
  fails acc ts total error.NoMemory e (suc k, enough, so_far) = tt
  fails acc ts total (error.Syntax n) e (suc k, enough, so_far) = sym so_far ∙ ap (λ (r : Option (A × List Token)). r >>= λ y. separated_by step (separated step k) y (after comma y.1)) e
