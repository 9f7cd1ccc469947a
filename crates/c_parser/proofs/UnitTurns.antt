-- The declarations of a unit, a turn at a time.
use Rattle.std.proofs.Common.{◌≡◌, ℕ, zero, suc, ◌<◌, List, [], ◌∷◌, length, Option, Some, sym, ap, ◌∙◌, arith}
use Rattle.c_lang.specs.declared.unit.Unit.{Unit}
use Rattle.c_grammar.specs.declared.token.Token.{Token}
use Rattle.c_expressions.specs.declared.parse_error.ParseError.{ParseError}
use Rattle.c_expressions.specs.declared.parse_error.ParseError.TheVariants as error
use Rattle.c_expressions.specs.Code.ParseSteps.{◌>>=◌, Fails}
use Rattle.c_grammar.specs.Units.{Parts}
use Rattle.c_parser.specs.Code.UnitReading.{external, externals}

module _ (u : Unit) (d : ℕ) where
  -- enough turns are left for the whole
  abbrev pub IsLeft : Parts → List Token → Option Parts → Type 0
  IsLeft a ts total = (k : ℕ) × (length ts < k) × (externals u d k a ts ≡ total)

  pub goes_on : (a : Parts) (ts : List Token) (x : Parts × List Token) (total : Option Parts) → external u d a ts ≡ Some x → length x.1 < length ts → IsLeft a ts total → IsLeft x.0 x.1 total
  unfolding externals
  goes_on a ts x total e lt (zero, enough, so_far) = let never : ⊥ = omega arith in absurd never
  goes_on a [] x total e lt (suc k, enough, so_far) = let never : ⊥ = omega arith in absurd never
  goes_on a (t ∷ ts) x total e lt (suc k, enough, so_far) =
      (k, omega arith, sym (ap (λ (r : Option (Parts × List Token)). r >>= λ y. externals u d k y.0 y.1) e) ∙ so_far)

  pub ends : (a : Parts) (ts : List Token) (total : Option Parts) → length ts ≡ 0 → IsLeft a ts total → total ≡ Some a
  unfolding externals
  ends a ts total e (zero, enough, so_far) = let never : ⊥ = omega arith in absurd never
  ends a [] total e (suc k, enough, so_far) = sym so_far
  ends a (t ∷ ts) total e (suc k, enough, so_far) = let never : ⊥ = omega arith in absurd never

  pub fails : (a : Parts) (ts : List Token) (total : Option Parts) (f : ParseError) → 0 < length ts → Fails f (external u d a ts) → IsLeft a ts total → Fails f total
  unfolding externals
  fails a ts total f some e (zero, enough, so_far) = let never : ⊥ = omega arith in absurd never
  fails a [] total f some e (suc k, enough, so_far) = let never : ⊥ = omega arith in absurd never
  fails a (t ∷ ts) total error.NoMemory some e (suc k, enough, so_far) = tt
  fails a (t ∷ ts) total (error.Syntax n) some e (suc k, enough, so_far) = sym so_far ∙ ap (λ (r : Option (Parts × List Token)). r >>= λ y. externals u d k y.0 y.1) e
