-- The statements of a block, a turn at a time.
use Rattle.std.proofs.Common.{◌≡◌, ℕ, zero, suc, ◌-◌, ◌<◌, ◌≤◌, Bool, true, List, length, Option, Some, None, refl, sym, ap, ◌∙◌, subst, arith}
use Rattle.c_grammar.specs.declared.token.Token.{Token}
use Rattle.c_expressions.specs.declared.parse_error.ParseError.{ParseError}
use Rattle.c_expressions.specs.declared.parse_error.ParseError.TheVariants as error
use Rattle.c_grammar.specs.Tokens.{brace_close}
use Rattle.c_grammar.specs.Scopes.{Scope}
use Rattle.c_expressions.specs.Code.ParseSteps.{◌>>=◌, Fails, after}
use Rattle.c_lang.specs.declared.unit.Unit.{Unit}
use Rattle.c_statements.specs.Code.StatementReading.{Read, chain, items_by, items, stmt_at, stmt}

module _ (inner : Bool → Bool → Scope → List Token → Option Read) (d : ℕ) (in_loop : Bool) where
  -- enough turns are left for the whole
  abbrev pub IsLeft : Read → Option Read → Type 0
  IsLeft acc total = (k : ℕ) × (length acc.rest < k) × (items inner d k in_loop acc ≡ total)

  pub goes_on : (acc x : Read) (total : Option Read) → after brace_close acc.rest ≡ None → inner true in_loop acc.scope acc.rest ≡ Some x → length x.rest < length acc.rest → IsLeft acc total → IsLeft (chain acc x) total
  unfolding items
  goes_on acc x total e i lt (zero, enough, so_far) = let never : ⊥ = omega arith in absurd never
  goes_on acc x total e i lt (suc k, enough, so_far) =
      (k, omega arith, sym (ap (items_by inner d (items inner d k in_loop) in_loop acc) e ∙ ap (λ (r : Option Read). r >>= λ y. items inner d k in_loop (chain acc y)) i) ∙ so_far)

  pub ends : (acc : Read) (rest : List Token) (total : Option Read) → after brace_close acc.rest ≡ Some rest → IsLeft acc total → total ≡ items_by inner d (items inner d 0 in_loop) in_loop acc (Some rest)
  unfolding items
  ends acc rest total e (zero, enough, so_far) = let never : ⊥ = omega arith in absurd never
  ends acc rest total e (suc k, enough, so_far) = sym so_far ∙ ap (items_by inner d (items inner d k in_loop) in_loop acc) e

  pub fails : (acc : Read) (total : Option Read) (f : ParseError) → after brace_close acc.rest ≡ None → Fails f (inner true in_loop acc.scope acc.rest) → IsLeft acc total → Fails f total
  unfolding items
  fails acc total f e i (zero, enough, so_far) = let never : ⊥ = omega arith in absurd never
  fails acc total error.NoMemory e i (suc k, enough, so_far) = tt
  fails acc total (error.Syntax n) e i (suc k, enough, so_far) = sym so_far ∙ ap (items_by inner d (items inner d k in_loop) in_loop acc) e ∙ ap (λ (r : Option Read). r >>= λ y. items inner d k in_loop (chain acc y)) i

-- a statement reads one with less height inside
pub stmt_below : (u : Unit) (d : ℕ) (m l : Bool) (sc : Scope) (ts : List Token) → 1 ≤ d → stmt u d m l sc ts ≡ stmt_at (stmt u (d - 1)) (d - 1) u m l sc ts
unfolding stmt
stmt_below u zero m l sc ts low = let never : ⊥ = omega arith in absurd never
stmt_below u (suc d) m l sc ts low =
    let same : d ≡ suc d - 1 = omega arith in
    subst (λ (n : ℕ). stmt u (suc d) m l sc ts ≡ stmt_at (stmt u n) n u m l sc ts) same refl

pub stmt_zero : (u : Unit) (m l : Bool) (sc : Scope) (ts : List Token) → stmt u 0 m l sc ts ≡ None
unfolding stmt
stmt_zero u m l sc ts = refl
