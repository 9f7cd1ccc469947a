-- The conditions of a whole function.
use Rattle.std.proofs.Common.{◌≡◌, ◌⊎◌, inl, inr, ℕ, ◌<◌, ◌≤◌, min, List, [], ◌∷◌, map, length, refl, sym, ap, ◌∙◌, arith}
use Rattle.std.proofs.lemmas.List.{length-map}
use Rattle.std.proofs.lemmas.Bool.{cases_lt}
use Rattle.std.proofs.Math.Nat.{min-eq_left, min-eq_right, min-le_left}
use Rattle.c_lang.specs.declared.program.Func.{Func}
use Rattle.loop_invariants.specs.Context.{Context}
use Rattle.weakest_preconditions.specs.Changing.{entering}
use Rattle.weakest_preconditions.specs.Wp.{Condition, all_imply, wp_all}
use Rattle.weakest_preconditions.specs.Conditions.{at_end, annotated_body, function_conditions}
use Rattle.symbolic_state.specs.declared.step.Step.TheVariants as stepped
use Rattle.symbolic_state.specs.Steps.{finished}
use Rattle.wp_conditions.specs.Code.Edges.{entry_steps}
use Rattle.wp_conditions.proofs.EdgeLaws.{replaced, all_given}

same : (l : List Condition) → map (finished []) l ≡ l
same [] = refl
same (s ∷ l) = ap (λ m. s ∷ m) (same l)

pub function_is : (c : Context) (f : Func) (l : List Condition)
    → l ≡ wp_all c f.name (annotated_body c f) (at_end c f) (at_end c f)
    → map (finished (entry_steps c f)) l ≡ function_conditions c f
function_is c f l is =
    let params = map (λ p. p.1) f.params in
    ap (map (finished (entry_steps c f))) is
    ∙ sym (all_given (c.needs f.name) (stepped.Replaces (entering c.globals params) ∷ []) (wp_all c f.name (annotated_body c f) (at_end c f) (at_end c f)))
    ∙ sym (replaced [] (entering c.globals params) (all_imply (c.needs f.name) (wp_all c f.name (annotated_body c f) (at_end c f) (at_end c f))))
    ∙ same (function_conditions c f)

pub count_is : (c : Context) (f : Func) (l : List Condition)
    → l ≡ wp_all c f.name (annotated_body c f) (at_end c f) (at_end c f) → length l ≡ length (function_conditions c f)
count_is c f l is = sym (length-map l (finished (entry_steps c f))) ∙ ap length (function_is c f l is)

-- a count that is the greatest number of 64 bits where it doesn't fit
pub many : (n count : ℕ) → n ≡ min count 18446744073709551615 → 4096 < n → 4096 < count
many n count is large = let least : min count 18446744073709551615 ≤ count = min-le_left count 18446744073709551615 in omega (arith, is, large, least)

pub few : (n count : ℕ) → n ≡ min count 18446744073709551615 → (4096 < n → ⊥) → count ≤ 4096
few n count is small = by (cases_lt count 18446744073709551615)
  where
    by : (count < 18446744073709551615) ⊎ (18446744073709551615 ≤ count) → count ≤ 4096
    by (inl fits) = let whole : n ≡ count = is ∙ min-eq_left (omega (arith, fits)) in by_size whole (cases_lt 4096 n)
      where
        by_size : n ≡ count → (4096 < n) ⊎ (n ≤ 4096) → count ≤ 4096
        by_size whole (inl large) = absurd (small large)
        by_size whole (inr within) = omega (arith, whole, within)
    by (inr large) = let whole : n ≡ 18446744073709551615 = is ∙ min-eq_right large in
        let past : 4096 < n = omega (arith, whole) in absurd (small past)
