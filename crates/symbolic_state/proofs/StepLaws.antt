-- Steps by when they were made, and by how near to the condition they stand.
use Rattle.std.proofs.Common.{◌≡◌, ℕ, ◌-◌, ◌<◌, List, [], ◌∷◌, ◌++◌, length, take, drop, reverse, sym, ap, ap₂, ◌∙◌, arith}
use Rattle.std.proofs.lemmas.List.{length-reverse, length-drop, reverse-append, take-append-drop}
use Rattle.std.proofs.Math.Seq.{drop-append_seam}
use Rattle.symbolic_state.specs.declared.step.Step.{Step}
use Rattle.symbolic_state.specs.Steps.{outermost}
use Rattle.symbolic_state.proofs.ValueLaws.{outer_less}

-- those that were made first are the outermost
pub first_outermost : (n : ℕ) (made : List Step) → reverse (take n made) ≡ outermost n (reverse made)
first_outermost n made =
    let whole : reverse made ≡ reverse (drop n made) ++ reverse (take n made) = ap reverse (sym (take-append-drop n made)) ∙ reverse-append (take n made) (drop n made) in
    let count : length (reverse made) - n ≡ length (reverse (drop n made)) =
    ap (λ m. m - n) (length-reverse made) ∙ sym (length-drop n made) ∙ sym (length-reverse (drop n made)) in
    sym (drop-append_seam (reverse (drop n made)) (reverse (take n made))) ∙ ap₂ drop (sym count) (sym whole)

-- without the innermost, which isn't among the outermost ones
pub outer_dropped : (n : ℕ) (steps : List Step) → n < length steps → outermost n (drop 1 steps) ≡ outermost n steps
outer_dropped n [] within = let never : ⊥ = omega (arith, within) in absurd never
outer_dropped n (s ∷ steps) within = sym (outer_less n s steps (omega (arith, within)))
