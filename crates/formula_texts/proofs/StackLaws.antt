-- The top of a stack.
use Rattle.std.proofs.Common.{◌≡◌, ◌+◌, List, [], ◌∷◌, ◌++◌, length, refl, sym, ap, ◌∙◌, append_assoc, append-nil, arith}
use Rattle.c_lang.specs.Names.{Bytes}
use Rattle.formula_texts.specs.declared.pending.Pending.{Pending}
use Rattle.formula_texts.specs.Code.Writing.{pending_text, stack_text, weight, weights}

pub top_text : (xs : List Pending) (x : Pending) → stack_text (xs ++ (x ∷ [])) ≡ pending_text x ++ stack_text xs
unfolding stack_text
top_text [] x = sym (append-nil (pending_text x))
top_text (y ∷ xs) x = ap (λ (t : Bytes). t ++ pending_text y) (top_text xs x) ∙ append_assoc (pending_text x) (stack_text xs) (pending_text y)

pub top_weight : (xs : List Pending) (x : Pending) → weights (xs ++ (x ∷ [])) ≡ weight x + weights xs
unfolding weights
top_weight [] x = omega arith
top_weight (y ∷ xs) x = omega (arith, top_weight xs x)

pub nothing_left : (xs : List Pending) → length xs ≡ 0 → stack_text xs ≡ []
unfolding stack_text
nothing_left [] e = refl
nothing_left (x ∷ xs) e = let never : ⊥ = omega arith in absurd never
