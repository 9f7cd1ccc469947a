-- A loop over digits.
use Rattle.std.proofs.Common.{◌≡◌, ◌∙◌, ◌<◌, ℕ, ◌+◌, List, [], ◌∷◌, Option, None, Some, length, get_or, drop, add-one, drop-cons, ap, sym, refl}
use Rattle.cert_form.specs.Code.Numbers.{digits_from, with_digit}

pub digits-at : (text : List ℕ) (i size : ℕ) → i < length text
    → digits_from (Some size) (drop i text) ≡ digits_from (with_digit (get_or text i 0) size) (drop (i + 1) text)
digits-at text i size h = rw (add-one, drop-cons text i 0) refl

pub digits-none : (digits : List ℕ) → digits_from None digits ≡ None
digits-none [] = refl
digits-none (d ∷ ds) = digits-none ds

-- A byte that ends the number.
pub digits-stop : (all : Option ℕ) (text : List ℕ) (i size : ℕ) → all ≡ digits_from (Some size) (drop i text) → i < length text
    → with_digit (get_or text i 0) size ≡ None → None ≡ all
digits-stop all text i size so_far h stops =
    sym (so_far ∙ digits-at text i size h ∙ ap (λ (more : Option ℕ). digits_from more (drop (i + 1) text)) stops ∙ digits-none (drop (i + 1) text))

pub ruleset digits = (digits-at, digits-stop)
