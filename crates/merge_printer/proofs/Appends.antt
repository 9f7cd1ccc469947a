-- Texts that are appended one after the other.
use Rattle.std.proofs.Common.{◌≡◌, ℕ, List, ◌++◌, Result, Ok, Err, OnOk, ◌∙◌, ap, append_assoc}

module _ {T E : Type 0} (r : Result T E) (new o o1 o2 : List ℕ) where
  on_ok : (x y : List ℕ) → x ≡ y → OnOk r (new ≡ x) → OnOk r (new ≡ y)
  on_ok x y e = by_result r
    where
      by_result : (r : Result T E) → OnOk r (new ≡ x) → OnOk r (new ≡ y)
      by_result (Ok t) h = h ∙ e
      by_result (Err t) h = tt

  pub three : (a b c : List ℕ) → o1 ≡ o ++ a → o2 ≡ o1 ++ b → OnOk r (new ≡ o2 ++ c) → OnOk r (new ≡ o ++ (a ++ (b ++ c)))
  three a b c p q h = on_ok (o2 ++ c) (o ++ (a ++ (b ++ c))) (ap (λ (z : List ℕ). z ++ c) (q ∙ ap (λ (z : List ℕ). z ++ b) p) ∙ simp append_assoc) h

  pub four : (o3 a b c d : List ℕ) → o1 ≡ o ++ a → o2 ≡ o1 ++ b → o3 ≡ o2 ++ c → OnOk r (new ≡ o3 ++ d)
      → OnOk r (new ≡ o ++ (a ++ (b ++ (c ++ d))))
  four o3 a b c d p q s h = on_ok (o3 ++ d) (o ++ (a ++ (b ++ (c ++ d))))
      (ap (λ (z : List ℕ). z ++ d) (s ∙ ap (λ (z : List ℕ). z ++ c) (q ∙ ap (λ (z : List ℕ). z ++ b) p)) ∙ simp append_assoc) h

  pub five : (o3 o4 a b c d e : List ℕ) → o1 ≡ o ++ a → o2 ≡ o1 ++ b → o3 ≡ o2 ++ c → o4 ≡ o3 ++ d → OnOk r (new ≡ o4 ++ e)
      → OnOk r (new ≡ o ++ (a ++ (b ++ (c ++ (d ++ e)))))
  five o3 o4 a b c d e p q s t h = on_ok (o4 ++ e) (o ++ (a ++ (b ++ (c ++ (d ++ e)))))
      (ap (λ (z : List ℕ). z ++ e) (t ∙ ap (λ (z : List ℕ). z ++ d) (s ∙ ap (λ (z : List ℕ). z ++ c) (q ∙ ap (λ (z : List ℕ). z ++ b) p))) ∙ simp append_assoc) h

  pub behind : (a b c d : List ℕ) → o1 ≡ o ++ (a ++ (b ++ c)) → OnOk r (new ≡ o1 ++ d) → OnOk r (new ≡ o ++ (a ++ (b ++ (c ++ d))))
  behind a b c d p h = on_ok (o1 ++ d) (o ++ (a ++ (b ++ (c ++ d)))) (ap (λ (z : List ℕ). z ++ d) p ∙ simp append_assoc) h
