-- The text of a global's value at entry, taken apart.
use Rattle.std.proofs.Common.{◌≡◌, ◌≢◌, Bool, true, false, [], ◌∷◌, ◌++◌, codes, refl, sym, ap, ◌∙◌}
use Rattle.std.specs.Str.{bytes_eq}
use Rattle.std.proofs.lemmas.Slice.Eq.{bytes_eq-Decides}
use Rattle.std.proofs.lemmas.List.{append_cancel_right}
use Rattle.c_lang.specs.Names.{Bytes}
use Rattle.loop_invariants.specs.EntryNames.{entry_text}

to_false : (b : Bool) → (b ≡ true → ⊥) → false ≡ b
to_false true never = absurd (never refl)
to_false false never = refl

alike : (b c : Bool) → (b ≡ true → c ≡ true) → (c ≡ true → b ≡ true) → b ≡ c
alike true true f g = refl
alike true false f g = sym (f refl)
alike false true f g = g refl
alike false false f g = refl

is : (g name : Bytes) → bytes_eq (entry_text g) name ≡ true → entry_text g ≡ name
is g name = (bytes_eq-Decides (entry_text g) name).0

pub no_front : (g name : Bytes) → ((rest : Bytes) → name ≢ codes "pre(" ++ rest) → false ≡ bytes_eq (entry_text g) name
no_front g name none = to_false (bytes_eq (entry_text g) name) (λ e. none (g ++ codes ")") (sym (is g name e)))

drop4 : Bytes → Bytes
drop4 (a ∷ b ∷ c ∷ d ∷ xs) = xs
drop4 xs = []

pub no_end : (g name rest : Bytes) → name ≡ codes "pre(" ++ rest → ((front : Bytes) → rest ≢ front ++ codes ")") → false ≡ bytes_eq (entry_text g) name
unfolding drop4
no_end g name rest e none = to_false (bytes_eq (entry_text g) name) (λ q. none g (ap drop4 (sym (is g name q ∙ e))))

pub inside : (g name rest inner : Bytes) (b : Bool) → name ≡ codes "pre(" ++ rest → rest ≡ inner ++ codes ")" → b ≡ bytes_eq g inner
    → b ≡ bytes_eq (entry_text g) name
unfolding drop4
inside g name rest inner b e f q = q ∙ alike (bytes_eq g inner) (bytes_eq (entry_text g) name)
    (λ p. (bytes_eq-Decides (entry_text g) name).1 (ap entry_text ((bytes_eq-Decides g inner).0 p) ∙ sym (e ∙ ap (λ xs. codes "pre(" ++ xs) f)))
    (λ p. (bytes_eq-Decides g inner).1 (append_cancel_right g inner (codes ")") (ap drop4 (is g name p ∙ e) ∙ f)))
