-- Where an atom stands among numbered ones.
use Rattle.std.proofs.Common.{◌≡◌, ◌∙◌, ℕ, ◌+◌, suc, Bool, true, false, ◌||◌, cond, if◌then◌else◌, nat_lt, List, [], ◌∷◌, ◌++◌, length, Some, None, ap, sym, refl, arith}
use Rattle.std.specs.List.{position}
use Rattle.std.proofs.lemmas.Option.{cond_some}
use Rattle.terms.specs.Equality.{same_term}
use Rattle.terms.specs.Code.EqualityLaws.{same_term-refl}
use Rattle.terms.specs.Trees.{TermTree}
use Rattle.cert_checker.specs.Numbering.{atom_number, has_atom, with_atom}
use Rattle.cert_checker.proofs.Choices.{by_bool, or_left, or_right}
use Rattle.cert_checker.proofs.NumberingLaws.{number-first, number-later}

first-below : (n : ℕ) → nat_lt 0 (suc n) ≡ true
first-below n = grind arith

next-below : (m n : ℕ) → nat_lt (1 + m) (suc n) ≡ nat_lt m n
next-below m n = grind arith

pub number-below : (us : List TermTree) (t : TermTree) → nat_lt (atom_number us t) (length us) ≡ has_atom us t
number-below [] t = refl
number-below (u ∷ us) t = by_bool (same_term u t)
    (λ e. ap (λ n. nat_lt n (length (u ∷ us))) (number-first u us t e) ∙ first-below (length us) ∙ sym (ap (λ b. b || has_atom us t) e))
    (λ e. ap (λ n. nat_lt n (length (u ∷ us))) (number-later u us t e) ∙ next-below (atom_number us t) (length us) ∙ number-below us t ∙ sym (ap (λ b. b || has_atom us t) e))

pub found-number : (us : List TermTree) (t : TermTree) (n : ℕ) → position (λ u. same_term u t) us ≡ Some n → (has_atom us t ≡ true) × (n ≡ atom_number us t)
found-number us t n e = let both = cond_some (nat_lt (atom_number us t) (length us)) (atom_number us t) n e in (sym (number-below us t) ∙ both.0, sym both.1)

cond-none : (b : Bool) (n : ℕ) → cond b (Some n) None ≡ None → b ≡ false
cond-none true n e = absurd cc
cond-none false n e = refl

pub not-found : (us : List TermTree) (t : TermTree) → position (λ u. same_term u t) us ≡ None → has_atom us t ≡ false
not-found us t e = sym (number-below us t) ∙ cond-none (nat_lt (atom_number us t) (length us)) (atom_number us t) e

one-more : (n : ℕ) → 1 + n ≡ suc n
one-more n = omega arith

pub number-new : (us : List TermTree) (t : TermTree) → has_atom us t ≡ false → atom_number (us ++ (t ∷ [])) t ≡ length us
number-new [] t h = number-first t [] t (same_term-refl t)
number-new (u ∷ us) t h = number-later u (us ++ (t ∷ [])) t (or_left (same_term u t) (has_atom us t) h)
    ∙ ap (λ n. 1 + n) (number-new us t (or_right (same_term u t) (has_atom us t) h)) ∙ one-more (length us)

pub with-known : (us : List TermTree) (t : TermTree) → has_atom us t ≡ true → with_atom us t ≡ us
with-known us t h = ap (λ b. if b then us else us ++ (t ∷ [])) h

pub with-new : (us : List TermTree) (t : TermTree) → has_atom us t ≡ false → with_atom us t ≡ us ++ (t ∷ [])
with-new us t h = ap (λ b. if b then us else us ++ (t ∷ [])) h

-- what a look-up and a new atom tell
pub known : (us slice : List TermTree) (t : TermTree) (n : ℕ) → slice ≡ us → Some n ≡ position (λ u. same_term u t) slice → us ≡ with_atom us t
known us slice t n e h = sym (with-known us t (found-number us t n (ap (position (λ u. same_term u t)) (sym e) ∙ sym h)).0)

pub added : (us slice news : List TermTree) (t copy : TermTree) (next : ℕ) → slice ≡ us → None ≡ position (λ u. same_term u t) slice → news ≡ us ++ (copy ∷ []) → copy ≡ t → next ≡ length us
    → (next ≡ atom_number news t) × (news ≡ with_atom us t)
added us slice news t copy next e h push same n =
    let none = not-found us t (ap (position (λ u. same_term u t)) (sym e) ∙ sym h) in
    let whole : news ≡ us ++ (t ∷ []) = push ∙ ap (λ w. us ++ (w ∷ [])) same in
    (n ∙ sym (number-new us t none) ∙ ap (λ l. atom_number l t) (sym whole), whole ∙ sym (with-new us t none))
