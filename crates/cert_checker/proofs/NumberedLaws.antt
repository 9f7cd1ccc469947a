-- A row over numbered atoms is true where its line is.
use Rattle.std.proofs.Common.{◌≡◌, ◌∙◌, ◌↔◌, ℕ, ℤ, pos, ◌+ℤ◌, ◌*ℤ◌, ◌≤ℤ◌, true, List, [], ◌∷◌, ap₂, sym, subst, refl}
use Rattle.linear_rows.specs.declared.row.Row.{Row}
use Rattle.linear_rows.specs.Sums.{dot, Holds}
use Rattle.linear_rows.proofs.Ring.{times-one}
use Rattle.terms.specs.Trees.{TermTree}
use Rattle.terms.specs.Truth.{Interpretation, term_at}
use Rattle.cert_checker.specs.Linear.{Multiple}
use Rattle.cert_checker.specs.Rows.{Line}
use Rattle.cert_checker.specs.Worth.{worth, LineAt}
use Rattle.cert_checker.specs.Numbering.{atom_number, has_atom, at_point, have_numbers, IsRow}
use Rattle.cert_checker.proofs.Choices.{and_left, and_right}

-- the point gives the number of each atom what the atom is worth
abbrev GivesWorths : Interpretation → (ℕ → ℤ) → List TermTree → Type 0
GivesWorths v point atoms = (t : TermTree) → has_atom atoms t ≡ true → point (atom_number atoms t) ≡ term_at v t

point-worth : (v : Interpretation) (point : ℕ → ℤ) (us : List TermTree) → GivesWorths v point us → (ms : List Multiple) → have_numbers us ms ≡ true → at_point point us ms ≡ worth v ms
point-worth v point us gives [] h = refl
point-worth v point us gives (m ∷ ms) h = ap₂ (λ y z. m.1 *ℤ y +ℤ z) (gives m.0 (and_left (has_atom us m.0) (have_numbers us ms) h)) (point-worth v point us gives ms (and_right (has_atom us m.0) (have_numbers us ms) h))

pub row-holds : (v : Interpretation) (point : ℕ → ℤ) (atoms : List TermTree) (line : Line) (row : Row) → IsRow atoms line row → have_numbers atoms line.multiples ≡ true
    → ((t : TermTree) → has_atom atoms t ≡ true → point (atom_number atoms t) ≡ term_at v t) → LineAt v line ↔ Holds point (pos 1) row
row-holds v point atoms line row is numbered gives =
    let worth_is : dot point row.parts ≡ worth v line.multiples = is.parts point ∙ point-worth v point atoms gives line.multiples numbered in
    let bound_is : row.bound *ℤ pos 1 ≡ line.bound = times-one row.bound ∙ is.bound in (
      λ h. record {
        below = subst (λ d. d ≤ℤ (row.bound *ℤ pos 1)) (sym worth_is) (subst (λ b. worth v line.multiples ≤ℤ b) (sym bound_is) h.below);
        tight = λ e. worth_is ∙ h.tight (sym is.equal ∙ e) ∙ sym bound_is;
      },
      λ h. record {
        below = subst (λ d. d ≤ℤ line.bound) worth_is (subst (λ b. dot point row.parts ≤ℤ b) bound_is h.below);
        tight = λ e. sym worth_is ∙ h.tight (is.equal ∙ e) ∙ bound_is;
      },
    )
