-- Combinations over numbered atoms.
use Rattle.std.proofs.Common.{◌≡◌, ◌∙◌, ℕ, ℤ, pos, Bool, true, false, ◌&&◌, ◌||◌, if◌then◌else◌, int_le, List, [], ◌∷◌, Option, Some, None, Result, Ok, Err, ap, ap₂, sym, subst, refl}
use Rattle.std.specs.Prelude.{option_and_then}
use Rattle.std.specs.declared.alloc.AllocError.{AllocError}
use Rattle.linear_rows.specs.declared.row.Row.{Row}
use Rattle.linear_rows.specs.Sums.{row_fits, plus_times}
use Rattle.terms.specs.declared.fact.Fact.{Fact}
use Rattle.terms.specs.Trees.{TermTree}
use Rattle.cert_checker.specs.Linear.{Multiple, Sum, scaled_multiples}
use Rattle.cert_checker.specs.Rows.{Line, row_at, nothing, plus_multiple, may_be_added, checked_plus, added, combination}
use Rattle.cert_checker.specs.Numbering.{has_atom, with_atom, with_atoms, IsRow, have_numbers}
use Rattle.cert_checker.specs.Code.SumRows.{IsSumRow}
use Rattle.cert_checker.specs.Code.Steps.{number_row, Grown}
use Rattle.cert_checker.specs.Code.Combined.{IsRowAt, may_add, IsCheckedSum, sum_for, IsCombined, Combines, next_line, AddsTo, IsAdding}
use Rattle.cert_checker.proofs.Choices.{and_right, and_true}
use Rattle.cert_checker.proofs.NumberingLaws.{row-grown, plus-is, number-is, has-grown}
use Rattle.cert_checker.proofs.SizeLaws.{row-size, small-fits}
use Rattle.cert_checker.proofs.GoalLaws.{with_atoms-append, with_atoms-scaled, has-with}
use Rattle.cert_checker.proofs.GrownLaws.{grown_same, grown_with, grown_then}

-- ---- atoms with numbers

pub with_atoms-grown : (us : List TermTree) (ms : List Multiple) → Grown us (with_atoms us ms)
unfolding with_atoms
with_atoms-grown us [] = grown_same us us refl
with_atoms-grown us (m ∷ ms) = grown_then us (with_atom us m.0) (with_atoms (with_atom us m.0) ms) (grown_with us (with_atom us m.0) m.0 refl) (with_atoms-grown (with_atom us m.0) ms)

has-later : (us vs : List TermTree) (t : TermTree) → Grown us vs → has_atom us t ≡ true → has_atom vs t ≡ true
has-later us vs t g h = subst (λ l. has_atom l t ≡ true) (sym g.is) (has-grown us g.more t h)

pub numbered-with : (us : List TermTree) (ms : List Multiple) → have_numbers (with_atoms us ms) ms ≡ true
unfolding with_atoms
numbered-with us [] = refl
numbered-with us (m ∷ ms) = and_true (has_atom (with_atoms (with_atom us m.0) ms) m.0) (have_numbers (with_atoms (with_atom us m.0) ms) ms)
    (has-later (with_atom us m.0) (with_atoms (with_atom us m.0) ms) m.0 (with_atoms-grown (with_atom us m.0) ms) (has-with us m.0)) (numbered-with (with_atom us m.0) ms)

-- ---- one row more

row-later : (us vs : List TermTree) (s : Sum) (row : Row) → Grown us vs → IsSumRow us s row → IsSumRow vs s row
row-later us vs s row g is = subst (λ l. IsSumRow l s row) (sym g.is) (row-grown us g.more s row is)

as-sum : (us vs : List TermTree) (line : Line) (row : Row) → IsRow vs line row → vs ≡ with_atoms us line.multiples → IsSumRow vs (sum_for line) row
as-sum us vs line row is e = record { in_form = is.in_form; parts = is.parts; bound = is.bound; numbered = subst (λ l. have_numbers l line.multiples ≡ true) (sym e) (numbered-with us line.multiples) }

record Added (line row_line : Line) (times : ℤ) (sum row : Row) (vs : List TermTree) : Type 0 where
  both : IsSumRow vs (sum_for (plus_multiple line times row_line)) (plus_times sum times row)
  may : may_add sum times row ≡ may_be_added line times row_line

added-row : (line row_line : Line) (times : ℤ) (sum row : Row) (us vs : List TermTree) → IsCombined line sum us → IsRow vs row_line row → vs ≡ with_atoms us row_line.multiples → Added line row_line times sum row vs
added-row line row_line times sum row us vs one two e =
    let grown : Grown us vs = subst (Grown us) (sym e) (with_atoms-grown us row_line.multiples) in
    let sum_row = plus-is vs (sum_for line) (sum_for row_line) sum row times (row-later us vs (sum_for line) sum grown one.is_row) (as-sum us vs row_line row two e) in record {
      both = sum_row;
      may = ap₂ (λ a b. (a || int_le (pos 0) times) && b) two.equal (ap₂ (λ a b. a && b) (sym (small-fits times)) (row-size vs (sum_for (plus_multiple line times row_line)) (plus_times sum times row) sum_row));
    }

combined-more : (line row_line : Line) (times : ℤ) (sum row : Row) (us vs : List TermTree) → IsCombined line sum us → IsRow vs row_line row → vs ≡ with_atoms us row_line.multiples
    → Added line row_line times sum row vs → may_add sum times row ≡ true → IsCombined (plus_multiple line times row_line) (plus_times sum times row) vs
combined-more line row_line times sum row us vs one two e both may = record {
  is_row = both.both;
  equal = ap₂ (λ a b. a && b) one.equal two.equal;
  fits = and_right (row_fits (number_row times)) (row_fits (plus_times sum times row)) (and_right (row.equal || int_le (pos 0) times) (row_fits (number_row times) && row_fits (plus_times sum times row)) may);
  atoms_are = e ∙ ap (λ l. with_atoms l row_line.multiples) one.atoms_are ∙ sym (with_atoms-append [] line.multiples (scaled_multiples times row_line.multiples)
      ∙ with_atoms-scaled (with_atoms [] line.multiples) times row_line.multiples);
}

chosen : (b : Bool) (x : Row) (o : Option Row) → o ≡ (if b then Some x else None) → (Q : Option Row → Type 0) → (b ≡ true → Q (Some x)) → (b ≡ false → Q None) → Q o
chosen true x o e Q first second = subst Q (sym e) (first refl)
chosen false x o e Q first second = subst Q (sym e) (second refl)

-- the line that a row more makes
next-is : (facts : List Fact) (i : ℕ) (times : ℤ) (line row_line : Line) → row_at facts i ≡ Some row_line → next_line facts i times line ≡ checked_plus line times row_line
next-is facts i times line row_line e = ap (option_and_then (checked_plus line times)) e

pub adds : (facts : List Fact) (i : ℕ) (times : ℤ) (line row_line : Line) (sum row : Row) (us vs : List TermTree) (o : Option Row) → IsCombined line sum us → row_at facts i ≡ Some row_line → IsRow vs row_line row
    → vs ≡ with_atoms us row_line.multiples → o ≡ (if may_add sum times row then Some (plus_times sum times row) else None) → AddsTo facts i times line (Ok o) vs
adds facts i times line row_line sum row us vs o one at two e made =
    let both = added-row line row_line times sum row us vs one two e in
    chosen (may_add sum times row) (plus_times sum times row) o made (λ o. AddsTo facts i times line (Ok o) vs)
    (λ may. (
      plus_multiple line times row_line,
      next-is facts i times line row_line at ∙ ap (λ b. if b then Some (plus_multiple line times row_line) else None) (sym both.may ∙ may),
      combined-more line row_line times sum row us vs one two e both may,
    ))
    (λ may. next-is facts i times line row_line at ∙ ap (λ b. if b then Some (plus_multiple line times row_line) else None) (sym both.may ∙ may))

pub adds-none : (facts : List Fact) (i : ℕ) (times : ℤ) (line : Line) (vs : List TermTree) → row_at facts i ≡ None → AddsTo facts i times line (Ok None) vs
adds-none facts i times line vs e = ap (option_and_then (checked_plus line times)) e

-- ---- the loop

none-there : [] ≡ with_atoms [] []
unfolding with_atoms
none-there = refl

pub begins : (facts : List Fact) (pairs : List (ℕ × ℤ)) (sum : Row) (atoms : List TermTree) → sum ≡ number_row (pos 0) → atoms ≡ [] → IsAdding facts pairs pairs sum atoms
begins facts pairs sum atoms e none = subst (λ s. IsAdding facts pairs pairs s atoms) (sym e) (subst (IsAdding facts pairs pairs (number_row (pos 0))) (sym none)
    (record { line = nothing; left = refl; is = record { is_row = number-is [] (pos 0); equal = refl; fits = refl; atoms_are = none-there } }))

pub goes-on : (facts : List Fact) (pairs rest : List (ℕ × ℤ)) (p : ℕ × ℤ) (line : Line) (row : Row) (atoms : List TermTree) → added facts (p ∷ rest) line ≡ combination facts pairs
    → AddsTo facts p.0 p.1 line (Ok (Some row)) atoms → IsAdding facts pairs rest row atoms
goes-on facts pairs rest p line row atoms left h = record { line = h.0; left = sym (ap (option_and_then (added facts rest)) h.1) ∙ left; is = h.2 }

pub stops : (facts : List Fact) (pairs rest : List (ℕ × ℤ)) (p : ℕ × ℤ) (line : Line) (atoms : List TermTree) → added facts (p ∷ rest) line ≡ combination facts pairs
    → AddsTo facts p.0 p.1 line (Ok None) atoms → combination facts pairs ≡ None
stops facts pairs rest p line atoms left h = sym left ∙ ap (option_and_then (added facts rest)) h

pub ends : (facts : List Fact) (pairs : List (ℕ × ℤ)) (row : Row) (atoms : List TermTree) → IsAdding facts pairs [] row atoms → Combines facts pairs (Ok (Some row)) atoms
ends facts pairs row atoms a = (a.line, sym a.left, a.is)

pub add-answer : (facts : List Fact) (i : ℕ) (times : ℤ) (line : Line) (sum row : Row) (us vs : List TermTree) (result : Result (Option Row) AllocError) → IsCombined line sum us
    → IsRowAt facts i us (Ok (Some row)) vs → IsCheckedSum sum times row result → AddsTo facts i times line result vs
add-answer facts i times line sum row us vs (Ok o) one two made = adds facts i times line two.0 sum row us vs o one two.1 two.2 two.3 made
add-answer facts i times line sum row us vs (Err e) one two made = tt
