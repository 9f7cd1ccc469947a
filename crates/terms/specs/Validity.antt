-- Which interpretations a list of sorts allows, and which sequents are valid.
use Rattle.std.specs.Prelude.{ℤ, pos, ◌≤ℤ◌, IsTrue, List, All}
use Rattle.c_lang.specs.Values.{fits_int}
use Rattle.terms.specs.declared.sym.Sym.{Sym}
use Rattle.terms.specs.declared.sequent.Sort.{Sort}
use Rattle.terms.specs.declared.sequent.Sort.TheVariants as sort
use Rattle.terms.specs.declared.sequent.Sequent.{Sequent}
use Rattle.terms.specs.Truth.{Interpretation, FactAt}

-- an array has `int` elements at every index, whatever its length
abbrev pub HasSort : Interpretation → Sym → Sort → Type 0
HasSort v x sort.Whole = IsTrue (fits_int (v.value x))
HasSort v x (sort.Code n) = (pos 0 ≤ℤ v.value x) × (v.value x ≤ℤ pos n)
HasSort v x (sort.Row n) = (k : ℤ) → IsTrue (fits_int (v.element x k))

abbrev pub InRange : Interpretation → List (Sym × Sort) → Type 0
InRange v sorts = All (λ entry. HasSort v entry.0 entry.1) sorts

-- where the hypotheses are true, so is the goal
abbrev pub SequentAt : Interpretation → Sequent → Type 0
SequentAt v s = All (FactAt v) s.hyps → FactAt v s.goal

pub record Valid (s : Sequent) : Type 0 where
  pub follows : (v : Interpretation) → InRange v s.sorts → SequentAt v s
