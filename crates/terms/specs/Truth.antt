-- What terms are worth and when formulas are true. Numbers are whole and have no bound; a quotient is
-- rounded toward zero, and one by 0 is 0.
use Rattle.std.specs.Prelude.{ℤ, pos, ◌+ℤ◌, ◌-ℤ◌, ◌*ℤ◌, ◌≤ℤ◌, ◌<ℤ◌, Bool, true, false, not, ◌&&◌, ◌||◌, int_le, int_div, if◌then◌else◌, IsTrue, ◌≡◌}
use Rattle.std.specs.Ordering.{int_eq}
use Rattle.terms.specs.declared.sym.Sym.{Sym}
use Rattle.terms.specs.declared.fact.Fact.{Fact}
use Rattle.terms.specs.declared.fact.Fact.TheVariants as fact
use Rattle.terms.specs.Symbols.{same_sym}
use Rattle.terms.specs.Names.{Occurrence, as_number, as_array}
use Rattle.terms.specs.Trees.{TermTree, number, name, plus, minus, times, divided, remainder, read, truth, ArrayTree, array, stored, FormTree, always, never, at_most, equal, denied, both, either}

-- what each name stands for: a number, and an array as its value at each index
pub record Interpretation : Type 0 where
  pub value : Sym → ℤ
  pub element : Sym → ℤ → ℤ

-- the same, but for one name
abbrev pub with_value : Interpretation → Sym → ℤ → Interpretation
with_value v x z = record v { value = λ y. if same_sym x y then z else v.value y }

abbrev pub with_array : Interpretation → Sym → (ℤ → ℤ) → Interpretation
with_array v x row = record v { element = λ y. if same_sym x y then row else v.element y }

abbrev pub quotient_of : ℤ → ℤ → ℤ
quotient_of a b = if int_eq b (pos 0) then pos 0 else int_div a b

abbrev pub remainder_of : ℤ → ℤ → ℤ
remainder_of a b = a -ℤ (quotient_of a b *ℤ b)

-- 1 for a true form, 0 for a false one
abbrev pub number_of : Bool → ℤ
number_of b = if b then pos 1 else pos 0

abbrev mutual
  pub term_at : Interpretation → TermTree → ℤ
  term_at v (number z) = z
  term_at v (name x) = v.value x
  term_at v (plus t u) = term_at v t +ℤ term_at v u
  term_at v (minus t u) = term_at v t -ℤ term_at v u
  term_at v (times t u) = term_at v t *ℤ term_at v u
  term_at v (divided t u) = quotient_of (term_at v t) (term_at v u)
  term_at v (remainder t u) = remainder_of (term_at v t) (term_at v u)
  term_at v (read a i) = array_at v a (term_at v i)
  term_at v (truth f) = number_of (form_at v f)

  pub array_at : Interpretation → ArrayTree → ℤ → ℤ
  array_at v (array x) k = v.element x k
  array_at v (stored a i t) k = if int_eq (term_at v i) k then term_at v t else array_at v a k

  pub form_at : Interpretation → FormTree → Bool
  form_at v always = true
  form_at v never = false
  form_at v (at_most t u) = int_le (term_at v t) (term_at v u)
  form_at v (equal t u) = int_eq (term_at v t) (term_at v u)
  form_at v (denied f) = not (form_at v f)
  form_at v (both f g) = form_at v f && form_at v g
  form_at v (either f g) = form_at v f || form_at v g

abbrev pub FactAt : Interpretation → Fact → Type 0
FactAt v (fact.Plain f) = IsTrue (form_at v f)
FactAt v (fact.All x lo hi f) = (n : ℤ) → term_at v lo ≤ℤ n → n <ℤ term_at v hi → IsTrue (form_at (with_value v x n) f)

-- two interpretations give a name the same number, or the same array
abbrev pub AgreesAt : Interpretation → Interpretation → Occurrence → Type 0
AgreesAt v w (as_number x) = v.value x ≡ w.value x
AgreesAt v w (as_array x) = (k : ℤ) → v.element x k ≡ w.element x k
