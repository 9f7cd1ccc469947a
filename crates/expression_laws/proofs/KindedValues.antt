-- Which values a place of a kind may have, and when a frame's names have values of the kinds that they are declared with.
use Rattle.std.specs.Prelude.{⊤, ◌≡◌, ◌<ℤ◌, ℕ, ℤ, pos, IsTrue, length, slice_get, All, Some}
use Rattle.std.proofs.Common.{refl, Result, Ok, Err}
use Rattle.c_lang.specs.Names.{Bytes}
use Rattle.c_lang.specs.Values.{Value, Num, Code, Null, fits_int, number}
use Rattle.c_lang.specs.Evaluation.{Look}
use Rattle.c_lang.specs.declared.event.Trap.{Trap}
use Rattle.c_lang.specs.declared.stmt.Kind.{Kind}
use Rattle.c_lang.specs.declared.stmt.Kind.TheVariants.{Int, Fp}
use Rattle.c_types.specs.Names.{Cell, Array, Names}
use Rattle.terms.specs.Truth.{Interpretation}
use Rattle.expression_conditions.specs.Numbers.{Numbers}
use Rattle.expression_conditions.specs.Meanings.{current}

-- there is a value, and P holds of it
abbrev pub Gives : {A : Type 0} → Result A Trap → (A → Type 0) → Type 0
Gives (Ok v) P = P v
Gives (Err t) P = ⊥

pub gives_more : {A : Type 0} (a : Result A Trap) (P Q : A → Type 0) → ((v : A) → P v → Q v) → Gives a P → Gives a Q
gives_more (Ok v) P Q more h = more v h
gives_more (Err t) P Q more h = h

pub gives_both : {A : Type 0} (a : Result A Trap) (P Q : A → Type 0) → Gives a P → Gives a Q → Gives a (λ v. P v × Q v)
gives_both (Ok v) P Q h k = (h, k)
gives_both (Err t) P Q h k = h

-- the number by which formulas speak of a value
abbrev pub value_number : Numbers → Value Bytes → ℤ
value_number n (Num z) = z
value_number n (Code f) = n.function f
value_number n Null = pos 0

-- `Reached m f`: a pointer to functions of m parameters may have the function f
module _ (Reached : ℕ → Bytes → Type 0) where
  abbrev pub HasKind : Kind → Value Bytes → Type 0
  HasKind Int (Num z) = IsTrue (fits_int z)
  HasKind Int (Code f) = ⊥
  HasKind Int Null = ⊥
  HasKind (Fp m) (Num z) = ⊥
  HasKind (Fp m) (Code f) = Reached m f
  HasKind (Fp m) Null = ⊤

  pub int_number : (n : Numbers) (v : Value Bytes) → HasKind Int v → value_number n v ≡ number v
  int_number n (Num z) h = refl
  int_number n (Code f) h = absurd h
  int_number n Null h = absurd h

  -- the frame's names have values of their kinds
  pub record Fits (n : Numbers) (names : Names) (look : Look Bytes) : Type 0 where
    pub cells : (x : Bytes) (k : Kind) → names x ≡ Cell k → HasKind k (look.value x)
    pub elements : (a : Bytes) → names a ≡ Array → All (λ (z : ℤ). IsTrue (fits_int z)) (look.elements a)
    pub lengths : (a : Bytes) → names a ≡ Array → n.length a ≡ pos (length (look.elements a))
    pub code : (f : Bytes) → look.code f ≡ f

  -- the functions that pointers may have are told apart by their numbers, and from null
  pub record TellsApart (n : Numbers) : Type 0 where
    pub apart : (m : ℕ) (f g : Bytes) → Reached m f → Reached m g → n.function f ≡ n.function g → f ≡ g
    pub above : (m : ℕ) (f : Bytes) → Reached m f → pos 0 <ℤ n.function f

-- the current values of formulas are the frame's
pub record AreCurrent (n : Numbers) (names : Names) (look : Look Bytes) (v : Interpretation) : Type 0 where
  pub values : (x : Bytes) (k : Kind) → names x ≡ Cell k → v.value (current x) ≡ value_number n (look.value x)
  pub elements : (a : Bytes) → names a ≡ Array → (i : ℕ) (z : ℤ) → slice_get (look.elements a) i ≡ Some z → v.element (current a) (pos i) ≡ z
