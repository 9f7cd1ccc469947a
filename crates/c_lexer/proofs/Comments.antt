-- The first `*/`.
use Rattle.std.proofs.Common.{◌≡◌, ℕ, ◌+◌, false, ◌&&◌, eqb, [], ◌∷◌, ◌++◌, length, Some, None, refl, ap, ◌∙◌, arith, inl, inr}
use Rattle.std.specs.Prelude.{slice_index}
use Rattle.std.proofs.lemmas.Bool.{eqb-true}
use Rattle.c_lang.specs.Names.{Bytes}
use Rattle.c_grammar.specs.Pieces.{has_close}
use Rattle.c_lexer.specs.Code.Reading.{closing}
use Rattle.c_lexer.proofs.Cases.{chosen, and_both, and_false, or_false}

pub open_is : (n : ℕ) (z : Bytes) → closing n z ≡ None → has_close z ≡ false
open_is n [] e = refl
open_is n (byte ∷ z) e =
    elim (chosen (eqb byte 42 && eqb (slice_index z 0) 47) (Some (n + 2)) (closing (n + 1) z) None e) [
      | inl h ↦ absurd (let f = h.1 in cc)
      | inr h ↦ rw (h.0, open_is (n + 1) z h.1) refl
    ]

pub open_again : (n : ℕ) (z : Bytes) → has_close z ≡ false → closing n z ≡ None
open_again n [] e = refl
open_again n (byte ∷ z) e =
    let both = or_false (eqb byte 42 && eqb (slice_index z 0) 47) (has_close z) e in
    rw both.0 (open_again (n + 1) z both.1)

-- what is read up to the first `*/`
pub record IsClosed (n m : ℕ) (z : Bytes) : Type 0 where
  pub body : Bytes
  pub rest : Bytes
  pub parts : body ++ 42 ∷ 47 ∷ rest ≡ z
  pub first : has_close (body ++ 42 ∷ []) ≡ false
  pub size : m ≡ n + (length body + 2)

not_yet : (byte next : ℕ) (body rest z : Bytes) → (eqb byte 42 && eqb next 47) ≡ false → body ++ 42 ∷ 47 ∷ rest ≡ next ∷ z → (eqb byte 42 && eqb (slice_index (body ++ 42 ∷ []) 0) 47) ≡ false
not_yet byte next [] rest z f parts = and_false (eqb byte 42)
not_yet byte next (other ∷ body) rest z f parts =
    let same : other ≡ next = cc in
    rw same f

pub closing_is : (n m : ℕ) (z : Bytes) → closing n z ≡ Some m → IsClosed n m z
closing_is n m [] e = absurd cc
closing_is n m (byte ∷ []) e =
    elim (chosen (eqb byte 42 && false) (Some (n + 2)) None (Some m) e) [
      | inl h ↦ absurd (let f = (and_both (eqb byte 42) false h.0).1 in cc)
      | inr h ↦ absurd (let f = h.1 in cc)
    ]
closing_is n m (byte ∷ next ∷ z) e =
    elim (chosen (eqb byte 42 && eqb next 47) (Some (n + 2)) (closing (n + 1) (next ∷ z)) (Some m) e) [
      | inl h ↦
          let both = and_both (eqb byte 42) (eqb next 47) h.0 in
          let same : n + 2 ≡ m = (let f = h.1 in cc) in
          let star = eqb-true byte 42 both.0 in
          let bar = eqb-true next 47 both.1 in
          record { body = []; rest = z; parts = rw (star, bar) refl; first = refl; size = omega (arith, same) }
      | inr h ↦
          let i = closing_is (n + 1) m (next ∷ z) h.1 in
          record {
            body = byte ∷ i.body;
            rest = i.rest;
            parts = ap (λ (bytes : Bytes). byte ∷ bytes) i.parts;
            first = rw (not_yet byte next i.body i.rest z h.0 i.parts, i.first) refl;
            size = omega (arith, i.size);
          }
    ]

pub closing_again : (n : ℕ) (body rest : Bytes) → has_close (body ++ 42 ∷ []) ≡ false → closing n (body ++ 42 ∷ 47 ∷ rest) ≡ Some (n + (length body + 2))
closing_again n [] rest open_ = ap (λ (size : ℕ). Some size) (omega arith)
closing_again n (byte ∷ []) rest open_ =
    rw (and_false (eqb byte 42)) (ap (λ (size : ℕ). Some size) (omega arith))
closing_again n (byte ∷ next ∷ body) rest open_ =
    let both = or_false (eqb byte 42 && eqb next 47) (has_close (next ∷ (body ++ 42 ∷ []))) open_ in
    rw both.0 (closing_again (n + 1) (next ∷ body) rest both.1 ∙ ap (λ (size : ℕ). Some size) (omega arith))
