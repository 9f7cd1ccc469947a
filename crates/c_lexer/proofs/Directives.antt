-- The directives that are read are those that stand there.
use Rattle.std.proofs.Common.{◌≡◌, ℕ, ◌≤◌, Bool, true, false, not, eqb, [], ◌∷◌, ◌++◌, length, take, drop, Option, Some, None, refl, sym, ap, subst, ◌∙◌, arith, inl, inr}
use Rattle.std.specs.Prelude.{bytes_eq, nat_eq, slice_index, codes}
use Rattle.std.specs.List.{prefix_len, starts_with}
use Rattle.std.proofs.lemmas.List.{take_at, drop_at, take-append-drop}
use Rattle.std.proofs.lemmas.Bool.Decides.{nat_tests}
use Rattle.c_lang.specs.Names.{Bytes, is_digit}
use Rattle.c_lang.specs.Units.{HasPrograms}
use Rattle.c_lang.specs.declared.unit.Unit.{Unit}
use Rattle.c_lang.specs.declared.unit.Unit.TheVariants as unit
use Rattle.c_lang.specs.declared.unit.Pos.{Pos}
use Rattle.c_grammar.specs.Bytes.{is_space, is_blank, is_in_word, IsEnd}
use Rattle.c_grammar.specs.Pieces.{IsNumber, IsInclude, IsGap, quoted, SetsPosition}
use Rattle.c_lexer.specs.Code.Reading.{begins_include, is_include, behind_spaces, quoted_unit, unit_by, position_by, number_of, numbered, numbered_by, position_of, position_in}
use Rattle.c_lexer.proofs.Cases.{chosen, and_both, not_true, same_bytes}
use Rattle.c_lexer.proofs.Runs.{run_again, run_is, run_length, first_all, ends_before}
use Rattle.c_lexer.proofs.Numbers.{number_again, number_is, number_some}

-- a text that begins with another is that and what follows it
begins : (z front : Bytes) → starts_with nat_eq z front ≡ true → front ++ drop (length front) z ≡ z
begins z front h =
    let same : front ≡ take (length front) z = same_bytes front (take (length front) z) h in
    ap (λ (y : Bytes). y ++ drop (length front) z) same ∙ take-append-drop (length front) z

ends_at : (class : ℕ → Bool) (z : Bytes) → class (slice_index z 0) ≡ false → IsEnd class z
ends_at class [] f = tt
ends_at class (byte ∷ z) f = f

starts_at : (class : ℕ → Bool) (z : Bytes) → class 0 ≡ false → IsEnd class z → class (slice_index z 0) ≡ false
starts_at class [] none f = none
starts_at class (byte ∷ z) none f = f

-- ---- `#include`

include_word : (z : Bytes) → begins_include z ≡ true → (more : Bytes) × (codes "include" ++ more ≡ z) × IsEnd is_in_word more
include_word z h =
    let both = and_both (starts_with nat_eq z (codes "include")) (not (is_in_word (slice_index z 7))) h in
    let parts = begins z (codes "include") both.0 in
    let next : is_in_word (slice_index z 7) ≡ false = not_true (is_in_word (slice_index z 7)) both.1 in
    (drop 7 z, parts, ends_at is_in_word (drop 7 z) (ap (λ (y : Bytes). is_in_word (slice_index y 7)) parts ∙ next))

pub include_is : (z : Bytes) → is_include (35 ∷ z) ≡ true → IsInclude (35 ∷ z)
include_is z h =
    let n = prefix_len is_blank z in
    let found = include_word (drop n z) h in
    record {
      blanks = take n z;
      more = found.0;
      parts = rw found.1 (ap (λ (y : Bytes). 35 ∷ y) (take-append-drop n z));
      blank = (run_is is_blank z).all;
      ends = found.2;
    }

word_again : (more : Bytes) → IsEnd is_in_word more → begins_include (codes "include" ++ more) ≡ true
word_again [] ends = refl
word_again (byte ∷ more) ends = rw ends refl

pub include_again : (line : Bytes) → IsInclude line → is_include line ≡ true
include_again line h =
    let run = run_again is_blank h.blanks (codes "include" ++ h.more) (record { all = h.blank; ends = refl }) in
    subst (λ (y : Bytes). is_include y ≡ true) h.parts
    (rw (run, drop_at h.blanks (codes "include" ++ h.more) (length h.blanks) refl) (word_again h.more h.ends))

pub include_first : (line : Bytes) → IsInclude line → slice_index line 0 ≡ 35
include_first line h = sym (ap (λ (y : Bytes). slice_index y 0) h.parts)

-- ---- gaps

pub record IsBehindGap (z rest : Bytes) : Type 0 where
  pub gap : Bytes
  pub is : IsGap gap
  pub parts : gap ++ rest ≡ z

no_zero : (n : ℕ) → eqb n 0 ≡ false → 1 ≤ n
no_zero n f = grind (arith, nat_tests)

gap_is : (z rest : Bytes) → behind_spaces z ≡ Some rest → IsBehindGap z rest
gap_is z rest e =
    let n = prefix_len is_space z in
    elim (chosen (eqb n 0) None (Some (drop n z)) (Some rest) e) [
      | inl h ↦ absurd (let f = h.1 in cc)
      | inr h ↦
          let same : drop n z ≡ rest = (let f = h.1 in cc) in
          record {
            gap = take n z;
            is = record { some = omega (arith, run_length is_space z, no_zero n h.0); spaces = (run_is is_space z).all };
            parts = ap (λ (y : Bytes). take n z ++ y) (sym same) ∙ take-append-drop n z;
          }
    ]

some_not_zero : (n : ℕ) → 1 ≤ n → eqb n 0 ≡ false
some_not_zero n h = grind (arith, nat_tests)

gap_again : (gap rest : Bytes) → IsGap gap → IsEnd is_space rest → behind_spaces (gap ++ rest) ≡ Some rest
gap_again gap rest h ends =
    let run = run_again is_space gap rest (record { all = h.spaces; ends = ends }) in
    rw (run, some_not_zero (length gap) h.some, drop_at gap rest (length gap) refl) refl

-- ---- units in quotes

some_is : {A : Type 0} (x y : A) → Some x ≡ Some y → x ≡ y
some_is x y e = cc

quoted_is : (z : Bytes) (u : Unit) → quoted_unit z ≡ Some u → (quoted u ≡ z) × HasPrograms u
unfolding quoted_unit
quoted_is z u e =
    elim (chosen (bytes_eq z (quoted unit.Old)) (Some unit.Old) _ (Some u) e) [
      | inl h ↦ named unit.Old h.0 (some_is unit.Old u h.1) tt
      | inr no_old ↦ elim (chosen (bytes_eq z (quoted unit.New)) (Some unit.New) _ (Some u) no_old.1) [
        | inl h ↦ named unit.New h.0 (some_is unit.New u h.1) tt
        | inr no_new ↦ elim (chosen (bytes_eq z (quoted unit.Xform)) (Some unit.Xform) _ (Some u) no_new.1) [
          | inl h ↦ named unit.Xform h.0 (some_is unit.Xform u h.1) tt
          | inr no_xform ↦ elim (chosen (bytes_eq z (quoted unit.Client)) (Some unit.Client) _ (Some u) no_xform.1) [
            | inl h ↦ named unit.Client h.0 (some_is unit.Client u h.1) tt
            | inr no_client ↦ elim (chosen (bytes_eq z (quoted unit.Merge)) (Some unit.Merge) None (Some u) no_client.1) [
              | inl h ↦ named unit.Merge h.0 (some_is unit.Merge u h.1) tt
              | inr none ↦ absurd (let f = none.1 in cc)
            ]
          ]
        ]
      ]
    ]
  where
    named : (v : Unit) → bytes_eq z (quoted v) ≡ true → v ≡ u → HasPrograms v → (quoted u ≡ z) × HasPrograms u
    named v same is may = (ap quoted (sym is) ∙ sym (same_bytes z (quoted v) same), subst HasPrograms is may)

quoted_again : (u : Unit) → HasPrograms u → quoted_unit (quoted u) ≡ Some u
unfolding quoted_unit
quoted_again unit.Old h = refl
quoted_again unit.New h = refl
quoted_again unit.Xform h = refl
quoted_again unit.Client h = refl
quoted_again unit.Merge h = refl
quoted_again unit.Hints h = absurd h
quoted_again unit.Certs h = absurd h

unit_is : (o : Option Bytes) (u : Unit) → unit_by o ≡ Some u → (z : Bytes) × (o ≡ Some z) × (quoted_unit z ≡ Some u)
unit_is None u e = absurd cc
unit_is (Some z) u e = (z, refl, e)

-- ---- `#line`

abbrev place : Unit → ℕ → Pos
place v line = record { unit = v; line = line }

position_parts : (number : Option ℕ) (named : Option Unit) (p : Pos) → position_by number named ≡ Some p → (number ≡ Some p.line) × (named ≡ Some p.unit) × (1 ≤ p.line)
position_parts None named p e = absurd cc
position_parts (Some line) None p e = absurd cc
position_parts (Some line) (Some v) p e =
    elim (chosen (eqb line 0) None (Some (place v line)) (Some p) e) [
      | inl h ↦ absurd (let f = h.1 in cc)
      | inr h ↦
          let same : place v line ≡ p = some_is (place v line) p h.1 in
          (ap (λ (q : Pos). Some q.line) same, ap (λ (q : Pos). Some q.unit) same, subst (λ (q : Pos). 1 ≤ q.line) same (no_zero line h.0))
    ]

-- what stands place_behind `#line` and its gap
record IsNumbered (z : Bytes) (p : Pos) : Type 0 where
  number : Bytes
  between : Bytes
  parts : number ++ (between ++ quoted p.unit) ≡ z
  number_is : IsNumber number p.line
  gap_between : IsGap between
  named : HasPrograms p.unit
  some : 1 ≤ p.line

numbered_is : (z : Bytes) (p : Pos) → numbered z ≡ Some p → IsNumbered z p
unfolding numbered
numbered_is z p e =
    let n = prefix_len is_digit z in
    let found = position_parts (number_of (take n z)) (unit_by (behind_spaces (drop n z))) p e in
    let place_behind = unit_is (behind_spaces (drop n z)) p.unit found.1 in
    let gap = gap_is (drop n z) place_behind.0 place_behind.1 in
    let u = quoted_is place_behind.0 p.unit place_behind.2 in
    record {
      number = take n z;
      between = gap.gap;
      parts = rw (u.0, gap.parts) (take-append-drop n z);
      number_is = number_is (take n z) p.line (number_some (take n z) p.line found.0 found.2) found.0;
      gap_between = gap.is;
      named = u.1;
      some = found.2;
    }

behind_is : (o : Option Bytes) (p : Pos) → numbered_by o ≡ Some p → (z : Bytes) × (o ≡ Some z) × (numbered z ≡ Some p)
behind_is None p e = absurd cc
behind_is (Some z) p e = (z, refl, e)

pub position_is : (line : Bytes) (p : Pos) → position_of line ≡ Some p → SetsPosition line p
unfolding position_of
position_is line p e =
    elim (chosen (starts_with nat_eq line (codes "#line")) (numbered_by (behind_spaces (drop 5 line))) None (Some p) e) [
      | inl h ↦
          let found = behind_is (behind_spaces (drop 5 line)) p h.1 in
          let gap = gap_is (drop 5 line) found.0 found.1 in
          let is = numbered_is found.0 p found.2 in
          record {
            before = gap.gap;
            number = is.number;
            between = is.between;
            parts = rw (is.parts, gap.parts) (begins line (codes "#line") h.0);
            gap_before = gap.is;
            number_is = is.number_is;
            gap_between = is.gap_between;
            can_be = (is.named, is.some, is.number_is.fits);
          }
      | inr h ↦ absurd (let f = h.1 in cc)
    ]

digit_no_space : (byte : ℕ) → is_digit byte ≡ true → is_space byte ≡ false
digit_no_space byte h = grind (arith, nat_tests)

space_no_digit : (byte : ℕ) → is_space byte ≡ true → is_digit byte ≡ false
space_no_digit byte h = grind (arith, nat_tests)

numbered_again : (number between : Bytes) (p : Pos) → IsNumber number p.line → IsGap between → HasPrograms p.unit → 1 ≤ p.line → numbered (number ++ (between ++ quoted p.unit)) ≡ Some p
unfolding numbered
numbered_again number between p n gap named some =
    let place_behind = between ++ quoted p.unit in
    let ends : IsEnd is_digit place_behind = ends_before is_digit between (quoted p.unit) gap.some (space_no_digit (slice_index between 0) (first_all is_space between gap.spaces gap.some)) in
    let run = run_again is_digit number place_behind (record { all = n.digits; ends = ends }) in
    rw (run, take_at number place_behind (length number) refl, drop_at number place_behind (length number) refl, number_again number p.line n, gap_again between (quoted p.unit) gap refl, quoted_again p.unit named, some_not_zero p.line some) refl

pub position_again : (line : Bytes) (p : Pos) → SetsPosition line p → position_of line ≡ Some p
unfolding position_of
position_again line p h =
    let rest = h.number ++ (h.between ++ quoted p.unit) in
    let digit = first_all is_digit h.number h.number_is.digits h.number_is.some in
    let ends : IsEnd is_space rest = ends_before is_space h.number (h.between ++ quoted p.unit) h.number_is.some (digit_no_space (slice_index h.number 0) digit) in
    subst (λ (y : Bytes). position_of y ≡ Some p) h.parts
    (rw (gap_again h.before rest h.gap_before ends) (numbered_again h.number h.between p h.number_is h.gap_between h.can_be.0 h.can_be.1))

pub position_first : (line : Bytes) (p : Pos) → SetsPosition line p → slice_index line 0 ≡ 35
position_first line p h = sym (ap (λ (y : Bytes). slice_index y 0) h.parts)

-- no line is both
pub no_include : (line : Bytes) (p : Pos) → SetsPosition line p → is_include line ≡ false
no_include line p h = subst (λ (y : Bytes). is_include y ≡ false) h.parts refl

-- ---- in a unit

pub in_unit_is : (u : Unit) (line : Bytes) (p : Pos) → position_in u line ≡ Some p → (u ≡ unit.Merge) × SetsPosition line p
in_unit_is unit.Merge line p e = (refl, position_is line p e)
in_unit_is unit.Old line p e = absurd cc
in_unit_is unit.New line p e = absurd cc
in_unit_is unit.Xform line p e = absurd cc
in_unit_is unit.Client line p e = absurd cc
in_unit_is unit.Hints line p e = absurd cc
in_unit_is unit.Certs line p e = absurd cc

pub in_unit_again : (u : Unit) (line : Bytes) (p : Pos) → u ≡ unit.Merge → SetsPosition line p → position_in u line ≡ Some p
in_unit_again u line p merge h = rw merge (position_again line p h)
