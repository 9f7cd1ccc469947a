-- The texts of globals are the tokens of trees of them.
use Rattle.std.specs.Prelude.{⊤, ◌⊎◌, ◌≡◌, ℕ, ℤ, zero, suc, pos, negsuc, ◌+◌, ◌-◌, ◌-ℤ◌, ◌≤◌, true, false, ◌==◌, List, [], ◌∷◌, ◌++◌, map, length, reverse, replicate, Option, Some, None, codes}
use Rattle.std.proofs.Common.{refl, sym, ap, ap₂, subst, ◌∙◌, append_assoc, arith, inl, inr}
use Rattle.std.proofs.lemmas.List.{append-nil, reverse-append, reverse-reverse, length-reverse, replicate-append-replicate}
use Rattle.std.proofs.lemmas.Bool.{le-leb, le-ltb}
use Rattle.std.proofs.lemmas.Bool.Decides.{nat_tests}
use Rattle.std.proofs.lemmas.Fmt.{decimal_digit}
use Rattle.std.specs.Fmt.{decimal, signed_decimal}
use Rattle.c_lang.specs.Names.{Bytes}
use Rattle.c_lang.specs.Units.{IsPosition}
use Rattle.c_lang.specs.declared.unit.Pos.{Pos}
use Rattle.c_lang.specs.declared.unit.Unit.TheVariants.{Merge}
use Rattle.c_lang.specs.declared.program.Shape.{Shape}
use Rattle.c_lang.specs.declared.program.Shape.TheVariants as shape
use Rattle.c_lang.specs.declared.program.GlobalVar.{GlobalVar}
use Rattle.c_grammar.specs.Bytes.{is_in_number, IsEnd}
use Rattle.c_grammar.specs.declared.piece.Place.{Place}
use Rattle.c_grammar.specs.Tokens.{At, mark, semicolon}
use Rattle.c_grammar.specs.Separated.{Separated, last, more, parts_of, separated_tokens}
use Rattle.c_grammar.specs.Statements.{PointerTree, arity}
use Rattle.c_parser.specs.declared.parts.Parts.{Parts}
use Rattle.c_grammar.specs.Units.{SignedTree, plain, negative, signed_tokens, signed_value, NumberInit, ArrayInit, array_init_tokens, values_of, PointerInit, pointer_init_tokens, target_of, External, external_tokens, external_height, IsExternal, add, with_global, array_refusals, kept_values}
use Rattle.c_grammar.specs.Units as unit
use Rattle.merge_printer.specs.Programs.{without_zeros, shown_elements, more_numbers, initializer, pointer_value, int_text, array_text, pointer_text, shape_text, global_text}
use Rattle.merge_printer.proofs.Chains.{Prints, Lines, followed, before, as_tree, as_lines, spaced, spaced_lines, ended}
use Rattle.merge_printer.proofs.Chains as chains
use Rattle.merge_printer.proofs.Words.{IsName, name_word, number_word, int_word, comma_mark, equals_mark, minus_mark, semicolon_mark, square_opens, square_closes, brace_opens, brace_closes, is_number}
use Rattle.merge_printer.proofs.Fitting.{no_arity_refusals}
use Rattle.merge_printer.proofs.PositionLaw.{positioned}
use Rattle.merge_printer.proofs.StatementLaw.{IsPointerOf, prints_pointer}
use Rattle.merge_printer.proofs.ExpressionLaw.{digits_start}

-- ---- numbers with a sign

-- a number that a text can have, with or without a sign
abbrev pub SignedFits : ℤ → Type 0
SignedFits z = (n : ℕ) × (n ≤ 2147483647) × ((z ≡ pos n) ⊎ (z ≡ pos 0 -ℤ pos n))

abbrev IsSignedOf : ℤ → SignedTree → Type 0
IsSignedOf z t = signed_value t ≡ z

abbrev PrintsSigned : ℤ → Place → Bytes → Type 0
PrintsSigned z p rest = Prints signed_tokens (IsSignedOf z) p (signed_decimal z) rest

prints_plain : (n : ℕ) → n ≤ 2147483647 → (p : Place) (rest : Bytes) → IsEnd is_in_number rest → PrintsSigned (pos n) p rest
prints_plain n le p rest end = as_tree (λ (at : At). plain at n) (λ at. refl) (λ at is. refl) (number_word n le end)

below_zero : (n : ℕ) → pos 0 -ℤ pos (suc n) ≡ negsuc n
below_zero n = rw (le-leb 1 (suc n) (omega arith)) (ap negsuc (omega arith))

prints_negative : (n : ℕ) → n ≤ 2147483647 → (p : Place) (rest : Bytes) → IsEnd is_in_number rest → PrintsSigned (pos 0 -ℤ pos n) p rest
prints_negative zero le p rest end = prints_plain 0 le p rest end
prints_negative (suc n) le p rest end =
    let number = is_number (suc n) le in
    subst (λ (z : ℤ). Prints signed_tokens (IsSignedOf (pos 0 -ℤ pos (suc n))) p (signed_decimal z) rest) (sym (below_zero n))
    (as_tree (λ (y : At × At). negative y.0 y.1 (suc n)) (λ y. refl) (λ y is. refl)
    (followed (minus_mark (digits_start (decimal (suc n)) rest number.digits number.some).0) (number_word (suc n) le end)))

prints_signed : (z : ℤ) → SignedFits z → (p : Place) (rest : Bytes) → IsEnd is_in_number rest → PrintsSigned z p rest
prints_signed z h p rest end = elim h.2 [
  | inl e ↦ subst (λ (z : ℤ). PrintsSigned z p rest) (sym e) (prints_plain h.0 h.1 p rest end)
  | inr e ↦ subst (λ (z : ℤ). PrintsSigned z p rest) (sym e) (prints_negative h.0 h.1 p rest end)
]

abbrev pub AllSigned : List ℤ → Type 0
AllSigned [] = ⊤
AllSigned (z ∷ zs) = SignedFits z × AllSigned zs

abbrev AreSignedOf : List ℤ → Separated SignedTree → Type 0
AreSignedOf zs ts = map signed_value (parts_of ts) ≡ zs

prints_several : (z : ℤ) (zs : List ℤ) → SignedFits z → AllSigned zs → (p : Place) (rest : Bytes) → IsEnd is_in_number rest
    → Prints (separated_tokens signed_tokens) (AreSignedOf (z ∷ zs)) p (signed_decimal z ++ more_numbers zs) rest
prints_several z [] h hs p rest end =
    as_tree (λ (y : SignedTree × ⊤). last y.0) (λ y. sym (append-nil (signed_tokens y.0))) (λ y is. ap (λ (x : ℤ). x ∷ []) is.0)
    (followed (prints_signed z h _ _ end) chains.nothing)
prints_several z (z' ∷ zs) h hs p rest end =
    as_tree (λ (y : SignedTree × (At × Separated SignedTree)). more y.0 y.1.0 y.1.1) (λ y. refl)
    (λ y is. ap₂ (λ (x : ℤ) (xs : List ℤ). x ∷ xs) is.0 is.1.1)
    (followed (prints_signed z h _ _ refl) (followed comma_mark (spaced (prints_several z' zs hs.0 hs.1 _ _ end))))

prints_initializer : (zs : List ℤ) → AllSigned zs → (p : Place) (rest : Bytes)
    → Prints array_init_tokens (λ (i : ArrayInit). values_of i ≡ zs) p (initializer zs) rest
prints_initializer [] h p rest = as_tree (λ (x : ⊤). ArrayInit.nothing) (λ x. refl) (λ x is. refl) chains.nothing
prints_initializer (z ∷ zs) h p rest =
    subst (λ (text : Bytes). Prints array_init_tokens (λ (i : ArrayInit). values_of i ≡ z ∷ zs) p text rest) (simp append_assoc)
    (as_tree (λ (y : At × (At × (Separated SignedTree × At))). ArrayInit.given y.0 y.1.0 y.1.1.0 y.1.1.1) (λ y. refl) (λ y is. is.1.1.0)
    (spaced (followed equals_mark (spaced (followed brace_opens (followed (prints_several z zs h.0 h.1 _ _ refl) brace_closes))))))

-- ---- the elements that are shown

zeros : ℕ → List ℤ
zeros n = replicate n (pos 0)

dropped : List ℤ → ℕ
dropped zs = length zs - length (without_zeros zs)

shorter : (zs : List ℤ) → length (without_zeros zs) ≤ length zs
shorter [] = omega arith
shorter (pos zero ∷ zs) = omega (arith, shorter zs)
shorter (pos (suc n) ∷ zs) = omega arith
shorter (negsuc n ∷ zs) = omega arith

zeros_back : (zs : List ℤ) → zeros (dropped zs) ++ without_zeros zs ≡ zs
unfolding zeros dropped
zeros_back [] = refl
zeros_back (pos zero ∷ zs) =
    let one_more : suc (length zs) - length (without_zeros zs) ≡ suc (length zs - length (without_zeros zs)) = omega (arith, shorter zs) in
    ap (λ (n : ℕ). replicate n (pos 0) ++ without_zeros zs) one_more
    ∙ ap (λ (rest : List ℤ). pos 0 ∷ rest) (zeros_back zs)
zeros_back (pos (suc n) ∷ zs) = let none : length (pos (suc n) ∷ zs) - length (pos (suc n) ∷ zs) ≡ 0 = omega arith in ap (λ (k : ℕ). replicate k (pos 0) ++ pos (suc n) ∷ zs) none
zeros_back (negsuc n ∷ zs) = let none : length (negsuc n ∷ zs) - length (negsuc n ∷ zs) ≡ 0 = omega arith in ap (λ (k : ℕ). replicate k (pos 0) ++ negsuc n ∷ zs) none

reverse_zeros : (n : ℕ) → reverse (zeros n) ≡ zeros n
unfolding zeros
reverse_zeros zero = refl
reverse_zeros (suc n) =
    let one_more : n + 1 ≡ suc n = omega arith in
    reverse-append (pos 0 ∷ []) (replicate n (pos 0)) ∙ ap (λ (zs : List ℤ). zs ++ pos 0 ∷ []) (reverse_zeros n)
    ∙ replicate-append-replicate n 1 (pos 0) ∙ ap (λ (k : ℕ). replicate k (pos 0)) one_more

shown_and_zeros : (zs : List ℤ) → shown_elements zs ++ zeros (dropped (reverse zs)) ≡ zs
shown_and_zeros zs =
    let w = without_zeros (reverse zs) in
    ap (λ (back : List ℤ). reverse w ++ back) (sym (reverse_zeros (dropped (reverse zs))))
    ∙ sym (reverse-append (zeros (dropped (reverse zs))) w) ∙ ap reverse (zeros_back (reverse zs)) ∙ reverse-reverse zs

-- what is shown is kept, with zeros up to the array's length
shown_is_kept : (zs : List ℤ) → kept_values [] (length zs) (shown_elements zs) ≡ zs
unfolding zeros dropped
shown_is_kept zs =
    let shown = shown_elements zs in
    let count : length zs - length shown ≡ dropped (reverse zs) = omega (arith, length-reverse zs, length-reverse (without_zeros (reverse zs))) in
    ap (λ (k : ℕ). shown ++ replicate k (pos 0)) count ∙ shown_and_zeros zs

shown_is_short : (zs : List ℤ) → length (shown_elements zs) ≤ length zs
shown_is_short zs = omega (arith, length-reverse zs, length-reverse (without_zeros (reverse zs)), shorter (reverse zs))

all_signed_append : (xs ys : List ℤ) → AllSigned (xs ++ ys) → AllSigned xs × AllSigned ys
all_signed_append [] ys h = (tt, h)
all_signed_append (x ∷ xs) ys h = let rest = all_signed_append xs ys h.1 in ((h.0, rest.0), rest.1)

shown_signed : (zs : List ℤ) → AllSigned zs → AllSigned (shown_elements zs)
shown_signed zs h = (all_signed_append (shown_elements zs) (zeros (dropped (reverse zs))) (subst AllSigned (sym (shown_and_zeros zs)) h)).0

-- ---- globals

abbrev pub cells : Shape → ℕ
cells (shape.Int z) = 1
cells (shape.Arr zs) = length zs
cells (shape.Fp n f) = 1

-- it can be declared where so many cells are left
abbrev pub ShapeFits : ℕ → Shape → Type 0
ShapeFits room (shape.Int z) = SignedFits z
ShapeFits room (shape.Arr zs) = (1 ≤ length zs) × (length zs ≤ 65536) × (length zs ≤ room) × AllSigned zs
ShapeFits room (shape.Fp n None) = n ≤ 32
ShapeFits room (shape.Fp n (Some f)) = (n ≤ 32) × IsName f

abbrev pub GlobalFits : ℕ → GlobalVar → Type 0
GlobalFits room g = IsName g.name × ShapeFits room g.shape

-- a global is declared by this tree
pub record IsGlobalOf (g : GlobalVar) (t : External) : Type 0 where
  pub valid : IsExternal Merge t
  pub height_is : external_height t ≡ 0
  pub added : (a : Parts) → ShapeFits a.room g.shape → add a t ≡ with_global a g (cells g.shape) []

module _ (x : Bytes) (given : Pos) (h : IsName x) (q : Place) (rest : Bytes) (here : q.pos ≡ given) where
  abbrev made : Shape → GlobalVar
  made s = record { name = x; shape = s; pos = given }

  abbrev Printed : Shape → Bytes → Type 0
  Printed s z = Lines external_tokens (IsGlobalOf (made s)) q z rest

  prints_int : (z : ℤ) → SignedFits z → Printed (shape.Int z) (int_text x z)
  prints_int z fits =
      as_lines (λ (y : At × (At × (At × (SignedTree × At)))). External.number y.0 y.1.0 x (NumberInit.given y.1.1.0 y.1.1.1.0) y.1.1.1.1) (λ y. refl)
      (λ y is. record {
        valid = tt;
        height_is = refl;
        added = λ a room. ap₂ (λ p z. with_global a (record { name = x; shape = shape.Int z; pos = p }) 1 []) (is.0 ∙ here) is.1.1.1.0;
      })
      (before (int_word refl) (spaced_lines (before (name_word h refl) (spaced_lines (before equals_mark (spaced_lines (before (prints_signed z fits _ _ refl) (ended semicolon_mark))))))))

  no_refusals : (p : Pos) (room size count : ℕ) → 1 ≤ size → size ≤ 65536 → size ≤ room → count ≤ size → array_refusals p room size count ≡ []
  no_refusals p room size count some few fits short = rw (le-ltb _ _ short, le-ltb _ _ few, le-ltb _ _ fits, not_zero size some) refl
    where
      not_zero : (n : ℕ) → 1 ≤ n → (n == 0) ≡ false
      not_zero n some = grind (arith, nat_tests)

  prints_array : (zs : List ℤ) (room : ℕ) → ShapeFits room (shape.Arr zs) → Printed (shape.Arr zs) (array_text x zs)
  prints_array zs room fits =
      as_lines (λ (y : At × (At × (At × (At × (At × (ArrayInit × At)))))). External.array y.0 y.1.0 x y.1.1.0 y.1.1.1.0 (length zs) y.1.1.1.1.0 y.1.1.1.1.1.0 y.1.1.1.1.1.1) (λ y. refl)
      (λ y is. record {
        valid = tt;
        height_is = refl;
        added = λ a room. array_is (is.0 ∙ here) is.1.1.1.1.1.0 a room;
      })
      (before (int_word refl) (spaced_lines (before (name_word h refl) (before square_opens (before (number_word (length zs) (omega (arith, fits.1)) refl) (before square_closes
      (before (prints_initializer (shown_elements zs) (shown_signed zs fits.3) _ _) (ended semicolon_mark))))))))
    where
      array_is : {p : Pos} {values : List ℤ} → p ≡ given → values ≡ shown_elements zs → (a : Parts) → ShapeFits a.room (shape.Arr zs)
          → unit.with_array a p x (length zs) values ≡ with_global a (made (shape.Arr zs)) (length zs) []
      array_is at shown a fits =
          let none = no_refusals given a.room (length zs) (length (shown_elements zs)) fits.0 fits.1 fits.2 (shown_is_short zs) in
          rw (at, shown, none, shown_is_kept zs) refl

  prints_pointer_global : (n : ℕ) (f : Option Bytes) → ShapeFits 0 (shape.Fp n f) → Printed (shape.Fp n f) (pointer_text x n f)
  prints_pointer_global n f fits =
      as_lines (λ (y : (At × PointerTree) × (PointerInit × At)). External.pointer y.0.0 y.0.1 y.1.0 y.1.1) (λ y. refl)
      (λ y is. record {
        valid = tt;
        height_is = refl;
        added = λ a room. pointer_is y.0.1 y.1.0 (is.0.0 ∙ here) is.0.1 is.1.0 a;
      })
      (before (followed (int_word refl) (spaced (prints_pointer x n h (few f fits) _ _))) (prints_value f fits))
    where
      few : (f : Option Bytes) → ShapeFits 0 (shape.Fp n f) → n ≤ 32
      few None h = h
      few (Some f) h = h.0

      pointer_is : {p : Pos} (t : PointerTree) (i : PointerInit) → p ≡ given → IsPointerOf x n t → target_of i ≡ f → (a : Parts)
          → unit.with_pointer a p t.name (arity t) (target_of i) ≡ with_global a (made (shape.Fp n f)) 1 []
      pointer_is t i at is target a = rw (at, is.name_is, is.arity_is, target, no_arity_refusals given n (few f fits)) refl

      prints_value : {q : Place} (f : Option Bytes) → ShapeFits 0 (shape.Fp n f)
          → Lines (λ (y : PointerInit × At). pointer_init_tokens y.0 ++ (mark semicolon y.1 ∷ [])) (λ (y : PointerInit × At). (target_of y.0 ≡ f) × ⊤) q (codes " = " ++ (pointer_value f ++ codes ";\n")) rest
      prints_value {q} None fits =
          subst (λ (z : Bytes). Lines (λ (y : PointerInit × At). pointer_init_tokens y.0 ++ (mark semicolon y.1 ∷ [])) (λ (y : PointerInit × At). (target_of y.0 ≡ None) × ⊤) q (codes " = " ++ (z ++ codes ";\n")) rest)
          (decimal_digit 0 (omega arith))
          (as_lines (λ (y : At × (At × At)). (PointerInit.null y.0 y.1.0, y.1.1)) (λ y. refl) (λ y is. (refl, tt))
          (spaced_lines (before equals_mark (spaced_lines (before (number_word 0 (omega arith) refl) (ended semicolon_mark))))))
      prints_value (Some f) fits =
          as_lines (λ (y : At × (At × At)). (PointerInit.function y.0 y.1.0 f, y.1.1)) (λ y. refl) (λ y is. (refl, tt))
          (spaced_lines (before equals_mark (spaced_lines (before (name_word fits.1 refl) (ended semicolon_mark)))))

  prints_shape : (s : Shape) (room : ℕ) → ShapeFits room s → Printed s (shape_text x s)
  prints_shape (shape.Int z) room fits = prints_int z fits
  prints_shape (shape.Arr zs) room fits = prints_array zs room fits
  prints_shape (shape.Fp n None) room fits = prints_pointer_global n None fits
  prints_shape (shape.Fp n (Some f)) room fits = prints_pointer_global n (Some f) fits

pub prints_global : (g : GlobalVar) (room : ℕ) → GlobalFits room g → IsPosition g.pos → (p : Place) (rest : Bytes) → p.fresh ≡ true
    → Lines external_tokens (IsGlobalOf g) p (global_text g) rest
prints_global g room fits at p rest fresh = positioned g.pos at fresh (λ q here. prints_shape g.name g.pos fits.0 q rest here g.shape room fits.1)
