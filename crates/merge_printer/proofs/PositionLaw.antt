-- The line that gives a position moves to that position.
use Rattle.std.specs.Prelude.{◌≡◌, ℕ, ◌+◌, ◌-◌, true, false, not, ◌==◌, List, [], ◌∷◌, ◌++◌, codes}
use Rattle.std.proofs.Common.{refl, sym, ap, subst, ◌∙◌, append_assoc, arith}
use Rattle.std.specs.Fmt.{decimal}
use Rattle.std.specs.List.{list_all}
use Rattle.std.proofs.lemmas.Bool.Decides.{nat_tests}
use Rattle.std.proofs.lemmas.List.Folds.{list_all-append}
use Rattle.c_lang.specs.Names.{Bytes, is_digit}
use Rattle.c_lang.specs.Units.{IsPosition}
use Rattle.c_lang.specs.declared.unit.Unit.{Unit}
use Rattle.c_lang.specs.declared.unit.Unit.TheVariants as unit
use Rattle.c_lang.specs.declared.unit.Unit.TheVariants.{Merge}
use Rattle.c_lang.specs.declared.unit.Pos.{Pos}
use Rattle.c_grammar.specs.Bytes.{is_in_line}
use Rattle.c_grammar.specs.Pieces.{SetsPosition, quoted, white, position_line}
use Rattle.c_grammar.specs.Lexed.{Cuts, goes, after_byte, after_bytes, place_behind}
use Rattle.c_grammar.specs.declared.token.Token.{Token}
use Rattle.c_grammar.specs.declared.piece.Piece.TheVariants as piece
use Rattle.c_grammar.specs.declared.piece.Place.{Place}
use Rattle.c_lexer.proofs.Cases.{and_both}
use Rattle.c_lexer.proofs.Runs.{all_mono}
use Rattle.merge_printer.specs.Statements.{position_text}
use Rattle.merge_printer.proofs.Chains.{Lines}
use Rattle.merge_printer.proofs.Words.{is_number}

-- the line without its line feed
line_of : Pos → Bytes
line_of p = codes "#line" ++ (codes " " ++ (decimal p.line ++ (codes " " ++ quoted p.unit)))

digit_in_line : (byte : ℕ) → is_digit byte ≡ true → is_in_line byte ≡ true
digit_in_line byte h = grind (arith, nat_tests)

unit_in_line : (u : Unit) → list_all is_in_line (codes " " ++ quoted u) ≡ true
unit_in_line unit.Old = refl
unit_in_line unit.New = refl
unit_in_line unit.Xform = refl
unit_in_line unit.Client = refl
unit_in_line unit.Merge = refl
unit_in_line unit.Hints = refl
unit_in_line unit.Certs = refl

line_in_line : (p : Pos) → IsPosition p → list_all is_in_line (line_of p) ≡ true
unfolding line_of
line_in_line p h =
    list_all-append is_in_line (decimal p.line) (codes " " ++ quoted p.unit)
    ∙ rw (all_mono is_digit is_in_line (decimal p.line) digit_in_line (is_number p.line h.2).digits, unit_in_line p.unit) refl

sets_position : (p : Pos) → IsPosition p → SetsPosition (line_of p) p
unfolding line_of
sets_position p h = record {
  before = codes " ";
  number = decimal p.line;
  between = codes " ";
  parts = refl;
  gap_before = record { some = omega arith; spaces = refl };
  number_is = is_number p.line h.2;
  gap_between = record { some = omega arith; spaces = refl };
  can_be = h;
}

-- no line feed is passed
same_line : (p : Place) (z : Bytes) → list_all is_in_line z ≡ true → (after_bytes p z).pos ≡ p.pos
same_line p [] h = refl
same_line p (byte ∷ z) h =
    let both = and_both (is_in_line byte) (list_all is_in_line z) h in
    same_line (after_byte p byte) z both.1 ∙ rw (no_feed byte both.0) refl
  where
    no_feed : (byte : ℕ) → not (byte == 10) ≡ true → (byte == 10) ≡ false
    no_feed byte h = grind (arith, nat_tests)

abbrev at_line : Pos → ℕ → Pos
at_line p line = record { unit = p.unit; line = line }

-- the place behind the line's line feed
behind_line : Place → Pos → Place
behind_line p given = after_bytes (place_behind p (piece.Position given) (line_of given)) (codes "\n")

behind_is : (p : Place) (given : Pos) → IsPosition given → (behind_line p given).pos ≡ given
unfolding behind_line
behind_is p given h =
    let r = place_behind p (piece.Position given) (line_of given) in
    let same : r.pos ≡ at_line given (given.line - 1) = same_line _ (line_of given) (line_in_line given h) in
    ap (λ (q : Pos). at_line q (q.line + 1)) same ∙ ap (at_line given) (omega (arith, h.1))

lined : (p : Pos) (b rest : Bytes) → (position_text p ++ b) ++ rest ≡ line_of p ++ (codes "\n" ++ (b ++ rest))
unfolding position_text line_of
lined p b rest = simp append_assoc

pub positioned : {B : Type 0} {tb : B → List Token} {IsB : B → Type 0} {p : Place} {b rest : Bytes} (given : Pos) → IsPosition given → p.fresh ≡ true
    → ((q : Place) → q.pos ≡ given → Lines tb IsB q b rest) → Lines tb IsB p (position_text given ++ b) rest
unfolding behind_line
positioned {B} {tb} {IsB} {p} {b} {rest} given h fresh f =
    let x = f (behind_line p given) (behind_is p given h) in
    record {
      place = x.place;
      fresh = x.fresh;
      moves = record {
        tree = x.moves.tree;
        is = x.moves.is;
        cuts = λ ts c.
            subst (λ (z : Bytes). Cuts Merge p z (tb x.moves.tree ++ ts)) (sym (lined given b rest))
            (goes p (line_of given) (codes "\n" ++ (b ++ rest)) (piece.Position given) (tb x.moves.tree ++ ts)
            (position_line (line_of given) given fresh refl (record { all = line_in_line given h; ends = refl }) (sets_position given h))
            (goes (place_behind p (piece.Position given) (line_of given)) (codes "\n") (b ++ rest) piece.Space (tb x.moves.tree ++ ts) (white 10 refl)
            (x.moves.cuts ts c)));
      };
    }
