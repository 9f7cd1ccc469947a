-- The lines of tokens.
use Rattle.std.proofs.Common.{◌≡◌, ℕ, ◌+◌, ◌≤◌, true, false, List, ◌∷◌, ◌++◌, Some, sym, ap, append_assoc, arith}
use Rattle.hint_texts.specs.declared.token.Token.{Token}
use Rattle.hint_texts.specs.declared.token.Piece.{Piece}
use Rattle.hint_texts.specs.declared.token.Piece.TheVariants as piece
use Rattle.hint_texts.specs.Tokens.{line_after, tokens_at, placed}

pub line_small : (line : ℕ) (p : Piece) → line_after line p ≤ line + 1
line_small line (piece.Blank true) = omega arith
line_small line (piece.Blank false) = omega arith
line_small line (piece.Token k) = omega arith

pub placed_more : (front more : List Token) (line after : ℕ) (p : Piece) (pieces : List Piece) → more ≡ front ++ tokens_at line p → after ≡ line_after line p
    → Some (front ++ placed line (p ∷ pieces)) ≡ Some (more ++ placed after pieces)
placed_more front more line after p pieces m l = rw (m, l) (ap (λ (x : List Token). Some x) (sym (append_assoc front (tokens_at line p) (placed (line_after line p) pieces))))
