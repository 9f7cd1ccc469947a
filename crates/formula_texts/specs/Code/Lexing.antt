-- Cutting a text into tokens.
use Rattle.std.specs.Prelude.{ℕ, zero, suc, Bool, ◌+◌, ◌-◌, ◌*◌, nat_le, nat_lt, ◌||◌, ◌&&◌, ◌==◌, if◌then◌else◌, List, [], ◌∷◌, take, drop, slice_index, length, Option, Some, None}
use Rattle.std.specs.List.{prefix_len}
use Rattle.c_lang.specs.Names.{Bytes, is_digit}
use Rattle.c_grammar.specs.Bytes.{slash, is_white, is_in_line, is_in_word}
use Rattle.formula_texts.specs.declared.token.Token.{Token}
use Rattle.formula_texts.specs.Tokens.{dollar, apostrophe, plain_token, dollar_token, count_token, pair_token, single_token}
use Rattle.formula_texts.specs.Grammar.{◌>>=◌}

-- the number that the digits go on to, where it stays within the limit
abbrev pub value_from : ℕ → ℕ → Bytes → Option ℕ
value_from limit front [] = Some front
value_from limit front (byte ∷ bytes) =
    if is_digit byte && nat_le (front * 10 + (byte - 48)) limit then value_from limit (front * 10 + (byte - 48)) bytes else None

abbrev pub has_leading_zero : Bytes → Bool
has_leading_zero digits = nat_lt 1 (length digits) && slice_index digits 0 == 48

abbrev pub number_of : ℕ → Bytes → Option ℕ
number_of limit digits = if length digits == 0 || has_leading_zero digits then None else value_from limit 0 digits

-- a token or a gap, and how many bytes it has
abbrev pub Cut : Type 0
Cut = Option Token × ℕ

abbrev pub cut_by : ℕ → Option Token → Option Cut
cut_by size None = None
cut_by size (Some t) = Some (Some t, size)

abbrev pub mark_by : ℕ → ℕ → Option Token → Option Cut
mark_by byte next (Some t) = Some (Some t, 2)
mark_by byte next None = cut_by 1 (single_token byte next)

-- a run behind so many bytes
abbrev pub run_at : (Bytes → Option Token) → ℕ → Bytes → Option Cut
run_at what before text = let size = prefix_len is_in_word text in cut_by (before + size) (what (take size text))

unfoldable pub piece_by : ℕ → Bytes → Option Cut
piece_by byte rest =
    if is_white byte then Some (None, 1) else
    (if byte == slash && slice_index rest 0 == slash then Some (None, prefix_len is_in_line (drop 1 rest) + 2) else
    (if is_in_word byte then run_at plain_token 0 (byte ∷ rest) else
    (if byte == dollar then run_at dollar_token 1 rest else
    (if byte == apostrophe then run_at count_token 1 rest else mark_by byte (slice_index rest 0) (pair_token byte (slice_index rest 0))))))

abbrev pub piece_at : Bytes → Option Cut
piece_at [] = None
piece_at (byte ∷ rest) = piece_by byte rest

abbrev pub kept : Option Token → List Token → List Token
kept None ts = ts
kept (Some t) ts = t ∷ ts

-- the number bounds the turns
unfoldable pub lexed : ℕ → Bytes → Option (List Token)
lexed k [] = Some []
lexed zero (byte ∷ rest) = None
lexed (suc k) (byte ∷ rest) = piece_by byte rest >>= λ cut. lexed k (drop cut.1 (byte ∷ rest)) >>= λ ts. Some (kept cut.0 ts)

abbrev pub tokens_in : Bytes → Option (List Token)
tokens_in text = lexed (length text) text
