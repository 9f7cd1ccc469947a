-- Classes of bytes, and runs of them.
use Rattle.std.specs.Prelude.{⊤, ◌≡◌, ℕ, Bool, true, false, not, ◌&&◌, ◌||◌, ◌==◌, nat_le, [], ◌∷◌}
use Rattle.std.specs.List.{list_all}
use Rattle.c_lang.specs.Names.{Bytes, is_digit, is_letter}

-- bytes that have a part of their own
abbrev pub line_feed : ℕ
line_feed = 10

abbrev pub space : ℕ
space = 32

abbrev pub quote : ℕ
quote = 34

abbrev pub hash : ℕ
hash = 35

abbrev pub star : ℕ
star = 42

abbrev pub slash : ℕ
slash = 47

-- space, tab, line feed, vertical tab, form feed and carriage return
abbrev pub is_white : ℕ → Bool
is_white byte = byte == 32 || (nat_le 9 byte && nat_le byte 13)

abbrev pub is_space : ℕ → Bool
is_space byte = byte == space

-- space and tab
abbrev pub is_blank : ℕ → Bool
is_blank byte = byte == 32 || byte == 9

-- all but the line feed, which ends a line
abbrev pub is_in_line : ℕ → Bool
is_in_line byte = not (byte == line_feed)

-- letters, digits and `_`
abbrev pub is_in_word : ℕ → Bool
is_in_word byte = is_letter byte || is_digit byte

-- letters, digits, `_` and `.`
abbrev pub is_in_number : ℕ → Bool
is_in_number byte = is_letter byte || is_digit byte || byte == 46

-- no such byte comes next
abbrev pub IsEnd : (ℕ → Bool) → Bytes → Type 0
IsEnd class [] = ⊤
IsEnd class (byte ∷ rest) = class byte ≡ false

-- The text is the longest run of such bytes, where rest follows it.
pub record IsRun (class : ℕ → Bool) (text rest : Bytes) : Type 0 where
  pub all : list_all class text ≡ true
  pub ends : IsEnd class rest
