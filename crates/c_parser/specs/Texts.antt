-- Which texts are programs, and why the others are refused.
use Rattle.std.specs.Prelude.{⊤, ◌≤◌, List, length}
use Rattle.c_lang.specs.Limits.{height_limit, size_limit}
use Rattle.c_lang.specs.Names.{Bytes}
use Rattle.c_lang.specs.declared.unit.Unit.{Unit}
use Rattle.c_lang.specs.declared.refusal.Refusal.{Refusal}
use Rattle.c_lang.specs.declared.refusal.Fail.{Fail}
use Rattle.c_lang.specs.declared.refusal.Fail.TheVariants as fail
use Rattle.c_lang.specs.declared.program.Program.{Program}
use Rattle.c_grammar.specs.declared.token.Token.{Token}
use Rattle.c_grammar.specs.Lexed.{Lexed, Refused}
use Rattle.c_grammar.specs.Parsed.{IsRefused}
use Rattle.c_grammar.specs.Written.{Parses}

-- The text is within its limit, and it is this program.
pub record IsProgramText (u : Unit) (text : Bytes) (program : Program) : Type 0 where
  pub within : length text ≤ size_limit u
  pub parses : Parses u (height_limit u) text program

-- The text is too long or has no tokens, or its tokens are no program; and this is the first refusal.
pub data IsRefusedText (u : Unit) (text : Bytes) : Refusal → Type 0 where
  by_tokens : (refusal : Refusal) → Refused u text refusal → IsRefusedText u text refusal
  by_grammar : (tokens : List Token) (refusal : Refusal)
      → length text ≤ size_limit u → Lexed u text tokens → IsRefused u (height_limit u) tokens refusal
      → IsRefusedText u text refusal

-- memory ran out, or the text is refused
abbrev pub IsRefusedTextAs : Fail → Unit → Bytes → Type 0
IsRefusedTextAs fail.NoMemory u text = ⊤
IsRefusedTextAs (fail.Refused refusal) u text = IsRefusedText u text refusal
