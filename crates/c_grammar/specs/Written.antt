-- Programs that have a text.
use Rattle.std.specs.Prelude.{⊤, ◌≤◌, ℕ, List, length, All}
use Rattle.std.specs.List.{Contains}
use Rattle.c_lang.specs.Names.{Bytes}
use Rattle.c_lang.specs.Limits.{height_limit, size_limit}
use Rattle.c_lang.specs.declared.unit.Unit.{Unit}
use Rattle.c_lang.specs.declared.unit.Unit.TheVariants.{Merge}
use Rattle.c_lang.specs.declared.program.Program.{Program}
use Rattle.c_grammar.specs.declared.token.Token.{Token}
use Rattle.c_grammar.specs.Lexed.{Lexed}
use Rattle.c_grammar.specs.Grammar.{Gram}
use Rattle.c_grammar.specs.Parsed.{IsParsed}

-- the text is this program, within the height and the open brackets
pub record Parses (u : Unit) (deep : ℕ) (bytes : Bytes) (p : Program) : Type 0 where
  pub tokens : List Token
  pub lexed : Lexed u bytes tokens
  pub parsed : IsParsed u deep tokens p

-- so long a text of the unit may be written; a merged text may be longer than what is read again
abbrev pub MayBeWritten : Unit → ℕ → Type 0
MayBeWritten Merge size = ⊤
MayBeWritten u size = size ≤ size_limit u

-- some text of this unit has the token
pub record IsGiven (u : Unit) (t : Token) : Type 0 where
  pub bytes : Bytes
  pub size : MayBeWritten u (length bytes)
  pub tokens : List Token
  pub lexed : Lexed u bytes tokens
  pub there : Contains tokens t

-- the program is written in this unit: it has tokens, each of which a text of the unit can have, and they
-- are no higher than the unit allows
pub record IsWritten (u : Unit) (p : Program) : Type 0 where
  pub tokens : List Token
  pub given : All (IsGiven u) tokens
  pub gram : Gram u (height_limit u) tokens p
