-- Steps of reading from a list of tokens, and what a function's answer says of a reading.
use Rattle.std.specs.Prelude.{⊤, ◌≡◌, ℕ, ℤ, pos, zero, suc, if◌then◌else◌, ◌==◌, List, [], ◌∷◌, Option, Some, None, Result, Ok, Err}
use Rattle.c_lang.specs.Names.{Bytes}
use Rattle.c_grammar.specs.declared.token.Token.{Token}
use Rattle.c_grammar.specs.declared.token.Word.{Word}
use Rattle.c_grammar.specs.declared.token.Word.TheVariants as w
use Rattle.c_grammar.specs.Tokens.{comma}
use Rattle.c_expressions.specs.declared.parse_error.ParseError.{ParseError}
use Rattle.c_expressions.specs.declared.parse_error.ParseError.TheVariants as error

abbrev pub Fails : {Y : Type 0} → ParseError → Option Y → Type 0
Fails error.NoMemory read = ⊤
Fails (error.Syntax left) read = read ≡ None

-- a function answered what reading gives, unless memory ran out
abbrev pub Gives : {X Y : Type 0} → (X → Y) → Result X ParseError → Option Y → Type 0
Gives view (Ok x) read = read ≡ Some (view x)
Gives view (Err e) read = Fails e read

infixl 10 ◌>>=◌
abbrev pub ◌>>=◌ : {A B : Type 0} → Option A → (A → Option B) → Option B
None >>= f = None
(Some a) >>= f = f a

abbrev pub mark_by : ℕ → Word → List Token → Option (List Token)
mark_by mark (w.Punct k) ts = if k == mark then Some ts else None
mark_by mark _ ts = None

-- the rest after this punctuator
abbrev pub after : ℕ → List Token → Option (List Token)
after mark [] = None
after mark (t ∷ ts) = mark_by mark t.what ts

abbrev pub key_by : ℕ → Word → List Token → Option (List Token)
key_by key (w.Key k) ts = if k == key then Some ts else None
key_by key _ ts = None

-- the rest after this keyword
abbrev pub after_key : ℕ → List Token → Option (List Token)
after_key key [] = None
after_key key (t ∷ ts) = key_by key t.what ts

abbrev pub named : Word → Option Bytes
named (w.Ident x) = Some x
named _ = None

-- a name and the rest
abbrev pub name_at : List Token → Option (Bytes × List Token)
name_at [] = None
name_at (t ∷ ts) = named t.what >>= λ x. Some (x, ts)

abbrev pub natural : ℤ → Option ℕ
natural (pos n) = Some n
natural _ = None

abbrev pub numbered : Word → Option ℕ
numbered (w.Number z) = natural z
numbered _ = None

-- a number and the rest
abbrev pub number_at : List Token → Option (ℕ × List Token)
number_at [] = None
number_at (t ∷ ts) = numbered t.what >>= λ n. Some (n, ts)

-- the first reader in the table that has this number
abbrev pub choose : {A : Type 0} → ℕ → List (ℕ × Option A) → Option A
choose k [] = None
choose k (entry ∷ entries) = if k == entry.0 then entry.1 else choose k entries

-- ---- lists with commas: a step reads a part and adds it to what was read before

module _ {A : Type 0} (step : A → List Token → Option (A × List Token)) where
  abbrev pub separated_by : (A → List Token → Option (A × List Token)) → A × List Token → Option (List Token) → Option (A × List Token)
  separated_by go x None = Some x
  separated_by go x (Some rest) = go x.0 rest

  -- the number bounds the turns
  unfoldable pub separated : ℕ → A → List Token → Option (A × List Token)
  separated zero acc ts = None
  separated (suc k) acc ts = step acc ts >>= λ x. separated_by (separated k) x (after comma x.1)
