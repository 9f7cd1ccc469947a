-- What is said of tokens that are parsed: they are one program, or they are refused.
use Rattle.std.specs.Prelude.{⊤, ◌≡◌, ℕ, List, [], ◌∷◌, Option, Some, None}
use Rattle.std.specs.List.{Contains}
use Rattle.c_lang.specs.declared.unit.Unit.{Unit}
use Rattle.c_lang.specs.declared.unit.Pos.{Pos}
use Rattle.c_lang.specs.declared.refusal.Refusal.{Refusal}
use Rattle.c_lang.specs.declared.refusal.Fail.{Fail}
use Rattle.c_lang.specs.declared.refusal.Fail.TheVariants as fail
use Rattle.c_lang.specs.declared.program.Program.{Program}
use Rattle.c_grammar.specs.declared.token.Token.{Token}
use Rattle.c_lang.specs.Refusals.{refused_at, syntax_error, too_nested}
use Rattle.c_grammar.specs.Nesting.{too_deep, IsNested}
use Rattle.c_grammar.specs.Grammar.{Gram}

-- the tokens are this program, within the height and the open brackets
pub record IsParsed (u : Unit) (deep : ℕ) (ts : List Token) (p : Program) : Type 0 where
  pub nested : IsNested deep ts
  pub gram : Gram u deep ts p

-- the position of one of the tokens, or the unit's first line where there is none
abbrev pub IsPlace : Unit → List Token → Pos → Type 0
IsPlace u [] p = p ≡ record { unit = u; line = 1 }
IsPlace u (t ∷ ts) p = (x : Token) × Contains (t ∷ ts) x × (x.pos ≡ p)

-- no program of this height has the tokens
pub record IsSyntaxError (u : Unit) (deep : ℕ) (ts : List Token) (r : Refusal) : Type 0 where
  pub number : r ≡ refused_at syntax_error r.pos
  pub place : IsPlace u ts r.pos
  pub no_program : (p : Program) → Gram u deep ts p → ⊥

abbrev pub refused_by : Unit → ℕ → List Token → Refusal → Option Pos → Type 0
refused_by u deep ts r (Some p) = r ≡ refused_at too_nested p
refused_by u deep ts r None = IsSyntaxError u deep ts r

-- 5 at the first token at which too many brackets are open, else 3
abbrev pub IsRefused : Unit → ℕ → List Token → Refusal → Type 0
IsRefused u deep ts r = refused_by u deep ts r (too_deep deep 0 ts)

-- memory ran out, or the tokens are refused
abbrev pub IsRefusedAs : Fail → Unit → ℕ → List Token → Type 0
IsRefusedAs fail.NoMemory u deep ts = ⊤
IsRefusedAs (fail.Refused r) u deep ts = IsRefused u deep ts r
