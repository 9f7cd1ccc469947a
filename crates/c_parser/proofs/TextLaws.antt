-- From a text to its program, stage by stage.
use Rattle.std.proofs.Common.{◌≡◌, ◌≤◌, List, length, Result, Ok, Err, sym, subst}
use Rattle.std.specs.Prelude.{MatchResult}
use Rattle.c_lang.specs.Limits.{height_limit, size_limit}
use Rattle.c_lang.specs.Names.{Bytes}
use Rattle.c_lang.specs.declared.unit.Unit.{Unit}
use Rattle.c_lang.specs.declared.refusal.Fail.{Fail}
use Rattle.c_lang.specs.declared.refusal.Fail.TheVariants as fail
use Rattle.c_lang.specs.declared.program.Program.{Program}
use Rattle.c_grammar.specs.declared.token.Token.{Token}
use Rattle.c_grammar.specs.Lexed as lexed
use Rattle.c_grammar.specs.Parsed as parsed
use Rattle.c_parser.specs.Texts.{IsProgramText, by_tokens, by_grammar, IsRefusedTextAs}

module _ (u : Unit) (text : Bytes) where
  pub tokens-refused : (f : Fail) → lexed.IsRefusedAs f u text → IsRefusedTextAs f u text
  tokens-refused fail.NoMemory h = tt
  tokens-refused (fail.Refused refusal) h = by_tokens refusal h

  pub answered : (tokens : List Token) → length text ≤ size_limit u → lexed.Lexed u text tokens → (result : Result Program Fail)
      → MatchResult result (λ program. parsed.IsParsed u (height_limit u) tokens program) (λ f. parsed.IsRefusedAs f u (height_limit u) tokens)
      → MatchResult result (λ program. IsProgramText u text program) (λ f. IsRefusedTextAs f u text)
  answered tokens within cut (Ok program) is = record { within = within; parses = record { tokens = tokens; lexed = cut; parsed = is } }
  answered tokens within cut (Err fail.NoMemory) h = tt
  answered tokens within cut (Err (fail.Refused refusal)) h = by_grammar tokens refusal within cut h

  pub only : (tokens : List Token) (result : Result Program Fail)
      → ((program : Program) → parsed.IsParsed u (height_limit u) tokens program → MatchResult result (λ answer. answer ≡ program) (λ f. f ≡ fail.NoMemory))
      → (program : Program) (is : IsProgramText u text program) → tokens ≡ is.parses.tokens → MatchResult result (λ answer. answer ≡ program) (λ f. f ≡ fail.NoMemory)
  only tokens result accepted program is same = accepted program (subst (λ (ts : List Token). parsed.IsParsed u (height_limit u) ts program) (sym same) is.parses.parsed)
