-- Tokens are parsed exactly where they are a program.
use Rattle.std.proofs.Common.{◌≡◌, ℕ, List, Option, Some, None, refl, sym, ◌∙◌, subst}
use Rattle.c_lang.specs.declared.unit.Unit.{Unit}
use Rattle.c_lang.specs.declared.unit.Pos.{Pos}
use Rattle.c_lang.specs.declared.refusal.Refusal.{Refusal}
use Rattle.c_lang.specs.declared.program.Program.{Program}
use Rattle.c_grammar.specs.declared.token.Token.{Token}
use Rattle.c_expressions.specs.declared.parse_error.ParseError.{ParseError}
use Rattle.c_expressions.specs.declared.parse_error.ParseError.TheVariants as error
use Rattle.c_expressions.specs.Code.ParseSteps.{Fails}
use Rattle.c_lang.specs.Refusals.{refused_at, syntax_error}
use Rattle.c_grammar.specs.Nesting.{too_deep}
use Rattle.c_grammar.specs.Parsed.{IsParsed, IsPlace, IsSyntaxError, refused_by, IsRefused}
use Rattle.c_parser.specs.Code.UnitReading.{unit_at}
use Rattle.c_parser.proofs.UnitLaws.{is_read, is_gram, no_gram}
use Rattle.c_expressions.proofs.ExpressionSound.{some_is}

pub none_read : {Y : Type 0} (e : ParseError) (left : ℕ) (read : Option Y) → e ≡ error.Syntax left → Fails e read → read ≡ None
none_read e left read is fails = subst (λ (f : ParseError). Fails f read) is fails

module _ (u : Unit) (d : ℕ) (ts : List Token) where
  pub taken : (p : Program) → too_deep d 0 ts ≡ None → unit_at u d ts ≡ Some p → IsParsed u d ts p
  taken p nested read = record { nested = nested; gram = is_gram u d ts p read }

  pub only : (p q : Program) → unit_at u d ts ≡ Some p → IsParsed u d ts q → p ≡ q
  only p q read other = some_is p q (sym read ∙ is_read u d ts q other.gram)

  pub never : (q : Program) → unit_at u d ts ≡ None → IsParsed u d ts q → ⊥
  never q none other = no_gram u d ts none q other.gram

  pub refused : (at : Pos) (r : Refusal) → too_deep d 0 ts ≡ None → unit_at u d ts ≡ None → IsPlace u ts at → r ≡ refused_at syntax_error at → IsRefused u d ts r
  refused at r nested none place number =
      let error : IsSyntaxError u d ts (refused_at syntax_error at) = record { number = refl; place = place; no_program = no_gram u d ts none } in
      subst (λ (o : Option Pos). refused_by u d ts r o) (sym nested) (subst (λ (q : Refusal). IsSyntaxError u d ts q) (sym number) error)
