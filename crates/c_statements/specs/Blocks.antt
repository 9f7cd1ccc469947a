-- The statements of a function's body: which tokens they are, and what they become.
use Rattle.std.specs.Prelude.{⊤, ◌≡◌, ℕ, ◌≤◌, false, List, ◌∷◌, ◌++◌}
use Rattle.c_lang.specs.declared.unit.Unit.{Unit}
use Rattle.c_grammar.specs.declared.token.Token.{Token}
use Rattle.c_expressions.specs.declared.parse_error.ParseError.{ParseError}
use Rattle.c_expressions.specs.declared.parse_error.ParseError.TheVariants as error
use Rattle.c_grammar.specs.Tokens.{At, mark, brace_close}
use Rattle.c_grammar.specs.Scopes.{Scope}
use Rattle.c_grammar.specs.Statements.{Pieces, pieces_tokens, pieces_height, pieces_stmts, pieces_scope, ArePieces}
use Rattle.c_statements.specs.Code.StatementReading.{Read, made}

-- The tokens are statements that are at most so high, then `}` and the rest of the answer; the
-- answer is what the statements become where so much was declared before.
pub record IsBlock (u : Unit) (deep : ℕ) (scope : Scope) (ts : List Token) (out : Read) : Type 0 where
  pub trees : Pieces
  pub valid : ArePieces u false trees
  pub height_fits : pieces_height trees ≤ deep
  pub closes : At
  pub written : ts ≡ pieces_tokens trees ++ mark brace_close closes ∷ out.rest
  pub program : made (pieces_stmts trees scope) (pieces_height trees) (pieces_scope trees scope) out.rest ≡ out

-- memory ran out, or no such statements stand at the front
abbrev pub IsNoBlock : ParseError → Unit → ℕ → Scope → List Token → Type 0
IsNoBlock error.NoMemory u deep scope ts = ⊤
IsNoBlock (error.Syntax left) u deep scope ts = (out : Read) → IsBlock u deep scope ts out → ⊥
