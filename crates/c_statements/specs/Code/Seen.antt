-- What the readers' answers are, with the tokens behind their slices.
use Rattle.std.specs.Prelude.{ℕ, ◌+◌, ◌≤◌, List, length}
use Rattle.c_grammar.specs.declared.token.Token.{Token}
use Rattle.c_statements.specs.declared.simple.Parsed as parsed
use Rattle.c_statements.specs.declared.pick.One as one
use Rattle.c_grammar.specs.Scopes.{Scope}
use Rattle.c_statements.specs.Code.StatementReading.{Read, One}

abbrev pub seen_one : one.One → One
seen_one x = record { stmt = x.stmt; height = x.height; rest = x.rest.now }

-- with the scope behind it
abbrev pub seen_read : Scope → parsed.Parsed → Read
seen_read scope x = record { stmts = x.stmts; height = x.height; is_open = x.is_open; scope = scope; rest = x.rest.now }

-- what a reader of a statement leaves
pub record IsWithin (d : ℕ) (before after : Scope) (ts : List Token) (x : parsed.Parsed) : Type 0 where
  pub high : x.height ≤ d
  pub shorter : length x.rest.now ≤ length ts
  pub counted : after.count + length x.rest.now ≤ before.count + length ts
