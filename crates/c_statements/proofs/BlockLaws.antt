-- A function's body is read exactly where it is in the grammar.
use Rattle.std.proofs.Common.{◌≡◌, ℕ, ◌+◌, ◌<◌, false, List, [], ◌∷◌, ◌++◌, length, Some, sym, ap, ◌∙◌, subst, arith}
use Rattle.std.specs.Prelude.{Result, Ok, Err, MatchResult}
use Rattle.std.proofs.lemmas.List.{length-append}
use Rattle.c_lang.specs.declared.unit.Unit.{Unit}
use Rattle.c_grammar.specs.declared.token.Token.{Token}
use Rattle.c_expressions.specs.declared.parse_error.ParseError.{ParseError}
use Rattle.c_expressions.specs.declared.parse_error.ParseError.TheVariants as error
use Rattle.c_grammar.specs.Tokens.{mark, brace_close}
use Rattle.c_grammar.specs.Scopes.{Scope}
use Rattle.c_expressions.specs.Code.ParseSteps.{Gives}
use Rattle.c_grammar.specs.Statements as g
use Rattle.c_statements.specs.Code.StatementReading.{Read, made, nothing, items, stmt}
use Rattle.c_statements.specs.Blocks.{IsBlock, IsNoBlock}
use Rattle.c_expressions.proofs.ExpressionSound.{some_is}
use Rattle.c_statements.proofs.StatementComplete.{count, count_fits, reads_pieces}
use Rattle.c_statements.proofs.StatementSound.{pieces-read, reads_pieces_only}

abbrev pub reading : Unit → ℕ → Scope → List Token → ℕ → Read → Type 0
reading u d sc ts k out = items (stmt u d) d k false (nothing sc ts) ≡ Some out

pub is_block : (u : Unit) (d : ℕ) (sc : Scope) (ts : List Token) (out : Read) → reading u d sc ts (length ts + 1) out → IsBlock u d sc ts out
is_block u d sc ts out q =
    let p = pieces-read u (stmt u d) d (reads_pieces_only u d) (length ts + 1) false (nothing sc ts) out q in
    record {
      trees = p.trees;
      valid = p.valid;
      height_fits = p.high;
      closes = p.ends;
      written = p.parts;
      program = ap (λ (n : ℕ). made (g.pieces_stmts p.trees sc) n (g.pieces_scope p.trees sc) out.rest) (omega arith) ∙ p.same;
    }

pub is_read : (u : Unit) (d : ℕ) (sc : Scope) (ts : List Token) (out : Read) → IsBlock u d sc ts out → reading u d sc ts (length ts + 1) out
is_read u d sc ts out b =
    let tail = mark brace_close b.closes ∷ out.rest in
    let whole = g.pieces_tokens b.trees ++ tail in
    let turns : count b.trees < length whole + 1 = omega (arith, count_fits b.trees, length-append (g.pieces_tokens b.trees) tail) in
    let all = reads_pieces b.trees u d (length whole + 1) false (nothing sc []) b.closes out.rest b.valid b.height_fits turns in
    let same = ap (λ (n : ℕ). made (g.pieces_stmts b.trees sc) n (g.pieces_scope b.trees sc) out.rest) (omega arith) ∙ b.program in
    subst (λ (us : List Token). reading u d sc us (length us + 1) out) (sym b.written) (all ∙ ap (λ (x : Read). Some x) same)

-- tokens are at most one body
pub one : (u : Unit) (d : ℕ) (sc : Scope) (ts : List Token) (a b : Read) → IsBlock u d sc ts a → IsBlock u d sc ts b → a ≡ b
one u d sc ts a b p q = some_is a b (sym (is_read u d sc ts a p) ∙ is_read u d sc ts b q)

module _ {X : Type 0} (view : X → Read) (u : Unit) (d : ℕ) (sc : Scope) (ts : List Token) where
  pub answers : (r : Result X ParseError) → Gives view r (items (stmt u d) d (length ts + 1) false (nothing sc ts))
      → MatchResult r (λ x. IsBlock u d sc ts (view x)) (λ f. IsNoBlock f u d sc ts)
  answers (Ok x) given = is_block u d sc ts (view x) given
  answers (Err error.NoMemory) given = tt
  answers (Err (error.Syntax left)) given = λ out b. let read = is_read u d sc ts out b in absurd cc
