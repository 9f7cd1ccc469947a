-- The program of a text.
use Rattle.std.proofs.Common.{All, ◌≡◌, ◌≤◌, ℕ, List, length, subst, arith}
use Rattle.c_lang.specs.Limits.{height_limit}
use Rattle.std.proofs.lemmas.List.Elements.{Contains-get_or}
use Rattle.c_lang.specs.Names.{Bytes}
use Rattle.c_lang.specs.declared.unit.Unit.{Unit}
use Rattle.c_lang.specs.declared.program.Program.{Program}
use Rattle.c_grammar.specs.declared.token.Token.{Token}
use Rattle.c_grammar.specs.Grammar.{Gram}
use Rattle.c_grammar.specs.Written.{Parses, MayBeWritten, IsGiven, IsWritten}
use Rattle.c_parser.proofs.UnitLaws.{one}
use Rattle.c_lexer.proofs.LexLaws.{one_list}

pub one_of_text : (u : Unit) (d e : ℕ) (bytes : Bytes) (p q : Program) → Parses u d bytes p → Parses u e bytes q → p ≡ q
one_of_text u d e bytes p q a b =
    one u d e b.tokens p q (subst (λ (ts : List Token). Gram u d ts p) (one_list u bytes a.tokens b.tokens a.lexed b.lexed) a.parsed.gram) b.parsed.gram

pub raised : (u : Unit) (d e : ℕ) (ts : List Token) (p : Program) → d ≤ e → Gram u d ts p → Gram u e ts p
raised u d e ts p within g =
    let fits = g.height_fits in record {
      tree = g.tree;
      valid = g.valid;
      height_fits = omega arith;
      written = g.written;
      program = g.program;
    }

pub written_by : (u : Unit) (deep : ℕ) (ts : List Token) (p : Program) → deep ≤ height_limit u → All (IsGiven u) ts → Gram u deep ts p → IsWritten u p
written_by u deep ts p low given gram = record { tokens = ts; given = given; gram = raised u deep (height_limit u) ts p low gram }

pub is_written : (u : Unit) (deep : ℕ) (bytes : Bytes) (p : Program) → deep ≤ height_limit u → MayBeWritten u (length bytes) → Parses u deep bytes p → IsWritten u p
is_written u deep bytes p within size a =
    written_by u deep a.tokens p within
    (λ k d lt. record { bytes = bytes; size = size; tokens = a.tokens; lexed = a.lexed; there = Contains-get_or a.tokens k d lt })
    a.parsed.gram
