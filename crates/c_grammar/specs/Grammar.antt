-- Which tokens are a program, and which one.
use Rattle.std.specs.Prelude.{◌≡◌, ℕ, ◌≤◌, List, ◌++◌}
use Rattle.c_lang.specs.declared.unit.Unit.{Unit}
use Rattle.c_lang.specs.declared.program.Program.{Program}
use Rattle.c_grammar.specs.declared.token.Token.{Token}
use Rattle.c_grammar.specs.Units.{Parts, External, AreExternals, add_all, no_parts, unit_tokens, unit_height}

abbrev pub program_of : Parts → Program
program_of a = record { globals = a.globals; protos = a.protos; funcs = a.funcs; early = a.early_globals ++ (a.early_protos ++ a.early_funcs) }

-- the tokens are this program in this unit, and its statements are at most so high
pub record Gram (u : Unit) (deep : ℕ) (ts : List Token) (p : Program) : Type 0 where
  pub tree : List External
  pub valid : AreExternals u tree
  pub height_fits : unit_height tree ≤ deep
  pub written : unit_tokens tree ≡ ts
  pub program : program_of (add_all (no_parts u) tree) ≡ p
