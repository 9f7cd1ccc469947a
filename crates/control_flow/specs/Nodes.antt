-- A function's body as nodes, each with what follows it.
use Rattle.std.specs.Prelude.{ℕ, List}
use Rattle.c_lang.specs.declared.unit.Pos.{Pos}
use Rattle.terms.specs.declared.fact.Fact.{Fact}
use Rattle.weakest_preconditions.specs.Annotated.{Annotated}

-- The end of the body; a loop's body that has come to its end; or a statement, with the numbers of what follows it:
-- of an `if` where its condition holds and where it doesn't, of a loop its body and what follows the loop.
pub data Node : Type 0 where
  ends : Node
  turns : Pos → (invariants : List Fact) → Node
  does : Annotated → (first second : ℕ) → Node
