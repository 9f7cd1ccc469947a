use Rattle.std.proofs.Common.{◌≡◌, ◌||◌, map, drop}
use Rattle.c_lang.specs.Names.{Bytes}
use Rattle.c_lang.specs.Trees.{statement_of, statements}
use Rattle.expression_conditions.specs.Candidates.{body_names}
use Rattle.expression_conditions.specs.Code.Sets.{has}
use Rattle.expression_conditions.proofs.values.+add_in_statement.Given as goal

abbrev pub invariant-add_in_body-loop-stmt : goal.invariant-add_in_body-loop-stmt
invariant-add_in_body-loop-stmt l = (x : Bytes)
    → (body_names x (statements (map statement_of l.stmts)) || has l.initial.set x) ≡ (body_names x (statements (map statement_of (drop l.stmt-index l.stmts))) || has l.set x)
