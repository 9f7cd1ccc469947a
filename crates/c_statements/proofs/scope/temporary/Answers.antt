use Rattle.std.proofs.Common.{◌∙◌}
use Rattle.c_grammar.specs.Scopes.{temporary}
use Rattle.c_statements.proofs.scope.temporary.Goals as goal

pub returns : goal.returns
unfolding temporary
returns c = let a = c.in_ok-text.ensures.ok in let b = c.as_bytes.ensures in let d = c.new.ensures in rw (← (b.value ∙ a)) d
