use Rattle.c_lexer.proofs.LexLaws.{one_reason}
use Rattle.c_lexer.proofs.lexer.one_refusal.Goals as goal

pub returns : goal.returns
returns c = one_reason
