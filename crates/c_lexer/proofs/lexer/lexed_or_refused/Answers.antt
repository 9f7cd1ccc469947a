use Rattle.c_lexer.proofs.LexLaws.{either, not_both}
use Rattle.c_lexer.proofs.lexer.lexed_or_refused.Goals as goal

pub returns-clause-either : goal.returns-clause-either
returns-clause-either c = either

pub returns-clause-not_both : goal.returns-clause-not_both
returns-clause-not_both c = not_both
