use Rattle.c_lexer.proofs.LexLaws.{one_list}
use Rattle.c_lexer.proofs.lexer.one_token_list.Goals as goal

pub returns : goal.returns
returns c = one_list
