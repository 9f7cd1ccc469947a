use Rattle.c_lexer.proofs.WordNumbers.{are_keywords}
use Rattle.c_lexer.proofs.keyword.keywords_have_numbers.Goals as goal

pub returns : goal.returns
returns c = are_keywords
