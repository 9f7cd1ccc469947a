use Rattle.c_lexer.proofs.WordNumbers.{are_punctuators}
use Rattle.c_lexer.proofs.punctuator.punctuators_have_numbers.Goals as goal

pub returns : goal.returns
returns c = are_punctuators
