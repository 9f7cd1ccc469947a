-- The numbers of keywords and punctuators are those of their texts.
use Rattle.std.proofs.Common.{◌≡◌, Some, refl}
use Rattle.c_lang.specs.Operators.{operator_text}
use Rattle.c_lang.specs.declared.expr.Op.{Op}
use Rattle.c_lang.specs.declared.expr.Op.TheVariants as op
use Rattle.c_grammar.specs.Punctuators.{punctuator_number}
use Rattle.c_grammar.specs.Words.{keyword_number}
use Rattle.c_grammar.specs.Tokens.{operator_number, ArePunctuators, AreKeywords}

operators : (o : Op) → punctuator_number (operator_text o) ≡ Some (operator_number o)
unfolding punctuator_number
operators op.Mul = refl
operators op.Div = refl
operators op.Rem = refl
operators op.Add = refl
operators op.Sub = refl
operators op.Lt = refl
operators op.Le = refl
operators op.Gt = refl
operators op.Ge = refl
operators op.Eq = refl
operators op.Ne = refl
operators op.And = refl
operators op.Or = refl

pub are_punctuators : ArePunctuators
unfolding punctuator_number
are_punctuators = record {
  round_open = refl;
  round_close = refl;
  brace_open = refl;
  brace_close = refl;
  square_open = refl;
  square_close = refl;
  semicolon = refl;
  comma = refl;
  equals = refl;
  minus = refl;
  star = refl;
  bang = refl;
  operators = operators;
}

pub are_keywords : AreKeywords
unfolding keyword_number
are_keywords = record {
  assert_key = refl;
  break_key = refl;
  client_in_key = refl;
  client_out_key = refl;
  dsu_choice_key = refl;
  dsu_force_key = refl;
  dsu_update_key = refl;
  dsu_updated_key = refl;
  else_key = refl;
  if_key = refl;
  int_key = refl;
  return_key = refl;
  void_key = refl;
  while_key = refl;
}
