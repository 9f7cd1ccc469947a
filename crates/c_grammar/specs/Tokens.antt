-- Tokens at their places, and the numbers of the punctuators and keywords that the grammar has.
use Rattle.std.specs.Prelude.{◌≡◌, ℕ, Some, codes}
use Rattle.c_lang.specs.declared.unit.Pos.{Pos}
use Rattle.c_lang.specs.declared.expr.Op.{Op}
use Rattle.c_lang.specs.declared.expr.Op.TheVariants as op
use Rattle.c_lang.specs.Operators.{operator_text}
use Rattle.c_grammar.specs.Words.{keyword_number}
use Rattle.c_grammar.specs.Punctuators.{punctuator_number}
use Rattle.c_grammar.specs.declared.token.Token.{Token}
use Rattle.c_grammar.specs.declared.token.Word.{Word}
use Rattle.c_grammar.specs.declared.token.Word.TheVariants as w

-- where a token stands
pub record At : Type 0 where
  pub start : ℕ
  pub end : ℕ
  pub pos : Pos

abbrev pub token : At → Word → Token
token at what = record { what = what; start = at.start; end = at.end; pos = at.pos }

abbrev pub mark : ℕ → At → Token
mark k at = token at (w.Punct k)

abbrev pub round_open : ℕ
round_open = 0

abbrev pub round_close : ℕ
round_close = 1

abbrev pub brace_open : ℕ
brace_open = 2

abbrev pub brace_close : ℕ
brace_close = 3

abbrev pub square_open : ℕ
square_open = 4

abbrev pub square_close : ℕ
square_close = 5

abbrev pub semicolon : ℕ
semicolon = 6

abbrev pub comma : ℕ
comma = 7

abbrev pub equals : ℕ
equals = 8

abbrev pub minus : ℕ
minus = 10

abbrev pub star : ℕ
star = 11

abbrev pub bang : ℕ
bang = 14

abbrev pub operator_number : Op → ℕ
operator_number op.Add = 9
operator_number op.Sub = 10
operator_number op.Mul = 11
operator_number op.Div = 12
operator_number op.Rem = 13
operator_number op.Lt = 15
operator_number op.Gt = 16
operator_number op.Le = 17
operator_number op.Ge = 18
operator_number op.Eq = 19
operator_number op.Ne = 20
operator_number op.And = 21
operator_number op.Or = 22

abbrev pub operator : Op → At → Token
operator o at = mark (operator_number o) at

abbrev pub keyword : ℕ → At → Token
keyword k at = token at (w.Key k)

abbrev pub assert_key : ℕ
assert_key = 10

abbrev pub break_key : ℕ
break_key = 12

abbrev pub client_in_key : ℕ
client_in_key = 15

abbrev pub client_out_key : ℕ
client_out_key = 16

abbrev pub dsu_choice_key : ℕ
dsu_choice_key = 22

abbrev pub dsu_force_key : ℕ
dsu_force_key = 23

abbrev pub dsu_update_key : ℕ
dsu_update_key = 24

abbrev pub dsu_updated_key : ℕ
dsu_updated_key = 25

abbrev pub else_key : ℕ
else_key = 26

abbrev pub if_key : ℕ
if_key = 32

abbrev pub int_key : ℕ
int_key = 34

abbrev pub return_key : ℕ
return_key = 38

abbrev pub void_key : ℕ
void_key = 48

abbrev pub while_key : ℕ
while_key = 50

-- ---- the texts of these numbers

pub record ArePunctuators : Type 0 where
  pub round_open : punctuator_number (codes "(") ≡ Some round_open
  pub round_close : punctuator_number (codes ")") ≡ Some round_close
  pub brace_open : punctuator_number (codes "{") ≡ Some brace_open
  pub brace_close : punctuator_number (codes "}") ≡ Some brace_close
  pub square_open : punctuator_number (codes "[") ≡ Some square_open
  pub square_close : punctuator_number (codes "]") ≡ Some square_close
  pub semicolon : punctuator_number (codes ";") ≡ Some semicolon
  pub comma : punctuator_number (codes ",") ≡ Some comma
  pub equals : punctuator_number (codes "=") ≡ Some equals
  pub minus : punctuator_number (codes "-") ≡ Some minus
  pub star : punctuator_number (codes "*") ≡ Some star
  pub bang : punctuator_number (codes "!") ≡ Some bang
  pub operators : (o : Op) → punctuator_number (operator_text o) ≡ Some (operator_number o)

pub record AreKeywords : Type 0 where
  pub assert_key : keyword_number (codes "assert") ≡ Some assert_key
  pub break_key : keyword_number (codes "break") ≡ Some break_key
  pub client_in_key : keyword_number (codes "client_in") ≡ Some client_in_key
  pub client_out_key : keyword_number (codes "client_out") ≡ Some client_out_key
  pub dsu_choice_key : keyword_number (codes "dsu_choice") ≡ Some dsu_choice_key
  pub dsu_force_key : keyword_number (codes "dsu_force") ≡ Some dsu_force_key
  pub dsu_update_key : keyword_number (codes "dsu_update") ≡ Some dsu_update_key
  pub dsu_updated_key : keyword_number (codes "dsu_updated") ≡ Some dsu_updated_key
  pub else_key : keyword_number (codes "else") ≡ Some else_key
  pub if_key : keyword_number (codes "if") ≡ Some if_key
  pub int_key : keyword_number (codes "int") ≡ Some int_key
  pub return_key : keyword_number (codes "return") ≡ Some return_key
  pub void_key : keyword_number (codes "void") ≡ Some void_key
  pub while_key : keyword_number (codes "while") ≡ Some while_key
