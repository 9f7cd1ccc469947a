-- Reading whole texts.
use Rattle.std.specs.Prelude.{List, Option}
use Rattle.c_lang.specs.Names.{Bytes}
use Rattle.terms.specs.declared.sym.Sym.{Sym}
use Rattle.terms.specs.Trees.{TermTree, FormTree}
use Rattle.formula_texts.specs.declared.token.Token.{Token}
use Rattle.formula_texts.specs.declared.value.Value.{Value}
use Rattle.formula_texts.specs.Texts.{bracket_limit, operator_limit}
use Rattle.formula_texts.specs.Grammar.{◌>>=◌, term_in, form_in}
use Rattle.formula_texts.specs.Code.Lexing.{tokens_in}
use Rattle.formula_texts.specs.Code.Reading.{value_in, name_in}

-- the form or term of a text's tokens
abbrev pub text_value : List Token → Option Value
text_value = value_in bracket_limit operator_limit

abbrev pub form_of : Bytes → Option FormTree
form_of text = tokens_in text >>= λ tokens. text_value tokens >>= form_in

abbrev pub term_of : Bytes → Option TermTree
term_of text = tokens_in text >>= λ tokens. text_value tokens >>= term_in

abbrev pub name_of : Bytes → Option Sym
name_of text = tokens_in text >>= name_in
