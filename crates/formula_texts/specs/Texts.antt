-- Which text is which form, term or name.
use Rattle.std.specs.Prelude.{◌≡◌, ℕ, ◌≤◌, List, Some}
use Rattle.terms.specs.declared.sym.Sym.{Sym}
use Rattle.terms.specs.Trees.{TermTree, FormTree}
use Rattle.formula_texts.specs.declared.size.Size.{Size}
use Rattle.formula_texts.specs.declared.value.Value.{Value}
use Rattle.formula_texts.specs.declared.value.Value.TheVariants as value
use Rattle.formula_texts.specs.declared.token.Token.{Token}
use Rattle.formula_texts.specs.Tokens.{AreTokens}
use Rattle.formula_texts.specs.Grammar.{Tree, NameText, tokens_of, name_tokens, IsGrouped, size_of, value_of, sym_of}

-- how many brackets may be open at once
abbrev pub bracket_limit : ℕ
bracket_limit = 1000

-- how many operators may stand along a path
abbrev pub operator_limit : ℕ
operator_limit = 1001

-- no more than b brackets and o operators
pub record IsSmall (b o : ℕ) (s : Size) : Type 0 where
  pub brackets : s.brackets ≤ b
  pub operators : s.operators ≤ o

-- the tokens are this form or term, with at most b brackets open and at most o operators along a path
pub record AreOf (b o : ℕ) (ts : List Token) (x : Value) : Type 0 where
  pub tree : Tree
  pub tokens : tokens_of tree ≡ ts
  pub grouped : IsGrouped tree
  pub small : IsSmall b o (size_of tree)
  pub value_is : value_of tree ≡ Some x

-- the text is this form or term
pub record IsText (text : List ℕ) (x : Value) : Type 0 where
  pub tree : Tree
  pub tokens : AreTokens text (tokens_of tree)
  pub grouped : IsGrouped tree
  pub small : IsSmall bracket_limit operator_limit (size_of tree)
  pub value_is : value_of tree ≡ Some x

abbrev pub IsFormText : List ℕ → FormTree → Type 0
IsFormText text f = IsText text (value.Form f)

abbrev pub IsTermText : List ℕ → TermTree → Type 0
IsTermText text t = IsText text (value.Term t)

pub record IsNameText (text : List ℕ) (x : Sym) : Type 0 where
  pub name : NameText
  pub tokens : AreTokens text (name_tokens name)
  pub same : sym_of name ≡ x
