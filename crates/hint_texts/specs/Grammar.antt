-- The grammar of hints texts, on tokens: what parts of clauses, clauses and the beginnings of items stand for.
-- A function `number` gives each function of the program its number, and 0 to every other name.
use Rattle.std.specs.Prelude.{◌≡◌, ℕ, pos, ◌≤◌, List, [], ◌∷◌, ◌++◌, None, Some, codes}
use Rattle.c_lang.specs.Names.{Bytes}
use Rattle.terms.specs.declared.sym.Sym.{Sym}
use Rattle.terms.specs.declared.fact.Fact.TheVariants as fact
use Rattle.terms.specs.Trees as tree
use Rattle.terms.specs.Trees.{TermTree, FormTree}
use Rattle.terms.specs.Replacing.{number_by, replaced_form}
use Rattle.formula_texts.specs.declared.token.Token.{Token as FormulaToken}
use Rattle.formula_texts.specs.declared.token.Token.TheVariants as token
use Rattle.formula_texts.specs.declared.token.Mark.{Mark}
use Rattle.formula_texts.specs.declared.token.Mark.TheVariants as mark
use Rattle.formula_texts.specs.declared.value.Value.{Value}
use Rattle.formula_texts.specs.declared.value.Value.TheVariants as value
use Rattle.formula_texts.specs.Texts.{AreOf}
use Rattle.hint_texts.specs.declared.token.Token.{Token}
use Rattle.hint_texts.specs.declared.token.Kind.{Kind}
use Rattle.hint_texts.specs.declared.token.Kind.TheVariants as kind
use Rattle.hint_texts.specs.declared.token.Closing.TheVariants as closing
use Rattle.hint_texts.specs.declared.hints.Quantified.{Quantified}
use Rattle.hint_texts.specs.declared.hints.ClauseKind.TheVariants as clause
use Rattle.hint_texts.specs.declared.hints.Head.TheVariants as head
use Rattle.hint_texts.specs.declared.hints.Statement.{Statement}
use Rattle.hint_texts.specs.declared.hints.Statement.TheVariants as statement
use Rattle.hint_texts.specs.Parts.{AreParts}
use Rattle.hint_texts.specs.Tokens.{number_limit}

-- how many brackets may be open at once in a formula
abbrev pub bracket_limit : ℕ
bracket_limit = 64

-- how many operators may stand along a path of a formula
abbrev pub operator_limit : ℕ
operator_limit = 64

abbrev pub at : ℕ → Kind → Token
at line k = record { kind = k; line = line }

abbrev pub mark_kind : Mark → Kind
mark_kind m = kind.Part (token.Mark m)

-- ---- formulas

-- the name of a global's value at entry
abbrev pub entry_base : Bytes → Bytes
entry_base g = codes "pre(" ++ (g ++ codes ")")

-- a `(` comes next
abbrev pub Opens : List Token → Type 0
Opens [] = ⊥
Opens (t ∷ ts) = t.kind ≡ mark_kind mark.RoundOpen

-- Which token of a formula these tokens are: one that stands for itself; a name or a cell; `pre(g)`, which is one name;
-- or `&f`, which is the function's number. `pre` is a name where no `(` follows.
pub data IsPart (number : Bytes → ℕ) (rest : List Token) : List Token → FormulaToken → Type 0 where
  part : (l : ℕ) (t : FormulaToken) → IsPart number rest (at l (kind.Part t) ∷ []) t
  cell : (l : ℕ) (x : Bytes) → IsPart number rest (at l (kind.Cell x) ∷ []) (token.Base x)
  name : (l : ℕ) (x : Bytes) → (x ≡ codes "pre" → Opens rest → ⊥) → IsPart number rest (at l (kind.Name x) ∷ []) (token.Base x)
  entry : (l m n o : ℕ) (g : Bytes)
      → IsPart number rest (at l (kind.Name (codes "pre")) ∷ at m (mark_kind mark.RoundOpen) ∷ at n (kind.Name g) ∷ at o (mark_kind mark.RoundClose) ∷ []) (token.Base (entry_base g))
  function : (l m : ℕ) (f : Bytes) → 1 ≤ number f
      → IsPart number rest (at l kind.Function ∷ at m (kind.Name f) ∷ []) (token.Number (pos (number f)))

-- the tokens are this form or term
pub record IsFormula (number : Bytes → ℕ) (ts : List Token) (x : Value) : Type 0 where
  pub parts : List FormulaToken
  pub cut : AreParts (IsPart number) ts parts
  pub value : AreOf bracket_limit operator_limit parts x

abbrev pub IsForm : (Bytes → ℕ) → List Token → FormTree → Type 0
IsForm number ts f = IsFormula number ts (value.Form f)

abbrev pub IsSum : (Bytes → ℕ) → List Token → TermTree → Type 0
IsSum number ts t = IsFormula number ts (value.Term t)

-- ---- facts

-- the number that a fact binds
abbrev pub bound : Sym
bound = record { base = codes "$"; count = 0 }

abbrev pub plain_fact : FormTree → Quantified
plain_fact f = record { name = None; fact = fact.Plain f }

-- the form with the bound number wherever x stands as a number
abbrev pub with_bound : Bytes → FormTree → FormTree
with_bound x f = replaced_form (number_by (record { base = x; count = 0 }) (tree.name bound)) f

-- for every x from lo up to hi
abbrev pub every : Bytes → TermTree → TermTree → FormTree → Quantified
every x lo hi f = record { name = Some x; fact = fact.All bound lo hi (with_bound x f) }

-- `forall` with a name behind it
abbrev pub Quantifies : List Token → Type 0
Quantifies ts = (l m : ℕ) × (x : Bytes) × (rest : List Token) × (ts ≡ at l (kind.Name (codes "forall")) ∷ at m (kind.Name x) ∷ rest)

pub data IsFact (number : Bytes → ℕ) : List Token → Quantified → Type 0 where
  plain : (ts : List Token) (f : FormTree) → (Quantifies ts → ⊥) → IsForm number ts f → IsFact number ts (plain_fact f)
  quantified : (l m n o p : ℕ) (x : Bytes) (first last body : List Token) (lo hi : TermTree) (f : FormTree)
      → IsSum number first lo → IsSum number last hi → IsForm number body f
      → IsFact number
      (at l (kind.Name (codes "forall")) ∷ at m (kind.Name x) ∷ at n (kind.Name (codes "in")) ∷ first
      ++ (at o (kind.Closing closing.Range) ∷ last ++ (at p (kind.Closing closing.Colon) ∷ body)))
      (every x lo hi f)

-- ---- clauses, and the beginnings of items

-- a comma and a name
pub data IsNext (rest : List Token) : List Token → Bytes → Type 0 where
  next : (l m : ℕ) (x : Bytes) → IsNext rest (at l (mark_kind mark.Comma) ∷ at m (kind.Name x) ∷ []) x

-- names with commas between, or none
pub data AreNames : List Token → List Bytes → Type 0 where
  none : AreNames [] []
  some : (l : ℕ) (x : Bytes) (ts : List Token) (xs : List Bytes) → AreParts IsNext ts xs → AreNames (at l (kind.Name x) ∷ ts) (x ∷ xs)

-- the tokens of a clause
abbrev pub clause_tokens : ℕ → Bytes → List Token → ℕ → List Token
clause_tokens l word ts m = at l (kind.Name word) ∷ ts ++ (at m (kind.Closing closing.Semicolon) ∷ [])

pub data IsStatement (number : Bytes → ℕ) (rest : List Token) : List Token → Statement → Type 0 where
  both : (l m : ℕ) (f : Bytes) → IsStatement number rest (at l (kind.Name (codes "both")) ∷ at m (kind.Name f) ∷ []) (statement.Begins l (head.Both f))
  one : (l m : ℕ) (f : Bytes) → IsStatement number rest (at l (kind.Name (codes "at")) ∷ at m (kind.Name f) ∷ []) (statement.Begins l (head.At f))
  loop : (l m n : ℕ) (f : Bytes) (k : ℕ) → k ≤ number_limit
      → IsStatement number rest (at l (kind.Name (codes "loop")) ∷ at m (kind.Name f) ∷ at n (kind.Part (token.Number (pos k))) ∷ []) (statement.Begins l (head.Loop f k))
  requires : (l m : ℕ) (ts : List Token) (q : Quantified) → IsFact number ts q
      → IsStatement number rest (clause_tokens l (codes "requires") ts m) (statement.Says (record { line = l; kind = clause.Requires q }))
  ensures : (l m : ℕ) (ts : List Token) (q : Quantified) → IsFact number ts q
      → IsStatement number rest (clause_tokens l (codes "ensures") ts m) (statement.Says (record { line = l; kind = clause.Ensures q }))
  invariant : (l m : ℕ) (ts : List Token) (q : Quantified) → IsFact number ts q
      → IsStatement number rest (clause_tokens l (codes "invariant") ts m) (statement.Says (record { line = l; kind = clause.Invariant q }))
  assigns : (l m : ℕ) (ts : List Token) (xs : List Bytes) → AreNames ts xs
      → IsStatement number rest (clause_tokens l (codes "assigns") ts m) (statement.Says (record { line = l; kind = clause.Assigns xs }))
