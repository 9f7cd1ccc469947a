-- What is written is read.
use Rattle.std.specs.Prelude.{◌≡◌, ℕ, ℤ, pos, negsuc, suc, ◌+◌, ◌≤◌, max, Bool, true, false, ◌&&◌, if◌then◌else◌, nat_le, unsigned_abs, List, [], ◌∷◌, ◌++◌, Option, Some, codes}
use Rattle.std.proofs.Common.{refl, ap, subst, ◌∙◌, append_assoc, append-nil, arith}
use Rattle.std.proofs.lemmas.Bool.{leb-true}
use Rattle.c_lang.specs.Names.{Bytes}
use Rattle.c_lexer.proofs.Cases.{and_both}
use Rattle.c_grammar.specs.Bytes.{is_in_word, IsEnd}
use Rattle.terms.specs.declared.sym.Sym.{Sym}
use Rattle.terms.specs.Trees as tree
use Rattle.terms.specs.Trees.{TermTree, ArrayTree, FormTree}
use Rattle.formula_texts.specs.declared.token.Token.{Token}
use Rattle.formula_texts.specs.declared.token.Token.TheVariants as token
use Rattle.formula_texts.specs.declared.token.Operator.{Operator}
use Rattle.formula_texts.specs.declared.token.Operator.TheVariants as op
use Rattle.formula_texts.specs.declared.token.Mark.TheVariants as mark
use Rattle.formula_texts.specs.declared.value.Value.{Value}
use Rattle.formula_texts.specs.declared.value.Value.TheVariants as value
use Rattle.formula_texts.specs.Tokens.{number_limit, AreTokens}
use Rattle.formula_texts.specs.Tokens as words
use Rattle.formula_texts.specs.Grammar as grammar
use Rattle.formula_texts.specs.Grammar.{Tree, Row, tokens_of, row_tokens, level, binds, IsGrouped, IsGroupedRow, size_of, row_size, ◌>>=◌, apply, of_terms, value_of, row_of}
use Rattle.formula_texts.specs.Texts.{bracket_limit, IsText, IsFormText, IsTermText, IsNameText}
use Rattle.formula_texts.specs.Written.{in_brackets, is_compound_term, is_compound_form, term_text, array_text, form_text, name_text, term_fits, array_fits, form_fits, term_brackets, array_brackets, form_brackets, has_form_text, has_term_text, has_name_text}
use Rattle.formula_texts.proofs.OperatorLaws.{level_small, level_positive}
use Rattle.formula_texts.proofs.WrittenTokens.{Chain, both_chains, round_opens, round_closes, square_opens, square_closes, comma_space, true_word, false_word, truth_begins, store_begins, not_space, plus_sign, minus_sign, times_sign, slash_sign, percent_sign, at_most_sign, equal_sign, and_word, or_word, natural_text, negative_text, name_chain}

-- A text of the value: e operators more than brackets stand along a path, and its own binds at least so tightly.
record HasTree (text : Bytes) (v : Value) (b e l : ℕ) : Type 0 where
  pub tree : Tree
  pub grouped : IsGrouped tree
  pub value_is : value_of tree ≡ Some v
  pub brackets : (size_of tree).brackets ≤ b
  pub operators : (size_of tree).operators ≤ b + e
  pub binds_so : l ≤ binds tree
  pub chain : (rest : Bytes) → IsEnd is_in_word rest → Chain text rest (tokens_of tree)

record HasRow (text : Bytes) (v : ArrayTree) (b : ℕ) : Type 0 where
  pub tree : Row
  pub grouped : IsGroupedRow tree
  pub value_is : row_of tree ≡ Some v
  pub brackets : (row_size tree).brackets ≤ b
  pub operators : (row_size tree).operators ≤ b
  pub chain : (rest : Bytes) → IsEnd is_in_word rest → Chain text rest (row_tokens tree)

-- a compound part in brackets
as_part : (c : Bool) (text : Bytes) (v : Value) (b : ℕ) → HasTree text v b (if c then 1 else 0) (if c then 1 else 7) → HasTree (if c then in_brackets text else text) v (if c then 1 + b else b) 0 7
as_part false text v b h = h
as_part true text v b h = record {
  tree = grammar.brackets h.tree;
  grouped = h.grouped;
  value_is = h.value_is;
  brackets = omega (arith, h.brackets);
  operators = omega (arith, h.operators);
  binds_so = omega arith;
  chain = λ rest end. both_chains round_opens (both_chains (h.chain (codes ")" ++ rest) refl) round_closes);
}

-- two parts with an operator between
infix_text : (o : Operator) (x z y : Bytes) (a b v : Value) (m n : ℕ) → HasTree x a m 0 7 → HasTree y b n 0 7 → apply o a b ≡ Some v
    → ((rest : Bytes) → Chain z rest (token.Operator o ∷ [])) → ((rest : Bytes) → IsEnd is_in_word ((z ++ y) ++ rest)) → HasTree (x ++ (z ++ y)) v (max m n) 1 1
infix_text o x z y a b v m n f g e sign ends = record {
  tree = grammar.joined f.tree o g.tree;
  grouped = (omega (arith, level_small o, f.binds_so), omega (arith, level_small o, g.binds_so), f.grouped, g.grouped);
  value_is = ap (λ (p : Option Value). p >>= λ w. value_of g.tree >>= apply o w) f.value_is ∙ ap (λ (p : Option Value). p >>= apply o a) g.value_is ∙ e;
  brackets = omega (arith, f.brackets, g.brackets);
  operators = omega (arith, f.operators, g.operators);
  binds_so = level_positive o;
  chain = λ rest end. both_chains (f.chain ((z ++ y) ++ rest) (ends rest)) (both_chains (sign (y ++ rest)) (g.chain rest end));
}

-- two terms in brackets
quotient_text : (x y : Bytes) (t u : TermTree) (m n : ℕ) → HasTree x (value.Term t) m 0 7 → HasTree y (value.Term u) n 0 7
    → HasTree (in_brackets (x ++ (codes " / " ++ y))) (value.Term (tree.divided t u)) (1 + max m n) 0 7
quotient_text x y t u m n f g = record {
  tree = grammar.quotient f.tree g.tree;
  grouped = (f.grouped, g.grouped);
  value_is = ap (λ (p : Option Value). p >>= λ w. value_of g.tree >>= of_terms (grammar.term tree.divided) w) f.value_is ∙ ap (λ (p : Option Value). p >>= of_terms (grammar.term tree.divided) (value.Term t)) g.value_is;
  brackets = omega (arith, f.brackets, g.brackets);
  operators = omega (arith, f.operators, g.operators);
  binds_so = omega arith;
  chain = λ rest end. both_chains round_opens
      (subst (λ (ts : List Token). Chain ((x ++ (codes " / " ++ y)) ++ codes ")") rest ts) (append_assoc (tokens_of f.tree) (token.Mark mark.Slash ∷ tokens_of g.tree) (token.Mark mark.RoundClose ∷ []))
      (both_chains (both_chains (f.chain ((codes " / " ++ y) ++ (codes ")" ++ rest)) refl) (both_chains slash_sign (g.chain (codes ")" ++ rest) refl))) round_closes));
}

remainder_text : (x y : Bytes) (t u : TermTree) (m n : ℕ) → HasTree x (value.Term t) m 0 7 → HasTree y (value.Term u) n 0 7
    → HasTree (in_brackets (x ++ (codes " % " ++ y))) (value.Term (tree.remainder t u)) (1 + max m n) 0 7
remainder_text x y t u m n f g = record {
  tree = grammar.remainder f.tree g.tree;
  grouped = (f.grouped, g.grouped);
  value_is = ap (λ (p : Option Value). p >>= λ w. value_of g.tree >>= of_terms (grammar.term tree.remainder) w) f.value_is ∙ ap (λ (p : Option Value). p >>= of_terms (grammar.term tree.remainder) (value.Term t)) g.value_is;
  brackets = omega (arith, f.brackets, g.brackets);
  operators = omega (arith, f.operators, g.operators);
  binds_so = omega arith;
  chain = λ rest end. both_chains round_opens
      (subst (λ (ts : List Token). Chain ((x ++ (codes " % " ++ y)) ++ codes ")") rest ts) (append_assoc (tokens_of f.tree) (token.Mark mark.Percent ∷ tokens_of g.tree) (token.Mark mark.RoundClose ∷ []))
      (both_chains (both_chains (f.chain ((codes " % " ++ y) ++ (codes ")" ++ rest)) refl) (both_chains percent_sign (g.chain (codes ")" ++ rest) refl))) round_closes));
}

element_text : (x y : Bytes) (a : ArrayTree) (i : TermTree) (m n : ℕ) → HasRow x a m → HasTree y (value.Term i) n 0 7 → HasTree (x ++ (codes "[" ++ (y ++ codes "]"))) (value.Term (tree.read a i)) (max m (1 + n)) 0 7
element_text x y a i m n f g = record {
  tree = grammar.element f.tree g.tree;
  grouped = (f.grouped, g.grouped);
  value_is = ap (λ (p : Option ArrayTree). p >>= λ w. value_of g.tree >>= grammar.element_of w) f.value_is ∙ ap (λ (p : Option Value). p >>= grammar.element_of a) g.value_is;
  brackets = omega (arith, f.brackets, g.brackets);
  operators = omega (arith, f.operators, g.operators);
  binds_so = omega arith;
  chain = λ rest end. both_chains (f.chain ((codes "[" ++ (y ++ codes "]")) ++ rest) refl) (both_chains square_opens (both_chains (g.chain (codes "]" ++ rest) refl) square_closes));
}

stored_text : (x y z : Bytes) (a : ArrayTree) (i t : TermTree) (m n k : ℕ) → HasRow x a m → HasTree y (value.Term i) n 0 7 → HasTree z (value.Term t) k 0 7
    → HasRow (codes "$store(" ++ (x ++ (codes ", " ++ (y ++ (codes ", " ++ (z ++ codes ")")))))) (tree.stored a i t) (1 + max m (max n k))
stored_text x y z a i t m n k f g h = record {
  tree = grammar.stored f.tree g.tree h.tree;
  grouped = (f.grouped, g.grouped, h.grouped);
  value_is = ap (λ (p : Option ArrayTree). p >>= λ w. value_of g.tree >>= λ u. value_of h.tree >>= grammar.stored_of w u) f.value_is
      ∙ ap (λ (p : Option Value). p >>= λ u. value_of h.tree >>= grammar.stored_of a u) g.value_is ∙ ap (λ (p : Option Value). p >>= grammar.stored_of a (value.Term i)) h.value_is;
  brackets = omega (arith, f.brackets, g.brackets, h.brackets);
  operators = omega (arith, f.operators, g.operators, h.operators);
  chain = λ rest end. both_chains store_begins (both_chains (f.chain ((codes ", " ++ (y ++ (codes ", " ++ (z ++ codes ")")))) ++ rest) refl)
      (both_chains comma_space (both_chains (g.chain ((codes ", " ++ (z ++ codes ")")) ++ rest) refl) (both_chains comma_space (both_chains (h.chain (codes ")" ++ rest) refl) round_closes)))));
}

truth_text : (x : Bytes) (f : FormTree) (m : ℕ) → HasTree x (value.Form f) m 0 7 → HasTree (codes "$truth(" ++ (x ++ codes ")")) (value.Term (tree.truth f)) (1 + m) 0 7
truth_text x f m h = record {
  tree = grammar.truth h.tree;
  grouped = h.grouped;
  value_is = ap (λ (p : Option Value). p >>= grammar.truth_of) h.value_is;
  brackets = omega (arith, h.brackets);
  operators = omega (arith, h.operators);
  binds_so = omega arith;
  chain = λ rest end. both_chains truth_begins (both_chains (h.chain (codes ")" ++ rest) refl) round_closes);
}

denial_text : (x : Bytes) (f : FormTree) (m : ℕ) → HasTree x (value.Form f) m 0 7 → HasTree (codes "not " ++ x) (value.Form (tree.denied f)) m 1 1
denial_text x f m h = record {
  tree = grammar.denial h.tree;
  grouped = (omega (arith, h.binds_so), h.grouped);
  value_is = ap (λ (p : Option Value). p >>= grammar.denied) h.value_is;
  brackets = omega (arith, h.brackets);
  operators = omega (arith, h.operators);
  binds_so = omega arith;
  chain = λ rest end. both_chains not_space (h.chain rest end);
}

number_text : (z : ℤ) → nat_le (unsigned_abs z) number_limit ≡ true → HasTree (term_text (tree.number z)) (value.Term (tree.number z)) 0 0 7
number_text (pos n) h = record {
  tree = grammar.number n;
  grouped = tt;
  value_is = refl;
  brackets = omega arith;
  operators = omega arith;
  binds_so = omega arith;
  chain = λ rest end. natural_text n (leb-true _ _ h) end;
}
number_text (negsuc n) h = record {
  tree = grammar.negative (suc n);
  grouped = tt;
  value_is = refl;
  brackets = omega arith;
  operators = omega arith;
  binds_so = omega arith;
  chain = λ rest end. negative_text n (leb-true _ _ h) end;
}

name_tree : (base : Bytes) (count : ℕ) → has_name_text (record { base = base; count = count }) ≡ true → HasTree (name_text (record { base = base; count = count })) (value.Term (tree.name (record { base = base; count = count }))) 0 0 7
name_tree base count h =
    let n = name_chain base count h in
    record { tree = grammar.name n.0; grouped = tt; value_is = ap (λ (s : Sym). Some (value.Term (tree.name s))) n.1; brackets = omega arith; operators = omega arith; binds_so = omega arith; chain = n.2 }

array_tree : (base : Bytes) (count : ℕ) → has_name_text (record { base = base; count = count }) ≡ true → HasRow (name_text (record { base = base; count = count })) (tree.array (record { base = base; count = count })) 0
array_tree base count h =
    let n = name_chain base count h in
    record { tree = grammar.array n.0; grouped = tt; value_is = ap (λ (s : Sym). Some (tree.array s)) n.1; brackets = omega arith; operators = omega arith; chain = n.2 }

mutual
  term_tree : (t : TermTree) → term_fits t ≡ true → HasTree (term_text t) (value.Term t) (term_brackets t) (if is_compound_term t then 1 else 0) (if is_compound_term t then 1 else 7)
  term_tree (tree.number z) h = number_text z h
  term_tree (tree.name x) h = name_tree x.base x.count h
  term_tree (tree.plus t u) h =
      let both = and_both (term_fits t) (term_fits u) h in
      infix_text op.Plus _ (codes " + ") _ (value.Term t) (value.Term u) (value.Term (tree.plus t u)) _ _ (as_part (is_compound_term t) (term_text t) (value.Term t) (term_brackets t) (term_tree t both.0)) (as_part (is_compound_term u) (term_text u) (value.Term u) (term_brackets u) (term_tree u both.1)) refl (λ r. plus_sign) (λ r. refl)
  term_tree (tree.minus t u) h =
      let both = and_both (term_fits t) (term_fits u) h in
      infix_text op.Minus _ (codes " - ") _ (value.Term t) (value.Term u) (value.Term (tree.minus t u)) _ _ (as_part (is_compound_term t) (term_text t) (value.Term t) (term_brackets t) (term_tree t both.0)) (as_part (is_compound_term u) (term_text u) (value.Term u) (term_brackets u) (term_tree u both.1)) refl (λ r. minus_sign) (λ r. refl)
  term_tree (tree.times t u) h =
      let both = and_both (term_fits t) (term_fits u) h in
      infix_text op.Times _ (codes " * ") _ (value.Term t) (value.Term u) (value.Term (tree.times t u)) _ _ (as_part (is_compound_term t) (term_text t) (value.Term t) (term_brackets t) (term_tree t both.0)) (as_part (is_compound_term u) (term_text u) (value.Term u) (term_brackets u) (term_tree u both.1)) refl (λ r. times_sign) (λ r. refl)
  term_tree (tree.divided t u) h =
      let both = and_both (term_fits t) (term_fits u) h in
      quotient_text _ _ t u _ _ (as_part (is_compound_term t) (term_text t) (value.Term t) (term_brackets t) (term_tree t both.0)) (as_part (is_compound_term u) (term_text u) (value.Term u) (term_brackets u) (term_tree u both.1))
  term_tree (tree.remainder t u) h =
      let both = and_both (term_fits t) (term_fits u) h in
      remainder_text _ _ t u _ _ (as_part (is_compound_term t) (term_text t) (value.Term t) (term_brackets t) (term_tree t both.0)) (as_part (is_compound_term u) (term_text u) (value.Term u) (term_brackets u) (term_tree u both.1))
  term_tree (tree.read a i) h =
      let both = and_both (array_fits a) (term_fits i) h in
      element_text _ _ a i _ _ (row_tree a both.0) (as_part (is_compound_term i) (term_text i) (value.Term i) (term_brackets i) (term_tree i both.1))
  term_tree (tree.truth f) h = truth_text _ f _ (as_part (is_compound_form f) (form_text f) (value.Form f) (form_brackets f) (form_tree f h))

  row_tree : (a : ArrayTree) → array_fits a ≡ true → HasRow (array_text a) a (array_brackets a)
  row_tree (tree.array x) h = array_tree x.base x.count h
  row_tree (tree.stored a i t) h =
      let first = and_both (array_fits a) (term_fits i && term_fits t) h in
      let both = and_both (term_fits i) (term_fits t) first.1 in
      stored_text _ _ _ a i t _ _ _ (row_tree a first.0) (as_part (is_compound_term i) (term_text i) (value.Term i) (term_brackets i) (term_tree i both.0)) (as_part (is_compound_term t) (term_text t) (value.Term t) (term_brackets t) (term_tree t both.1))

  form_tree : (f : FormTree) → form_fits f ≡ true → HasTree (form_text f) (value.Form f) (form_brackets f) (if is_compound_form f then 1 else 0) (if is_compound_form f then 1 else 7)
  form_tree tree.always h = record { tree = grammar.always; grouped = tt; value_is = refl; brackets = omega arith; operators = omega arith; binds_so = omega arith; chain = λ rest end. true_word end }
  form_tree tree.never h = record { tree = grammar.never; grouped = tt; value_is = refl; brackets = omega arith; operators = omega arith; binds_so = omega arith; chain = λ rest end. false_word end }
  form_tree (tree.at_most t u) h =
      let both = and_both (term_fits t) (term_fits u) h in
      infix_text op.AtMost _ (codes " <= ") _ (value.Term t) (value.Term u) (value.Form (tree.at_most t u)) _ _ (as_part (is_compound_term t) (term_text t) (value.Term t) (term_brackets t) (term_tree t both.0)) (as_part (is_compound_term u) (term_text u) (value.Term u) (term_brackets u) (term_tree u both.1)) refl (λ r. at_most_sign) (λ r. refl)
  form_tree (tree.equal t u) h =
      let both = and_both (term_fits t) (term_fits u) h in
      infix_text op.Equal _ (codes " == ") _ (value.Term t) (value.Term u) (value.Form (tree.equal t u)) _ _ (as_part (is_compound_term t) (term_text t) (value.Term t) (term_brackets t) (term_tree t both.0)) (as_part (is_compound_term u) (term_text u) (value.Term u) (term_brackets u) (term_tree u both.1)) refl (λ r. equal_sign) (λ r. refl)
  form_tree (tree.denied f) h = denial_text _ f _ (as_part (is_compound_form f) (form_text f) (value.Form f) (form_brackets f) (form_tree f h))
  form_tree (tree.both f g) h =
      let both = and_both (form_fits f) (form_fits g) h in
      infix_text op.And _ (codes " and ") _ (value.Form f) (value.Form g) (value.Form (tree.both f g)) _ _ (as_part (is_compound_form f) (form_text f) (value.Form f) (form_brackets f) (form_tree f both.0)) (as_part (is_compound_form g) (form_text g) (value.Form g) (form_brackets g) (form_tree g both.1)) refl (λ r. and_word) (λ r. refl)
  form_tree (tree.either f g) h =
      let both = and_both (form_fits f) (form_fits g) h in
      infix_text op.Or _ (codes " or ") _ (value.Form f) (value.Form g) (value.Form (tree.either f g)) _ _ (as_part (is_compound_form f) (form_text f) (value.Form f) (form_brackets f) (form_tree f both.0)) (as_part (is_compound_form g) (form_text g) (value.Form g) (form_brackets g) (form_tree g both.1)) refl (λ r. or_word) (λ r. refl)

whole_text : (text : Bytes) (v : Value) (b e l : ℕ) → HasTree text v b e l → b ≤ bracket_limit → e ≤ 1 → IsText text v
whole_text text v b e l h fits one = record {
  tree = h.tree;
  tokens = subst (λ (z : Bytes). AreTokens z (tokens_of h.tree)) (append-nil text) (subst (λ (ts : List Token). AreTokens (text ++ []) ts) (append-nil (tokens_of h.tree)) ((h.chain [] tt).cuts [] words.ends));
  grouped = h.grouped;
  small = record { brackets = omega (arith, h.brackets); operators = omega (arith, h.operators) };
  value_is = h.value_is;
}

at_most_one : (c : Bool) → (if c then 1 else 0) ≤ 1
at_most_one true = omega arith
at_most_one false = omega arith

pub written_form : (f : FormTree) → has_form_text f ≡ true → IsFormText (form_text f) f
written_form f h =
    let both = and_both (form_fits f) (nat_le (form_brackets f) bracket_limit) h in
    whole_text (form_text f) (value.Form f) (form_brackets f) _ _ (form_tree f both.0) (leb-true _ _ both.1) (at_most_one (is_compound_form f))

pub written_term : (t : TermTree) → has_term_text t ≡ true → IsTermText (term_text t) t
written_term t h =
    let both = and_both (term_fits t) (nat_le (term_brackets t) bracket_limit) h in
    whole_text (term_text t) (value.Term t) (term_brackets t) _ _ (term_tree t both.0) (leb-true _ _ both.1) (at_most_one (is_compound_term t))

pub written_name : (x : Sym) → has_name_text x ≡ true → IsNameText (name_text x) x
written_name x h =
    let n = name_chain x.base x.count h in
    record {
      name = n.0;
      tokens = subst (λ (z : Bytes). AreTokens z (grammar.name_tokens n.0)) (append-nil (name_text x))
          (subst (λ (ts : List Token). AreTokens (name_text x ++ []) ts) (append-nil (grammar.name_tokens n.0)) ((n.2 [] tt).cuts [] words.ends));
      same = n.1;
    }
