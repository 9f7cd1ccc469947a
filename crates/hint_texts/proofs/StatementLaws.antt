-- Clauses, and the beginnings of items, are read exactly where the tokens are one.
use Rattle.std.proofs.Common.{◌≡◌, ℕ, pos, ◌≤◌, true, List, [], ◌∷◌, ◌++◌, Option, Some, None, refl, sym, ap, ◌∙◌, subst, append_assoc, arith, inl, inr}
use Rattle.std.specs.Prelude.{codes, bytes_eq}
use Rattle.std.proofs.lemmas.Bool.{le-leb}
use Rattle.c_lang.specs.Names.{Bytes}
use Rattle.c_lexer.proofs.Cases.{chosen, same_bytes}
use Rattle.formula_texts.specs.declared.token.Token.TheVariants as token
use Rattle.formula_texts.specs.declared.token.Mark.TheVariants as mark
use Rattle.formula_texts.specs.Grammar.{◌>>=◌}
use Rattle.formula_texts.proofs.OperatorLaws.{bind_some}
use Rattle.hint_texts.specs.declared.token.Token.{Token}
use Rattle.hint_texts.specs.declared.token.Kind.{Kind}
use Rattle.hint_texts.specs.declared.token.Kind.TheVariants as kind
use Rattle.hint_texts.specs.declared.token.Closing.TheVariants as closing
use Rattle.hint_texts.specs.declared.hints.Quantified.{Quantified}
use Rattle.hint_texts.specs.declared.hints.ClauseKind.{ClauseKind}
use Rattle.hint_texts.specs.declared.hints.ClauseKind.TheVariants as clause
use Rattle.hint_texts.specs.declared.hints.Head.{Head}
use Rattle.hint_texts.specs.declared.hints.Head.TheVariants as head
use Rattle.hint_texts.specs.declared.hints.Statement.{Statement}
use Rattle.hint_texts.specs.declared.hints.Statement.TheVariants as statement
use Rattle.hint_texts.specs.Parts.{AreParts}
use Rattle.hint_texts.specs.Parts as row
use Rattle.hint_texts.specs.Tokens.{number_limit}
use Rattle.hint_texts.specs.Grammar.{at, mark_kind, clause_tokens, IsFact, IsNext, AreNames, IsStatement}
use Rattle.hint_texts.specs.Grammar as grammar
use Rattle.hint_texts.specs.Code.Runs.{parts_in}
use Rattle.hint_texts.specs.Code.Reading.{name_in, name_at, mark_at, number_at, cut, next_at, more_names, names_of, names_at, said, assigns_clause, begins, loop_begins, fact_of, fact_at, fact_clause, statement_by, statement_of, statement_at}
use Rattle.hint_texts.proofs.PartLaws.{IsRead, Again, Sound, read_again, read_is}
use Rattle.hint_texts.proofs.CutLaws.{is_free, cut_again, cut_is}
use Rattle.hint_texts.proofs.FrontLaws.{some_is, name_in-is, name_at-is, number_at-is, mark_at-is}
use Rattle.hint_texts.proofs.FactLaws.{fact_again, fact_is, fact_free}

-- ---- names

next_again : Again IsNext next_at
next_again rest front x (grammar.next l m _) = (omega arith, refl)

next_are : Sound IsNext next_at
next_are ts rest x e =
    let a = bind_some (mark_at mark.Comma ts) name_at (x, rest) e in
    let i = mark_at-is mark.Comma ts a.0 a.1 in
    let j = name_at-is a.0 rest x a.2 in
    record { front = at i.0 (mark_kind mark.Comma) ∷ at j.0 (kind.Name x) ∷ []; splits = i.1 ∙ ap (λ (us : List Token). at i.0 (mark_kind mark.Comma) ∷ us) j.1; is = grammar.next i.0 j.0 x }

next_free : (rest front : List Token) (x : Bytes) → IsNext rest front x → is_free closing.Semicolon (front ++ rest) ≡ is_free closing.Semicolon rest
next_free rest front x (grammar.next l m _) = refl

all_free : (ts : List Token) (xs : List Bytes) → AreParts IsNext ts xs → is_free closing.Semicolon ts ≡ true
all_free ts xs row.ends = refl
all_free ts xs (row.goes front rest x more is are) = next_free rest front x is ∙ all_free rest more are

names_again : (ts : List Token) (xs : List Bytes) → AreNames ts xs → names_of ts ≡ Some xs
names_again ts xs grammar.none = refl
names_again ts xs (grammar.some l x us ys are) = rw (read_again IsNext next_at next_again us ys are) refl

names_free : (ts : List Token) (xs : List Bytes) → AreNames ts xs → is_free closing.Semicolon ts ≡ true
names_free ts xs grammar.none = refl
names_free ts xs (grammar.some l x us ys are) = all_free us ys are

names_is : (ts : List Token) (xs : List Bytes) → names_of ts ≡ Some xs → AreNames ts xs
names_is [] xs e = subst (AreNames []) (some_is [] xs e) grammar.none
names_is (t ∷ ts) xs e =
    let a = bind_some (name_in t.kind) (λ x. more_names x ts) xs e in
    let b = bind_some (parts_in next_at ts) (λ ys. Some (a.0 ∷ ys)) xs a.2 in
    let whole = grammar.some t.line a.0 ts b.0 (read_is IsNext next_at next_are ts b.0 b.1) in
    subst (λ (k : Kind). AreNames (at t.line k ∷ ts) xs) (sym (name_in-is t.kind a.0 a.1)) (subst (AreNames _) (some_is (a.0 ∷ b.0) xs b.2) whole)

-- ---- what is in the grammar is read

clause_cut : (ts rest : List Token) (m : ℕ) → is_free closing.Semicolon ts ≡ true → cut closing.Semicolon ((ts ++ (at m (kind.Closing closing.Semicolon) ∷ [])) ++ rest) ≡ Some (ts, rest)
clause_cut ts rest m free =
    ap (cut closing.Semicolon) (append_assoc ts (at m (kind.Closing closing.Semicolon) ∷ []) rest) ∙ cut_again closing.Semicolon ts (at m (kind.Closing closing.Semicolon)) rest free refl

module _ (number : Bytes → ℕ) where
  fact_clause_again : (kind_of : Quantified → ClauseKind) (l m : ℕ) (ts rest : List Token) (q : Quantified) → IsFact number ts q
      → fact_clause number kind_of l ((ts ++ (at m (kind.Closing closing.Semicolon) ∷ [])) ++ rest) ≡ Some (statement.Says (record { line = l; kind = kind_of q }), rest)
  fact_clause_again kind_of l m ts rest q is = rw (clause_cut ts rest m (fact_free number ts q is), fact_again number ts q is) refl

  assigns_again : (l m : ℕ) (ts rest : List Token) (xs : List Bytes) → AreNames ts xs
      → assigns_clause l ((ts ++ (at m (kind.Closing closing.Semicolon) ∷ [])) ++ rest) ≡ Some (statement.Says (record { line = l; kind = clause.Assigns xs }), rest)
  assigns_again l m ts rest xs is = rw (clause_cut ts rest m (names_free ts xs is), names_again ts xs is) refl

  loop_again : (l m n k : ℕ) (f : Bytes) (rest : List Token) → k ≤ number_limit
      → loop_begins l (at m (kind.Name f) ∷ at n (kind.Part (token.Number (pos k))) ∷ rest) ≡ Some (statement.Begins l (head.Loop f k), rest)
  loop_again l m n k f rest le = rw (le-leb k number_limit le) refl

  pub statements_again : Again (IsStatement number) (statement_at number)
  unfolding statement_by
  statements_again rest front s (grammar.both l m f) = (omega arith, refl)
  statements_again rest front s (grammar.one l m f) = (omega arith, refl)
  statements_again rest front s (grammar.loop l m n f k le) = (omega arith, loop_again l m n k f rest le)
  statements_again rest front s (grammar.requires l m ts q is) = (omega arith, fact_clause_again clause.Requires l m ts rest q is)
  statements_again rest front s (grammar.ensures l m ts q is) = (omega arith, fact_clause_again clause.Ensures l m ts rest q is)
  statements_again rest front s (grammar.invariant l m ts q is) = (omega arith, fact_clause_again clause.Invariant l m ts rest q is)
  statements_again rest front s (grammar.assigns l m ts xs is) = (omega arith, assigns_again l m ts rest xs is)

  -- ---- what is read is in the grammar

  Reads : ℕ → Bytes → List Token → Statement × List Token → Type 0
  Reads l word ts x = IsRead (IsStatement number) (at l (kind.Name word) ∷ ts) x.0 x.1

  begins_read : (word : Bytes) (head_of : Bytes → Head) → ((rest : List Token) (l m : ℕ) (f : Bytes) → IsStatement number rest (at l (kind.Name word) ∷ at m (kind.Name f) ∷ []) (statement.Begins l (head_of f)))
      → (l : ℕ) (ts : List Token) (x : Statement × List Token) → begins head_of l ts ≡ Some x → Reads l word ts x
  unfolding Reads
  begins_read word head_of make l ts x e =
      let a = bind_some (name_at ts) (λ f. Some (statement.Begins l (head_of f.0), f.1)) x e in
      let j = name_at-is ts a.0.1 a.0.0 a.1 in
      subst (λ (y : Statement × List Token). IsRead (IsStatement number) (at l (kind.Name word) ∷ ts) y.0 y.1) (some_is (statement.Begins l (head_of a.0.0), a.0.1) x a.2)
      (record { front = at l (kind.Name word) ∷ at j.0 (kind.Name a.0.0) ∷ []; splits = ap (λ (us : List Token). at l (kind.Name word) ∷ us) j.1; is = make a.0.1 l j.0 a.0.0 })

  loop_read : (l : ℕ) (ts : List Token) (x : Statement × List Token) → loop_begins l ts ≡ Some x → Reads l (codes "loop") ts x
  unfolding Reads
  loop_read l ts x e =
      let a = bind_some (name_at ts) (λ f. number_at f.1 >>= λ n. Some (statement.Begins l (head.Loop f.0 n.0), n.1)) x e in
      let b = bind_some (number_at a.0.1) (λ n. Some (statement.Begins l (head.Loop a.0.0 n.0), n.1)) x a.2 in
      let i = name_at-is ts a.0.1 a.0.0 a.1 in
      let j = number_at-is a.0.1 b.0.1 b.0.0 b.1 in
      let first = at l (kind.Name (codes "loop")) in
      subst (λ (y : Statement × List Token). IsRead (IsStatement number) (first ∷ ts) y.0 y.1) (some_is (statement.Begins l (head.Loop a.0.0 b.0.0), b.0.1) x b.2) (record {
        front = first ∷ at i.0 (kind.Name a.0.0) ∷ at j.0 (kind.Part (token.Number (pos b.0.0))) ∷ [];
        splits = ap (λ (us : List Token). first ∷ us) (i.1 ∙ ap (λ (us : List Token). at i.0 (kind.Name a.0.0) ∷ us) j.1);
        is = grammar.loop l i.0 j.0 a.0.0 b.0.0 j.2;
      })

  clause_splits : (l m : ℕ) (word : Bytes) (ts front rest : List Token) → ts ≡ front ++ (at m (kind.Closing closing.Semicolon) ∷ rest) → at l (kind.Name word) ∷ ts ≡ clause_tokens l word front m ++ rest
  clause_splits l m word ts front rest e = ap (λ (us : List Token). at l (kind.Name word) ∷ us) (e ∙ sym (append_assoc front (at m (kind.Closing closing.Semicolon) ∷ []) rest))

  fact_read : (word : Bytes) (kind_of : Quantified → ClauseKind)
      → ((rest : List Token) (l m : ℕ) (ts : List Token) (q : Quantified) → IsFact number ts q → IsStatement number rest (clause_tokens l word ts m) (statement.Says (record { line = l; kind = kind_of q })))
      → (l : ℕ) (ts : List Token) (x : Statement × List Token) → fact_clause number kind_of l ts ≡ Some x → Reads l word ts x
  unfolding Reads
  fact_read word kind_of make l ts x e =
      let a = bind_some (fact_at number ts) (λ y. Some (said l y.1 (kind_of y.0))) x e in
      let b = bind_some (cut closing.Semicolon ts) (λ y. fact_of number y.0 >>= λ q. Some (q, y.1)) a.0 a.1 in
      let d = bind_some (fact_of number b.0.0) (λ q. Some (q, b.0.1)) a.0 b.2 in
      let c = cut_is closing.Semicolon ts b.0.0 b.0.1 b.1 in
      let p = ap (λ (y : Quantified × List Token). said l y.1 (kind_of y.0)) (some_is (d.0, b.0.1) a.0 d.2) ∙ some_is (said l a.0.1 (kind_of a.0.0)) x a.2 in
      subst (λ (y : Statement × List Token). IsRead (IsStatement number) (at l (kind.Name word) ∷ ts) y.0 y.1) p (record {
        front = clause_tokens l word b.0.0 c.line;
        splits = clause_splits l c.line word ts b.0.0 b.0.1 c.splits;
        is = make b.0.1 l c.line b.0.0 d.0 (fact_is number b.0.0 d.0 d.1);
      })

  assigns_read : (l : ℕ) (ts : List Token) (x : Statement × List Token) → assigns_clause l ts ≡ Some x → Reads l (codes "assigns") ts x
  unfolding Reads
  assigns_read l ts x e =
      let a = bind_some (names_at ts) (λ y. Some (said l y.1 (clause.Assigns y.0))) x e in
      let b = bind_some (cut closing.Semicolon ts) (λ y. names_of y.0 >>= λ xs. Some (xs, y.1)) a.0 a.1 in
      let d = bind_some (names_of b.0.0) (λ xs. Some (xs, b.0.1)) a.0 b.2 in
      let c = cut_is closing.Semicolon ts b.0.0 b.0.1 b.1 in
      let p = ap (λ (y : List Bytes × List Token). said l y.1 (clause.Assigns y.0)) (some_is (d.0, b.0.1) a.0 d.2) ∙ some_is (said l a.0.1 (clause.Assigns a.0.0)) x a.2 in
      subst (λ (y : Statement × List Token). IsRead (IsStatement number) (at l (kind.Name (codes "assigns")) ∷ ts) y.0 y.1) p (record {
        front = clause_tokens l (codes "assigns") b.0.0 c.line;
        splits = clause_splits l c.line (codes "assigns") ts b.0.0 b.0.1 c.splits;
        is = grammar.assigns l c.line b.0.0 d.0 (names_is b.0.0 d.0 d.1);
      })

  at_word : (l : ℕ) (word known : Bytes) (ts : List Token) (x : Statement × List Token) → bytes_eq word known ≡ true → Reads l known ts x → Reads l word ts x
  at_word l word known ts x e h = subst (λ (w : Bytes). Reads l w ts x) (sym (same_bytes word known e)) h

  statement_read : (l : ℕ) (word : Bytes) (ts : List Token) (x : Statement × List Token) → statement_by number l word ts ≡ Some x → Reads l word ts x
  unfolding statement_by
  statement_read l word ts x e = elim (chosen (bytes_eq word (codes "both")) _ _ (Some x) e) [
    | inl h ↦ at_word l word (codes "both") ts x h.0 (begins_read (codes "both") head.Both (λ rest k m f. grammar.both k m f) l ts x h.1)
    | inr e1 ↦ elim (chosen (bytes_eq word (codes "at")) _ _ (Some x) e1.1) [
      | inl h ↦ at_word l word (codes "at") ts x h.0 (begins_read (codes "at") head.At (λ rest k m f. grammar.one k m f) l ts x h.1)
      | inr e2 ↦ elim (chosen (bytes_eq word (codes "loop")) _ _ (Some x) e2.1) [
        | inl h ↦ at_word l word (codes "loop") ts x h.0 (loop_read l ts x h.1)
        | inr e3 ↦ elim (chosen (bytes_eq word (codes "requires")) _ _ (Some x) e3.1) [
          | inl h ↦ at_word l word (codes "requires") ts x h.0 (fact_read (codes "requires") clause.Requires (λ rest k m us q is. grammar.requires k m us q is) l ts x h.1)
          | inr e4 ↦ elim (chosen (bytes_eq word (codes "ensures")) _ _ (Some x) e4.1) [
            | inl h ↦ at_word l word (codes "ensures") ts x h.0 (fact_read (codes "ensures") clause.Ensures (λ rest k m us q is. grammar.ensures k m us q is) l ts x h.1)
            | inr e5 ↦ elim (chosen (bytes_eq word (codes "invariant")) _ _ (Some x) e5.1) [
              | inl h ↦ at_word l word (codes "invariant") ts x h.0 (fact_read (codes "invariant") clause.Invariant (λ rest k m us q is. grammar.invariant k m us q is) l ts x h.1)
              | inr e6 ↦ elim (chosen (bytes_eq word (codes "assigns")) _ _ (Some x) e6.1) [
                | inl h ↦ at_word l word (codes "assigns") ts x h.0 (assigns_read l ts x h.1)
                | inr h ↦ absurd (let f = h.1 in cc)
              ]
            ]
          ]
        ]
      ]
    ]
  ]

  statement_of-read : (t : Token) (ts : List Token) (x : Statement × List Token) (o : Option Bytes) → name_in t.kind ≡ o → statement_of number t.line ts o ≡ Some x → IsRead (IsStatement number) (t ∷ ts) x.0 x.1
  unfolding Reads
  statement_of-read t ts x None n e = absurd cc
  statement_of-read t ts x (Some word) n e =
      subst (λ (k : Kind). IsRead (IsStatement number) (at t.line k ∷ ts) x.0 x.1) (sym (name_in-is t.kind word n)) (statement_read t.line word ts x e)

  pub statements_are : Sound (IsStatement number) (statement_at number)
  statements_are [] rest s e = absurd cc
  statements_are (t ∷ ts) rest s e = statement_of-read t ts (s, rest) (name_in t.kind) refl e
