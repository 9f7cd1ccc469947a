-- What is read is in the grammar.
use Rattle.std.proofs.Common.{◌≡◌, ℕ, zero, suc, ◌+◌, ◌<◌, ◌≤◌, cond, ltb, eqb, max, List, [], ◌∷◌, ◌++◌, Option, Some, None, refl, sym, ap, ◌∙◌, subst, append_assoc, arith, inl, inr}
use Rattle.std.specs.Prelude.{IfSome}
use Rattle.std.proofs.lemmas.Bool.{ltb-true, ltb-false, eqb-true}
use Rattle.c_lang.specs.declared.expr.Expr.{Expr}
use Rattle.c_lang.specs.declared.expr.Expr.TheVariants as e
use Rattle.c_lang.specs.declared.expr.Op.{Op}
use Rattle.c_grammar.specs.declared.token.Token.{Token}
use Rattle.c_grammar.specs.declared.token.Word.{Word}
use Rattle.c_grammar.specs.declared.token.Word.TheVariants as w
use Rattle.c_lang.specs.Operators.{level}
use Rattle.c_grammar.specs.Tokens.{At, token, operator_number}
use Rattle.c_grammar.specs.Expressions.{Tree, number, name, element, brackets, negation, logical_not, joined, tokens_of, expr_of, height, binds, IsGrouped}
use Rattle.c_expressions.specs.Code.ParseSteps.{◌>>=◌, mark_by, after}
use Rattle.c_expressions.specs.Code.ExpressionReading.{operator_of, Found, Parse, next_by, next_operator, raise, closed, join, operand, operand_by, named_by, more_by, more, expr}
use Rattle.c_expressions.proofs.OperatorLaws.{number-operator_at, level_small, chosen}
use Rattle.c_expressions.proofs.ExpressionComplete.{height_positive}

pub bind_some : {A B : Type 0} (r : Option A) (f : A → Option B) (y : B) → (r >>= f) ≡ Some y → (x : A) × (r ≡ Some x) × (f x ≡ Some y)
bind_some (Some x) f y e = (x, refl, e)
bind_some None f y e = absurd cc

abbrev pub at_of : Token → At
at_of t = record { start = t.start; end = t.end; pos = t.pos }

some : {A : Type 0} → A → Option A
some x = Some x

pub some_is : {A : Type 0} (x y : A) → Some x ≡ Some y → x ≡ y
some_is x y e = cc

-- which tree was read from the front
pub record IsPart (d m : ℕ) (ts : List Token) (x : Found) : Type 0 where
  pub tree : Tree
  pub grouped : IsGrouped tree
  pub high : height tree ≤ d
  pub least : m ≤ binds tree
  pub parts : ts ≡ tokens_of tree ++ x.rest
  pub program : expr_of tree ≡ x.expr
  pub height_is : x.height ≡ height tree

-- up to an operator below the level
pub record IsRead (d m : ℕ) (ts : List Token) (x : Found) : Type 0 where
  pub part : IsPart d m ts x
  pub stops : IfSome (next_operator x.rest) (λ y. level y.0 < m)

abbrev Reads : (ℕ → Parse) → ℕ → Type 0
Reads inner d = (m : ℕ) (ts : List Token) (x : Found) → m ≤ 7 → inner m ts ≡ Some x → IsRead d m ts x

all_small : (o : Option (Op × List Token)) → IfSome o (λ x. level x.0 < 7)
all_small None = tt
all_small (Some x) = level_small x.0

mark-is : (mark : ℕ) (what : Word) (ts rest : List Token) → mark_by mark what ts ≡ Some rest → (what ≡ w.Punct mark) × (ts ≡ rest)
mark-is mark (w.Punct k) ts rest e =
    elim (chosen (eqb k mark) (Some ts) None (Some rest) e) [
      | inl h ↦ (ap w.Punct (eqb-true k mark h.0), some_is ts rest h.1)
      | inr h ↦ absurd (let f = h.1 in cc)
    ]
mark-is mark (w.Number n) ts rest e = absurd cc
mark-is mark (w.Ident n) ts rest e = absurd cc
mark-is mark (w.Key n) ts rest e = absurd cc

pub after-is : (mark : ℕ) (ts rest : List Token) → after mark ts ≡ Some rest → (at : At) × (ts ≡ token at (w.Punct mark) ∷ rest)
after-is mark [] rest e = absurd cc
after-is mark (t ∷ ts) rest e =
    let p = mark-is mark t.what ts rest e in
    (at_of t, ap (λ (x : Word). token (at_of t) x ∷ ts) p.0 ∙ ap (λ (r : List Token). token (at_of t) (w.Punct mark) ∷ r) p.1)

operator-is : (what : Word) (o : Op) → operator_of what ≡ Some o → what ≡ w.Punct (operator_number o)
operator-is (w.Punct k) o e = ap w.Punct (number-operator_at k o e)
operator-is (w.Number n) o e = absurd cc
operator-is (w.Ident n) o e = absurd cc
operator-is (w.Key n) o e = absurd cc

next_by-is : (f : Option Op) (ts rest : List Token) (o : Op) → next_by f ts ≡ Some (o, rest) → (f ≡ Some o) × (ts ≡ rest)
next_by-is None ts rest o e = absurd cc
next_by-is (Some p) ts rest o e = let q = some_is (p, ts) (o, rest) e in (ap (λ (x : Op × List Token). Some x.0) q, ap (λ (x : Op × List Token). x.1) q)

next-is : (ts rest : List Token) (o : Op) → next_operator ts ≡ Some (o, rest) → (at : At) × (ts ≡ token at (w.Punct (operator_number o)) ∷ rest)
next-is [] rest o e = absurd cc
next-is (t ∷ ts) rest o e =
    let p = next_by-is (operator_of t.what) ts rest o e in
    (at_of t, ap (λ (x : Word). token (at_of t) x ∷ ts) (operator-is t.what o p.0) ∙ ap (λ (r : List Token). token (at_of t) (w.Punct (operator_number o)) ∷ r) p.1)

between : (t : Tree) (ts mid rest : List Token) (z : Token) → ts ≡ tokens_of t ++ mid → mid ≡ z ∷ rest → ts ≡ (tokens_of t ++ z ∷ []) ++ rest
between t ts mid rest z p q = p ∙ ap (λ (r : List Token). tokens_of t ++ r) q ∙ sym (append_assoc (tokens_of t) (z ∷ []) rest)

module _ (inner : ℕ → Parse) (d : ℕ) (reads : Reads inner d) where
  in_brackets-read : (opens : At) (ts : List Token) (x : Found) → (inner 1 ts >>= λ y. closed 1 (raise (λ a. a) y)) ≡ Some x → IsPart (suc d) 7 (token opens (w.Punct 0) ∷ ts) x
  in_brackets-read opens ts x q =
      let a = bind_some (inner 1 ts) (λ y. closed 1 (raise (λ a. a) y)) x q in
      let b = bind_some (after 1 a.0.rest) (λ rest. Some (record { expr = a.0.expr; height = a.0.height + 1; rest = rest })) x a.2 in
      let i = (reads 1 ts a.0 (omega arith) a.1).part in
      let z = after-is 1 a.0.rest b.0 b.1 in
      subst (λ (y : Found). IsPart (suc d) 7 (token opens (w.Punct 0) ∷ ts) y) (some_is _ x b.2) (record {
        tree = brackets opens i.tree z.0;
        grouped = i.grouped;
        high = omega (arith, i.high);
        least = omega arith;
        parts = ap (λ (r : List Token). token opens (w.Punct 0) ∷ r) (between i.tree ts a.0.rest b.0 _ i.parts z.1);
        program = i.program;
        height_is = omega (arith, i.height_is);
      })

  element-read : (at : At) (called : List ℕ) (ts inside : List Token) (x : Found) → after 4 ts ≡ Some inside → (inner 1 inside >>= λ y. closed 5 (raise (e.Elem called) y)) ≡ Some x → IsPart (suc d) 7 (token at (w.Ident called) ∷ ts) x
  element-read at called ts inside x o q =
      let a = bind_some (inner 1 inside) (λ y. closed 5 (raise (e.Elem called) y)) x q in
      let b = bind_some (after 5 a.0.rest) (λ rest. Some (record { expr = e.Elem called a.0.expr; height = a.0.height + 1; rest = rest })) x a.2 in
      let i = (reads 1 inside a.0 (omega arith) a.1).part in
      let f = after-is 4 ts inside o in
      let z = after-is 5 a.0.rest b.0 b.1 in
      subst (λ (y : Found). IsPart (suc d) 7 (token at (w.Ident called) ∷ ts) y) (some_is _ x b.2) (record {
        tree = element at called f.0 i.tree z.0;
        grouped = i.grouped;
        high = omega (arith, i.high);
        least = omega arith;
        parts = ap (λ (r : List Token). token at (w.Ident called) ∷ r) (f.1 ∙ ap (λ (r : List Token). token f.0 (w.Punct 4) ∷ r) (between i.tree inside a.0.rest b.0 _ i.parts z.1));
        program = ap (e.Elem called) i.program;
        height_is = omega (arith, i.height_is);
      })

  named-read : (at : At) (called : List ℕ) (ts : List Token) (x : Found) (o : Option (List Token)) → after 4 ts ≡ o → named_by inner called ts o ≡ Some x → IsPart (suc d) 7 (token at (w.Ident called) ∷ ts) x
  named-read at called ts x None o q = subst (λ (y : Found). IsPart (suc d) 7 (token at (w.Ident called) ∷ ts) y) (some_is _ x q) (record { tree = name at called; grouped = tt; high = omega arith; least = omega arith; parts = refl; program = refl; height_is = refl })
  named-read at called ts x (Some inside) o q = element-read at called ts inside x o q

  negation-read : (at : At) (ts : List Token) (x : Found) → (inner 7 ts >>= λ y. Some (raise e.Neg y)) ≡ Some x → IsPart (suc d) 7 (token at (w.Punct 10) ∷ ts) x
  negation-read at ts x q =
      let a = bind_some (inner 7 ts) (λ y. Some (raise e.Neg y)) x q in
      let i = (reads 7 ts a.0 (omega arith) a.1).part in
      subst (λ (y : Found). IsPart (suc d) 7 (token at (w.Punct 10) ∷ ts) y) (some_is _ x a.2) (record {
        tree = negation at i.tree;
        grouped = (i.least, i.grouped);
        high = omega (arith, i.high);
        least = omega arith;
        parts = ap (λ (r : List Token). token at (w.Punct 10) ∷ r) i.parts;
        program = ap e.Neg i.program;
        height_is = omega (arith, i.height_is);
      })

  logical_not-read : (at : At) (ts : List Token) (x : Found) → (inner 7 ts >>= λ y. Some (raise e.Not y)) ≡ Some x → IsPart (suc d) 7 (token at (w.Punct 14) ∷ ts) x
  logical_not-read at ts x q =
      let a = bind_some (inner 7 ts) (λ y. Some (raise e.Not y)) x q in
      let i = (reads 7 ts a.0 (omega arith) a.1).part in
      subst (λ (y : Found). IsPart (suc d) 7 (token at (w.Punct 14) ∷ ts) y) (some_is _ x a.2) (record {
        tree = logical_not at i.tree;
        grouped = (i.least, i.grouped);
        high = omega (arith, i.high);
        least = omega arith;
        parts = ap (λ (r : List Token). token at (w.Punct 14) ∷ r) i.parts;
        program = ap e.Not i.program;
        height_is = omega (arith, i.height_is);
      })

  sign-read : (at : At) (k : ℕ) (ts : List Token) (x : Found) → operand_by inner (w.Punct k) ts ≡ Some x → IsPart (suc d) 7 (token at (w.Punct k) ∷ ts) x
  sign-read at k ts x q =
      elim (chosen (eqb k 0) (inner 1 ts >>= (λ y. closed 1 (raise (λ a. a) y))) (cond (eqb k 10) (inner 7 ts >>= (λ y. Some (raise e.Neg y))) (cond (eqb k 14) (inner 7 ts >>= (λ y. Some (raise e.Not y))) None)) (Some x) q) [
        | inl h ↦ subst (λ (n : ℕ). IsPart (suc d) 7 (token at (w.Punct n) ∷ ts) x) (sym (eqb-true k 0 h.0)) (in_brackets-read at ts x h.1)
        | inr h ↦ elim (chosen (eqb k 10) (inner 7 ts >>= (λ y. Some (raise e.Neg y))) (cond (eqb k 14) (inner 7 ts >>= (λ y. Some (raise e.Not y))) None) (Some x) h.1) [
          | inl i ↦ subst (λ (n : ℕ). IsPart (suc d) 7 (token at (w.Punct n) ∷ ts) x) (sym (eqb-true k 10 i.0)) (negation-read at ts x i.1)
          | inr i ↦ elim (chosen (eqb k 14) (inner 7 ts >>= (λ y. Some (raise e.Not y))) None (Some x) i.1) [
            | inl j ↦ subst (λ (n : ℕ). IsPart (suc d) 7 (token at (w.Punct n) ∷ ts) x) (sym (eqb-true k 14 j.0)) (logical_not-read at ts x j.1)
            | inr j ↦ absurd (let f = j.1 in cc)
          ]
        ]
      ]

  operand_by-read : (at : At) (what : Word) (ts : List Token) (x : Found) → operand_by inner what ts ≡ Some x → IsPart (suc d) 7 (token at what ∷ ts) x
  operand_by-read at (w.Number n) ts x q = subst (λ (y : Found). IsPart (suc d) 7 (token at (w.Number n) ∷ ts) y) (some_is _ x q) (record { tree = number at n; grouped = tt; high = omega arith; least = omega arith; parts = refl; program = refl; height_is = refl })
  operand_by-read at (w.Ident called) ts x q = named-read at called ts x (after 4 ts) refl q
  operand_by-read at (w.Punct k) ts x q = sign-read at k ts x q
  operand_by-read at (w.Key k) ts x q = absurd cc

  operand-read : (ts : List Token) (x : Found) → operand inner ts ≡ Some x → IsPart (suc d) 7 ts x
  unfolding operand
  operand-read [] x q = absurd cc
  operand-read (t ∷ ts) x q = operand_by-read (at_of t) t.what ts x q

  -- the left side with an operator and a right side
  joined-part : (m : ℕ) (o : Op) (ts us : List Token) (left right : Found) (p : IsPart (suc d) m ts left) → level o ≤ binds p.tree → m ≤ level o → next_operator left.rest ≡ Some (o, us)
      → IsPart d (level o + 1) us right → max left.height right.height < suc d
      → (q : IsPart (suc d) m ts (record { expr = e.Bin o left.expr right.expr; height = max left.height right.height + 1; rest = right.rest })) × (binds q.tree ≡ level o)
  joined-part m o ts us left right p tight least saw r fits =
      let f = next-is left.rest us o saw in
      let t = token f.0 (w.Punct (operator_number o)) in
      let split : ts ≡ (tokens_of p.tree ++ t ∷ tokens_of r.tree) ++ right.rest =
      p.parts ∙ ap (λ (x : List Token). tokens_of p.tree ++ x) (f.1 ∙ ap (λ (x : List Token). t ∷ x) r.parts) ∙ sym (append_assoc (tokens_of p.tree) (t ∷ tokens_of r.tree) right.rest) in (
        record {
          tree = joined p.tree f.0 o r.tree;
          grouped = (tight, omega (arith, r.least), p.grouped, r.grouped);
          high = omega (arith, p.height_is, r.height_is);
          least = least;
          parts = split;
          program = ap (λ (a : Expr). e.Bin o a (expr_of r.tree)) p.program ∙ ap (λ (b : Expr). e.Bin o left.expr b) r.program;
          height_is = rw (p.height_is, r.height_is) refl;
        },
        refl,
      )

  stop_at : (l : ℕ) (o : Option (Op × List Token)) → IfSome o (λ y. level y.0 < l + 1) → IfSome o (λ y. level y.0 ≤ l)
  stop_at l None h = tt
  stop_at l (Some x) h = omega arith

  -- what holds of reading on with k turns
  abbrev Goes : ℕ → ℕ → List Token → Found → Type 0
  Goes m k ts x = (left : Found) (p : IsPart (suc d) m ts left) → IfSome (next_operator left.rest) (λ y. level y.0 ≤ binds p.tree) → suc d < left.height + k → more inner k (suc d) m left ≡ Some x → IsRead (suc d) m ts x

  turn-read : (m k : ℕ) (ts : List Token) (x left : Found) (p : IsPart (suc d) m ts left) (next : Option (Op × List Token)) → next_operator left.rest ≡ next → IfSome next (λ y. level y.0 ≤ binds p.tree) → suc d < left.height + suc k
      → more_by inner (more inner k (suc d) m) (suc d) m left next ≡ Some x → Goes m k ts x → IsRead (suc d) m ts x
  turn-read m k ts x left p None n s enough q go = subst (λ (y : Found). IsRead (suc d) m ts y) (some_is left x q) (record { part = p; stops = rw n tt })
  turn-read m k ts x left p (Some (o, us)) n s enough q go =
      elim (chosen (ltb (level o) m) (Some left) (cond (ltb left.height (suc d)) (inner (level o + 1) us >>= λ right. more inner k (suc d) m (join o left right)) None) (Some x) q) [
        | inl h ↦ subst (λ (y : Found). IsRead (suc d) m ts y) (some_is left x h.1) (record { part = p; stops = rw n (ltb-true _ _ h.0) })
        | inr h ↦ elim (chosen (ltb left.height (suc d)) (inner (level o + 1) us >>= λ right. more inner k (suc d) m (join o left right)) None (Some x) h.1) [
          | inl i ↦
              let a = bind_some (inner (level o + 1) us) (λ right. more inner k (suc d) m (join o left right)) x i.1 in
              let r = reads (level o + 1) us a.0 (omega (arith, level_small o)) a.1 in
              let fits : max left.height a.0.height < suc d = omega (arith, ltb-true _ _ i.0, r.part.high, r.part.height_is) in
              let whole = joined-part m o ts us left a.0 p s (ltb-false _ _ h.0) n r.part fits in
              go (join o left a.0) whole.0 (rw whole.1 (stop_at (level o) (next_operator a.0.rest) r.stops)) (omega arith) a.2
          | inr i ↦ absurd (let f = i.1 in cc)
        ]
      ]

  more-read : (m k : ℕ) (ts : List Token) (x : Found) → Goes m k ts x
  unfolding more
  more-read m zero ts x left p s enough q = let never : ⊥ = omega (arith, p.high, p.height_is) in absurd never
  more-read m (suc k) ts x left p s enough q = turn-read m k ts x left p (next_operator left.rest) refl s enough q (more-read m k ts x)

small_at : (n : ℕ) (o : Option (Op × List Token)) → 7 ≤ n → IfSome o (λ y. level y.0 ≤ n)
small_at n None h = tt
small_at n (Some x) h = omega (arith, level_small x.0)

-- what is read is in the grammar
pub reads_trees : (d : ℕ) → Reads (expr d) d
unfolding expr
reads_trees zero m ts x small q = absurd cc
reads_trees (suc d) m ts x small q =
    let a = bind_some (operand (expr d) ts) (more (expr d) (suc d) (suc d) m) x q in
    let p = operand-read (expr d) d (reads_trees d) ts a.0 a.1 in
    let part : IsPart (suc d) m ts a.0 = record { tree = p.tree; grouped = p.grouped; high = p.high; least = omega (arith, p.least); parts = p.parts; program = p.program; height_is = p.height_is } in
    more-read (expr d) d (reads_trees d) m (suc d) ts x a.0 part (small_at (binds p.tree) (next_operator a.0.rest) p.least) (omega (arith, p.height_is, height_positive p.tree)) a.2
