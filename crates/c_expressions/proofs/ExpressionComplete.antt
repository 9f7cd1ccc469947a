-- What the grammar has is read.
use Rattle.std.proofs.Common.{◌≡◌, ℕ, ℤ, zero, suc, ◌+◌, ◌<◌, ◌≤◌, List, [], ◌∷◌, ◌++◌, Option, Some, None, refl, sym, ap, ◌∙◌, subst, append_assoc, arith}
use Rattle.std.specs.Prelude.{IfSome}
use Rattle.std.proofs.lemmas.Bool.{le-ltb, lt-ltb}
use Rattle.c_lang.specs.declared.expr.Op.{Op}
use Rattle.c_grammar.specs.declared.token.Token.{Token}
use Rattle.c_grammar.specs.declared.token.Word.TheVariants as w
use Rattle.c_lang.specs.Operators.{level}
use Rattle.c_grammar.specs.Tokens.{At, token, operator_number}
use Rattle.c_grammar.specs.Expressions.{Tree, number, name, element, brackets, negation, logical_not, joined, tokens_of, expr_of, height, binds, IsGrouped}
use Rattle.c_expressions.specs.Code.ParseSteps.{◌>>=◌, after}
use Rattle.c_expressions.specs.Code.ExpressionReading.{Found, Parse, next_by, next_operator, join, operand, named_by, more_by, more, expr}
use Rattle.c_expressions.proofs.OperatorLaws.{operator_at-number, level_small, level_positive, no_index as never_index}

-- what may stand after an expression whose outermost operator binds so tightly
pub record Follows (l : ℕ) (rest : List Token) : Type 0 where
  pub no_index : after 4 rest ≡ None
  pub looser : IfSome (next_operator rest) (λ x. level x.0 ≤ l)

abbrev pub found : Tree → List Token → Found
found t rest = record { expr = expr_of t; height = height t; rest = rest }

abbrev below : ℕ → ℕ → Parse
below zero m ts = None
below (suc d) m ts = expr d m ts

if_some_mono : {A : Type 0} (P Q : A → Type 0) (o : Option A) → ((a : A) → P a → Q a) → IfSome o P → IfSome o Q
if_some_mono P Q None f h = tt
if_some_mono P Q (Some a) f h = f a h

follows_mono : (l n : ℕ) (rest : List Token) → l ≤ n → Follows l rest → Follows n rest
follows_mono l n rest le f = record { no_index = f.no_index; looser = if_some_mono (λ (x : Op × List Token). level x.0 ≤ l) (λ (x : Op × List Token). level x.0 ≤ n) (next_operator rest) (λ x h. omega arith) f.looser }

all_small : (o : Option (Op × List Token)) → IfSome o (λ x. level x.0 < 7)
all_small None = tt
all_small (Some x) = level_small x.0

pub height_positive : (t : Tree) → 1 ≤ height t
height_positive (number at n) = omega arith
height_positive (name at x) = omega arith
height_positive (element at x o t c) = omega arith
height_positive (brackets o t c) = omega arith
height_positive (negation at t) = omega arith
height_positive (logical_not at t) = omega arith
height_positive (joined a at o b) = omega arith

closes_by : (inner : ℕ → Parse) (go : Found → Option Found) (d m : ℕ) (left : Found) (next : Option (Op × List Token)) → IfSome next (λ x. level x.0 < m) → more_by inner go d m left next ≡ Some left
closes_by inner go d m left None h = refl
closes_by inner go d m left (Some (o, ts)) h = rw (lt-ltb _ _ h) refl

-- where no operator goes on
closes : (inner : ℕ → Parse) (k d m : ℕ) (left : Found) → IfSome (next_operator left.rest) (λ x. level x.0 < m) → more inner k d m left ≡ Some left
unfolding more
closes inner zero d m left h = refl
closes inner (suc k) d m left h = closes_by inner (more inner k d m) d m left (next_operator left.rest) h

closes_tight : (inner : ℕ → Parse) (k d : ℕ) (t : Tree) (rest : List Token) → more inner k d 7 (found t rest) ≡ Some (found t rest)
closes_tight inner k d t rest = closes inner k d 7 (found t rest) (all_small (next_operator rest))

closes_after : (l : ℕ) (inner : ℕ → Parse) (k d : ℕ) (t : Tree) (rest : List Token) → Follows l rest → more inner k d (l + 1) (found t rest) ≡ Some (found t rest)
closes_after l inner k d t rest f = closes inner k d (l + 1) (found t rest) (if_some_mono (λ (x : Op × List Token). level x.0 ≤ l) (λ (x : Op × List Token). level x.0 < l + 1) (next_operator rest) (λ x h. omega arith) f.looser)

binds_something : (t : Tree) → 1 ≤ binds t
binds_something (number at n) = omega arith
binds_something (name at x) = omega arith
binds_something (element at x o t c) = omega arith
binds_something (brackets o t c) = omega arith
binds_something (negation at t) = omega arith
binds_something (logical_not at t) = omega arith
binds_something (joined a at o b) = level_positive o

begins : (d m : ℕ) (ts : List Token) (x : Found) → operand (expr d) ts ≡ Some x → expr (suc d) m ts ≡ more (expr d) (suc d) (suc d) m x
unfolding expr
begins d m ts x e = ap (λ (r : Option Found). r >>= more (expr d) (suc d) (suc d) m) e

module _ (inner : ℕ → Parse) where
  read_number : (at : At) (n : ℤ) (rest : List Token) → operand inner (tokens_of (number at n) ++ rest) ≡ Some (found (number at n) rest)
  unfolding operand
  read_number at n rest = refl

  read_name : (at : At) (x : List ℕ) (rest : List Token) → after 4 rest ≡ None → operand inner (tokens_of (name at x) ++ rest) ≡ Some (found (name at x) rest)
  unfolding operand
  read_name at x rest e = ap (named_by inner x rest) e

  read_negated : (at : At) (t : Tree) (rest : List Token) → inner 7 (tokens_of t ++ rest) ≡ Some (found t rest) → operand inner (tokens_of (negation at t) ++ rest) ≡ Some (found (negation at t) rest)
  unfolding operand
  read_negated at t rest e = rw e refl

  read_denied : (at : At) (t : Tree) (rest : List Token) → inner 7 (tokens_of t ++ rest) ≡ Some (found t rest) → operand inner (tokens_of (logical_not at t) ++ rest) ≡ Some (found (logical_not at t) rest)
  unfolding operand
  read_denied at t rest e = rw e refl

  read_brackets : (o c : At) (t : Tree) (rest : List Token) → inner 1 (tokens_of t ++ token c (w.Punct 1) ∷ rest) ≡ Some (found t (token c (w.Punct 1) ∷ rest))
      → operand inner (tokens_of (brackets o t c) ++ rest) ≡ Some (found (brackets o t c) rest)
  unfolding operand
  read_brackets o c t rest e =
      let z = token c (w.Punct 1) in
      let inside : inner 1 ((tokens_of t ++ z ∷ []) ++ rest) ≡ Some (found t (z ∷ rest)) = ap (inner 1) (append_assoc (tokens_of t) (z ∷ []) rest) ∙ e in
      rw inside refl

  read_element : (at o c : At) (x : List ℕ) (t : Tree) (rest : List Token) → inner 1 (tokens_of t ++ token c (w.Punct 5) ∷ rest) ≡ Some (found t (token c (w.Punct 5) ∷ rest))
      → operand inner (tokens_of (element at x o t c) ++ rest) ≡ Some (found (element at x o t c) rest)
  unfolding operand
  read_element at o c x t rest e =
      let z = token c (w.Punct 5) in
      let inside : inner 1 ((tokens_of t ++ z ∷ []) ++ rest) ≡ Some (found t (z ∷ rest)) = ap (inner 1) (append_assoc (tokens_of t) (z ∷ []) rest) ∙ e in
      rw inside refl

  -- an operator that binds tightly enough takes its right side
  turn : (k d m : ℕ) (left right : Found) (o : Op) (ts : List Token) → next_operator left.rest ≡ Some (o, ts) → m ≤ level o → left.height < d
      → inner (level o + 1) ts ≡ Some right → more inner (suc k) d m left ≡ more inner k d m (join o left right)
  unfolding more
  turn k d m left right o ts e le lt r = ap (more_by inner (more inner k d m) d m left) e ∙ rw (le-ltb _ _ le, lt-ltb _ _ lt, r) refl

not_index : (at : At) (o : Op) (ts : List Token) → after 4 (token at (w.Punct (operator_number o)) ∷ ts) ≡ None
not_index at o ts = rw (never_index o) refl

sees_operator : (at : At) (o : Op) (ts : List Token) → next_operator (token at (w.Punct (operator_number o)) ∷ ts) ≡ Some (o, ts)
sees_operator at o ts = ap (λ (f : Option Op). next_by f ts) (operator_at-number o)

looks_on : (at : At) (o : Op) (ts : List Token) (l : ℕ) → level o ≤ l → IfSome (next_operator (token at (w.Punct (operator_number o)) ∷ ts)) (λ x. level x.0 ≤ l)
looks_on at o ts l le = subst (λ (r : Option (Op × List Token)). IfSome r (λ x. level x.0 ≤ l)) (sym (sees_operator at o ts)) le

-- the loop goes from a left side to the whole
goes_on : (a b : Tree) (at : At) (o : Op) (d m : ℕ) (rest : List Token) (out : Option Found) → m ≤ level o → height (joined a at o b) ≤ suc d
    → expr d (level o + 1) (tokens_of b ++ rest) ≡ Some (found b rest)
    → ((k : ℕ) → suc d < height (joined a at o b) + k → more (expr d) k (suc d) m (found (joined a at o b) rest) ≡ out)
    → (k : ℕ) → suc d < height a + k → more (expr d) k (suc d) m (found a (token at (w.Punct (operator_number o)) ∷ (tokens_of b ++ rest))) ≡ out
goes_on a b at o d m rest out least high right h zero lt = let never : ⊥ = omega arith in absurd never
goes_on a b at o d m rest out least high right h (suc k) lt =
    let after_a = token at (w.Punct (operator_number o)) ∷ (tokens_of b ++ rest) in
    turn (expr d) k (suc d) m (found a after_a) (found b rest) o (tokens_of b ++ rest) (sees_operator at o (tokens_of b ++ rest)) least (omega arith) right
    ∙ h k (omega arith)

-- Whatever the loop makes of the expression and what follows it, reading makes of its tokens and what follows them.
pub reads : (t : Tree) (d m : ℕ) (rest : List Token) (out : Option Found) → IsGrouped t → height t ≤ d → m ≤ binds t → Follows (binds t) rest
    → ((k : ℕ) → d < height t + k → more (below d) k d m (found t rest) ≡ out) → expr d m (tokens_of t ++ rest) ≡ out
reads t zero m rest out g high least f h = let low = height_positive t in let never : ⊥ = omega arith in absurd never
reads (number at n) (suc d) m rest out g high least f h = begins d m _ (found (number at n) rest) (read_number (expr d) at n rest) ∙ h (suc d) (omega arith)
reads (name at x) (suc d) m rest out g high least f h = begins d m _ (found (name at x) rest) (read_name (expr d) at x rest f.no_index) ∙ h (suc d) (omega arith)
reads (element at x o t c) (suc d) m rest out g high least f h =
    let z = token c (w.Punct 5) in
    let inside = reads t d 1 (z ∷ rest) (Some (found t (z ∷ rest))) g (omega arith) (binds_something t) (record { no_index = refl; looser = tt }) (λ k lt. closes (below d) k d 1 (found t (z ∷ rest)) tt) in
    begins d m _ (found (element at x o t c) rest) (read_element (expr d) at o c x t rest inside) ∙ h (suc d) (omega arith)
reads (brackets o t c) (suc d) m rest out g high least f h =
    let z = token c (w.Punct 1) in
    let inside = reads t d 1 (z ∷ rest) (Some (found t (z ∷ rest))) g (omega arith) (binds_something t) (record { no_index = refl; looser = tt }) (λ k lt. closes (below d) k d 1 (found t (z ∷ rest)) tt) in
    begins d m _ (found (brackets o t c) rest) (read_brackets (expr d) o c t rest inside) ∙ h (suc d) (omega arith)
reads (negation at t) (suc d) m rest out g high least f h =
    let inside = reads t d 7 rest (Some (found t rest)) g.1 (omega arith) g.0 (follows_mono 7 (binds t) rest g.0 f) (λ k lt. closes_tight (below d) k d t rest) in
    begins d m _ (found (negation at t) rest) (read_negated (expr d) at t rest inside) ∙ h (suc d) (omega arith)
reads (logical_not at t) (suc d) m rest out g high least f h =
    let inside = reads t d 7 rest (Some (found t rest)) g.1 (omega arith) g.0 (follows_mono 7 (binds t) rest g.0 f) (λ k lt. closes_tight (below d) k d t rest) in
    begins d m _ (found (logical_not at t) rest) (read_denied (expr d) at t rest inside) ∙ h (suc d) (omega arith)
reads (joined a at o b) (suc d) m rest out g high least f h =
    let after_a = token at (w.Punct (operator_number o)) ∷ (tokens_of b ++ rest) in
    let right = reads b d (level o + 1) rest (Some (found b rest)) g.3 (omega arith) (omega (arith, g.1)) (follows_mono (level o) (binds b) rest (omega (arith, g.1)) f) (λ k lt. closes_after (level o) (below d) k d b rest f) in
    let whole = reads a (suc d) m after_a out g.2 (omega arith) (omega (arith, g.0)) (record { no_index = not_index at o (tokens_of b ++ rest); looser = looks_on at o (tokens_of b ++ rest) (binds a) g.0 }) (goes_on a b at o d m rest out least high right h) in
    ap (expr (suc d) m) (append_assoc (tokens_of a) (token at (w.Punct (operator_number o)) ∷ tokens_of b) rest) ∙ whole

-- what the grammar has is read, where nothing follows that could go on
pub reads_all : (t : Tree) (d : ℕ) (rest : List Token) → IsGrouped t → height t ≤ d → after 4 rest ≡ None → next_operator rest ≡ None → expr d 1 (tokens_of t ++ rest) ≡ Some (found t rest)
reads_all t d rest g high no_index no_more =
    let nothing : (l : ℕ) → Follows l rest = λ l. record { no_index = no_index; looser = subst (λ (r : Option (Op × List Token)). IfSome r (λ x. level x.0 ≤ l)) (sym no_more) tt } in
    reads t d 1 rest (Some (found t rest)) g high (binds_something t) (nothing (binds t)) (λ k lt. closes_after 0 (below d) k d t rest (nothing 0))
