-- A unit is read exactly where it is in the grammar.
use Rattle.std.proofs.Common.{◌≡◌, ℕ, zero, suc, ◌+◌, ◌<◌, ◌≤◌, max, List, [], ◌∷◌, ◌++◌, length, Option, Some, None, refl, sym, ap, ◌∙◌, subst, arith}
use Rattle.std.proofs.lemmas.List.{length-append}
use Rattle.c_lang.specs.declared.unit.Unit.{Unit}
use Rattle.c_lang.specs.declared.program.Program.{Program}
use Rattle.c_grammar.specs.declared.token.Token.{Token}
use Rattle.c_expressions.specs.Code.ParseSteps.{◌>>=◌}
use Rattle.c_expressions.proofs.ExpressionSound.{bind_some, some_is}
use Rattle.c_grammar.specs.Units.{Parts}
use Rattle.c_grammar.specs.Units.{External, number, array, pointer, prototype, function, external_tokens, AreExternals, add, add_all, no_parts, unit_tokens, unit_height}
use Rattle.c_grammar.specs.Grammar.{program_of, Gram}
use Rattle.c_parser.specs.Code.UnitReading.{external, externals, unit_at}
use Rattle.c_parser.proofs.UnitComplete.{external_again}
use Rattle.c_parser.proofs.UnitSound.{external-read}

module _ (u : Unit) (d : ℕ) where
  -- a declaration has a first token
  goes_on : (k : ℕ) (a : Parts) (x : External) (rest : List Token)
      → externals u d (suc k) a (external_tokens x ++ rest) ≡ (external u d a (external_tokens x ++ rest) >>= λ y. externals u d k y.0 y.1)
  unfolding externals
  goes_on k a (number int at x i end) rest = refl
  goes_on k a (array int at x o n size c i end) rest = refl
  goes_on k a (pointer int p i end) rest = refl
  goes_on k a (prototype h end) rest = refl
  goes_on k a (function h o ts c) rest = refl

  has_tokens : (x : External) → 0 < length (external_tokens x)
  has_tokens (number int at x i end) = omega arith
  has_tokens (array int at x o n size c i end) = omega arith
  has_tokens (pointer int p i end) = omega arith
  has_tokens (prototype h end) = omega arith
  has_tokens (function h o ts c) = omega arith

  turns_fit : (tree : List External) → length tree ≤ length (unit_tokens tree)
  turns_fit [] = omega arith
  turns_fit (x ∷ xs) = omega (arith, has_tokens x, turns_fit xs, length-append (external_tokens x) (unit_tokens xs))

  externals_again : (tree : List External) (k : ℕ) (a : Parts) → AreExternals u tree → unit_height tree ≤ d → length tree < k → externals u d k a (unit_tokens tree) ≡ Some (add_all a tree)
  unfolding externals
  externals_again tree zero a valid high turns = let never : ⊥ = omega arith in absurd never
  externals_again [] (suc k) a valid high turns = refl
  externals_again (x ∷ xs) (suc k) a valid high turns =
      goes_on k a x (unit_tokens xs)
      ∙ ap (λ (r : Option (Parts × List Token)). r >>= λ y. externals u d k y.0 y.1) (external_again u d x a (unit_tokens xs) valid.0 (omega arith))
      ∙ externals_again xs k (add a x) valid.1 (omega arith) (omega arith)

  record AreRead (a : Parts) (ts : List Token) (out : Parts) : Type 0 where
    tree : List External
    valid : AreExternals u tree
    high : unit_height tree ≤ d
    parts : unit_tokens tree ≡ ts
    same : add_all a tree ≡ out

  externals-read : (k : ℕ) (a : Parts) (ts : List Token) (out : Parts) → externals u d k a ts ≡ Some out → AreRead a ts out
  unfolding externals
  externals-read zero a ts out q = absurd cc
  externals-read (suc k) a [] out q = record { tree = []; valid = tt; high = omega arith; parts = refl; same = some_is a out q }
  externals-read (suc k) a (t ∷ ts) out q =
      let x = bind_some (external u d a (t ∷ ts)) (λ y. externals u d k y.0 y.1) out q in
      let one = external-read u d a (t ∷ ts) x.0 x.1 in
      let more = externals-read k x.0.0 x.0.1 out x.2 in
      let high = one.high in
      let later = more.high in
      record {
        tree = one.tree ∷ more.tree;
        valid = (one.valid, more.valid);
        high = omega arith;
        parts = ap (λ (us : List Token). external_tokens one.tree ++ us) more.parts ∙ sym one.parts;
        same = ap (λ (b : Parts). add_all b more.tree) one.same ∙ more.same;
      }

  pub is_read : (ts : List Token) (p : Program) → Gram u d ts p → unit_at u d ts ≡ Some p
  unfolding unit_at
  is_read ts p gram =
      let all = unit_tokens gram.tree in
      let read = externals_again gram.tree (length all + 1) (no_parts u) gram.valid gram.height_fits (omega (arith, turns_fit gram.tree)) in
      let made = ap (λ (r : Option Parts). r >>= λ a. Some (program_of a)) read ∙ ap (λ (q : Program). Some q) gram.program in
      subst (λ (us : List Token). unit_at u d us ≡ Some p) gram.written made

  pub is_gram : (ts : List Token) (p : Program) → unit_at u d ts ≡ Some p → Gram u d ts p
  unfolding unit_at
  is_gram ts p q =
      let a = bind_some (externals u d (length ts + 1) (no_parts u) ts) (λ b. Some (program_of b)) p q in
      let r = externals-read (length ts + 1) (no_parts u) ts a.0 a.1 in
      record { tree = r.tree; valid = r.valid; height_fits = r.high; written = r.parts; program = ap program_of r.same ∙ some_is (program_of a.0) p a.2 }

  pub no_gram : (ts : List Token) → unit_at u d ts ≡ None → (p : Program) → Gram u d ts p → ⊥
  no_gram ts none p gram = let read = is_read ts p gram in absurd cc

  -- a program of one height is one of any greater height
  raised : (e : ℕ) (ts : List Token) (p : Program) → d ≤ e → Gram u d ts p → Gram u e ts p
  raised e ts p le gram =
      let high = gram.height_fits in
      record { tree = gram.tree; valid = gram.valid; height_fits = omega arith; written = gram.written; program = gram.program }

-- tokens are at most one program
pub one : (u : Unit) (d e : ℕ) (ts : List Token) (p q : Program) → Gram u d ts p → Gram u e ts q → p ≡ q
one u d e ts p q a b =
    let m = max d e in
    some_is p q (sym (is_read u m ts p (raised u d m ts p (omega arith) a)) ∙ is_read u m ts q (raised u e m ts q (omega arith) b))
