-- An entry with a fact more is put where the first one of its loop stands, or at the end.
use Rattle.std.proofs.Common.{◌≡◌, ◌≤◌, ◌<◌, ◌+◌, ℕ, suc, Bool, true, false, not, cond, ◌&&◌, if◌then◌else◌, List, [], ◌∷◌, ◌++◌, length, slice_set, slice_index_or, Option, Some, None, All, refl, ap, subst, arith}
use Rattle.std.specs.List.{position_or_len}
use Rattle.std.proofs.lemmas.List.Elements.{All-cons, All-nil, All-head, All-tail, All-append}
use Rattle.c_lang.specs.Names.{Bytes}
use Rattle.c_lang.specs.declared.program.Program.{Program}
use Rattle.terms.specs.declared.fact.Fact.{Fact}
use Rattle.terms.specs.declared.fact.Fact.TheVariants as fact
use Rattle.terms.specs.Symbols.{same_sym}
use Rattle.terms.specs.Code.SymbolLaws.{same_sym-Decides}
use Rattle.loop_invariants.specs.declared.hints.LoopInvariants.{LoopInvariants}
use Rattle.loop_invariants.specs.EntryNames.{bound}
use Rattle.loop_invariants.specs.Binding.{BindsBound}
use Rattle.loop_invariants.specs.Hints.{Hints, HintsBind}
use Rattle.loop_invariants.specs.Clauses.{Names, Place, may_be_fact, loop_place}
use Rattle.loop_invariants.specs.Adding.{is_of, with_invariant, added, may_be_added, may_stand_at}

-- the entry with the fact behind those that it has
abbrev pub extended : Fact → LoopInvariants → LoopInvariants
extended fact l = record l { facts = l.facts ++ (fact ∷ []) }

abbrev pub place : Bytes → ℕ → List LoopInvariants → ℕ
place func number ls = position_or_len (is_of func number) ls

module _ (func : Bytes) (number : ℕ) (fact : Fact) where
  abbrev pub one : LoopInvariants
  one = record { func = func; number = number; facts = fact ∷ [] }

  pub set_there : (ls : List LoopInvariants) (d : LoopInvariants) → place func number ls < length ls
      → slice_set ls (place func number ls) (extended fact (slice_index_or ls (place func number ls) d)) ≡ with_invariant ls func number fact
  set_there [] d within = absurd (omega (arith))
  set_there (l ∷ ls) d within = by (is_of func number l) within (set_there ls d)
    where
      n : ℕ
      n = place func number ls

      at_next : (k : ℕ) → suc n ≡ k → slice_set ls n (extended fact (slice_index_or ls n d)) ≡ with_invariant ls func number fact
          → slice_set (l ∷ ls) k (extended fact (slice_index_or (l ∷ ls) k d)) ≡ l ∷ with_invariant ls func number fact
      at_next k e rest = subst (λ k. slice_set (l ∷ ls) k (extended fact (slice_index_or (l ∷ ls) k d)) ≡ l ∷ with_invariant ls func number fact) e
          (ap (λ xs. l ∷ xs) rest)

      by : (b : Bool) → cond (not b) (1 + n) 0 < suc (length ls)
          → (n < length ls → slice_set ls n (extended fact (slice_index_or ls n d)) ≡ with_invariant ls func number fact)
          → slice_set (l ∷ ls) (cond (not b) (1 + n) 0) (extended fact (slice_index_or (l ∷ ls) (cond (not b) (1 + n) 0) d))
          ≡ (if b then extended fact l ∷ ls else l ∷ with_invariant ls func number fact)
      by true less rest = refl
      by false less rest =
          let below : n < length ls = omega (arith) in
          let next : suc n ≡ 1 + n = omega (arith) in
          at_next (1 + n) next (rest below)

  pub put_behind : (ls : List LoopInvariants) → length ls ≤ place func number ls → ls ++ (one ∷ []) ≡ with_invariant ls func number fact
  put_behind [] far = refl
  put_behind (l ∷ ls) far = by (is_of func number l) far (put_behind ls)
    where
      n : ℕ
      n = place func number ls

      by : (b : Bool) → suc (length ls) ≤ cond (not b) (1 + n) 0
          → (length ls ≤ n → ls ++ (one ∷ []) ≡ with_invariant ls func number fact)
          → l ∷ (ls ++ (one ∷ [])) ≡ (if b then (record l { facts = l.facts ++ (fact ∷ []) }) ∷ ls else l ∷ with_invariant ls func number fact)
      by true less rest = absurd (omega (arith))
      by false less rest =
          let below : length ls ≤ n = omega (arith) in
          ap (λ xs. l ∷ xs) (rest below)

-- ---- what a fact that may stand binds

left_true : (a b : Bool) → (a && b) ≡ true → a ≡ true
left_true true b e = refl
left_true false b e = e

pub allowed_binds : (names : Names) (f : Fact) → may_be_fact names f ≡ true → BindsBound f
allowed_binds names (fact.Plain f) e = tt
allowed_binds names (fact.All x lo hi f) e = (same_sym-Decides x bound).0 (left_true (same_sym x bound) _ e)

pub added_binds : (p : Program) (func : Bytes) (number : ℕ) (f : Fact) → may_be_added p func number f ≡ true → BindsBound f
added_binds p func number f e = by (loop_place p func number) e
  where
    by : (at : Option Place) → may_stand_at p at f ≡ true → BindsBound f
    by None may = cc
    by (Some at) may = allowed_binds _ f may

with_binds : (ls : List LoopInvariants) (func : Bytes) (number : ℕ) (f : Fact) → All (λ l. All BindsBound l.facts) ls → BindsBound f
    → All (λ l. All BindsBound l.facts) (with_invariant ls func number f)
with_binds [] func number f all binds = All-cons (λ l. All BindsBound l.facts) _ [] (All-cons BindsBound f [] binds (All-nil BindsBound)) (All-nil (λ l. All BindsBound l.facts))
with_binds (l ∷ ls) func number f all binds = by (is_of func number l) (with_binds ls func number f others binds)
  where
    first : All BindsBound l.facts
    first = All-head (λ l. All BindsBound l.facts) l ls all

    others : All (λ l. All BindsBound l.facts) ls
    others = All-tail (λ l. All BindsBound l.facts) l ls all

    by : (b : Bool) → All (λ l. All BindsBound l.facts) (with_invariant ls func number f)
        → All (λ l. All BindsBound l.facts) (if b then (record l { facts = l.facts ++ (f ∷ []) }) ∷ ls else l ∷ with_invariant ls func number f)
    by true rest = All-cons (λ l. All BindsBound l.facts) _ ls (All-append BindsBound l.facts (f ∷ []) first (All-cons BindsBound f [] binds (All-nil BindsBound))) others
    by false rest = All-cons (λ l. All BindsBound l.facts) l _ first rest

pub still_bind : (hints : Hints) (func : Bytes) (number : ℕ) (f : Fact) → HintsBind hints → BindsBound f → HintsBind (added hints func number f)
still_bind hints func number f bind binds = record {
  contracts = bind.contracts;
  loops = with_binds hints.loops func number f bind.loops binds;
}
