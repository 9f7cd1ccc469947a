-- What is declared where a printed body is read again: all that was declared where it was first read.
use Rattle.std.specs.Prelude.{◌⊎◌, ◌≡◌, ◌≤◌, ℕ, Bool, true, false, cond, ◌||◌, bytes_eq, nat_lt, List, [], ◌∷◌, ◌++◌, map}
use Rattle.std.proofs.Common.{refl, sym, ap, subst, ◌∙◌, inl, inr}
use Rattle.std.specs.List.{list_any}
use Rattle.std.proofs.lemmas.List.Folds.{list_any-append}
use Rattle.std.proofs.lemmas.Bool.{ltb-false}
use Rattle.c_lang.specs.Names.{Bytes}
use Rattle.c_lang.specs.Trees.{Statement, Statements, statement_of, statements, none, more}
use Rattle.c_lang.specs.declared.stmt.Stmt.{Stmt}
use Rattle.c_lang.specs.declared.unit.Pos.{Pos}
use Rattle.c_lang.specs.declared.refusal.Refusal.{Refusal}
use Rattle.std.proofs.lemmas.Slice.Eq.{bytes_eq-Decides}
use Rattle.c_lexer.proofs.Cases.{same_bytes}
use Rattle.c_grammar.specs.Scopes.{Scope, is_declared, declare, arity_refusals}
use Rattle.c_lang.specs.Refusals.{refused_at, past_limit}
use Rattle.merge_printer.proofs.Fitting.{StatementFits, StatementsFit, scope_behind, scope_behind_all, Keeps, KeepsAll}

-- ---- what is declared

or_cases : (a b : Bool) → (a || b) ≡ true → (a ≡ true) ⊎ (b ≡ true)
or_cases true b h = inl refl
or_cases false b h = inr h

or_true : (a b : Bool) → b ≡ true → (a || b) ≡ true
or_true true b h = refl
or_true false b h = h

or_left : (a b : Bool) → a ≡ true → (a || b) ≡ true
or_left true b h = refl
or_left false b h = absurd cc

or_none : (b : Bool) → (b || false) ≡ b
or_none true = refl
or_none false = refl

abbrev added : Scope → Bytes → List Bytes
added sc x = sc.declared ++ x ∷ []

pub declared_cases : (sc : Scope) (x y : Bytes) → is_declared (declare sc x) y ≡ true → (is_declared sc y ≡ true) ⊎ (y ≡ x)
declared_cases sc x y h = by_test (is_declared sc x) h
  where
    by_test : (b : Bool) → list_any (bytes_eq y) (cond b sc.declared (added sc x)) ≡ true → (is_declared sc y ≡ true) ⊎ (y ≡ x)
    by_test true h = inl h
    by_test false h = elim (or_cases (is_declared sc y) (bytes_eq y x) (ap (λ (b : Bool). is_declared sc y || b) (sym (or_none (bytes_eq y x))) ∙ sym (list_any-append (bytes_eq y) sc.declared (x ∷ [])) ∙ h)) [
      | inl old ↦ inl old
      | inr new ↦ inr (same_bytes y x new)
    ]

pub declared_before : (sc : Scope) (x y : Bytes) → is_declared sc y ≡ true → is_declared (declare sc x) y ≡ true
declared_before sc x y h = by_test (is_declared sc x)
  where
    by_test : (b : Bool) → list_any (bytes_eq y) (cond b sc.declared (added sc x)) ≡ true
    by_test true = h
    by_test false = list_any-append (bytes_eq y) sc.declared (x ∷ []) ∙ or_left (is_declared sc y) (bytes_eq y x || false) h

pub declared_now : (sc : Scope) (x : Bytes) → is_declared (declare sc x) x ≡ true
declared_now sc x = by_test (is_declared sc x) refl
  where
    by_test : (b : Bool) → is_declared sc x ≡ b → list_any (bytes_eq x) (cond b sc.declared (added sc x)) ≡ true
    by_test true h = h
    by_test false h =
        list_any-append (bytes_eq x) sc.declared (x ∷ []) ∙ or_true (is_declared sc x) (bytes_eq x x || false) (or_none (bytes_eq x x) ∙ (bytes_eq-Decides x x).1 refl)

-- ---- one scope has all that another has

abbrev pub Covers : Scope → Scope → Type 0
Covers sc now = (x : Bytes) → is_declared sc x ≡ true → is_declared now x ≡ true

pub covers_more : (sc now : Scope) (x : Bytes) → Covers sc now → Covers sc (declare now x)
covers_more sc now x covers y h = declared_before now x y (covers y h)

pub covers_both : (sc now : Scope) (x : Bytes) → Covers sc now → Covers (declare sc x) (declare now x)
covers_both sc now x covers y h = elim (declared_cases sc x y h) [
  | inl old ↦ declared_before now x y (covers y old)
  | inr same ↦ subst (λ (z : Bytes). is_declared (declare now x) z ≡ true) (sym same) (declared_now now x)
]

-- ---- statements that are read again

abbrev pub mirror : List Stmt → Statements
mirror xs = statements (map statement_of xs)

-- They fit, their calls go at once where they are read, and what was declared behind them is declared then.
pub record Reads (in_loop : Bool) (xs : List Stmt) (now after : Scope) : Type 0 where
  pub fits : StatementsFit in_loop (mirror xs)
  pub keeps : KeepsAll now (mirror xs)
  pub covers : Covers after (scope_behind_all (mirror xs) now)

pub none_read : (in_loop : Bool) (now after : Scope) → Covers after now → Reads in_loop [] now after
none_read in_loop now after covers = record { fits = tt; keeps = tt; covers = covers }

pub one_read : {in_loop : Bool} {s : Stmt} {now after : Scope} (t : Statement) → statement_of s ≡ t → StatementFits in_loop t → Keeps now t → Covers after (scope_behind t now) → Reads in_loop (s ∷ []) now after
one_read {in_loop} {s} {now} {after} t is fits keeps covers = record {
  fits = subst (λ (t : Statement). StatementsFit in_loop (more t none)) (sym is) (fits, tt);
  keeps = subst (λ (t : Statement). KeepsAll now (more t none)) (sym is) (keeps, tt);
  covers = subst (λ (t : Statement). Covers after (scope_behind t now)) (sym is) covers;
}

joined_fit : (in_loop : Bool) (xs ys : List Stmt) → StatementsFit in_loop (mirror xs) → StatementsFit in_loop (mirror ys) → StatementsFit in_loop (mirror (xs ++ ys))
joined_fit in_loop [] ys a b = b
joined_fit in_loop (x ∷ xs) ys a b = (a.0, joined_fit in_loop xs ys a.1 b)

joined_keep : (xs ys : List Stmt) (now : Scope) → KeepsAll now (mirror xs) → KeepsAll (scope_behind_all (mirror xs) now) (mirror ys) → KeepsAll now (mirror (xs ++ ys))
joined_keep [] ys now a b = b
joined_keep (x ∷ xs) ys now a b = (a.0, joined_keep xs ys (scope_behind (statement_of x) now) a.1 b)

joined_scope : (xs ys : List Stmt) (now : Scope) → scope_behind_all (mirror (xs ++ ys)) now ≡ scope_behind_all (mirror ys) (scope_behind_all (mirror xs) now)
joined_scope [] ys now = refl
joined_scope (x ∷ xs) ys now = joined_scope xs ys (scope_behind (statement_of x) now)

pub both_read : {in_loop : Bool} (xs ys : List Stmt) (now mid after : Scope) → Reads in_loop xs now mid → Reads in_loop ys (scope_behind_all (mirror xs) now) after → Reads in_loop (xs ++ ys) now after
both_read {in_loop} xs ys now mid after a b = record {
  fits = joined_fit in_loop xs ys a.fits b.fits;
  keeps = joined_keep xs ys now a.keeps b.keeps;
  covers = subst (λ (sc : Scope). Covers after sc) (sym (joined_scope xs ys now)) b.covers;
}

-- ---- refusals

pub none_before : (xs ys : List Refusal) → xs ++ ys ≡ [] → xs ≡ []
none_before [] ys h = refl
none_before (x ∷ xs) ys h = absurd cc

pub few_parameters : (xs : List Refusal) (p : Pos) (n : ℕ) → xs ++ arity_refusals p n ≡ [] → n ≤ 32
few_parameters (x ∷ xs) p n h = absurd cc
few_parameters [] p n h = by_test (nat_lt 32 n) refl h
  where
    by_test : (b : Bool) → nat_lt 32 n ≡ b → cond b (refused_at past_limit p ∷ []) [] ≡ [] → n ≤ 32
    by_test true test e = absurd cc
    by_test false test e = ltb-false 32 n test
