-- What is found in a table, as it changes.
use Rattle.std.proofs.Common.{◌≡◌, ℕ, suc, ◌-◌, ◌<◌, ◌≤◌, Bool, true, false, cond, if◌then◌else◌, List, [], ◌∷◌, length, drop, get_or, Option, Some, None, refl, sym, ap, ap₂, ◌∙◌, arith, drop-cons}
use Rattle.std.specs.Borrow.{Bor}
use Rattle.std.specs.Map.{set_value}
use Rattle.std.specs.Str.{bytes_eq}
use Rattle.std.proofs.lemmas.Slice.Eq.{bytes_eq-Decides}
use Rattle.indexmap.specs.IndexMap.{insert_entry}
use Rattle.c_lang.specs.Names.{Bytes}
use Rattle.plain_run.specs.Steps.{updated}
pub use Rattle.plain_run.specs.Code.Names.{same_name}
use Rattle.plain_run.specs.Code.Names.{found}

pub from_true : (x y : Bytes) → bytes_eq x y ≡ true → x ≡ y
from_true x y = (bytes_eq-Decides x y).0

-- a name is told from another whichever stands first
apart : (x y z : Bytes) → bytes_eq x y ≡ false → y ≡ z → bytes_eq x z ≡ false
apart x y z differ same = sym (ap (λ n. bytes_eq x n) same) ∙ differ

symmetric : (x y : Bytes) → bytes_eq x y ≡ bytes_eq y x
symmetric x y = by (bytes_eq x y) (bytes_eq y x) refl refl
  where
    by : (b c : Bool) → bytes_eq x y ≡ b → bytes_eq y x ≡ c → b ≡ c
    by true true p q = refl
    by true false p q = sym ((bytes_eq-Decides y x).1 (sym (from_true x y p))) ∙ q
    by false true p q = sym p ∙ (bytes_eq-Decides x y).1 (sym (from_true y x q))
    by false false p q = refl

module _ {X : Type 0} where
  -- at an entry whose name is k
  at_name : (c d : Bool) (v old : X) (rest : Option X) → d ≡ c → cond d (Some v) rest ≡ (if c then Some v else cond d (Some old) rest)
  at_name true true v old rest e = refl
  at_name true false v old rest e = cc
  at_name false true v old rest e = cc
  at_name false false v old rest e = refl

  -- at an entry with another name
  at_other : (c d : Bool) (v old : X) (after rest : Option X) → (d ≡ true → c ≡ false) → after ≡ (if c then Some v else rest)
      → cond d (Some old) after ≡ (if c then Some v else cond d (Some old) rest)
  at_other c true v old after rest other e = sym (ap (λ b. if b then Some v else Some old) (other refl))
  at_other c false v old after rest other e = e

  pub found-insert : (entries : List (Bor Bytes × X)) (k : Bor Bytes) (v : X) (x : Bytes)
      → found (insert_entry same_name entries k v) x ≡ updated (found entries) k.now (Some v) x
  found-insert [] k v x = ap (λ b. cond b (Some v) None) (symmetric x k.now)
  found-insert (e ∷ entries) k v x = by (bytes_eq k.now e.0.now) refl (found-insert entries k v x)
    where
      by : (b : Bool) → bytes_eq k.now e.0.now ≡ b → found (insert_entry same_name entries k v) x ≡ updated (found entries) k.now (Some v) x
          → found (if b then (e.0, v) ∷ entries else e ∷ insert_entry same_name entries k v) x ≡ updated (found (e ∷ entries)) k.now (Some v) x
      by true p rest = at_name (bytes_eq k.now x) (bytes_eq x e.0.now) v e.1 (found entries x) (symmetric x e.0.now ∙ sym (ap (λ n. bytes_eq n x) (from_true k.now e.0.now p)))
      by false p rest =
          at_other (bytes_eq k.now x) (bytes_eq x e.0.now) v e.1 (found (insert_entry same_name entries k v) x) (found entries x)
          (λ q. apart k.now e.0.now x p (sym (from_true x e.0.now q))) rest

  -- a value that is written where the name is
  pub found-set : (entries : List (Bor Bytes × X)) (k : Bytes) (w old : X) (x : Bytes) → found entries k ≡ Some old
      → found (set_value (λ n. bytes_eq k n.now) entries w) x ≡ updated (found entries) k (Some w) x
  found-set [] k w old x there = cc
  found-set (e ∷ entries) k w old x there = by (bytes_eq k e.0.now) refl (found-set entries k w old x)
    where
      by : (b : Bool) → bytes_eq k e.0.now ≡ b
          → (found entries k ≡ Some old → found (set_value (λ n. bytes_eq k n.now) entries w) x ≡ updated (found entries) k (Some w) x)
          → found (cond b ((e.0, w) ∷ entries) (e ∷ set_value (λ n. bytes_eq k n.now) entries w)) x ≡ updated (found (e ∷ entries)) k (Some w) x
      by true p rest = at_name (bytes_eq k x) (bytes_eq x e.0.now) w e.1 (found entries x) (symmetric x e.0.now ∙ sym (ap (λ n. bytes_eq n x) (from_true k e.0.now p)))
      by false p rest =
          at_other (bytes_eq k x) (bytes_eq x e.0.now) w e.1 (found (set_value (λ n. bytes_eq k n.now) entries w) x) (found entries x)
          (λ q. apart k e.0.now x p (sym (from_true x e.0.now q)))
          (rest (sym (ap (λ b. cond b (Some e.1) (found entries k)) p) ∙ there))

pub at_test : {X Y : Type 0} (see : Option X → Y) (b : Bool) (v : X) (rest : Option X) → see (if b then Some v else rest) ≡ (if b then see (Some v) else see rest)
at_test see true v rest = refl
at_test see false v rest = refl

-- what a table stands for, as it changes
pub seen-insert : {X Y : Type 0} (see : Option X → Y) (entries : List (Bor Bytes × X)) (k : Bor Bytes) (v : X) (x : Bytes)
    → see (found (insert_entry same_name entries k v) x) ≡ updated (λ y. see (found entries y)) k.now (see (Some v)) x
seen-insert see entries k v x = ap see (found-insert entries k v x) ∙ at_test see (bytes_eq k.now x) v (found entries x)

-- ---- a table that is filled from the last declaration to the first, so that the first of one name counts

pub one-before : (n m : ℕ) → n ≤ m → n - 1 ≤ m
one-before n m within = omega arith

-- the declarations from an index on, one further to the front
pub drop-front : {D : Type 0} (all : List D) (n : ℕ) (d : D) → 0 < n → n ≤ length all → d ≡ get_or all (n - 1) d → drop (n - 1) all ≡ d ∷ drop n all
drop-front all n d low high is =
    let within : n - 1 < length all = omega arith in
    let next : suc (n - 1) ≡ n = omega arith in
    drop-cons all (n - 1) d within ∙ ap₂ (λ y k. y ∷ drop k all) (sym is) next

module _ {D X Y : Type 0} (name_of : D → Bytes) (named : List D → Bytes → Option D) (see : Option X → Y) (start : Option D → Y) where
  abbrev pub IsFilled : List (Bor Bytes × X) → List D → Type 0
  IsFilled entries all = (x : Bytes) → see (found entries x) ≡ start (named all x)

  pub IsFilled-more : (old new : List (Bor Bytes × X)) (k : Bor Bytes) (v : X) (d : D) (all : List D)
      → ((x : Bytes) → named (d ∷ all) x ≡ (if bytes_eq (name_of d) x then Some d else named all x))
      → new ≡ insert_entry same_name old k v → k.now ≡ name_of d → see (Some v) ≡ start (Some d) → IsFilled old all → IsFilled new (d ∷ all)
  IsFilled-more old new k v d all first is name value filled x =
      ap (λ entries. see (found entries x)) is ∙ seen-insert see old k v x
      ∙ ap₂ (λ n y. if bytes_eq n x then y else see (found old x)) name value
      ∙ ap (λ y. if bytes_eq (name_of d) x then start (Some d) else y) (filled x)
      ∙ sym (ap start (first x) ∙ at_test start (bytes_eq (name_of d) x) d (named all x))
