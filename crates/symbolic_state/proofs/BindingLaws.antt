-- What is found of the values that names got, as they change.
use Rattle.std.proofs.Common.{◌≡◌, ℕ, zero, suc, ◌+◌, ◌-◌, ◌<◌, Bool, true, false, cond, if◌then◌else◌, nat_eq, nat_lt, List, [], ◌∷◌, ◌++◌, length, take, slice_index_or, Option, Some, None, Vec, Global, refl, sym, ap, ◌∙◌, arith}
use Rattle.std.specs.Map.{lookup, set_value}
use Rattle.std.specs.List.{AllWithin}
use Rattle.std.specs.Str.{bytes_eq}
use Rattle.std.proofs.lemmas.List.{length-append}
use Rattle.std.proofs.Math.Seq.{take-append_seam}
use Rattle.std.proofs.lemmas.Slice.Eq.{bytes_eq-Decides}
use Rattle.indexmap.specs.IndexMap.{insert_entry}
use Rattle.c_lang.specs.Names.{Bytes}
use Rattle.symbolic_state.specs.declared.bindings.Binding.{Binding}
use Rattle.symbolic_state.specs.Code.Bindings.{items_or_none, ends_at, front, later, latest}

-- ---- lists of values

pub ends_at-last : (n : ℕ) (bs : List Binding) (b : Binding) → ends_at n (bs ++ (b ∷ [])) ≡ nat_eq b.step n
ends_at-last n [] b = refl
ends_at-last n (c ∷ []) b = refl
ends_at-last n (c ∷ (d ∷ bs)) b = ends_at-last n (d ∷ bs) b

pub front-last : (bs : List Binding) (b : Binding) → front (bs ++ (b ∷ [])) ≡ bs
front-last bs b =
    let count : length (bs ++ (b ∷ [])) ≡ length bs + 1 = length-append bs (b ∷ []) in
    let less : length (bs ++ (b ∷ [])) - 1 ≡ length bs = omega (arith, count) in
    ap (λ n. take n (bs ++ (b ∷ []))) less ∙ take-append_seam bs (b ∷ [])

module _ (t : ℕ) where
  abbrev pub IsEarly : Binding → Type 0
  IsEarly b = nat_lt b.step t ≡ true

  abbrev pub IsLate : Binding → Type 0
  IsLate b = nat_lt b.step t ≡ false

  pub latest_none : (bs : List Binding) → AllWithin IsLate bs 0 (length bs) → latest t bs ≡ None
  latest_none [] late = refl
  latest_none (b ∷ bs) late =
      ap (λ c. if c then later (latest t bs) b else latest t bs) (late 0 b (omega arith) (omega arith))
      ∙ latest_none bs (λ k d low high. late (suc k) d (omega arith) (omega arith))

  pub latest_at : (bs : List Binding) (k : ℕ) (d : Binding) → k < length bs → AllWithin IsEarly bs 0 (suc k) → AllWithin IsLate bs (suc k) (length bs)
      → latest t bs ≡ Some (slice_index_or bs k d)
  latest_at [] k d within early late = let never : ⊥ = omega (arith, within) in absurd never
  latest_at (b ∷ bs) zero d within early late =
      ap (λ c. if c then later (latest t bs) b else latest t bs) (early 0 d (omega arith) (omega arith))
      ∙ ap (λ o. later o b) (latest_none bs (λ k e low high. late (suc k) e (omega arith) (omega arith)))
  latest_at (b ∷ bs) (suc k) d within early late =
      ap (λ c. if c then later (latest t bs) b else latest t bs) (early 0 d (omega arith) (omega arith))
      ∙ ap (λ o. later o b) (latest_at bs k d (omega arith) (λ i e low high. early (suc i) e (omega arith) (omega arith)) (λ i e low high. late (suc i) e (omega arith) (omega arith)))

-- ---- tables

from_true : (x y : Bytes) → bytes_eq x y ≡ true → x ≡ y
from_true x y = (bytes_eq-Decides x y).0

-- a name is told from another whichever stands first
apart : (x y z : Bytes) → bytes_eq x y ≡ false → y ≡ z → bytes_eq x z ≡ false
apart x y z differ same = sym (ap (λ n. bytes_eq x n) same) ∙ differ

symmetric : (x y : Bytes) → bytes_eq x y ≡ bytes_eq y x
symmetric x y = by (bytes_eq x y) (bytes_eq y x) refl refl
  where
    by : (b c : Bool) → bytes_eq x y ≡ b → bytes_eq y x ≡ c → b ≡ c
    by true true p q = refl
    by true false p q = sym ((bytes_eq-Decides y x).1 (sym (from_true x y p))) ∙ q
    by false true p q = sym p ∙ (bytes_eq-Decides x y).1 (sym (from_true y x q))
    by false false p q = refl

module _ {X : Type 0} where
  abbrev pub found : List (Bytes × X) → Bytes → Option X
  found entries x = lookup (λ k. bytes_eq x k) entries

  -- at an entry whose name is k
  at_name : (c d : Bool) (v old : X) (rest : Option X) → d ≡ c → cond d (Some v) rest ≡ (if c then Some v else cond d (Some old) rest)
  at_name true true v old rest e = refl
  at_name true false v old rest e = cc
  at_name false true v old rest e = cc
  at_name false false v old rest e = refl

  -- at an entry with another name
  at_other : (c d : Bool) (v old : X) (after rest : Option X) → (d ≡ true → c ≡ false) → after ≡ (if c then Some v else rest)
      → cond d (Some old) after ≡ (if c then Some v else cond d (Some old) rest)
  at_other c true v old after rest other e = sym (ap (λ b. if b then Some v else Some old) (other refl))
  at_other c false v old after rest other e = e

  pub found-insert : (entries : List (Bytes × X)) (k : Bytes) (v : X) (x : Bytes)
      → found (insert_entry bytes_eq entries k v) x ≡ (if bytes_eq k x then Some v else found entries x)
  found-insert [] k v x = ap (λ b. cond b (Some v) None) (symmetric x k)
  found-insert (e ∷ entries) k v x = by (bytes_eq k e.0) refl (found-insert entries k v x)
    where
      by : (b : Bool) → bytes_eq k e.0 ≡ b → found (insert_entry bytes_eq entries k v) x ≡ (if bytes_eq k x then Some v else found entries x)
          → found (if b then (e.0, v) ∷ entries else e ∷ insert_entry bytes_eq entries k v) x ≡ (if bytes_eq k x then Some v else found (e ∷ entries) x)
      by true p rest = at_name (bytes_eq k x) (bytes_eq x e.0) v e.1 (found entries x) (symmetric x e.0 ∙ sym (ap (λ n. bytes_eq n x) (from_true k e.0 p)))
      by false p rest =
          at_other (bytes_eq k x) (bytes_eq x e.0) v e.1 (found (insert_entry bytes_eq entries k v) x) (found entries x)
          (λ q. apart k e.0 x p (sym (from_true x e.0 q))) rest

  -- a value that is written where the name is
  pub found-set : (entries : List (Bytes × X)) (k : Bytes) (w old : X) (x : Bytes) → found entries k ≡ Some old
      → found (set_value (λ n. bytes_eq k n) entries w) x ≡ (if bytes_eq k x then Some w else found entries x)
  found-set [] k w old x there = cc
  found-set (e ∷ entries) k w old x there = by (bytes_eq k e.0) refl (found-set entries k w old x)
    where
      by : (b : Bool) → bytes_eq k e.0 ≡ b
          → (found entries k ≡ Some old → found (set_value (λ n. bytes_eq k n) entries w) x ≡ (if bytes_eq k x then Some w else found entries x))
          → found (cond b ((e.0, w) ∷ entries) (e ∷ set_value (λ n. bytes_eq k n) entries w)) x ≡ (if bytes_eq k x then Some w else found (e ∷ entries) x)
      by true p rest = at_name (bytes_eq k x) (bytes_eq x e.0) w e.1 (found entries x) (symmetric x e.0 ∙ sym (ap (λ n. bytes_eq n x) (from_true k e.0 p)))
      by false p rest =
          at_other (bytes_eq k x) (bytes_eq x e.0) w e.1 (found (set_value (λ n. bytes_eq k n) entries w) x) (found entries x)
          (λ q. apart k e.0 x p (sym (from_true x e.0 q)))
          (rest (sym (ap (λ b. cond b (Some e.1) (found entries k)) p) ∙ there))

-- ---- values of names

abbrev Stored : Type 0
Stored = List (Bytes × Vec Binding Global)

abbrev pub values_in : Stored → Bytes → List Binding
values_in entries x = items_or_none (found entries x)

at_test : (b : Bool) (v : Vec Binding Global) (rest : Option (Vec Binding Global)) → items_or_none (if b then Some v else rest) ≡ (if b then v.items else items_or_none rest)
at_test true v rest = refl
at_test false v rest = refl

-- at the name what it had is changed, elsewhere nothing
same_name : (k x : Bytes) (f : List Binding → List Binding) (values : Bytes → List Binding) (w : List Binding) → w ≡ f (values k)
    → (if bytes_eq k x then w else values x) ≡ (if bytes_eq k x then f (values x) else values x)
same_name k x f values w is = by (bytes_eq k x) refl
  where
    by : (b : Bool) → bytes_eq k x ≡ b → (if b then w else values x) ≡ (if b then f (values x) else values x)
    by true p = is ∙ ap (λ n. f (values n)) (from_true k x p)
    by false p = refl

pub values-inserted : (f : List Binding → List Binding) (entries new : Stored) (k : Bytes) (v : Vec Binding Global) (x : Bytes) → new ≡ insert_entry bytes_eq entries k v
    → found entries k ≡ None → v.items ≡ f [] → values_in new x ≡ (if bytes_eq k x then f (values_in entries x) else values_in entries x)
values-inserted f entries new k v x is none value =
    ap (λ es. values_in es x) is ∙ ap items_or_none (found-insert entries k v x) ∙ at_test (bytes_eq k x) v (found entries x)
    ∙ same_name k x f (values_in entries) v.items (value ∙ ap f (sym (ap items_or_none none)))

pub values-written : (f : List Binding → List Binding) (entries new : Stored) (k : Bytes) (old w : Vec Binding Global) (x : Bytes) → new ≡ set_value (λ n. bytes_eq k n) entries w
    → found entries k ≡ Some old → w.items ≡ f old.items → values_in new x ≡ (if bytes_eq k x then f (values_in entries x) else values_in entries x)
values-written f entries new k old w x is there value =
    ap (λ es. values_in es x) is ∙ ap items_or_none (found-set entries k w old x there) ∙ at_test (bytes_eq k x) w (found entries x)
    ∙ same_name k x f (values_in entries) w.items (value ∙ ap f (sym (ap items_or_none there)))

pub values-kept : (f : List Binding → List Binding) (entries : Stored) (k x : Bytes) → found entries k ≡ None → [] ≡ f []
    → values_in entries x ≡ (if bytes_eq k x then f (values_in entries x) else values_in entries x)
values-kept f entries k x none value = by (bytes_eq k x) refl
  where
    by : (b : Bool) → bytes_eq k x ≡ b → values_in entries x ≡ (if b then f (values_in entries x) else values_in entries x)
    by true p = let here : values_in entries x ≡ [] = ap (values_in entries) (sym (from_true k x p)) ∙ ap items_or_none none in here ∙ value ∙ ap f (sym here)
    by false p = refl
