-- What is found in a table, as it changes.
use Rattle.std.proofs.Common.{◌≡◌, Bool, true, false, cond, if◌then◌else◌, List, [], ◌∷◌, Option, Some, None, refl, sym, ap, ◌∙◌}
use Rattle.std.specs.Borrow.{Bor}
use Rattle.std.specs.Map.{lookup}
use Rattle.std.specs.Str.{bytes_eq}
use Rattle.std.proofs.lemmas.Slice.Eq.{bytes_eq-Decides}
use Rattle.indexmap.specs.IndexMap.{insert_entry}
use Rattle.c_lang.specs.Names.{Bytes}

abbrev pub same_name : Bor Bytes → Bor Bytes → Bool
same_name k n = bytes_eq k.now n.now

abbrev pub value_of : {V : Type 0} → List (Bor Bytes × V) → Bytes → Option V
value_of entries x = lookup (λ k. bytes_eq x k.now) entries

from_true : (x y : Bytes) → bytes_eq x y ≡ true → x ≡ y
from_true x y = (bytes_eq-Decides x y).0

-- a name is told from another whichever stands first
apart : (x y z : Bytes) → bytes_eq x y ≡ false → y ≡ z → bytes_eq x z ≡ false
apart x y z differ same = sym (ap (λ n. bytes_eq x n) same) ∙ differ

symmetric : (x y : Bytes) → bytes_eq x y ≡ bytes_eq y x
symmetric x y = by (bytes_eq x y) (bytes_eq y x) refl refl
  where
    by : (b c : Bool) → bytes_eq x y ≡ b → bytes_eq y x ≡ c → b ≡ c
    by true true p q = refl
    by true false p q = sym ((bytes_eq-Decides y x).1 (sym (from_true x y p))) ∙ q
    by false true p q = sym p ∙ (bytes_eq-Decides x y).1 (sym (from_true y x q))
    by false false p q = refl

module _ {V : Type 0} where
  -- at an entry whose name is k
  at_name : (c d : Bool) (v old : V) (rest : Option V) → d ≡ c → cond d (Some v) rest ≡ (if c then Some v else cond d (Some old) rest)
  at_name true true v old rest e = refl
  at_name true false v old rest e = cc
  at_name false true v old rest e = cc
  at_name false false v old rest e = refl

  -- at an entry with another name
  at_other : (c d : Bool) (v old : V) (after rest : Option V) → (d ≡ true → c ≡ false) → after ≡ (if c then Some v else rest)
      → cond d (Some old) after ≡ (if c then Some v else cond d (Some old) rest)
  at_other c true v old after rest other e = sym (ap (λ b. if b then Some v else Some old) (other refl))
  at_other c false v old after rest other e = e

  pub found_insert : (entries : List (Bor Bytes × V)) (k : Bor Bytes) (v : V) (x : Bytes)
      → value_of (insert_entry same_name entries k v) x ≡ (if bytes_eq k.now x then Some v else value_of entries x)
  found_insert [] k v x = ap (λ b. cond b (Some v) None) (symmetric x k.now)
  found_insert (e ∷ entries) k v x = by (bytes_eq k.now e.0.now) refl (found_insert entries k v x)
    where
      by : (b : Bool) → bytes_eq k.now e.0.now ≡ b → value_of (insert_entry same_name entries k v) x ≡ (if bytes_eq k.now x then Some v else value_of entries x)
          → value_of (if b then (e.0, v) ∷ entries else e ∷ insert_entry same_name entries k v) x ≡ (if bytes_eq k.now x then Some v else value_of (e ∷ entries) x)
      by true p rest = at_name (bytes_eq k.now x) (bytes_eq x e.0.now) v e.1 (value_of entries x) (symmetric x e.0.now ∙ sym (ap (λ n. bytes_eq n x) (from_true k.now e.0.now p)))
      by false p rest =
          at_other (bytes_eq k.now x) (bytes_eq x e.0.now) v e.1 (value_of (insert_entry same_name entries k v) x) (value_of entries x)
          (λ q. apart k.now e.0.now x p (sym (from_true x e.0.now q))) rest
