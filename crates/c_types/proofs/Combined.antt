-- What holds where several tests find nothing.
use Rattle.std.proofs.Common.{◌≡◌, ℕ, nat_lt, Bool, true, false, ◌&&◌, ◌||◌, Option, Some, None, refl, ap, arith}
use Rattle.std.specs.Prelude.{if◌then◌else◌, Result, Ok, Err}
use Rattle.std.specs.Result.{OnOk}
use Rattle.std.specs.Option.{is_some}
use Rattle.std.proofs.lemmas.Bool.Decides.{nat_tests}
use Rattle.c_lang.specs.declared.unit.Pos.{Pos}
use Rattle.c_lang.specs.declared.refusal.Refusal.{Refusal}
use Rattle.c_lang.specs.declared.stmt.Kind.{Kind}
use Rattle.c_lang.specs.declared.stmt.Kind.TheVariants.{Int, Fp}
use Rattle.c_lang.specs.Kinds.{same_kind}
use Rattle.c_lang.specs.Refusals as numbers
use Rattle.c_types.specs.Names.{smaller, fits}
use Rattle.c_types.specs.Checks.{at_place, first}

pub some_none : {X : Type 0} (x : X) → ◌≡◌ {A = Option X} (Some x) None → ⊥
some_none x h = cc

pub both_none : (a b : Option ℕ) → smaller a b ≡ None → (a ≡ None) × (b ≡ None)
both_none None b h = (refl, h)
both_none (Some m) None h = absurd (some_none m h)
both_none (Some m) (Some n) h = absurd (never (nat_lt n m) h) where
  never : (c : Bool) → if◌then◌else◌ {A = Option ℕ} c (Some n) (Some m) ≡ None → ⊥
  never true e = some_none n e
  never false e = some_none m e

pub smaller_none : (a b : Option ℕ) → a ≡ None → b ≡ None → smaller a b ≡ None
smaller_none a b h k = rw (h, k) refl

pub nothing_more : (a : Option ℕ) → smaller a None ≡ a
nothing_more None = refl
nothing_more (Some n) = refl

pub smaller_assoc : (a b c : Option ℕ) → smaller (smaller a b) c ≡ smaller a (smaller b c)
smaller_assoc None b c = refl
smaller_assoc (Some l) None c = refl
smaller_assoc (Some l) (Some m) None = by (nat_lt m l) where
  by : (t : Bool) → smaller (if◌then◌else◌ {A = Option ℕ} t (Some m) (Some l)) None ≡ if◌then◌else◌ {A = Option ℕ} t (Some m) (Some l)
  by true = refl
  by false = refl
smaller_assoc (Some l) (Some m) (Some n) = by (nat_lt m l) (nat_lt n m) (nat_lt n l) refl refl refl where
  by : (p q r : Bool) → nat_lt m l ≡ p → nat_lt n m ≡ q → nat_lt n l ≡ r → smaller (smaller (Some l) (Some m)) (Some n) ≡ smaller (Some l) (smaller (Some m) (Some n))
  by true true r hp hq hr = let e : nat_lt n l ≡ true = grind (arith, nat_tests, hp, hq) in rw (hp, hq, e) refl
  by true false r hp hq hr = rw (hp, hq) (rw hp refl)
  by false true r hp hq hr = rw (hp, hq) refl
  by false false r hp hq hr = let e : nat_lt n l ≡ false = grind (arith, nat_tests, hp, hq) in rw (hp, hq) (rw (hp, e) refl)

pub first_none : (a b : Option Refusal) → first a b ≡ None → (a ≡ None) × (b ≡ None)
first_none None b h = (refl, h)
first_none (Some r) b h = absurd (some_none r h)

pub none_first : (a b : Option Refusal) → a ≡ None → b ≡ None → first a b ≡ None
none_first a b h k = rw (h, k) refl

pub at_none : (o : Option ℕ) (p : Pos) → at_place o p ≡ None → o ≡ None
at_none None p h = refl
at_none (Some n) p h = absurd (some_none _ h)

pub none_at : (o : Option ℕ) (p : Pos) → o ≡ None → at_place o p ≡ None
none_at o p h = rw h refl

-- ---- tests that refuse

pub test_false : (c : Bool) (n : ℕ) → if◌then◌else◌ {A = Option ℕ} c (Some n) None ≡ None → c ≡ false
test_false true n h = absurd (some_none n h)
test_false false n h = refl

pub test_true : (c : Bool) (n : ℕ) → if◌then◌else◌ {A = Option ℕ} c None (Some n) ≡ None → c ≡ true
test_true true n h = refl
test_true false n h = absurd (some_none n h)

pub not_some : {X : Type 0} (o : Option X) → is_some o ≡ false → o ≡ None
not_some None h = refl
not_some (Some x) h = absurd cc

pub either_false : (a b : Bool) → (a || b) ≡ false → (a ≡ false) × (b ≡ false)
either_false true b h = absurd cc
either_false false b h = (refl, h)

pub both_true : (a b : Bool) → (a && b) ≡ true → (a ≡ true) × (b ≡ true)
both_true true b h = (refl, h)
both_true false b h = absurd cc

-- ---- kinds

pub same_sound : (j k : Kind) → same_kind j k ≡ true → j ≡ k
same_sound Int Int h = refl
same_sound Int (Fp n) h = absurd cc
same_sound (Fp m) Int h = absurd cc
same_sound (Fp m) (Fp n) h = let e : m ≡ n = grind (arith, nat_tests, h) in ap Fp e

pub same_itself : (k : Kind) → same_kind k k ≡ true
same_itself Int = refl
same_itself (Fp n) = grind (arith, nat_tests)

pub fit_sound : (p k : Kind) → fits p k ≡ None → p ≡ k
fit_sound p k h = same_sound p k (test_true (same_kind p k) numbers.wrong_kind h)

pub fit_itself : (p k : Kind) → p ≡ k → fits p k ≡ None
fit_itself p k h = rw (h, same_itself k) refl

-- ---- what holds of an answer that is no error

pub on_ok : {X E : Type 0} (r : Result X E) (P Q : Type 0) → (P → Q) → OnOk r P → OnOk r Q
on_ok (Ok x) P Q f h = f h
on_ok (Err e) P Q f h = tt
