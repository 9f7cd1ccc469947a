-- All stages, one behind the other.
use Rattle.std.proofs.Common.{◌≡◌, ◌∙◌, ◌<◌, ◌≤◌, ℕ, ◌+◌, ◌-◌, ◌^◌, List, [], ◌∷◌, ◌++◌, ap, sym, refl, arith, subst, Bool, true, false, ◌||◌, suc, zero, length, Option, Some, None}
use Rattle.std.specs.List.{All}
use Rattle.std.proofs.lemmas.List.Elements.{All-cons, All-nil, All-head, All-tail}
use Rattle.linear_rows.specs.declared.row.Row.{Row}
use Rattle.linear_rows.specs.Sums.{From, IsInForm}
use Rattle.linear_certs.specs.declared.entry.Entry.{Entry}
use Rattle.linear_certs.specs.declared.elimination.Stage.{Stage}
use Rattle.linear_certs.specs.Stages.{stage, first_stage, least_atom, eliminated, is_false, has_false}
use Rattle.linear_certs.specs.Answers.{NoFalseUpTo}
use Rattle.linear_certs.specs.Code.Building.{IsGood, IsBuilt, IsStageAt, AreStages}
use Rattle.linear_certs.proofs.LeastLaws.{AtLeast, least-from, from-least, eliminated-from}

-- How many atoms may be left: those from the least one on.
abbrev pub left_over : Option ℕ → ℕ
left_over None = 0
left_over (Some atom) = 2 ^ 32 - atom

pub good-forms : (rows : List Row) (entries : List Entry) → All (IsGood rows) entries → All (λ e. IsInForm e.row) entries
good-forms rows [] all = All-nil (λ e. IsInForm e.row)
good-forms rows (e ∷ es) all = All-cons (λ e. IsInForm e.row) e es (All-head (IsGood rows) e es all).form (good-forms rows es (All-tail (IsGood rows) e es all))

or-false : (a b : Bool) → a ≡ false → b ≡ false → (a || b) ≡ false
or-false false b h k = k
or-false true b h k = absurd cc

pub good-true : (rows : List Row) (entries : List Entry) → All (IsGood rows) entries → has_false entries ≡ false
good-true rows [] all = refl
good-true rows (e ∷ es) all = or-false (is_false e) (has_false es) (All-head (IsGood rows) e es all).not_false (good-true rows es (All-tail (IsGood rows) e es all))

pub built-here : (rows : List Row) (atom k : ℕ) (entries : List Entry) → stage rows k ≡ entries → NoFalseUpTo rows k → least_atom entries ≡ Some atom → All (IsGood rows) entries → IsBuilt rows atom entries
built-here rows atom k entries is none least good = record {
  number = k;
  is = is;
  none_false = none;
  least = least;
  good = good;
  from = least-from atom entries (good-forms rows entries good) least;
}

pub stages-push : (rows : List Row) (k n : ℕ) (stages : List Stage) (built : Stage) → n ≡ k + length stages → AreStages rows k stages → IsStageAt rows n built → AreStages rows k (stages ++ built ∷ [])
stages-push rows k n [] built e are here = (subst (λ m. IsStageAt rows m built) (omega arith) here, tt)
stages-push rows k n (s ∷ ss) built e are here = (are.0, stages-push rows (suc k) n ss built (omega arith) are.1 here)

up-to-next : (k j : ℕ) → j ≤ suc k → (P : ℕ → Type 0) → ((i : ℕ) → i ≤ k → P i) → P (suc k) → P j
up-to-next k j h P all here = by_equal j (suc k) (λ same. subst P (sym same) here) (λ other. all j (omega arith))
  where
    by_equal : {R : Type 0} (a b : ℕ) → (a ≡ b → R) → ((a ≡ b → ⊥) → R) → R
    by_equal zero zero one two = one refl
    by_equal zero (suc b) one two = two (λ e. omega arith)
    by_equal (suc a) zero one two = two (λ e. omega arith)
    by_equal (suc a) (suc b) one two = by_equal a b (λ e. one (ap suc e)) (λ n. two (λ e. n (omega arith)))

pub none-next : (rows : List Row) (k : ℕ) (next : List Entry) → stage rows (suc k) ≡ next → All (IsGood rows) next → NoFalseUpTo rows k → NoFalseUpTo rows (suc k)
none-next rows k next is good none j h = up-to-next k j h (λ i. has_false (stage rows i) ≡ false) none (ap has_false is ∙ good-true rows next good)

none-first : (rows : List Row) (entries : List Entry) → entries ≡ first_stage rows → All (IsGood rows) entries → NoFalseUpTo rows 0
none-first rows entries is good j h = let zero_is : j ≡ 0 = omega arith in subst (λ i. has_false (stage rows i) ≡ false) (sym zero_is) (ap has_false (sym is) ∙ good-true rows entries good)

pub first-none : (rows : List Row) (entries : List Entry) → entries ≡ first_stage rows → All (IsGood rows) entries → NoFalseUpTo rows 0
first-none rows entries is good = none-first rows entries is good

left-less : (a : ℕ) (o : Option ℕ) → a < 2 ^ 32 → AtLeast (suc a) o → left_over o < 2 ^ 32 - a
left-less a None h at = omega arith
left-less a (Some b) h at = omega arith

pub next-smaller : (rows : List Row) (atom : ℕ) (entries next : List Entry) → atom < 2 ^ 32 → least_atom entries ≡ Some atom → All (IsGood rows) entries → next ≡ eliminated atom entries
    → left_over (least_atom next) < left_over (least_atom entries)
next-smaller rows atom entries next h least good is =
    let from = eliminated-from atom entries (least-from atom entries (good-forms rows entries good) least) in
    let at = from-least (suc atom) next (subst (All (λ e. From (suc atom) e.row.parts)) (sym is) from) in
    subst (λ o. left_over (least_atom next) < left_over o) (sym least) (left-less atom (least_atom next) h at)

pub length-push : {X : Type 0} (xs ys : List X) (x : X) → ys ≡ xs ++ x ∷ [] → length ys ≡ suc (length xs)
length-push xs ys x is = ap length is ∙ one-more xs x
  where
    one-more : {X : Type 0} (xs : List X) (x : X) → length (xs ++ x ∷ []) ≡ suc (length xs)
    one-more [] x = refl
    one-more (y ∷ ys) x = ap suc (one-more ys x)
