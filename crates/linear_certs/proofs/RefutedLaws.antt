-- Where rows are refuted, no answer but Found and want of memory is right.
use Rattle.std.proofs.Common.{◌≡◌, ◌<◌, ◌≤◌, ℕ, ℤ, pos, negsuc, ◌<ℤ◌, List, [], ◌∷◌, refl, arith, Bool, true, false, ◌||◌, suc, zero, length, inl, inr, if◌then◌else◌, Option, Some, None}
use Rattle.std.specs.List.{All}
use Rattle.std.proofs.lemmas.List.Elements.{All-append, All-cons, All-nil, All-head, All-tail}
use Rattle.linear_rows.specs.declared.row.Row.{Row}
use Rattle.linear_rows.specs.Sums.{Holds}
use Rattle.linear_rows.specs.Combinations.{nothing}
use Rattle.linear_rows.proofs.CombinationLaws.{plus-holds, nothing-holds, false-nowhere}
use Rattle.linear_certs.specs.declared.entry.Entry.{Entry}
use Rattle.linear_certs.specs.declared.leaf.Leaf.{Leaf}
use Rattle.linear_certs.specs.declared.leaf.Leaf.TheVariants.{Found, Point, Wide, Far, Rows, NoMemory}
use Rattle.linear_certs.specs.Stages.{multiple, mixed, first_half, second_half, second_entries, single, halves, opened, first_stage, next, next_at, after, stage, least_atom, is_false, has_false, no_parts, is_negative}
use Rattle.linear_certs.specs.Answers.{IsLeaf, EliminationRefutes, IsFoundOrNoMemory, coordinate}
use Rattle.linear_certs.proofs.LeastLaws.{eliminated-All}
use Rattle.linear_certs.proofs.StageLaws.{kept_once-All}
use Rattle.linear_certs.proofs.Basics.{up-pos, parts-none, below-zero, and-both}

-- The entry's row is true.
abbrev IsTrueAt : (ℕ → ℤ) → ℤ → Entry → Type 0
IsTrueAt point den entry = Holds point den entry.row

mixed-holds : (point : ℕ → ℤ) (den : ℤ) (m n : ℕ) (left right : Row) → Holds point den left → Holds point den right → Holds point den (mixed (pos m) left (pos n) right)
mixed-holds point den m n left right one two = plus-holds point den (pos n) (multiple (pos m) left) right (inl (up-pos n))
    (plus-holds point den (pos m) nothing left (inl (up-pos m)) (nothing-holds point den) one) two

first-holds : (point : ℕ → ℤ) (den : ℤ) (row : Row) → Holds point den row → Holds point den (first_half row)
first-holds point den row holds = record { below = holds.below; tight = λ e. absurd cc }

second-holds : (point : ℕ → ℤ) (den : ℤ) (row : Row) → row.equal ≡ true → Holds point den row → Holds point den (second_half row)
second-holds point den row equal holds = record { below = (plus-holds point den (negsuc 0) nothing row (inr equal) (nothing-holds point den) holds).below; tight = λ e. absurd cc }

second-entries : (point : ℕ → ℤ) (den : ℤ) (count number : ℕ) (row : Row) (b : Bool) → row.equal ≡ b → Holds point den row
    → All (IsTrueAt point den) (if b then record { row = second_half row; multipliers = single count number (negsuc 0) } ∷ [] else [])
second-entries point den count number row true e holds = All-cons (IsTrueAt point den) _ [] (second-holds point den row e holds) (All-nil (IsTrueAt point den))
second-entries point den count number row false e holds = All-nil (IsTrueAt point den)

halves-hold : (point : ℕ → ℤ) (den : ℤ) (count number : ℕ) (row : Row) → Holds point den row → All (IsTrueAt point den) (halves count number row)
halves-hold point den count number row holds = All-cons (IsTrueAt point den) _ (second_entries count number row) (first-holds point den row holds) (second-entries point den count number row row.equal refl holds)

opened-hold : (point : ℕ → ℤ) (den : ℤ) (count number : ℕ) (rows : List Row) → All (Holds point den) rows → All (IsTrueAt point den) (opened count number rows)
opened-hold point den count number [] all = All-nil (IsTrueAt point den)
opened-hold point den count number (row ∷ rows) all = All-append (IsTrueAt point den) (halves count number row) (opened count (suc number) rows)
    (halves-hold point den count number row (All-head (Holds point den) row rows all)) (opened-hold point den count (suc number) rows (All-tail (Holds point den) row rows all))

next-hold : (point : ℕ → ℤ) (den : ℤ) (entries : List Entry) → All (IsTrueAt point den) entries → All (IsTrueAt point den) (next entries)
next-hold point den entries all = at (least_atom entries)
  where
    at : (o : Option ℕ) → All (IsTrueAt point den) (next_at o entries)
    at None = all
    at (Some atom) = eliminated-All (IsTrueAt point den) (IsTrueAt point den) atom entries all (λ e h lack. h)
        (λ upper lower one two above below. mixed-holds point den _ _ upper.row lower.row one two)

after-hold : (point : ℕ → ℤ) (den : ℤ) (k : ℕ) (entries : List Entry) → All (IsTrueAt point den) entries → All (IsTrueAt point den) (after k entries)
after-hold point den zero entries all = all
after-hold point den (suc k) entries all = after-hold point den k (next entries) (next-hold point den entries all)

-- Where the rows are true at a point, so is every row of every stage.
pub stage-holds : (point : ℕ → ℤ) (den : ℤ) (rows : List Row) (k : ℕ) → All (Holds point den) rows → All (IsTrueAt point den) (stage rows k)
stage-holds point den rows k all = after-hold point den k (first_stage rows)
    (kept_once-All (IsTrueAt point den) [] (opened (length rows) 0 rows) (All-nil (IsTrueAt point den)) (opened-hold point den (length rows) 0 rows all))

by_or : {P : Type 0} (a b : Bool) → (a || b) ≡ true → (a ≡ true → P) → (b ≡ true → P) → P
by_or true b h one two = one refl
by_or false b h one two = two h

none-false : (point : ℕ → ℤ) (den : ℤ) (entries : List Entry) → pos 0 <ℤ den → All (IsTrueAt point den) entries → has_false entries ≡ true → ⊥
none-false point den [] up all h = cc
none-false point den (e ∷ es) up all h = by_or (is_false e) (has_false es) h
    (λ here. let both = and-both (no_parts e.row.parts) (is_negative e.row.bound) here in
    false-nowhere point den e.row (record { constant = parts-none e.row.parts both.0; fails = inl (below-zero e.row.bound both.1) }) up (All-head (IsTrueAt point den) e es all))
    (none-false point den es up (All-tail (IsTrueAt point den) e es all))

not-both : (b : Bool) → b ≡ true → b ≡ false → ⊥
not-both true h k = cc
not-both false h k = cc

by_le : {P : Type 0} (a b : ℕ) → (a ≤ b → P) → (b < a → P) → P
by_le zero b one two = one (omega arith)
by_le (suc a) zero one two = two (omega arith)
by_le (suc a) (suc b) one two = by_le a b (λ h. one (omega arith)) (λ h. two (omega arith))

too-long : (n : ℕ) → n ≤ 20000 → 20000 < n → ⊥
too-long n h k = omega arith

pub refuted-leaf : (rows : List Row) (leaf : Leaf) → IsLeaf rows leaf → EliminationRefutes rows → IsFoundOrNoMemory leaf
refuted-leaf rows (Found multipliers) is refuted = tt
refuted-leaf rows NoMemory is refuted = tt
refuted-leaf rows (Point den nums) is refuted = none-false (coordinate nums.items) den (stage rows refuted.number) is.0 (stage-holds (coordinate nums.items) den rows refuted.number is.1) refuted.false_row
refuted-leaf rows (Wide left right atom) is refuted = by_le refuted.number is.0
    (λ h. not-both (has_false (stage rows refuted.number)) refuted.false_row (is.1.1.1.3 refuted.number h))
    (λ h. refuted.narrow is.0 atom is.1.0 is.1.1.0 h is.1.1.1.2)
refuted-leaf rows (Far atom) is refuted = not-both (has_false (stage rows refuted.number)) refuted.false_row (is.0 refuted.number)
refuted-leaf rows (Rows most) is refuted = by_le is.1.0 refuted.number
    (λ h. too-long (length (stage rows is.1.0)) (refuted.small is.1.0 h) is.1.1.0)
    (λ h. not-both (has_false (stage rows refuted.number)) refuted.false_row (is.1.1.1 refuted.number h))
