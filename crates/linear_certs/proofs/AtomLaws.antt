-- The atoms of a stage are atoms of the given rows, so that no row of a stage has more parts than these.
use Rattle.std.proofs.Common.{◌≡◌, ◌<◌, ◌≤◌, ℕ, ℤ, pos, negsuc, ◌+ℤ◌, ◌*ℤ◌, List, [], ◌∷◌, ap, sym, refl, arith, subst, Bool, true, false, ◌||◌, suc, zero, length, min, nat_lt, nat_eq, if◌then◌else◌, Option, Some, None}
use Rattle.std.specs.List.{All, list_any, AllByRecursion, IsDistinct}
use Rattle.std.specs.Cmp.{nat_eq_equiv}
use Rattle.std.proofs.lemmas.Map.Made.{length-le_from_is_member}
use Rattle.std.proofs.lemmas.List.Elements.{All-append, All-cons, All-nil, All-head, All-tail}
use Rattle.linear_rows.specs.declared.row.Row.{Row}
use Rattle.linear_rows.specs.Sums.{Part, From, IsInForm, before, scaled, joined, sums}
use Rattle.linear_certs.specs.declared.entry.Entry.{Entry}
use Rattle.linear_certs.specs.Stages.{multiple, mixed, upper_times, lower_times, second_half, second_entries, single, halves, opened, first_stage, next, next_at, after, stage, least_atom, first_atom, smaller}
use Rattle.linear_certs.specs.Points.{added_atom, atoms_of_parts, atoms_of}
use Rattle.linear_certs.proofs.LeastLaws.{eliminated-All}
use Rattle.linear_certs.proofs.StageLaws.{kept_once-All}

-- Each atom of the parts is one for which the test is true.
abbrev pub Within : (ℕ → Type 0) → List Part → Type 0
Within P [] = 0 ≤ 0
Within P (x ∷ xs) = P x.0 × Within P xs

within-before : (P : ℕ → Type 0) (a : ℕ) (c : ℤ) (rest : List Part) → P a → Within P rest → Within P (before (a, c) rest)
within-before P a (pos zero) rest here more = more
within-before P a (pos (suc n)) rest here more = (here, more)
within-before P a (negsuc n) rest here more = (here, more)

within-scaled : (P : ℕ → Type 0) (t : ℤ) (right : List Part) → Within P right → Within P (scaled t right)
within-scaled P t [] all = omega arith
within-scaled P t (y ∷ ys) all = within-before P y.0 (t *ℤ y.1) (scaled t ys) all.0 (within-scaled P t ys all.1)

choose : (less more : Bool) {a b c : List Part} (P : List Part → Type 0) → P a → P b → P c → P (if less then a else if more then b else c)
choose true more P pa pb pc = pa
choose false true P pa pb pc = pb
choose false false P pa pb pc = pc

within-joined : (P : ℕ → Type 0) (t : ℤ) (x : Part) (rest : List Part → List Part) → P x.0 → ((right : List Part) → Within P right → Within P (rest right))
    → (right : List Part) → Within P right → Within P (joined t x rest right)
within-joined P t x rest here known [] all = within-before P x.0 x.1 (rest []) here (known [] (omega arith))
within-joined P t x rest here known (y ∷ ys) all = choose (nat_lt x.0 y.0) (nat_lt y.0 x.0) (Within P)
    (within-before P x.0 x.1 (rest (y ∷ ys)) here (known (y ∷ ys) all))
    (within-before P y.0 (t *ℤ y.1) (joined t x rest ys) all.0 (within-joined P t x rest here known ys all.1))
    (within-before P x.0 (x.1 +ℤ t *ℤ y.1) (rest ys) here (known ys all.1))

pub within-sums : (P : ℕ → Type 0) (t : ℤ) (left right : List Part) → Within P left → Within P right → Within P (sums t left right)
within-sums P t [] right all more = within-scaled P t right more
within-sums P t (x ∷ xs) right all more = within-joined P t x (sums t xs) all.0 (λ r h. within-sums P t xs r all.1 h) right more

within-mixed : (P : ℕ → Type 0) (a b : ℤ) (left right : Row) → Within P left.parts → Within P right.parts → Within P (mixed a left b right).parts
within-mixed P a b left right one two = within-sums P b (multiple a left).parts right.parts (within-sums P a [] left.parts (omega arith) one) two

-- The parts of an entry.
abbrev pub EntryWithin : (ℕ → Type 0) → Entry → Type 0
EntryWithin P e = Within P e.row.parts

abbrev pub RowWithin : (ℕ → Type 0) → Row → Type 0
RowWithin P row = Within P row.parts

second-within : (P : ℕ → Type 0) (count number : ℕ) (row : Row) (b : Bool) → Within P row.parts
    → All (EntryWithin P) (if b then record { row = second_half row; multipliers = single count number (negsuc 0) } ∷ [] else [])
second-within P count number row true all = All-cons (EntryWithin P) _ [] (within-sums P (negsuc 0) [] row.parts (omega arith) all) (All-nil (EntryWithin P))
second-within P count number row false all = All-nil (EntryWithin P)

opened-within : (P : ℕ → Type 0) (count number : ℕ) (rows : List Row) → All (RowWithin P) rows → All (EntryWithin P) (opened count number rows)
opened-within P count number [] all = All-nil (EntryWithin P)
opened-within P count number (row ∷ rows) all = All-append (EntryWithin P) (halves count number row) (opened count (suc number) rows)
    (All-cons (EntryWithin P) _ (second_entries count number row) (All-head (RowWithin P) row rows all) (second-within P count number row row.equal (All-head (RowWithin P) row rows all)))
    (opened-within P count (suc number) rows (All-tail (RowWithin P) row rows all))

next-within : (P : ℕ → Type 0) (entries : List Entry) → All (EntryWithin P) entries → All (EntryWithin P) (next entries)
next-within P entries all = at (least_atom entries)
  where
    at : (o : Option ℕ) → All (EntryWithin P) (next_at o entries)
    at None = all
    at (Some atom) = eliminated-All (EntryWithin P) (EntryWithin P) atom entries all (λ e h lack. h)
        (λ upper lower one two above below. within-mixed P (upper_times atom upper lower) (lower_times atom upper lower) upper.row lower.row one two)

after-within : (P : ℕ → Type 0) (k : ℕ) (entries : List Entry) → All (EntryWithin P) entries → All (EntryWithin P) (after k entries)
after-within P zero entries all = all
after-within P (suc k) entries all = after-within P k (next entries) (next-within P entries all)

pub stage-within : (P : ℕ → Type 0) (rows : List Row) (k : ℕ) → All (RowWithin P) rows → All (EntryWithin P) (stage rows k)
stage-within P rows k all = after-within P k (first_stage rows) (kept_once-All (EntryWithin P) [] (opened (length rows) 0 rows) (All-nil (EntryWithin P)) (opened-within P (length rows) 0 rows all))

-- The atom is one of the list.
abbrev pub IsAmong : List ℕ → ℕ → Type 0
IsAmong atoms a = list_any (nat_eq a) atoms ≡ true

or-left : (a b : Bool) → a ≡ true → (a || b) ≡ true
or-left true b h = refl
or-left false b h = absurd cc

or-right : (a b : Bool) → b ≡ true → (a || b) ≡ true
or-right true b h = refl
or-right false b h = h

same-number : (a : ℕ) → nat_eq a a ≡ true
same-number a = grind arith

among-added : (a b : ℕ) (atoms : List ℕ) → IsAmong atoms a → IsAmong (added_atom b atoms) a
among-added a b atoms h = either (list_any (nat_eq b) atoms)
  where
    either : (t : Bool) → IsAmong (if t then atoms else b ∷ atoms) a
    either true = h
    either false = or-right (nat_eq a b) (list_any (nat_eq a) atoms) h

added-among : (b : ℕ) (atoms : List ℕ) → IsAmong (added_atom b atoms) b
added-among b atoms = either (list_any (nat_eq b) atoms) refl
  where
    either : (t : Bool) → list_any (nat_eq b) atoms ≡ t → IsAmong (if t then atoms else b ∷ atoms) b
    either true e = e
    either false e = or-left (nat_eq b b) (list_any (nat_eq b) atoms) (same-number b)

among-parts : (a : ℕ) (parts : List Part) (atoms : List ℕ) → IsAmong atoms a → IsAmong (atoms_of_parts parts atoms) a
among-parts a [] atoms h = h
among-parts a (x ∷ xs) atoms h = among-added a x.0 (atoms_of_parts xs atoms) (among-parts a xs atoms h)

within-weaker : (P Q : ℕ → Type 0) → ((a : ℕ) → P a → Q a) → (parts : List Part) → Within P parts → Within Q parts
within-weaker P Q law [] all = omega arith
within-weaker P Q law (x ∷ xs) all = (law x.0 all.0, within-weaker P Q law xs all.1)

parts-among : (parts : List Part) (atoms : List ℕ) → Within (IsAmong (atoms_of_parts parts atoms)) parts
parts-among [] atoms = omega arith
parts-among (x ∷ xs) atoms = (
  added-among x.0 (atoms_of_parts xs atoms),
  within-weaker (IsAmong (atoms_of_parts xs atoms)) (IsAmong (atoms_of_parts (x ∷ xs) atoms)) (λ a h. among-added a x.0 (atoms_of_parts xs atoms) h) xs (parts-among xs atoms),
)

rows-among : (rows : List Row) → All (RowWithin (IsAmong (atoms_of rows))) rows
rows-among [] = All-nil (RowWithin (IsAmong (atoms_of [])))
rows-among (row ∷ rows) = All-cons (RowWithin (IsAmong (atoms_of (row ∷ rows)))) row rows (parts-among row.parts (atoms_of rows)) (more rows (rows-among rows))
  where
    more : (rest : List Row) → All (RowWithin (IsAmong (atoms_of rows))) rest → All (RowWithin (IsAmong (atoms_of (row ∷ rows)))) rest
    more [] all = All-nil (RowWithin (IsAmong (atoms_of (row ∷ rows))))
    more (r ∷ rs) all = All-cons (RowWithin (IsAmong (atoms_of (row ∷ rows)))) r rs
        (within-weaker (IsAmong (atoms_of rows)) (IsAmong (atoms_of (row ∷ rows))) (λ a h. among-parts a row.parts (atoms_of rows) h) r.parts (All-head (RowWithin (IsAmong (atoms_of rows))) r rs all))
        (more rs (All-tail (RowWithin (IsAmong (atoms_of rows))) r rs all))

abbrev numbers : List Part → List ℕ
numbers [] = []
numbers (x ∷ xs) = x.0 ∷ numbers xs

numbers-length : (parts : List Part) → length (numbers parts) ≡ length parts
numbers-length [] = refl
numbers-length (x ∷ xs) = ap suc (numbers-length xs)

apart : (a b : ℕ) → a < b → nat_eq a b ≡ false
apart a b h = grind (arith, h)

numbers-behind : (a low : ℕ) (parts : List Part) → a < low → From low parts → AllByRecursion (λ b. nat_eq a b ≡ false) (numbers parts)
numbers-behind a low [] h from = tt
numbers-behind a low (x ∷ xs) h from = let first = from.0 in (apart a x.0 (omega arith), numbers-behind a (suc x.0) xs (omega arith) from.2)

numbers-distinct : (low : ℕ) (parts : List Part) → From low parts → IsDistinct nat_eq (numbers parts)
unfolding IsDistinct
numbers-distinct low [] from = tt
numbers-distinct low (x ∷ xs) from = (numbers-behind x.0 (suc x.0) xs (omega arith) from.2, numbers-distinct (suc x.0) xs from.2)

by_test : (b : Bool) {R : Type 0} → (b ≡ true → R) → (b ≡ false → R) → R
by_test true one two = one refl
by_test false one two = two refl

numbers-among : (atoms : List ℕ) (parts : List Part) → Within (IsAmong atoms) parts → (q : ℕ) → list_any (nat_eq q) (numbers parts) ≡ true → list_any (nat_eq q) atoms ≡ true
numbers-among atoms [] all q h = absurd cc
numbers-among atoms (x ∷ xs) all q h = by_test (nat_eq q x.0)
    (λ same. let e : q ≡ x.0 = grind (arith, same) in subst (IsAmong atoms) (sym e) all.0)
    (λ other. numbers-among atoms xs all.1 q (rest (nat_eq q x.0) (list_any (nat_eq q) (numbers xs)) other h))
  where
    rest : (a b : Bool) → a ≡ false → (a || b) ≡ true → b ≡ true
    rest true b h k = absurd cc
    rest false b h k = k

parts-few : (atoms : List ℕ) (parts : List Part) → From 0 parts → Within (IsAmong atoms) parts → length parts ≤ length atoms
parts-few atoms parts from all = subst (λ n. n ≤ length atoms) (numbers-length parts) (length-le_from_is_member nat_eq_equiv (numbers parts) atoms (numbers-distinct 0 parts from) (numbers-among atoms parts all))

-- No row of a stage has more parts than the rows have atoms.
pub stage-few : (rows : List Row) (k : ℕ) → All (λ e. IsInForm e.row) (stage rows k) → All (λ e. length e.row.parts ≤ length (atoms_of rows)) (stage rows k)
stage-few rows k forms = go (stage rows k) forms (stage-within (IsAmong (atoms_of rows)) rows k (rows-among rows))
  where
    go : (entries : List Entry) → All (λ e. IsInForm e.row) entries → All (EntryWithin (IsAmong (atoms_of rows))) entries → All (λ e. length e.row.parts ≤ length (atoms_of rows)) entries
    go [] forms all = All-nil (λ e. length e.row.parts ≤ length (atoms_of rows))
    go (e ∷ es) forms all = All-cons (λ e. length e.row.parts ≤ length (atoms_of rows)) e es
        (parts-few (atoms_of rows) e.row.parts (All-head (λ e. IsInForm e.row) e es forms) (All-head (EntryWithin (IsAmong (atoms_of rows))) e es all))
        (go es (All-tail (λ e. IsInForm e.row) e es forms) (All-tail (EntryWithin (IsAmong (atoms_of rows))) e es all))

-- The least atom of a stage is one for which the parts of the given rows are.
pub least-within : (P : ℕ → Type 0) (atom : ℕ) (entries : List Entry) → All (EntryWithin P) entries → least_atom entries ≡ Some atom → P atom
least-within P atom entries all is = subst (IfAtom P) is (go entries all)
  where
    IfAtom : (ℕ → Type 0) → Option ℕ → Type 0
    IfAtom P None = 0 ≤ 0
    IfAtom P (Some a) = P a

    first : (parts : List Part) → Within P parts → IfAtom P (first_atom parts)
    first [] h = omega arith
    first (x ∷ xs) h = h.0

    least : (a b : ℕ) → P a → P b → P (min a b)
    least a b h k = by_test (nat_lt a b) (λ less. let e : a ≡ min a b = grind (arith, less) in subst P e h) (λ more. let e : b ≡ min a b = grind (arith, more) in subst P e k)

    both : (a b : Option ℕ) → IfAtom P a → IfAtom P b → IfAtom P (smaller a b)
    both None b h k = k
    both (Some a) None h k = h
    both (Some a) (Some b) h k = least a b h k

    go : (entries : List Entry) → All (EntryWithin P) entries → IfAtom P (least_atom entries)
    go [] all = omega arith
    go (e ∷ es) all = both (first_atom e.row.parts) (least_atom es) (first e.row.parts (All-head (EntryWithin P) e es all)) (go es (All-tail (EntryWithin P) e es all))

-- The least atom of a stage is below what all atoms of the rows are below.
pub least-below : (rows : List Row) (k atom n : ℕ) → All (λ row. All (λ part. part.0 < n) row.parts) rows → least_atom (stage rows k) ≡ Some atom → atom < n
least-below rows k atom n all is = least-within (λ a. a < n) atom (stage rows k) (stage-within (λ a. a < n) rows k (each rows all)) is
  where
    inside : (parts : List Part) → All (λ part. part.0 < n) parts → Within (λ a. a < n) parts
    inside [] all = omega arith
    inside (x ∷ xs) all = (All-head (λ part. part.0 < n) x xs all, inside xs (All-tail (λ part. part.0 < n) x xs all))

    each : (rest : List Row) → All (λ row. All (λ part. part.0 < n) row.parts) rest → All (RowWithin (λ a. a < n)) rest
    each [] all = All-nil (RowWithin (λ a. a < n))
    each (r ∷ rs) all = All-cons (RowWithin (λ a. a < n)) r rs (inside r.parts (All-head (λ row. All (λ part. part.0 < n) row.parts) r rs all)) (each rs (All-tail (λ row. All (λ part. part.0 < n) row.parts) r rs all))
