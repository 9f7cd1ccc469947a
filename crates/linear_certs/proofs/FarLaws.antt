-- Where a number of the point doesn't fit 128 bits, the size bound is past 2^120 for sizes that occur.
use Rattle.std.proofs.Common.{◌≡◌, ◌∙◌, ◌<◌, ◌≤◌, ℕ, ◌+◌, ◌^◌, ℤ, pos, List, [], ◌∷◌, ◌++◌, ap, sym, refl, arith, subst, suc, zero, length, get_or, Some, None, inl, inr}
use Rattle.std.specs.Prelude.{unsigned_abs}
use Rattle.std.specs.List.{All, Contains, flat_map}
use Rattle.std.proofs.lemmas.List.Elements.{All-cons, All-nil, Contains-append_right, Contains-append_cases}
use Rattle.std.proofs.Math.Nat.{mul-le-mul}
use Rattle.linear_rows.specs.declared.row.Row.{Row}
use Rattle.linear_rows.specs.Sums.{Part}
use Rattle.linear_certs.specs.declared.entry.Entry.{Entry}
use Rattle.linear_certs.specs.declared.elimination.Stage.{Stage}
use Rattle.linear_certs.specs.Stages.{first_atom, smaller, stage, least_atom}
use Rattle.linear_certs.specs.Points.{IsPartialPoint, IsCoefficientSize, IsBoundSize, IsDenominatorSize, IsNumeratorSize, IsFar, atoms_of, size_bound}
use Rattle.linear_certs.specs.Code.Limits.{AreSizes, IsPast}
use Rattle.linear_certs.specs.Answers.{coordinate}
use Rattle.linear_certs.specs.Code.Building.{IsGood, IsStageAt}
use Rattle.linear_certs.proofs.EliminationLaws.{good-forms}
use Rattle.linear_certs.proofs.AtomLaws.{stage-few}
use Rattle.linear_certs.proofs.SatisfiedLaws.{unflat}

by_le : {R : Type 0} (a b : ℕ) → (a ≤ b → R) → (b < a → R) → R
by_le zero b one two = one (omega arith)
by_le (suc a) zero one two = two (omega arith)
by_le (suc a) (suc b) one two = by_le a b (λ h. one (omega arith)) (λ h. two (omega arith))

-- An element of the largest size.
pub record IsLargest {X : Type 0} (size : X → ℕ) (xs : List X) (x : X) : Type 0 where
  pub there : Contains xs x
  pub all : All (λ y. size y ≤ size x) xs

weaker : {X : Type 0} (size : X → ℕ) (xs : List X) (m n : ℕ) → m ≤ n → All (λ y. size y ≤ m) xs → All (λ y. size y ≤ n) xs
weaker size xs m n h all = λ k d within. le-le _ m n (all k d within) h
  where
    le-le : (a b c : ℕ) → a ≤ b → b ≤ c → a ≤ c
    le-le a b c h k = omega arith

largest : {X : Type 0} (size : X → ℕ) (x : X) (xs : List X) → (m : X) × IsLargest size (x ∷ xs) m
largest size x [] = (x, record { there = (0, omega arith, refl); all = All-cons (λ y. size y ≤ size x) x [] (omega arith) (All-nil (λ y. size y ≤ size x)) })
largest size x (y ∷ ys) = let rest = largest size y ys in by_le (size x) (size rest.0)
    (λ h. (rest.0, record { there = Contains-append_right (x ∷ []) (y ∷ ys) rest.0 rest.1.there; all = All-cons (λ z. size z ≤ size rest.0) x (y ∷ ys) h rest.1.all }))
    (λ h. (x, record { there = (0, omega arith, refl); all = All-cons (λ z. size z ≤ size x) x (y ∷ ys) (omega arith) (weaker size (y ∷ ys) (size rest.0) (size x) (omega arith) rest.1.all) }))

-- All parts of entries.
abbrev all_parts : List Entry → List Part
all_parts entries = flat_map (λ e. e.row.parts) entries

none-some : (a : ℕ) → None ≡ Some a → ⊥
none-some a e = cc

some-part : (entries : List Entry) (atom : ℕ) → least_atom entries ≡ Some atom → (x : Part) × ((xs : List Part) × (all_parts entries ≡ x ∷ xs))
some-part [] atom is = absurd (none-some atom is)
some-part (e ∷ es) atom is = by_parts e.row.parts refl (λ h. some-part es atom h)
  where
    by_parts : (parts : List Part) → e.row.parts ≡ parts → (least_atom es ≡ Some atom → (x : Part) × ((xs : List Part) × (all_parts es ≡ x ∷ xs))) → (x : Part) × ((xs : List Part) × (all_parts (e ∷ es) ≡ x ∷ xs))
    by_parts [] none known = let rest = known (sym (ap (λ parts. smaller (first_atom parts) (least_atom es)) none) ∙ is) in
        (rest.0, (rest.1.0, ap (λ parts. parts ++ all_parts es) none ∙ rest.1.1))
    by_parts (x ∷ xs) some known = (x, (xs ++ all_parts es, ap (λ parts. parts ++ all_parts es) some))

contains-part : (entries : List Entry) (part : Part) → Contains (all_parts entries) part → (e : Entry) × (Contains entries e × Contains e.row.parts part)
contains-part [] part there = absurd (let h = there.1 in omega arith)
contains-part (e ∷ es) part there = elim (Contains-append_cases e.row.parts (all_parts es) part there) [
  | inl here ↦ (e, ((0, omega arith, refl), here))
  | inr more ↦ let rest = contains-part es part more in (rest.0, (Contains-append_right (e ∷ []) es rest.0 rest.1.0, rest.1.1))
]

some-entry : (entries : List Entry) (atom : ℕ) → least_atom entries ≡ Some atom → (e : Entry) × ((es : List Entry) × (entries ≡ e ∷ es))
some-entry [] atom is = absurd (none-some atom is)
some-entry (e ∷ es) atom is = (e, (es, refl))

same-default : {X : Type 0} (xs : List X) (i : ℕ) (d e : X) → i < length xs → get_or xs i d ≡ get_or xs i e
same-default [] i d e h = absurd (omega arith)
same-default (x ∷ xs) zero d e h = refl
same-default (x ∷ xs) (suc i) d e h = same-default xs i d e (omega arith)

pub past-end : {X : Type 0} (xs : List X) (i : ℕ) (d : X) → length xs ≤ i → get_or xs i d ≡ d
past-end [] i d h = refl
past-end (x ∷ xs) zero d h = absurd (omega arith)
past-end (x ∷ xs) (suc i) d h = past-end xs i d (omega arith)

nums-within : (nums : List ℤ) (m : ℤ) → All (λ z. unsigned_abs z ≤ unsigned_abs m) nums → (atom : ℕ) → unsigned_abs (coordinate nums atom) ≤ unsigned_abs m
nums-within nums m all atom = by_le (length nums) atom
    (λ past. subst (λ z. unsigned_abs z ≤ unsigned_abs m) (sym (past-end nums atom (pos 0) past)) (omega arith))
    (λ within. all atom (pos 0) within)

far : (rows : List Row) (k : ℕ) (built : Stage) (num : ℤ) (nums : List ℤ) (over : ℤ) → IsStageAt rows k built → IsPartialPoint rows (suc k) (coordinate (num ∷ nums)) over
    → IsPast (coordinate (num ∷ nums)) over built.entries → IsFar rows built.atom
far rows k built num nums over at part past =
    let entries = built.entries in
    let point = coordinate (num ∷ nums) in
    let first = some-part entries built.atom at.least in
    let top = largest (λ (p : Part). unsigned_abs p.1) first.0 first.1.0 in
    let there = contains-part entries top.0 (subst (λ l. Contains l top.0) (sym first.1.1) top.1.there) in
    let one = some-entry entries built.atom at.least in
    let bound = largest (λ (e : Entry). unsigned_abs e.row.bound) one.0 one.1.0 in
    let bound_in : Contains entries bound.0 = subst (λ l. Contains l bound.0) (sym one.1.1) bound.1.there in
    let most = largest unsigned_abs num nums in
    let sizes : AreSizes (length (atoms_of rows)) (unsigned_abs top.0.1) (unsigned_abs bound.0.row.bound) (unsigned_abs over) (unsigned_abs most.0) point over entries = record {
      lengths = subst (All (λ e. length e.row.parts ≤ length (atoms_of rows))) at.is (stage-few rows k (good-forms rows (stage rows k) (subst (All (IsGood rows)) (sym at.is) at.good)));
      coefficients = unflat (λ part. unsigned_abs part.1 ≤ unsigned_abs top.0.1) (λ e. e.row.parts) entries (subst (All (λ part. unsigned_abs part.1 ≤ unsigned_abs top.0.1)) (sym first.1.1) top.1.all);
      bounds = subst (All (λ e. unsigned_abs e.row.bound ≤ unsigned_abs bound.0.row.bound)) (sym one.1.1) bound.1.all;
      dens = omega arith;
      nums = nums-within (num ∷ nums) most.0 most.1.all;
    } in record {
      from = k;
      least = ap least_atom at.is ∙ at.least;
      coefficient = unsigned_abs top.0.1;
      bound = unsigned_abs bound.0.row.bound;
      den = unsigned_abs over;
      num = unsigned_abs most.0;
      coefficient_occurs = (k, (there.0, (top.0, (subst (λ l. Contains l there.0) (sym at.is) there.1.0, there.1.1, refl))));
      bound_occurs = (k, (bound.0, (subst (λ l. Contains l bound.0) (sym at.is) bound_in, refl)));
      den_occurs = (suc k, (point, (over, (omega arith, part, refl))));
      num_occurs = (
        suc k,
        (
          point,
          (
            over,
            (
              most.1.there.0,
              (
                omega arith,
                part,
                ap unsigned_abs (same-default (num ∷ nums) most.1.there.0 (pos 0) most.0 most.1.there.1 ∙ most.1.there.2),
              ),
            ),
          ),
        ),
      );
      large = past (length (atoms_of rows)) (unsigned_abs top.0.1) (unsigned_abs bound.0.row.bound) (unsigned_abs over) (unsigned_abs most.0) sizes;
    }

-- For a point that is kept as a list.
pub far-nums : (rows : List Row) (k : ℕ) (built : Stage) (nums : List ℤ) (over : ℤ) → IsStageAt rows k built → built.atom < length nums → IsPartialPoint rows (suc k) (coordinate nums) over → IsPast (coordinate nums) over built.entries → IsFar rows built.atom
far-nums rows k built [] over at within part past = absurd (omega arith)
far-nums rows k built (num ∷ nums) over at within part past = far rows k built num nums over at part past

bound-le : (atoms c c' b b' d d' n n' : ℕ) → c ≤ c' → b ≤ b' → d ≤ d' → n ≤ n' → size_bound atoms c b d n ≤ size_bound atoms c' b' d' n'
bound-le atoms c c' b b' d d' n n' hc hb hd hn = mul-le-mul (mul-le-mul (sums (mul-le-mul hb hd) (mul-le-mul (mul-le-mul (same atoms) hc) hn)) hc) hd
  where
    same : (a : ℕ) → a ≤ a
    same a = omega arith

    sums : {x x' y y' : ℕ} → x ≤ x' → y ≤ y' → x + y + 1 ≤ x' + y' + 1
    sums h k = omega arith

pub far-largest : (rows : List Row) (atom : ℕ) (is : IsFar rows atom) (c b d n : ℕ) → ((size : ℕ) → IsCoefficientSize rows size → size ≤ c) → ((size : ℕ) → IsBoundSize rows size → size ≤ b)
    → ((size : ℕ) → IsDenominatorSize rows is.from size → size ≤ d) → ((size : ℕ) → IsNumeratorSize rows is.from size → size ≤ n) → 2 ^ 120 < size_bound (length (atoms_of rows)) c b d n
far-largest rows atom is c b d n hc hb hd hn = less-le (2 ^ 120) (size_bound (length (atoms_of rows)) is.coefficient is.bound is.den is.num) (size_bound (length (atoms_of rows)) c b d n) is.large
    (bound-le (length (atoms_of rows)) is.coefficient c is.bound b is.den d is.num n (hc is.coefficient is.coefficient_occurs) (hb is.bound is.bound_occurs) (hd is.den is.den_occurs) (hn is.num is.num_occurs))
  where
    less-le : (a b c : ℕ) → a < b → b ≤ c → a < c
    less-le a b c h k = omega arith
