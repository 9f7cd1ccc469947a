-- Entries kept once, one after the other.
use Rattle.std.proofs.Common.{◌≡◌, ◌∙◌, ◌<◌, ◌≤◌, ℕ, ◌+◌, List, [], ◌∷◌, ◌++◌, ap, sym, refl, arith, subst, Bool, true, false, suc, zero, length, get_or, take, drop, map, length-append, take_all, if◌then◌else◌, Result, Ok, Err, Some}
use Rattle.std.specs.Prelude.{filter, OnOk, is_err}
use Rattle.std.specs.List.{All, Contains, flat_map}
use Rattle.std.proofs.lemmas.List.{take_more, map-append, take-append-drop}
use Rattle.std.proofs.lemmas.List.Elements.{filter-append, All-append, All-cons, All-nil, All-head, All-tail, All-get_or}
use Rattle.std.proofs.lemmas.List.Concat.{flat_map-append}
use Rattle.linear_rows.specs.declared.row.Row.{Row}
use Rattle.linear_rows.specs.Sums.{From}
use Rattle.linear_certs.specs.declared.entry.Entry.{Entry}
use Rattle.linear_certs.specs.Stages.{has_row, kept_once, combined, is_lower, is_upper, lacks, pairs_of, eliminated, next, next_at, after, stage, first_stage, least_atom}
use Rattle.linear_certs.specs.Code.Building.{IsGood, IsPair, IsBuilt}

pub kept_once-append : (kept xs ys : List Entry) → kept_once kept (xs ++ ys) ≡ kept_once (kept_once kept xs) ys
kept_once-append kept [] ys = refl
kept_once-append kept (x ∷ xs) ys = kept_once-append (if has_row kept x.row then kept else kept ++ x ∷ []) xs ys

kept-one : (P : Entry → Type 0) (b : Bool) (kept : List Entry) (x : Entry) → All P kept → P x → All P (if b then kept else kept ++ x ∷ [])
kept-one P true kept x all here = all
kept-one P false kept x all here = All-append P kept (x ∷ []) all (All-cons P x [] here (All-nil P))

pub kept_once-All : (P : Entry → Type 0) (kept xs : List Entry) → All P kept → All P xs → All P (kept_once kept xs)
kept_once-All P kept [] all more = all
kept_once-All P kept (x ∷ xs) all more = kept_once-All P (if has_row kept x.row then kept else kept ++ x ∷ []) xs
    (kept-one P (has_row kept x.row) kept x all (All-head P x xs more)) (All-tail P x xs more)

longer-one : (b : Bool) (kept : List Entry) (x : Entry) → length kept ≤ length (if b then kept else kept ++ x ∷ [])
longer-one true kept x = omega arith
longer-one false kept x = let e = length-append kept (x ∷ []) in omega (arith, e)

pub kept_once-longer : (kept xs : List Entry) → length kept ≤ length (kept_once kept xs)
kept_once-longer kept [] = omega arith
kept_once-longer kept (x ∷ xs) = let one = longer-one (has_row kept x.row) kept x in
    let rest = kept_once-longer (if has_row kept x.row then kept else kept ++ x ∷ []) xs in omega arith

-- A loop that keeps what `made` makes of each entry.
pub kept-step : (made : List Entry → List Entry) → ((xs ys : List Entry) → made (xs ++ ys) ≡ made xs ++ made ys)
    → (old so_far now entries : List Entry) (i : ℕ) (x : Entry) → i < length entries → x ≡ get_or entries i x
    → so_far ≡ kept_once old (made (take i entries)) → now ≡ kept_once so_far (made (x ∷ [])) → now ≡ kept_once old (made (take (i + 1) entries))
kept-step made law old so_far now entries i x h is before here =
    here ∙ ap (λ l. kept_once l (made (x ∷ []))) before ∙ sym (kept_once-append old (made (take i entries)) (made (x ∷ [])))
    ∙ ap (kept_once old) (sym (law (take i entries) (x ∷ [])) ∙ ap made (ap (λ e. take i entries ++ e ∷ []) is ∙ sym (take_more entries i x h)))

pub pairs-append : (atom : ℕ) (upper : Entry) (xs ys : List Entry) → pairs_of atom (xs ++ ys) upper ≡ pairs_of atom xs upper ++ pairs_of atom ys upper
pairs-append atom upper xs ys = ap (map (combined atom upper)) (filter-append (is_lower atom) xs ys) ∙ map-append (combined atom upper) (filter (is_lower atom) xs) (filter (is_lower atom) ys)

pub uppers-append : (atom : ℕ) (stage xs ys : List Entry) → flat_map (pairs_of atom stage) (filter (is_upper atom) (xs ++ ys)) ≡ flat_map (pairs_of atom stage) (filter (is_upper atom) xs) ++ flat_map (pairs_of atom stage) (filter (is_upper atom) ys)
uppers-append atom stage xs ys = ap (flat_map (pairs_of atom stage)) (filter-append (is_upper atom) xs ys) ∙ flat_map-append (pairs_of atom stage) (filter (is_upper atom) xs) (filter (is_upper atom) ys)

-- Two members of a stage that was built.
pub member-pair : (rows : List Row) (atom : ℕ) (entries : List Entry) (upper lower : Entry) (i : ℕ) → IsBuilt rows atom entries → Contains entries upper → i < length entries → lower ≡ get_or entries i lower → IsPair rows atom upper lower
member-pair rows atom entries upper lower i built upper_in h is =
    let there = sym built.is in
    let up = upper_in.2 in
    record {
      number = built.number;
      none_false = built.none_false;
      least = ap least_atom built.is ∙ built.least;
      upper_in = subst (λ l. Contains l upper) there upper_in;
      lower_in = subst (λ l. Contains l lower) there (i, h, sym is);
      upper_from = subst (λ e. From atom e.row.parts) up (All-get_or (λ e. From atom e.row.parts) entries upper_in.0 upper upper_in.1 built.from);
      lower_from = subst (λ e. From atom e.row.parts) (sym is) (All-get_or (λ e. From atom e.row.parts) entries i lower h built.from);
      upper_good = subst (IsGood rows) up (All-get_or (IsGood rows) entries upper_in.0 upper upper_in.1 built.good);
      lower_good = subst (IsGood rows) (sym is) (All-get_or (IsGood rows) entries i lower h built.good);
    }

pub after-next : (k : ℕ) (entries : List Entry) → after k (next entries) ≡ next (after k entries)
after-next zero entries = refl
after-next (suc k) entries = after-next k (next entries)

-- The stage behind one that was built.
pub stage-next : (rows : List Row) (atom : ℕ) (entries : List Entry) (k : ℕ) → stage rows k ≡ entries → least_atom entries ≡ Some atom → stage rows (suc k) ≡ eliminated atom entries
stage-next rows atom entries k is least = after-next k (first_stage rows) ∙ ap next is ∙ ap (λ o. next_at o entries) least

pub on-ok : {T E : Type 0} {P Q : Type 0} (r : Result T E) → (P → Q) → OnOk r P → OnOk r Q
on-ok (Ok x) f h = f h
on-ok (Err e) f h = h

-- The stage behind one that was built is at least as long as what was kept on the way.
pub stage-longer : (atom : ℕ) (entries now : List Entry) (n : ℕ) → now ≡ kept_once (kept_once [] (filter (lacks atom) entries)) (flat_map (pairs_of atom entries) (filter (is_upper atom) (take n entries)))
    → length now ≤ length (eliminated atom entries)
stage-longer atom entries now n is =
    let front = filter (lacks atom) entries in
    let made : List Entry → List Entry = λ l. flat_map (pairs_of atom entries) (filter (is_upper atom) l) in
    let whole : eliminated atom entries ≡ kept_once now (made (drop n entries))
    = kept_once-append [] front (made entries)
    ∙ ap (λ l. kept_once (kept_once [] front) (made l)) (sym (take-append-drop n entries))
    ∙ ap (kept_once (kept_once [] front)) (uppers-append atom entries (take n entries) (drop n entries))
    ∙ kept_once-append (kept_once [] front) (made (take n entries)) (made (drop n entries))
    ∙ ap (λ l. kept_once l (made (drop n entries))) (sym is) in
    subst (λ l. length now ≤ length l) (sym whole) (kept_once-longer now (made (drop n entries)))

pub stage-whole : (atom : ℕ) (entries now : List Entry) (n : ℕ) → length entries ≤ n → now ≡ kept_once (kept_once [] (filter (lacks atom) entries)) (flat_map (pairs_of atom entries) (filter (is_upper atom) (take n entries)))
    → now ≡ eliminated atom entries
stage-whole atom entries now n h is = is ∙ ap (λ l. kept_once (kept_once [] (filter (lacks atom) entries)) (flat_map (pairs_of atom entries) (filter (is_upper atom) l))) (take_all n entries h)
    ∙ sym (kept_once-append [] (filter (lacks atom) entries) (flat_map (pairs_of atom entries) (filter (is_upper atom) entries)))

pub on-ok-of : {T E : Type 0} {P : Type 0} (r : Result T E) → is_err r ≡ false → OnOk r P → P
on-ok-of (Ok x) none h = h
on-ok-of (Err e) none h = absurd cc
