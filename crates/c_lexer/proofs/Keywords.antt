-- The search in the sorted table finds the number of a keyword: how many keywords come before it.
use Rattle.std.proofs.Common.{◌≡◌, ℕ, zero, suc, ◌+◌, ◌<◌, ◌≤◌, Bool, true, false, ◌&&◌, ◌||◌, eqb, List, [], ◌∷◌, map, length, get_or, Option, Some, None, refl, sym, ap, subst, ◌∙◌, arith, inl, inr}
use Rattle.std.specs.Prelude.{◌⊎◌, bytes_eq}
use Rattle.std.specs.List.{list_any, list_all}
use Rattle.std.specs.Ordering.{nat_cmp, is_lt, is_gt, is_eq}
use Rattle.std.specs.Cmp.Lexicographic.{slice_cmp}
use Rattle.std.specs.declared.cmp.Ordering.{Ordering}
use Rattle.std.specs.declared.cmp.Ordering.TheVariants.{Less, Equal, Greater}
use Rattle.std.proofs.lemmas.Bool.{eqb-true, cases_lt}
use Rattle.std.proofs.lemmas.Slice.Eq.{bytes_eq-Decides}
use Rattle.std.proofs.lemmas.Map.Text.{is_eq-slice_cmp}
use Rattle.c_lang.specs.Names.{Bytes}
use Rattle.c_grammar.specs.Words.{keywords, keyword_number}
use Rattle.c_lexer.specs.declared.words.TheConstants.{KEYWORDS}
use Rattle.c_lexer.proofs.Cases.{and_both, same_bytes}

abbrev table : List Bytes
table = map (λ entry. entry.now) KEYWORDS

abbrev pub keyword_at : ℕ → Bytes
keyword_at place = get_or (map (λ entry. entry.now) KEYWORDS) place []

-- ---- what the table is found to be by looking at each entry

abbrev is_some_of : ℕ → Option ℕ → Bool
is_some_of k None = false
is_some_of k (Some n) = eqb n k

-- the entries have the numbers from k on
abbrev are_numbered : ℕ → List Bytes → Bool
are_numbered k [] = true
are_numbered k (word ∷ words) = is_some_of k (keyword_number word) && are_numbered (k + 1) words

abbrev is_before : Bytes → Bytes → Bool
is_before word later = is_lt (slice_cmp nat_cmp word later) && is_gt (slice_cmp nat_cmp later word)

abbrev is_sorted : List Bytes → Bool
is_sorted [] = true
is_sorted (word ∷ words) = list_all (is_before word) words && is_sorted words

all_numbered : are_numbered 0 table ≡ true
unfolding keyword_number
all_numbered = refl

all_listed : list_all (λ word. list_any (bytes_eq word) table) keywords ≡ true
all_listed = refl

all_sorted : is_sorted table ≡ true
all_sorted = refl

-- ---- at an index

some_of : (k : ℕ) (o : Option ℕ) → is_some_of k o ≡ true → o ≡ Some k
some_of k None e = absurd cc
some_of k (Some n) e = ap (λ (x : ℕ). Some x) (eqb-true n k e)

numbered_at : (words : List Bytes) (k from : ℕ) → are_numbered from words ≡ true → k < length words → keyword_number (get_or words k []) ≡ Some (from + k)
numbered_at [] k from all lt = let never : ⊥ = omega arith in absurd never
numbered_at (word ∷ words) zero from all lt =
    some_of from (keyword_number word) (and_both (is_some_of from (keyword_number word)) (are_numbered (from + 1) words) all).0 ∙ ap (λ (x : ℕ). Some x) (omega arith)
numbered_at (word ∷ words) (suc k) from all lt =
    numbered_at words k (from + 1) (and_both (is_some_of from (keyword_number word)) (are_numbered (from + 1) words) all).1 (omega arith) ∙ ap (λ (x : ℕ). Some x) (omega arith)

all_at : (test : Bytes → Bool) (words : List Bytes) (k : ℕ) → list_all test words ≡ true → k < length words → test (get_or words k []) ≡ true
all_at test [] k all lt = let never : ⊥ = omega arith in absurd never
all_at test (word ∷ words) zero all lt = (and_both (test word) (list_all test words) all).0
all_at test (word ∷ words) (suc k) all lt = all_at test words k (and_both (test word) (list_all test words) all).1 (omega arith)

sorted_at : (words : List Bytes) (k m : ℕ) → is_sorted words ≡ true → k < m → m < length words → is_before (get_or words k []) (get_or words m []) ≡ true
sorted_at [] k m all less lt = let never : ⊥ = omega arith in absurd never
sorted_at (word ∷ words) k zero all less lt = let never : ⊥ = omega arith in absurd never
sorted_at (word ∷ words) zero (suc m) all less lt =
    all_at (is_before word) words m (and_both (list_all (is_before word) words) (is_sorted words) all).0 (omega arith)
sorted_at (word ∷ words) (suc k) (suc m) all less lt =
    sorted_at words k m (and_both (list_all (is_before word) words) (is_sorted words) all).1 (omega arith) (omega arith)

-- ---- the order of two entries

less_is : (o : Ordering) → is_lt o ≡ true → o ≡ Less
less_is Less e = refl
less_is Equal e = absurd cc
less_is Greater e = absurd cc

greater_is : (o : Ordering) → is_gt o ≡ true → o ≡ Greater
greater_is Greater e = refl
greater_is Equal e = absurd cc
greater_is Less e = absurd cc

equal_is : (o : Ordering) → is_eq o ≡ true → o ≡ Equal
equal_is Equal e = refl
equal_is Less e = absurd cc
equal_is Greater e = absurd cc

abbrev entry_order : ℕ → ℕ → Ordering
entry_order k m = slice_cmp nat_cmp (keyword_at k) (keyword_at m)

before_is : (k m : ℕ) → k < m → m < 51 → (entry_order k m ≡ Less) × (entry_order m k ≡ Greater)
before_is k m less within =
    let both = and_both (is_lt (entry_order k m)) (is_gt (entry_order m k)) (sorted_at table k m all_sorted less within) in
    (less_is (entry_order k m) both.0, greater_is (entry_order m k) both.1)

same_is : (k m : ℕ) → k ≡ m → entry_order k m ≡ Equal
same_is k m e =
    equal_is (entry_order k m) (is_eq-slice_cmp (keyword_at k) (keyword_at m) ∙ (bytes_eq-Decides (keyword_at k) (keyword_at m)).1 (ap keyword_at e))

-- ---- a turn of the search

pub stands_before : (word : Bytes) (k m : ℕ) → k < 51 → m < 51 → word ≡ keyword_at k → slice_cmp nat_cmp word (keyword_at m) ≡ Less → k < m
stands_before word k m kept within is order = by_order (cases_lt k m) (cases_lt m k)
  where
    at_entry : entry_order k m ≡ Less
    at_entry = subst (λ (w : Bytes). slice_cmp nat_cmp w (keyword_at m) ≡ Less) is order

    by_order : (k < m) ⊎ (m ≤ k) → (m < k) ⊎ (k ≤ m) → k < m
    by_order (inl less) other = less
    by_order (inr more) (inl less) = let e = (before_is m k less kept).1 in absurd (let f : Greater ≡ Less = sym e ∙ at_entry in cc)
    by_order (inr more) (inr other) = let e = same_is k m (omega arith) in absurd (let f : Equal ≡ Less = sym e ∙ at_entry in cc)

pub stands_behind : (word : Bytes) (k m : ℕ) → k < 51 → m < 51 → word ≡ keyword_at k → slice_cmp nat_cmp word (keyword_at m) ≡ Greater → m < k
stands_behind word k m kept within is order = by_order (cases_lt m k) (cases_lt k m)
  where
    at_entry : entry_order k m ≡ Greater
    at_entry = subst (λ (w : Bytes). slice_cmp nat_cmp w (keyword_at m) ≡ Greater) is order

    by_order : (m < k) ⊎ (k ≤ m) → (k < m) ⊎ (m ≤ k) → m < k
    by_order (inl less) other = less
    by_order (inr more) (inl less) = let e = (before_is k m less within).0 in absurd (let f : Less ≡ Greater = sym e ∙ at_entry in cc)
    by_order (inr more) (inr other) = let e = same_is k m (omega arith) in absurd (let f : Equal ≡ Greater = sym e ∙ at_entry in cc)

-- ---- the end of the search

pub found : (word : Bytes) (m : ℕ) → m < 51 → slice_cmp nat_cmp word (keyword_at m) ≡ Equal → keyword_number word ≡ Some m
found word m within order =
    let same : word ≡ keyword_at m = same_bytes word (keyword_at m) (sym (is_eq-slice_cmp word (keyword_at m)) ∙ ap is_eq order) in
    ap keyword_number same ∙ numbered_at table m 0 all_numbered within ∙ ap (λ (x : ℕ). Some x) (omega arith)

-- a word that is no entry is in no list of which each word is one
absent : (word : Bytes) (words : List Bytes) → ((k : ℕ) → k < length words → word ≡ get_or words k [] → ⊥) → list_any (bytes_eq word) words ≡ false
absent word [] never = refl
absent word (entry ∷ words) never =
    let others = absent word words (λ k lt is. never (suc k) (omega arith) is) in
    go (bytes_eq word entry) refl others
  where
    go : (b : Bool) → bytes_eq word entry ≡ b → list_any (bytes_eq word) words ≡ false → (b || list_any (bytes_eq word) words) ≡ false
    go false e others = others
    go true e others = absurd (never 0 (omega arith) (same_bytes word entry e))

none_of : (word : Bytes) (words : List Bytes) → list_all (λ other. list_any (bytes_eq other) table) words ≡ true → list_any (bytes_eq word) table ≡ false → list_any (bytes_eq word) words ≡ false
none_of word [] all none = refl
none_of word (entry ∷ words) all none =
    let both = and_both (list_any (bytes_eq entry) table) (list_all (λ other. list_any (bytes_eq other) table) words) all in
    let others = none_of word words both.1 none in
    go (bytes_eq word entry) refl both.0 others
  where
    go : (b : Bool) → bytes_eq word entry ≡ b → list_any (bytes_eq entry) table ≡ true → list_any (bytes_eq word) words ≡ false → (b || list_any (bytes_eq word) words) ≡ false
    go false e there others = others
    go true e there others = absurd (let same = same_bytes word entry e in let here : list_any (bytes_eq word) table ≡ true = subst (λ (w : Bytes). list_any (bytes_eq w) table ≡ true) (sym same) there in cc)

no_number : (word : Bytes) → list_any (bytes_eq word) keywords ≡ false → keyword_number word ≡ None
unfolding keyword_number
no_number word e = rw e refl

pub missing : (word : Bytes) → ((k : ℕ) → k < 51 → word ≡ keyword_at k → ⊥) → keyword_number word ≡ None
missing word never = no_number word (none_of word keywords all_listed (absent word table never))
