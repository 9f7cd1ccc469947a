-- Whether some name of a list is missing from a listing.
use Rattle.std.proofs.Common.{◌≡◌, ℕ, ◌==◌, Bool, true, false, not, ◌&&◌, ◌||◌, if◌then◌else◌, List, [], ◌∷◌, ◌++◌, map, filter, flat_map, length, Some, refl, sym, ap, ap₂, ◌∙◌}
use Rattle.std.specs.Borrow.{Bor}
use Rattle.std.specs.List.{list_any}
use Rattle.std.specs.Option.{is_some}
use Rattle.std.specs.Str.{bytes_eq}
use Rattle.std.proofs.lemmas.List.Folds.{list_any-append}
use Rattle.std.proofs.lemmas.Slice.Eq.{bytes_eq-Decides}
use Rattle.c_lang.specs.Names.{Bytes}
use Rattle.c_lang.specs.Programs.{global_named}
use Rattle.c_lang.specs.declared.program.GlobalVar.{GlobalVar}
use Rattle.c_lang.specs.declared.program.Func.{Func}
use Rattle.c_lang.specs.Trees.{statements, statement_of}
use Rattle.expression_conditions.specs.Candidates.{value_functions}
use Rattle.loop_invariants.specs.Context.{Context, context_of, names_of}
use Rattle.loop_invariants.specs.SetNames.{is_among, reached_assigns, sets_in}
use Rattle.loop_invariants.specs.Code.Listing.{has, is_missing, some_missing, context_by}
use Rattle.loop_invariants.specs.declared.assigned.Listing.{Listing}

pub some_of_two : (l : Listing) (xs ys : List Bytes) → some_missing l (xs ++ ys) ≡ (some_missing l xs || some_missing l ys)
some_of_two l xs ys = list_any-append (is_missing l) xs ys

some_in_filtered : (p : Bytes → Bool) (f : Bytes → List Bytes) (q : Func → Bool) (ds : List Func)
    → list_any p (flat_map f (map (λ d. d.name) (filter q ds))) ≡ list_any (λ d. q d && list_any p (f d.name)) ds
some_in_filtered p f q [] = refl
some_in_filtered p f q (d ∷ ds) = by (q d) (some_in_filtered p f q ds)
  where
    by : (b : Bool) → list_any p (flat_map f (map (λ d. d.name) (filter q ds))) ≡ list_any (λ d. q d && list_any p (f d.name)) ds
        → list_any p (flat_map f (map (λ d. d.name) (if b then d ∷ filter q ds else filter q ds)))
        ≡ ((b && list_any p (f d.name)) || list_any (λ d. q d && list_any p (f d.name)) ds)
    by true rest = list_any-append p (f d.name) (flat_map f (map (λ d. d.name) (filter q ds))) ∙ ap (λ b. list_any p (f d.name) || b) rest
    by false rest = rest

some_reached : (l : Listing) (n : ℕ) → some_missing l (reached_assigns (context_by l) n)
    ≡ list_any (λ d. (length d.params == n) && some_missing l ((context_by l).assigns d.name)) (map (λ f. f.now) l.values.now)
some_reached l n = some_in_filtered (is_missing l) (context_by l).assigns (λ d. length d.params == n) (map (λ f. f.now) l.values.now)

list_any_map : {A B : Type 0} (p : B → Bool) (f : A → B) (xs : List A) → list_any p (map f xs) ≡ list_any (λ x. p (f x)) xs
list_any_map p f [] = refl
list_any_map p f (x ∷ xs) = ap (λ b. p (f x) || b) (list_any_map p f xs)

pub some_value : (l : Listing) (n : ℕ) → list_any (λ (f : Bor Func). (length f.now.params == n) && some_missing l ((context_by l).assigns f.now.name)) l.values.now
    ≡ some_missing l (reached_assigns (context_by l) n)
some_value l n = sym (some_reached l n ∙ list_any_map (λ d. (length d.params == n) && some_missing l ((context_by l).assigns d.name)) (λ f. f.now) l.values.now)

pub some_global : (l : Listing) → list_any (λ (g : GlobalVar). is_missing l g.name) l.names.now.globals ≡ some_missing l (names_of l.names.now.globals)
some_global l = sym (list_any_map (is_missing l) (λ g. g.name) l.names.now.globals)

-- ---- globals by their names

pub symmetric : (x y : Bytes) → bytes_eq x y ≡ bytes_eq y x
symmetric x y = by (bytes_eq x y) (bytes_eq y x) refl refl
  where
    by : (b c : Bool) → bytes_eq x y ≡ b → bytes_eq y x ≡ c → b ≡ c
    by true true p q = refl
    by true false p q = sym ((bytes_eq-Decides y x).1 (sym ((bytes_eq-Decides x y).0 p))) ∙ q
    by false true p q = sym p ∙ (bytes_eq-Decides x y).1 (sym ((bytes_eq-Decides y x).0 q))
    by false false p q = refl

pub is_global : (gs : List GlobalVar) (x : Bytes) → is_some (global_named gs x) ≡ is_among x (names_of gs)
is_global [] x = refl
is_global (g ∷ gs) x = by (bytes_eq g.name x) (is_global gs x) ∙ ap (λ b. b || is_among x (names_of gs)) (symmetric g.name x)
  where
    by : (b : Bool) → is_some (global_named gs x) ≡ is_among x (names_of gs)
        → is_some (if b then Some g else global_named gs x) ≡ (b || is_among x (names_of gs))
    by true rest = refl
    by false rest = rest

-- ---- listed names

pub same_test : {A : Type 0} (p q : A → Bool) → ((x : A) → p x ≡ q x) → (xs : List A) → list_any p xs ≡ list_any q xs
same_test p q same [] = refl
same_test p q same (x ∷ xs) = ap₂ (λ a b. a || b) (same x) (same_test p q same xs)

-- a function that may change every global misses none
pub none_missing : (all xs : List Bytes) → list_any (λ x. is_among x all && not (is_among x all)) xs ≡ false
none_missing all [] = refl
none_missing all (x ∷ xs) = by (is_among x all) (none_missing all xs)
  where
    by : (b : Bool) → list_any (λ x. is_among x all && not (is_among x all)) xs ≡ false
        → ((b && not b) || list_any (λ x. is_among x all && not (is_among x all)) xs) ≡ false
    by true rest = rest
    by false rest = rest

-- what a listing with these cells misses
pub missing_is : (l : Listing) (listed : List Bytes) → ((x : Bytes) → has l.listed x ≡ is_among x listed)
    → (x : Bytes) → is_missing l x ≡ (is_among x (names_of l.names.now.globals) && not (is_among x listed))
missing_is l listed same x = ap₂ (λ a b. a && not b) (is_global l.names.now.globals x) (same x)

-- the functions that are kept are those whose names are values
pub context_is : (l : Listing) → map (λ f. f.now) l.values.now ≡ value_functions l.names.now → context_by l ≡ context_of l.names.now l.hints.now
context_is l same = ap (λ ds. with_reached (λ n. map (λ d. d.name) (filter (λ d. length d.params == n) ds))) same
  where
    with_reached : (ℕ → List Bytes) → Context
    with_reached r = record (context_of l.names.now l.hints.now) { reached = r }

pub others_is : (l : Listing) (listed : List Bytes) (f : Func) → ((x : Bytes) → has l.listed x ≡ is_among x listed)
    → map (λ f. f.now) l.values.now ≡ value_functions l.names.now
    → some_missing l (sets_in (context_by l) (statements (map statement_of f.body)))
    ≡ list_any (λ x. is_among x (names_of l.names.now.globals) && not (is_among x listed)) (sets_in (context_of l.names.now l.hints.now) (statements (map statement_of f.body)))
others_is l listed f same values = ap (λ c. some_missing l (sets_in c (statements (map statement_of f.body)))) (context_is l values)
    ∙ same_test (is_missing l) (λ x. is_among x (names_of l.names.now.globals) && not (is_among x listed)) (missing_is l listed same)
    (sets_in (context_of l.names.now l.hints.now) (statements (map statement_of f.body)))
