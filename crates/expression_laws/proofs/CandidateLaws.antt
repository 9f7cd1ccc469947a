-- The candidates of calls through pointers: they are told apart by their numbers, and a function whose name is a value is one.
use Rattle.std.proofs.Common.{◌≡◌, ◌∙◌, ◌<◌, ◌≤◌, ◌+◌, ℕ, suc, pos, ◌<ℤ◌, Bool, true, false, ◌&&◌, ◌||◌, IsTrue, if◌then◌else◌, List, [], ◌∷◌, length, Option, Some, None, refl, sym, ap, subst, arith}
use Rattle.std.specs.Prelude.{filter, nat_lt, ◌==◌, cond, unwrap_or}
use Rattle.std.specs.List.{list_any}
use Rattle.std.specs.Str.{bytes_eq}
use Rattle.std.proofs.lemmas.Int.{ints}
use Rattle.std.proofs.lemmas.Bool.Decides.{Decides-eqb, nat_tests}
use Rattle.std.proofs.lemmas.Slice.Eq.{bytes_eq-Decides}
use Rattle.c_lang.specs.Names.{Bytes}
use Rattle.c_lang.specs.Limits.{parameter_limit}
use Rattle.c_lang.specs.Programs.{func_named}
use Rattle.c_lang.specs.declared.stmt.Kind.{Kind}
use Rattle.c_lang.specs.declared.stmt.Kind.TheVariants.{Int, Fp}
use Rattle.c_lang.specs.declared.program.Func.{Func}
use Rattle.c_lang.specs.declared.program.Program.{Program}
use Rattle.c_types.specs.Names.{Code}
use Rattle.c_types.specs.Functions.{kinds_of, are_ints, counted, arity_as_value, means_of_func}
use Rattle.c_types.specs.Typing.{IsFunction}
use Rattle.name_tables.specs.Declarations.{number_from, function_number}
use Rattle.expression_conditions.specs.Numbers.{numbers_in}
use Rattle.expression_conditions.specs.Candidates.{is_value, value_functions, candidates}
use Rattle.expression_laws.proofs.KindedValues.{TellsApart}
use Rattle.expression_laws.proofs.Arithmetic.{true_false, other_of_two}

abbrev pub has_name : Bytes → List Func → Bool
has_name f ds = list_any (λ (d : Func). bytes_eq d.name f) ds

-- a pointer to functions of m parameters may have a function of this name
abbrev pub IsCandidate : Program → ℕ → Bytes → Type 0
IsCandidate p m f = IsTrue (has_name f (candidates p m))

-- ---- numbers

number_above : (k : ℕ) (ds : List Func) (f : Bytes) → IsTrue (has_name f ds) → k ≤ number_from k ds f
number_above k [] f h = absurd (true_false (sym h))
number_above k (d ∷ ds) f h = by_name (bytes_eq d.name f) h (number_above (suc k) ds f)
  where
    by_name : (b : Bool) → IsTrue (b || has_name f ds) → (IsTrue (has_name f ds) → suc k ≤ number_from (suc k) ds f) → k ≤ (if b then k else number_from (suc k) ds f)
    by_name true h later = omega arith
    by_name false h later = let above = later h in omega (arith, above)

same_number : (k : ℕ) (ds : List Func) (f g : Bytes) → IsTrue (has_name f ds) → IsTrue (has_name g ds) → number_from k ds f ≡ number_from k ds g → f ≡ g
same_number k [] f g h i e = absurd (true_false (sym h))
same_number k (d ∷ ds) f g h i e =
    by_names (bytes_eq d.name f) (bytes_eq d.name g) refl refl h i e (number_above (suc k) ds f) (number_above (suc k) ds g) (same_number (suc k) ds f g)
  where
    named : (x : Bytes) → bytes_eq d.name x ≡ true → d.name ≡ x
    named x = (bytes_eq-Decides d.name x).0

    by_names : (b c : Bool) → bytes_eq d.name f ≡ b → bytes_eq d.name g ≡ c → IsTrue (b || has_name f ds) → IsTrue (c || has_name g ds)
        → (if b then k else number_from (suc k) ds f) ≡ (if c then k else number_from (suc k) ds g)
        → (IsTrue (has_name f ds) → suc k ≤ number_from (suc k) ds f) → (IsTrue (has_name g ds) → suc k ≤ number_from (suc k) ds g)
        → (IsTrue (has_name f ds) → IsTrue (has_name g ds) → number_from (suc k) ds f ≡ number_from (suc k) ds g → f ≡ g) → f ≡ g
    by_names true true at_f at_g h i e above_f above_g later = sym (named f at_f) ∙ named g at_g
    by_names true false at_f at_g h i e above_f above_g later = let above = above_g i in absurd (omega (arith, above, e))
    by_names false true at_f at_g h i e above_f above_g later = let above = above_f h in absurd (omega (arith, above, e))
    by_names false false at_f at_g h i e above_f above_g later = later h i e

or_more : (c a b : Bool) → (IsTrue a → IsTrue b) → IsTrue (c || a) → IsTrue (c || b)
or_more true a b more h = refl
or_more false a b more h = more h

kept_names : (test : Func → Bool) (ds : List Func) (f : Bytes) → IsTrue (has_name f (filter test ds)) → IsTrue (has_name f ds)
kept_names test [] f h = h
kept_names test (d ∷ ds) f h = by_test (test d) h (kept_names test ds f)
  where
    by_test : (b : Bool) → IsTrue (has_name f (cond b (d ∷ filter test ds) (filter test ds))) → (IsTrue (has_name f (filter test ds)) → IsTrue (has_name f ds))
        → IsTrue (has_name f (d ∷ ds))
    by_test true h later = or_more (bytes_eq d.name f) (has_name f (filter test ds)) (has_name f ds) later h
    by_test false h later = other_of_two (bytes_eq d.name f) (has_name f ds) (later h)

candidate_declared : (p : Program) (m : ℕ) (f : Bytes) → IsCandidate p m f → IsTrue (has_name f p.funcs)
candidate_declared p m f h =
    kept_names (λ d. is_value p d.name) p.funcs f (kept_names (λ d. length d.params == m) (value_functions p) f h)

pub told_apart : (p : Program) → TellsApart (IsCandidate p) (numbers_in p)
told_apart p = record {
  apart = λ m f g h i e. same_number 1 p.funcs f g (candidate_declared p m f h) (candidate_declared p m g i) (as_numbers (function_number p f) (function_number p g) e);
  above = λ m f h. let above = number_above 1 p.funcs f (candidate_declared p m f h) in positive (function_number p f) above;
}
  where
    as_numbers : (a b : ℕ) → pos a ≡ pos b → a ≡ b
    as_numbers a b e = omega (arith, ints, e)

    positive : (a : ℕ) → 1 ≤ a → pos 0 <ℤ pos a
    positive a h = omega (arith, ints, h)

-- ---- a function whose name is a value

kept_named : (test : Func → Bool) (ds : List Func) (f : Bytes) (d : Func) → func_named ds f ≡ Some d → IsTrue (test d) → func_named (filter test ds) f ≡ Some d
kept_named test [] f d e h = e
kept_named test (x ∷ ds) f d e h = by_name (bytes_eq x.name f) refl e (λ later. kept_named test ds f d later h)
  where
    kept : (b : Bool) → b ≡ true → bytes_eq x.name f ≡ true → Some x ≡ Some d → func_named (cond b (x ∷ filter test ds) (filter test ds)) f ≡ Some d
    kept true yes_b at_x e = ap (λ c. if c then Some x else func_named (filter test ds) f) at_x ∙ e
    kept false yes_b at_x e = absurd (true_false (sym yes_b))

    past : (b : Bool) → bytes_eq x.name f ≡ false → func_named (filter test ds) f ≡ Some d → func_named (cond b (x ∷ filter test ds) (filter test ds)) f ≡ Some d
    past true at_x e = ap (λ c. if c then Some x else func_named (filter test ds) f) at_x ∙ e
    past false at_x e = e

    by_name : (b : Bool) → bytes_eq x.name f ≡ b → (if b then Some x else func_named ds f) ≡ Some d → (func_named ds f ≡ Some d → func_named (filter test ds) f ≡ Some d)
        → func_named (filter test (x ∷ ds)) f ≡ Some d
    by_name true at_x e later = let same : x ≡ d = ap (λ o. unwrap_or o x) e in kept (test x) (subst (λ y. IsTrue (test y)) (sym same) h) at_x e
    by_name false at_x e later = past (test x) at_x (later e)

named_has : (ds : List Func) (f : Bytes) (d : Func) → func_named ds f ≡ Some d → IsTrue (has_name f ds) × (d.name ≡ f)
named_has [] f d e = absurd cc
named_has (x ∷ ds) f d e = by_name (bytes_eq x.name f) refl e (named_has ds f d)
  where
    by_name : (b : Bool) → bytes_eq x.name f ≡ b → (if b then Some x else func_named ds f) ≡ Some d
        → (func_named ds f ≡ Some d → IsTrue (has_name f ds) × (d.name ≡ f)) → IsTrue (b || has_name f ds) × (d.name ≡ f)
    by_name true at_x e later = (refl, ap (λ (o : Option Func). (unwrap_or o x).name) (sym e) ∙ (bytes_eq-Decides x.name f).0 at_x)
    by_name false at_x e later = later e

pub is_candidate : (p : Program) (f : Bytes) (d : Func) (m : ℕ) → func_named p.funcs f ≡ Some d → IsTrue (is_value p f) → length d.params ≡ m → IsCandidate p m f
is_candidate p f d m e h few =
    let value : IsTrue (is_value p d.name) = subst (λ g. IsTrue (is_value p g)) (sym (named_has p.funcs f d e).1) h in
    let among = kept_named (λ d. is_value p d.name) p.funcs f d e value in
    (named_has (candidates p m) f d (kept_named (λ d. length d.params == m) (value_functions p) f d among ((Decides-eqb (length d.params) m).1 few))).0

-- ---- what a function's name means as a value

same_length : (ps : List (Kind × Bytes)) → length (kinds_of ps) ≡ length ps
same_length [] = refl
same_length (q ∷ ps) = ap suc (same_length ps)

value_arity : (ks : List Kind) (gives : Bool) (m : ℕ) → length ks ≤ parameter_limit → IsFunction (Fp m) (Code ks gives (arity_as_value ks gives) None) → length ks ≡ m
value_arity ks gives m few h = by_test (gives && are_ints ks) h
  where
    parameters : Kind → ℕ
    parameters Int = 0
    parameters (Fp n) = n

    by_width : (b : Bool) → nat_lt parameter_limit (length ks) ≡ b → m ≡ (if b then parameter_limit + 1 else length ks) → length ks ≡ m
    by_width true wide e = let past : parameter_limit < length ks = grind (arith, nat_tests, wide) in absurd (omega (arith, past, few))
    by_width false wide e = sym e

    by_test : (b : Bool) → IsFunction (Fp m) (Code ks gives (if b then Some (counted (length ks)) else None) None) → length ks ≡ m
    by_test true h = by_width (nat_lt parameter_limit (length ks)) refl (ap parameters h)
    by_test false h = absurd h

-- a function of a program that gives a value and has few parameters may be reached, where its name is a value somewhere
pub value_is_candidate : (p : Program) (f : Bytes) (d : Func) (m : ℕ) → func_named p.funcs f ≡ Some d → length (kinds_of d.params) ≤ parameter_limit
    → IsFunction (Fp m) (means_of_func d) → IsTrue (is_value p f) → IsCandidate p m f
value_is_candidate p f d m e few h i = is_candidate p f d m e i (sym (same_length d.params) ∙ value_arity (kinds_of d.params) d.gives m few h)
