-- The numbers that refuse arguments, found one after the other.
use Rattle.std.proofs.Common.{◌≡◌, ◌-◌, ℕ, zero, suc, List, ◌∷◌, length, map, Option, refl, ap, arith}
use Rattle.std.proofs.lemmas.List.{length-map}
use Rattle.c_lang.specs.Trees.{Expression, expression_of}
use Rattle.c_lang.specs.declared.expr.Expr.{Expr}
use Rattle.c_lang.specs.declared.stmt.Kind.{Kind}
use Rattle.c_types.specs.Names.{Names, smaller}
use Rattle.c_types.specs.Expressions.{wrong}
use Rattle.c_types.specs.Calls.{first_place, other_places, wrong_places, wrong_count, wrong_args, ints}
use Rattle.c_types.proofs.Combined.{smaller_assoc}

-- one more argument
pub places_step : (names : Names) (before : Option ℕ) (ks : List Kind) (e : Expression) (es : List Expression)
    → smaller (smaller before (wrong names (first_place names ks e) e)) (wrong_places names (other_places ks) es)
    ≡ smaller before (wrong_places names ks (e ∷ es))
places_step names before ks e es = smaller_assoc before (wrong names (first_place names ks e) e) (wrong_places names (other_places ks) es)

-- ---- parameters of pointers

ints_length : (n : ℕ) → length (ints n) ≡ n
ints_length zero = refl
ints_length (suc n) = let others = ints_length n in omega arith

pub ints_after : (n : ℕ) → ints (n - 1) ≡ other_places (ints n)
ints_after zero = refl
ints_after (suc n) = ap ints (omega arith)

pub ints_counted : (names : Names) (n : ℕ) (es : List Expr)
    → smaller (wrong_count n (length es)) (wrong_places names (ints n) (map expression_of es)) ≡ wrong_args names (ints n) (map expression_of es)
ints_counted names n es = rw (ints_length n, length-map es expression_of) refl
