-- What expressions stand for has no bound number in it, and so has nothing that assignments put in.
use Rattle.std.proofs.Common.{◌≡◌, Bool, true, false, ◌||◌, if◌then◌else◌, List, [], ◌∷◌, ◌++◌, Some, refl, sym, ap, subst}
use Rattle.std.specs.Prelude.{⊤, cond, find, unwrap_or}
use Rattle.std.specs.Option.{option_map}
use Rattle.std.specs.List.{list_any}
use Rattle.c_lang.specs.Names.{Bytes}
use Rattle.c_lang.specs.Trees.{Expression, literal, variable, element, function, null, negation, logical_not, binary}
use Rattle.c_lang.specs.declared.expr.Op.{Op}
use Rattle.c_lang.specs.declared.expr.Op.TheVariants as op
use Rattle.c_lang.specs.declared.stmt.Kind.{Kind}
use Rattle.c_lang.specs.declared.stmt.Dest.{Dest}
use Rattle.c_lang.specs.declared.stmt.Dest.TheVariants as dest
use Rattle.c_types.specs.Names.{Means, Cell, Array, Code, Refused, Names}
use Rattle.c_types.specs.Expressions.{place_of}
use Rattle.c_lang.specs.declared.stmt.Kind.TheVariants.{Int}
use Rattle.resolved_types.proofs.ResolvedTyping.{IsVariable, IsResolved}
use Rattle.terms.specs.declared.sym.Sym.{Sym}
use Rattle.terms.specs.declared.changes.Changes.{Changes}
use Rattle.terms.specs.Symbols.{same_sym}
use Rattle.terms.specs.Code.SymbolLaws.{same_sym-equal}
use Rattle.terms.specs.Trees as tree
use Rattle.terms.specs.Trees.{TermTree, ArrayTree}
use Rattle.terms.specs.Names.{Occurrence, is_number, term_names, array_names, form_names}
use Rattle.terms.specs.Replacing.{change_in}
use Rattle.expression_conditions.specs.declared.meaning.Meaning.{Meaning}
use Rattle.expression_conditions.specs.declared.meaning.Meaning.TheVariants as meant
use Rattle.expression_conditions.specs.Numbers.{Numbers}
use Rattle.expression_conditions.specs.Meanings.{as_number, as_condition, operated, current, meaning, val}
use Rattle.loop_invariants.specs.EntryNames.{bound}
use Rattle.weakest_preconditions.specs.Changing.{change, setting, setting_at, storing}
use Rattle.condition_laws.proofs.Changed.{AvoidsBound}

-- the bound number isn't among these names
abbrev pub IsUnbound : List Occurrence → Type 0
IsUnbound names = list_any (is_number bound) names ≡ false

pub both_unbound : (xs ys : List Occurrence) → IsUnbound xs → IsUnbound ys → IsUnbound (xs ++ ys)
both_unbound [] ys h i = i
both_unbound (x ∷ xs) ys h i = by_test (is_number bound x) h (λ later. both_unbound xs ys later i)
  where
    by_test : (b : Bool) → (b || list_any (is_number bound) xs) ≡ false → (list_any (is_number bound) xs ≡ false → list_any (is_number bound) (xs ++ ys) ≡ false)
        → (b || list_any (is_number bound) (xs ++ ys)) ≡ false
    by_test true h later = h
    by_test false h later = later h

-- what a meaning stands for, as a number and as a condition
abbrev pub IsUnboundMeaning : Meaning → Type 0
IsUnboundMeaning (meant.Number t) = IsUnbound (term_names t)
IsUnboundMeaning (meant.Condition f) = IsUnbound (form_names f)

number_unbound : (m : Meaning) → IsUnboundMeaning m → IsUnbound (term_names (as_number m))
number_unbound (meant.Number t) h = h
number_unbound (meant.Condition f) h = h

condition_unbound : (m : Meaning) → IsUnboundMeaning m → IsUnbound (form_names (as_condition m))
condition_unbound (meant.Number t) h = both_unbound (term_names t) [] h refl
condition_unbound (meant.Condition f) h = h

operated_unbound : (o : Op) (a b : Meaning) → IsUnboundMeaning a → IsUnboundMeaning b → IsUnboundMeaning (operated o a b)
operated_unbound op.Mul a b h i = both_unbound (term_names (as_number a)) (term_names (as_number b)) (number_unbound a h) (number_unbound b i)
operated_unbound op.Div a b h i = both_unbound (term_names (as_number a)) (term_names (as_number b)) (number_unbound a h) (number_unbound b i)
operated_unbound op.Rem a b h i = both_unbound (term_names (as_number a)) (term_names (as_number b)) (number_unbound a h) (number_unbound b i)
operated_unbound op.Add a b h i = both_unbound (term_names (as_number a)) (term_names (as_number b)) (number_unbound a h) (number_unbound b i)
operated_unbound op.Sub a b h i = both_unbound (term_names (as_number a)) (term_names (as_number b)) (number_unbound a h) (number_unbound b i)
operated_unbound op.Lt a b h i = both_unbound (term_names (as_number a) ++ []) (term_names (as_number b)) (both_unbound (term_names (as_number a)) [] (number_unbound a h) refl) (number_unbound b i)
operated_unbound op.Le a b h i = both_unbound (term_names (as_number a)) (term_names (as_number b)) (number_unbound a h) (number_unbound b i)
operated_unbound op.Gt a b h i = both_unbound (term_names (as_number b) ++ []) (term_names (as_number a)) (both_unbound (term_names (as_number b)) [] (number_unbound b i) refl) (number_unbound a h)
operated_unbound op.Ge a b h i = both_unbound (term_names (as_number b)) (term_names (as_number a)) (number_unbound b i) (number_unbound a h)
operated_unbound op.Eq a b h i = both_unbound (term_names (as_number a)) (term_names (as_number b)) (number_unbound a h) (number_unbound b i)
operated_unbound op.Ne a b h i = both_unbound (term_names (as_number a)) (term_names (as_number b)) (number_unbound a h) (number_unbound b i)
operated_unbound op.And a b h i = both_unbound (form_names (as_condition a)) (form_names (as_condition b)) (condition_unbound a h) (condition_unbound b i)
operated_unbound op.Or a b h i = both_unbound (form_names (as_condition a)) (form_names (as_condition b)) (condition_unbound a h) (condition_unbound b i)

-- ---- expressions, where no cell has the name of the bound number

abbrev pub NoBoundCell : Names → Type 0
NoBoundCell names = (k : Kind) → names bound.base ≡ Cell k → ⊥

cell_unbound : (names : Names) → NoBoundCell names → (place : Kind) (x : Bytes) → IsVariable place (names x) → same_sym bound (current x) ≡ false
cell_unbound names none place x h = by_test (same_sym bound (current x)) refl
  where
    no_cell : (m : Means) → names bound.base ≡ m → IsVariable place m → ⊥
    no_cell (Cell k) e i = none k e
    no_cell Array e i = i
    no_cell (Code params gives value denied) e i = i
    no_cell (Refused j) e i = i

    by_test : (b : Bool) → same_sym bound (current x) ≡ b → b ≡ false
    by_test false e = refl
    by_test true e =
        let same : bound.base ≡ x = ap (λ (s : Sym). s.base) (same_sym-equal bound (current x) e) in
        absurd (no_cell (names x) (ap names same) h)

pub meaning_unbound : (n : Numbers) (names : Names) → NoBoundCell names → (place : Kind) (e : Expression) → IsResolved names place e → IsUnboundMeaning (meaning n e)
meaning_unbound n names none place (literal z) h = refl
meaning_unbound n names none place (variable x) h = ap (λ b. b || false) (cell_unbound names none place x h)
meaning_unbound n names none place (element a i) h = number_unbound (meaning n i) (meaning_unbound n names none Int i h.2)
meaning_unbound n names none place (function f) h = refl
meaning_unbound n names none place null h = refl
meaning_unbound n names none place (negation e) h = number_unbound (meaning n e) (meaning_unbound n names none Int e h.1)
meaning_unbound n names none place (logical_not e) h = condition_unbound (meaning n e) (meaning_unbound n names none Int e h.1)
meaning_unbound n names none place (binary o a b) h =
    operated_unbound o (meaning n a) (meaning n b) (meaning_unbound n names none (place_of names o a b) a h.1) (meaning_unbound n names none (place_of names o a b) b h.2)

pub val_unbound : (n : Numbers) (names : Names) → NoBoundCell names → (place : Kind) (e : Expression) → IsResolved names place e → IsUnbound (term_names (val n e))
val_unbound n names none place e h = number_unbound (meaning n e) (meaning_unbound n names none place e h)

-- ---- changes by lists

abbrev pub NumbersUnbound : List (Sym × TermTree) → Type 0
NumbersUnbound [] = ⊤
NumbersUnbound (p ∷ ps) = IsUnbound (term_names p.1) × NumbersUnbound ps

abbrev pub ArraysUnbound : List (Sym × ArrayTree) → Type 0
ArraysUnbound [] = ⊤
ArraysUnbound (p ∷ ps) = IsUnbound (array_names p.1) × ArraysUnbound ps

number_put_in : (ps : List (Sym × TermTree)) (y : Sym) → NumbersUnbound ps → same_sym bound y ≡ false
    → IsUnbound (term_names (unwrap_or (option_map (λ (p : Sym × TermTree). p.1) (find (λ (p : Sym × TermTree). same_sym p.0 y) ps)) (tree.name y)))
number_put_in [] y h e = ap (λ b. b || false) e
number_put_in (p ∷ ps) y h e = by_test (same_sym p.0 y) (number_put_in ps y h.1 e)
  where
    by_test : (b : Bool) → IsUnbound (term_names (unwrap_or (option_map (λ (p : Sym × TermTree). p.1) (find (λ (p : Sym × TermTree). same_sym p.0 y) ps)) (tree.name y)))
        → IsUnbound (term_names (unwrap_or (option_map (λ (p : Sym × TermTree). p.1) (cond b (Some p) (find (λ (p : Sym × TermTree). same_sym p.0 y) ps))) (tree.name y)))
    by_test true later = h.0
    by_test false later = later

array_put_in : (ps : List (Sym × ArrayTree)) (y : Sym) → ArraysUnbound ps
    → IsUnbound (array_names (unwrap_or (option_map (λ (p : Sym × ArrayTree). p.1) (find (λ (p : Sym × ArrayTree). same_sym p.0 y) ps)) (tree.array y)))
array_put_in [] y h = refl
array_put_in (p ∷ ps) y h = by_test (same_sym p.0 y) (array_put_in ps y h.1)
  where
    by_test : (b : Bool) → IsUnbound (array_names (unwrap_or (option_map (λ (p : Sym × ArrayTree). p.1) (find (λ (p : Sym × ArrayTree). same_sym p.0 y) ps)) (tree.array y)))
        → IsUnbound (array_names (unwrap_or (option_map (λ (p : Sym × ArrayTree). p.1) (cond b (Some p) (find (λ (p : Sym × ArrayTree). same_sym p.0 y) ps))) (tree.array y)))
    by_test true later = h.0
    by_test false later = later

pub change_avoids : (c : Changes) → NumbersUnbound c.numbers → ArraysUnbound c.arrays → AvoidsBound (change c)
change_avoids c numbers arrays = record {
  numbers = λ y e. subst (λ b. IsUnbound (term_names (if b then tree.name y else (change_in c).number y))) (sym e) (number_put_in c.numbers y numbers e);
  arrays = λ y. array_put_in c.arrays y arrays;
}

pub setting_avoids : (d : Dest) (t : TermTree) → IsUnbound (term_names t) → AvoidsBound (change (setting_at d t))
setting_avoids dest.Nowhere t h = change_avoids (setting_at dest.Nowhere t) tt tt
setting_avoids (dest.Into x) t h = change_avoids (setting x t) (h, tt) tt
setting_avoids (dest.Fresh k x) t h = change_avoids (setting x t) (h, tt) tt

pub storing_avoids : (a : Bytes) (i t : TermTree) → IsUnbound (term_names i) → IsUnbound (term_names t) → AvoidsBound (change (storing a i t))
storing_avoids a i t h k = change_avoids (storing a i t) tt (both_unbound (term_names i) (term_names t) h k, tt)
