-- The conditions by expressions have the formulas that their definition says.
use Rattle.std.proofs.Common.{◌≡◌, pos, List, [], ◌∷◌, ◌++◌, map, flat_map, refl, sym, ap, ap₂, ◌∙◌}
use Rattle.std.proofs.lemmas.List.{map-append, append-nil, append_assoc}
use Rattle.c_lang.specs.Names.{Bytes}
use Rattle.c_lang.specs.Trees.{Expression, literal, variable, element, function, null, negation, logical_not, binary}
use Rattle.c_lang.specs.declared.expr.Op.{Op}
use Rattle.c_lang.specs.declared.expr.Op.TheVariants as op
use Rattle.terms.specs.Trees.{FormTree, denied, number, plus, minus, times, divided}
use Rattle.expression_conditions.specs.Numbers.{Numbers}
use Rattle.expression_conditions.specs.Meanings.{val, form}
use Rattle.expression_conditions.specs.Owed.{Owed, under, own, own_all, own_element, fits, is_divisor, is_index, operator_owes, behind}
use Rattle.expression_conditions.specs.Code.Due.{Given, holds, fails, Goal, in_range, quotient_in_range, not_zero, within, goal_what, Due, given_form, goal_owed, due_owed, operator_due, given_right, due}

-- where all of these are given
abbrev under_all : List FormTree → Owed → Owed
under_all gs o = record o { given = gs ++ o.given }

abbrev forms : Numbers → List Given → List FormTree
forms n g = map (given_form n) g

one_more : (gs : List FormTree) (f : FormTree) (l : List Owed) → map (under_all (gs ++ f ∷ [])) l ≡ map (under_all gs) (map (under f) l)
one_more gs f [] = refl
one_more gs f (o ∷ l) = ap₂ (λ g l. (record o { given = g }) ∷ l) (append_assoc gs (f ∷ []) o.given) (one_more gs f l)

none_given : (l : List Owed) → map (under_all []) l ≡ l
none_given [] = refl
none_given (o ∷ l) = ap (λ l. o ∷ l) (none_given l)

-- a goal that nothing but these is given for
alone : (gs : List FormTree) (o : Owed) → (record o { given = gs }) ≡ record o { given = gs ++ [] }
alone gs o = ap (λ g. record o { given = g }) (sym (append-nil gs))

two : (gs : List FormTree) (o p : Owed) → (record o { given = gs }) ∷ ((record p { given = gs }) ∷ []) ≡ (record o { given = gs ++ [] }) ∷ ((record p { given = gs ++ [] }) ∷ [])
two gs o p = ap₂ (λ o p. o ∷ (p ∷ [])) (alone gs o) (alone gs p)

operator : (n : Numbers) (g : List Given) (o : Op) (a b : Expression)
    → map (due_owed n) (operator_due g o (binary o a b) a b) ≡ map (under_all (forms n g)) (operator_owes o (val n a) (val n b))
operator n g op.Add a b = ap (λ o. o ∷ []) (alone (forms n g) (fits (plus (val n a) (val n b))))
operator n g op.Sub a b = ap (λ o. o ∷ []) (alone (forms n g) (fits (minus (val n a) (val n b))))
operator n g op.Mul a b = ap (λ o. o ∷ []) (alone (forms n g) (fits (times (val n a) (val n b))))
operator n g op.Div a b = two (forms n g) (is_divisor (val n b)) (fits (divided (val n a) (val n b)))
operator n g op.Rem a b = two (forms n g) (is_divisor (val n b)) (fits (divided (val n a) (val n b)))
operator n g op.Lt a b = refl
operator n g op.Le a b = refl
operator n g op.Gt a b = refl
operator n g op.Ge a b = refl
operator n g op.Eq a b = refl
operator n g op.Ne a b = refl
operator n g op.And a b = refl
operator n g op.Or a b = refl

right : (n : Numbers) (g : List Given) (o : Op) (a : Expression) (l : List Owed)
    → map (under_all (forms n (given_right g o a))) l ≡ map (under_all (forms n g)) (behind o (form n a) l)
right n g op.And a l = ap (λ gs. map (under_all gs) l) (map-append (given_form n) g (holds a ∷ [])) ∙ one_more (forms n g) (form n a) l
right n g op.Or a l = ap (λ gs. map (under_all gs) l) (map-append (given_form n) g (fails a ∷ [])) ∙ one_more (forms n g) (denied (form n a)) l
right n g op.Mul a l = refl
right n g op.Div a l = refl
right n g op.Rem a l = refl
right n g op.Add a l = refl
right n g op.Sub a l = refl
right n g op.Lt a l = refl
right n g op.Le a l = refl
right n g op.Gt a l = refl
right n g op.Ge a l = refl
right n g op.Eq a l = refl
right n g op.Ne a l = refl

-- lists put together on both sides
both : (n : Numbers) (gs : List FormTree) (d e : List Due) (l m : List Owed)
    → map (due_owed n) d ≡ map (under_all gs) l → map (due_owed n) e ≡ map (under_all gs) m
    → map (due_owed n) (d ++ e) ≡ map (under_all gs) (l ++ m)
both n gs d e l m p q = map-append (due_owed n) d e ∙ ap₂ (λ x y. x ++ y) p q ∙ sym (map-append (under_all gs) l m)

pub due-is : (n : Numbers) (g : List Given) (e : Expression) → map (due_owed n) (due g e) ≡ map (under_all (forms n g)) (own n e)
due-is n g (literal z) = refl
due-is n g (variable x) = refl
due-is n g (element a i) = both n (forms n g) (due g i) _ (own n i) _ (due-is n g i) (ap (λ o. o ∷ []) (alone (forms n g) (is_index n a (val n i))))
due-is n g (function f) = refl
due-is n g null = refl
due-is n g (negation e) = both n (forms n g) (due g e) _ (own n e) _ (due-is n g e) (ap (λ o. o ∷ []) (alone (forms n g) (fits (minus (number (pos 0)) (val n e)))))
due-is n g (logical_not e) = due-is n g e
due-is n g (binary o a b) =
    both n (forms n g) (due g a) _ (own n a) _ (due-is n g a)
    (both n (forms n g) (due (given_right g o a) b) _ (behind o (form n a) (own n b)) _
    (due-is n (given_right g o a) b ∙ right n g o a (own n b)) (operator n g o a b))

pub due-own : (n : Numbers) (e : Expression) → map (due_owed n) (due [] e) ≡ own n e
due-own n e = due-is n [] e ∙ none_given (own n e)

-- expressions one after the other
pub due-all : (n : Numbers) (es : List Expression) → map (due_owed n) (flat_map (due []) es) ≡ own_all n es
due-all n [] = refl
due-all n (e ∷ es) = map-append (due_owed n) (due [] e) (flat_map (due []) es) ∙ ap₂ (λ x y. x ++ y) (due-own n e) (due-all n es)

pub due-element : (n : Numbers) (a : Bytes) (i e : Expression)
    → map (due_owed n) ((due [] i ++ due [] e) ++ (record { given = []; goal = within a i }) ∷ []) ≡ own_element n a i e
due-element n a i e =
    map-append (due_owed n) (due [] i ++ due [] e) ((record { given = []; goal = within a i }) ∷ [])
    ∙ ap (λ x. x ++ is_index n a (val n i) ∷ []) (map-append (due_owed n) (due [] i) (due [] e) ∙ ap₂ (λ x y. x ++ y) (due-own n i) (due-own n e))
    ∙ append_assoc (own n i) (own n e) (is_index n a (val n i) ∷ [])

pub what-is : (n : Numbers) (g : Goal) → (goal_owed n g).what ≡ goal_what g
what-is n (in_range e) = refl
what-is n (quotient_in_range a b) = refl
what-is n (not_zero e) = refl
what-is n (within a i) = refl
