-- What holds of each statement of a source, and so of its resolved form: its names are words, its literals are ints,
-- results go to what is declared, and its declarations are narrow.
use Rattle.std.specs.Prelude.{⊤, ◌≡◌, ◌≤◌, pos, true, List, [], ◌∷◌, map, Option, Some, None}
use Rattle.std.proofs.Common.{refl}
use Rattle.std.specs.List.{Contains}
use Rattle.std.specs.Option.{option_map}
use Rattle.c_lang.specs.Trees.{Expression, literal, variable, element, function, null, negation, logical_not, binary, Statement, skip, set, set_element, call, call_by, if_else, while_loop, break_loop, return_with, assert_that, input, output, point, choice, force, pick}
use Rattle.c_lang.specs.declared.stmt.Dest.{Dest}
use Rattle.c_lang.specs.declared.stmt.Dest.TheVariants.{Nowhere, Into, Fresh}
use Rattle.c_types.specs.Plain.{plain_expression, plain_statement}
use Rattle.merge_printer.proofs.ExpressionLaw.{IsLiteral}
use Rattle.merge_printer.proofs.Fitting.{DestFits, TargetFits}
use Rattle.merge_printer.proofs.Words.{IsName}
use Rattle.written_laws.specs.Walk.{Context}

-- ---- expressions

-- its resolved form and its plain form are sound or aren't, both
abbrev pub IsSound : Expression → Type 0
IsSound (literal z) = IsLiteral z
IsSound (variable x) = IsName x
IsSound (element a i) = IsName a × IsSound i
IsSound (function f) = IsName f
IsSound null = IsLiteral (pos 0)
IsSound (negation e) = IsSound e
IsSound (logical_not e) = IsSound e
IsSound (binary o a b) = IsSound a × IsSound b

abbrev pub AreSound : List Expression → Type 0
AreSound [] = ⊤
AreSound (e ∷ es) = IsSound e × AreSound es

abbrev pub ReturnsSound : Option Expression → Type 0
ReturnsSound None = ⊤
ReturnsSound (Some e) = IsSound e

sound_plain : (e : Expression) → IsSound (plain_expression e) ≡ IsSound e
sound_plain (literal z) = refl
sound_plain (variable x) = refl
sound_plain (element a i) = rw (sound_plain i) refl
sound_plain (function f) = refl
sound_plain null = refl
sound_plain (negation e) = sound_plain e
sound_plain (logical_not e) = sound_plain e
sound_plain (binary o a b) = rw (sound_plain a, sound_plain b) refl

all_plain : (es : List Expression) → AreSound (map plain_expression es) ≡ AreSound es
all_plain [] = refl
all_plain (e ∷ es) = rw (sound_plain e, all_plain es) refl

return_plain : (e : Option Expression) → ReturnsSound (option_map plain_expression e) ≡ ReturnsSound e
return_plain None = refl
return_plain (Some e) = sound_plain e

-- ---- statements

-- where a result goes that goes to a name which stands already, it was declared before
abbrev pub IsHere : Context → Dest → Type 0
IsHere at Nowhere = ⊤
IsHere at (Into x) = Contains at.declared x
IsHere at (Fresh k x) = ⊤

abbrev pub ResultFits : Context → Dest → Type 0
ResultFits at d = DestFits d × IsHere at d

abbrev pub IsGood : Context → Statement → Type 0
IsGood at (skip p) = ⊤
IsGood at (set p d e) = TargetFits d × IsSound e
IsGood at (set_element p a i e) = IsName a × IsSound i × IsSound e
IsGood at (call p d f es) = ResultFits at d × IsName f × AreSound es
IsGood at (call_by p d x es) = ResultFits at d × IsName x × AreSound es
IsGood at (if_else p e a b) = IsSound e
IsGood at (while_loop p e a) = IsSound e
IsGood at (break_loop p) = at.in_loop ≡ true
IsGood at (return_with p e) = ReturnsSound e
IsGood at (assert_that p e) = IsSound e
IsGood at (input p d) = ResultFits at d
IsGood at (output p e) = IsSound e
IsGood at (point p k) = k ≤ 2147483647
IsGood at (choice p d k) = ResultFits at d × (k ≤ 2147483647)
IsGood at (force p) = ⊤
IsGood at (pick p a b) = ⊤

pub good_plain : (at : Context) (s : Statement) → IsGood at (plain_statement s) ≡ IsGood at s
good_plain at (skip p) = refl
good_plain at (set p d e) = rw (sound_plain e) refl
good_plain at (set_element p a i e) = rw (sound_plain i, sound_plain e) refl
good_plain at (call p d f es) = rw (all_plain es) refl
good_plain at (call_by p d x es) = rw (all_plain es) refl
good_plain at (if_else p e a b) = sound_plain e
good_plain at (while_loop p e a) = sound_plain e
good_plain at (break_loop p) = refl
good_plain at (return_with p e) = return_plain e
good_plain at (assert_that p e) = sound_plain e
good_plain at (input p d) = refl
good_plain at (output p e) = sound_plain e
good_plain at (point p k) = refl
good_plain at (choice p d k) = refl
good_plain at (force p) = refl
good_plain at (pick p a b) = refl
