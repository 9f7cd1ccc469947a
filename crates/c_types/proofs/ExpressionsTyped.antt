-- An expression is typed exactly where no number refuses it.
use Rattle.std.proofs.Common.{◌≡◌, zero, suc, ℤ, pos, negsuc, Some, None, refl}
use Rattle.c_lang.specs.Trees.{Expression, literal, variable, element, function, null, negation, logical_not, binary}
use Rattle.c_lang.specs.declared.stmt.Kind.{Kind}
use Rattle.c_lang.specs.declared.stmt.Kind.TheVariants.{Int, Fp}
use Rattle.c_lang.specs.Refusals as numbers
use Rattle.c_types.specs.Names.{Means, Cell, Array, Code, Refused, Names, smaller, fits}
use Rattle.c_types.specs.Expressions.{wrong_name, wrong_function, wrong_array, wrong_element_of, wrong_literal, wrong_null, place_of, wrong}
use Rattle.c_types.specs.Typing.{IsValue, IsFunction, IsArray, IsLiteral, IsPointer, IsTyped}
use Rattle.c_types.proofs.Combined.{some_none, both_none, fit_sound, fit_itself}

value_sound : (p : Kind) (m : Means) → wrong_name p m ≡ None → IsValue p m
value_sound p (Cell k) h = fit_sound p k h
value_sound p Array h = absurd (some_none numbers.wrong_kind h)
value_sound p (Code params gives (Some n) denied) h = fit_sound p (Fp n) h
value_sound p (Code params gives None denied) h = absurd (some_none numbers.not_pointable h)
value_sound p (Refused n) h = absurd (some_none n h)

value_complete : (p : Kind) (m : Means) → IsValue p m → wrong_name p m ≡ None
value_complete p (Cell k) h = fit_itself p k h
value_complete p Array h = absurd h
value_complete p (Code params gives (Some n) denied) h = fit_itself p (Fp n) h
value_complete p (Code params gives None denied) h = absurd h
value_complete p (Refused n) h = absurd h

pub function_sound : (p : Kind) (m : Means) → wrong_function p m ≡ None → IsFunction p m
function_sound p (Code params gives (Some n) denied) h = fit_sound p (Fp n) h
function_sound p (Code params gives None denied) h = absurd (some_none numbers.not_pointable h)
function_sound p (Cell k) h = absurd (some_none numbers.wrong_kind h)
function_sound p Array h = absurd (some_none numbers.wrong_kind h)
function_sound p (Refused n) h = absurd (some_none n h)

pub function_complete : (p : Kind) (m : Means) → IsFunction p m → wrong_function p m ≡ None
function_complete p (Code params gives (Some n) denied) h = fit_itself p (Fp n) h
function_complete p (Code params gives None denied) h = absurd h
function_complete p (Cell k) h = absurd h
function_complete p Array h = absurd h
function_complete p (Refused n) h = absurd h

pub array_sound : (m : Means) → wrong_array m ≡ None → IsArray m
array_sound Array h = tt
array_sound (Cell k) h = absurd (some_none numbers.wrong_kind h)
array_sound (Code params gives value denied) h = absurd (some_none numbers.wrong_kind h)
array_sound (Refused n) h = absurd (some_none n h)

pub array_complete : (m : Means) → IsArray m → wrong_array m ≡ None
array_complete Array h = refl
array_complete (Cell k) h = absurd h
array_complete (Code params gives value denied) h = absurd h
array_complete (Refused n) h = absurd h

element_of_sound : (p : Kind) (m : Means) → wrong_element_of p m ≡ None → (p ≡ Int) × IsArray m
element_of_sound p Array h = (fit_sound p Int h, tt)
element_of_sound p (Cell k) h = absurd (some_none numbers.wrong_kind h)
element_of_sound p (Code params gives value denied) h = absurd (some_none numbers.wrong_kind h)
element_of_sound p (Refused n) h = absurd (some_none n h)

element_of_complete : (p : Kind) (m : Means) → p ≡ Int → IsArray m → wrong_element_of p m ≡ None
element_of_complete p Array e h = fit_itself p Int e
element_of_complete p (Cell k) e h = absurd h
element_of_complete p (Code params gives value denied) e h = absurd h
element_of_complete p (Refused n) e h = absurd h

literal_sound : (p : Kind) (z : ℤ) → wrong_literal p z ≡ None → IsLiteral p z
literal_sound Int z h = tt
literal_sound (Fp n) (pos zero) h = refl
literal_sound (Fp n) (pos (suc m)) h = absurd (some_none numbers.wrong_kind h)
literal_sound (Fp n) (negsuc m) h = absurd (some_none numbers.wrong_kind h)

literal_complete : (p : Kind) (z : ℤ) → IsLiteral p z → wrong_literal p z ≡ None
literal_complete Int z h = refl
literal_complete (Fp n) z h = rw h refl

null_sound : (p : Kind) → wrong_null p ≡ None → IsPointer p
null_sound Int h = absurd (some_none numbers.wrong_kind h)
null_sound (Fp n) h = tt

null_complete : (p : Kind) → IsPointer p → wrong_null p ≡ None
null_complete Int h = absurd h
null_complete (Fp n) h = refl

pub typed : (names : Names) (p : Kind) (e : Expression) → wrong names p e ≡ None → IsTyped names p e
typed names p (literal z) h = literal_sound p z h
typed names p (variable x) h = value_sound p (names x) h
typed names p (element a i) h =
    let q = both_none (wrong_element_of p (names a)) (wrong names Int i) h in
    let r = element_of_sound p (names a) q.0 in
    (r.0, r.1, typed names Int i q.1)
typed names p (function f) h = function_sound p (names f) h
typed names p null h = null_sound p h
typed names p (negation a) h =
    let q = both_none (fits p Int) (wrong names Int a) h in
    (fit_sound p Int q.0, typed names Int a q.1)
typed names p (logical_not a) h =
    let q = both_none (fits p Int) (wrong names Int a) h in
    (fit_sound p Int q.0, typed names Int a q.1)
typed names p (binary o a b) h =
    let k = place_of names o a b in
    let q = both_none (fits p Int) (smaller (wrong names k a) (wrong names k b)) h in
    let r = both_none (wrong names k a) (wrong names k b) q.1 in
    (fit_sound p Int q.0, typed names k a r.0, typed names k b r.1)

pub not_wrong : (names : Names) (p : Kind) (e : Expression) → IsTyped names p e → wrong names p e ≡ None
not_wrong names p (literal z) h = literal_complete p z h
not_wrong names p (variable x) h = value_complete p (names x) h
not_wrong names p (element a i) h = rw (element_of_complete p (names a) h.0 h.1, not_wrong names Int i h.2) refl
not_wrong names p (function f) h = function_complete p (names f) h
not_wrong names p null h = null_complete p h
not_wrong names p (negation a) h = rw (fit_itself p Int h.0, not_wrong names Int a h.1) refl
not_wrong names p (logical_not a) h = rw (fit_itself p Int h.0, not_wrong names Int a h.1) refl
not_wrong names p (binary o a b) h =
    rw (fit_itself p Int h.0, not_wrong names (place_of names o a b) a h.1, not_wrong names (place_of names o a b) b h.2) refl
