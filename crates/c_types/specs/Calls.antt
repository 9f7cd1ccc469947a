-- The typing of calls, elements and `return`.
use Rattle.std.specs.Prelude.{ℕ, nat_eq, length, zero, suc, Bool, true, false, if◌then◌else◌, List, [], ◌∷◌, Option, Some, None}
use Rattle.std.specs.Option.{option_or}
use Rattle.c_lang.specs.Refusals as refused
use Rattle.c_lang.specs.Names.{Bytes}
use Rattle.c_lang.specs.Trees.{Expression}
use Rattle.c_lang.specs.declared.expr.Expr.{Expr}
use Rattle.c_lang.specs.declared.unit.Pos.{Pos}
use Rattle.c_lang.specs.declared.stmt.Dest.{Dest}
use Rattle.c_lang.specs.declared.stmt.Dest.TheVariants.{Nowhere, Into, Fresh}
use Rattle.c_lang.specs.declared.stmt.Kind.{Kind}
use Rattle.c_lang.specs.declared.stmt.Kind.TheVariants.{Int, Fp}
use Rattle.c_lang.specs.declared.stmt.Stmt.{Stmt}
use Rattle.c_lang.specs.declared.stmt.Stmt.TheVariants as stmt
use Rattle.c_types.specs.Names.{Means, Cell, Array, Code, Refused, Names, smaller, fits}
use Rattle.c_types.specs.Scopes.{Scope, names_of, kind_of_dest, wrong_effect}
use Rattle.c_types.specs.Expressions.{kind_of, or_int, own_kind, wrong_array, wrong, resolved}

-- ---- values with a place

abbrev pub place_in : Scope → Dest → Expression → Kind
place_in scope d e = or_int (option_or (kind_of_dest scope d) (kind_of (names_of scope) e))

-- an element's place takes an int
abbrev pub element_kind : Names → Means → Expression → Kind
element_kind names Array e = Int
element_kind names (Cell k) e = own_kind names e
element_kind names (Code params gives value denied) e = own_kind names e
element_kind names (Refused n) e = own_kind names e

abbrev pub wrong_element : Names → Bytes → Expression → Expression → Option ℕ
wrong_element names a i e =
    smaller (wrong_array (names a)) (smaller (wrong names Int i) (wrong names (element_kind names (names a) e) e))

-- ---- arguments

-- arguments past the parameters have no place
abbrev pub first_place : Names → List Kind → Expression → Kind
first_place names [] e = own_kind names e
first_place names (k ∷ ks) e = k

abbrev pub other_places : List Kind → List Kind
other_places [] = []
other_places (k ∷ ks) = ks

-- the smallest number that refuses an argument at its place
abbrev pub wrong_places : Names → List Kind → List Expression → Option ℕ
wrong_places names ks [] = None
wrong_places names ks (e ∷ es) = smaller (wrong names (first_place names ks e) e) (wrong_places names (other_places ks) es)

-- arguments of what can't be called have no place
abbrev pub wrong_each : Names → List Expression → Option ℕ
wrong_each names es = wrong_places names [] es

-- 11 for another number of arguments
abbrev pub wrong_count : ℕ → ℕ → Option ℕ
wrong_count wanted given = if nat_eq wanted given then None else Some refused.argument_count

abbrev pub wrong_args : Names → List Kind → List Expression → Option ℕ
wrong_args names ks es = smaller (wrong_count (length ks) (length es)) (wrong_places names ks es)

abbrev pub resolved_args : Names → List Kind → List Expression → List Expr
resolved_args names ks [] = []
resolved_args names ks (e ∷ es) = resolved names (first_place names ks e) e ∷ resolved_args names (other_places ks) es

-- ---- results

-- a result is an int; that of a function that gives none fits no place
abbrev pub wrong_result : Bool → Option Kind → Option ℕ
wrong_result true None = None
wrong_result true (Some k) = fits k Int
wrong_result false place = Some refused.void_use

abbrev pub wrong_use : Scope → Bool → Dest → Option ℕ
wrong_use scope gives Nowhere = None
wrong_use scope gives (Into x) = wrong_result gives (kind_of_dest scope (Into x))
wrong_use scope gives (Fresh k x) = wrong_result gives (kind_of_dest scope (Fresh k x))

-- ---- calls

-- the parameters of a pointer's function
abbrev pub ints : ℕ → List Kind
ints zero = []
ints (suc n) = Int ∷ ints n

abbrev pub wrong_pointer : Scope → Kind → Dest → List Expression → Option ℕ
wrong_pointer scope Int d es = smaller (Some refused.wrong_kind) (wrong_each (names_of scope) es)
wrong_pointer scope (Fp n) d es = smaller (wrong_effect scope) (smaller (wrong_use scope true d) (wrong_args (names_of scope) (ints n) es))

abbrev pub wrong_call : Scope → Means → Dest → List Expression → Option ℕ
wrong_call scope (Code params gives value denied) d es =
    smaller denied (smaller (wrong_use scope gives d) (wrong_args (names_of scope) params es))
wrong_call scope (Cell k) d es = wrong_pointer scope k d es
wrong_call scope Array d es = smaller (Some refused.wrong_kind) (wrong_each (names_of scope) es)
wrong_call scope (Refused n) d es = smaller (Some n) (wrong_each (names_of scope) es)

-- a call through a pointer that is written as one
abbrev pub wrong_call_by : Scope → Means → Dest → List Expression → Option ℕ
wrong_call_by scope (Cell k) d es = wrong_pointer scope k d es
wrong_call_by scope (Code params gives value denied) d es = smaller (Some refused.wrong_kind) (wrong_each (names_of scope) es)
wrong_call_by scope Array d es = smaller (Some refused.wrong_kind) (wrong_each (names_of scope) es)
wrong_call_by scope (Refused n) d es = smaller (Some n) (wrong_each (names_of scope) es)

-- only a function's parameters are places: what a pointer takes is ints, and resolved as what goes to no place
abbrev pub places_of : Means → List Kind
places_of (Code params gives value denied) = params
places_of (Cell k) = []
places_of Array = []
places_of (Refused n) = []

abbrev pub resolved_call : Scope → Means → Pos → Dest → Bytes → List Expression → Stmt
resolved_call scope (Cell k) p d f es = stmt.CallBy p d f (resolved_args (names_of scope) [] es)
resolved_call scope m p d f es = stmt.Call p d f (resolved_args (names_of scope) (places_of m) es)

-- ---- calls in picks

-- only a version's functions are called there: what may not be called, and a pointer, may not be used at all
abbrev pub picked : Means → Means
picked (Code params gives value None) = Code params gives value None
picked (Code params gives value (Some n)) = Refused n
picked (Cell Int) = Cell Int
picked (Cell (Fp n)) = Refused refused.client_call
picked Array = Array
picked (Refused n) = Refused n

-- ---- return

abbrev pub wrong_return : Names → Bool → Option Expression → Option ℕ
wrong_return names true None = Some refused.missing_return
wrong_return names false None = None
wrong_return names true (Some e) = wrong names Int e
wrong_return names false (Some e) = smaller (Some refused.void_use) (wrong names (own_kind names e) e)
