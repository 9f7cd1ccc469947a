-- The typing of expressions: the smallest number that refuses one at its place, and its resolved form.
use Rattle.std.specs.Prelude.{ℕ, ℤ, pos, zero, Bool, true, false, if◌then◌else◌, Option, Some, None}
use Rattle.std.specs.Option.{option_or}
use Rattle.c_lang.specs.Refusals as refused
use Rattle.c_lang.specs.Names.{Bytes}
use Rattle.c_lang.specs.Trees.{Expression, literal, variable, element, function, null, negation, logical_not, binary}
use Rattle.c_lang.specs.declared.expr.Op.{Op}
use Rattle.c_lang.specs.declared.expr.Op.TheVariants as op
use Rattle.c_lang.specs.declared.expr.Expr.{Expr}
use Rattle.c_lang.specs.declared.expr.Expr.TheVariants.{Lit, Var, Elem, FunRef, Null, Neg, Not, Bin}
use Rattle.c_lang.specs.declared.stmt.Kind.{Kind}
use Rattle.c_lang.specs.declared.stmt.Kind.TheVariants.{Int, Fp}
use Rattle.c_types.specs.Names.{Means, Cell, Array, Code, Refused, Names, smaller, fits}

-- ---- a name as a value

abbrev pub kind_of_name : Means → Option Kind
kind_of_name (Cell k) = Some k
kind_of_name Array = None
kind_of_name (Code params gives (Some n) denied) = Some (Fp n)
kind_of_name (Code params gives None denied) = None
kind_of_name (Refused n) = None

abbrev pub wrong_name : Kind → Means → Option ℕ
wrong_name place (Cell k) = fits place k
wrong_name place Array = Some refused.wrong_kind
wrong_name place (Code params gives (Some n) denied) = fits place (Fp n)
wrong_name place (Code params gives None denied) = Some refused.not_pointable
wrong_name place (Refused n) = Some n

-- a name that is written as a function's
abbrev pub wrong_function : Kind → Means → Option ℕ
wrong_function place (Code params gives (Some n) denied) = fits place (Fp n)
wrong_function place (Code params gives None denied) = Some refused.not_pointable
wrong_function place (Refused n) = Some n
wrong_function place (Cell k) = Some refused.wrong_kind
wrong_function place Array = Some refused.wrong_kind

abbrev pub resolved_name : Bytes → Means → Expr
resolved_name x (Code params gives value denied) = FunRef x
resolved_name x (Cell k) = Var x
resolved_name x Array = Var x
resolved_name x (Refused n) = Var x

-- ---- an array with an index

abbrev pub wrong_array : Means → Option ℕ
wrong_array Array = None
wrong_array (Refused n) = Some n
wrong_array (Cell k) = Some refused.wrong_kind
wrong_array (Code params gives value denied) = Some refused.wrong_kind

-- an element is an int; one of a name that may not be used fits every place
abbrev pub wrong_element_of : Kind → Means → Option ℕ
wrong_element_of place Array = fits place Int
wrong_element_of place (Refused n) = Some n
wrong_element_of place (Cell k) = Some refused.wrong_kind
wrong_element_of place (Code params gives value denied) = Some refused.wrong_kind

abbrev pub kind_of_element : Means → Option Kind
kind_of_element (Refused n) = None
kind_of_element Array = Some Int
kind_of_element (Cell k) = Some Int
kind_of_element (Code params gives value denied) = Some Int

-- ---- the literal 0 fits a pointer's place

abbrev pub wrong_literal : Kind → ℤ → Option ℕ
wrong_literal Int z = None
wrong_literal (Fp n) (pos zero) = None
wrong_literal (Fp n) z = Some refused.wrong_kind

abbrev pub wrong_null : Kind → Option ℕ
wrong_null Int = Some refused.wrong_kind
wrong_null (Fp n) = None

abbrev pub resolved_literal : Kind → ℤ → Expr
resolved_literal Int z = Lit z
resolved_literal (Fp n) z = Null

-- ---- the place that both sides of an operator have

-- the literal 0, null, a name that is no value and an element of a name that may not be used fit every place
abbrev pub kind_of : Names → Expression → Option Kind
kind_of names (literal (pos zero)) = None
kind_of names (variable x) = kind_of_name (names x)
kind_of names (element a i) = kind_of_element (names a)
kind_of names null = None
kind_of names (function f) = kind_of_name (names f)
kind_of names e = Some Int

abbrev pub or_int : Option Kind → Kind
or_int (Some k) = k
or_int None = Int

-- a value that goes to no place is looked at in one of its own kind
abbrev pub own_kind : Names → Expression → Kind
own_kind names e = or_int (kind_of names e)

abbrev pub compares_kinds : Op → Bool
compares_kinds op.Eq = true
compares_kinds op.Ne = true
compares_kinds o = false

-- `==` and `!=` take two values of one kind, all other operators take two ints
abbrev pub place_of : Names → Op → Expression → Expression → Kind
place_of names o a b = if compares_kinds o then or_int (option_or (kind_of names a) (kind_of names b)) else Int

-- ---- expressions

abbrev pub wrong : Names → Kind → Expression → Option ℕ
wrong names place (literal z) = wrong_literal place z
wrong names place (variable x) = wrong_name place (names x)
wrong names place (element a i) = smaller (wrong_element_of place (names a)) (wrong names Int i)
wrong names place (function f) = wrong_function place (names f)
wrong names place null = wrong_null place
wrong names place (negation a) = smaller (fits place Int) (wrong names Int a)
wrong names place (logical_not a) = smaller (fits place Int) (wrong names Int a)
wrong names place (binary o a b) =
    smaller (fits place Int) (smaller (wrong names (place_of names o a b) a) (wrong names (place_of names o a b) b))

abbrev pub resolved : Names → Kind → Expression → Expr
resolved names place (literal z) = resolved_literal place z
resolved names place (variable x) = resolved_name x (names x)
resolved names place (element a i) = Elem a (resolved names Int i)
resolved names place (function f) = FunRef f
resolved names place null = Null
resolved names place (negation a) = Neg (resolved names Int a)
resolved names place (logical_not a) = Not (resolved names Int a)
resolved names place (binary o a b) = Bin o (resolved names (place_of names o a b) a) (resolved names (place_of names o a b) b)
