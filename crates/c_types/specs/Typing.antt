-- Which expressions and statements are typed.
use Rattle.std.specs.Prelude.{⊤, ◌≡◌, ◌≤◌, ℤ, pos, Bool, true, false, ◌&&◌, List, [], ◌∷◌, Option, Some, None}
use Rattle.c_lang.specs.Limits.{parameter_limit}
use Rattle.c_lang.specs.Names.{Bytes}
use Rattle.c_lang.specs.Trees.{Expression, literal, variable, element, function, null, negation, logical_not, binary, Statement, Statements, skip, set, set_element, call, call_by, if_else, while_loop, break_loop, return_with, assert_that, input, output, point, choice, force, pick, none, more}
use Rattle.c_lang.specs.declared.stmt.Dest.{Dest}
use Rattle.c_lang.specs.declared.stmt.Dest.TheVariants.{Nowhere, Into, Fresh}
use Rattle.c_lang.specs.declared.stmt.Kind.{Kind}
use Rattle.c_lang.specs.declared.stmt.Kind.TheVariants.{Int, Fp}
use Rattle.c_types.specs.Names.{Means, Cell, Array, Code, Refused, Names, Entries, found, stands_from, stands_before}
use Rattle.c_types.specs.Scopes.{Picks, Scope, Block, in_scope, names_of, in_pick, is_another, kind_of_dest, names_version}
use Rattle.c_types.specs.Expressions.{place_of}
use Rattle.c_types.specs.Calls.{place_in, ints, picked}
use Rattle.c_types.specs.Statements.{scope_after, block_in, entered, after_block}

-- ---- expressions, in a place of some kind

abbrev pub IsValue : Kind → Means → Type 0
IsValue place (Cell k) = place ≡ k
IsValue place Array = ⊥
IsValue place (Code params gives (Some n) denied) = place ≡ Fp n
IsValue place (Code params gives None denied) = ⊥
IsValue place (Refused n) = ⊥

abbrev pub IsFunction : Kind → Means → Type 0
IsFunction place (Code params gives (Some n) denied) = place ≡ Fp n
IsFunction place (Code params gives None denied) = ⊥
IsFunction place (Cell k) = ⊥
IsFunction place Array = ⊥
IsFunction place (Refused n) = ⊥

abbrev pub IsArray : Means → Type 0
IsArray Array = ⊤
IsArray (Cell k) = ⊥
IsArray (Code params gives value denied) = ⊥
IsArray (Refused n) = ⊥

-- the literal 0 fits a pointer's place
abbrev pub IsLiteral : Kind → ℤ → Type 0
IsLiteral Int z = ⊤
IsLiteral (Fp n) z = z ≡ pos 0

abbrev pub IsPointer : Kind → Type 0
IsPointer Int = ⊥
IsPointer (Fp n) = ⊤

abbrev pub IsTyped : Names → Kind → Expression → Type 0
IsTyped names place (literal z) = IsLiteral place z
IsTyped names place (variable x) = IsValue place (names x)
IsTyped names place (element a i) = (place ≡ Int) × IsArray (names a) × IsTyped names Int i
IsTyped names place (function f) = IsFunction place (names f)
IsTyped names place null = IsPointer place
IsTyped names place (negation a) = (place ≡ Int) × IsTyped names Int a
IsTyped names place (logical_not a) = (place ≡ Int) × IsTyped names Int a
IsTyped names place (binary o a b) =
    (place ≡ Int) × IsTyped names (place_of names o a b) a × IsTyped names (place_of names o a b) b

-- ---- destinations

-- a pointer has at most 32 parameters
abbrev pub IsNarrow : Kind → Type 0
IsNarrow Int = ⊤
IsNarrow (Fp n) = n ≤ parameter_limit

-- a local that may be declared here
pub record IsFresh (block : Block) (scope : Scope) (k : Kind) (x : Bytes) : Type 0 where
  -- the block doesn't have it yet
  pub new : stands_from block.base scope.locals x ≡ false
  -- nor had a block that has ended a local of this name with another kind
  pub alike : is_another (found scope.told x) k ≡ false
  -- nor has anything that is in scope its name
  pub free : in_scope scope x ≡ None
  -- nor does an enclosing block declare it further on
  pub kept : stands_before block.mark scope.ahead x ≡ false
  -- nor does a transformer name something of a version so
  pub own : (scope.xform && names_version x) ≡ false

abbrev pub IsCell : Means → Type 0
IsCell (Cell k) = ⊤
IsCell Array = ⊥
IsCell (Code params gives value denied) = ⊥
IsCell (Refused n) = ⊥

abbrev pub IsDest : Block → Scope → Dest → Type 0
IsDest block scope Nowhere = ⊤
IsDest block scope (Into x) = IsCell (names_of scope x)
IsDest block scope (Fresh k x) = IsFresh block scope k x × IsNarrow k

abbrev pub TakesInt : Option Kind → Type 0
TakesInt None = ⊤
TakesInt (Some k) = k ≡ Int

-- the result of a call goes to a destination of ints, where there is one
abbrev pub IsUse : Scope → Bool → Dest → Type 0
IsUse scope gives Nowhere = ⊤
IsUse scope gives (Into x) = (gives ≡ true) × TakesInt (kind_of_dest scope (Into x))
IsUse scope gives (Fresh k x) = (gives ≡ true) × TakesInt (kind_of_dest scope (Fresh k x))

-- ---- calls

abbrev pub AreArguments : Names → List Kind → List Expression → Type 0
AreArguments names [] [] = ⊤
AreArguments names [] (e ∷ es) = ⊥
AreArguments names (k ∷ ks) [] = ⊥
AreArguments names (k ∷ ks) (e ∷ es) = IsTyped names k e × AreArguments names ks es

abbrev pub IsPointerCall : Scope → Kind → Dest → List Expression → Type 0
IsPointerCall scope Int d es = ⊥
IsPointerCall scope (Fp n) d es = (scope.xform ≡ false) × IsUse scope true d × AreArguments (names_of scope) (ints n) es

abbrev pub IsCall : Scope → Means → Dest → List Expression → Type 0
IsCall scope (Code params gives value denied) d es =
    (denied ≡ None) × IsUse scope gives d × AreArguments (names_of scope) params es
IsCall scope (Cell k) d es = IsPointerCall scope k d es
IsCall scope Array d es = ⊥
IsCall scope (Refused n) d es = ⊥

abbrev pub IsCallBy : Scope → Means → Dest → List Expression → Type 0
IsCallBy scope (Cell k) d es = IsPointerCall scope k d es
IsCallBy scope (Code params gives value denied) d es = ⊥
IsCallBy scope Array d es = ⊥
IsCallBy scope (Refused n) d es = ⊥

abbrev pub IsReturn : Names → Bool → Option Expression → Type 0
IsReturn names true None = ⊥
IsReturn names false None = ⊤
IsReturn names true (Some e) = IsTyped names Int e
IsReturn names false (Some e) = ⊥

-- an answer or a choice is an int
abbrev pub IsAnswer : Block → Scope → Dest → Type 0
IsAnswer block scope d = IsDest block scope d × (scope.xform ≡ false) × IsUse scope true d

-- ---- statements of clients

abbrev pub MayForce : Option Entries → Type 0
MayForce None = ⊥
MayForce (Some others) = ⊤

-- one of the two calls of a pick, which sees these names
abbrev pub IsPicked : Block → Scope → Entries → Statement → Type 0
IsPicked block scope outside (call p d f es) =
    let inside = in_pick scope outside in IsDest block inside d × IsCall inside (picked (names_of inside f)) d es
IsPicked block scope outside s = ⊥

abbrev pub IsPick : Block → Scope → Option Picks → Statement → Statement → Type 0
IsPick block scope None a b = ⊥
IsPick block scope (Some names) a b = IsPicked block scope names.after a × IsPicked block scope names.before b

-- ---- statements of a block

abbrev mutual
  pub IsTypedStatement : Block → Scope → Statement → Type 0
  IsTypedStatement block scope (skip p) = ⊤
  IsTypedStatement block scope (set p d e) = IsDest block scope d × IsTyped (names_of scope) (place_in scope d e) e
  IsTypedStatement block scope (set_element p a i e) =
      IsArray (names_of scope a) × IsTyped (names_of scope) Int i × IsTyped (names_of scope) Int e
  IsTypedStatement block scope (call p d f es) = IsDest block scope d × IsCall scope (names_of scope f) d es
  IsTypedStatement block scope (call_by p d x es) = IsDest block scope d × IsCallBy scope (names_of scope x) d es
  IsTypedStatement block scope (if_else p e xs ys) =
      IsTyped (names_of scope) Int e × AreTyped (block_in scope) (entered scope xs) xs
      × AreTyped (block_in scope) (entered (after_block scope xs) ys) ys
  IsTypedStatement block scope (while_loop p e xs) =
      IsTyped (names_of scope) Int e × AreTyped (block_in scope) (entered scope xs) xs
  IsTypedStatement block scope (break_loop p) = ⊤
  IsTypedStatement block scope (return_with p e) = IsReturn (names_of scope) scope.gives e
  IsTypedStatement block scope (assert_that p e) = IsTyped (names_of scope) Int e
  IsTypedStatement block scope (input p d) = IsAnswer block scope d
  IsTypedStatement block scope (output p e) = (scope.xform ≡ false) × IsTyped (names_of scope) Int e
  IsTypedStatement block scope (point p k) = scope.xform ≡ false
  IsTypedStatement block scope (choice p d k) = IsAnswer block scope d
  IsTypedStatement block scope (force p) = MayForce scope.forced
  IsTypedStatement block scope (pick p a b) = IsPick block scope scope.picks a b

  pub AreTyped : Block → Scope → Statements → Type 0
  AreTyped block scope none = ⊤
  AreTyped block scope (more s ss) = IsTypedStatement block scope s × AreTyped block (scope_after scope s) ss
