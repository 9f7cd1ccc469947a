-- Expressions and statements that are typed and in resolved form: a name that is written as a variable is one, a
-- function's name is written as a function's, null stands at a pointer's place, and a call through a pointer is
-- written as one.
use Rattle.std.specs.Prelude.{⊤, ◌≡◌, Bool, true, false, List, [], ◌∷◌, Option, Some, None}
use Rattle.c_lang.specs.Trees.{Expression, literal, variable, element, function, null, negation, logical_not, binary, Statement, Statements, skip, set, set_element, call, call_by, if_else, while_loop, break_loop, return_with, assert_that, input, output, point, choice, force, pick, none, more}
use Rattle.c_lang.specs.Names.{Bytes}
use Rattle.c_lang.specs.declared.unit.Pos.{Pos}
use Rattle.c_lang.specs.declared.stmt.Dest.{Dest}
use Rattle.c_lang.specs.declared.stmt.Dest.TheVariants.{Nowhere, Into, Fresh}
use Rattle.c_lang.specs.declared.stmt.Kind.{Kind}
use Rattle.c_lang.specs.declared.stmt.Kind.TheVariants.{Int, Fp}
use Rattle.written_laws.proofs.StatementFits.{DeclaresNothing}
use Rattle.c_types.specs.Names.{Means, Cell, Array, Code, Refused, Names, Entries}
use Rattle.c_types.specs.Scopes.{Picks, Scope, Block, in_pick, names_of}
use Rattle.c_types.specs.Expressions.{place_of}
use Rattle.c_types.specs.Calls.{place_in, ints, picked}
use Rattle.c_types.specs.Statements.{scope_after, block_in, entered, after_block}
use Rattle.c_types.specs.Typing.{IsFunction, IsArray, IsPointer, IsDest, IsUse, IsAnswer, MayForce}

abbrev pub IsInt : Kind → Type 0
IsInt Int = ⊤
IsInt (Fp n) = ⊥

abbrev pub IsVariable : Kind → Means → Type 0
IsVariable place (Cell k) = place ≡ k
IsVariable place Array = ⊥
IsVariable place (Code params gives value denied) = ⊥
IsVariable place (Refused n) = ⊥

abbrev pub IsResolved : Names → Kind → Expression → Type 0
IsResolved names place (literal z) = IsInt place
IsResolved names place (variable x) = IsVariable place (names x)
IsResolved names place (element a i) = (place ≡ Int) × IsArray (names a) × IsResolved names Int i
IsResolved names place (function f) = IsFunction place (names f)
IsResolved names place null = IsPointer place
IsResolved names place (negation a) = (place ≡ Int) × IsResolved names Int a
IsResolved names place (logical_not a) = (place ≡ Int) × IsResolved names Int a
IsResolved names place (binary o a b) =
    (place ≡ Int) × IsResolved names (place_of names o a b) a × IsResolved names (place_of names o a b) b

abbrev pub AreResolvedArguments : Names → List Kind → List Expression → Type 0
AreResolvedArguments names [] [] = ⊤
AreResolvedArguments names [] (e ∷ es) = ⊥
AreResolvedArguments names (k ∷ ks) [] = ⊥
AreResolvedArguments names (k ∷ ks) (e ∷ es) = IsResolved names k e × AreResolvedArguments names ks es

abbrev pub IsResolvedCall : Scope → Means → Dest → List Expression → Type 0
IsResolvedCall scope (Code params gives value denied) d es =
    (denied ≡ None) × IsUse scope gives d × AreResolvedArguments (names_of scope) params es
IsResolvedCall scope (Cell k) d es = ⊥
IsResolvedCall scope Array d es = ⊥
IsResolvedCall scope (Refused n) d es = ⊥

abbrev pub IsResolvedPointerCall : Scope → Kind → Dest → List Expression → Type 0
IsResolvedPointerCall scope Int d es = ⊥
IsResolvedPointerCall scope (Fp n) d es = (scope.xform ≡ false) × IsUse scope true d × AreResolvedArguments (names_of scope) (ints n) es

abbrev pub IsResolvedCallBy : Scope → Means → Dest → List Expression → Type 0
IsResolvedCallBy scope (Cell k) d es = IsResolvedPointerCall scope k d es
IsResolvedCallBy scope (Code params gives value denied) d es = ⊥
IsResolvedCallBy scope Array d es = ⊥
IsResolvedCallBy scope (Refused n) d es = ⊥

abbrev pub IsResolvedReturn : Names → Bool → Option Expression → Type 0
IsResolvedReturn names true None = ⊥
IsResolvedReturn names false None = ⊤
IsResolvedReturn names true (Some e) = IsResolved names Int e
IsResolvedReturn names false (Some e) = ⊥

-- one of the two calls of a pick, which sees these names
abbrev pub IsResolvedPicked : Block → Scope → Entries → Statement → Type 0
IsResolvedPicked block scope outside (call p d f es) =
    let inside = in_pick scope outside in
    DeclaresNothing d × IsDest block inside d × IsResolvedCall inside (picked (names_of inside f)) d es
IsResolvedPicked block scope outside s = ⊥

abbrev pub IsResolvedPick : Block → Scope → Option Picks → Statement → Statement → Type 0
IsResolvedPick block scope None a b = ⊥
IsResolvedPick block scope (Some names) a b = IsResolvedPicked block scope names.after a × IsResolvedPicked block scope names.before b

abbrev mutual
  pub IsResolvedStatement : Block → Scope → Statement → Type 0
  IsResolvedStatement block scope (skip p) = ⊤
  IsResolvedStatement block scope (set p d e) = IsDest block scope d × IsResolved (names_of scope) (place_in scope d e) e
  IsResolvedStatement block scope (set_element p a i e) =
      IsArray (names_of scope a) × IsResolved (names_of scope) Int i × IsResolved (names_of scope) Int e
  IsResolvedStatement block scope (call p d f es) = IsDest block scope d × IsResolvedCall scope (names_of scope f) d es
  IsResolvedStatement block scope (call_by p d x es) = IsDest block scope d × IsResolvedCallBy scope (names_of scope x) d es
  IsResolvedStatement block scope (if_else p e xs ys) =
      IsResolved (names_of scope) Int e × AreResolved (block_in scope) (entered scope xs) xs
      × AreResolved (block_in scope) (entered (after_block scope xs) ys) ys
  IsResolvedStatement block scope (while_loop p e xs) =
      IsResolved (names_of scope) Int e × AreResolved (block_in scope) (entered scope xs) xs
  IsResolvedStatement block scope (break_loop p) = ⊤
  IsResolvedStatement block scope (return_with p e) = IsResolvedReturn (names_of scope) scope.gives e
  IsResolvedStatement block scope (assert_that p e) = IsResolved (names_of scope) Int e
  IsResolvedStatement block scope (input p d) = IsAnswer block scope d
  IsResolvedStatement block scope (output p e) = (scope.xform ≡ false) × IsResolved (names_of scope) Int e
  IsResolvedStatement block scope (point p k) = scope.xform ≡ false
  IsResolvedStatement block scope (choice p d k) = IsAnswer block scope d
  IsResolvedStatement block scope (force p) = MayForce scope.forced
  IsResolvedStatement block scope (pick p a b) = IsResolvedPick block scope scope.picks a b

  pub AreResolved : Block → Scope → Statements → Type 0
  AreResolved block scope none = ⊤
  AreResolved block scope (more s ss) = IsResolvedStatement block scope s × AreResolved block (scope_after scope s) ss

-- what holds of each call that declares nothing holds of both calls of a pick
pub picked_has : (P : Statement → Type 0) → ((p : Pos) (f : Bytes) (es : List Expression) → P (call p Nowhere f es))
    → ((p : Pos) (x f : Bytes) (es : List Expression) → P (call p (Into x) f es))
    → (b : Block) (s : Scope) (outside : Entries) (t : Statement) → IsResolvedPicked b s outside t → P t
picked_has P off into b s outside (call p Nowhere f es) h = off p f es
picked_has P off into b s outside (call p (Into x) f es) h = into p x f es
picked_has P off into b s outside (call p (Fresh k x) f es) h = absurd h.0
picked_has P off into b s outside _ h = absurd h
