-- The typing of functions: the head, then the body.
use Rattle.std.specs.Prelude.{codes, ℕ, ◌+◌, nat_lt, Bool, true, false, not, ◌&&◌, ◌||◌, if◌then◌else◌, List, [], ◌∷◌, length, Option, Some, None, Result, bytes_eq, ◌≡◌}
use Rattle.c_lang.specs.Refusals as refused
use Rattle.c_lang.specs.Limits.{parameter_limit}
use Rattle.c_lang.specs.Names.{Bytes}
use Rattle.c_types.specs.Bodies.{body_of}
use Rattle.c_lang.specs.declared.refusal.Refusal.{Refusal}
use Rattle.c_lang.specs.declared.refusal.Fail.{Fail}
use Rattle.c_lang.specs.declared.stmt.Kind.{Kind}
use Rattle.c_lang.specs.declared.stmt.Kind.TheVariants.{Int, Fp}
use Rattle.c_lang.specs.declared.program.Func.{Func}
use Rattle.c_types.specs.Names.{Means, Cell, Code, Entries, added, smaller}
use Rattle.c_types.specs.Scopes.{Scope, Block, wrong_fresh}
use Rattle.c_types.specs.Checks.{at_place, first, Checked}
use Rattle.c_types.specs.Endings.{can_end}
use Rattle.c_types.specs.Statements.{refusal_of_body, resolved_body}

-- ---- kinds of parameters

abbrev pub kinds_of : List (Kind × Bytes) → List Kind
kinds_of [] = []
kinds_of (p ∷ ps) = p.0 ∷ kinds_of ps

abbrev pub are_ints : List Kind → Bool
are_ints [] = true
are_ints (Int ∷ ks) = are_ints ks
are_ints (Fp n ∷ ks) = false

-- pointers of more than 32 parameters count as pointers of 33
abbrev pub counted : ℕ → ℕ
counted n = if nat_lt parameter_limit n then parameter_limit + 1 else n

-- a function's name is a value where all parameters are ints and it gives one
abbrev pub arity_as_value : List Kind → Bool → Option ℕ
arity_as_value ks gives = if gives && are_ints ks then Some (counted (length ks)) else None

abbrev pub means_of_func : Func → Means
means_of_func f = Code (kinds_of f.params) f.gives (arity_as_value (kinds_of f.params) f.gives) None

abbrev pub is_wide : Kind → Bool
is_wide Int = false
is_wide (Fp n) = nat_lt parameter_limit n

abbrev pub any_wide : List Kind → Bool
any_wide [] = false
any_wide (k ∷ ks) = is_wide k || any_wide ks

-- 27 for more than 32 parameters, of a function or of a pointer among them
abbrev pub wrong_params_count : List Kind → Option ℕ
wrong_params_count ks = if nat_lt parameter_limit (length ks) || any_wide ks then Some refused.past_limit else None

-- ---- the head

-- the scope of a version's or a transformer's function, before its parameters are declared
abbrev pub scope_of : Entries → Bool → Bool → Scope
scope_of outside xform gives = record {
  outside = outside;
  forced = None;
  picks = None;
  locals = [];
  told = [];
  ahead = [];
  gives = gives;
  xform = xform;
}

-- no force and no pick may stand
abbrev pub IsPlain : Scope → Type 0
IsPlain scope = (scope.forced ≡ None) × (scope.picks ≡ None)

-- the same of a function that sees what a scope sees
abbrev pub start_of : Scope → Bool → Scope
start_of scope gives = record scope { locals = []; told = []; ahead = []; gives = gives }

abbrev pub with_param : Scope → Kind × Bytes → Scope
with_param scope p = record scope { locals = added scope.locals p.1 (Cell p.0) }

abbrev pub with_params : Scope → List (Kind × Bytes) → Scope
with_params scope [] = scope
with_params scope (p ∷ ps) = with_params (with_param scope p) ps

-- parameters are the first block of their function
abbrev pub params_block : Block
params_block = record { base = 0; mark = 0 }

-- the smallest number that refuses parameters, or the one that was found before
abbrev pub wrong_params : Scope → Option ℕ → List (Kind × Bytes) → Option ℕ
wrong_params scope before [] = before
wrong_params scope before (p ∷ ps) = wrong_params (with_param scope p) (smaller before (wrong_fresh params_block scope p.0 p.1)) ps

abbrev pub is_main : Bytes → Bool
is_main x = bytes_eq x (codes "main")

-- 12 for an `int` function other than `main` whose body can end
abbrev pub wrong_end : Func → Option ℕ
wrong_end f = if f.gives && not (is_main f.name) && can_end (body_of f.body) then Some refused.missing_return else None

-- `again` is the number that refuses its name
abbrev pub wrong_head : Option ℕ → Scope → Func → Option ℕ
wrong_head again scope f =
    smaller again (smaller (wrong_params scope None f.params) (smaller (wrong_end f) (wrong_params_count (kinds_of f.params))))

-- ---- the whole function

abbrev pub body_scope : Entries → Bool → Func → Scope
body_scope outside xform f = with_params (scope_of outside xform f.gives) f.params

-- of a function that begins in this scope
abbrev pub refusal_from : Option ℕ → Scope → Func → Option Refusal
refusal_from again start f =
    first (at_place (wrong_head again start f) f.pos) (refusal_of_body (with_params start f.params) (body_of f.body))

abbrev pub resolved_from : Scope → Func → Func
resolved_from start f = record f { body = resolved_body (with_params start f.params) (body_of f.body) }

-- of a version's or a transformer's function
abbrev pub refusal_of_func : Option ℕ → Entries → Bool → Func → Option Refusal
refusal_of_func again outside xform f = refusal_from again (scope_of outside xform f.gives) f

abbrev pub resolved_func : Entries → Bool → Func → Func
resolved_func outside xform f = resolved_from (scope_of outside xform f.gives) f

-- what a check answers
abbrev pub IsFunc : Option ℕ → Scope → Func → Result Func Fail → Type 0
IsFunc again start f result = Checked result (refusal_from again start f) (resolved_from start f)
