-- Which functions and programs are typed.
use Rattle.std.specs.Prelude.{⊤, ◌≡◌, ◌≤◌, ◌-◌, ℕ, true, false, List, [], ◌∷◌, length, Option, Some, None, Bool}
use Rattle.c_lang.specs.Names.{Bytes}
use Rattle.c_types.specs.Bodies.{body_of}
use Rattle.c_lang.specs.declared.unit.Unit.{Unit}
use Rattle.c_lang.specs.declared.stmt.Kind.{Kind}
use Rattle.c_lang.specs.declared.stmt.Kind.TheVariants.{Fp}
use Rattle.c_lang.specs.declared.program.Shape.{Shape}
use Rattle.c_lang.specs.declared.program.Shape.TheVariants as shape
use Rattle.c_lang.specs.declared.program.GlobalVar.{GlobalVar}
use Rattle.c_lang.specs.declared.program.Proto.{Proto}
use Rattle.c_lang.specs.declared.program.Func.{Func}
use Rattle.c_lang.specs.declared.program.Program.{Program}
use Rattle.c_types.specs.Names.{Means, Cell, Array, Code, Refused, Entries, found, meant}
use Rattle.c_types.specs.Scopes.{Scope}
use Rattle.c_types.specs.Typing.{IsFunction, IsNarrow, IsFresh, AreTyped}
use Rattle.c_types.specs.Endings.{can_end}
use Rattle.c_types.specs.Statements.{block_in, begun}
use Rattle.c_types.specs.Functions.{kinds_of, scope_of, with_param, with_params, params_block, is_main}
use Rattle.c_types.specs.Programs.{with_global, with_globals, with_func, with_funcs, outside_of, cells_of, has_main}
use Rattle.c_lang.specs.Limits.{cell_limit, element_limit, parameter_limit}

-- ---- globals

abbrev pub IsInitial : Entries → Shape → Type 0
IsInitial outside (shape.Int z) = ⊤
IsInitial outside (shape.Arr zs) = ⊤
IsInitial outside (shape.Fp n None) = ⊤
IsInitial outside (shape.Fp n (Some f)) = IsFunction (Fp n) (meant (found outside f))

-- an array has 1 to 65,536 elements, a pointer has at most 32 parameters
abbrev pub IsHeld : Shape → Type 0
IsHeld (shape.Int z) = ⊤
IsHeld (shape.Arr []) = ⊥
IsHeld (shape.Arr (z ∷ zs)) = length (z ∷ zs) ≤ element_limit
IsHeld (shape.Fp n f) = IsNarrow (Fp n)

-- `seen` has what is declared before, `room` is how many cells there may still be
pub record IsTypedGlobal (outside seen : Entries) (room : ℕ) (g : GlobalVar) : Type 0 where
  pub new : found seen g.name ≡ None
  pub initial : IsInitial outside g.shape
  pub held : IsHeld g.shape
  pub cells : cells_of g.shape ≤ room

abbrev pub AreTypedGlobals : Entries → Entries → ℕ → List GlobalVar → Type 0
AreTypedGlobals outside seen room [] = ⊤
AreTypedGlobals outside seen room (g ∷ gs) =
    IsTypedGlobal outside seen room g × AreTypedGlobals outside (with_global seen g) (room - cells_of g.shape) gs

-- ---- prototypes

abbrev pub AreNarrow : List Kind → Type 0
AreNarrow [] = ⊤
AreNarrow (k ∷ ks) = IsNarrow k × AreNarrow ks

-- a prototype has a function, and agrees with it
abbrev pub IsMatch : Option Means → Proto → Type 0
IsMatch (Some (Code params gives value denied)) p = (params ≡ p.params) × (gives ≡ p.gives)
IsMatch (Some (Cell k)) p = ⊥
IsMatch (Some Array) p = ⊥
IsMatch (Some (Refused n)) p = ⊥
IsMatch None p = ⊥

pub record IsTypedProto (functions : Entries) (p : Proto) : Type 0 where
  pub matches : IsMatch (found functions p.name) p
  pub few : length p.params ≤ parameter_limit
  pub narrow : AreNarrow p.params

abbrev pub AreTypedProtos : Entries → List Proto → Type 0
AreTypedProtos functions [] = ⊤
AreTypedProtos functions (p ∷ ps) = IsTypedProto functions p × AreTypedProtos functions ps

-- ---- functions

abbrev pub AreParams : Scope → List (Kind × Bytes) → Type 0
AreParams scope [] = ⊤
AreParams scope (p ∷ ps) = IsFresh params_block scope p.0 p.1 × AreParams (with_param scope p) ps

-- a function that begins in this scope
pub record IsTypedFrom (start : Scope) (f : Func) : Type 0 where
  pub params : AreParams start f.params
  pub few : length (kinds_of f.params) ≤ parameter_limit
  pub narrow : AreNarrow (kinds_of f.params)
  -- only `main` may end without a value that it should give
  pub gives : f.gives ≡ true → is_main f.name ≡ false → can_end (body_of f.body) ≡ false
  pub body : AreTyped (block_in (with_params start f.params)) (begun (with_params start f.params) (body_of f.body)) (body_of f.body)

-- a version's or a transformer's function
abbrev pub IsTypedFunc : Entries → Bool → Func → Type 0
IsTypedFunc outside xform f = IsTypedFrom (scope_of outside xform f.gives) f

abbrev pub AreTypedFuncs : Entries → Bool → Entries → List Func → Type 0
AreTypedFuncs outside xform seen [] = ⊤
AreTypedFuncs outside xform seen (f ∷ fs) =
    (found seen f.name ≡ None) × IsTypedFunc outside xform f × AreTypedFuncs outside xform (with_func seen f) fs

-- ---- programs

-- a program of a unit that stands by itself
pub record Types (u : Unit) (p : Program) : Type 0 where
  pub globals : AreTypedGlobals (outside_of p.globals p.funcs) [] (cell_limit u) p.globals
  pub protos : AreTypedProtos (with_funcs [] p.funcs) p.protos
  pub funcs : AreTypedFuncs (outside_of p.globals p.funcs) false (with_globals [] p.globals) p.funcs
  pub main : has_main p.funcs ≡ true
  pub early : p.early ≡ []
