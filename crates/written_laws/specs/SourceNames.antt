-- Names are words of the unit.
use Rattle.std.specs.Prelude.{⊤, ◌⊎◌, ◌≡◌, ◌==◌, ℕ, Bool, true, false, List, [], ◌∷◌, All, Option, Some, None}
use Rattle.c_lang.specs.Names.{Bytes, is_word}
use Rattle.c_lang.specs.Trees.{Expression, literal, variable, element, function, null, negation, logical_not, binary, Statement, skip, set, set_element, call, call_by, if_else, while_loop, break_loop, return_with, assert_that, input, output, point, choice, force, pick}
use Rattle.c_lang.specs.declared.unit.Unit.{Unit}
use Rattle.c_lang.specs.declared.stmt.Kind.{Kind}
use Rattle.c_lang.specs.declared.stmt.Dest.{Dest}
use Rattle.c_lang.specs.declared.stmt.Dest.TheVariants.{Nowhere, Into, Fresh}
use Rattle.c_lang.specs.declared.program.Shape.{Shape}
use Rattle.c_lang.specs.declared.program.Shape.TheVariants as shape
use Rattle.c_lang.specs.declared.program.GlobalVar.{GlobalVar}
use Rattle.c_lang.specs.declared.program.Proto.{Proto}
use Rattle.c_lang.specs.declared.program.Func.{Func}
use Rattle.c_lang.specs.declared.program.Program.{Program}
use Rattle.c_grammar.specs.Words.{keyword_number, is_allowed, is_refused}
use Rattle.c_grammar.specs.Scopes.{temporary}
use Rattle.written_laws.specs.Walk.{Context, InBodies}

-- an identifier that a text of the unit can have
pub record IsWord (u : Unit) (x : Bytes) : Type 0 where
  pub word : is_word x ≡ true
  pub no_keyword : keyword_number x ≡ None
  pub allowed : is_refused u x ≡ false

-- The parser makes names of its own: temporaries, which no token need have.
pub data IsName (u : Unit) (x : Bytes) : Type 0 where
  word : IsWord u x → IsName u x
  made : (n : ℕ) → x ≡ temporary n → IsName u x

abbrev pub dollar : ℕ
dollar = 36

abbrev pub begins_with : ℕ → Bytes → Bool
begins_with byte [] = false
begins_with byte (first ∷ rest) = first == byte

-- a name that begins with `dsu_` is one that the unit allows, or a temporary
abbrev pub IsReservedHere : Unit → Bytes → Type 0
IsReservedHere u x = (is_allowed u x ≡ true) ⊎ ((n : ℕ) × (x ≡ temporary n))

module _ (u : Unit) where
  abbrev pub HasNames : Expression → Type 0
  HasNames (literal z) = ⊤
  HasNames (variable x) = IsName u x
  HasNames (element a i) = IsWord u a × HasNames i
  HasNames (function f) = IsWord u f
  HasNames null = ⊤
  HasNames (negation a) = HasNames a
  HasNames (logical_not a) = HasNames a
  HasNames (binary o a b) = HasNames a × HasNames b

  abbrev pub HaveNames : List Expression → Type 0
  HaveNames [] = ⊤
  HaveNames (e ∷ es) = HasNames e × HaveNames es

  abbrev pub ReturnsNames : Option Expression → Type 0
  ReturnsNames None = ⊤
  ReturnsNames (Some e) = HasNames e

  -- only what the parser declares may be a temporary
  abbrev pub DestHasNames : Dest → Type 0
  DestHasNames Nowhere = ⊤
  DestHasNames (Into x) = IsWord u x
  DestHasNames (Fresh k x) = IsName u x

  abbrev pub StatementHasNames : Context → Statement → Type 0
  StatementHasNames at (skip p) = ⊤
  StatementHasNames at (set p d e) = DestHasNames d × HasNames e
  StatementHasNames at (set_element p a i e) = IsWord u a × HasNames i × HasNames e
  StatementHasNames at (call p d f es) = DestHasNames d × IsWord u f × HaveNames es
  StatementHasNames at (call_by p d x es) = DestHasNames d × IsWord u x × HaveNames es
  StatementHasNames at (if_else p e a b) = HasNames e
  StatementHasNames at (while_loop p e a) = HasNames e
  StatementHasNames at (break_loop p) = ⊤
  StatementHasNames at (return_with p e) = ReturnsNames e
  StatementHasNames at (assert_that p e) = HasNames e
  StatementHasNames at (input p d) = DestHasNames d
  StatementHasNames at (output p e) = HasNames e
  StatementHasNames at (point p k) = ⊤
  StatementHasNames at (choice p d k) = DestHasNames d
  StatementHasNames at (force p) = ⊤
  StatementHasNames at (pick p a b) = ⊤

  abbrev pub ShapeHasNames : Shape → Type 0
  ShapeHasNames (shape.Int z) = ⊤
  ShapeHasNames (shape.Arr zs) = ⊤
  ShapeHasNames (shape.Fp n None) = ⊤
  ShapeHasNames (shape.Fp n (Some f)) = IsWord u f

  pub record NamesAreWords (p : Program) : Type 0 where
    pub globals : All (λ (g : GlobalVar). IsWord u g.name × ShapeHasNames g.shape) p.globals
    pub protos : All (λ (q : Proto). IsWord u q.name) p.protos
    pub funcs : All (λ (f : Func). IsWord u f.name) p.funcs
    pub params : All (λ (f : Func). All (λ (q : Kind × Bytes). IsWord u q.1) f.params) p.funcs
    pub bodies : InBodies StatementHasNames p
