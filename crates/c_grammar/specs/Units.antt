-- The grammar of a unit's declarations, by cases on trees that keep every token.
use Rattle.std.specs.Prelude.{⊤, ℕ, ℤ, pos, ◌-◌, ◌-ℤ◌, max, nat_lt, Bool, false, ◌||◌, ◌==◌, if◌then◌else◌, List, [], ◌∷◌, ◌++◌, map, length, replicate, Option, Some, None}
use Rattle.c_lang.specs.Names.{Bytes}
use Rattle.c_lang.specs.declared.unit.Unit.{Unit}
use Rattle.c_lang.specs.declared.unit.Pos.{Pos}
use Rattle.c_lang.specs.declared.refusal.Refusal.{Refusal}
use Rattle.c_lang.specs.declared.stmt.Kind.{Kind}
use Rattle.c_lang.specs.declared.stmt.Kind.TheVariants as kind
use Rattle.c_lang.specs.declared.program.Shape.TheVariants as shape
use Rattle.c_lang.specs.declared.program.GlobalVar.{GlobalVar}
use Rattle.c_lang.specs.declared.program.Proto.{Proto}
use Rattle.c_lang.specs.declared.program.Func.{Func}
use Rattle.c_grammar.specs.declared.token.Token.{Token}
use Rattle.c_grammar.specs.declared.token.Word.TheVariants as w
use Rattle.c_grammar.specs.Tokens.{At, token, mark, keyword, round_open, round_close, brace_open, brace_close, square_open, square_close, semicolon, equals, minus, int_key, void_key}
use Rattle.c_grammar.specs.Separated.{Separated, parts_of, separated_tokens, Each}
use Rattle.c_lang.specs.Limits.{cell_limit, element_limit}
use Rattle.c_lang.specs.Refusals.{refused_at, wrong_kind, past_limit}
use Rattle.c_grammar.specs.Scopes.{Scope, declare, arity_refusals}
use Rattle.c_grammar.specs.Statements.{PointerTree, pointer_tokens, arity, Pieces, pieces_tokens, pieces_height, pieces_stmts, pieces_scope, ArePieces}

-- ---- heads

-- a parameter; in a prototype an `int` needs no name
pub data ParamTree : Type 0 where
  nameless : At → ParamTree
  number : At → At → Bytes → ParamTree
  pointer : At → PointerTree → ParamTree

pub data ParamsTree : Type 0 where
  nothing : ParamsTree
  void : At → ParamsTree
  several : Separated ParamTree → ParamsTree

-- `int` or `void`, a name and the parameters
pub record HeadTree : Type 0 where
  pub at : At
  pub gives : Bool
  pub name_at : At
  pub name : Bytes
  pub opens : At
  pub params : ParamsTree
  pub closes : At

abbrev pub param_tokens : ParamTree → List Token
param_tokens (nameless int) = keyword int_key int ∷ []
param_tokens (number int at x) = keyword int_key int ∷ token at (w.Ident x) ∷ []
param_tokens (pointer int p) = keyword int_key int ∷ pointer_tokens p

abbrev pub params_tokens : ParamsTree → List Token
params_tokens nothing = []
params_tokens (void at) = keyword void_key at ∷ []
params_tokens (several ts) = separated_tokens param_tokens ts

abbrev pub head_tokens : HeadTree → List Token
head_tokens h =
    keyword (if h.gives then int_key else void_key) h.at ∷ token h.name_at (w.Ident h.name) ∷ mark round_open h.opens
    ∷ params_tokens h.params ++ (mark round_close h.closes ∷ [])

abbrev pub param_list : ParamsTree → List ParamTree
param_list nothing = []
param_list (void at) = []
param_list (several ts) = parts_of ts

abbrev pub param_kind : ParamTree → Kind
param_kind (nameless int) = kind.Int
param_kind (number int at x) = kind.Int
param_kind (pointer int p) = kind.Fp (arity p)

abbrev pub param_name : ParamTree → Bytes
param_name (nameless int) = []
param_name (number int at x) = x
param_name (pointer int p) = p.name

-- a pointer with too many parameters of its own, refused at the head's position
abbrev pub param_refusals : Pos → ParamTree → List Refusal
param_refusals p (pointer int x) = arity_refusals p (arity x)
param_refusals p t = []

abbrev pub all_refusals : Pos → List ParamTree → List Refusal
all_refusals p [] = []
all_refusals p (t ∷ ts) = param_refusals p t ++ all_refusals p ts

-- the parameters of a function all have names
abbrev pub IsNamed : ParamTree → Type 0
IsNamed (nameless int) = ⊥
IsNamed (number int at x) = ⊤
IsNamed (pointer int p) = ⊤

abbrev pub AreNamed : ParamsTree → Type 0
AreNamed nothing = ⊤
AreNamed (void at) = ⊤
AreNamed (several ts) = Each IsNamed ts

-- ---- globals

-- a number with or without a sign
pub data SignedTree : Type 0 where
  plain : At → ℕ → SignedTree
  negative : At → At → ℕ → SignedTree

abbrev pub signed_tokens : SignedTree → List Token
signed_tokens (plain at n) = token at (w.Number (pos n)) ∷ []
signed_tokens (negative sign at n) = mark minus sign ∷ token at (w.Number (pos n)) ∷ []

abbrev pub signed_value : SignedTree → ℤ
signed_value (plain at n) = pos n
signed_value (negative sign at n) = pos 0 -ℤ pos n

-- what stands behind a number's name
pub data NumberInit : Type 0 where
  nothing : NumberInit
  given : At → SignedTree → NumberInit

-- what stands behind an array's length
pub data ArrayInit : Type 0 where
  nothing : ArrayInit
  given : At → At → Separated SignedTree → At → ArrayInit

-- what stands behind a pointer
pub data PointerInit : Type 0 where
  nothing : PointerInit
  function : At → At → Bytes → PointerInit
  null : At → At → PointerInit

-- a declaration of a unit
pub data External : Type 0 where
  number : At → At → Bytes → NumberInit → At → External
  array : At → At → Bytes → At → At → ℕ → At → ArrayInit → At → External
  pointer : At → PointerTree → PointerInit → At → External
  prototype : HeadTree → At → External
  function : HeadTree → At → Pieces → At → External

abbrev pub number_init_tokens : NumberInit → List Token
number_init_tokens nothing = []
number_init_tokens (given is x) = mark equals is ∷ signed_tokens x

abbrev pub array_init_tokens : ArrayInit → List Token
array_init_tokens nothing = []
array_init_tokens (given is o xs c) = mark equals is ∷ mark brace_open o ∷ separated_tokens signed_tokens xs ++ (mark brace_close c ∷ [])

abbrev pub pointer_init_tokens : PointerInit → List Token
pointer_init_tokens nothing = []
pointer_init_tokens (function is at f) = mark equals is ∷ token at (w.Ident f) ∷ []
pointer_init_tokens (null is at) = mark equals is ∷ token at (w.Number (pos 0)) ∷ []

abbrev pub external_tokens : External → List Token
external_tokens (number int at x i end) = keyword int_key int ∷ token at (w.Ident x) ∷ number_init_tokens i ++ (mark semicolon end ∷ [])
external_tokens (array int at x o n size c i end) =
    keyword int_key int ∷ token at (w.Ident x) ∷ mark square_open o ∷ token n (w.Number (pos size)) ∷ mark square_close c
    ∷ array_init_tokens i ++ (mark semicolon end ∷ [])
external_tokens (pointer int p i end) = keyword int_key int ∷ pointer_tokens p ++ (pointer_init_tokens i ++ (mark semicolon end ∷ []))
external_tokens (prototype h end) = head_tokens h ++ (mark semicolon end ∷ [])
external_tokens (function h o ts c) = head_tokens h ++ (mark brace_open o ∷ pieces_tokens ts ++ (mark brace_close c ∷ []))

abbrev pub unit_tokens : List External → List Token
unit_tokens [] = []
unit_tokens (x ∷ xs) = external_tokens x ++ unit_tokens xs

-- ---- heights and conditions

-- only the statements of functions have a height
abbrev pub external_height : External → ℕ
external_height (function h o ts c) = pieces_height ts
external_height x = 0

abbrev pub unit_height : List External → ℕ
unit_height [] = 0
unit_height (x ∷ xs) = max (external_height x) (unit_height xs)

abbrev pub IsExternal : Unit → External → Type 0
IsExternal u (function h o ts c) = AreNamed h.params × ArePieces u false ts
IsExternal u x = ⊤

abbrev pub AreExternals : Unit → List External → Type 0
AreExternals u [] = ⊤
AreExternals u (x ∷ xs) = IsExternal u x × AreExternals u xs

-- ---- the program

-- what declarations give: the parts of a program, how many cells may still follow, and what is refused of
-- globals, prototypes and functions
pub record Parts : Type 0 where
  pub globals : List GlobalVar
  pub protos : List Proto
  pub funcs : List Func
  pub room : ℕ
  pub early_globals : List Refusal
  pub early_protos : List Refusal
  pub early_funcs : List Refusal

abbrev pub with_global : Parts → GlobalVar → ℕ → List Refusal → Parts
with_global a x cells early = record {
  globals = a.globals ++ x ∷ [];
  protos = a.protos;
  funcs = a.funcs;
  room = a.room - cells;
  early_globals = a.early_globals ++ early;
  early_protos = a.early_protos;
  early_funcs = a.early_funcs;
}

abbrev pub with_proto : Parts → Proto → List Refusal → Parts
with_proto a x early = record {
  globals = a.globals;
  protos = a.protos ++ x ∷ [];
  funcs = a.funcs;
  room = a.room;
  early_globals = a.early_globals;
  early_protos = a.early_protos ++ early;
  early_funcs = a.early_funcs;
}

abbrev pub with_func : Parts → Func → List Refusal → Parts
with_func a x early = record {
  globals = a.globals;
  protos = a.protos;
  funcs = a.funcs ++ x ∷ [];
  room = a.room;
  early_globals = a.early_globals;
  early_protos = a.early_protos;
  early_funcs = a.early_funcs ++ early;
}

abbrev pub no_parts : Unit → Parts
no_parts u = record { globals = []; protos = []; funcs = []; room = cell_limit u; early_globals = []; early_protos = []; early_funcs = [] }

-- an array of so many elements with so many initializers can't be held, where so many cells are left
abbrev pub array_refusals : Pos → ℕ → ℕ → ℕ → List Refusal
array_refusals p room size count =
    (if nat_lt size count then refused_at wrong_kind p ∷ [] else [])
    ++ (if size == 0 || nat_lt element_limit size || nat_lt room size then refused_at past_limit p ∷ [] else [])

-- the initializers and then zeros, or nothing where the array is refused
abbrev pub kept_values : List Refusal → ℕ → List ℤ → List ℤ
kept_values [] size values = values ++ replicate (size - length values) (pos 0)
kept_values (r ∷ rs) size values = []

abbrev pub with_number : Parts → Pos → Bytes → ℤ → Parts
with_number a p x z = with_global a (record { name = x; shape = shape.Int z; pos = p }) 1 []

abbrev pub with_array : Parts → Pos → Bytes → ℕ → List ℤ → Parts
with_array a p x size values =
    let early = array_refusals p a.room size (length values) in
    with_global a (record { name = x; shape = shape.Arr (kept_values early size values); pos = p }) size early

abbrev pub with_pointer : Parts → Pos → Bytes → ℕ → Option Bytes → Parts
with_pointer a p x n target = with_global a (record { name = x; shape = shape.Fp n target; pos = p }) 1 (arity_refusals p n)

abbrev pub start_value : NumberInit → ℤ
start_value nothing = pos 0
start_value (given is x) = signed_value x

abbrev pub values_of : ArrayInit → List ℤ
values_of nothing = []
values_of (given is o xs c) = map signed_value (parts_of xs)

abbrev pub target_of : PointerInit → Option Bytes
target_of nothing = None
target_of (function is at f) = Some f
target_of (null is at) = None

abbrev pub named_param : ParamTree → Kind × Bytes
named_param t = (param_kind t, param_name t)

abbrev pub all_declared : List (Kind × Bytes) → Scope → Scope
all_declared [] sc = sc
all_declared (x ∷ xs) sc = all_declared xs (declare sc x.1)

-- what a function's body begins with: its parameters are declared, and their pointers noted
abbrev pub body_start : List (Kind × Bytes) → List Refusal → Scope
body_start params early = all_declared params (record { count = 0; declared = []; early = early })

abbrev pub function_start : HeadTree → Scope
function_start h = body_start (map named_param (param_list h.params)) (all_refusals h.at.pos (param_list h.params))

abbrev pub add : Parts → External → Parts
add a (number int at x i end) = with_number a int.pos x (start_value i)
add a (array int at x o n size c i end) = with_array a int.pos x size (values_of i)
add a (pointer int p i end) = with_pointer a int.pos p.name (arity p) (target_of i)
add a (prototype h end) =
    with_proto a (record { name = h.name; params = map param_kind (param_list h.params); gives = h.gives; pos = h.at.pos }) (all_refusals h.at.pos (param_list h.params))
add a (function h o ts c) =
    with_func a
    (record { name = h.name; params = map named_param (param_list h.params); gives = h.gives; body = pieces_stmts ts (function_start h); pos = h.at.pos })
    (pieces_scope ts (function_start h)).early

abbrev pub add_all : Parts → List External → Parts
add_all a [] = a
add_all a (x ∷ xs) = add_all (add a x) xs
