-- Reading a unit's declarations from a list of tokens.
use Rattle.std.specs.Prelude.{ℕ, ℤ, zero, suc, pos, ◌+◌, ◌-ℤ◌, Bool, true, false, if◌then◌else◌, ◌==◌, List, [], ◌∷◌, ◌++◌, map, length, Option, Some, None}
use Rattle.c_lang.specs.Names.{Bytes}
use Rattle.c_lang.specs.declared.unit.Unit.{Unit}
use Rattle.c_lang.specs.declared.unit.Pos.{Pos}
use Rattle.c_lang.specs.declared.refusal.Refusal.{Refusal}
use Rattle.c_lang.specs.declared.stmt.Kind.{Kind}
use Rattle.c_lang.specs.declared.stmt.Kind.TheVariants as kind
use Rattle.c_grammar.specs.Units.{Parts}
use Rattle.c_parser.specs.declared.params.Param.{Param}
use Rattle.c_parser.specs.declared.params.Params.{Params}
use Rattle.c_grammar.specs.declared.token.Token.{Token}
use Rattle.c_grammar.specs.declared.token.Word.{Word}
use Rattle.c_grammar.specs.declared.token.Word.TheVariants as w
use Rattle.c_grammar.specs.Tokens.{round_open, round_close, brace_open, brace_close, square_open, square_close, semicolon, equals, minus, int_key, void_key}
use Rattle.c_expressions.specs.Code.ParseSteps.{◌>>=◌, after, after_key, name_at, number_at, separated}
use Rattle.c_grammar.specs.Scopes.{arity_refusals}
use Rattle.c_expressions.specs.Code.SideReading.{pointer_at}
use Rattle.c_statements.specs.Code.StatementReading.{nothing, items, stmt}
use Rattle.c_lang.specs.declared.program.Program.{Program}
use Rattle.c_grammar.specs.Grammar.{program_of}
use Rattle.c_grammar.specs.Units.{no_parts, with_proto, with_func, with_number, with_array, with_pointer, body_start}

-- ---- heads

abbrev pub with_param : Params → Param → List Refusal → Params
with_param acc x early = record { list = acc.list ++ x ∷ []; early = acc.early ++ early }

abbrev pub int_param : Option Bytes → Param
int_param name = record { kind = kind.Int; name = name }

abbrev pub pointer_param : Pos → Params → List Token → Option (Params × List Token)
pointer_param p acc ts = pointer_at ts >>= λ f. Some (with_param acc (record { kind = kind.Fp f.arity; name = Some f.name }) (arity_refusals p f.arity), f.rest)

abbrev pub param_by : Pos → Params → List Token → Option (Bytes × List Token) → Option (List Token) → Option (Params × List Token)
param_by p acc ts (Some x) o = Some (with_param acc (int_param (Some x.0)) [], x.1)
param_by p acc ts None None = Some (with_param acc (int_param None) [], ts)
param_by p acc ts None (Some inside) = pointer_param p acc ts

unfoldable pub param : Pos → Params → List Token → Option (Params × List Token)
param p acc ts = after_key int_key ts >>= λ rest. param_by p acc rest (name_at rest) (after round_open rest)

abbrev pub no_params : Params
no_params = record { list = []; early = [] }

abbrev pub params_by : Pos → List Token → Option (List Token) → Option (List Token) → Option (Params × List Token)
params_by p ts (Some rest) void = Some (no_params, rest)
params_by p ts None (Some inside) = after round_close inside >>= λ rest. Some (no_params, rest)
params_by p ts None None = separated (param p) (length ts + 1) no_params ts >>= λ x. after round_close x.1 >>= λ rest. Some (x.0, rest)

-- behind the opening bracket
unfoldable pub params_at : Pos → List Token → Option (Params × List Token)
params_at p ts = params_by p ts (after round_close ts) (after_key void_key ts)

-- with the parameters of the list, which all have names
abbrev pub named_params : List (Kind × Bytes) → List Param → Option (List (Kind × Bytes))
named_params acc [] = Some acc
named_params acc (x ∷ xs) = x.name >>= λ n. named_params (acc ++ (x.kind, n) ∷ []) xs

-- ---- globals

abbrev pub signed_by : List Token → Option (List Token) → Option (ℤ × List Token)
signed_by ts (Some rest) = number_at rest >>= λ n. Some (pos 0 -ℤ pos n.0, n.1)
signed_by ts None = number_at ts >>= λ n. Some (pos n.0, n.1)

unfoldable pub signed_at : List Token → Option (ℤ × List Token)
signed_at ts = signed_by ts (after minus ts)

abbrev pub value : List ℤ → List Token → Option (List ℤ × List Token)
value acc ts = signed_at ts >>= λ x. Some (acc ++ x.0 ∷ [], x.1)

-- up to the semicolon
abbrev pub ended : {A : Type 0} → A → List Token → Option (A × List Token)
ended x ts = after semicolon ts >>= λ rest. Some (x, rest)

abbrev pub initial_by : List Token → Option (List Token) → Option (ℤ × List Token)
initial_by ts (Some given) = signed_at given
initial_by ts None = Some (pos 0, ts)

-- an initial value, or 0, behind the name
unfoldable pub initial_at : List Token → Option (ℤ × List Token)
initial_at ts = initial_by ts (after equals ts)

-- behind the name
unfoldable pub number_global : Parts → Pos → Bytes → List Token → Option (Parts × List Token)
number_global a p x ts = initial_at ts >>= λ z. ended (with_number a p x z.0) z.1

abbrev pub values_by : List Token → Option (List Token) → Option (List ℤ × List Token)
values_by ts (Some given) = do
  inside ← after brace_open given
  x ← separated value (length inside + 1) [] inside
  rest ← after brace_close x.1
  Some (x.0, rest)
values_by ts None = Some ([], ts)

-- behind the length
unfoldable pub values_at : List Token → Option (List ℤ × List Token)
values_at ts = values_by ts (after equals ts)

-- behind the `[`
unfoldable pub array_global : Parts → Pos → Bytes → List Token → Option (Parts × List Token)
array_global a p x ts = do
  n ← number_at ts
  b ← after square_close n.1
  values ← values_at b
  ended (with_array a p x n.0 values.0) values.1

abbrev pub zero_at : List Token → Option (List Token)
zero_at ts = number_at ts >>= λ n. if n.0 == 0 then Some n.1 else None

abbrev pub target_by : List Token → Option (Bytes × List Token) → Option (Option Bytes × List Token)
target_by ts (Some x) = Some (Some x.0, x.1)
target_by ts None = zero_at ts >>= λ rest. Some (None, rest)

abbrev pub start_by : List Token → Option (List Token) → Option (Option Bytes × List Token)
start_by ts (Some given) = target_by given (name_at given)
start_by ts None = Some (None, ts)

-- behind the pointer
unfoldable pub target_at : List Token → Option (Option Bytes × List Token)
target_at ts = start_by ts (after equals ts)

-- behind the `int`
unfoldable pub pointer_global : Parts → Pos → List Token → Option (Parts × List Token)
pointer_global a p ts = do
  f ← pointer_at ts
  target ← target_at f.rest
  ended (with_pointer a p f.name f.arity target.0) target.1

-- ---- functions

abbrev pub with_prototype : Parts → Pos → Bool → Bytes → Params → Parts
with_prototype a p gives x params = with_proto a (record { name = x; params = map (λ (y : Param). y.kind) params.list; gives = gives; pos = p }) params.early

module _ (u : Unit) (d : ℕ) where
  abbrev pub with_body : Parts → Pos → Bool → Bytes → List (Kind × Bytes) → List Refusal → List Token → Option (Parts × List Token)
  with_body a p gives x named early ts =
      items (stmt u d) d (length ts + 1) false (nothing (body_start named early) ts) >>= λ r.
      Some (with_func a (record { name = x; params = named; gives = gives; body = r.stmts; pos = p }) r.scope.early, r.rest)

  -- behind the `{`
  unfoldable pub function_at : Parts → Pos → Bool → Bytes → Params → List Token → Option (Parts × List Token)
  function_at a p gives x params ts = named_params [] params.list >>= λ named. with_body a p gives x named params.early ts

  abbrev pub headed_by : Parts → Pos → Bool → Bytes → Params → Option (List Token) → Option (List Token) → Option (Parts × List Token)
  headed_by a p gives x params (Some rest) body = Some (with_prototype a p gives x params, rest)
  headed_by a p gives x params None (Some inside) = function_at a p gives x params inside
  headed_by a p gives x params None None = None

  -- behind the name's opening bracket
  unfoldable pub headed : Parts → Pos → Bool → Bytes → List Token → Option (Parts × List Token)
  headed a p gives x ts = params_at p ts >>= λ y. headed_by a p gives x y.0 (after semicolon y.1) (after brace_open y.1)

  abbrev pub named_by : Parts → Pos → Bytes → List Token → Option (List Token) → Option (List Token) → Option (Parts × List Token)
  named_by a p x ts (Some inside) array = headed a p true x inside
  named_by a p x ts None (Some inside) = array_global a p x inside
  named_by a p x ts None None = number_global a p x ts

  -- behind the name
  abbrev pub named : Parts → Pos → Bytes → List Token → Option (Parts × List Token)
  named a p x ts = named_by a p x ts (after round_open ts) (after square_open ts)

  abbrev pub int_by : Parts → Pos → List Token → Option (Bytes × List Token) → Option (Parts × List Token)
  int_by a p ts (Some x) = named a p x.0 x.1
  int_by a p ts None = pointer_global a p ts

  -- behind the `int`
  unfoldable pub int_external : Parts → Pos → List Token → Option (Parts × List Token)
  int_external a p ts = int_by a p ts (name_at ts)

  -- behind the `void`
  unfoldable pub void_external : Parts → Pos → List Token → Option (Parts × List Token)
  void_external a p ts = do
    x ← name_at ts
    inside ← after round_open x.1
    headed a p false x.0 inside

  abbrev pub external_by : Parts → Pos → Word → List Token → Option (Parts × List Token)
  external_by a p (w.Key k) ts = if k == int_key then int_external a p ts else (if k == void_key then void_external a p ts else None)
  external_by a p word ts = None

  unfoldable pub external : Parts → List Token → Option (Parts × List Token)
  external a [] = None
  external a (t ∷ ts) = external_by a t.pos t.what ts

  -- to the end of the tokens; the number bounds the turns
  unfoldable pub externals : ℕ → Parts → List Token → Option Parts
  externals zero a ts = None
  externals (suc k) a [] = Some a
  externals (suc k) a (t ∷ ts) = external a (t ∷ ts) >>= λ x. externals k x.0 x.1

  -- the whole unit
  unfoldable pub unit_at : List Token → Option Program
  unit_at ts = externals (length ts + 1) (no_parts u) ts >>= λ a. Some (program_of a)
