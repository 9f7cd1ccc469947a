-- The declarations of a text that is written in a unit.
use Rattle.std.specs.Prelude.{◌≡◌, ◌≤◌, ◌-◌, ◌-ℤ◌, ℕ, ℤ, pos, nat_abs, List, [], ◌∷◌, ◌++◌, map, length, replicate, All}
use Rattle.std.proofs.Common.{sym, subst, arith}
use Rattle.std.proofs.lemmas.Int.{ints}
use Rattle.std.proofs.lemmas.List.Elements.{All-nil, All-cons, All-append, All-push, All-replicate}
use Rattle.c_lang.specs.Names.{Bytes}
use Rattle.c_lang.specs.declared.unit.Unit.{Unit}
use Rattle.c_lang.specs.declared.refusal.Refusal.{Refusal}
use Rattle.c_lang.specs.declared.stmt.Kind.{Kind}
use Rattle.c_lang.specs.declared.program.Shape.TheVariants as shape
use Rattle.c_lang.specs.declared.program.GlobalVar.{GlobalVar}
use Rattle.c_lang.specs.declared.program.Proto.{Proto}
use Rattle.c_lang.specs.declared.program.Func.{Func}
use Rattle.c_lang.specs.declared.program.Program.{Program}
use Rattle.c_grammar.specs.declared.token.Token.{Token}
use Rattle.c_grammar.specs.Tokens.{mark, semicolon, comma, round_close, brace_open, brace_close}
use Rattle.c_grammar.specs.Separated.{Separated, last, more, parts_of, separated_tokens, Each}
use Rattle.c_grammar.specs.Statements.{pointer_tokens, pieces_tokens, pieces_stmts, pieces_scope, arity}
use Rattle.c_grammar.specs.Units.{Parts, ParamTree, ParamsTree, HeadTree, param_tokens, params_tokens, head_tokens, param_list, param_kind, param_name, IsNamed, AreNamed, SignedTree, signed_tokens, signed_value, NumberInit, ArrayInit, PointerInit, External, number_init_tokens, array_init_tokens, pointer_init_tokens, external_tokens, unit_tokens, IsExternal, AreExternals, no_parts, array_refusals, kept_values, start_value, values_of, target_of, named_param, all_refusals, function_start, add, add_all}
use Rattle.c_grammar.specs.Units as tree
use Rattle.c_grammar.specs.Grammar.{program_of}
use Rattle.c_grammar.specs.Written.{IsWritten}
use Rattle.written_laws.specs.Walk.{start_of, ThroughoutAll}
use Rattle.c_types.specs.Bodies.{body_of}
use Rattle.written_laws.specs.Literals.{largest, IsLiteral, IsInitial, ShapeHasInts}
use Rattle.written_laws.specs.SourceNames.{IsWord, ShapeHasNames}
use Rattle.written_laws.proofs.GivenWords.{TokensFit, fit_append, given_fit}
use Rattle.written_laws.proofs.Scopes.{Covers, names_in, params_covered}
use Rattle.written_laws.proofs.StatementFits.{IsFit, pieces_fit}

module _ (u : Unit) where
  pub record GlobalFits (g : GlobalVar) : Type 0 where
    pub name : IsWord u g.name
    pub ints : ShapeHasInts g.shape
    pub words : ShapeHasNames u g.shape

  pub record FuncFits (f : Func) : Type 0 where
    pub name : IsWord u f.name
    pub params : All (λ (q : Kind × Bytes). IsWord u q.1) f.params
    pub body : ThroughoutAll (IsFit u) (start_of f) (body_of f.body)

  abbrev pub ProtoFits : Proto → Type 0
  ProtoFits q = IsWord u q.name

  pub record PartsFit (a : Parts) : Type 0 where
    pub globals : All GlobalFits a.globals
    pub protos : All ProtoFits a.protos
    pub funcs : All FuncFits a.funcs

  with_global_fits : (a : Parts) (g : GlobalVar) (cells : ℕ) (early : List Refusal) → PartsFit a → GlobalFits g → PartsFit (tree.with_global a g cells early)
  with_global_fits a g cells early h k = record { globals = All-push GlobalFits a.globals g h.globals k; protos = h.protos; funcs = h.funcs }

  with_proto_fits : (a : Parts) (q : Proto) (early : List Refusal) → PartsFit a → ProtoFits q → PartsFit (tree.with_proto a q early)
  with_proto_fits a q early h k = record { globals = h.globals; protos = All-push ProtoFits a.protos q h.protos k; funcs = h.funcs }

  with_func_fits : (a : Parts) (f : Func) (early : List Refusal) → PartsFit a → FuncFits f → PartsFit (tree.with_func a f early)
  with_func_fits a f early h k = record { globals = h.globals; protos = h.protos; funcs = All-push FuncFits a.funcs f h.funcs k }

  -- ---- numbers

  initial_zero : IsInitial (pos 0)
  initial_zero = omega arith

  initial_pos : (n : ℕ) → IsLiteral (pos n) → IsInitial (pos n)
  initial_pos n h = subst (λ (z : ℤ). IsInitial z) (sym h.1) h.2

  abs_neg : (n : ℕ) → nat_abs (pos 0 -ℤ pos n) ≡ n
  abs_neg n = omega (arith, ints)

  initial_neg : (n : ℕ) → IsLiteral (pos n) → IsInitial (pos 0 -ℤ pos n)
  initial_neg n h = subst (λ (m : ℕ). m ≤ largest) (sym (abs_neg n)) (initial_pos n h)

  signed_fits : (t : SignedTree) → TokensFit u (signed_tokens t) → IsInitial (signed_value t)
  signed_fits (tree.plain at n) h = initial_pos n h.0
  signed_fits (tree.negative sign at n) h = initial_neg n h.1.0

  start_fits : (i : NumberInit) → TokensFit u (number_init_tokens i) → IsInitial (start_value i)
  start_fits tree.nothing h = initial_zero
  start_fits (tree.given is x) h = signed_fits x h.1

  several_fit : (ts : Separated SignedTree) → TokensFit u (separated_tokens signed_tokens ts) → All IsInitial (map signed_value (parts_of ts))
  several_fit (last t) h = All-cons IsInitial (signed_value t) [] (signed_fits t h) (All-nil IsInitial)
  several_fit (more t at ts) h =
      let both = fit_append u (signed_tokens t) (mark comma at ∷ separated_tokens signed_tokens ts) h in
      All-cons IsInitial (signed_value t) (map signed_value (parts_of ts)) (signed_fits t both.0) (several_fit ts both.1.1)

  values_fit : (i : ArrayInit) → TokensFit u (array_init_tokens i) → All IsInitial (values_of i)
  values_fit tree.nothing h = All-nil IsInitial
  values_fit (tree.given is o xs c) h = several_fit xs (fit_append u (separated_tokens signed_tokens xs) (mark brace_close c ∷ []) h.1.1).0

  kept_fit : (early : List Refusal) (size : ℕ) (zs : List ℤ) → All IsInitial zs → All IsInitial (kept_values early size zs)
  kept_fit [] size zs h = All-append IsInitial zs (replicate (size - length zs) (pos 0)) h (All-replicate IsInitial (size - length zs) (pos 0) initial_zero)
  kept_fit (r ∷ rs) size zs h = All-nil IsInitial

  target_fits : (n : ℕ) (i : PointerInit) → TokensFit u (pointer_init_tokens i) → ShapeHasNames u (shape.Fp n (target_of i))
  target_fits n tree.nothing h = tt
  target_fits n (tree.function is at f) h = h.1.0
  target_fits n (tree.null is at) h = tt

  -- ---- parameters

  param_fits : (t : ParamTree) → IsNamed t → TokensFit u (param_tokens t) → IsWord u (param_name t)
  param_fits (tree.nameless int) named h = absurd named
  param_fits (tree.number int at x) named h = h.1.0
  param_fits (tree.pointer int p) named h = h.1.1.1.0

  abbrev IsParam : Kind × Bytes → Type 0
  IsParam q = IsWord u q.1

  listed_fit : (ts : Separated ParamTree) → Each IsNamed ts → TokensFit u (separated_tokens param_tokens ts) → All IsParam (map named_param (parts_of ts))
  listed_fit (last t) named h = All-cons IsParam (named_param t) [] (param_fits t named h) (All-nil IsParam)
  listed_fit (more t at ts) named h =
      let both = fit_append u (param_tokens t) (mark comma at ∷ separated_tokens param_tokens ts) h in
      All-cons IsParam (named_param t) (map named_param (parts_of ts)) (param_fits t named.0 both.0) (listed_fit ts named.1 both.1.1)

  params_fit : (ps : ParamsTree) → AreNamed ps → TokensFit u (params_tokens ps) → All IsParam (map named_param (param_list ps))
  params_fit tree.nothing named h = All-nil IsParam
  params_fit (tree.void at) named h = All-nil IsParam
  params_fit (tree.several ts) named h = listed_fit ts named h

  -- ---- declarations

  none_declared : (early : List Refusal) (names : List Bytes) → Covers (record { count = 0; declared = []; early = early }) names
  none_declared early names x h = absurd cc

  function_covers : (h : HeadTree) → Covers (function_start h) (names_in (map named_param (param_list h.params)))
  function_covers h =
      let qs = map named_param (param_list h.params) in
      let early = all_refusals h.at.pos (param_list h.params) in
      params_covered qs (record { count = 0; declared = []; early = early }) (names_in qs) (λ x there. there) (none_declared early (names_in qs))

  head_fits : (h : HeadTree) → TokensFit u (head_tokens h) → IsWord u h.name × TokensFit u (params_tokens h.params)
  head_fits h fits = (fits.1.0, (fit_append u (params_tokens h.params) (mark round_close h.closes ∷ []) fits.1.1.1).0)

  add_fits : (a : Parts) (x : External) → IsExternal u x → TokensFit u (external_tokens x) → PartsFit a → PartsFit (add a x)
  add_fits a (tree.number int at x i end) valid h parts =
      let init = fit_append u (number_init_tokens i) (mark semicolon end ∷ []) h.1.1 in
      with_global_fits a (record { name = x; shape = shape.Int (start_value i); pos = int.pos }) 1 [] parts (record { name = h.1.0; ints = start_fits i init.0; words = tt })
  add_fits a (tree.array int at x o n size c i end) valid h parts =
      let init = fit_append u (array_init_tokens i) (mark semicolon end ∷ []) h.1.1.1.1.1 in
      let early = array_refusals int.pos a.room size (length (values_of i)) in
      with_global_fits a (record { name = x; shape = shape.Arr (kept_values early size (values_of i)); pos = int.pos }) size early parts
      (record { name = h.1.0; ints = kept_fit early size (values_of i) (values_fit i init.0); words = tt })
  add_fits a (tree.pointer int p i end) valid h parts =
      let split = fit_append u (pointer_tokens p) (pointer_init_tokens i ++ (mark semicolon end ∷ [])) h.1 in
      let init = fit_append u (pointer_init_tokens i) (mark semicolon end ∷ []) split.1 in
      with_global_fits a (record { name = p.name; shape = shape.Fp (arity p) (target_of i); pos = int.pos }) 1 _ parts
      (record { name = split.0.1.1.0; ints = tt; words = target_fits (arity p) i init.0 })
  add_fits a (tree.prototype h end) valid fits parts =
      let head = head_fits h (fit_append u (head_tokens h) (mark semicolon end ∷ []) fits).0 in
      with_proto_fits a (record { name = h.name; params = map param_kind (param_list h.params); gives = h.gives; pos = h.at.pos }) _ parts head.0
  add_fits a (tree.function h o ts c) valid fits parts =
      let split = fit_append u (head_tokens h) (mark brace_open o ∷ pieces_tokens ts ++ (mark brace_close c ∷ [])) fits in
      let head = head_fits h split.0 in
      let pieces = fit_append u (pieces_tokens ts) (mark brace_close c ∷ []) split.1.1 in
      let f : Func = record { name = h.name; params = map named_param (param_list h.params); gives = h.gives; body = pieces_stmts ts (function_start h); pos = h.at.pos } in
      let body = pieces_fit u ts (start_of f) (function_start h) (function_covers h) valid.1 pieces.0 in
      with_func_fits a f (pieces_scope ts (function_start h)).early parts (record { name = head.0; params = params_fit h.params valid.0 head.1; body = body.fits })

  add_all_fits : (a : Parts) (xs : List External) → AreExternals u xs → TokensFit u (unit_tokens xs) → PartsFit a → PartsFit (add_all a xs)
  add_all_fits a [] valid h parts = parts
  add_all_fits a (x ∷ xs) valid h parts =
      let split = fit_append u (external_tokens x) (unit_tokens xs) h in
      add_all_fits (add a x) xs valid.1 split.1 (add_fits a x valid.0 split.0 parts)

  no_parts_fit : PartsFit (no_parts u)
  no_parts_fit = record { globals = All-nil GlobalFits; protos = All-nil ProtoFits; funcs = All-nil FuncFits }

  -- the declarations of a program that is written in the unit
  pub record ProgramFits (p : Program) : Type 0 where
    pub globals : All GlobalFits p.globals
    pub protos : All ProtoFits p.protos
    pub funcs : All FuncFits p.funcs

  of_parts : (a : Parts) → PartsFit a → ProgramFits (program_of a)
  of_parts a h = record { globals = h.globals; protos = h.protos; funcs = h.funcs }

  pub written_fits : (p : Program) → IsWritten u p → ProgramFits p
  written_fits p h =
      let g = h.gram in
      let fits = subst (λ (ts : List Token). TokensFit u ts) (sym g.written) (given_fit u h.tokens h.given) in
      subst (λ (q : Program). ProgramFits q) g.program (of_parts (add_all (no_parts u) g.tree) (add_all_fits (no_parts u) g.tree g.valid fits no_parts_fit))
