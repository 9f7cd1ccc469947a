-- The functions of a merged program can be printed.
use Rattle.std.specs.Prelude.{◌≡◌, ◌+◌, ◌&&◌, ℕ, Bool, true, false, cond, List, [], ◌∷◌, ◌++◌, map, All, Option, Some, None, codes}
use Rattle.std.proofs.Common.{refl, sym, ap, subst, arith, inl, inr}
use Rattle.std.specs.List.{Contains, filter}
use Rattle.std.proofs.lemmas.List.Elements.{All-nil, All-cons, All-head, All-tail, All-append, All-map, All-filter, All-weaker}
use Rattle.c_lang.specs.Names.{Bytes}
use Rattle.c_lang.specs.Programs.{func_in}
use Rattle.c_lang.specs.Trees.{variable, Statement, Statements, statement_of, stmt_of, stmts_of}
use Rattle.c_lang.specs.declared.stmt.Kind.{Kind}
use Rattle.c_lang.specs.declared.stmt.Stmt.{Stmt}
use Rattle.c_lang.specs.declared.unit.Unit.{Unit}
use Rattle.c_lang.specs.declared.unit.Pos.{Pos}
use Rattle.c_lang.specs.declared.program.Func.{Func}
use Rattle.c_grammar.specs.Scopes.{Scope, is_declared, declare}
use Rattle.c_grammar.specs.Units.{all_declared}
use Rattle.c_types.specs.Bodies.{body_of}
use Rattle.c_types.specs.Endings.{can_end}
use Rattle.c_types.specs.Functions.{kinds_of, is_main, with_params}
use Rattle.c_types.specs.Names.{Entries}
use Rattle.c_types.specs.Plain.{plain_expression, plain_statement, plain_statements, plain_func, built_func, PlainFunc}
use Rattle.c_types.specs.Scopes as types
use Rattle.c_types.specs.Statements.{block_in, begun}
use Rattle.c_types.specs.Types.{AreNarrow, IsTypedFrom}
use Rattle.version_names.specs.Merged.{merged_name}
use Rattle.version_names.specs.Provenance.{Provenance}
use Rattle.version_names.specs.Provenance as origin
use Rattle.version_names.specs.declared.part.Origin.TheVariants as prefix
use Rattle.client_specs.specs.Kept.{ClientProgram}
use Rattle.update_semantics.specs.UpdatingRun.{World, client_funcs}
use Rattle.merged_program.specs.Names.{now_name, variable_name, function_name}
use Rattle.merged_program.specs.Statements.{hand, wrapping, return_zero, merged_statements}
use Rattle.merged_program.specs.Programs.{parameters_from, wrapper, starting, declared, ending, merged_param, merged_body, merged_func, old_func, new_func, xform_func, client_func, is_wrapped, merged_main, merged_funcs}
use Rattle.merge_printer.proofs.DeclarationLaw.{ProtoFits, FuncReads, start_scope}
use Rattle.merge_printer.proofs.Fitting.{StatementsFit, StatementFits, KeepsAll, Keeps, scope_behind}
use Rattle.merge_printer.proofs.HeadLaw.{ParamsFit, KindsFit}
use Rattle.c_lang.proofs.TreeLemmas.{statement_back, statements_back}
use Rattle.merge_printer.proofs.ReadScopes.{declared_before, declared_now}
use Rattle.merge_printer.proofs.SideLaw.{ExpressionsFit}
use Rattle.merge_printer.proofs.Words.{IsName}
use Rattle.written_laws.specs.SourceNames.{IsWord}
use Rattle.written_laws.specs.Walk.{start_of, ThroughoutAll}
use Rattle.written_laws.proofs.PlainWalks.{same_func}
use Rattle.written_laws.proofs.ProgramFits.{FuncFits}
use Rattle.written_laws.proofs.StatementFits.{IsFit}
use Rattle.written_laws.proofs.TypedLocals.{one_of}
use Rattle.written_laws.proofs.Walks.{both_all}
use Rattle.merged_texts.proofs.NameFits.{InWord, name_in_word, source_word, parameter_fits, now_fits, result_fits, main_fits, merged_fits, variable_fits, function_fits}
use Rattle.merged_texts.proofs.SourceStatements.{IsGood, good_plain}
use Rattle.merged_texts.proofs.PlacedStatements.{IsPlacedWell, kind_fits, AreTold, params_told, SeeNoCells, params_see, placed, is_good}
use Rattle.merged_texts.proofs.StatementFits.{tested, small, all_read}

-- ---- functions of sources

pub record IsGoodFunc (f : Func) : Type 0 where
  pub name : IsName f.name
  pub params : ParamsFit f.params
  pub body : ThroughoutAll IsGood (start_of f) (body_of f.body)

params_fit : (u : Unit) (ps : List (Kind × Bytes)) → All (λ (q : Kind × Bytes). IsWord u q.1) ps → AreNarrow (kinds_of ps) → ParamsFit ps
params_fit u [] h k = tt
params_fit u (q ∷ ps) h k =
    let P = λ (q : Kind × Bytes). IsWord u q.1 in
    ((kind_fits q.0 k.0, source_word u q.1 (All-head P q ps h)), params_fit u ps (All-tail P q ps h) k.1)

none_told : (names : List Bytes) → AreTold [] names
none_told names x there = absurd cc

-- what is written and typed is good, where it begins without locals and no name that picks see is a cell
pub good_source : (u : Unit) (start : types.Scope) (f : Func) → start.locals ≡ [] → SeeNoCells start.picks → FuncFits u f → IsTypedFrom start f → IsGoodFunc f
good_source u start f empty cells h typed =
    let scope = with_params start f.params in
    let ss = body_of f.body in
    let names = (start_of f).declared in
    let told = params_told f.params start names (λ x there. there) (subst (λ (es : Entries). AreTold es names) (sym empty) (none_told names)) in
    record {
      name = source_word u f.name h.name;
      params = params_fit u f.params h.params typed.narrow;
      body = both_all (IsFit u) IsPlacedWell IsGood (is_good u) (start_of f) ss h.body (placed (block_in scope) (begun scope ss) (start_of f) ss refl (params_see f.params start cells) told typed.body);
    }

-- and so is its resolved form
good_func : (r f : Func) → plain_func r ≡ plain_func f → IsGoodFunc f → IsGoodFunc r
good_func r f e h = record {
  name = subst IsName (sym (ap (λ (q : PlainFunc). q.name) e)) h.name;
  params = subst ParamsFit (sym (ap (λ (q : PlainFunc). q.params) e)) h.params;
  body = same_func IsGood (λ at s k. subst (λ A. A) (sym (good_plain at s)) k) (λ at s k. subst (λ A. A) (good_plain at s) k) r f e h.body;
}

pub good_funcs : (rs fs : List Func) → map plain_func rs ≡ map plain_func fs → All IsGoodFunc fs → All IsGoodFunc rs
good_funcs [] fs e h = All-nil IsGoodFunc
good_funcs (r ∷ rs) [] e h = absurd cc
good_funcs (r ∷ rs) (f ∷ fs) e h =
    let here : plain_func r ≡ plain_func f = cc in
    let rest : map plain_func rs ≡ map plain_func fs = cc in
    All-cons IsGoodFunc r rs (good_func r f here (All-head IsGoodFunc f fs h)) (good_funcs rs fs rest (All-tail IsGoodFunc f fs h))

-- ---- bodies

-- the printed form of a function can be read again
abbrev pub IsReadable : Func → Type 0
IsReadable g = FuncReads (built_func (plain_func g))

abbrev BodyFits : List Stmt → Type 0
BodyFits ss = StatementsFit false (plain_statements (body_of ss))

abbrev BodyKeeps : Scope → List Stmt → Type 0
BodyKeeps sc ss = KeepsAll sc (plain_statements (body_of ss))

readable : (g : Func) → IsName g.name → ParamsFit g.params → BodyFits g.body → BodyKeeps (start_scope g.params) g.body → IsReadable g
readable g name params fits keeps =
    let ss = plain_statements (body_of g.body) in
    record {
      name = name;
      params = params;
      body = subst (λ (ss : Statements). StatementsFit false ss) (sym (statements_back ss)) fits;
      keeps = subst (λ (ss : Statements). KeepsAll (start_scope g.params) ss) (sym (statements_back ss)) keeps;
    }

built_fits : (ss : Statements) → StatementsFit false (plain_statements ss) → BodyFits (stmts_of ss)
built_fits ss h = subst (λ (ss : Statements). StatementsFit false (plain_statements ss)) (sym (statements_back ss)) h

built_keeps : (sc : Scope) (ss : Statements) → KeepsAll sc (plain_statements ss) → BodyKeeps sc (stmts_of ss)
built_keeps sc ss h = subst (λ (ss : Statements). KeepsAll sc (plain_statements ss)) (sym (statements_back ss)) h

one_fits : (s : Statement) → StatementFits false (plain_statement s) → BodyFits (stmt_of s ∷ [])
one_fits s h = (subst (λ (s : Statement). StatementFits false (plain_statement s)) (sym (statement_back s)) h, tt)

one_keeps : (sc : Scope) (s : Statement) → Keeps sc (plain_statement s) → BodyKeeps sc (stmt_of s ∷ [])
one_keeps sc s h = (subst (λ (s : Statement). Keeps sc (plain_statement s)) (sym (statement_back s)) h, tt)

both_fit : (xs ys : List Stmt) → BodyFits xs → BodyFits ys → BodyFits (xs ++ ys)
both_fit [] ys h k = k
both_fit (x ∷ xs) ys h k = (h.0, both_fit xs ys h.1 k)

both_keep : (xs ys : List Stmt) (sc : Scope) → BodyKeeps sc xs → ((after : Scope) → BodyKeeps after ys) → BodyKeeps sc (xs ++ ys)
both_keep [] ys sc h k = k sc
both_keep (x ∷ xs) ys sc h k = (h.0, both_keep xs ys (scope_behind (plain_statement (statement_of x)) sc) h.1 k)

-- what stands behind a body can be printed anywhere
record FitsBehind (ss : List Stmt) : Type 0 where
  fits : BodyFits ss
  keeps : (sc : Scope) → BodyKeeps sc ss

nothing_behind : FitsBehind []
nothing_behind = record { fits = tt; keeps = λ sc. tt }

zero_behind : (p : Pos) → FitsBehind (stmt_of (return_zero p) ∷ [])
zero_behind p = record { fits = one_fits (return_zero p) (small 0 (omega arith)); keeps = λ sc. one_keeps sc (return_zero p) tt }

ending_fits : (f : Func) → FitsBehind (ending f)
ending_fits f = by_test (is_main f.name && can_end (body_of f.body))
  where
    by_test : (b : Bool) → FitsBehind (cond b (stmt_of (return_zero f.pos) ∷ []) [])
    by_test true = zero_behind f.pos
    by_test false = nothing_behind

-- ---- functions of versions, transformers and clients

module _ (W : World) (o : Provenance) where
  params_renamed : (ps : List (Kind × Bytes)) → ParamsFit ps → ParamsFit (map (merged_param W o) ps)
  params_renamed [] h = tt
  params_renamed (q ∷ ps) h = ((h.0.0, variable_fits W o q.1 h.0.1), params_renamed ps h.1)

  abbrev ρ : Provenance → Bytes → Bytes
  ρ = variable_name W

  still_declared : (ps : List (Kind × Bytes)) (sc : Scope) (y : Bytes) → is_declared sc y ≡ true → is_declared (all_declared ps sc) y ≡ true
  still_declared [] sc y h = h
  still_declared (q ∷ ps) sc y h = still_declared ps (declare sc q.1) y (declared_before sc q.1 y h)

  params_covered : (ps : List (Kind × Bytes)) (sc : Scope) (x : Bytes) → Contains (map (λ (q : Kind × Bytes). q.1) ps) x
      → is_declared (all_declared (map (merged_param W o) ps) sc) (ρ o x) ≡ true
  params_covered [] sc x there = absurd (let lt = there.1 in omega (arith, lt))
  params_covered (q ∷ ps) sc x there = elim (one_of q.1 x (map (λ (q : Kind × Bytes). q.1) ps) there) [
    | inl same ↦
        subst (λ (z : Bytes). is_declared (all_declared (map (merged_param W o) (q ∷ ps)) sc) (ρ o z) ≡ true) same
        (still_declared (map (merged_param W o) ps) (declare sc (ρ o q.1)) (ρ o q.1) (declared_now sc (ρ o q.1)))
    | inr old ↦ params_covered ps (declare sc (ρ o q.1)) x old
  ]

  merged_reads : (name : Bytes) (behind : List Stmt) (f : Func) → IsName name → FitsBehind behind → IsGoodFunc f → IsReadable (merged_func W o name behind f)
  merged_reads name behind f is after h =
      let ss = merged_statements W.permits ρ (function_name W) o (body_of f.body) in
      let sc = start_scope (map (merged_param W o) f.params) in
      let body = all_read W.permits ρ (function_name W) o (variable_fits W o) (function_fits W o) (start_of f) sc (body_of f.body) (params_covered f.params _) h.body in
      readable (merged_func W o name behind f) is (params_renamed f.params h.params)
      (both_fit (merged_body W o f.body) behind (built_fits ss body.fits) after.fits)
      (both_keep (merged_body W o f.body) behind sc (built_keeps sc ss body.keeps) after.keeps)

-- ---- wrappers, and the function with which a run begins

parameters_fit : (n : ℕ) (ks : List Kind) → KindsFit ks → ParamsFit (parameters_from n ks)
parameters_fit n [] h = tt
parameters_fit n (k ∷ ks) h = ((h.0, parameter_fits n), parameters_fit (n + 1) ks h.1)

kinds_fit : (ps : List (Kind × Bytes)) → ParamsFit ps → KindsFit (kinds_of ps)
kinds_fit [] h = tt
kinds_fit (q ∷ ps) h = (h.0.0, kinds_fit ps h.1)

variables_fit : (ps : List (Kind × Bytes)) → ParamsFit ps → ExpressionsFit (map plain_expression (map (λ (q : Kind × Bytes). variable q.1) ps))
variables_fit [] h = tt
variables_fit (q ∷ ps) h = (h.0.1, variables_fit ps h.1)

hand_fits : (p : Pos) (gives : Bool) (f : Bytes) (ps : List (Kind × Bytes)) → IsName f → ParamsFit ps → StatementsFit false (plain_statements (hand p gives f ps))
hand_fits p true f ps is h = (((tt, result_fits), is, variables_fit ps h), (result_fits, tt))
hand_fits p false f ps is h = ((tt, is, variables_fit ps h), tt)

hand_keeps : (sc : Scope) (p : Pos) (gives : Bool) (f : Bytes) (ps : List (Kind × Bytes)) → KeepsAll sc (plain_statements (hand p gives f ps))
hand_keeps sc p true f ps = (tt, (tt, tt))
hand_keeps sc p false f ps = (tt, tt)

wrapper_reads : (f : Func) → IsGoodFunc f → IsReadable (wrapper f)
wrapper_reads f h =
    let ps = parameters_from 1 (kinds_of f.params) in
    let new = merged_name prefix.New f.name in
    let old = merged_name prefix.Old f.name in
    let s = wrapping f.pos f.gives new old ps in
    let sc = start_scope ps in
    let is = name_in_word f.name h.name in
    let params = parameters_fit 1 (kinds_of f.params) (kinds_fit f.params h.params) in
    readable (wrapper f) (merged_fits prefix.Any f.name is) params
    (one_fits s (tested now_name now_fits, hand_fits f.pos f.gives new ps (merged_fits prefix.New f.name is) params, hand_fits f.pos f.gives old ps (merged_fits prefix.Old f.name is) params))
    (one_keeps sc s (hand_keeps sc f.pos f.gives new ps, hand_keeps _ f.pos f.gives old ps))

starting_reads : (name : Bytes) (f : Func) → IsName name → IsReadable (starting name f)
starting_reads name f is =
    let ss = hand f.pos f.gives name [] in
    let after = by_test f.gives in
    let sc = start_scope [] in
    readable (starting name f) main_fits tt
    (both_fit (stmts_of ss) (cond f.gives [] (stmt_of (return_zero f.pos) ∷ [])) (built_fits ss (hand_fits f.pos f.gives name [] is tt)) after.fits)
    (both_keep (stmts_of ss) (cond f.gives [] (stmt_of (return_zero f.pos) ∷ [])) sc (built_keeps sc ss (hand_keeps sc f.pos f.gives name [])) after.keeps)
  where
    by_test : (b : Bool) → FitsBehind (cond b [] (stmt_of (return_zero f.pos) ∷ []))
    by_test true = nothing_behind
    by_test false = zero_behind f.pos

-- ---- all functions

-- the functions of each part are good
pub record HasGoodFuncs (W : World) : Type 0 where
  pub first : All IsGoodFunc W.first.funcs
  pub second : All IsGoodFunc W.second.funcs
  pub xform : All IsGoodFunc W.xform.funcs
  pub client : All IsGoodFunc (client_funcs W)
  pub entry : (c : ClientProgram) → W.client ≡ Some c → InWord c.spec

mapped_reads : (g : Func → Func) → ((f : Func) → IsGoodFunc f → IsReadable (g f)) → (fs : List Func) → All IsGoodFunc fs → All IsReadable (map g fs)
mapped_reads g each fs h = All-map IsReadable g fs (All-weaker IsGoodFunc (λ f. IsReadable (g f)) each fs h)

module _ (W : World) (h : HasGoodFuncs W) where
  main_reads : (c : Option ClientProgram) → W.client ≡ c → IsReadable (merged_main W c)
  main_reads None is = starting_reads (merged_name prefix.Old (codes "main")) (func_in W.first.funcs (codes "main")) (merged_fits prefix.Old (codes "main") refl)
  main_reads (Some c) is = starting_reads (merged_name prefix.Client c.spec) (func_in c.program.funcs c.spec) (merged_fits prefix.Client c.spec (h.entry c is))

  pub funcs_read : All IsReadable (merged_funcs W)
  funcs_read =
      let P = IsReadable in
      let in_word = λ (f : Func) (k : IsGoodFunc f). name_in_word f.name k.name in
      let olds = mapped_reads (old_func W) (λ f k. merged_reads W origin.Old (merged_name prefix.Old f.name) (ending f) f (merged_fits prefix.Old f.name (in_word f k)) (ending_fits f) k) W.first.funcs h.first in
      let news = mapped_reads (new_func W) (λ f k. merged_reads W origin.New (merged_name prefix.New f.name) (ending f) f (merged_fits prefix.New f.name (in_word f k)) (ending_fits f) k) W.second.funcs h.second in
      let wrappers = mapped_reads wrapper wrapper_reads (filter (is_wrapped W) W.first.funcs) (All-filter (is_wrapped W) IsGoodFunc W.first.funcs h.first) in
      let xforms = mapped_reads (xform_func W) (λ f k. merged_reads W origin.Xform (merged_name prefix.Xform f.name) [] f (merged_fits prefix.Xform f.name (in_word f k)) nothing_behind k) W.xform.funcs h.xform in
      let clients = mapped_reads (client_func W) (λ f k. merged_reads W origin.Client (merged_name prefix.Client f.name) [] f (merged_fits prefix.Client f.name (in_word f k)) nothing_behind k) (client_funcs W) h.client in
      let main = All-cons P (merged_main W W.client) [] (main_reads W.client refl) (All-nil P) in
      All-append P _ _ olds (All-append P _ _ news (All-append P _ _ wrappers (All-append P _ _ xforms (All-append P _ _ clients main))))

-- ---- prototypes

proto_fits : (f : Func) → IsReadable f → ProtoFits (declared f)
proto_fits f h = record { name = h.name; kinds = kinds_fit f.params h.params }

pub protos_fit : (fs : List Func) → All IsReadable fs → All ProtoFits (map declared fs)
protos_fit fs h = All-map ProtoFits declared fs (All-weaker IsReadable (λ f. ProtoFits (declared f)) proto_fits fs h)

pub read_back : (fs : List Func) → All IsReadable fs → All FuncReads (map built_func (map plain_func fs))
read_back fs h = All-map FuncReads built_func (map plain_func fs) (All-map (λ q. FuncReads (built_func q)) plain_func fs h)
