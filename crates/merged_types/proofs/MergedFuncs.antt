-- Merged functions are typed and in resolved form where the code's own are.
use Rattle.std.proofs.Common.{◌≡◌, ◌≤◌, ℕ, Bool, true, false, ◌&&◌, List, [], ◌∷◌, ◌++◌, map, length, Option, Some, None, refl, sym, ap, ◌∙◌, subst}
use Rattle.std.specs.Prelude.{if◌then◌else◌, pos}
use Rattle.std.proofs.lemmas.List.{append-nil}
use Rattle.c_lang.specs.Limits.{parameter_limit}
use Rattle.c_lang.specs.Names.{Bytes}
use Rattle.c_lang.specs.Trees.{Statements, literal, none, more, stmt_of, stmts_of}
use Rattle.c_lang.specs.declared.unit.Pos.{Pos}
use Rattle.c_lang.specs.declared.stmt.Kind.{Kind}
use Rattle.c_lang.specs.declared.stmt.Stmt.{Stmt}
use Rattle.c_lang.specs.declared.program.Func.{Func}
use Rattle.c_types.specs.Bodies.{body_of}
use Rattle.c_types.specs.Names.{Cell, Entries, added}
use Rattle.c_types.specs.Scopes.{Picks, Scope, Block, names_of, with_dest}
use Rattle.c_types.specs.Endings.{ends, can_end}
use Rattle.c_types.specs.Statements.{dest_of, with_locals, scope_after, block_in, begun}
use Rattle.c_types.specs.Functions.{kinds_of, scope_of, with_param, with_params, params_block, is_main}
use Rattle.c_types.specs.Types.{AreNarrow, AreParams}
use Rattle.version_names.specs.Parts.{Parts}
use Rattle.version_names.specs.Provenance.{Provenance}
use Rattle.client_specs.specs.declared.region.Region.TheVariants.{Here}
use Rattle.client_specs.specs.Spelled.{spelled_statements, spelled_func}
use Rattle.merged_program.specs.Statements.{merged_statements, return_zero}
use Rattle.merged_program.specs.Programs.{ending}
use Rattle.c_types.proofs.Combined.{both_true}
use Rattle.merged_program.proofs.MergedNames.{by_bool}
use Rattle.c_lang.proofs.TreeLemmas.{statements_back}
use Rattle.merged_types.proofs.EntryLaws.{renamed_added}
use Rattle.resolved_types.proofs.ResolvedTyping.{IsResolvedReturn, AreResolved}
use Rattle.merged_types.proofs.ResolvedFuncs.{IsResolvedFrom, IsResolvedFunc}
use Rattle.merged_types.proofs.SameFlow.{flow_merged_list}
use Rattle.merged_types.proofs.Unspelled.{no_parts, same_statements}
use Rattle.merged_types.proofs.CarriedScopes.{IsNaming, HasUpdate, IsOutside, Renaming, IsSeen, IsCarried, fresh_carried, local_added}
use Rattle.merged_types.proofs.CarriedStatements.{body_carried}

-- ---- statements behind a body

abbrev pub joined : Statements → Statements → Statements
joined none ys = ys
joined (more x xs) ys = more x (joined xs ys)

pub joined_built : (xs ys : Statements) → stmts_of (joined xs ys) ≡ stmts_of xs ++ stmts_of ys
joined_built none ys = refl
joined_built (more x xs) ys = ap (λ (zs : List Stmt). stmt_of x ∷ zs) (joined_built xs ys)

-- `return 0;`
abbrev pub zero_at : Pos → Statements
zero_at p = more (return_zero p) none

and_false : (b : Bool) → (b && false) ≡ false
and_false true = refl
and_false false = refl

zero_ends : (xs : Statements) (p : Pos) → can_end (joined xs (zero_at p)) ≡ false
zero_ends none p = refl
zero_ends (more x xs) p = ap (λ (b : Bool). ends x && b) (zero_ends xs p) ∙ and_false (ends x)

zero_locals : (es : Entries) (xs : Statements) (p : Pos) → with_locals es (joined xs (zero_at p)) ≡ with_locals es xs
zero_locals es none p = refl
zero_locals es (more x xs) p = zero_locals (with_dest es (dest_of x)) xs p

pub zero_behind : (b : Block) (s : Scope) (xs : Statements) (p : Pos) → s.gives ≡ true → AreResolved b s xs → AreResolved b s (joined xs (zero_at p))
zero_behind b s none p g h = (subst (λ (y : Bool). IsResolvedReturn (names_of s) y (Some (literal (pos 0)))) (sym g) tt, tt)
zero_behind b s (more x xs) p g h = (h.0, zero_behind b (scope_after s x) xs p g h.1)

-- ---- under merging

module _ (permits : ℕ → Bool) (ρs κs : Provenance → Bytes → Bytes) (o : Provenance) (naming : IsNaming (ρs o)) (parts : Parts) where
  abbrev pub R : Renaming
  R = record { variables = ρs o; functions = κs o; naming = naming; parts = parts }

  abbrev pub renamed_param : Kind × Bytes → Kind × Bytes
  renamed_param q = (q.0, ρs o q.1)

  abbrev merged : Statements → Statements
  merged = merged_statements permits ρs κs o

  kinds_renamed : (ps : List (Kind × Bytes)) → kinds_of (map renamed_param ps) ≡ kinds_of ps
  kinds_renamed [] = refl
  kinds_renamed (p ∷ ps) = ap (λ (ks : List Kind). p.0 ∷ ks) (kinds_renamed ps)

  param_carried : (s t : Scope) (p : Kind × Bytes) → IsCarried R Here s t → IsCarried R Here (with_param s p) (with_param t (renamed_param p))
  param_carried s t p c = record {
    seen = c.seen;
    plain = c.plain;
    locals =
        ap (λ (es : Entries). added es (ρs o p.1) (Cell p.0)) c.locals
        ∙ renamed_added (ρs o) naming.same s.locals p.1 (Cell p.0);
    cells = local_added R s.locals p.1 p.0 c.cells;
    told = c.told;
    ahead = c.ahead;
    gives = c.gives;
    code = c.code;
  }

  params_carried : (s t : Scope) (ps : List (Kind × Bytes)) → IsCarried R Here s t → IsCarried R Here (with_params s ps) (with_params t (map renamed_param ps))
  params_carried s t [] c = c
  params_carried s t (p ∷ ps) c = params_carried (with_param s p) (with_param t (renamed_param p)) ps (param_carried s t p c)

  are_params_carried : (s t : Scope) (ps : List (Kind × Bytes)) → IsCarried R Here s t → AreParams s ps → AreParams t (map renamed_param ps)
  are_params_carried s t [] c h = tt
  are_params_carried s t (p ∷ ps) c h = (
    fresh_carried R Here s t c params_block p.0 p.1 h.0,
    are_params_carried (with_param s p) (with_param t (renamed_param p)) ps (param_carried s t p c) h.1,
  )

  -- where a function begins that sees these names
  pub start_carried : (here : Entries) (forced : Option Entries) (picks : Option Picks) (gives xform : Bool) (outside : Entries) → IsSeen R Here here forced picks outside
      → IsCarried R Here (record { outside = here; forced = forced; picks = picks; locals = []; told = []; ahead = []; gives = gives; xform = xform })
      (scope_of outside false gives)
  start_carried here forced picks gives xform outside seen = record {
    seen = seen;
    plain = (refl, refl);
    locals = refl;
    cells = λ x. tt;
    told = record { same = λ x. refl; choice = refl };
    ahead = refl;
    gives = refl;
    code = refl;
  }

  -- a function whose statements are spelled so
  module _ (start : Scope) (outside : Entries) (f : Func) (c : IsCarried R Here start (scope_of outside false f.gives)) (u : HasUpdate outside)
      (h : IsResolvedFrom start f) (name : Bytes) (ts : Statements) (is : ts ≡ spelled_statements parts Here h.tree) where
    abbrev begins : Scope
    begins = scope_of outside false f.gives

    abbrev scope : Scope
    scope = with_params start f.params

    abbrev merged_scope : Scope
    merged_scope = with_params begins (map renamed_param f.params)

    body_merged : AreResolved (block_in merged_scope) (begun merged_scope (merged ts)) (merged ts)
    body_merged =
        subst (λ (xs : Statements). AreResolved (block_in merged_scope) (begun merged_scope (merged xs)) (merged xs)) (sym is)
        (body_carried permits ρs κs o naming parts Here scope merged_scope (params_carried start begins f.params c)
        (subst HasUpdate (sym (params_outside begins (map renamed_param f.params))) u) h.tree h.body)
      where
        params_outside : (s : Scope) (ps : List (Kind × Bytes)) → (with_params s ps).outside ≡ s.outside
        params_outside s [] = refl
        params_outside s (p ∷ ps) = params_outside (with_param s p) ps

    abbrev pub merged_with : (behind : List Stmt) → Func
    merged_with behind = record {
      name = name;
      params = map renamed_param f.params;
      gives = f.gives;
      body = stmts_of (merged ts) ++ behind;
      pos = f.pos;
    }

    ends_same : can_end (merged ts) ≡ can_end h.tree
    ends_same = ap (λ (xs : Statements). can_end (merged xs)) is ∙ (flow_merged_list permits ρs κs o parts Here (block_in scope) (begun scope h.tree) h.tree h.body).ends

    few_merged : length (kinds_of (map renamed_param f.params)) ≤ parameter_limit
    few_merged = subst (λ (ks : List Kind). length ks ≤ parameter_limit) (sym (kinds_renamed f.params)) h.few

    narrow_merged : AreNarrow (kinds_of (map renamed_param f.params))
    narrow_merged = subst AreNarrow (sym (kinds_renamed f.params)) h.narrow

    -- a body that nothing stands behind
    pub merged_alone : (f.gives ≡ true → can_end h.tree ≡ false) → IsResolvedFunc outside false (merged_with [])
    merged_alone never = record {
      params = are_params_carried start begins f.params c h.params;
      few = few_merged;
      narrow = narrow_merged;
      tree = merged ts;
      built = append-nil (stmts_of (merged ts));
      gives = λ g m. ends_same ∙ never g;
      body = body_merged;
    }

    params_give : (s : Scope) (ps : List (Kind × Bytes)) → (with_params s ps).gives ≡ s.gives
    params_give s [] = refl
    params_give s (p ∷ ps) = params_give (with_param s p) ps

    -- a body with a return behind it
    pub merged_returning : (p : Pos) → f.gives ≡ true → IsResolvedFunc outside false (merged_with (stmt_of (return_zero p) ∷ []))
    merged_returning p g =
        let whole = joined (merged ts) (zero_at p) in
        let same : begun merged_scope whole ≡ begun merged_scope (merged ts) =
        ap (λ (es : Entries). record merged_scope { ahead = es }) (zero_locals merged_scope.ahead (merged ts) p) in
        record {
          params = are_params_carried start begins f.params c h.params;
          few = few_merged;
          narrow = narrow_merged;
          tree = whole;
          built = sym (joined_built (merged ts) (zero_at p));
          gives = λ k m. zero_ends (merged ts) p;
          body = subst (λ (t : Scope). AreResolved (block_in merged_scope) t whole) (sym same)
              (zero_behind (block_in merged_scope) (begun merged_scope (merged ts)) (merged ts) p
              (params_give begins (map renamed_param f.params) ∙ g) body_merged);
        }

-- ---- functions of versions and transformers

module _ (permits : ℕ → Bool) (ρs κs : Provenance → Bytes → Bytes) (o : Provenance) (naming : IsNaming (ρs o)) (outside outside' : Entries) (xform : Bool)
    (names : IsOutside (ρs o) (κs o) naming outside outside') (u : HasUpdate outside') (f : Func) (h : IsResolvedFunc outside xform f) (name : Bytes) where
  abbrev start : Scope
  start = scope_of outside xform f.gives

  pub carried : IsCarried (R permits ρs κs o naming no_parts) Here start (scope_of outside' false f.gives)
  carried = start_carried permits ρs κs o naming no_parts outside None None f.gives xform outside' (record { here = names; behind = tt; picks = tt })

  pub body_is : body_of f.body ≡ h.tree
  body_is = ap body_of h.built ∙ statements_back h.tree

  pub spelled_is : body_of f.body ≡ spelled_statements no_parts Here h.tree
  spelled_is = body_is ∙ sym (same_statements Here h.tree)

  abbrev whole : (behind : List Stmt) → Func
  whole = merged_with permits ρs κs o naming no_parts start outside' f carried u h name (body_of f.body) spelled_is

  alone : (f.gives ≡ true → can_end h.tree ≡ false) → IsResolvedFunc outside' false (whole [])
  alone = merged_alone permits ρs κs o naming no_parts start outside' f carried u h name (body_of f.body) spelled_is

  both_test : (a b : Bool) → (a && b) ≡ false → a ≡ true → b ≡ false
  both_test true b h e = h
  both_test false b h e = absurd cc

  -- a version's: behind a `main` that can end stands a return
  pub version_merged : (is_main f.name ≡ true → f.gives ≡ true) → IsResolvedFunc outside' false (whole (ending f))
  version_merged starts = by_bool (is_main f.name && can_end (body_of f.body))
      (λ e. subst (λ (y : Bool). IsResolvedFunc outside' false (whole (if y then stmt_of (return_zero f.pos) ∷ [] else []))) (sym e)
      (merged_returning permits ρs κs o naming no_parts start outside' f carried u h name (body_of f.body) spelled_is f.pos
      (starts (both_true (is_main f.name) (can_end (body_of f.body)) e).0)))
      (λ e. subst (λ (y : Bool). IsResolvedFunc outside' false (whole (if y then stmt_of (return_zero f.pos) ∷ [] else []))) (sym e)
      (alone (λ g. by_bool (is_main f.name)
      (λ m. sym (ap can_end body_is) ∙ both_test (is_main f.name) (can_end (body_of f.body)) e m)
      (λ m. h.gives g m))))

  -- a transformer's
  pub xform_merged : is_main f.name ≡ false → IsResolvedFunc outside' false (whole [])
  xform_merged m = alone (λ g. h.gives g m)

-- ---- functions of clients

module _ (permits : ℕ → Bool) (ρs κs : Provenance → Bytes → Bytes) (o : Provenance) (naming : IsNaming (ρs o)) (parts : Parts) (start : Scope) (outside : Entries)
    (f : Func) (c : IsCarried (R permits ρs κs o naming parts) Here start (scope_of outside false f.gives)) (u : HasUpdate outside) (h : IsResolvedFrom start f) (name : Bytes) where
  pub spelled_body : body_of (spelled_func parts f).body ≡ spelled_statements parts Here h.tree
  spelled_body = statements_back (spelled_statements parts Here (body_of f.body)) ∙ ap (spelled_statements parts Here) (ap body_of h.built ∙ statements_back h.tree)

  pub client_merged : is_main f.name ≡ false
      → IsResolvedFunc outside false (merged_with permits ρs κs o naming parts start outside f c u h name (body_of (spelled_func parts f).body) spelled_body [])
  client_merged m = merged_alone permits ρs κs o naming parts start outside f c u h name (body_of (spelled_func parts f).body) spelled_body (λ g. h.gives g m)
