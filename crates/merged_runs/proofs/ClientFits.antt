-- Every function of a client may run before the swap.
use Rattle.std.proofs.Common.{◌≡◌, ℤ, Bool, true, false, if◌then◌else◌, List, [], ◌∷◌, map, All, Option, Some, None, unwrap_or, refl, sym, subst}
use Rattle.std.specs.Option.{option_map}
use Rattle.std.specs.Str.{bytes_eq}
use Rattle.std.proofs.lemmas.List.Elements.{All-head, All-tail}
use Rattle.c_lang.specs.Names.{Bytes}
use Rattle.c_lang.specs.Programs.{func_named, func_in, no_func}
use Rattle.c_lang.specs.Trees.{Expression, literal, variable, element, function, null, negation, logical_not, binary, Statement, Statements, skip, set, set_element, call, call_by, if_else, while_loop, break_loop, return_with, assert_that, input, output, point, choice, force, pick, none, more, expression_of, statement_of, stmts_of}
use Rattle.c_lang.specs.declared.expr.Expr.{Expr}
use Rattle.c_lang.specs.declared.expr.Expr.TheVariants as expr
use Rattle.c_lang.specs.declared.unit.Pos.{Pos}
use Rattle.c_lang.specs.declared.unit.Unit.TheVariants.{Client}
use Rattle.c_lang.specs.declared.stmt.Dest.{Dest}
use Rattle.c_lang.specs.declared.stmt.Kind.{Kind}
use Rattle.c_lang.specs.declared.stmt.Kind.TheVariants.{Int, Fp}
use Rattle.c_lang.specs.declared.stmt.Stmt.{Stmt}
use Rattle.c_lang.specs.declared.stmt.Stmt.TheVariants as stmt
use Rattle.c_lang.specs.declared.program.Func.{Func}
use Rattle.c_lang.specs.declared.program.Program.{Program}
use Rattle.c_lang.proofs.TreeLemmas.{expression_of-Lit, expression_of-Var, expression_of-Elem, expression_of-FunRef, expression_of-Null, expression_of-Neg, expression_of-Not, expression_of-Bin, statement_of-Skip, statement_of-Set, statement_of-SetElem, statement_of-Call, statement_of-CallBy, statement_of-If, statement_of-While, statement_of-Break, statement_of-Return, statement_of-Assert, statement_of-Input, statement_of-Output, statement_of-Point, statement_of-Choice, statement_of-Force, statement_of-Pick, statement_back}
use Rattle.c_types.specs.Bodies.{body_of}
use Rattle.c_types.specs.Names.{Means, Cell, Array, Code, Refused, Names, Entries}
use Rattle.c_types.specs.Scopes.{Picks, Scope, Block, names_of, in_pick}
use Rattle.c_types.specs.Expressions.{resolved_name, resolved_literal, place_of, resolved}
use Rattle.c_types.specs.Calls.{place_in, element_kind, first_place, other_places, resolved_args, places_of, resolved_call}
use Rattle.c_types.specs.Statements.{is_force, scope_after, block_in, begun, entered, after_block, resolved_picked, resolved_pick, resolved_statement, resolved_list}
use Rattle.c_types.specs.Functions.{with_params, resolved_from}
use Rattle.c_types.specs.Programs.{with_func}
use Rattle.c_types.specs.Typing.{MayForce, IsTypedStatement, AreTyped}
use Rattle.c_types.specs.Types.{IsTypedFrom}
use Rattle.c_types.proofs.FunctionLaws.{still_unforced}
use Rattle.written_laws.specs.Walk.{Context, start_of, in_loop, in_pick as picked_at, past, past_all, Throughout, ThroughoutAll}
use Rattle.written_laws.specs.SourceNames.{IsWord, IsName, HasNames, HaveNames, ReturnsNames, StatementHasNames}
use Rattle.written_laws.proofs.WrittenLaws.{words}
use Rattle.plain_run.specs.Steps.{Item, Does}
use Rattle.version_names.specs.Parts.{Parts, part_of}
use Rattle.client_specs.specs.declared.region.Region.{Region}
use Rattle.client_specs.specs.declared.region.Region.TheVariants.{Here, Behind, Before}
use Rattle.client_specs.specs.Spelled.{spelled, spelled_expression, spelled_statement, spelled_statements, spelled_func, region_after}
use Rattle.client_specs.specs.Starts.{start}
use Rattle.client_specs.specs.Clients.{AreOwnFuncs}
use Rattle.client_specs.specs.Refusals.{resolved_own}
use Rattle.client_specs.specs.Kept.{ClientProgram}
use Rattle.update_semantics.specs.UpdatingRun.{World, funcs_of_client}
use Rattle.update_semantics.specs.Worlds.{IsOptionalClient}
use Rattle.merged_program.proofs.MergedNames.{true_false}
use Rattle.merged_runs.proofs.ClientCode.{FitsExpression, FitExpressions, FitsReturn, FitsStatement, FitStatements, FitItems, FitsBefore, fits_before, no_mark}
use Rattle.merged_runs.proofs.Relation.{MayName}
use Rattle.merged_runs.proofs.ClientNames.{IsPlain, word_plain, name_plain, spelled_may}

-- ---- expressions, at a place where the old version's functions are called

module _ (May : Bytes → Type 0) (parts : Parts) where
  abbrev MaySpell : Region → Type 0
  MaySpell region = (x : Bytes) → IsPlain x → May (spelled parts region x)

  module _ (region : Region) (may : MaySpell region) where
    abbrev Spells : Expression → Type 0
    Spells e = FitsExpression May (spelled_expression parts region e)

    -- an expression that is built fits by its outermost level
    built : (e : Expr) (level : Expression) → expression_of e ≡ level → Spells level → Spells (expression_of e)
    built e level is h = subst Spells (sym is) h

    name_fits : (x : Bytes) (m : Means) → IsName Client x → Spells (expression_of (resolved_name x m))
    name_fits x (Code params gives value denied) h = built (expr.FunRef x) (function x) (expression_of-FunRef x) (may x (name_plain x h))
    name_fits x (Cell k) h = built (expr.Var x) (variable x) (expression_of-Var x) tt
    name_fits x Array h = built (expr.Var x) (variable x) (expression_of-Var x) tt
    name_fits x (Refused n) h = built (expr.Var x) (variable x) (expression_of-Var x) tt

    literal_fits : (place : Kind) (z : ℤ) → Spells (expression_of (resolved_literal place z))
    literal_fits Int z = built (expr.Lit z) (literal z) (expression_of-Lit z) tt
    literal_fits (Fp n) z = built expr.Null null expression_of-Null tt

    expression_fits : (names : Names) (place : Kind) (e : Expression) → HasNames Client e → Spells (expression_of (resolved names place e))
    expression_fits names place (literal z) h = literal_fits place z
    expression_fits names place (variable x) h = name_fits x (names x) h
    expression_fits names place (element a i) h =
        built (expr.Elem a (resolved names Int i)) (element a (expression_of (resolved names Int i))) (expression_of-Elem a (resolved names Int i)) (expression_fits names Int i h.1)
    expression_fits names place (function f) h = built (expr.FunRef f) (function f) (expression_of-FunRef f) (may f (word_plain f h))
    expression_fits names place null h = built expr.Null null expression_of-Null tt
    expression_fits names place (negation a) h =
        built (expr.Neg (resolved names Int a)) (negation (expression_of (resolved names Int a))) (expression_of-Neg (resolved names Int a)) (expression_fits names Int a h)
    expression_fits names place (logical_not a) h =
        built (expr.Not (resolved names Int a)) (logical_not (expression_of (resolved names Int a))) (expression_of-Not (resolved names Int a)) (expression_fits names Int a h)
    expression_fits names place (binary o a b) h =
        let l = resolved names (place_of names o a b) a in
        let r = resolved names (place_of names o a b) b in
        built (expr.Bin o l r) (binary o (expression_of l) (expression_of r)) (expression_of-Bin o l r)
        (expression_fits names (place_of names o a b) a h.0, expression_fits names (place_of names o a b) b h.1)

    arguments_fit : (names : Names) (ks : List Kind) (es : List Expression) → HaveNames Client es
        → FitExpressions May (map (spelled_expression parts region) (map expression_of (resolved_args names ks es)))
    arguments_fit names ks [] h = tt
    arguments_fit names ks (e ∷ es) h = (expression_fits names (first_place names ks e) e h.0, arguments_fit names (other_places ks) es h.1)

    return_fits : (names : Names) (e : Option Expression) → ReturnsNames Client e
        → FitsReturn May (option_map (spelled_expression parts region) (option_map expression_of (option_map (resolved names Int) e)))
    return_fits names None h = tt
    return_fits names (Some e) h = expression_fits names Int e h

  -- ---- statements

  module _ (here : MaySpell Here) (before : MaySpell Before) where
    -- a statement of a resolved form that isn't a force and fits where it is spelled
    pub record Fits (t : Statement) : Type 0 where
      pub no_force : is_force t ≡ false
      pub fits : FitsStatement May (spelled_statement parts Here t)

    -- so does one that is built of it
    made : (s : Stmt) (level : Statement) → statement_of s ≡ level → Fits level → Fits (statement_of s)
    made s level is h = subst Fits (sym is) h

    skip_fits : (p : Pos) → Fits (statement_of (stmt.Skip p))
    skip_fits p = made (stmt.Skip p) (skip p) (statement_of-Skip p) (record { no_force = refl; fits = tt })

    function_fits : (s : Scope) (ks : List Kind) (p : Pos) (d : Dest) (f : Bytes) (es : List Expression) → IsWord Client f → HaveNames Client es
        → Fits (statement_of (stmt.Call p d f (resolved_args (names_of s) ks es)))
    function_fits s ks p d f es h k =
        let us = resolved_args (names_of s) ks es in
        made (stmt.Call p d f us) (call p d f (map expression_of us)) (statement_of-Call p d f us)
        (record { no_force = refl; fits = (here f (word_plain f h), arguments_fit Here here (names_of s) ks es k) })

    pointer_fits : (s : Scope) (p : Pos) (d : Dest) (x : Bytes) (es : List Expression) → HaveNames Client es
        → Fits (statement_of (stmt.CallBy p d x (resolved_args (names_of s) [] es)))
    pointer_fits s p d x es k =
        let us = resolved_args (names_of s) [] es in
        made (stmt.CallBy p d x us) (call_by p d x (map expression_of us)) (statement_of-CallBy p d x us)
        (record { no_force = refl; fits = arguments_fit Here here (names_of s) [] es k })

    call_fits : (s : Scope) (m : Means) (p : Pos) (d : Dest) (f : Bytes) (es : List Expression) → IsWord Client f → HaveNames Client es → Fits (statement_of (resolved_call s m p d f es))
    call_fits s (Cell k) p d f es h k' = pointer_fits s p d f es k'
    call_fits s (Code params gives value denied) p d f es h k' = function_fits s params p d f es h k'
    call_fits s Array p d f es h k' = function_fits s [] p d f es h k'
    call_fits s (Refused n) p d f es h k' = function_fits s [] p d f es h k'

    -- the call of a pick before the swap
    abbrev IsBefore : Statement → Type 0
    IsBefore t = FitsStatement May (spelled_statement parts Before t)

    skip_before : (p : Pos) → IsBefore (statement_of (stmt.Skip p))
    skip_before p = subst IsBefore (sym (statement_of-Skip p)) tt

    picked_fits : (p : Pos) (s : Scope) (o : Entries) (at : Context) (t : Statement) → Throughout (StatementHasNames Client) at t → IsBefore (statement_of (resolved_picked p s o t))
    picked_fits p s o at (call q d f es) h =
        let names = names_of (in_pick s o) in
        let us = resolved_args names (places_of (names f)) es in
        subst IsBefore (sym (statement_of-Call q d f us)) (before f (word_plain f h.1), arguments_fit Before before names (places_of (names f)) es h.2)
    picked_fits p s o at t h = skip_before p

    pick_fits : (p : Pos) (s : Scope) (o : Option Picks) (at : Context) (a b : Statement) → Throughout (StatementHasNames Client) at b → Fits (statement_of (resolved_pick p s o a b))
    pick_fits p s None at a b h = skip_fits p
    pick_fits p s (Some names) at a b h =
        let x = resolved_picked p s names.after a in
        let y = resolved_picked p s names.before b in
        made (stmt.Pick p x y) (pick p (statement_of x) (statement_of y)) (statement_of-Pick p x y)
        (record { no_force = refl; fits = picked_fits p s names.before at b h })

    -- no force stands where none may
    unforced : (b : Block) (s : Scope) (t : Statement) → s.forced ≡ None → IsTypedStatement b s t → is_force t ≡ false
    unforced b s (force p) e h = absurd (subst MayForce e h)
    unforced b s t e h = refl

    -- the rest is spelled as before
    goes_on : (t : Statement) (ts : Statements) → is_force t ≡ false → FitStatements May (spelled_statements parts Here ts) → FitStatements May (spelled_statements parts (region_after Here t) ts)
    goes_on t ts e h = subst (λ (b : Bool). FitStatements May (spelled_statements parts (if b then Behind else Here) ts)) (sym e) h

    mutual
      statement_fits : (b : Block) (s : Scope) (at : Context) (t : Statement) → is_force t ≡ false → IsTypedStatement b s t → Throughout (StatementHasNames Client) at t
          → Fits (statement_of (resolved_statement s t))
      statement_fits b s at (skip p) e h k = skip_fits p
      statement_fits b s at (set p d x) e h k =
          let y = resolved (names_of s) (place_in s d x) x in
          made (stmt.Set p d y) (set p d (expression_of y)) (statement_of-Set p d y)
          (record { no_force = refl; fits = expression_fits Here here (names_of s) (place_in s d x) x k.1 })
      statement_fits b s at (set_element p a i x) e h k =
          let j = resolved (names_of s) Int i in
          let y = resolved (names_of s) (element_kind (names_of s) (names_of s a) x) x in
          made (stmt.SetElem p a j y) (set_element p a (expression_of j) (expression_of y)) (statement_of-SetElem p a j y)
          (record { no_force = refl; fits = (expression_fits Here here (names_of s) Int i k.1, expression_fits Here here (names_of s) (element_kind (names_of s) (names_of s a) x) x k.2) })
      statement_fits b s at (call p d f es) e h k = call_fits s (names_of s f) p d f es k.1 k.2
      statement_fits b s at (call_by p d x es) e h k = pointer_fits s p d x es k.2
      statement_fits b s at (if_else p x xs ys) e h k =
          let y = resolved (names_of s) Int x in
          let us = resolved_list (entered s xs) xs in
          let vs = resolved_list (entered (after_block s xs) ys) ys in
          made (stmt.If p y us vs) (if_else p (expression_of y) (body_of us) (body_of vs)) (statement_of-If p y us vs)
          (record {
            no_force = refl;
            fits = (
              expression_fits Here here (names_of s) Int x k.0,
              list_fits (block_in s) (entered s xs) at xs refl h.1 k.1,
              list_fits (block_in s) (entered (after_block s xs) ys) (past_all at xs) ys refl h.2 k.2,
            );
          })
      statement_fits b s at (while_loop p x xs) e h k =
          let y = resolved (names_of s) Int x in
          let us = resolved_list (entered s xs) xs in
          made (stmt.While p y us) (while_loop p (expression_of y) (body_of us)) (statement_of-While p y us)
          (record { no_force = refl; fits = (expression_fits Here here (names_of s) Int x k.0, list_fits (block_in s) (entered s xs) (in_loop at) xs refl h.1 k.1) })
      statement_fits b s at (break_loop p) e h k = made (stmt.Break p) (break_loop p) (statement_of-Break p) (record { no_force = refl; fits = tt })
      statement_fits b s at (return_with p x) e h k =
          let y = option_map (resolved (names_of s) Int) x in
          made (stmt.Return p y) (return_with p (option_map expression_of y)) (statement_of-Return p y)
          (record { no_force = refl; fits = return_fits Here here (names_of s) x k })
      statement_fits b s at (assert_that p x) e h k =
          let y = resolved (names_of s) Int x in
          made (stmt.Assert p y) (assert_that p (expression_of y)) (statement_of-Assert p y) (record { no_force = refl; fits = expression_fits Here here (names_of s) Int x k })
      statement_fits b s at (input p d) e h k = made (stmt.Input p d) (input p d) (statement_of-Input p d) (record { no_force = refl; fits = tt })
      statement_fits b s at (output p x) e h k =
          let y = resolved (names_of s) Int x in
          made (stmt.Output p y) (output p (expression_of y)) (statement_of-Output p y) (record { no_force = refl; fits = expression_fits Here here (names_of s) Int x k })
      statement_fits b s at (point p n) e h k = made (stmt.Point p n) (point p n) (statement_of-Point p n) (record { no_force = refl; fits = tt })
      statement_fits b s at (choice p d n) e h k = made (stmt.Choice p d n) (choice p d n) (statement_of-Choice p d n) (record { no_force = refl; fits = tt })
      statement_fits b s at (force p) e h k = absurd (true_false e)
      statement_fits b s at (pick p x y) e h k = pick_fits p s s.picks (picked_at at) x y k.2

      list_fits : (b : Block) (s : Scope) (at : Context) (ts : Statements) → s.forced ≡ None → AreTyped b s ts → ThroughoutAll (StatementHasNames Client) at ts
          → FitStatements May (spelled_statements parts Here (body_of (resolved_list s ts)))
      list_fits b s at none e h k = tt
      list_fits b s at (more t ts) e h k =
          let one : Fits (statement_of (resolved_statement s t)) = statement_fits b s at t (unforced b s t e h.0) h.0 k.0 in (
            one.fits,
            goes_on (statement_of (resolved_statement s t)) (body_of (resolved_list (scope_after s t) ts)) one.no_force
                (list_fits b (scope_after s t) (past at t) ts (still_unforced s.forced t e) h.1 k.1),
          )

    -- ---- a function's body, with its force

    abbrev items_of : Statements → List Item
    items_of ts = map Does (stmts_of ts)

    abbrev Runs : Statements → Type 0
    Runs ts = FitItems May (items_of (spelled_statements parts Here ts))

    -- a statement that isn't a force, and the rest
    quiet_runs : (t : Statement) (ts : Statements) → Fits t → Runs ts → Runs (more t ts)
    quiet_runs t ts h k =
        let first = spelled_statement parts Here t in
        let rest : FitItems May (items_of (spelled_statements parts (region_after Here t) ts)) =
        subst (λ (b : Bool). FitItems May (items_of (spelled_statements parts (if b then Behind else Here) ts))) (sym h.no_force) k in
        subst (FitsBefore May (items_of (spelled_statements parts (region_after Here t) ts))) (sym (statement_back first))
        (fits_before May (items_of (spelled_statements parts (region_after Here t) ts)) first h.fits rest)

    forced_runs : (p : Pos) (ts : Statements) → Runs (more (force p) ts)
    forced_runs p ts =
        let rest = spelled_statements parts Behind ts in
        subst (FitsBefore May (items_of rest)) (sym (statement_of-Force p)) (no_mark May (stmts_of rest))

    body_runs : (b : Block) (s : Scope) (at : Context) (ts : Statements) → AreTyped b s ts → ThroughoutAll (StatementHasNames Client) at ts → Runs (body_of (resolved_list s ts))
    body_runs b s at none h k = tt
    body_runs b s at (more (force p) ts) h k =
        let us = body_of (resolved_list (scope_after s (force p)) ts) in
        subst (λ (t : Statement). Runs (more t us)) (sym (statement_of-Force p)) (forced_runs p us)
    body_runs b s at (more t ts) h k =
        quiet_runs (statement_of (resolved_statement s t)) (body_of (resolved_list (scope_after s t) ts)) (statement_fits b s at t refl h.0 k.0)
        (body_runs b (scope_after s t) (past at t) ts h.1 k.1)

    -- ---- functions

    module _ (first second p : Program) (spec : Bytes) where
      abbrev own : List Func → List Func
      own fs = resolved_own parts first second p spec fs

      func_fits : (f : Func) → IsTypedFrom (start parts first second p spec f) f → ThroughoutAll (StatementHasNames Client) (start_of f) (body_of f.body)
          → FitItems May (map Does (spelled_func parts (resolved_from (start parts first second p spec f) f)).body)
      func_fits f h k =
          let s = with_params (start parts first second p spec f) f.params in
          body_runs (block_in s) (begun s (body_of f.body)) (start_of f) (body_of f.body) h.body k

      pub own_fit : (seen : Entries) (fs : List Func) → AreOwnFuncs parts first second p spec seen fs
          → All (λ (f : Func). ThroughoutAll (StatementHasNames Client) (start_of f) (body_of f.body)) fs → (x : Bytes)
          → FitItems May (map Does (func_in (own fs) x).body)
      own_fit seen [] h k x = tt
      own_fit seen (f ∷ fs) h k x = one (bytes_eq f.name x)
          (func_fits f h.1 (All-head (λ (f : Func). ThroughoutAll (StatementHasNames Client) (start_of f) (body_of f.body)) f fs k))
          (own_fit (with_func seen f) fs h.2 (All-tail (λ (f : Func). ThroughoutAll (StatementHasNames Client) (start_of f) (body_of f.body)) f fs k) x)
        where
          one : (b : Bool) → FitItems May (map Does (spelled_func parts (resolved_from (start parts first second p spec f) f)).body)
              → FitItems May (map Does (unwrap_or (func_named (own fs) x) no_func).body)
              → FitItems May (map Does (unwrap_or (if b then Some (spelled_func parts (resolved_from (start parts first second p spec f) f)) else func_named (own fs) x) no_func).body)
          one true mine others = mine
          one false mine others = others

-- ---- in a world

pub client_fits : (W : World) (first second : Program) (client : Option ClientProgram) → IsOptionalClient first second client → (x : Bytes)
    → FitItems (MayName W) (map Does (func_in (funcs_of_client client) x).body)
client_fits W first second None h x = tt
client_fits W first second (Some c) h x =
    subst (λ (p : Program). FitItems (MayName W) (map Does (func_in p.funcs x).body)) (sym h.resolved)
    (own_fit (MayName W) (part_of first second) (spelled_may W first second) (spelled_may W first second) first second h.source c.spec [] h.source.funcs
    h.client.funcs (words Client h.source h.written).bodies x)
