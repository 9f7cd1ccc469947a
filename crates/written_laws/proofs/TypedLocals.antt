-- No parameter and no local of a typed program has the name of a global.
use Rattle.std.specs.Prelude.{⊤, ◌⊎◌, ◌≡◌, ◌<◌, ℕ, zero, suc, Bool, true, false, cond, bytes_eq, List, [], ◌∷◌, ◌++◌, All, length, slice_index_or, Option, Some, None}
use Rattle.std.proofs.Common.{refl, sym, ap, subst, inl, inr, arith}
use Rattle.std.specs.List.{Contains}
use Rattle.std.specs.Option.{is_some, option_or}
use Rattle.std.specs.Map.{lookup}
use Rattle.std.proofs.lemmas.List.Elements.{All-nil, All-cons}
use Rattle.std.proofs.lemmas.Slice.Eq.{bytes_eq-Decides}
use Rattle.c_lang.specs.Names.{Bytes}
use Rattle.c_lang.specs.Programs.{global_named}
use Rattle.c_lang.specs.Trees.{Statement, Statements, skip, set, set_element, call, call_by, if_else, while_loop, break_loop, return_with, assert_that, input, output, point, choice, force, pick, none, more}
use Rattle.c_lang.specs.declared.unit.Unit.{Unit}
use Rattle.c_lang.specs.declared.stmt.Kind.{Kind}
use Rattle.c_lang.specs.declared.stmt.Dest.{Dest}
use Rattle.c_lang.specs.declared.stmt.Dest.TheVariants.{Nowhere, Into, Fresh}
use Rattle.c_lang.specs.declared.program.GlobalVar.{GlobalVar}
use Rattle.c_lang.specs.declared.program.Func.{Func}
use Rattle.c_lang.specs.declared.program.Program.{Program}
use Rattle.c_types.specs.Names.{Means, Entries, found, added}
use Rattle.c_types.specs.Scopes.{Scope, Block, in_scope}
use Rattle.c_types.specs.Statements.{scope_after, block_in, begun, entered, after_block}
use Rattle.c_types.specs.Functions.{scope_of, with_param, body_scope}
use Rattle.c_types.specs.Programs.{with_global, with_globals, with_func, with_funcs, outside_of}
use Rattle.c_types.specs.Typing.{IsDest, IsTypedStatement, AreTyped}
use Rattle.c_types.specs.Types.{AreParams, IsTypedFunc, AreTypedFuncs, Types}
use Rattle.c_types.proofs.FunctionLaws.{Sees, sees_after, sees_entered, sees_begun, sees_after_block, sees_params, sees_outside, no_force, no_pick}
use Rattle.written_laws.specs.Walk.{Context, with_dest, told, told_all, in_loop, past, past_all, start_of, Throughout, ThroughoutAll, InBodies}
use Rattle.c_types.specs.Bodies.{body_of}
use Rattle.written_laws.specs.Destinations.{OfResult}
use Rattle.written_laws.proofs.Scopes.{same_bytes, names_in}

-- ---- look-ups that find nothing

module _ (test : Bytes → Bool) where
  nothing_before : (es fs : Entries) → lookup test (es ++ fs) ≡ None → lookup test es ≡ None
  nothing_before [] fs h = refl
  nothing_before (e ∷ es) fs h = by_test (test e.0) (nothing_before es fs) h
    where
      by_test : (b : Bool) → (lookup test (es ++ fs) ≡ None → lookup test es ≡ None) → cond b (Some e.1) (lookup test (es ++ fs)) ≡ None → cond b (Some e.1) (lookup test es) ≡ None
      by_test true rest h = absurd cc
      by_test false rest h = rest h

  nothing_last : (es : Entries) (x : Bytes) (m : Means) → lookup test (es ++ (x, m) ∷ []) ≡ None → test x ≡ false
  nothing_last [] x m h = by_test (test x) refl h
    where
      by_test : (b : Bool) → test x ≡ b → cond b (Some m) None ≡ None → test x ≡ false
      by_test true is h = absurd cc
      by_test false is h = is
  nothing_last (e ∷ es) x m h = by_test (test e.0) (nothing_last es x m) h
    where
      by_test : (b : Bool) → (lookup test (es ++ (x, m) ∷ []) ≡ None → test x ≡ false) → cond b (Some e.1) (lookup test (es ++ (x, m) ∷ [])) ≡ None → test x ≡ false
      by_test true rest h = absurd cc
      by_test false rest h = rest h

not_before : (es : Entries) (y : Bytes) (m : Means) (x : Bytes) → found (added es y m) x ≡ None → found es x ≡ None
not_before es y m x h = by_test (is_some (found es y)) h
  where
    by_test : (b : Bool) → found (cond b es (es ++ (y, m) ∷ [])) x ≡ None → found es x ≡ None
    by_test true h = h
    by_test false h = nothing_before (bytes_eq x) es ((y, m) ∷ []) h

no_self : (x : Bytes) → bytes_eq x x ≡ false → ⊥
no_self x h = let same = (bytes_eq-Decides x x).1 refl in absurd cc

there_then : (es : Entries) (x : Bytes) (m : Means) → found (added es x m) x ≡ None → ⊥
there_then es x m h = by_test (is_some (found es x)) refl h
  where
    by_test : (b : Bool) → is_some (found es x) ≡ b → found (cond b es (es ++ (x, m) ∷ [])) x ≡ None → ⊥
    by_test true is h = let none : is_some (found es x) ≡ false = ap is_some h in absurd cc
    by_test false is h = no_self x (nothing_last (bytes_eq x) es x m h)

globals_before : (gs : List GlobalVar) (es : Entries) (x : Bytes) → found (with_globals es gs) x ≡ None → found es x ≡ None
globals_before [] es x h = h
globals_before (g ∷ gs) es x h = not_before es g.name _ x (globals_before gs (with_global es g) x h)

no_global : (gs : List GlobalVar) (es : Entries) (x : Bytes) → found (with_globals es gs) x ≡ None → global_named gs x ≡ None
no_global [] es x h = refl
no_global (g ∷ gs) es x h = by_test (bytes_eq g.name x) refl (globals_before gs (with_global es g) x h) (no_global gs (with_global es g) x h)
  where
    by_test : (b : Bool) → bytes_eq g.name x ≡ b → found (with_global es g) x ≡ None → global_named gs x ≡ None → cond b (Some g) (global_named gs x) ≡ None
    by_test true is here rest = absurd (there_then es g.name _ (subst (λ (y : Bytes). found (with_global es g) y ≡ None) (sym (same_bytes g.name x is)) here))
    by_test false is here rest = rest

funcs_before : (fs : List Func) (es : Entries) (x : Bytes) → found (with_funcs es fs) x ≡ None → found es x ≡ None
funcs_before [] es x h = h
funcs_before (f ∷ fs) es x h = not_before es f.name _ x (funcs_before fs (with_func es f) x h)

pub outside_is_global : (gs : List GlobalVar) (fs : List Func) (x : Bytes) → found (outside_of gs fs) x ≡ None → global_named gs x ≡ None
outside_is_global gs fs x h = no_global gs [] x (funcs_before fs (with_globals [] gs) x h)

-- ---- what is declared is new

free_outside : (scope : Scope) (x : Bytes) → in_scope scope x ≡ None → found scope.outside x ≡ None
free_outside scope x h = by_case (found scope.outside x) h
  where
    by_case : (o : Option Means) → option_or o (found scope.locals x) ≡ None → o ≡ None
    by_case None h = refl
    by_case (Some m) h = absurd cc

pub one_of : (x y : Bytes) (xs : List Bytes) → Contains (x ∷ xs) y → (x ≡ y) ⊎ Contains xs y
one_of x y xs h = by_place h.0 h.1 h.2
  where
    by_place : (k : ℕ) → k < length (x ∷ xs) → slice_index_or (x ∷ xs) k y ≡ y → (x ≡ y) ⊎ Contains xs y
    by_place zero lt is = inl is
    by_place (suc k) lt is = inr (k, omega (arith, lt), is)

-- none of the names is visible in the whole unit
abbrev pub AreNew : Entries → List Bytes → Type 0
AreNew outside names = (x : Bytes) → Contains names x → found outside x ≡ None

none_new : (outside : Entries) → AreNew outside []
none_new outside x h = absurd (let lt = h.1 in omega (arith, lt))

one_new : (outside : Entries) (x : Bytes) (names : List Bytes) → found outside x ≡ None → AreNew outside names → AreNew outside (x ∷ names)
one_new outside x names is h y there = elim (one_of x y names there) [
  | inl same ↦ subst (λ (z : Bytes). found outside z ≡ None) same is
  | inr old ↦ h y old
]

abbrev pub IsNew : Entries → Dest → Type 0
IsNew outside Nowhere = ⊤
IsNew outside (Into x) = ⊤
IsNew outside (Fresh k x) = found outside x ≡ None

-- what typing says of a statement and of what is declared before it
pub record Apart (outside : Entries) (at : Context) (s : Statement) : Type 0 where
  pub free : at.in_pick ≡ false
  pub declared : AreNew outside at.declared
  pub result : OfResult (IsNew outside) s

module _ (outside : Entries) where
  dest_new : (block : Block) (scope : Scope) (d : Dest) → Sees outside scope → IsDest block scope d → IsNew outside d
  dest_new block scope Nowhere e h = tt
  dest_new block scope (Into x) e h = tt
  dest_new block scope (Fresh k x) e h = subst (λ (es : Entries). found es x ≡ None) e.here (free_outside scope x h.0.free)

  dest_names : (names : List Bytes) (d : Dest) → AreNew outside names → IsNew outside d → AreNew outside (with_dest names d)
  dest_names names Nowhere h k = h
  dest_names names (Into x) h k = h
  dest_names names (Fresh k' x) h k = one_new outside x names k h

  record Walked (at : Context) (s : Statement) : Type 0 where
    says : Throughout (Apart outside) at s
    names : AreNew outside (told at.declared s)

  record WalkedAll (at : Context) (ss : Statements) : Type 0 where
    says : ThroughoutAll (Apart outside) at ss
    names : AreNew outside (told_all at.declared ss)

  mutual
    statement_apart : (block : Block) (scope : Scope) (at : Context) (s : Statement) → Sees outside scope → at.in_pick ≡ false → AreNew outside at.declared → IsTypedStatement block scope s → Walked at s
    statement_apart block scope at (skip p) e free new h = record { says = record { free = free; declared = new; result = tt }; names = new }
    statement_apart block scope at (set p d a) e free new h =
        record { says = record { free = free; declared = new; result = tt }; names = dest_names at.declared d new (dest_new block scope d e h.0) }
    statement_apart block scope at (set_element p x i a) e free new h = record { says = record { free = free; declared = new; result = tt }; names = new }
    statement_apart block scope at (call p d f es) e free new h =
        let k = dest_new block scope d e h.0 in record { says = record { free = free; declared = new; result = k }; names = dest_names at.declared d new k }
    statement_apart block scope at (call_by p d x es) e free new h =
        let k = dest_new block scope d e h.0 in record { says = record { free = free; declared = new; result = k }; names = dest_names at.declared d new k }
    statement_apart block scope at (if_else p a xs ys) e free new h =
        let first = all_apart (block_in scope) (entered scope xs) at xs (sees_entered outside scope xs e) free new h.1 in
        let second = all_apart (block_in scope) (entered (after_block scope xs) ys) (past_all at xs) ys
        (sees_entered outside (after_block scope xs) ys (sees_after_block outside scope xs e)) free first.names h.2 in
        record { says = (record { free = free; declared = new; result = tt }, first.says, second.says); names = second.names }
    statement_apart block scope at (while_loop p a xs) e free new h =
        let body = all_apart (block_in scope) (entered scope xs) (in_loop at) xs (sees_entered outside scope xs e) free new h.1 in
        record { says = (record { free = free; declared = new; result = tt }, body.says); names = body.names }
    statement_apart block scope at (break_loop p) e free new h = record { says = record { free = free; declared = new; result = tt }; names = new }
    statement_apart block scope at (return_with p a) e free new h = record { says = record { free = free; declared = new; result = tt }; names = new }
    statement_apart block scope at (assert_that p a) e free new h = record { says = record { free = free; declared = new; result = tt }; names = new }
    statement_apart block scope at (input p d) e free new h =
        let k = dest_new block scope d e h.0 in record { says = record { free = free; declared = new; result = k }; names = dest_names at.declared d new k }
    statement_apart block scope at (output p a) e free new h = record { says = record { free = free; declared = new; result = tt }; names = new }
    statement_apart block scope at (point p k) e free new h = record { says = record { free = free; declared = new; result = tt }; names = new }
    statement_apart block scope at (choice p d n) e free new h =
        let k = dest_new block scope d e h.0 in record { says = record { free = free; declared = new; result = k }; names = dest_names at.declared d new k }
    statement_apart block scope at (force p) e free new h = absurd (no_force scope e.plain h)
    statement_apart block scope at (pick p a b) e free new h = absurd (no_pick block scope a b e.plain h)

    all_apart : (block : Block) (scope : Scope) (at : Context) (ss : Statements) → Sees outside scope → at.in_pick ≡ false → AreNew outside at.declared → AreTyped block scope ss → WalkedAll at ss
    all_apart block scope at none e free new h = record { says = tt; names = new }
    all_apart block scope at (more s ss) e free new h =
        let first = statement_apart block scope at s e free new h.0 in
        let rest = all_apart block (scope_after scope s) (past at s) ss (sees_after outside scope s e) free first.names h.1 in
        record { says = (first.says, rest.says); names = rest.names }

  params_new : (scope : Scope) (qs : List (Kind × Bytes)) → Sees outside scope → AreParams scope qs → AreNew outside (names_in qs)
  params_new scope [] e h = none_new outside
  params_new scope (q ∷ qs) e h =
      one_new outside q.1 (names_in qs) (subst (λ (es : Entries). found es q.1 ≡ None) e.here (free_outside scope q.1 h.0.free)) (params_new (with_param scope q) qs (record { here = e.here; plain = e.plain }) h.1)

  func_apart : (f : Func) → IsTypedFunc outside false f → ThroughoutAll (Apart outside) (start_of f) (body_of f.body)
  func_apart f h =
      let start = scope_of outside false f.gives in
      let scope = body_scope outside false f in
      (all_apart (block_in scope) (begun scope (body_of f.body)) (start_of f) (body_of f.body)
      (sees_begun outside scope (body_of f.body) (sees_params outside start f.params (sees_outside outside false f.gives))) refl
      (params_new start f.params (sees_outside outside false f.gives) h.params) h.body).says

  funcs_apart : (seen : Entries) (fs : List Func) → AreTypedFuncs outside false seen fs → All (λ (f : Func). ThroughoutAll (Apart outside) (start_of f) (body_of f.body)) fs
  funcs_apart seen [] h = All-nil _
  funcs_apart seen (f ∷ fs) h = All-cons (λ (f : Func). ThroughoutAll (Apart outside) (start_of f) (body_of f.body)) f fs (func_apart f h.1) (funcs_apart (with_func seen f) fs h.2)

-- throughout the bodies of a typed program
pub typed_apart : (u : Unit) (p : Program) → Types u p → InBodies (Apart (outside_of p.globals p.funcs)) p
typed_apart u p h = funcs_apart (outside_of p.globals p.funcs) (with_globals [] p.globals) p.funcs h.funcs
