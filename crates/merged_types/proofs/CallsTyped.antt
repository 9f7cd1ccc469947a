-- The functions of a merged program that no source has are typed and in resolved form.
use Rattle.std.proofs.Common.{◌≡◌, ◌≤◌, ◌<◌, ◌+◌, ◌^◌, ℕ, cond, Bool, true, false, ◌&&◌, List, [], ◌∷◌, ◌++◌, map, length, Option, Some, None, refl, sym, ap, ap₂, ◌∙◌, subst, arith}
use Rattle.std.specs.Prelude.{if◌then◌else◌}
use Rattle.std.specs.Option.{option_or}
use Rattle.c_lang.specs.Limits.{parameter_limit}
use Rattle.c_lang.specs.Names.{Bytes}
use Rattle.c_lang.specs.Trees.{Expression, variable, call, none, more, stmt_of, stmts_of}
use Rattle.c_lang.specs.declared.unit.Pos.{Pos}
use Rattle.c_lang.specs.declared.stmt.Dest.TheVariants.{Nowhere, Fresh}
use Rattle.c_lang.specs.declared.stmt.Kind.{Kind}
use Rattle.c_lang.specs.declared.stmt.Kind.TheVariants.{Int}
use Rattle.c_lang.specs.declared.program.Func.{Func}
use Rattle.c_types.specs.Names.{Means, Cell, Code, Names, Entries, found, added, meant}
use Rattle.c_types.specs.Scopes.{Scope, names_of, is_another, names_version}
use Rattle.c_types.specs.Endings.{can_end}
use Rattle.c_types.specs.Statements.{scope_after, block_in, begun, entered, after_block}
use Rattle.c_types.specs.Functions.{kinds_of, scope_of, with_params}
use Rattle.c_types.specs.Typing.{IsFresh}
use Rattle.c_types.specs.Types.{AreNarrow, AreParams}
use Rattle.version_names.specs.Merged.{merged_name}
use Rattle.version_names.specs.declared.part.Origin.TheVariants as prefix
use Rattle.merged_program.specs.Names.{now_name, result_name, parameter_name}
use Rattle.merged_program.specs.Statements.{hand, wrapping, return_zero}
use Rattle.merged_program.specs.Programs.{parameters_from, wrapper, starting}
use Rattle.merged_program.proofs.MergedNames.{by_bool, bytes_eq-refl}
use Rattle.merged_program.proofs.AddedNames.{one, found_added}
use Rattle.merged_types.proofs.EntryLaws.{absent_from, added_behind}
use Rattle.resolved_types.proofs.ResolvedTyping.{IsVariable, IsResolvedCall, IsResolvedReturn, AreResolvedArguments, AreResolved}
use Rattle.merged_types.proofs.AskingTyped.{outside_means, set_test}
use Rattle.merged_types.proofs.ResolvedFuncs.{IsResolvedFunc}
use Rattle.merged_types.proofs.MergedFuncs.{joined, zero_at, zero_behind}
use Rattle.merged_types.proofs.UpdateNames.{parameters_apart}
use Rattle.merged_types.proofs.VersionNames.{kinds_from}

abbrev variables : List (Kind × Bytes) → List Expression
variables ps = map (λ (q : Kind × Bytes). variable q.1) ps

-- ---- a call whose result is handed on

module _ (t : Scope) (apart : found t.outside result_name ≡ None) (local : found t.locals result_name ≡ None)
    (told : is_another (found t.told result_name) Int ≡ false) (ahead : found t.ahead result_name ≡ None) (code : t.xform ≡ false)
    (p : Pos) (f : Bytes) (ks : List Kind) (v : Option ℕ) (ps : List (Kind × Bytes))
    (args : (u : Scope) → u.outside ≡ t.outside → u.locals ≡ t.locals → AreResolvedArguments (names_of u) ks (variables ps)) where
  handed_value : found t.outside f ≡ Some (Code ks true v None) → t.gives ≡ true → AreResolved (block_in t) (entered t (hand p true f ps)) (hand p true f ps)
  handed_value is gives =
      let u = entered t (hand p true f ps) in
      let w = scope_after u (call p (Fresh Int result_name) f (variables ps)) in
      let fresh : IsFresh (block_in t) u Int result_name = record {
        new = absent_from (length t.locals) t.locals result_name local;
        alike = told;
        free = ap₂ option_or apart local;
        kept = added_behind t.ahead result_name (Cell Int) ahead;
        own = ap (λ (y : Bool). y && names_version result_name) code;
      } in
      let means : names_of w result_name ≡ Cell Int =
      ap meant (ap₂ option_or apart (found_added t.locals result_name result_name (Cell Int) ∙ ap (λ (o : Option Means). option_or o (one result_name result_name (Cell Int))) local)) in (
        ((fresh, tt), subst (λ (m : Means). IsResolvedCall u m (Fresh Int result_name) (variables ps)) (sym (outside_means u f (Code ks true v None) is)) (refl, (refl, refl), args u refl refl)),
        (subst (λ (y : Bool). IsResolvedReturn (names_of w) y (Some (variable result_name))) (sym gives) (subst (IsVariable Int) (sym means) refl), tt),
      )

  handed_nothing : found t.outside f ≡ Some (Code ks false v None) → AreResolved (block_in t) (entered t (hand p false f ps)) (hand p false f ps)
  handed_nothing is =
      let u = entered t (hand p false f ps) in
      ((tt, subst (λ (m : Means). IsResolvedCall u m Nowhere (variables ps)) (sym (outside_means u f (Code ks false v None) is)) (refl, tt, args u refl refl)), tt)

  pub handed : (g : Bool) → found t.outside f ≡ Some (Code ks g v None) → t.gives ≡ g → AreResolved (block_in t) (entered t (hand p g f ps)) (hand p g f ps)
  handed true is gives = handed_value is gives
  handed false is gives = handed_nothing is

-- ---- parameters

module _ (outside : Entries) (gives : Bool) (free : (n : ℕ) → n < 2 ^ 64 → found outside (parameter_name n) ≡ None) where
  abbrev scope : Entries → Scope
  scope locals = record { outside = outside; forced = None; picks = None; locals = locals; told = []; ahead = []; gives = gives; xform = false }

  -- the locals with these parameters
  abbrev with_all : Entries → List (Kind × Bytes) → Entries
  with_all locals [] = locals
  with_all locals (p ∷ ps) = with_all (added locals p.1 (Cell p.0)) ps

  scope_with : (locals : Entries) (ps : List (Kind × Bytes)) → with_params (scope locals) ps ≡ scope (with_all locals ps)
  scope_with locals [] = refl
  scope_with locals (p ∷ ps) = scope_with (added locals p.1 (Cell p.0)) ps

  -- no parameter from this number on is there
  abbrev AreFree : ℕ → Entries → Type 0
  AreFree n locals = (m : ℕ) → n ≤ m → m < 2 ^ 64 → found locals (parameter_name m) ≡ None

  free_next : (n : ℕ) (k : Kind) (locals : Entries) → AreFree n locals → AreFree (n + 1) (added locals (parameter_name n) (Cell k))
  free_next n k locals h m le small =
      found_added locals (parameter_name m) (parameter_name n) (Cell k)
      ∙ ap₂ (λ (o : Option Means) (b : Bool). option_or o (cond b (Some (Cell k)) None)) (h m (omega (arith, le)) small) (parameters_apart n m (omega (arith, le)) small)

  params_free : (n : ℕ) (ks : List Kind) (locals : Entries) → n + length ks < 2 ^ 64 → AreFree n locals → AreParams (scope locals) (parameters_from n ks)
  params_free n [] locals small h = tt
  params_free n (k ∷ ks) locals small h =
      let here = h n (omega arith) (omega (arith, small)) in (
        record {
          new = absent_from 0 locals (parameter_name n) here;
          alike = refl;
          free = ap₂ option_or (free n (omega (arith, small))) here;
          kept = refl;
          own = refl;
        },
        params_free (n + 1) ks (added locals (parameter_name n) (Cell k)) (omega (arith, small)) (free_next n k locals h),
      )

  kept_there : (locals : Entries) (ps : List (Kind × Bytes)) (x : Bytes) (m : Means) → found locals x ≡ Some m → found (with_all locals ps) x ≡ Some m
  kept_there locals [] x m h = h
  kept_there locals (p ∷ ps) x m h =
      kept_there (added locals p.1 (Cell p.0)) ps x m
      (found_added locals x p.1 (Cell p.0) ∙ ap (λ (o : Option Means). option_or o (one x p.1 (Cell p.0))) h)

  arguments : (names : Names) (n : ℕ) (ks : List Kind) (locals : Entries) → n + length ks < 2 ^ 64 → AreFree n locals
      → ((x : Bytes) (m : Means) → found outside x ≡ None → found (with_all locals (parameters_from n ks)) x ≡ Some m → names x ≡ m)
      → AreResolvedArguments names ks (variables (parameters_from n ks))
  arguments names n [] locals small h look = tt
  arguments names n (k ∷ ks) locals small h look =
      let x = parameter_name n in
      let there : found (added locals x (Cell k)) x ≡ Some (Cell k) =
      found_added locals x x (Cell k) ∙ ap₂ (λ (o : Option Means) (b : Bool). option_or o (cond b (Some (Cell k)) None)) (h n (omega arith) (omega (arith, small))) (bytes_eq-refl x) in
      let means : names x ≡ Cell k = look x (Cell k) (free n (omega (arith, small))) (kept_there (added locals x (Cell k)) (parameters_from (n + 1) ks) x (Cell k) there) in (
        subst (IsVariable k) (sym means) refl,
        arguments names (n + 1) ks (added locals x (Cell k)) (omega (arith, small)) (free_next n k locals h) look,
      )

  result_absent : (n : ℕ) (ks : List Kind) (locals : Entries) → found locals result_name ≡ None → found (with_all locals (parameters_from n ks)) result_name ≡ None
  result_absent n [] locals h = h
  result_absent n (k ∷ ks) locals h =
      result_absent (n + 1) ks (added locals (parameter_name n) (Cell k))
      (found_added locals result_name (parameter_name n) (Cell k) ∙ ap (λ (o : Option Means). option_or o None) h)

  -- ---- wrappers

  module _ (now : found outside now_name ≡ Some (Cell Int)) (result : found outside result_name ≡ None) where
    wrapper_body : (p : Pos) (ks : List Kind) (new old : Bytes) (v w : Option ℕ) → length ks ≤ parameter_limit
        → found outside new ≡ Some (Code ks gives v None) → found outside old ≡ Some (Code ks gives w None)
        → let s = scope (with_all [] (parameters_from 1 ks)) in
        AreResolved (block_in s) s (more (wrapping p gives new old (parameters_from 1 ks)) none)
    wrapper_body p ks new old v w few new_is old_is =
        let ps = parameters_from 1 ks in
        let locals = with_all [] ps in
        let s = scope locals in
        let t = after_block s (hand p gives new ps) in
        let absent = result_absent 1 ks [] refl in
        let args : (u : Scope) → u.outside ≡ outside → u.locals ≡ locals → AreResolvedArguments (names_of u) ks (variables ps) =
        λ u out loc. arguments (names_of u) 1 ks [] (omega (arith, few)) (λ m le small. refl)
        (λ x m no_outside there.
        ap₂ (λ (a b : Entries). meant (option_or (found a x) (found b x))) out loc ∙ ap (λ (o : Option Means). meant (option_or o (found locals x))) no_outside ∙ ap meant there) in (
          (
            set_test (names_of s) now_name (outside_means s now_name (Cell Int) now),
            handed s result absent refl refl refl p new ks v ps args gives new_is refl,
            handed t result absent (told_same gives p new ps) refl refl p old ks w ps args gives old_is refl,
          ),
          tt,
        )
      where
        told_same : (g : Bool) (p : Pos) (f : Bytes) (ps : List (Kind × Bytes)) → is_another (found (after_block (scope []) (hand p g f ps)).told result_name) Int ≡ false
        told_same true p f ps = refl
        told_same false p f ps = refl

    wrapping_ends : (p : Pos) (new old : Bytes) (ps : List (Kind × Bytes)) → gives ≡ true → can_end (more (wrapping p gives new old ps) none) ≡ false
    wrapping_ends p new old ps g = ap (λ (y : Bool). can_end (more (wrapping p y new old ps) none)) g

    pub wrapper_resolved : (d : Func) → d.gives ≡ gives → (v w : Option ℕ) → length (kinds_of d.params) ≤ parameter_limit → AreNarrow (kinds_of d.params)
        → found outside (merged_name prefix.New d.name) ≡ Some (Code (kinds_of d.params) gives v None)
        → found outside (merged_name prefix.Old d.name) ≡ Some (Code (kinds_of d.params) gives w None)
        → IsResolvedFunc outside false (record (wrapper d) { gives = gives; body = stmts_of (more (wrapping d.pos gives (merged_name prefix.New d.name) (merged_name prefix.Old d.name) (wrapper d).params) none) })
    wrapper_resolved d e v w few narrow new_is old_is =
        let ks = kinds_of d.params in
        record {
          params = params_free 1 ks [] (omega (arith, few)) (λ m le small. refl);
          few = subst (λ (ls : List Kind). length ls ≤ parameter_limit) (sym (kinds_from 1 ks)) few;
          narrow = subst AreNarrow (sym (kinds_from 1 ks)) narrow;
          tree = more (wrapping d.pos gives (merged_name prefix.New d.name) (merged_name prefix.Old d.name) (parameters_from 1 ks)) none;
          built = refl;
          gives = λ g m. wrapping_ends d.pos (merged_name prefix.New d.name) (merged_name prefix.Old d.name) (parameters_from 1 ks) g;
          body = subst (λ (s : Scope).
              let whole = more (wrapping d.pos gives (merged_name prefix.New d.name) (merged_name prefix.Old d.name) (parameters_from 1 ks)) none in
              AreResolved (block_in s) (begun s whole) whole)
              (sym (scope_with [] (parameters_from 1 ks)))
              (wrapper_body d.pos ks (merged_name prefix.New d.name) (merged_name prefix.Old d.name) v w few new_is old_is);
        }

-- ---- the function with which a run begins

module _ (outside : Entries) (result : found outside result_name ≡ None) where
  starting_value : (name : Bytes) (f : Func) (v : Option ℕ) → f.gives ≡ true → found outside name ≡ Some (Code [] true v None) → IsResolvedFunc outside false (starting name f)
  starting_value name f v gives is =
      let s = scope_of outside false true in
      record {
        params = tt;
        few = omega arith;
        narrow = tt;
        tree = hand f.pos true name [];
        built = ap (λ (g : Bool). stmts_of (hand f.pos g name []) ++ (if g then [] else stmt_of (return_zero f.pos) ∷ [])) gives;
        gives = λ g m. absurd cc;
        body = handed s result refl refl refl refl f.pos name [] v [] (λ u out loc. tt) true is refl;
      }

  starting_nothing : (name : Bytes) (f : Func) (v : Option ℕ) → f.gives ≡ false → found outside name ≡ Some (Code [] false v None) → IsResolvedFunc outside false (starting name f)
  starting_nothing name f v gives is =
      let s = scope_of outside false true in
      let called = hand f.pos false name [] in
      record {
        params = tt;
        few = omega arith;
        narrow = tt;
        tree = joined called (zero_at f.pos);
        built = ap (λ (g : Bool). stmts_of (hand f.pos g name []) ++ (if g then [] else stmt_of (return_zero f.pos) ∷ [])) gives;
        gives = λ g m. absurd cc;
        body = zero_behind (block_in s) (entered s called) called f.pos refl
            (handed_nothing s result refl refl refl refl f.pos name [] v [] (λ u out loc. tt) is);
      }

  pub starting_resolved : (name : Bytes) (f : Func) (v : Option ℕ) → found outside name ≡ Some (Code [] f.gives v None) → IsResolvedFunc outside false (starting name f)
  starting_resolved name f v is = by_bool f.gives
      (λ e. starting_value name f v e (is ∙ ap (λ (g : Bool). Some (Code [] g v None)) e))
      (λ e. starting_nothing name f v e (is ∙ ap (λ (g : Bool). Some (Code [] g v None)) e))

-- with what the merged program has
pub wrapper_typed : (outside : Entries) → ((n : ℕ) → n < 2 ^ 64 → found outside (parameter_name n) ≡ None) → found outside now_name ≡ Some (Cell Int) → found outside result_name ≡ None
    → (d : Func) (v w : Option ℕ) → length (kinds_of d.params) ≤ parameter_limit → AreNarrow (kinds_of d.params)
    → found outside (merged_name prefix.New d.name) ≡ Some (Code (kinds_of d.params) d.gives v None)
    → found outside (merged_name prefix.Old d.name) ≡ Some (Code (kinds_of d.params) d.gives w None)
    → IsResolvedFunc outside false (wrapper d)
wrapper_typed outside free now result d v w few narrow new_is old_is = wrapper_resolved outside d.gives free now result d refl v w few narrow new_is old_is
