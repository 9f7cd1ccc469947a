-- A program is typed exactly where it has no refusal.
use Rattle.std.proofs.Common.{◌≡◌, ◌≤◌, ◌-◌, ℕ, nat_lt, Bool, true, false, not, ◌&&◌, ◌||◌, List, [], ◌∷◌, length, Option, Some, None, refl, ap₂, arith, sym, ◌∙◌}
use Rattle.std.specs.Prelude.{if◌then◌else◌}
use Rattle.std.specs.Option.{is_some}
use Rattle.std.proofs.lemmas.Bool.Decides.{nat_tests}
use Rattle.c_lang.specs.Names.{Bytes}
use Rattle.c_types.specs.Bodies.{body_of}
use Rattle.c_lang.specs.declared.unit.Unit.{Unit}
use Rattle.c_lang.specs.declared.refusal.Refusal.{Refusal}
use Rattle.c_lang.specs.declared.stmt.Kind.{Kind}
use Rattle.c_lang.specs.declared.stmt.Kind.TheVariants.{Int, Fp}
use Rattle.c_lang.specs.declared.program.Shape.{Shape}
use Rattle.c_lang.specs.declared.program.Shape.TheVariants as shape
use Rattle.c_lang.specs.declared.program.GlobalVar.{GlobalVar}
use Rattle.c_lang.specs.declared.program.Proto.{Proto}
use Rattle.c_lang.specs.declared.program.Func.{Func}
use Rattle.c_lang.specs.declared.program.Program.{Program}
use Rattle.c_types.specs.Names.{Means, Cell, Array, Code, Refused, Entries, found, meant, smaller}
use Rattle.c_types.specs.Scopes.{Scope, wrong_fresh}
use Rattle.c_lang.specs.Kinds.{same_kind, same_kinds, same_result}
use Rattle.c_types.specs.Checks.{at_place, first}
use Rattle.c_types.specs.Endings.{can_end}
use Rattle.c_types.specs.Statements.{block_in, begun, refusal_of_body}
use Rattle.c_types.specs.Functions.{kinds_of, is_wide, any_wide, wrong_params_count, scope_of, with_param, params_block, wrong_params, is_main, wrong_end, wrong_head, refusal_of_func, with_params, refusal_from}
use Rattle.c_types.specs.Programs.{with_global, with_globals, with_func, with_funcs, outside_of, wrong_again, wrong_initial, early_number, wrong_shape, cells_of, wrong_cells, wrong_global, refusal_of_globals, wrong_match, wrong_proto, refusal_of_protos, refusal_of_funcs, has_main, wrong_main, first_early, first_line, refusal_of_declarations, refusal_of_whole, first_refusal}
use Rattle.c_lang.specs.Limits.{cell_limit, parameter_limit}
use Rattle.c_lang.specs.Refusals as numbers
use Rattle.c_types.specs.Typing.{IsNarrow}
use Rattle.c_types.specs.Types.{IsInitial, IsHeld, IsTypedGlobal, AreTypedGlobals, AreNarrow, IsMatch, AreTypedProtos, AreParams, IsTypedFunc, AreTypedFuncs, Types, IsTypedFrom}
use Rattle.c_types.proofs.Combined.{some_none, both_none, smaller_none, first_none, none_first, at_none, none_at, test_false, test_true, not_some, either_false, both_true, same_sound, same_itself}
use Rattle.c_types.proofs.ExpressionsTyped.{function_sound, function_complete}
use Rattle.c_types.proofs.StatementsTyped.{narrow_sound, narrow_complete, fresh_sound, fresh_complete, typed_all, none_refused}

-- ---- globals

again_sound : (seen : Entries) (x : Bytes) → wrong_again seen x ≡ None → found seen x ≡ None
again_sound seen x h = not_some (found seen x) (test_false (is_some (found seen x)) numbers.duplicate h)

again_complete : (seen : Entries) (x : Bytes) → found seen x ≡ None → wrong_again seen x ≡ None
again_complete seen x h = rw h refl

initial_sound : (outside : Entries) (s : Shape) → wrong_initial outside s ≡ None → IsInitial outside s
initial_sound outside (shape.Int z) h = tt
initial_sound outside (shape.Arr zs) h = tt
initial_sound outside (shape.Fp n None) h = tt
initial_sound outside (shape.Fp n (Some f)) h = function_sound (Fp n) (meant (found outside f)) h

initial_complete : (outside : Entries) (s : Shape) → IsInitial outside s → wrong_initial outside s ≡ None
initial_complete outside (shape.Int z) h = refl
initial_complete outside (shape.Arr zs) h = refl
initial_complete outside (shape.Fp n None) h = refl
initial_complete outside (shape.Fp n (Some f)) h = function_complete (Fp n) (meant (found outside f)) h

cells_sound : (room cells : ℕ) → wrong_cells room cells ≡ None → cells ≤ room
cells_sound room cells h = let e = test_false (nat_lt room cells) numbers.past_limit h in grind (arith, nat_tests, e)

cells_complete : (room cells : ℕ) → cells ≤ room → wrong_cells room cells ≡ None
cells_complete room cells h = let e : nat_lt room cells ≡ false = grind (arith, nat_tests, h) in rw e refl

held_sound : (early : List Refusal) (s : Shape) → wrong_shape early s ≡ None → IsHeld s
held_sound early (shape.Int z) h = tt
held_sound early (shape.Arr []) h = some_none (early_number early) h
held_sound early (shape.Arr (z ∷ zs)) h = cells_sound 65536 (length (z ∷ zs)) h
held_sound early (shape.Fp n f) h = narrow_sound (Fp n) h

held_complete : (early : List Refusal) (s : Shape) → IsHeld s → wrong_shape early s ≡ None
held_complete early (shape.Int z) h = refl
held_complete early (shape.Arr []) h = absurd h
held_complete early (shape.Arr (z ∷ zs)) h = cells_complete 65536 (length (z ∷ zs)) h
held_complete early (shape.Fp n f) h = narrow_complete (Fp n) h

global_sound : (early : List Refusal) (outside seen : Entries) (room : ℕ) (g : GlobalVar) → wrong_global early outside seen room g ≡ None
    → IsTypedGlobal outside seen room g
global_sound early outside seen room g h =
    let size = smaller (wrong_shape early g.shape) (wrong_cells room (cells_of g.shape)) in
    let p = both_none (wrong_again seen g.name) (smaller (wrong_initial outside g.shape) size) h in
    let q = both_none (wrong_initial outside g.shape) size p.1 in
    let r = both_none (wrong_shape early g.shape) (wrong_cells room (cells_of g.shape)) q.1 in
    record {
      new = again_sound seen g.name p.0;
      initial = initial_sound outside g.shape q.0;
      held = held_sound early g.shape r.0;
      cells = cells_sound room (cells_of g.shape) r.1;
    }

global_complete : (early : List Refusal) (outside seen : Entries) (room : ℕ) (g : GlobalVar) → IsTypedGlobal outside seen room g
    → wrong_global early outside seen room g ≡ None
global_complete early outside seen room g h =
    smaller_none _ _ (again_complete seen g.name h.new)
    (smaller_none _ _ (initial_complete outside g.shape h.initial)
    (smaller_none _ _ (held_complete early g.shape h.held) (cells_complete room (cells_of g.shape) h.cells)))

globals_sound : (early : List Refusal) (outside seen : Entries) (room : ℕ) (gs : List GlobalVar)
    → refusal_of_globals early outside seen room gs ≡ None → AreTypedGlobals outside seen room gs
globals_sound early outside seen room [] h = tt
globals_sound early outside seen room (g ∷ gs) h =
    let rest = refusal_of_globals early outside (with_global seen g) (room - cells_of g.shape) gs in
    let q = first_none (at_place (wrong_global early outside seen room g) g.pos) rest h in
    (global_sound early outside seen room g (at_none _ g.pos q.0), globals_sound early outside (with_global seen g) (room - cells_of g.shape) gs q.1)

globals_complete : (early : List Refusal) (outside seen : Entries) (room : ℕ) (gs : List GlobalVar)
    → AreTypedGlobals outside seen room gs → refusal_of_globals early outside seen room gs ≡ None
globals_complete early outside seen room [] h = refl
globals_complete early outside seen room (g ∷ gs) h =
    none_first _ _ (none_at _ g.pos (global_complete early outside seen room g h.0))
    (globals_complete early outside (with_global seen g) (room - cells_of g.shape) gs h.1)

-- ---- prototypes

wide_sound : (k : Kind) → is_wide k ≡ false → IsNarrow k
wide_sound Int h = tt
wide_sound (Fp n) h = grind (arith, nat_tests, h)

wide_complete : (k : Kind) → IsNarrow k → is_wide k ≡ false
wide_complete Int h = refl
wide_complete (Fp n) h = grind (arith, nat_tests, h)

narrow_all : (ks : List Kind) → any_wide ks ≡ false → AreNarrow ks
narrow_all [] h = tt
narrow_all (k ∷ ks) h =
    let q = either_false (is_wide k) (any_wide ks) h in (wide_sound k q.0, narrow_all ks q.1)

none_wide : (ks : List Kind) → AreNarrow ks → any_wide ks ≡ false
none_wide [] h = refl
none_wide (k ∷ ks) h = rw (wide_complete k h.0) (none_wide ks h.1)

count_sound : (ks : List Kind) → wrong_params_count ks ≡ None → (length ks ≤ parameter_limit) × AreNarrow ks
count_sound ks h =
    let q = either_false (nat_lt parameter_limit (length ks)) (any_wide ks) (test_false (nat_lt parameter_limit (length ks) || any_wide ks) numbers.past_limit h) in
    let few = q.0 in (grind (arith, nat_tests, few), narrow_all ks q.1)

count_complete : (ks : List Kind) → length ks ≤ parameter_limit → AreNarrow ks → wrong_params_count ks ≡ None
count_complete ks few narrow =
    let e : nat_lt parameter_limit (length ks) ≡ false = grind (arith, nat_tests, few) in rw (e, none_wide ks narrow) refl

kinds_sound : (js ks : List Kind) → same_kinds js ks ≡ true → js ≡ ks
kinds_sound [] [] h = refl
kinds_sound [] (k ∷ ks) h = absurd cc
kinds_sound (j ∷ js) [] h = absurd cc
kinds_sound (j ∷ js) (k ∷ ks) h =
    let q = both_true (same_kind j k) (same_kinds js ks) h in ap₂ (λ x xs. x ∷ xs) (same_sound j k q.0) (kinds_sound js ks q.1)

kinds_itself : (ks : List Kind) → same_kinds ks ks ≡ true
kinds_itself [] = refl
kinds_itself (k ∷ ks) = rw (same_itself k) (kinds_itself ks)

same_result_sound : (a b : Bool) → same_result a b ≡ true → a ≡ b
same_result_sound true b h = sym h
same_result_sound false true h = absurd cc
same_result_sound false false h = refl

same_result_itself : (a : Bool) → same_result a a ≡ true
same_result_itself true = refl
same_result_itself false = refl

match_sound : (o : Option Means) (p : Proto) → wrong_match o p ≡ None → IsMatch o p
match_sound (Some (Code params gives value denied)) p h =
    let q = both_true (same_kinds params p.params) (same_result gives p.gives) (test_true (same_kinds params p.params && same_result gives p.gives) numbers.wrong_kind h) in
    (kinds_sound params p.params q.0, same_result_sound gives p.gives q.1)
match_sound (Some (Cell k)) p h = some_none numbers.unknown h
match_sound (Some Array) p h = some_none numbers.unknown h
match_sound (Some (Refused n)) p h = some_none numbers.unknown h
match_sound None p h = some_none numbers.unknown h

match_complete : (o : Option Means) (p : Proto) → IsMatch o p → wrong_match o p ≡ None
match_complete (Some (Code params gives value denied)) p h = rw (h.0, h.1, kinds_itself p.params, same_result_itself p.gives) refl
match_complete (Some (Cell k)) p h = absurd h
match_complete (Some Array) p h = absurd h
match_complete (Some (Refused n)) p h = absurd h
match_complete None p h = absurd h

pub protos_sound : (functions : Entries) (ps : List Proto) → refusal_of_protos functions ps ≡ None → AreTypedProtos functions ps
protos_sound functions [] h = tt
protos_sound functions (p ∷ ps) h =
    let q = first_none (at_place (wrong_proto functions p) p.pos) (refusal_of_protos functions ps) h in
    let r = both_none (wrong_match (found functions p.name) p) (wrong_params_count p.params) (at_none _ p.pos q.0) in
    let count = count_sound p.params r.1 in
    (record { matches = match_sound (found functions p.name) p r.0; few = count.0; narrow = count.1 }, protos_sound functions ps q.1)

pub protos_complete : (functions : Entries) (ps : List Proto) → AreTypedProtos functions ps → refusal_of_protos functions ps ≡ None
protos_complete functions [] h = refl
protos_complete functions (p ∷ ps) h =
    let one = h.0 in
    none_first _ _
    (none_at _ p.pos (smaller_none _ _ (match_complete (found functions p.name) p one.matches) (count_complete p.params one.few one.narrow)))
    (protos_complete functions ps h.1)

-- ---- functions

params_sound : (s : Scope) (before : Option ℕ) (ps : List (Kind × Bytes)) → wrong_params s before ps ≡ None → (before ≡ None) × AreParams s ps
params_sound s before [] h = (h, tt)
params_sound s before (p ∷ ps) h =
    let q = params_sound (with_param s p) (smaller before (wrong_fresh params_block s p.0 p.1)) ps h in
    let r = both_none before (wrong_fresh params_block s p.0 p.1) q.0 in
    (r.0, (fresh_sound params_block s p.0 p.1 r.1, q.1))

params_complete : (s : Scope) (before : Option ℕ) (ps : List (Kind × Bytes)) → before ≡ None → AreParams s ps → wrong_params s before ps ≡ None
params_complete s before [] b h = b
params_complete s before (p ∷ ps) b h =
    params_complete (with_param s p) (smaller before (wrong_fresh params_block s p.0 p.1)) ps
    (smaller_none _ _ b (fresh_complete params_block s p.0 p.1 h.0)) h.1

end_sound : (gives main ends : Bool) → if◌then◌else◌ {A = Option ℕ} (gives && not main && ends) (Some numbers.missing_return) None ≡ None
    → gives ≡ true → main ≡ false → ends ≡ false
end_sound true false true h g m = absurd (some_none numbers.missing_return h)
end_sound true false false h g m = refl
end_sound true true ends h g m = absurd cc
end_sound false main ends h g m = absurd cc

end_complete : (gives main ends : Bool) → (gives ≡ true → main ≡ false → ends ≡ false)
    → if◌then◌else◌ {A = Option ℕ} (gives && not main && ends) (Some numbers.missing_return) None ≡ None
end_complete true false ends h = rw (h refl refl) refl
end_complete true true ends h = refl
end_complete false main ends h = refl

pub from_sound : (again : Option ℕ) (s : Scope) (f : Func) → refusal_from again s f ≡ None → (again ≡ None) × IsTypedFrom s f
from_sound again s f h =
    let ss = body_of f.body in
    let inner = with_params s f.params in
    let p = first_none (at_place (wrong_head again s f) f.pos) (refusal_of_body inner ss) h in
    let count = wrong_params_count (kinds_of f.params) in
    let q = both_none again (smaller (wrong_params s None f.params) (smaller (wrong_end f) count)) (at_none _ f.pos p.0) in
    let r = both_none (wrong_params s None f.params) (smaller (wrong_end f) count) q.1 in
    let t = both_none (wrong_end f) count r.1 in
    let sizes = count_sound (kinds_of f.params) t.1 in
    let ps = params_sound s None f.params r.0 in (
      q.0,
      record {
        params = ps.1;
        few = sizes.0;
        narrow = sizes.1;
        gives = end_sound f.gives (is_main f.name) (can_end ss) t.0;
        body = typed_all (block_in inner) (begun inner ss) ss p.1;
      },
    )

pub from_complete : (again : Option ℕ) (s : Scope) (f : Func) → again ≡ None → IsTypedFrom s f → refusal_from again s f ≡ None
from_complete again s f a h =
    let ss = body_of f.body in
    let inner = with_params s f.params in
    none_first _ _
    (none_at _ f.pos
    (smaller_none _ _ a
    (smaller_none _ _ (params_complete s None f.params refl h.params)
    (smaller_none _ _ (end_complete f.gives (is_main f.name) (can_end ss) h.gives) (count_complete (kinds_of f.params) h.few h.narrow)))))
    (none_refused (block_in inner) (begun inner ss) ss h.body)

pub func_sound : (again : Option ℕ) (outside : Entries) (xform : Bool) (f : Func) → refusal_of_func again outside xform f ≡ None
    → (again ≡ None) × IsTypedFunc outside xform f
func_sound again outside xform f h = from_sound again (scope_of outside xform f.gives) f h

pub func_complete : (again : Option ℕ) (outside : Entries) (xform : Bool) (f : Func) → again ≡ None → IsTypedFunc outside xform f
    → refusal_of_func again outside xform f ≡ None
func_complete again outside xform f a h = from_complete again (scope_of outside xform f.gives) f a h

funcs_sound : (outside : Entries) (xform : Bool) (seen : Entries) (fs : List Func) → refusal_of_funcs outside xform seen fs ≡ None
    → AreTypedFuncs outside xform seen fs
funcs_sound outside xform seen [] h = tt
funcs_sound outside xform seen (f ∷ fs) h =
    let q = first_none (refusal_of_func (wrong_again seen f.name) outside xform f) (refusal_of_funcs outside xform (with_func seen f) fs) h in
    let r = func_sound (wrong_again seen f.name) outside xform f q.0 in
    (again_sound seen f.name r.0, r.1, funcs_sound outside xform (with_func seen f) fs q.1)

funcs_complete : (outside : Entries) (xform : Bool) (seen : Entries) (fs : List Func) → AreTypedFuncs outside xform seen fs
    → refusal_of_funcs outside xform seen fs ≡ None
funcs_complete outside xform seen [] h = refl
funcs_complete outside xform seen (f ∷ fs) h =
    none_first _ _ (func_complete (wrong_again seen f.name) outside xform f (again_complete seen f.name h.0) h.1)
    (funcs_complete outside xform (with_func seen f) fs h.2)

-- ---- programs

pub early_sound : (rs : List Refusal) → first_early rs ≡ None → rs ≡ []
early_sound [] h = refl
early_sound (r ∷ rs) h = absurd (some_none r h)

pub types : (u : Unit) (p : Program) → first_refusal u p ≡ None → Types u p
types u p h =
    let outside = outside_of p.globals p.funcs in
    let declared = refusal_of_declarations u outside [] p in
    let bodies = refusal_of_funcs outside false (with_globals [] p.globals) p.funcs in
    let a = first_none declared (first bodies (refusal_of_whole u p)) h in
    let b = first_none bodies (refusal_of_whole u p) a.1 in
    let c = first_none (refusal_of_globals p.early outside [] (cell_limit u) p.globals) (refusal_of_protos (with_funcs [] p.funcs) p.protos) a.0 in
    let d = first_none (at_place (wrong_main p.funcs) (first_line u)) (first_early p.early) b.1 in
    record {
      globals = globals_sound p.early outside [] (cell_limit u) p.globals c.0;
      protos = protos_sound (with_funcs [] p.funcs) p.protos c.1;
      funcs = funcs_sound outside false (with_globals [] p.globals) p.funcs b.0;
      main = test_true (has_main p.funcs) numbers.no_start (at_none _ (first_line u) d.0);
      early = early_sound p.early d.1;
    }

pub not_refused : (u : Unit) (p : Program) → Types u p → first_refusal u p ≡ None
not_refused u p h =
    let outside = outside_of p.globals p.funcs in
    none_first _ _
    (none_first _ _ (globals_complete p.early outside [] (cell_limit u) p.globals h.globals)
    (protos_complete (with_funcs [] p.funcs) p.protos h.protos))
    (none_first _ _ (funcs_complete outside false (with_globals [] p.globals) p.funcs h.funcs) (rw (h.main, h.early) refl))

-- a program with a refusal isn't typed
pub refused : (u : Unit) (p : Program) (r : Refusal) → first_refusal u p ≡ Some r → Types u p → ⊥
refused u p r h typed = some_none r (sym h ∙ not_refused u p typed)
