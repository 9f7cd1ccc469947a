-- A statement is typed exactly where it has no refusal.
use Rattle.std.proofs.Common.{◌&&◌, ◌≡◌, ℕ, nat_eq, nat_lt, length, Bool, true, false, List, [], ◌∷◌, Option, Some, None, refl, arith, subst}
use Rattle.std.specs.Prelude.{if◌then◌else◌}
use Rattle.std.specs.Option.{is_some}
use Rattle.std.proofs.lemmas.Bool.Decides.{nat_tests}
use Rattle.c_lang.specs.Names.{Bytes}
use Rattle.c_lang.specs.Trees.{Expression, Statement, Statements, skip, set, set_element, call, call_by, if_else, while_loop, break_loop, return_with, assert_that, input, output, point, choice, force, pick, none, more}
use Rattle.c_lang.specs.declared.unit.Pos.{Pos}
use Rattle.c_lang.specs.declared.stmt.Dest.{Dest}
use Rattle.c_lang.specs.declared.stmt.Dest.TheVariants.{Nowhere, Into, Fresh}
use Rattle.c_lang.specs.declared.stmt.Kind.{Kind}
use Rattle.c_lang.specs.declared.stmt.Kind.TheVariants.{Int, Fp}
use Rattle.c_lang.specs.Limits.{parameter_limit}
use Rattle.c_lang.specs.Refusals as numbers
use Rattle.c_types.specs.Names.{Means, Cell, Array, Code, Refused, Names, Entries, found, stands_from, stands_before, smaller}
use Rattle.c_types.specs.Scopes.{Picks, Scope, Block, in_pick, in_scope, names_of, is_another, kind_of_dest, wrong_kind, wrong_fresh, wrong_target, wrong_dest, wrong_effect, names_version}
use Rattle.c_types.specs.Expressions.{wrong, wrong_array, own_kind}
use Rattle.c_types.specs.Checks.{at_place, first}
use Rattle.c_types.specs.Calls.{place_in, element_kind, ints, picked, wrong_element, wrong_count, wrong_places, wrong_each, wrong_args, wrong_result, wrong_use, wrong_pointer, wrong_call, wrong_call_by, wrong_return}
use Rattle.c_types.specs.Statements.{scope_after, block_in, entered, after_block, wrong_answer, wrong_force, refusal_of_picked, refusal_of_pick, refusal, refusals}
use Rattle.c_types.specs.Typing.{IsArray, IsTyped, IsNarrow, IsFresh, IsCell, IsDest, TakesInt, IsUse, AreArguments, IsPointerCall, IsCall, IsCallBy, IsReturn, IsAnswer, MayForce, IsPicked, IsPick, IsTypedStatement, AreTyped}
use Rattle.c_types.proofs.Combined.{some_none, both_none, smaller_none, first_none, none_first, at_none, none_at, test_false, test_true, not_some, fit_sound, fit_itself}
use Rattle.c_types.proofs.ExpressionsTyped.{array_sound, array_complete, typed, not_wrong}

-- ---- destinations

pub narrow_sound : (k : Kind) → wrong_kind k ≡ None → IsNarrow k
narrow_sound Int h = tt
narrow_sound (Fp n) h = let e = test_false (nat_lt parameter_limit n) numbers.past_limit h in grind (arith, nat_tests, e)

pub narrow_complete : (k : Kind) → IsNarrow k → wrong_kind k ≡ None
narrow_complete Int h = refl
narrow_complete (Fp n) h = let e : nat_lt parameter_limit n ≡ false = grind (arith, nat_tests, h) in rw e refl

five_tests : (a b c d e : Bool)
    → if◌then◌else◌ {A = Option ℕ} a (Some numbers.duplicate) (if b then Some numbers.duplicate else if c then Some numbers.shadowed else if d then Some numbers.shadowed else if e then Some numbers.shadowed else None) ≡ None
    → (a ≡ false) × (b ≡ false) × (c ≡ false) × (d ≡ false) × (e ≡ false)
five_tests true b c d e h = absurd (some_none numbers.duplicate h)
five_tests false true c d e h = absurd (some_none numbers.duplicate h)
five_tests false false true d e h = absurd (some_none numbers.shadowed h)
five_tests false false false true e h = absurd (some_none numbers.shadowed h)
five_tests false false false false true h = absurd (some_none numbers.shadowed h)
five_tests false false false false false h = (refl, refl, refl, refl, refl)

pub fresh_sound : (b : Block) (s : Scope) (k : Kind) (x : Bytes) → wrong_fresh b s k x ≡ None → IsFresh b s k x
fresh_sound b s k x h =
    let t = five_tests (stands_from b.base s.locals x) (is_another (found s.told x) k) (is_some (in_scope s x)) (stands_before b.mark s.ahead x) (s.xform && names_version x) h in
    record { new = t.0; alike = t.1; free = not_some (in_scope s x) t.2; kept = t.3; own = t.4 }

pub fresh_complete : (b : Block) (s : Scope) (k : Kind) (x : Bytes) → IsFresh b s k x → wrong_fresh b s k x ≡ None
fresh_complete b s k x h = rw (h.new, h.alike, h.free, h.kept, h.own) refl

target_sound : (m : Means) → wrong_target m ≡ None → IsCell m
target_sound (Cell k) h = tt
target_sound Array h = absurd (some_none numbers.wrong_kind h)
target_sound (Code params gives value denied) h = absurd (some_none numbers.wrong_kind h)
target_sound (Refused n) h = absurd (some_none n h)

target_complete : (m : Means) → IsCell m → wrong_target m ≡ None
target_complete (Cell k) h = refl
target_complete Array h = absurd h
target_complete (Code params gives value denied) h = absurd h
target_complete (Refused n) h = absurd h

dest_sound : (b : Block) (s : Scope) (d : Dest) → wrong_dest b s d ≡ None → IsDest b s d
dest_sound b s Nowhere h = tt
dest_sound b s (Into x) h = target_sound (names_of s x) h
dest_sound b s (Fresh k x) h =
    let q = both_none (wrong_fresh b s k x) (wrong_kind k) h in (fresh_sound b s k x q.0, narrow_sound k q.1)

dest_complete : (b : Block) (s : Scope) (d : Dest) → IsDest b s d → wrong_dest b s d ≡ None
dest_complete b s Nowhere h = refl
dest_complete b s (Into x) h = target_complete (names_of s x) h
dest_complete b s (Fresh k x) h =
    smaller_none (wrong_fresh b s k x) (wrong_kind k) (fresh_complete b s k x h.0) (narrow_complete k h.1)

effect_sound : (s : Scope) → wrong_effect s ≡ None → s.xform ≡ false
effect_sound s h = test_false s.xform numbers.transformer_effect h

-- ---- results and arguments

result_sound : (gives : Bool) (o : Option Kind) → wrong_result gives o ≡ None → (gives ≡ true) × TakesInt o
result_sound true None h = (refl, tt)
result_sound true (Some k) h = (refl, fit_sound k Int h)
result_sound false o h = absurd (some_none numbers.void_use h)

result_complete : (gives : Bool) (o : Option Kind) → (gives ≡ true) × TakesInt o → wrong_result gives o ≡ None
result_complete gives None h = rw h.0 refl
result_complete gives (Some k) h = rw (h.0, fit_itself k Int h.1) refl

use_sound : (s : Scope) (gives : Bool) (d : Dest) → wrong_use s gives d ≡ None → IsUse s gives d
use_sound s gives Nowhere h = tt
use_sound s gives (Into x) h = result_sound gives (kind_of_dest s (Into x)) h
use_sound s gives (Fresh k x) h = result_sound gives (kind_of_dest s (Fresh k x)) h

use_complete : (s : Scope) (gives : Bool) (d : Dest) → IsUse s gives d → wrong_use s gives d ≡ None
use_complete s gives Nowhere h = refl
use_complete s gives (Into x) h = result_complete gives (kind_of_dest s (Into x)) h
use_complete s gives (Fresh k x) h = result_complete gives (kind_of_dest s (Fresh k x)) h

places_sound : (names : Names) (ks : List Kind) (es : List Expression) → length ks ≡ length es → wrong_places names ks es ≡ None
    → AreArguments names ks es
places_sound names [] [] c h = tt
places_sound names [] (e ∷ es) c h = absurd (omega arith)
places_sound names (k ∷ ks) [] c h = absurd (omega arith)
places_sound names (k ∷ ks) (e ∷ es) c h =
    let q = both_none (wrong names k e) (wrong_places names ks es) h in
    (typed names k e q.0, places_sound names ks es (omega arith) q.1)

args_sound : (names : Names) (ks : List Kind) (es : List Expression) → wrong_args names ks es ≡ None → AreArguments names ks es
args_sound names ks es h =
    let q = both_none (wrong_count (length ks) (length es)) (wrong_places names ks es) h in
    let e = test_true (nat_eq (length ks) (length es)) numbers.argument_count q.0 in
    places_sound names ks es (grind (arith, nat_tests, e)) q.1

same_length : (names : Names) (ks : List Kind) (es : List Expression) → AreArguments names ks es → length ks ≡ length es
same_length names [] [] h = refl
same_length names [] (e ∷ es) h = absurd h
same_length names (k ∷ ks) [] h = absurd h
same_length names (k ∷ ks) (e ∷ es) h = let others = same_length names ks es h.1 in omega arith

places_complete : (names : Names) (ks : List Kind) (es : List Expression) → AreArguments names ks es → wrong_places names ks es ≡ None
places_complete names [] [] h = refl
places_complete names [] (e ∷ es) h = absurd h
places_complete names (k ∷ ks) [] h = absurd h
places_complete names (k ∷ ks) (e ∷ es) h =
    smaller_none (wrong names k e) (wrong_places names ks es) (not_wrong names k e h.0) (places_complete names ks es h.1)

args_complete : (names : Names) (ks : List Kind) (es : List Expression) → AreArguments names ks es → wrong_args names ks es ≡ None
args_complete names ks es h =
    let c : length ks ≡ length es = same_length names ks es h in
    let e : nat_eq (length ks) (length es) ≡ true = grind (arith, nat_tests, c) in rw (e, places_complete names ks es h) refl

-- ---- calls

-- what can't be called
denied_sound : {X : Type 0} (n : ℕ) (o : Option ℕ) → smaller (Some n) o ≡ None → X
denied_sound n o h = absurd (some_none n (both_none (Some n) o h).0)

pointer_sound : (s : Scope) (k : Kind) (d : Dest) (es : List Expression) → wrong_pointer s k d es ≡ None → IsPointerCall s k d es
pointer_sound s Int d es h = denied_sound numbers.wrong_kind (wrong_each (names_of s) es) h
pointer_sound s (Fp n) d es h =
    let q = both_none (wrong_effect s) (smaller (wrong_use s true d) (wrong_args (names_of s) (ints n) es)) h in
    let r = both_none (wrong_use s true d) (wrong_args (names_of s) (ints n) es) q.1 in
    (effect_sound s q.0, use_sound s true d r.0, args_sound (names_of s) (ints n) es r.1)

pointer_complete : (s : Scope) (k : Kind) (d : Dest) (es : List Expression) → IsPointerCall s k d es → wrong_pointer s k d es ≡ None
pointer_complete s Int d es h = absurd h
pointer_complete s (Fp n) d es h = rw (h.0, use_complete s true d h.1, args_complete (names_of s) (ints n) es h.2) refl

call_sound : (s : Scope) (m : Means) (d : Dest) (es : List Expression) → wrong_call s m d es ≡ None → IsCall s m d es
call_sound s (Code params gives value denied) d es h =
    let q = both_none denied (smaller (wrong_use s gives d) (wrong_args (names_of s) params es)) h in
    let r = both_none (wrong_use s gives d) (wrong_args (names_of s) params es) q.1 in
    (q.0, use_sound s gives d r.0, args_sound (names_of s) params es r.1)
call_sound s (Cell k) d es h = pointer_sound s k d es h
call_sound s Array d es h = denied_sound numbers.wrong_kind (wrong_each (names_of s) es) h
call_sound s (Refused n) d es h = denied_sound n (wrong_each (names_of s) es) h

call_complete : (s : Scope) (m : Means) (d : Dest) (es : List Expression) → IsCall s m d es → wrong_call s m d es ≡ None
call_complete s (Code params gives value denied) d es h =
    rw (h.0, use_complete s gives d h.1, args_complete (names_of s) params es h.2) refl
call_complete s (Cell k) d es h = pointer_complete s k d es h
call_complete s Array d es h = absurd h
call_complete s (Refused n) d es h = absurd h

call_by_sound : (s : Scope) (m : Means) (d : Dest) (es : List Expression) → wrong_call_by s m d es ≡ None → IsCallBy s m d es
call_by_sound s (Cell k) d es h = pointer_sound s k d es h
call_by_sound s (Code params gives value denied) d es h = denied_sound numbers.wrong_kind (wrong_each (names_of s) es) h
call_by_sound s Array d es h = denied_sound numbers.wrong_kind (wrong_each (names_of s) es) h
call_by_sound s (Refused n) d es h = denied_sound n (wrong_each (names_of s) es) h

call_by_complete : (s : Scope) (m : Means) (d : Dest) (es : List Expression) → IsCallBy s m d es → wrong_call_by s m d es ≡ None
call_by_complete s (Cell k) d es h = pointer_complete s k d es h
call_by_complete s (Code params gives value denied) d es h = absurd h
call_by_complete s Array d es h = absurd h
call_by_complete s (Refused n) d es h = absurd h

return_sound : (names : Names) (gives : Bool) (e : Option Expression) → wrong_return names gives e ≡ None → IsReturn names gives e
return_sound names true None h = absurd (some_none numbers.missing_return h)
return_sound names false None h = tt
return_sound names true (Some e) h = typed names Int e h
return_sound names false (Some e) h = denied_sound numbers.void_use (wrong names (own_kind names e) e) h

return_complete : (names : Names) (gives : Bool) (e : Option Expression) → IsReturn names gives e → wrong_return names gives e ≡ None
return_complete names true None h = absurd h
return_complete names false None h = refl
return_complete names true (Some e) h = not_wrong names Int e h
return_complete names false (Some e) h = absurd h

-- ---- elements and answers

pub array_kind : (names : Names) (m : Means) (e : Expression) → IsArray m → element_kind names m e ≡ Int
array_kind names Array e h = refl
array_kind names (Cell k) e h = absurd h
array_kind names (Code params gives value denied) e h = absurd h
array_kind names (Refused n) e h = absurd h

element_sound : (names : Names) (a : Bytes) (i e : Expression) → wrong_element names a i e ≡ None
    → IsArray (names a) × IsTyped names Int i × IsTyped names Int e
element_sound names a i e h =
    let k = element_kind names (names a) e in
    let q = both_none (wrong_array (names a)) (smaller (wrong names Int i) (wrong names k e)) h in
    let r = both_none (wrong names Int i) (wrong names k e) q.1 in
    let row = array_sound (names a) q.0 in
    (row, typed names Int i r.0, subst (λ j. IsTyped names j e) (array_kind names (names a) e row) (typed names k e r.1))

element_complete : (names : Names) (a : Bytes) (i e : Expression) → IsArray (names a) × IsTyped names Int i × IsTyped names Int e
    → wrong_element names a i e ≡ None
element_complete names a i e h =
    rw (array_kind names (names a) e h.0, array_complete (names a) h.0, not_wrong names Int i h.1, not_wrong names Int e h.2) refl

answer_sound : (b : Block) (s : Scope) (d : Dest) → wrong_answer b s d ≡ None → IsAnswer b s d
answer_sound b s d h =
    let q = both_none (wrong_dest b s d) (smaller (wrong_effect s) (wrong_use s true d)) h in
    let r = both_none (wrong_effect s) (wrong_use s true d) q.1 in
    (dest_sound b s d q.0, effect_sound s r.0, use_sound s true d r.1)

answer_complete : (b : Block) (s : Scope) (d : Dest) → IsAnswer b s d → wrong_answer b s d ≡ None
answer_complete b s d h = rw (dest_complete b s d h.0, h.1, use_complete s true d h.2) refl

-- ---- statements of clients

force_sound : (o : Option Entries) → wrong_force o ≡ None → MayForce o
force_sound None h = absurd (some_none numbers.client_call h)
force_sound (Some others) h = tt

force_complete : (o : Option Entries) → MayForce o → wrong_force o ≡ None
force_complete None h = absurd h
force_complete (Some others) h = refl

picked_sound : (at : Pos) (b : Block) (s : Scope) (o : Entries) (t : Statement) → refusal_of_picked at b s o t ≡ None → IsPicked b s o t
picked_sound at b s o (call p d f es) h =
    let m = picked (names_of (in_pick s o) f) in
    let q = both_none (wrong_dest b (in_pick s o) d) (wrong_call (in_pick s o) m d es) (at_none _ p h) in
    (dest_sound b (in_pick s o) d q.0, call_sound (in_pick s o) m d es q.1)
picked_sound at b s o (skip p) h = absurd (some_none _ h)
picked_sound at b s o (set p d e) h = absurd (some_none _ h)
picked_sound at b s o (set_element p a i e) h = absurd (some_none _ h)
picked_sound at b s o (call_by p d x es) h = absurd (some_none _ h)
picked_sound at b s o (if_else p e xs ys) h = absurd (some_none _ h)
picked_sound at b s o (while_loop p e xs) h = absurd (some_none _ h)
picked_sound at b s o (break_loop p) h = absurd (some_none _ h)
picked_sound at b s o (return_with p e) h = absurd (some_none _ h)
picked_sound at b s o (assert_that p e) h = absurd (some_none _ h)
picked_sound at b s o (input p d) h = absurd (some_none _ h)
picked_sound at b s o (output p e) h = absurd (some_none _ h)
picked_sound at b s o (point p k) h = absurd (some_none _ h)
picked_sound at b s o (choice p d k) h = absurd (some_none _ h)
picked_sound at b s o (force p) h = absurd (some_none _ h)
picked_sound at b s o (pick p x y) h = absurd (some_none _ h)

picked_complete : (at : Pos) (b : Block) (s : Scope) (o : Entries) (t : Statement) → IsPicked b s o t → refusal_of_picked at b s o t ≡ None
picked_complete at b s o (call p d f es) h =
    rw (dest_complete b (in_pick s o) d h.0, call_complete (in_pick s o) (picked (names_of (in_pick s o) f)) d es h.1) refl
picked_complete at b s o (skip p) h = absurd h
picked_complete at b s o (set p d e) h = absurd h
picked_complete at b s o (set_element p a i e) h = absurd h
picked_complete at b s o (call_by p d x es) h = absurd h
picked_complete at b s o (if_else p e xs ys) h = absurd h
picked_complete at b s o (while_loop p e xs) h = absurd h
picked_complete at b s o (break_loop p) h = absurd h
picked_complete at b s o (return_with p e) h = absurd h
picked_complete at b s o (assert_that p e) h = absurd h
picked_complete at b s o (input p d) h = absurd h
picked_complete at b s o (output p e) h = absurd h
picked_complete at b s o (point p k) h = absurd h
picked_complete at b s o (choice p d k) h = absurd h
picked_complete at b s o (force p) h = absurd h
picked_complete at b s o (pick p x y) h = absurd h

pick_sound : (p : Pos) (b : Block) (s : Scope) (o : Option Picks) (x y : Statement) → refusal_of_pick p b s o x y ≡ None → IsPick b s o x y
pick_sound p b s None x y h = absurd (some_none _ h)
pick_sound p b s (Some names) x y h =
    let q = first_none (refusal_of_picked p b s names.after x) (refusal_of_picked p b s names.before y) h in
    (picked_sound p b s names.after x q.0, picked_sound p b s names.before y q.1)

pick_complete : (p : Pos) (b : Block) (s : Scope) (o : Option Picks) (x y : Statement) → IsPick b s o x y → refusal_of_pick p b s o x y ≡ None
pick_complete p b s None x y h = absurd h
pick_complete p b s (Some names) x y h =
    none_first _ _ (picked_complete p b s names.after x h.0) (picked_complete p b s names.before y h.1)

-- ---- statements

mutual
  pub typed_statement : (b : Block) (s : Scope) (t : Statement) → refusal b s t ≡ None → IsTypedStatement b s t
  typed_statement b s (skip p) h = tt
  typed_statement b s (set p d e) h =
      let q = both_none (wrong_dest b s d) (wrong (names_of s) (place_in s d e) e) (at_none _ p h) in
      (dest_sound b s d q.0, typed (names_of s) (place_in s d e) e q.1)
  typed_statement b s (set_element p a i e) h = element_sound (names_of s) a i e (at_none _ p h)
  typed_statement b s (call p d f es) h =
      let q = both_none (wrong_dest b s d) (wrong_call s (names_of s f) d es) (at_none _ p h) in
      (dest_sound b s d q.0, call_sound s (names_of s f) d es q.1)
  typed_statement b s (call_by p d x es) h =
      let q = both_none (wrong_dest b s d) (wrong_call_by s (names_of s x) d es) (at_none _ p h) in
      (dest_sound b s d q.0, call_by_sound s (names_of s x) d es q.1)
  typed_statement b s (if_else p e xs ys) h =
      let xr = refusals (block_in s) (entered s xs) xs in
      let yr = refusals (block_in s) (entered (after_block s xs) ys) ys in
      let q = first_none (at_place (wrong (names_of s) Int e) p) (first xr yr) h in
      let r = first_none xr yr q.1 in
      (typed (names_of s) Int e (at_none _ p q.0), typed_all (block_in s) (entered s xs) xs r.0, typed_all (block_in s) (entered (after_block s xs) ys) ys r.1)
  typed_statement b s (while_loop p e xs) h =
      let q = first_none (at_place (wrong (names_of s) Int e) p) (refusals (block_in s) (entered s xs) xs) h in
      (typed (names_of s) Int e (at_none _ p q.0), typed_all (block_in s) (entered s xs) xs q.1)
  typed_statement b s (break_loop p) h = tt
  typed_statement b s (return_with p e) h = return_sound (names_of s) s.gives e (at_none _ p h)
  typed_statement b s (assert_that p e) h = typed (names_of s) Int e (at_none _ p h)
  typed_statement b s (input p d) h = answer_sound b s d (at_none _ p h)
  typed_statement b s (output p e) h =
      let q = both_none (wrong_effect s) (wrong (names_of s) Int e) (at_none _ p h) in (effect_sound s q.0, typed (names_of s) Int e q.1)
  typed_statement b s (point p k) h = effect_sound s (at_none _ p h)
  typed_statement b s (choice p d k) h = answer_sound b s d (at_none _ p h)
  typed_statement b s (force p) h = force_sound s.forced (at_none _ p h)
  typed_statement b s (pick p x y) h = pick_sound p b s s.picks x y h

  pub typed_all : (b : Block) (s : Scope) (ts : Statements) → refusals b s ts ≡ None → AreTyped b s ts
  typed_all b s none h = tt
  typed_all b s (more t ts) h =
      let q = first_none (refusal b s t) (refusals b (scope_after s t) ts) h in
      (typed_statement b s t q.0, typed_all b (scope_after s t) ts q.1)

mutual
  pub statement_not_refused : (b : Block) (s : Scope) (t : Statement) → IsTypedStatement b s t → refusal b s t ≡ None
  statement_not_refused b s (skip p) h = refl
  statement_not_refused b s (set p d e) h =
      rw (dest_complete b s d h.0, not_wrong (names_of s) (place_in s d e) e h.1) refl
  statement_not_refused b s (set_element p a i e) h = none_at _ p (element_complete (names_of s) a i e h)
  statement_not_refused b s (call p d f es) h = rw (dest_complete b s d h.0, call_complete s (names_of s f) d es h.1) refl
  statement_not_refused b s (call_by p d x es) h = rw (dest_complete b s d h.0, call_by_complete s (names_of s x) d es h.1) refl
  statement_not_refused b s (if_else p e xs ys) h =
      none_first _ _ (none_at _ p (not_wrong (names_of s) Int e h.0))
      (none_first _ _ (none_refused (block_in s) (entered s xs) xs h.1) (none_refused (block_in s) (entered (after_block s xs) ys) ys h.2))
  statement_not_refused b s (while_loop p e xs) h =
      none_first _ _ (none_at _ p (not_wrong (names_of s) Int e h.0)) (none_refused (block_in s) (entered s xs) xs h.1)
  statement_not_refused b s (break_loop p) h = refl
  statement_not_refused b s (return_with p e) h = none_at _ p (return_complete (names_of s) s.gives e h)
  statement_not_refused b s (assert_that p e) h = none_at _ p (not_wrong (names_of s) Int e h)
  statement_not_refused b s (input p d) h = none_at _ p (answer_complete b s d h)
  statement_not_refused b s (output p e) h = rw (h.0, not_wrong (names_of s) Int e h.1) refl
  statement_not_refused b s (point p k) h = none_at _ p (rw h refl)
  statement_not_refused b s (choice p d k) h = none_at _ p (answer_complete b s d h)
  statement_not_refused b s (force p) h = none_at _ p (force_complete s.forced h)
  statement_not_refused b s (pick p x y) h = pick_complete p b s s.picks x y h

  pub none_refused : (b : Block) (s : Scope) (ts : Statements) → AreTyped b s ts → refusals b s ts ≡ None
  none_refused b s none h = refl
  none_refused b s (more t ts) h = none_first _ _ (statement_not_refused b s t h.0) (none_refused b (scope_after s t) ts h.1)
