-- Lists of declarations in which no name comes twice.
use Rattle.std.proofs.Common.{◌≡◌, ◌≤◌, cond, Bool, true, false, ◌&&◌, ◌||◌, List, [], ◌∷◌, ◌++◌, map, length, Option, Some, None, is_some, refl, sym, ap, ap₂, ◌∙◌, subst, codes}
use Rattle.std.specs.Prelude.{if◌then◌else◌}
use Rattle.std.specs.Option.{option_or, option_map}
use Rattle.std.specs.List.{filter}
use Rattle.std.specs.Str.{bytes_eq}
use Rattle.c_lang.specs.Limits.{parameter_limit}
use Rattle.c_lang.specs.Names.{Bytes}
use Rattle.c_lang.specs.Programs.{global_named, func_named}
use Rattle.c_lang.specs.declared.program.GlobalVar.{GlobalVar}
use Rattle.c_lang.specs.declared.program.Func.{Func}
use Rattle.c_types.specs.Names.{Means, Entries, found, added}
use Rattle.c_types.specs.Functions.{kinds_of, means_of_func, is_main}
use Rattle.c_types.specs.Programs.{with_global, with_globals, with_func, with_funcs, is_empty, is_start, has_main}
use Rattle.c_types.specs.Types.{IsMatch, AreNarrow, AreTypedProtos}
use Rattle.merged_program.specs.Programs.{declared}
use Rattle.merged_program.proofs.MergedNames.{by_bool, same_names, bytes_eq-refl, bytes_eq-sym}
use Rattle.merged_program.proofs.AddedNames.{found_added, added_none, none_added}
use Rattle.merged_program.proofs.MainLaws.{AreNew, StartsIt, main_starts}
use Rattle.merged_types.proofs.UnitNames.{means_of_global, found_globals, found_funcs}
use Rattle.merged_types.proofs.PlainPrograms.{AreNewGlobals, Each}

-- ---- what isn't there

mapped_nothing : {X Y : Type 0} (make : X → Y) (o : Option X) → option_map make o ≡ None → o ≡ None
mapped_nothing make None h = refl
mapped_nothing make (Some x) h = absurd cc

pub globals_none : (es : Entries) (gs : List GlobalVar) (x : Bytes) → found es x ≡ None → global_named gs x ≡ None → found (with_globals es gs) x ≡ None
globals_none es gs x h k = found_globals es gs x ∙ ap₂ option_or h (ap (option_map means_of_global) k)

pub no_global : (gs : List GlobalVar) (x : Bytes) → found (with_globals [] gs) x ≡ None → global_named gs x ≡ None
no_global gs x h = mapped_nothing means_of_global (global_named gs x) (sym (found_globals [] gs x) ∙ h)

pub funcs_none : (es : Entries) (fs : List Func) (x : Bytes) → found es x ≡ None → func_named fs x ≡ None → found (with_funcs es fs) x ≡ None
funcs_none es fs x h k = found_funcs es fs x ∙ ap₂ option_or h (ap (option_map means_of_func) k)

-- ---- lists one behind the other

pub each_append : {X : Type 0} (P : X → Type 0) (xs ys : List X) → Each P xs → Each P ys → Each P (xs ++ ys)
each_append P [] ys h k = k
each_append P (x ∷ xs) ys h k = (h.0, each_append P xs ys h.1 k)

pub each_map : {X Y : Type 0} (P : X → Type 0) (Q : Y → Type 0) (make : X → Y) → ((x : X) → P x → Q (make x)) → (xs : List X) → Each P xs → Each Q (map make xs)
each_map P Q make f [] h = tt
each_map P Q make f (x ∷ xs) h = (f x h.0, each_map P Q make f xs h.1)

pub each_from : {X : Type 0} (P Q : X → Type 0) → ((x : X) → P x → Q x) → (xs : List X) → Each P xs → Each Q xs
each_from P Q f [] h = tt
each_from P Q f (x ∷ xs) h = (f x h.0, each_from P Q f xs h.1)

pub each_both : {X : Type 0} (P Q : X → Type 0) (xs : List X) → Each P xs → Each Q xs → Each (λ x. P x × Q x) xs
each_both P Q [] h k = tt
each_both P Q (x ∷ xs) h k = ((h.0, k.0), each_both P Q xs h.1 k.1)

-- those that pass a test, with what they passed
pub each_filter : {X : Type 0} (P : X → Type 0) (p : X → Bool) (xs : List X) → Each P xs → Each (λ x. P x × (p x ≡ true)) (filter p xs)
each_filter {X} P p [] h = tt
each_filter {X} P p (x ∷ xs) h = by_test (p x) refl (each_filter P p xs h.1)
  where
    by_test : (b : Bool) → p x ≡ b → Each (λ (y : X). P y × (p y ≡ true)) (filter p xs) → Each (λ (y : X). P y × (p y ≡ true)) (if b then x ∷ filter p xs else filter p xs)
    by_test true e rest = ((h.0, e), rest)
    by_test false e rest = rest

pub new_append : (seen : Entries) (fs gs : List Func) → AreNew seen fs → AreNew (with_funcs seen fs) gs → AreNew seen (fs ++ gs)
new_append seen [] gs h k = k
new_append seen (f ∷ fs) gs h k = (h.0, new_append (with_func seen f) fs gs h.1 k)

pub new_globals_append : (seen : Entries) (xs ys : List GlobalVar) → AreNewGlobals seen xs → AreNewGlobals (with_globals seen xs) ys → AreNewGlobals seen (xs ++ ys)
new_globals_append seen [] ys h k = k
new_globals_append seen (x ∷ xs) ys h k = (h.0, new_globals_append (with_global seen x) xs ys h.1 k)

-- with less seen before
pub new_within : (seen less : Entries) → ((x : Bytes) → found seen x ≡ None → found less x ≡ None) → (fs : List Func) → AreNew seen fs → AreNew less fs
new_within seen less sub [] h = tt
new_within seen less sub (f ∷ fs) h = (
  sub f.name h.0,
  new_within (with_func seen f) (with_func less f)
      (λ x e. let parts = added_none seen f.name (means_of_func f) x e in none_added less f.name (means_of_func f) x (sub x parts.0) parts.1) fs h.1,
)

-- ---- functions under other names

module _ (name : Bytes → Bytes) (same : (x y : Bytes) → bytes_eq (name x) (name y) ≡ bytes_eq x y) where
  -- names that are free in the one are free in the other
  abbrev pub FreeToo : Entries → Entries → Type 0
  FreeToo seen seen' = (x : Bytes) → found seen x ≡ None → found seen' (name x) ≡ None

  free_added : (seen seen' : Entries) (y : Bytes) (m n : Means) → FreeToo seen seen' → FreeToo (added seen y m) (added seen' (name y) n)
  free_added seen seen' y m n h x e =
      let parts = added_none seen y m x e in none_added seen' (name y) n (name x) (h x parts.0) (same x y ∙ parts.1)

  free_skipped : (seen seen' : Entries) (y : Bytes) (m : Means) → FreeToo seen seen' → FreeToo (added seen y m) seen'
  free_skipped seen seen' y m h x e = h x (added_none seen y m x e).0

  module _ (make : Func → Func) (names : (f : Func) → (make f).name ≡ name f.name) where
    added_make : (seen seen' : Entries) (f : Func) → FreeToo seen seen' → FreeToo (with_func seen f) (with_func seen' (make f))
    added_make seen seen' f h =
        subst (λ (n : Bytes). FreeToo (with_func seen f) (added seen' n (means_of_func (make f)))) (sym (names f))
        (free_added seen seen' f.name (means_of_func f) (means_of_func (make f)) h)

    here : (seen seen' : Entries) (f : Func) → FreeToo seen seen' → found seen f.name ≡ None → found seen' (make f).name ≡ None
    here seen seen' f h e = ap (found seen') (names f) ∙ h f.name e

    pub new_made : (seen seen' : Entries) → FreeToo seen seen' → (fs : List Func) → AreNew seen fs → AreNew seen' (map make fs)
    new_made seen seen' h [] k = tt
    new_made seen seen' h (f ∷ fs) k =
        (here seen seen' f h k.0, new_made (with_func seen f) (with_func seen' (make f)) (added_make seen seen' f h) fs k.1)

    pub new_filtered : (p : Func → Bool) (seen seen' : Entries) → FreeToo seen seen' → (fs : List Func) → AreNew seen fs → AreNew seen' (map make (filter p fs))
    new_filtered p seen seen' h [] k = tt
    new_filtered p seen seen' h (f ∷ fs) k = by_test (p f)
        (new_filtered p (with_func seen f) (with_func seen' (make f)) (added_make seen seen' f h) fs k.1)
        (new_filtered p (with_func seen f) seen' (free_skipped seen seen' f.name (means_of_func f) h) fs k.1)
      where
        by_test : (b : Bool) → AreNew (with_func seen' (make f)) (map make (filter p fs)) → AreNew seen' (map make (filter p fs))
            → AreNew seen' (map make (if b then f ∷ filter p fs else filter p fs))
        by_test true kept skipped = (here seen seen' f h k.0, kept)
        by_test false kept skipped = skipped

-- ---- globals under other names

module _ (name : Bytes → Bytes) (same : (x y : Bytes) → bytes_eq (name x) (name y) ≡ bytes_eq x y) (p : Bytes → Bool)
    (make : GlobalVar → GlobalVar) (names : (g : GlobalVar) → (make g).name ≡ name g.name) where
  -- of names that pass the test
  abbrev pub FreeWhere : Entries → Entries → Type 0
  FreeWhere seen seen' = (x : Bytes) → p x ≡ true → found seen x ≡ None → found seen' (name x) ≡ None

  where_added : (seen seen' : Entries) (g : GlobalVar) → FreeWhere seen seen' → FreeWhere (with_global seen g) (with_global seen' (make g))
  where_added seen seen' g h x t e =
      let parts = added_none seen g.name (means_of_global g) x e in
      ap (λ (n : Bytes). found (added seen' n (means_of_global (make g))) (name x)) (names g)
      ∙ none_added seen' (name g.name) (means_of_global (make g)) (name x) (h x t parts.0) (same x g.name ∙ parts.1)

  pub new_globals_filtered : (seen seen' : Entries) → FreeWhere seen seen' → (gs : List GlobalVar) → AreNewGlobals seen gs
      → AreNewGlobals seen' (map make (filter (λ (g : GlobalVar). p g.name) gs))
  new_globals_filtered seen seen' h [] k = tt
  new_globals_filtered seen seen' h (g ∷ gs) k = by_test (p g.name) refl
      (new_globals_filtered (with_global seen g) (with_global seen' (make g)) (where_added seen seen' g h) gs k.1)
      (new_globals_filtered (with_global seen g) seen' (λ x t e. h x t (added_none seen g.name (means_of_global g) x e).0) gs k.1)
    where
      rest : List GlobalVar
      rest = filter (λ (g : GlobalVar). p g.name) gs

      by_test : (b : Bool) → p g.name ≡ b → AreNewGlobals (with_global seen' (make g)) (map make rest) → AreNewGlobals seen' (map make rest)
          → AreNewGlobals seen' (map make (if b then g ∷ rest else rest))
      by_test true t kept skipped = (ap (found seen') (names g) ∙ h g.name t k.0, kept)
      by_test false t kept skipped = skipped

pub new_globals_made : (name : Bytes → Bytes) → ((x y : Bytes) → bytes_eq (name x) (name y) ≡ bytes_eq x y) → (make : GlobalVar → GlobalVar)
    → ((g : GlobalVar) → (make g).name ≡ name g.name) → (seen seen' : Entries) → ((x : Bytes) → found seen x ≡ None → found seen' (name x) ≡ None)
    → (gs : List GlobalVar) → AreNewGlobals seen gs → AreNewGlobals seen' (map make gs)
new_globals_made name same make names seen seen' h [] k = tt
new_globals_made name same make names seen seen' h (g ∷ gs) k = (
  ap (found seen') (names g) ∙ h g.name k.0,
  new_globals_made name same make names (with_global seen g) (with_global seen' (make g))
      (λ x e. let parts = added_none seen g.name (means_of_global g) x e in
      ap (λ (n : Bytes). found (added seen' n (means_of_global (make g))) (name x)) (names g)
      ∙ none_added seen' (name g.name) (means_of_global (make g)) (name x) (h x parts.0) (same x g.name ∙ parts.1)) gs k.1,
)

-- ---- functions by their names

pub seen_before : (seen : Entries) (fs : List Func) → AreNew seen fs → (x : Bytes) → is_some (func_named fs x) ≡ true → found seen x ≡ None
seen_before seen [] h x s = absurd cc
seen_before seen (f ∷ fs) h x s = by_bool (bytes_eq f.name x)
    (λ e. subst (λ (y : Bytes). found seen y ≡ None) (same_names f.name x e) h.0)
    (λ e. (added_none seen f.name (means_of_func f) x
    (seen_before (with_func seen f) fs h.1 x (sym (ap (λ (b : Bool). is_some (if b then Some f else func_named fs x)) e) ∙ s))).0)

-- what is found for each function's own name
pub IsOwn : Entries → List Func → Func → Type 0
IsOwn seen fs f = (found seen f.name ≡ None) × (func_named fs f.name ≡ Some f)

pub each_own : (seen : Entries) (fs : List Func) → AreNew seen fs → Each (IsOwn seen fs) fs
unfolding IsOwn
each_own seen [] h = tt
each_own seen (f ∷ fs) h = (
  (h.0, ap (λ (b : Bool). if b then Some f else func_named fs f.name) (bytes_eq-refl f.name)),
  behind fs (each_own (with_func seen f) fs h.1),
)
  where
    behind : (gs : List Func) → Each (IsOwn (with_func seen f) fs) gs → Each (IsOwn seen (f ∷ fs)) gs
    behind [] k = tt
    behind (g ∷ gs) k =
        let parts = added_none seen f.name (means_of_func f) g.name k.0.0 in
        ((parts.0, ap (λ (b : Bool). if b then Some f else func_named fs g.name) (bytes_eq-sym f.name g.name ∙ parts.1) ∙ k.0.1), behind gs k.1)

-- what the opaque fact says
pub owned : (seen : Entries) (fs : List Func) (f : Func) → IsOwn seen fs f → (found seen f.name ≡ None) × (func_named fs f.name ≡ Some f)
unfolding IsOwn
owned seen fs f h = h

-- ---- prototypes

kept_seen : (seen : Entries) (fs : List Func) (x : Bytes) (m : Means) → found seen x ≡ Some m → found (with_funcs seen fs) x ≡ Some m
kept_seen seen fs x m h = found_funcs seen fs x ∙ ap (λ (o : Option Means). option_or o (option_map means_of_func (func_named fs x))) h

pub protos_typed : (whole seen : Entries) (fs : List Func) → ((x : Bytes) (m : Means) → found (with_funcs seen fs) x ≡ Some m → found whole x ≡ Some m)
    → AreNew seen fs → Each (λ (f : Func). (length (kinds_of f.params) ≤ parameter_limit) × AreNarrow (kinds_of f.params)) fs → AreTypedProtos whole (map declared fs)
protos_typed whole seen [] look h k = tt
protos_typed whole seen (f ∷ fs) look h k =
    let there : found (with_func seen f) f.name ≡ Some (means_of_func f) =
    found_added seen f.name f.name (means_of_func f)
    ∙ ap₂ (λ (o : Option Means) (b : Bool). option_or o (cond b (Some (means_of_func f)) None)) h.0 (bytes_eq-refl f.name) in (
      record {
        matches = subst (λ (o : Option Means). IsMatch o (declared f)) (sym (look f.name (means_of_func f) (kept_seen (with_func seen f) fs f.name (means_of_func f) there))) (refl, refl);
        few = k.0.0;
        narrow = k.0.1;
      },
      protos_typed whole (with_func seen f) fs look h.1 k.1,
    )

-- ---- the one `main`

or_right : (a b : Bool) → (a || b) ≡ true → a ≡ false → b ≡ true
or_right true b h k = absurd cc
or_right false b h k = h

pub IsStartIfMain : Func → Type 0
IsStartIfMain f = is_main f.name ≡ true → (f.gives ≡ true) × (f.params ≡ [])

-- by what its own name has
own_starts : (fs : List Func) (f : Func) → func_named fs f.name ≡ Some f → StartsIt (func_named fs (codes "main")) → IsStartIfMain f
unfolding IsStartIfMain
own_starts fs f e s m = subst StartsIt (ap (func_named fs) (sym (same_names f.name (codes "main") m)) ∙ e) s

-- of a program that can be started, each `main` gives a value and has no parameters
pub each_starts : (seen : Entries) (fs : List Func) → AreNew seen fs → has_main fs ≡ true → Each IsStartIfMain fs
each_starts seen fs h s =
    each_from (IsOwn seen fs) IsStartIfMain (λ f own. own_starts fs f (owned seen fs f own).1 (main_starts seen fs h s)) fs (each_own seen fs h)

pub main_behind : (fs gs : List Func) → has_main gs ≡ true → has_main (fs ++ gs) ≡ true
main_behind [] gs h = h
main_behind (f ∷ fs) gs h = ap (λ (b : Bool). is_start f || b) (main_behind fs gs h) ∙ or_true (is_start f)
  where
    or_true : (a : Bool) → (a || true) ≡ true
    or_true true = refl
    or_true false = refl

-- a program that can be started has a `main`
pub main_named : (fs : List Func) → has_main fs ≡ true → is_some (func_named fs (codes "main")) ≡ true
main_named [] h = absurd cc
main_named (f ∷ fs) h = by_bool (bytes_eq f.name (codes "main"))
    (λ e. ap (λ (b : Bool). is_some (if b then Some f else func_named fs (codes "main"))) e)
    (λ e. ap (λ (b : Bool). is_some (if b then Some f else func_named fs (codes "main"))) e
    ∙ main_named fs (or_right (is_start f) (has_main fs) h (ap (λ (a : Bool). a && f.gives && is_empty f.params) e)))

-- what the opaque fact says
pub starts : (f : Func) → IsStartIfMain f → is_main f.name ≡ true → (f.gives ≡ true) × (f.params ≡ [])
unfolding IsStartIfMain
starts f h = h

-- ---- globals by their names

pub IsOwnGlobal : List GlobalVar → GlobalVar → Type 0
IsOwnGlobal gs g = global_named gs g.name ≡ Some g

pub each_own_global : (seen : Entries) (gs : List GlobalVar) → AreNewGlobals seen gs → Each (λ (g : GlobalVar). (found seen g.name ≡ None) × IsOwnGlobal gs g) gs
unfolding IsOwnGlobal
each_own_global seen [] h = tt
each_own_global seen (f ∷ fs) h = (
  (h.0, ap (λ (b : Bool). if b then Some f else global_named fs f.name) (bytes_eq-refl f.name)),
  behind fs (each_own_global (with_global seen f) fs h.1),
)
  where
    behind : (gs : List GlobalVar) → Each (λ (g : GlobalVar). (found (with_global seen f) g.name ≡ None) × IsOwnGlobal fs g) gs → Each (λ (g : GlobalVar). (found seen g.name ≡ None) × IsOwnGlobal (f ∷ fs) g) gs
    behind [] k = tt
    behind (g ∷ gs) k =
        let parts = added_none seen f.name (means_of_global f) g.name k.0.0 in
        ((parts.0, ap (λ (b : Bool). if b then Some f else global_named fs g.name) (bytes_eq-sym f.name g.name ∙ parts.1) ∙ k.0.1), behind gs k.1)

pub owned_global : (gs : List GlobalVar) (g : GlobalVar) → IsOwnGlobal gs g → global_named gs g.name ≡ Some g
unfolding IsOwnGlobal
owned_global gs g h = h
