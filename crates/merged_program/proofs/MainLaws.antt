-- The one `main` of functions with names of their own.
use Rattle.std.proofs.Common.{◌≡◌, Bool, true, false, ◌&&◌, ◌||◌, if◌then◌else◌, List, [], ◌∷◌, Option, Some, None, refl, sym, ap, ap₂, ◌∙◌, subst, codes}
use Rattle.std.specs.Prelude.{⊤}
use Rattle.std.specs.Option.{option_map}
use Rattle.std.specs.Str.{bytes_eq}
use Rattle.c_lang.specs.Names.{Bytes}
use Rattle.c_lang.specs.Kinds.{same_kinds, same_result}
use Rattle.c_lang.specs.Programs.{func_named}
use Rattle.c_lang.specs.declared.program.Func.{Func}
use Rattle.c_types.specs.Names.{Entries, found}
use Rattle.c_types.specs.Functions.{kinds_of, means_of_func, is_main, resolved_func}
use Rattle.c_types.specs.Programs.{with_func, resolved_funcs, is_empty, is_start, has_main}
use Rattle.c_types.specs.Types.{AreTypedFuncs}
use Rattle.c_types.proofs.Combined.{both_true}
use Rattle.version_names.specs.Links.{both_alike, same_head}
use Rattle.merged_program.proofs.MergedNames.{by_bool, true_false, same_names, bytes_eq-sym}
use Rattle.merged_program.proofs.AddedNames.{added_none}

-- no function has a name that is seen before
abbrev pub AreNew : Entries → List Func → Type 0
AreNew seen [] = ⊤
AreNew seen (f ∷ fs) = (found seen f.name ≡ None) × AreNew (with_func seen f) fs

-- ---- the one that starts the program

abbrev pub StartsIt : Option Func → Type 0
StartsIt None = ⊥
StartsIt (Some f) = (f.gives ≡ true) × (f.params ≡ [])

pub empty_is : {X : Type 0} (xs : List X) → is_empty xs ≡ true → xs ≡ []
empty_is [] h = refl
empty_is (x ∷ xs) h = absurd cc

start_is : (f : Func) → is_start f ≡ true → StartsIt (Some f)
start_is f h =
    let parts = both_true (is_main f.name && f.gives) (is_empty f.params) h in
    ((both_true (is_main f.name) f.gives parts.0).1, empty_is f.params parts.1)

-- behind a `main` there is no other
no_other : (seen : Entries) (fs : List Func) → (found seen (codes "main") ≡ None → ⊥) → AreNew seen fs → has_main fs ≡ false
no_other seen [] told h = refl
no_other seen (f ∷ fs) told h = by_bool (is_main f.name)
    (λ e. absurd (told (subst (λ (x : Bytes). found seen x ≡ None) (same_names f.name (codes "main") e) h.0)))
    (λ e. ap (λ (b : Bool). (b && f.gives && is_empty f.params) || has_main fs) e
    ∙ no_other (with_func seen f) fs (λ k. told (added_none seen f.name (means_of_func f) (codes "main") k).0) h.1)

-- the `main` of a program that can be started gives a value and has no parameters
pub main_starts : (seen : Entries) (fs : List Func) → AreNew seen fs → has_main fs ≡ true → StartsIt (func_named fs (codes "main"))
main_starts seen [] h s = absurd cc
main_starts seen (f ∷ fs) h s = by_bool (is_main f.name)
    (λ e. subst StartsIt (sym (ap (λ (b : Bool). if b then Some f else func_named fs (codes "main")) e))
    (start_is f (or_left (is_start f) s (no_other (with_func seen f) fs
    (λ k. let parts = added_none seen f.name (means_of_func f) (codes "main") k in
    true_false (sym (bytes_eq-sym (codes "main") f.name ∙ e) ∙ parts.1)) h.1))))
    (λ e. subst StartsIt (sym (ap (λ (b : Bool). if b then Some f else func_named fs (codes "main")) e))
    (main_starts (with_func seen f) fs h.1 (sym (ap (λ (b : Bool). (b && f.gives && is_empty f.params) || has_main fs) e) ∙ s)))
  where
    or_left : (a : Bool) → (a || has_main fs) ≡ true → has_main fs ≡ false → a ≡ true
    or_left true s none = refl
    or_left false s none = absurd (true_false (sym s ∙ none))

-- two of them have the same head
pub starts_alike : (a b : Option Func) → StartsIt a → StartsIt b → both_alike same_head a b ≡ true
starts_alike None b h k = absurd h
starts_alike (Some f) None h k = absurd k
starts_alike (Some f) (Some g) h k =
    ap₂ (λ ps qs. same_kinds (kinds_of ps) (kinds_of qs) && same_result f.gives g.gives) h.1 k.1 ∙ ap₂ same_result h.0 k.0

-- ---- the resolved form

pub new_funcs : (outside seen : Entries) (fs : List Func) → AreTypedFuncs outside false seen fs → AreNew seen (resolved_funcs outside false fs)
new_funcs outside seen [] h = tt
new_funcs outside seen (f ∷ fs) h = (h.0, new_funcs outside (with_func seen f) fs h.2)

pub same_start : (outside : Entries) (xform : Bool) (fs : List Func) → has_main (resolved_funcs outside xform fs) ≡ has_main fs
same_start outside xform [] = refl
same_start outside xform (f ∷ fs) = ap (λ (b : Bool). is_start f || b) (same_start outside xform fs)

pub resolved_named : (outside : Entries) (xform : Bool) (fs : List Func) (n : Bytes)
    → func_named (resolved_funcs outside xform fs) n ≡ option_map (resolved_func outside xform) (func_named fs n)
resolved_named outside xform [] n = refl
resolved_named outside xform (f ∷ fs) n = by_test (bytes_eq f.name n) (resolved_named outside xform fs n)
  where
    by_test : (b : Bool) → func_named (resolved_funcs outside xform fs) n ≡ option_map (resolved_func outside xform) (func_named fs n)
        → (if b then Some (resolved_func outside xform f) else func_named (resolved_funcs outside xform fs) n)
        ≡ option_map (resolved_func outside xform) (if b then Some f else func_named fs n)
    by_test true e = refl
    by_test false e = e
