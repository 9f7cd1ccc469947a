-- Parameters that are bound from the last to the first.
use Rattle.std.proofs.Common.{◌≡◌, ℕ, zero, suc, slice_get, map, ◌+◌, ◌-◌, ◌<◌, ◌≤◌, length, get_or, if◌then◌else◌, List, [], ◌∷◌, drop, Option, Some, refl, sym, ap, ap₂, ◌∙◌, arith}
use Rattle.std.proofs.lemmas.List.{drop-drop}
use Rattle.std.specs.Borrow.{Bor}
use Rattle.std.specs.Option.{option_map}
use Rattle.std.specs.Str.{bytes_eq}
use Rattle.indexmap.specs.IndexMap.{insert_entry}
use Rattle.c_lang.specs.Names.{Bytes}
use Rattle.c_lang.specs.Values as spec
use Rattle.plain_run.specs.Environments.{Sees, func_or_none, seen_definition}
use Rattle.plain_run.specs.Steps.{Access, Item, Does, Locals, bound, frame_of, updated}
use Rattle.c_lang.specs.declared.program.Func.{Func}
use Rattle.c_lang.specs.declared.stmt.Dest.{Dest}
use Rattle.plain_run.specs.declared.environment.Definition.{Definition}
use Rattle.plain_run.specs.Code.Frames.{frame_with}
use Rattle.c_lang.specs.declared.stmt.Kind.{Kind}
use Rattle.plain_run.specs.declared.value.Value.{Value}
use Rattle.plain_run.specs.Code.Calls.{first_or_zero}
use Rattle.plain_run.specs.Code.Names.{Entries, seen_locals}
use Rattle.plain_run.specs.Values.{seen_value}
use Rattle.plain_run.proofs.StoreLaws.{all_names}
use Rattle.plain_run.proofs.TableLaws.{drop-front, same_name, seen-insert}

bound-first : {F : Type 0} (p : Kind × Bytes) (ps : List (Kind × Bytes)) (vs : List (spec.Value F)) (x : Bytes)
    → bound (p ∷ ps) vs x ≡ updated (bound ps (drop 1 vs)) p.1 (Some (first_or_zero vs)) x
bound-first p ps [] x = refl
bound-first p ps (v ∷ vs) x = refl

pub bound-more : {X F : Type 0} (see : X → F) (old new : List (Bor Bytes × Value X)) (k : Bor Bytes) (v : Value X) (p : Kind × Bytes) (ps : List (Kind × Bytes)) (n : ℕ) (vs : List (spec.Value F))
    → 0 < n → new ≡ insert_entry same_name old k v → k.now ≡ p.1 → seen_value see v ≡ first_or_zero (drop (n - 1) vs)
    → ((x : Bytes) → seen_locals see old x ≡ bound ps (drop n vs) x) → (x : Bytes) → seen_locals see new x ≡ bound (p ∷ ps) (drop (n - 1) vs) x
bound-more {F = F} see old new k v p ps n vs low is name value before x =
    let next : (n - 1) + 1 ≡ n = omega arith in
    ap (λ entries. seen_locals see entries x) is ∙ seen-insert (option_map (seen_value see)) old k v x
    ∙ ap₂ (λ m w. if bytes_eq m x then Some w else seen_locals see old x) name value
    ∙ ap (λ (r : Option (spec.Value F)). if bytes_eq p.1 x then Some (first_or_zero (drop (n - 1) vs)) else r)
    (before x ∙ ap (λ ws. bound ps ws x) (sym (drop-drop 1 (n - 1) vs ∙ ap (λ m. drop m vs) next)))
    ∙ sym (bound-first p ps (drop (n - 1) vs) x)

-- a turn of the loop that binds them
pub bound-front : {X F : Type 0} (see : X → F) (old new : List (Bor Bytes × Value X)) (k : Bor Bytes) (v : Value X) (ps : List (Kind × Bytes)) (n : ℕ) (p : Kind × Bytes) (vs : List (spec.Value F))
    → 0 < n → n ≤ length ps → p ≡ get_or ps (n - 1) p → new ≡ insert_entry same_name old k v → k.now ≡ p.1 → seen_value see v ≡ first_or_zero (drop (n - 1) vs)
    → ((x : Bytes) → seen_locals see old x ≡ bound (drop n ps) (drop n vs) x) → (x : Bytes) → seen_locals see new x ≡ bound (drop (n - 1) ps) (drop (n - 1) vs) x
bound-front see old new k v ps n p vs low high at is name value before x =
    bound-more see old new k v p (drop n ps) n vs low is name value before x
    ∙ ap (λ (qs : List (Kind × Bytes)). bound qs (drop (n - 1) vs) x) (sym (drop-front ps n p low high at))

pub argument_at : {X F : Type 0} (see : X → F) (args : List (Value X)) (n : ℕ) (v : Value X) → Some v ≡ slice_get args n
    → seen_value see v ≡ first_or_zero (drop n (map (seen_value see) args))
argument_at see [] n v is = cc
argument_at {F = F} see (a ∷ args) zero v is = let same : v ≡ a = cc in ap (seen_value {F = F} see) {x = v} {y = a} same
argument_at see (a ∷ args) (suc n) v is = argument_at see args n v is

-- the frame of a function that is declared
pub frame-declared : {X Y F G O : Type 0} (see : Sees X Y F O) (N : Access F G O) (d : Definition Y) (f : Bor Func) (vs : List (spec.Value F)) (dest : Dest)
    (locals : Entries X) (items : List Item) → d.func ≡ Some f → ((x : Bytes) → seen_locals see.function locals x ≡ bound f.now.params vs x) → items ≡ map Does f.now.body
    → frame_with (see.origin d.origin) (seen_locals see.function locals) items dest f.now.gives ≡ frame_of N (seen_definition see.origin d) vs dest
frame-declared {F = F} see N d f vs dest locals items is bound_there runs =
    ap₂ (λ (l : Locals F) (i : List Item). frame_with (see.origin d.origin) l i dest f.now.gives) (all_names _ _ bound_there) runs
    ∙ ap (λ (o : Option (Bor Func)). frame_of N (see.origin d.origin, func_or_none o) vs dest) (sym is)
