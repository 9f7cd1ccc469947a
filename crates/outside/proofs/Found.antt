-- What `find` finds in a list of pairs is what is looked up in it.
use Rattle.std.proofs.Common.{◌≡◌, ◌∙◌, refl, ap, ℕ, Bool, true, false, cond, List, [], ◌∷◌, map, Option, Some, find, option_map, ◌==◌, String, Vec}
use Rattle.std.specs.declared.alloc.Global.{Global}
use Rattle.outside.specs.MemFiles.{held_in}
use Rattle.outside.specs.MemSink.{listed_for}
use Rattle.outside.specs.Named.{named, has_name}

option_map-cond : {X Y : Type 0} (f : X → Y) (test : Bool) (x : X) (rest : Option X) → option_map f (cond test (Some x) rest) ≡ cond test (Some (f x)) (option_map f rest)
option_map-cond f true x rest = refl
option_map-cond f false x rest = refl

held_in-find : (name : List ℕ) (files : List (String Global × Vec ℕ Global)) → option_map (λ (pair : String Global × Vec ℕ Global). pair.1.items) (find (has_name name) files) ≡ held_in (map named files) name
held_in-find name [] = refl
held_in-find name (pair ∷ files) =
    option_map-cond _ (has_name name pair) pair _ ∙ ap (cond (has_name name pair) (Some pair.1.items)) (held_in-find name files)

pub held-found : (name : List ℕ) (files : List (String Global × Vec ℕ Global)) (found : Option (String Global × Vec ℕ Global)) → found ≡ find (has_name name) files → option_map (λ (pair : String Global × Vec ℕ Global). pair.1.items) found ≡ held_in (map named files) name
held-found name files found is = ap (option_map (λ (pair : String Global × Vec ℕ Global). pair.1.items)) is ∙ held_in-find name files

listed_for-find : (call : ℕ) (failing : List (ℕ × ℕ)) → option_map (λ (pair : ℕ × ℕ). pair.1) (find (λ (pair : ℕ × ℕ). pair.0 == call) failing) ≡ listed_for failing call
listed_for-find call [] = refl
listed_for-find call (pair ∷ failing) =
    option_map-cond _ (pair.0 == call) pair _ ∙ ap (cond (pair.0 == call) (Some pair.1)) (listed_for-find call failing)

pub listed-found : (call : ℕ) (failing : List (ℕ × ℕ)) (found : Option (ℕ × ℕ)) → found ≡ find (λ (pair : ℕ × ℕ). pair.0 == call) failing → option_map (λ (pair : ℕ × ℕ). pair.1) found ≡ listed_for failing call
listed-found call failing found is = ap (option_map (λ (pair : ℕ × ℕ). pair.1)) is ∙ listed_for-find call failing
