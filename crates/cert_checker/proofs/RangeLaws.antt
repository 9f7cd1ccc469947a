-- The first entry of a list that gives something.
use Rattle.std.proofs.Common.{◌≡◌, ◌∙◌, cond, List, [], ◌∷◌, Option, Some, None, filter_map, ap, refl}
use Rattle.std.specs.Prelude.{slice_get, find, is_some, option_and_then}
use Rattle.std.specs.List.{cons_option}

pub first-given : {X Y : Type 0} (give : X → Option Y) (xs : List X) → option_and_then give (find (λ x. is_some (give x)) xs) ≡ slice_get (filter_map give xs) 0
first-given give [] = refl
first-given {X = X} {Y = Y} give (x ∷ xs) = go (give x) refl (first-given give xs)
  where
    go : (o : Option Y) → give x ≡ o → option_and_then give (find (λ x. is_some (give x)) xs) ≡ slice_get (filter_map give xs) 0
        → option_and_then give (cond (is_some o) (Some x) (find (λ x. is_some (give x)) xs)) ≡ slice_get (cons_option o (filter_map give xs)) 0
    go None is later = later
    go (Some y) is later = is

pub some-given : {X Y : Type 0} (give : X → Option Y) (xs : List X) (x : X) → Some x ≡ find (λ x. is_some (give x)) xs → give x ≡ slice_get (filter_map give xs) 0
some-given give xs x e = ap (option_and_then give) e ∙ first-given give xs

pub none-given : {X Y : Type 0} (give : X → Option Y) (xs : List X) → None ≡ find (λ x. is_some (give x)) xs → None ≡ slice_get (filter_map give xs) 0
none-given give xs e = ap (option_and_then give) e ∙ first-given give xs
