-- Lists that are cut into parts.
use Rattle.std.specs.Prelude.{List, [], ◌∷◌, ◌++◌}

-- The list is a row of parts, one behind the other. `Is` says which part a piece of the list is, where rest follows it.
pub data AreParts {A B : Type 0} (Is : List A → List A → B → Type 0) : List A → List B → Type 0 where
  ends : AreParts Is [] []
  goes : (front rest : List A) (part : B) (parts : List B)
      → Is rest front part → AreParts Is rest parts → AreParts Is (front ++ rest) (part ∷ parts)
