-- Lists that are read a part at a time.
use Rattle.std.specs.Prelude.{⊤, ◌≡◌, ℕ, zero, suc, List, [], ◌∷◌, length, Option, Some, None, Result, Ok, Err}
use Rattle.formula_texts.specs.Grammar.{◌>>=◌}
use Rattle.hint_texts.specs.declared.fault.Fault.{Fault}
use Rattle.hint_texts.specs.declared.fault.Fault.TheVariants as fault

-- a function answered what reading gives, unless memory ran out
abbrev pub Fails : {Y : Type 0} → Fault → Option Y → Type 0
Fails fault.NoMemory read = ⊤
Fails (fault.NoText line) read = read ≡ None

abbrev pub Gives : {X Y : Type 0} → (X → Y) → Result X Fault → Option Y → Type 0
Gives view (Ok x) read = read ≡ Some (view x)
Gives view (Err e) read = Fails e read

-- reads the first part, and gives what follows it
abbrev pub Step : Type 0 → Type 0 → Type 0
Step A B = List A → Option (B × List A)

-- the number bounds the turns
unfoldable pub all : {A B : Type 0} → Step A B → ℕ → List A → Option (List B)
all step k [] = Some []
all step zero (x ∷ xs) = None
all step (suc k) (x ∷ xs) = step (x ∷ xs) >>= λ s. all step k s.1 >>= λ bs. Some (s.0 ∷ bs)

abbrev pub parts_in : {A B : Type 0} → Step A B → List A → Option (List B)
parts_in step xs = all step (length xs) xs
