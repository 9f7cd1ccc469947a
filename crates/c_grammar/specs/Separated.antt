-- Parts with a comma between each and the next.
use Rattle.std.specs.Prelude.{List, [], ◌∷◌, ◌++◌}
use Rattle.c_grammar.specs.declared.token.Token.{Token}
use Rattle.c_grammar.specs.Tokens.{At, mark, comma}

pub data Separated (T : Type 0) : Type 0 where
  last : T → Separated T
  more : T → At → Separated T → Separated T

abbrev pub parts_of : {T : Type 0} → Separated T → List T
parts_of (last t) = t ∷ []
parts_of (more t at ts) = t ∷ parts_of ts

abbrev pub separated_tokens : {T : Type 0} → (T → List Token) → Separated T → List Token
separated_tokens tokens (last t) = tokens t
separated_tokens tokens (more t at ts) = tokens t ++ (mark comma at ∷ separated_tokens tokens ts)

abbrev pub Each : {T : Type 0} → (T → Type 0) → Separated T → Type 0
Each P (last t) = P t
Each P (more t at ts) = P t × Each P ts
