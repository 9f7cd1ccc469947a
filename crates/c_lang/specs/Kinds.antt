-- When kinds and results are the same.
use Rattle.std.specs.Prelude.{Bool, true, false, ◌&&◌, ◌==◌, List, [], ◌∷◌}
use Rattle.c_lang.specs.declared.stmt.Kind.{Kind}
use Rattle.c_lang.specs.declared.stmt.Kind.TheVariants as kind

abbrev pub same_kind : Kind → Kind → Bool
same_kind kind.Int kind.Int = true
same_kind (kind.Fp m) (kind.Fp n) = m == n
same_kind _ _ = false

abbrev pub same_kinds : List Kind → List Kind → Bool
same_kinds [] [] = true
same_kinds (k ∷ ks) (l ∷ ls) = same_kind k l && same_kinds ks ls
same_kinds _ _ = false

-- both functions give a value, or neither does
abbrev pub same_result : Bool → Bool → Bool
same_result true gives = gives
same_result false true = false
same_result false false = true
