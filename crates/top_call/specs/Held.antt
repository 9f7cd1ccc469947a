-- The texts of the files that a request names.
use Rattle.std.specs.Prelude.{◌≡◌, ℕ, ◌+◌, List, Option, IfSome, take, IfErr, Result, Contains}
use Rattle.c_lang.specs.Limits.{size_limit}
use Rattle.c_lang.specs.declared.unit.Unit.{Unit}
use Rattle.outside.specs.Counts.{Rose}
use Rattle.top_call.specs.Words.{Text}
use Rattle.top_call.specs.declared.stop.Stop.{Stop}
use Rattle.top_call.specs.declared.stop.Stop.TheVariants.{ReadFailed}

-- Where the files tell what they hold under the name, the text is that, up to one byte past the
-- unit's limit.
abbrev pub IsHeld : (Text → Option Text) → Unit → Text → Text → Type 0
IsHeld held unit name text = IfSome (held name) (λ all. text ≡ take (size_limit unit + 1) all)

-- A failed read has its fault, and asked for one of the names.
abbrev pub HasReadCause : {T : Type 0} → List Text → ℕ → ℕ → Text → Result T Stop → Type 0
HasReadCause names before now asked result =
    IfErr result (λ stop. stop ≡ ReadFailed → Rose before now × Contains names asked)
