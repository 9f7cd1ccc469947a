-- What a function's text has declared so far, how many temporaries were made for it, and what its
-- declarations are refused for.
use Rattle.std.specs.Prelude.{ℕ, ◌+◌, nat_lt, if◌then◌else◌, Bool, true, false, bytes_eq, List, [], ◌∷◌, ◌++◌, codes}
use Rattle.std.specs.List.{list_any}
use Rattle.std.specs.Fmt.{decimal}
use Rattle.c_lang.specs.Names.{Bytes}
use Rattle.c_lang.specs.Limits.{parameter_limit}
use Rattle.c_lang.specs.Refusals.{refused_at, past_limit}
use Rattle.c_lang.specs.declared.unit.Unit.{Unit}
use Rattle.c_lang.specs.declared.unit.Unit.TheVariants as unit
use Rattle.c_lang.specs.declared.unit.Pos.{Pos}
use Rattle.c_lang.specs.declared.refusal.Refusal.{Refusal}

pub record Scope : Type 0 where
  pub count : ℕ
  pub declared : List Bytes
  pub early : List Refusal

abbrev pub is_declared : Scope → Bytes → Bool
is_declared scope x = list_any (bytes_eq x) scope.declared

abbrev pub declare : Scope → Bytes → Scope
declare scope x = record {
  count = scope.count;
  declared = if is_declared scope x then scope.declared else scope.declared ++ x ∷ [];
  early = scope.early;
}

abbrev pub one_more : Scope → Scope
one_more scope = record { count = scope.count + 1; declared = scope.declared; early = scope.early }

unfoldable pub temporary : ℕ → Bytes
temporary n = codes "dsu_t" ++ decimal n

-- a pointer of this many parameters, or of one more than the limit where it has more
abbrev pub arity_refusals : Pos → ℕ → List Refusal
arity_refusals p arity = if nat_lt parameter_limit arity then refused_at past_limit p ∷ [] else []

abbrev pub refuse_arity : Scope → Pos → ℕ → Scope
refuse_arity scope p arity = record { count = scope.count; declared = scope.declared; early = scope.early ++ arity_refusals p arity }

abbrev pub is_merge : Unit → Bool
is_merge unit.Merge = true
is_merge _ = false

abbrev pub is_client : Unit → Bool
is_client unit.Client = true
is_client _ = false
