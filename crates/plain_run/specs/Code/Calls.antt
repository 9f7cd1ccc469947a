-- Arguments.
use Rattle.std.specs.Prelude.{pos, Bool, List, [], ◌∷◌, ◌++◌, map, Result, Ok, Err, Vec}
use Rattle.std.specs.declared.alloc.Global.{Global}
use Rattle.c_lang.specs.Evaluation.{Look, ev}
use Rattle.c_lang.specs.Trees.{expression_of}
use Rattle.c_lang.specs.Values as spec
use Rattle.c_lang.specs.declared.event.Trap.{Trap}
use Rattle.c_lang.specs.declared.expr.Expr.{Expr}
use Rattle.plain_run.specs.declared.value.Value.{Value}
use Rattle.plain_run.specs.Values.{seen_value}

abbrev pub first_or_zero : {F : Type 0} → List (spec.Value F) → spec.Value F
first_or_zero [] = spec.Num (pos 0)
first_or_zero (v ∷ vs) = v

-- the values, or the first trap
abbrev pub Arguments : Type 0 → Type 0
Arguments F = Result (List (spec.Value F)) Trap

abbrev pub seen_arguments : {X F : Type 0} → (X → F) → Result (Vec (Value X) Global) Trap → Arguments F
seen_arguments see (Ok values) = Ok (map (seen_value see) values.items)
seen_arguments see (Err t) = Err t

-- these values, and then what the others are
abbrev pub after_values : {F : Type 0} → List (spec.Value F) → Arguments F → Arguments F
after_values vs (Ok ws) = Ok (vs ++ ws)
after_values vs (Err t) = Err t

abbrev pub after_value : {F : Type 0} → spec.Answer F → Arguments F → Arguments F
after_value (Ok v) ws = after_values (v ∷ []) ws
after_value (Err t) ws = Err t

-- from left to right; `same` compares functions
abbrev pub values_in : {F : Type 0} → (F → F → Bool) → Look F → List Expr → Arguments F
values_in same look [] = Ok []
values_in same look (e ∷ es) = after_value (ev same look (expression_of e)) (values_in same look es)
