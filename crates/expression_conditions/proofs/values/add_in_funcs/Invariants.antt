use Rattle.std.proofs.Common.{◌≡◌, ◌||◌, drop}
use Rattle.c_lang.specs.Names.{Bytes}
use Rattle.expression_conditions.specs.Candidates.{some_body_names}
use Rattle.expression_conditions.specs.Code.Sets.{has}
use Rattle.expression_conditions.proofs.values.add_in_funcs.Given as goal

abbrev pub invariant-loop-func : goal.invariant-loop-func
invariant-loop-func l = (x : Bytes) → (some_body_names x l.funcs || has l.initial.set x) ≡ (some_body_names x (drop l.func-index l.funcs) || has l.set x)
