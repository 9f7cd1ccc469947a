-- What is added for one function.
use Rattle.std.specs.Prelude.{◌≡◌, ◌<◌, ◌≤◌, Bool, true, false, List, length, Option}
use Rattle.c_lang.specs.declared.program.Func.{Func}
use Rattle.terms.specs.declared.sequent.Sequent.{Sequent}
use Rattle.weakest_preconditions.specs.Conditions.{function_conditions, condition_limit}
use Rattle.loop_invariants.specs.Context.{context_of}
use Rattle.annotated_bodies.specs.Sources.{Sources}
use Rattle.wp_conditions.specs.Code.Growing.{grown}

-- all of its conditions, or nothing, since there are too many
abbrev pub IsAdded : Sources → Func → (old new : Option (List Sequent)) → Bool → Type 0
IsAdded s f old new true = (length (function_conditions (context_of s.0 s.1) f) ≤ condition_limit)
    × (new ≡ grown s.0 f old (function_conditions (context_of s.0 s.1) f))
IsAdded s f old new false = condition_limit < length (function_conditions (context_of s.0 s.1) f)
