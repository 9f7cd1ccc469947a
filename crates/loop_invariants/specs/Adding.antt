-- An invariant that is added to a loop.
use Rattle.std.specs.Prelude.{ℕ, ◌==◌, Bool, false, ◌&&◌, if◌then◌else◌, List, [], ◌∷◌, ◌++◌, Option, Some, None}
use Rattle.std.specs.Str.{bytes_eq}
use Rattle.c_lang.specs.Names.{Bytes}
use Rattle.c_lang.specs.declared.program.Program.{Program}
use Rattle.terms.specs.declared.fact.Fact.{Fact}
use Rattle.loop_invariants.specs.declared.hints.LoopInvariants.{LoopInvariants}
use Rattle.loop_invariants.specs.Hints.{Hints}
use Rattle.loop_invariants.specs.Clauses.{Place, loop_place, may_stand}

abbrev pub may_stand_at : Program → Option Place → Fact → Bool
may_stand_at p None fact = false
may_stand_at p (Some at) fact = may_stand p at fact

-- the function has that loop, and the fact may stand there
abbrev pub may_be_added : Program → Bytes → ℕ → Fact → Bool
may_be_added p func number fact = may_stand_at p (loop_place p func number) fact

abbrev pub is_of : Bytes → ℕ → LoopInvariants → Bool
is_of func number l = (l.number == number) && bytes_eq l.func func

-- behind the invariants that the loop has
abbrev pub with_invariant : List LoopInvariants → Bytes → ℕ → Fact → List LoopInvariants
with_invariant [] func number fact = (record { func = func; number = number; facts = fact ∷ [] }) ∷ []
with_invariant (l ∷ ls) func number fact = if is_of func number l
    then record l { facts = l.facts ++ (fact ∷ []) } ∷ ls
    else l ∷ with_invariant ls func number fact

abbrev pub added : Hints → Bytes → ℕ → Fact → Hints
added hints func number fact = record hints { loops = with_invariant hints.loops func number fact }

-- the hints behind `Hints::add`, by its answer
abbrev pub added_if : Bool → Hints → Bytes → ℕ → Fact → Hints
added_if done hints func number fact = if done then added hints func number fact else hints
