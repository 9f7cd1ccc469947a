use Rattle.std.proofs.Common.{◌≡◌, ◌++◌, flat_map, drop}
use Rattle.c_lang.specs.declared.program.GlobalVar.{GlobalVar}
use Rattle.weakest_preconditions.specs.Conditions.{known_elements}
use Rattle.initial_conditions.proofs.initial.known.Given as goal

-- the facts so far and those to come
abbrev pub invariant-loop-global : goal.invariant-loop-global
invariant-loop-global l = l.out.items ++ flat_map (λ (g : GlobalVar). known_elements l.fact g.name g.shape) (drop l.global-index l.globals)
    ≡ flat_map (λ (g : GlobalVar). known_elements l.fact g.name g.shape) l.globals
