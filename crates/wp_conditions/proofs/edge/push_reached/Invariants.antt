use Rattle.std.proofs.Common.{◌≡◌, ◌++◌, map, reverse}
use Rattle.c_lang.specs.declared.program.Func.{Func}
use Rattle.annotated_bodies.specs.Seen.{seen_annotated}
use Rattle.wp_conditions.specs.Code.Edges.{reached}
use Rattle.wp_conditions.specs.Code.Waiting.{seen_stack, at_mark}
use Rattle.wp_conditions.proofs.edge.push_reached.Given as goal

-- the functions that it came to, in their order
abbrev pub invariant-loop-func : goal.invariant-loop-func
invariant-loop-func l = seen_stack l.waiting.items
    ≡ at_mark l.mark (map (λ f. (reached (seen_annotated l.annotated) f, l.first)) (map (λ (d : Func). d.name) (map (λ f. f.now) (reverse (map (λ y. y.now) l.yielded)))))
    ++ seen_stack l.initial.waiting.items
