use Rattle.std.proofs.Common.{◌≡◌, ◌+◌, map, drop}
use Rattle.weakest_preconditions.specs.Counted.{asked_count}
use Rattle.annotated_bodies.specs.Sources.{context_in}
use Rattle.control_flow.specs.Kept.{capped}
use Rattle.control_flow.proofs.counts.Counting.needed_by.Given as goal

abbrev pub invariant-loop-func : goal.invariant-loop-func
invariant-loop-func l = record {
  fits : capped l.count ≡ l.count;
  whole : capped (l.count + asked_count (context_in l.self.context.now) (map (λ d. d.name) (map (λ f. f.now) (drop l.func-index l.funcs))))
      ≡ capped (asked_count (context_in l.self.context.now) (map (λ d. d.name) (map (λ f. f.now) l.funcs)));
}
