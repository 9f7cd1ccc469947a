use Rattle.std.proofs.Common.{◌≡◌, drop, flat_map}
use Rattle.terms.specs.Names.{fact_names, with_names}
use Rattle.terms.proofs.names.add_facts.Given as goal

abbrev pub invariant-loop-fact : goal.invariant-loop-fact
invariant-loop-fact l =
    with_names l.initial.names.items (flat_map fact_names l.facts)
    ≡ with_names l.names.items (flat_map fact_names (drop l.fact-index l.facts))
