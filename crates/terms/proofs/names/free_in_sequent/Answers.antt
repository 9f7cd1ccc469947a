use Rattle.std.proofs.Common.{◌∙◌, [], ◌++◌, sym, ap, flat_map}
use Rattle.terms.specs.Names.{fact_names, with_names}
use Rattle.terms.proofs.FreeLaws.{with_names-append, with_names-distinct}
use Rattle.terms.proofs.names.free_in_sequent.Goals as goal

pub returns : goal.returns
returns c =
    c.in_ok-add_fact.ensures ∙ ap (λ names. with_names names (fact_names c.args.goal.now)) (c.in_ok-add_facts.ensures ∙ ap (λ names. with_names names (flat_map fact_names c.args.hyps.now)) c.new-names.ensures.items)
    ∙ sym (with_names-append [] (flat_map fact_names c.args.hyps.now) (fact_names c.args.goal.now))
    ∙ with_names-distinct (flat_map fact_names c.args.hyps.now ++ fact_names c.args.goal.now)
