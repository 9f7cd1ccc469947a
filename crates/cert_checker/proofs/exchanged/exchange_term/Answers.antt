use Rattle.std.proofs.Common.{◌≡◌, ◌∙◌, ◌∷◌, ◌++◌, ◌<◌, true, false, reverse, ap, sym}
use Rattle.std.specs.Cmp.Lexicographic.{pointwise}
use Rattle.terms.specs.Equality.{same_node, same_term}
use Rattle.cert_checker.specs.declared.part.Part.TheVariants as part
use Rattle.cert_checker.specs.Code.Parts.{opened_term}
use Rattle.cert_checker.specs.Code.Exchanging.{exchanged_after, parts_work}
use Rattle.cert_checker.proofs.ExchangeLaws.{term_exchanged, term_left, term_less, term_some, fewer, on-one, on-both}
use Rattle.cert_checker.proofs.exchanged.exchange_term.Goals as goal

pub returns-then-eq-clause-made : goal.returns-then-eq-clause-made
returns-then-eq-clause-made c =
    let same : same_term c.args.from.now c.args.term ≡ true = (λ i. pointwise same_node (sym c.nodes.ensures i) (sym c.nodes-2.ensures i)) ∙ sym c.eq.ensures ∙ c.if-eq.true in
    on-one c.put_copies.result c.put_copies.ensures (λ put. ap (exchanged_after c.args.from.now c.args.to.now (reverse c.args.parts.now.items)) (put ∙ ap (λ ns. c.args.out.now.items ++ ns) c.nodes-then-eq.ensures)
    ∙ term_exchanged c.args.from.now c.args.to.now c.args.term (reverse c.args.parts.now.items) c.args.out.now.items same)

pub returns-then-eq-clause-less : goal.returns-then-eq-clause-less
returns-then-eq-clause-less c = on-one c.put_copies.result c.put_copies.ensures (λ put. term_some c.args.term (reverse c.args.parts.now.items))

pub returns-clause-made : goal.returns-clause-made
returns-clause-made c =
    let other : same_term c.args.from.now c.args.term ≡ false = (λ i. pointwise same_node (sym c.nodes.ensures i) (sym c.nodes-2.ensures i)) ∙ sym c.eq.ensures ∙ c.if-eq.false in
    on-both c.take_term.result c.take_term.ensures.parts c.take_term.ensures.leaf
    (term_left c.args.from.now c.args.to.now c.args.term (reverse c.args.parts.now.items) (reverse c.take_term.new.parts.items) c.args.out.now.items c.take_term.new.out.items other)

pub returns-clause-less : goal.returns-clause-less
returns-clause-less c = on-one c.take_term.result c.take_term.ensures.parts
    (λ e. fewer (parts_work (reverse c.take_term.new.parts.items)) (parts_work (opened_term c.args.term ++ reverse c.args.parts.now.items)) (parts_work (part.Term c.args.term ∷ reverse c.args.parts.now.items))
    (ap parts_work e) (term_less c.args.term (reverse c.args.parts.now.items)))
