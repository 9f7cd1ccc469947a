use Rattle.loop_invariants.specs.Clauses.{Names, may_be_term, may_be_array}
use Rattle.loop_invariants.specs.Code.Allowed.{seen_under}
use Rattle.loop_invariants.proofs.Operands.{both_hold, first_fails, terms_under, element_under}
use Rattle.loop_invariants.proofs.clauses.Allowed.+term.Goals as goal

pub terms-returns-then-term : goal.terms-returns-then-term
terms-returns-then-term n c =
    let names : Names = seen_under c.args.inside c.args.self.now in
    terms_under names c.args.operators c.in-Some.below c.in-Some.ensures.0 c.in-Some.ensures.1 c.args.left.now c.args.right.now c.term-then-term.result
    (both_hold (may_be_term names c.in-Some.below c.args.left.now) (may_be_term names c.in-Some.below c.args.right.now) c.term.result c.term-then-term.result
    c.term.ensures c.if-term.true c.term-then-term.ensures)

pub terms-returns-else-term : goal.terms-returns-else-term
terms-returns-else-term n c =
    let names : Names = seen_under c.args.inside c.args.self.now in
    terms_under names c.args.operators c.in-Some.below c.in-Some.ensures.0 c.in-Some.ensures.1 c.args.left.now c.args.right.now c.term.result
    (first_fails (may_be_term names c.in-Some.below c.args.left.now) (may_be_term names c.in-Some.below c.args.right.now) c.term.result c.term.ensures c.if-term.false)

pub element-returns-then-array : goal.element-returns-then-array
element-returns-then-array n c =
    let names : Names = seen_under c.args.inside c.args.self.now in
    element_under names c.args.operators c.in-Some.below c.in-Some.ensures.0 c.in-Some.ensures.1 c.args.array.now c.args.index.now c.term.result
    (both_hold (may_be_array names c.args.array.now) (may_be_term names c.in-Some.below c.args.index.now) c.array.result c.term.result
    (c.array.ensures c.args.inside) c.if-array.true c.term.ensures)

pub element-returns-else-array : goal.element-returns-else-array
element-returns-else-array n c =
    let names : Names = seen_under c.args.inside c.args.self.now in
    element_under names c.args.operators c.in-Some.below c.in-Some.ensures.0 c.in-Some.ensures.1 c.args.array.now c.args.index.now c.array.result
    (first_fails (may_be_array names c.args.array.now) (may_be_term names c.in-Some.below c.args.index.now) c.array.result (c.array.ensures c.args.inside) c.if-array.false)
