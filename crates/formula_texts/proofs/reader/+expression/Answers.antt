use Rattle.std.proofs.Common.{arith, sym, subst, ◌-◌, ◌≤◌, ◌<◌}
use Rattle.std.proofs.lemmas.Result.{err_from_is_err_and}
use Rattle.formula_texts.specs.declared.size.Size.{Size}
use Rattle.formula_texts.specs.Grammar.{grown, larger}
use Rattle.formula_texts.specs.Code.Seen.{seen, IsWithin}
use Rattle.formula_texts.proofs.ReadingTurns.{begins, goes_on, ends, stops, fails_right, fails_join, fails_high}
use Rattle.formula_texts.proofs.reader.+expression.Goals as goal
use Rattle.formula_texts.proofs.reader.+expression.Goals.{expression-in-Some+then-level-least, expression-in_default}

pub expression-loop-operator-init : goal.expression-loop-operator-init
expression-loop-operator-init t c =
    let h = c.in_ok-left.ensures.size in
    let positive : 1 ≤ c.args.deep = omega arith in
    record {
      deep = positive;
      size = (h.0, omega (arith, h.1), h.2, h.3);
      total = begins c.args.deep c.args.least c.args.tokens.now (seen c.in_ok-left.left) positive h.0 c.in_ok-left.ensures.read;
    }

pub expression-returns-then-left-deep-clause-read : goal.expression-returns-then-left-deep-clause-read
expression-returns-then-left-deep-clause-read t c =
    let i = c.loop-operator.invariant in
    fails_high (c.args.deep - 1) c.args.deep c.args.least (seen c.loop-operator.left) c.in-Some.operator c.in-Some.rest.now _ (sym c.in-Some.ensures.value) (omega arith) (omega arith) i.size.1 i.total

pub expression-returns-in_err-right-clause-read : goal.expression-returns-in_err-right-clause-read
expression-returns-in_err-right-clause-read t c =
    let p = err_from_is_err_and c.from_residual-in_err-right.result c.from_residual-in_err-right.ensures.1 in
    let i = c.loop-operator.invariant in
    rw (p.1, p.2) (fails_right (c.args.deep - 1) c.args.deep c.args.least (seen c.loop-operator.left) c.in-Some.operator c.in-Some.rest.now _ c.in_err-right.field-0.0 (sym c.in-Some.ensures.value) (omega arith)
    (rw (← c.level-in-Some.ensures.value) c.in_err-right.ensures.read) (omega arith) i.total)

pub expression-returns-in_err-left-2-clause-read : goal.expression-returns-in_err-left-2-clause-read
expression-returns-in_err-left-2-clause-read t c =
    let p = err_from_is_err_and c.from_residual-in_err-left-2.result c.from_residual-in_err-left-2.ensures.1 in
    let i = c.loop-operator.invariant in
    rw (p.1, p.2) (fails_join (c.args.deep - 1) c.args.deep c.args.least (seen c.loop-operator.left) (seen c.in_ok-right.right) c.in-Some.operator c.in-Some.rest.now _ c.in_err-left-2.field-0.0 (sym c.in-Some.ensures.value) (omega arith)
    (rw (← c.level-in-Some.ensures.value) c.in_ok-right.ensures.read) c.in_err-left-2.ensures.read (omega arith) i.total)

pub expression-loop-operator-preserved : goal.expression-loop-operator-preserved
expression-loop-operator-preserved t c =
    let i = c.loop-operator.invariant in
    let left = c.loop-operator.left.size in
    let right = c.in_ok-right.right.size in
    let r = c.in_ok-right.ensures.size in
    let fits : IsWithin c.args.deep (grown 0 1 (larger left right)) = (omega arith, omega (arith, r.1), omega (arith, i.size.2, r.2), omega (arith, i.size.3, r.3)) in
    let higher : left.height < (grown 0 1 (larger left right)).height = omega arith in
    let s = c.in_ok-left-2.ensures.size in
    record {
      deep = i.deep;
      size = subst (λ (z : Size). IsWithin c.args.deep z) (sym s) fits;
      total = goes_on (c.args.deep - 1) c.args.deep c.args.least (seen c.loop-operator.left) (seen c.in_ok-right.right) (seen c.in_ok-left-2.left) c.in-Some.operator c.in-Some.rest.now _ (sym c.in-Some.ensures.value) (omega arith)
          (rw (← c.level-in-Some.ensures.value) c.in_ok-right.ensures.read) c.in_ok-left-2.ensures.read (subst (λ (z : Size). left.height < z.height) (sym s) higher) (omega arith) i.total;
    }

pub expression-returns-clause-read : goal.expression-returns-clause-read
expression-returns-clause-read t c =
    let i = c.loop-operator.invariant in
    elim c.match-next_operator.branch [
      | expression-in-Some+then-level-least w ↦ stops (c.args.deep - 1) c.args.deep c.args.least (seen c.loop-operator.left) w.in-Some.operator w.in-Some.rest.now _ (sym w.in-Some.ensures.value) (omega arith) i.size.1 i.total
      | expression-in_default w ↦ ends (c.args.deep - 1) c.args.deep c.args.least (seen c.loop-operator.left) _ (sym w.in_default.ensures.value) i.size.1 i.total
    ]
