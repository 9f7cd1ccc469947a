use Rattle.std.proofs.Common.{◌≡◌, ◌∙◌, ◌-◌, ◌∷◌, ◌++◌, suc, Some, None, reverse, true, false, ap, sym, arith}
use Rattle.cert_checker.specs.declared.part.Part.TheVariants as part
use Rattle.cert_checker.specs.Code.Parts.{opened_term, leaf_of_term}
use Rattle.cert_checker.specs.Code.Finding.{is_truth}
use Rattle.cert_checker.specs.Code.Truths.{put_after}
use Rattle.cert_checker.proofs.TruthLaws.{term_put, truth_kept, truth_skipped, same_after}
use Rattle.cert_checker.proofs.truth.put_term.Goals as goal

pub returns-then-not-is_truth-clause-made : goal.returns-then-not-is_truth-clause-made
returns-then-not-is_truth-clause-made c =
    let other : is_truth c.args.term ≡ false = sym c.is_truth.ensures ∙ c.if-not-is_truth.true in
    same_after c.args.by.now (opened_term c.args.term ++ reverse c.args.parts.now.items) (reverse c.take_term.new.parts.items) c.args.left
    (c.args.out.now.items ++ leaf_of_term c.args.term) c.take_term.new.out.items
    (put_after c.args.by.now (part.Term c.args.term ∷ reverse c.args.parts.now.items) c.args.left c.args.out.now.items)
    c.in_ok-take_term.ensures.parts c.in_ok-take_term.ensures.leaf (term_put c.args.by.now c.args.term (reverse c.args.parts.now.items) c.args.left c.args.out.now.items other)

pub returns-in_default-clause-made : goal.returns-in_default-clause-made
returns-in_default-clause-made c =
    let same : is_truth c.args.term ≡ true = sym c.is_truth.ensures ∙ c.if-not-is_truth.false in
    same_after c.args.by.now (opened_term c.args.term ++ reverse c.args.parts.now.items) (reverse c.take_term-in_default.new.parts.items) None
    (c.args.out.now.items ++ leaf_of_term c.args.term) c.take_term-in_default.new.out.items
    (put_after c.args.by.now (part.Term c.args.term ∷ reverse c.args.parts.now.items) c.args.left c.args.out.now.items)
    c.in_ok-take_term-2.ensures.parts c.in_ok-take_term-2.ensures.leaf
    (truth_kept c.args.by.now c.args.term (reverse c.args.parts.now.items) c.args.out.now.items same
    ∙ ap (λ s. put_after c.args.by.now (part.Term c.args.term ∷ reverse c.args.parts.now.items) s c.args.out.now.items) (sym c.in_default.is))

pub returns-clause-made : goal.returns-clause-made
returns-clause-made c =
    let same : is_truth c.args.term ≡ true = sym c.is_truth.ensures ∙ c.if-not-is_truth.false in
    let more : suc (c.in-Some.count - 1) ≡ c.in-Some.count = omega (arith, c.if-count-eq0.false) in
    same_after c.args.by.now (opened_term c.args.term ++ reverse c.args.parts.now.items) (reverse c.take_term-2.new.parts.items) (Some (c.in-Some.count - 1))
    (c.args.out.now.items ++ leaf_of_term c.args.term) c.take_term-2.new.out.items
    (put_after c.args.by.now (part.Term c.args.term ∷ reverse c.args.parts.now.items) c.args.left c.args.out.now.items)
    c.in_ok-take_term-3.ensures.parts c.in_ok-take_term-3.ensures.leaf
    (truth_skipped c.args.by.now c.args.term (reverse c.args.parts.now.items) (c.in-Some.count - 1) c.args.out.now.items same
    ∙ ap (λ n. put_after c.args.by.now (part.Term c.args.term ∷ reverse c.args.parts.now.items) (Some n) c.args.out.now.items) more
    ∙ ap (λ s. put_after c.args.by.now (part.Term c.args.term ∷ reverse c.args.parts.now.items) s c.args.out.now.items) (sym c.in-Some.is))
