use Rattle.terms.specs.Nodes.{term_size, array_size, form_size}
use Rattle.terms.proofs.evaluate.+evaluating.Given as goal

abbrev pub decreases-element : goal.decreases-element
decreases-element l = array_size l.array.now

abbrev pub decreases-truth : goal.decreases-truth
decreases-truth l = form_size l.form.now

abbrev pub decreases-value : goal.decreases-value
decreases-value l = term_size l.term.now
