-- What a view of a formula's outermost operator stands for.
use Rattle.terms.specs.declared.view.TermView.{TermView}
use Rattle.terms.specs.declared.view.TermView.TheVariants as term
use Rattle.terms.specs.declared.view.ArrayView.{ArrayView}
use Rattle.terms.specs.declared.view.ArrayView.TheVariants as row
use Rattle.terms.specs.declared.view.FormView.{FormView}
use Rattle.terms.specs.declared.view.FormView.TheVariants as form
use Rattle.terms.specs.Trees.{TermTree, number, name, plus, minus, times, divided, remainder, read, truth, ArrayTree, array, stored, FormTree, always, never, at_most, equal, denied, both, either}

abbrev pub viewed_term : TermView → TermTree
viewed_term (term.Num z) = number z
viewed_term (term.Of x) = name x.now
viewed_term (term.Add t u) = plus t u
viewed_term (term.Sub t u) = minus t u
viewed_term (term.Mul t u) = times t u
viewed_term (term.Div t u) = divided t u
viewed_term (term.Rem t u) = remainder t u
viewed_term (term.Read a i) = read a i
viewed_term (term.Truth f) = truth f

abbrev pub viewed_array : ArrayView → ArrayTree
viewed_array (row.Base x) = array x.now
viewed_array (row.Store a i t) = stored a i t

abbrev pub viewed_form : FormView → FormTree
viewed_form form.True = always
viewed_form form.False = never
viewed_form (form.Le t u) = at_most t u
viewed_form (form.Eq t u) = equal t u
viewed_form (form.Not f) = denied f
viewed_form (form.And f g) = both f g
viewed_form (form.Or f g) = either f g
