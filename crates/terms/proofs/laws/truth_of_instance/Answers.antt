use Rattle.std.proofs.Common.{IsTrue, subst, sym}
use Rattle.terms.specs.Truth.{term_at}
use Rattle.terms.proofs.ReplacingLaws.{form_at-number_by}
use Rattle.terms.proofs.laws.truth_of_instance.Goals as goal

pub returns : goal.returns
returns c = λ v x lo hi t f holds from to. subst IsTrue (sym (form_at-number_by x t v f)) (holds (term_at v t) from to)
