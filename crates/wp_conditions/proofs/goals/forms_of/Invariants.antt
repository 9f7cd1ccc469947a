use Rattle.std.proofs.Common.{◌≡◌, map, take}
use Rattle.expression_conditions.specs.Numbers.{numbers_in}
use Rattle.expression_conditions.specs.Code.Due.{given_form}
use Rattle.expression_conditions.specs.Code.Seen.{seen_given}
use Rattle.wp_conditions.proofs.goals.forms_of.Given as goal

abbrev pub invariant-loop-form : goal.invariant-loop-form
invariant-loop-form l = l.forms.items ≡ map (given_form (numbers_in l.names)) (map seen_given (take l.form-index l.given))
