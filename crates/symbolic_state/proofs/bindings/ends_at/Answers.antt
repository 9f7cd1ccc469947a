use Rattle.std.proofs.Common.{◌∙◌, ap, sym}
use Rattle.symbolic_state.specs.Code.Bindings.{ends_at}
use Rattle.symbolic_state.proofs.BindingLaws.{ends_at-last}
use Rattle.symbolic_state.proofs.bindings.ends_at.Goals as goal

pub returns-in-Some : goal.returns-in-Some
returns-in-Some c = sym (ap (ends_at c.args.step) c.in-Some.ensures.cases.0 ∙ ends_at-last c.args.step c.in-Some.field-0-1.now c.in-Some.last.now)
