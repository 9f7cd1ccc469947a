use Rattle.std.proofs.Common.{rules}
use Rattle.symbolic_state.specs.Code.Bindings.{bound}
use Rattle.symbolic_state.proofs.BindingLaws.{values-inserted}
use Rattle.symbolic_state.proofs.bindings.Bindings.bind.Goals as goal

pub returns-in_ok-insert-in-None : goal.returns-in_ok-insert-in-None
returns-in_ok-insert-in-None c x =
    values-inserted (λ bs. bound bs c.args.binding) c.args.self.now.names.entries c.insert.new.self.entries c.args.name.now c.in_ok-values-in-None.values x
    (search rules) (search rules) (search rules)
