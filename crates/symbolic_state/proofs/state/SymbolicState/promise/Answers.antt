use Rattle.std.proofs.Common.{◌≡◌, map, ap, ◌∙◌, subst}
use Rattle.std.specs.Prelude.{OnOk}
use Rattle.c_lang.specs.declared.program.Program.{Program}
use Rattle.terms.specs.declared.changes.Changes.{Changes}
use Rattle.terms.specs.Replacing.{change_in, replaced_fact}
use Rattle.weakest_preconditions.specs.Changing.{returning}
use Rattle.name_changes.specs.Kept.{keeping_bound}
use Rattle.name_changes.proofs.KeptLaws.{keeping_is}
use Rattle.symbolic_state.specs.Steps.{assumed}
use Rattle.symbolic_state.proofs.state.SymbolicState.promise.Goals as goal

pub returns : goal.returns
returns c =
    subst (λ d. OnOk c.assume_changed.result (c.assume_changed.new.self ≡ assumed (map (replaced_fact d) c.args.promises.now) c.args.self.now))
    (ap change_in (c.in_ok-by.ensures ∙ ap (λ p. keeping_bound (by p)) c.program.ensures) ∙ keeping_is (by c.args.program.now)) c.assume_changed.ensures
  where
    by : Program → Changes
    by p = returning (map (λ g. g.name) p.globals) c.args.args.now c.args.outcome.now c.args.cells.now
