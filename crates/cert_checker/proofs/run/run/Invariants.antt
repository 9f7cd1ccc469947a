use Rattle.std.proofs.Common.{reverse}
use Rattle.cert_checker.specs.Code.Steps.{work, Goal, ComesTo, Grown}
use Rattle.cert_checker.proofs.run.run.Given as goal

abbrev pub invariant-loop-next : goal.invariant-loop-next
invariant-loop-next l = ((g : Goal) → ComesTo g (reverse l.fn.steps.items) (reverse l.fn.rows.items) l.fn.atoms.items → ComesTo g (reverse l.steps.items) (reverse l.rows.items) l.atoms.items)
    × Grown l.fn.atoms.items l.atoms.items

abbrev pub decreases-loop-next : goal.decreases-loop-next
decreases-loop-next l = work (reverse l.steps.items)
