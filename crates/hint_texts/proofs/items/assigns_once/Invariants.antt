use Rattle.std.proofs.Common.{◌≡◌, length}
use Rattle.hint_texts.specs.Texts.{assigns_once}
use Rattle.hint_texts.proofs.items.assigns_once.Given as goal

abbrev pub invariant-loop-rest : goal.invariant-loop-rest
invariant-loop-rest l = record { same : assigns_once l.rest ≡ assigns_once l.clauses }

abbrev pub decreases-loop-rest : goal.decreases-loop-rest
decreases-loop-rest l = length l.rest
