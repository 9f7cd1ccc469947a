use Rattle.std.proofs.Common.{◌≡◌, length}
use Rattle.std.specs.List.{All}
use Rattle.linear_certs.specs.Stages.{stage, least_atom}
use Rattle.linear_certs.specs.Answers.{NoFalseUpTo}
use Rattle.linear_certs.specs.Code.Building.{IsGood, AreStages}
use Rattle.linear_certs.proofs.EliminationLaws.{left_over}
use Rattle.linear_certs.proofs.elimination.eliminate_all.Given as goal

abbrev pub invariant-loop-atom : goal.invariant-loop-atom
invariant-loop-atom l = record {
  built : AreStages l.rows 0 l.stages;
  is : stage l.rows (length l.stages) ≡ l.entries.items;
  good : All (IsGood l.rows) l.entries.items;
  none_false : NoFalseUpTo l.rows (length l.stages);
}

abbrev pub decreases-loop-atom : goal.decreases-loop-atom
decreases-loop-atom l = left_over (least_atom l.entries.items)
