use Rattle.std.proofs.Common.{rules}
use Rattle.linear_certs.specs.Answers.{IsLeaf}
use Rattle.linear_certs.proofs.RefutedLaws.{refuted-leaf}
use Rattle.linear_certs.proofs.answer.refute.Goals as goal

pub returns-in-Ok-clause-refuted : goal.returns-in-Ok-clause-refuted
returns-in-Ok-clause-refuted c = refuted-leaf c.args.rows.now c.point.result c.point.ensures

pub returns-in-Err-clause-refuted : goal.returns-in-Err-clause-refuted
returns-in-Err-clause-refuted c =
    let is : IsLeaf c.args.rows.now c.in-Err.leaf = search rules in
    refuted-leaf c.args.rows.now c.in-Err.leaf is
