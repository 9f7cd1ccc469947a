use Rattle.std.proofs.Common.{◌≡◌, drop}
use Rattle.version_names.specs.Code.Statuses as spec
use Rattle.version_names.proofs.status.statuses_of.Given as goal

abbrev pub invariant-loop-old : goal.invariant-loop-old
invariant-loop-old l = spec.with_old l.table (drop l.old-index l.olds) ≡ spec.statuses_of l.olds l.news
