use Rattle.std.proofs.Common.{◌≡◌, [], drop}
use Rattle.version_names.specs.Code.Statuses as spec
use Rattle.version_names.proofs.status.with_new.Given as goal

abbrev pub invariant-loop-new : goal.invariant-loop-new
invariant-loop-new l = spec.with_new l.olds l.table (drop l.new-index l.news) ≡ spec.with_new l.olds [] l.news
