use Rattle.std.proofs.Common.{◌≡◌, ◌≤◌, drop, length, map}
use Rattle.c_lang.specs.Names.{Bytes}
use Rattle.plain_run.specs.Steps.{bound}
use Rattle.plain_run.specs.Code.Names.{seen_locals}
use Rattle.plain_run.specs.Values.{seen_value}
use Rattle.plain_run.proofs.call.bound.Given as goal

abbrev pub invariant-loop-left : goal.invariant-loop-left
invariant-loop-left g l = record {
  within : l.left ≤ length l.params;
  locals : (x : Bytes) → seen_locals g.E.Look.seen.function l.locals.entries x ≡ bound (drop l.left l.params) (drop l.left (map (seen_value g.E.Look.seen.function) l.args)) x;
}

abbrev pub decreases-loop-left : goal.decreases-loop-left
decreases-loop-left g l = l.left
