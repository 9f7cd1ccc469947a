use Rattle.std.proofs.Common.{◌≡◌, ◌≤◌, vec_len, vec_capacity}
use Rattle.plain_run.specs.Code.Frames.{seen_items, behind_first}
use Rattle.plain_run.proofs.frame.drop_first.Given as goal

abbrev pub invariant-loop-last : goal.invariant-loop-last
invariant-loop-last l = record {
  items : behind_first (seen_items l.rest.items) ≡ behind_first (seen_items l.initial.rest.items);
  len : vec_len l.rest ≤ vec_len l.initial.rest;
  capacity : vec_capacity l.initial.rest ≤ vec_capacity l.rest;
}

abbrev pub decreases-loop-last : goal.decreases-loop-last
decreases-loop-last l = vec_len l.rest
