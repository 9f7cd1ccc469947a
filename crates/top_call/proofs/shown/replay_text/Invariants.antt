use Rattle.std.proofs.Common.{◌≡◌, take, string_bytes}
use Rattle.std.specs.List.{flat_map}
use Rattle.top_call.specs.Shown.{event_line}
use Rattle.top_call.proofs.shown.replay_text.Given as goal

-- the lines of the events so far
abbrev pub invariant-loop-event : goal.invariant-loop-event
invariant-loop-event l = string_bytes l.text ≡ flat_map event_line (take l.event-index l.event-items)
