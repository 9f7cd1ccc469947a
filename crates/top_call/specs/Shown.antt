-- The lines of a run.
use Rattle.std.specs.Prelude.{List, [], ◌++◌, codes}
use Rattle.std.specs.List.{flat_map}
use Rattle.c_lang.specs.Events.{event_text}
use Rattle.c_lang.specs.declared.event.Event.{Event}
use Rattle.run_replay.specs.declared.replay.Close.{Close}
use Rattle.run_replay.specs.declared.replay.Close.TheVariants.{Ended, Faulted, Waiting, Running}
use Rattle.top_call.specs.Words.{Text}

abbrev pub event_line : Event → Text
event_line event = event_text event ++ codes "\n"

-- a line where the run waits or would go on
abbrev pub close_line : Close → Text
close_line Ended = []
close_line Faulted = []
close_line Waiting = codes "waiting\n"
close_line Running = codes "running\n"

abbrev pub run_lines : List Event → Close → Text
run_lines shown close = flat_map event_line shown ++ close_line close
