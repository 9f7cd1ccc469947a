-- What a run stands for, with what its functions, origins and state are.
use Rattle.std.specs.Prelude.{Bool, true, false}
use Rattle.plain_run.specs.Environments.{Rules, Sees}
use Rattle.plain_run.specs.Moves.{Move}
use Rattle.plain_run.specs.Steps.{Config, Live, Over, step_with}
use Rattle.plain_run.specs.declared.stack.Stack.{Stack}
use Rattle.plain_run.specs.Code.Frames.{seen_frame, seen_frames}

abbrev pub config_if : {F G O : Type 0} → Bool → Config F G O → Config F G O
config_if true c = Over
config_if false c = c

abbrev pub config_with : {X Y F G O : Type 0} → Sees X Y F O → G → Stack X Y → Config F G O
config_with see g s = config_if s.over (Live g (seen_frame see s.top) (seen_frames see s.below))

-- the step that it makes next
abbrev pub move_with : {X Y F G O : Type 0} → Sees X Y F O → Rules F G O → G → Stack X Y → Move (Config F G O)
move_with see R g s = step_with R.access R.special (config_with see g s)
