-- What names stand for while a frame is on top.
use Rattle.c_lang.specs.Evaluation.{Look}
use Rattle.plain_run.specs.Environments.{Rules, Sees, seen_callee}
use Rattle.plain_run.specs.Steps.{look}
use Rattle.plain_run.specs.declared.environment.Callee.{Callee}
use Rattle.plain_run.specs.declared.frame.Frame.{Frame}
use Rattle.plain_run.specs.Code.Frames.{seen_frame}

module _ {X Y F G O : Type 0} (see : Sees X Y F O) (R : Rules F G O) (g : G) (f : Frame X Y) where
  abbrev pub look_in : Look F
  look_in = look R.access g (seen_frame see f)

  abbrev pub callee_in : Callee X → F
  callee_in = seen_callee see.function (R.access.code (see.origin f.origin) g)
