use Rattle.std.proofs.Common.{[], codes, ap, ap₂, ◌∙◌}
use Rattle.c_lang.specs.Programs.{func_in}
use Rattle.c_lang.specs.declared.program.Func.{Func}
use Rattle.c_lang.specs.declared.program.Program.{Program}
use Rattle.c_lang.specs.declared.stmt.Dest.TheVariants.{Nowhere}
use Rattle.plain_run.specs.PlainRun.{Store, plain_access}
use Rattle.plain_run.specs.Steps.{Live, frame_of}
use Rattle.plain_run.proofs.InitialLaws.{at_one}
use Rattle.plain_run.proofs.plain.Plain.at_start.Goals as goal

pub returns-clause-config : goal.returns-clause-config
returns-clause-config c =
    let P = c.args.program.now in
    at_one _ _ _ (plain_access P) _ c.new-2.ensures.config
    (ap₂ (λ (s : Store) (f : Func). Live s (frame_of (plain_access P) (tt, f) [] Nowhere) []) c.in_ok-plain.ensures.state
    (c.in_ok-main.ensures ∙ ap (λ (q : Program). func_in q.funcs (codes "main")) c.in_ok-plain.ensures.program))
