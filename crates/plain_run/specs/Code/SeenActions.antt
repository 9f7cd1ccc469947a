-- What the code's actions and decisions stand for.
use Rattle.std.specs.Prelude.{◌≡◌, List, [], ◌∷◌, Option, Some, None}
use Rattle.std.specs.Borrow.{Bor}
use Rattle.c_lang.specs.Evaluation.{Look}
use Rattle.c_lang.specs.Values.{Code}
use Rattle.c_lang.specs.declared.expr.Expr.{Expr}
use Rattle.c_lang.specs.declared.stmt.Stmt.{Stmt, out-Stmt}
use Rattle.c_lang.specs.declared.unit.Pos.{Pos}
use Rattle.plain_run.specs.Environments.{Rules, Sees}
use Rattle.plain_run.specs.Steps as steps
use Rattle.plain_run.specs.Steps.{Item}
use Rattle.plain_run.specs.Code.Actions as spec
use Rattle.plain_run.specs.Code.Actions.{done}
use Rattle.plain_run.specs.Code.Frames.{seen_with}
use Rattle.plain_run.specs.Values.{seen_value}
use Rattle.plain_run.specs.declared.action.Action.{Action}
use Rattle.plain_run.specs.declared.action.Action.TheVariants as action
use Rattle.plain_run.specs.declared.environment.Decision.{Decision}
use Rattle.plain_run.specs.declared.environment.Decision.TheVariants as decision
use Rattle.plain_run.specs.declared.frame.Frame.{Frame}

abbrev pub seen_action : {X F : Type 0} → (X → F) → Action X → spec.Action F
seen_action see action.Skip = spec.Skip
seen_action see (action.Enter body) = spec.Enter body.now
seen_action see (action.Loop body s) = spec.Loop body.now s.now
seen_action see action.Leave = spec.Leave
seen_action see (action.Store d v) = spec.Store_value d.now (seen_value see v)
seen_action see (action.StoreElement a at z p) = spec.Store_element a.now at z p
seen_action see (action.Call callee es d p) = spec.Call (seen_value see callee) es.now d.now p
seen_action see (action.Return v) = spec.Return (seen_value see v)
seen_action see (action.Fault t p) = spec.Fault t p
seen_action see (action.Input d) = spec.Input d.now
seen_action see (action.Output z) = spec.Output z
seen_action see (action.Choice d k) = spec.Choice d.now k
seen_action see (action.Ask k) = spec.Ask k
seen_action see action.Update = spec.Update

abbrev pub seen_operand : Option (Bor Expr × Pos) → Option (Expr × Pos)
seen_operand None = None
seen_operand (Some o) = Some (o.0.now, o.1)

abbrev pub decided_action : {F : Type 0} → Look F → Decision → spec.Action F
decided_action look decision.Skip = spec.Skip
decided_action look (decision.Ask k) = spec.Ask k
decided_action look decision.Update = spec.Update
decided_action look (decision.Call h es d p) = spec.Call (Code (look.code h.now)) es.now d.now p
decided_action look (decision.Next s) = spec.Enter (s.now ∷ [])

-- the action is what is done at the statement, whatever the frame has still to run
abbrev pub IsDecided : {X Y F G O : Type 0} → Sees X Y F O → Rules F G O → G → Frame X Y → Stmt → spec.Action F → Type 0
IsDecided {X} {Y} {F} {G} {O} see R g f s action =
    (items : List Item) (fs : List (steps.Frame F O)) → R.special g (seen_with see items f) fs (out-Stmt s) ≡ done R g (seen_with see items f) fs action
