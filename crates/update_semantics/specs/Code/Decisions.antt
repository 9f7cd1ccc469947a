-- What an updating run does at a point, a force or a pick, as the code decides it.
use Rattle.std.specs.Prelude.{◌≡◌, List}
use Rattle.c_lang.specs.declared.stmt.Stmt.{Stmt, out-Stmt}
use Rattle.plain_run.specs.Environments.{decided}
use Rattle.plain_run.specs.declared.environment.Decision.{Decision}
use Rattle.update_semantics.specs.Rules.{rules_of}
use Rattle.update_semantics.specs.UpdatingRun.{World, State, UpdFrame, picked}

-- this statement was picked
abbrev pub Picks : Stmt → Decision → Type 0
Picks s d = (W : World) (g : State) (f : UpdFrame) (fs : List UpdFrame) → picked W g f fs s (out-Stmt s) ≡ decided (rules_of W) d g f fs
