-- In plain and in updating runs a step that ends a run shows that, and only a run that is over rests.
use Rattle.std.proofs.Common.{◌≡◌, ◌&&◌, if◌then◌else◌, List, subst}
use Rattle.plain_run.specs.Environments.{Rules}
use Rattle.plain_run.specs.Steps.{Config}
use Rattle.c_lang.specs.declared.program.Program.{Program}
use Rattle.c_lang.specs.declared.stmt.Stmt.{Stmt, out-Stmt}
use Rattle.c_lang.specs.declared.stmt.Stmt.TheOpen.{Stmt-F}
use Rattle.c_lang.specs.declared.stmt.Stmt.TheOpen as one
use Rattle.c_lang.specs.Values.{is_zero}
use Rattle.version_names.specs.Version.{is_old}
use Rattle.version_names.specs.Provenance.{may_update}
use Rattle.plain_run.specs.PlainRun.{plain_access, dropped, step}
use Rattle.update_semantics.specs.UpdatingRun.{World, State, UpdFrame, updating_access, update, nothing_special, picked, step_updating}
use Rattle.run_replay.specs.Code.After.{ShowsEnds, RestsWhenOver}
use Rattle.run_replay.proofs.MoveLaws.{EndsRightly, either_live, act_ends, either_ends}
use Rattle.run_replay.proofs.EndLaws.{step_shows, rests_when_over}

pub plain_ends : (P : Program) → ShowsEnds (step P)
plain_ends P = step_shows (plain_access P) (dropped P) (λ g f fs l. tt)

pub plain_rests : (P : Program) → RestsWhenOver (step P)
plain_rests P = rests_when_over (plain_access P) (dropped P) (λ g f fs l. tt)

module _ (W : World) where
  picked_ends : (g : State) (f : UpdFrame) (fs : List UpdFrame) (s : Stmt) (l : Stmt-F Stmt) → EndsRightly (picked W g f fs s l)
  picked_ends g f fs s (one.Call p d h es) = act_ends (updating_access W) (nothing_special W) (λ g f fs l. tt) g f fs s (one.Call p d h es)
  picked_ends g f fs s (one.Skip p) = tt
  picked_ends g f fs s (one.Set p d e) = tt
  picked_ends g f fs s (one.SetElem p a i e) = tt
  picked_ends g f fs s (one.CallBy p d x es) = tt
  picked_ends g f fs s (one.If p e a b) = tt
  picked_ends g f fs s (one.While p e b) = tt
  picked_ends g f fs s (one.Break p) = tt
  picked_ends g f fs s (one.Return p v) = tt
  picked_ends g f fs s (one.Assert p e) = tt
  picked_ends g f fs s (one.Input p d) = tt
  picked_ends g f fs s (one.Output p e) = tt
  picked_ends g f fs s (one.Point p k) = tt
  picked_ends g f fs s (one.Choice p d k) = tt
  picked_ends g f fs s (one.Force p) = tt
  picked_ends g f fs s (one.Pick p a b) = tt

  update_ends : (g : State) (f : UpdFrame) (fs : List UpdFrame) (l : Stmt-F Stmt) → EndsRightly (update W g f fs l)
  update_ends g f fs (one.Point p k) =
      either_ends (updating_access W) (may_update f.origin && (is_old g.now && W.permits k)) _ _ (λ z. either_live (updating_access W) (is_zero z) _ _ tt tt) tt
  update_ends g f fs (one.Force p) = either_live (updating_access W) (is_old g.now) _ _ tt tt
  update_ends g f fs (one.Pick p a b) = let s = (if is_old g.now then b else a) in picked_ends g f fs s (out-Stmt s)
  update_ends g f fs (one.Skip p) = tt
  update_ends g f fs (one.Set p d e) = tt
  update_ends g f fs (one.SetElem p a i e) = tt
  update_ends g f fs (one.Call p d h es) = tt
  update_ends g f fs (one.CallBy p d x es) = tt
  update_ends g f fs (one.If p e a b) = tt
  update_ends g f fs (one.While p e b) = tt
  update_ends g f fs (one.Break p) = tt
  update_ends g f fs (one.Return p v) = tt
  update_ends g f fs (one.Assert p e) = tt
  update_ends g f fs (one.Input p d) = tt
  update_ends g f fs (one.Output p e) = tt
  update_ends g f fs (one.Choice p d k) = tt

  pub updating_ends : ShowsEnds (step_updating W)
  updating_ends = step_shows (updating_access W) (update W) update_ends

  pub updating_rests : RestsWhenOver (step_updating W)
  updating_rests = rests_when_over (updating_access W) (update W) update_ends

-- what holds by rules and a configuration holds by equal ones
pub by_rules : {F G O : Type 0} {R S : Rules F G O} {c d : Config F G O} → R ≡ S → c ≡ d → (P : Rules F G O → Config F G O → Type 0) → P R c → P S d
by_rules {F} {G} {O} {R} {S} {c} {d} rules config P h = subst (λ (X : Rules F G O). P X d) rules (subst (λ (x : Config F G O). P R x) config h)
