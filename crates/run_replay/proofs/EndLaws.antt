-- Where a run is over, an end or a fault is its last event.
use Rattle.std.proofs.Common.{◌≡◌, ℤ, ◌-◌, length, slice_get, Some, arith, length-append, List, [], ◌∷◌, ◌++◌, refl, sym, ap, ap₂, ◌∙◌, subst, append-nil}
use Rattle.plain_run.specs.Moves.{Move, Goes, Asks, Rests}
use Rattle.plain_run.specs.Steps as steps
use Rattle.plain_run.specs.Steps.{Access, Config, Live, Over, Frame, Special}
use Rattle.c_lang.specs.declared.event.Event.{Event}
use Rattle.c_lang.specs.declared.event.Event.TheVariants as event
use Rattle.c_lang.specs.declared.stmt.Stmt.{Stmt}
use Rattle.c_lang.specs.declared.stmt.Stmt.TheOpen.{Stmt-F}
use Rattle.plain_run.specs.Runs.{Makes}
use Rattle.plain_run.specs.declared.step.Step.{Step}
use Rattle.plain_run.specs.declared.step.Step.TheVariants.{Quiet, Shown, Waiting, Stopped}
use Rattle.run_replay.specs.Closes.{EndsWith, ShowsItsEnd}
use Rattle.run_replay.specs.Code.After.{IsLive, shown_of}
use Rattle.run_replay.proofs.MoveLaws.{Follows, EndsRightly, step_ends}

module _ {F G O : Type 0} where
  shows_if_live : (c : Config F G O) (shown : List Event) → IsLive c → ShowsItsEnd c shown
  shows_if_live Over shown live = absurd live
  shows_if_live (Live g f fs) shown live = tt

  shows_last : (e : Event) (c : Config F G O) (front : List Event) → Follows e c → ShowsItsEnd c (front ++ e ∷ [])
  shows_last (event.End z) Over front follows = (event.End z, ((front, refl), tt))
  shows_last (event.Fault t p) Over front follows = (event.Fault t p, ((front, refl), tt))
  shows_last (event.Input z) c front follows = shows_if_live c _ follows
  shows_last (event.Output z) c front follows = shows_if_live c _ follows
  shows_last (event.Choice k b) c front follows = shows_if_live c _ follows
  shows_last e (Live g f fs) front follows = tt

  same_shows : (c d : Config F G O) (shown : List Event) → d ≡ c → ShowsItsEnd c shown → ShowsItsEnd d (shown ++ [])
  same_shows c d shown same shows = subst (λ e. ShowsItsEnd e (shown ++ [])) (sym same) (subst (ShowsItsEnd c) (sym (append-nil shown)) shows)

  move_shows : (m : Move (Config F G O)) (c : Config F G O) (a : List ℤ) (s : Step) (d : Config F G O) (b : List ℤ) (shown : List Event)
      → EndsRightly m → Makes m c a s d b → ShowsItsEnd c shown → ShowsItsEnd d (shown ++ shown_of s)
  move_shows (Goes [] next) c a Quiet d b shown ends h shows = subst (λ e. ShowsItsEnd e (shown ++ [])) (sym h.0) (shows_if_live next _ ends)
  move_shows (Goes (e ∷ []) next) c a (Shown x) d b shown ends h shows =
      subst (λ y. ShowsItsEnd d (shown ++ y ∷ [])) (sym h.0) (subst (λ n. ShowsItsEnd n (shown ++ e ∷ [])) (sym h.1) (shows_last e next shown ends))
  move_shows (Asks shows_at next) c [] Waiting d b shown ends h shows = same_shows c d shown h.0 shows
  move_shows (Asks shows_at next) c (v ∷ a) (Shown x) d b shown ends h shows =
      subst (λ y. ShowsItsEnd d (shown ++ y ∷ [])) (sym h.0)
      (subst (λ n. ShowsItsEnd n (shown ++ shows_at v ∷ [])) (sym h.1) (shows_last (shows_at v) (next v) shown (ends v)))
  move_shows Rests c a s d b shown ends h shows = absurd ends
  move_shows m c a s d b shown ends h shows = absurd h

module _ {F G O : Type 0} (N : Access F G O) (special : Special N)
    (special_ends : (g : G) (f : Frame F O) (fs : List (Frame F O)) (l : Stmt-F Stmt) → EndsRightly (special g f fs l)) where
  pub step_shows : (c : Config F G O) (a : List ℤ) (s : Step) (d : Config F G O) (b : List ℤ) (shown : List Event)
      → Makes (steps.step_with N special c) c a s d b → ShowsItsEnd c shown → ShowsItsEnd d (shown ++ shown_of s)
  step_shows Over a Stopped d b shown h shows = same_shows Over d shown h.0 shows
  step_shows Over a s d b shown h shows = absurd h
  step_shows (Live g f fs) a s d b shown h shows =
      move_shows (steps.step_with N special (Live g f fs)) (Live g f fs) a s d b shown (step_ends N special special_ends (Live g f fs) tt) h shows

module _ {F G O : Type 0} (N : Access F G O) (special : Special N)
    (special_ends : (g : G) (f : Frame F O) (fs : List (Frame F O)) (l : Stmt-F Stmt) → EndsRightly (special g f fs l)) where
  pub rests_when_over : (c : Config F G O) → steps.step_with N special c ≡ Rests → c ≡ Over
  rests_when_over Over is = refl
  rests_when_over (Live g f fs) is = absurd (subst (λ (m : Move (Config F G O)). EndsRightly m) is (step_ends N special special_ends (Live g f fs) tt))

pub stopped_rests : {C : Type 0} (m : Move C) (c : C) (a : List ℤ) (d : C) (b : List ℤ) → Makes m c a Stopped d b → m ≡ Rests
stopped_rests Rests c a d b h = refl
stopped_rests (Goes [] next) c a d b h = absurd h
stopped_rests (Goes (e ∷ []) next) c a d b h = absurd h
stopped_rests (Goes (e ∷ f ∷ more) next) c a d b h = absurd h
stopped_rests (Asks shown next) c [] d b h = absurd h
stopped_rests (Asks shown next) c (v ∷ a) d b h = absurd h

last_at : (front : List Event) (e : Event) → slice_get (front ++ e ∷ []) (length front) ≡ Some e
last_at [] e = refl
last_at (x ∷ front) e = last_at front e

-- the event at the last index is the last one
pub last_is : (es : List Event) (e f : Event) → EndsWith es e → Some f ≡ slice_get es (length es - 1) → f ≡ e
last_is es e f ends shown =
    let at : length (ends.0 ++ e ∷ []) - 1 ≡ length ends.0 = omega (arith, length-append {A = Event}) in
    let same : Some f ≡ Some e =
    shown ∙ ap₂ slice_get ends.1 (ap (λ (l : List Event). length l - 1) ends.1 ∙ at) ∙ last_at ends.0 e in
    cc
