-- A run with one step more.
use Rattle.std.proofs.Common.{◌≡◌, ℕ, zero, suc, ◌+◌, ◌-◌, ◌<◌, ◌≤◌, ℤ, List, [], ◌∷◌, ◌++◌, refl, sym, ap, ap₂, ◌∙◌, subst, append-nil, add-zero, add-one, add-suc, below_more, IsErrOf, Err, arith}
use Rattle.plain_run.specs.Moves.{Move, Goes, Asks, Rests, events_of}
use Rattle.plain_run.specs.Steps.{Config, Live, Over}
use Rattle.c_lang.specs.declared.event.Event.{Event}
use Rattle.plain_run.specs.Runs.{Makes, IsTooDeep, frame_count}
use Rattle.plain_run.specs.declared.step.Step.{Step}
use Rattle.plain_run.specs.declared.step.Step.TheVariants.{Quiet, Shown, Waiting, Stopped}
use Rattle.run_replay.specs.Code.After.{IsAfter, IsLive, ShowsEnds, shown_of}
use Rattle.run_replay.specs.Closes.{IsClose, ShowsItsEnd}
use Rattle.run_replay.specs.Reached.{after_move, reached}
use Rattle.run_replay.specs.Replays.{IsRunClose, RunGetsDeep}
use Rattle.run_replay.specs.declared.replay.Close.{Close}
use Rattle.run_replay.proofs.ReachedLaws.{after_stuck, IsStill, made, shown_by, reached-next, events-next}

module _ {F G O : Type 0} (next : Config F G O → Move (Config F G O)) (first : Config F G O) (a : List ℤ) where
  abbrev Place : Type 0
  Place = Config F G O × List ℤ

  module _ (n : ℕ) (c : Config F G O) (b : List ℤ) (so_far : List Event) (is : IsAfter next first a n c b so_far) where
    reached_more : reached next (n + 1) first a ≡ after_move (next c) c b
    reached_more =
        ap (λ k. reached next k first a) (add-one n) ∙ reached-next next n first a
        ∙ ap (λ (p : Place). after_move (next p.0) p.0 p.1) is.reached

    events_more : events_of next (n + 1) first a ≡ so_far ++ shown_by (next c) b
    events_more =
        ap (λ k. events_of next k first a) (add-one n) ∙ events-next next n first a
        ∙ ap₂ (λ (es : List Event) (p : Place). es ++ shown_by (next p.0) p.1) (sym is.shown) is.reached

    pub after_step : ShowsEnds next → (s : Step) (d : Config F G O) (e : List ℤ) → frame_count d ≤ 10000
        → Makes (next c) c b s d e → IsAfter next first a (n + 1) d e (so_far ++ shown_of s)
    after_step ends s d e shallow makes =
        let move = made (next c) c b s d e makes in
        let there = reached_more ∙ move.after in
        record {
          reached = there;
          shown = ap (λ es. so_far ++ es) (sym move.shown) ∙ sym events_more;
          shallow = λ k high.
              below_more (λ k. frame_count (reached next k first a).0 ≤ 10000) (n + 1) (λ j low. is.shallow j (omega arith))
              (subst (λ (p : Place). frame_count p.0 ≤ 10000) (sym there) shallow) k (omega arith);
          last = ends c b s d e so_far makes is.last;
        }

    too_deep : (move : Move (Config F G O)) (e : List ℤ) → IsTooDeep move e → 10000 < frame_count (after_move move c e).0
    too_deep (Goes shown next) e deep = deep
    too_deep (Asks shown next) [] deep = absurd deep
    too_deep (Asks shown next) (v ∷ e) deep = deep
    too_deep Rests e deep = absurd deep

    pub gets_deep : (steps : ℕ) → n < steps → IsTooDeep (next c) b → RunGetsDeep next first a steps
    gets_deep steps low deep =
        (n + 1, (omega arith, subst (λ (p : Place). 10000 < frame_count p.0) (sym reached_more) (too_deep (next c) b deep)))

  nothing_shown : (s : Step) (es : List Event) → IsStill s → es ++ shown_of s ≡ es
  nothing_shown Quiet es still = absurd still
  nothing_shown (Shown e) es still = absurd still
  nothing_shown Waiting es still = append-nil es
  nothing_shown Stopped es still = append-nil es

  stands : (n : ℕ) (c : Config F G O) (b : List ℤ) (so_far : List Event) (s : Step) → ShowsEnds next → IsAfter next first a n c b so_far → IsStill s
      → frame_count c ≤ 10000 → Makes (next c) c b s c b → (k : ℕ) → IsAfter next first a (n + k) c b so_far
  stands n c b so_far s ends is still shallow makes zero = subst (λ j. IsAfter next first a j c b so_far) (sym (add-zero n)) is
  stands n c b so_far s ends is still shallow makes (suc k) =
      subst (λ j. IsAfter next first a j c b so_far) (add-one (n + k) ∙ sym (add-suc n k))
      (subst (IsAfter next first a ((n + k) + 1) c b) (nothing_shown s so_far still)
      (after_step (n + k) c b so_far (stands n c b so_far s ends is still shallow makes k) ends s c b shallow makes))

  -- further steps add nothing where the run waits or is over
  pub after_still : (n : ℕ) (c : Config F G O) (b : List ℤ) (so_far : List Event) (s : Step) (d : Config F G O) (e : List ℤ) (steps : ℕ)
      → ShowsEnds next → IsAfter next first a n c b so_far → IsStill s → n ≤ steps → frame_count d ≤ 10000
      → Makes (next c) c b s d e → IsAfter next first a steps d e so_far
  after_still n c b so_far s d e steps ends is still high shallow makes =
      let move = made (next c) c b s d e makes in
      let stays = sym (after_stuck (next c) c b (move.stuck still)) ∙ move.after in
      let config_same = ap (λ (p : Place). p.0) stays in
      let answers_same = ap (λ (p : Place). p.1) stays in
      let now : IsAfter next first a n d e so_far = record {
        reached = is.reached ∙ stays;
        shown = is.shown;
        shallow = is.shallow;
        last = subst (λ x. ShowsItsEnd x so_far) config_same is.last;
      } in
      let again = subst (λ x. Makes (next x) x e s d e) config_same (subst (λ f. Makes (next c) c f s d e) answers_same makes) in
      let enough : n + (steps - n) ≡ steps = omega arith in
      subst (λ j. IsAfter next first a j d e so_far) enough (stands n d e so_far s ends now still shallow again (steps - n))

  -- how the run stands, by where it is
  pub closes : (n : ℕ) (c : Config F G O) (b : List ℤ) (so_far : List Event) (close : Close) → IsAfter next first a n c b so_far
      → IsClose (next c) b so_far close → IsRunClose next first a n close
  closes n c b so_far close is stands =
      subst (λ es. IsClose (next (reached next n first a).0) (reached next n first a).1 es close) is.shown
      (subst (λ (p : Place). IsClose (next p.0) p.1 so_far close) (sym is.reached) stands)

  shows_nothing : (c : Config F G O) → IsLive c → ShowsItsEnd c []
  shows_nothing Over live = absurd live
  shows_nothing (Live g f fs) live = tt

  one_frame : (k : ℕ) → k ≡ 0 → frame_count first ≤ 10000 → frame_count (reached next k first a).0 ≤ 10000
  one_frame k is shallow = subst (λ j. frame_count (reached next j first a).0 ≤ 10000) (sym is) shallow

  -- the start of a run
  pub at_start : (es : List Event) → IsLive first → frame_count first ≤ 10000 → es ≡ [] → IsAfter next first a 0 first a es
  at_start es live shallow none = record {
    reached = refl;
    shown = none;
    shallow = λ k high. let zero_steps : k ≡ 0 = omega arith in one_frame k zero_steps shallow;
    last = subst (ShowsItsEnd first) (sym none) (shows_nothing first live);
  }

-- an error is the same beside another type of value
pub IsErrOf-other : {T U E : Type 0} (e x : E) → IsErrOf {T = T} (Err e) x → IsErrOf {T = U} (Err e) x
IsErrOf-other e x is = let same : e ≡ x = cc in ap Err same
