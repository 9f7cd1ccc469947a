-- One step more of a run.
use Rattle.std.proofs.Common.{◌≡◌, ℕ, zero, suc, ℤ, List, [], ◌∷◌, ◌++◌, refl, sym, ap, ap₂, ◌∙◌, subst, append_assoc, append-nil}
use Rattle.plain_run.specs.Moves.{Move, Goes, Asks, Rests, follow, events_of}
use Rattle.c_lang.specs.declared.event.Event.{Event}
use Rattle.plain_run.specs.Runs.{Makes}
use Rattle.plain_run.specs.declared.step.Step.{Step}
use Rattle.plain_run.specs.declared.step.Step.TheVariants.{Quiet, Shown, Waiting, Stopped}
use Rattle.run_replay.specs.Reached.{after_move, reached}
use Rattle.run_replay.specs.Code.After.{shown_of}

-- the events of one move
abbrev pub shown_by : {C : Type 0} → Move C → List ℤ → List Event
shown_by (Goes shown next) a = shown
shown_by (Asks shown next) [] = []
shown_by (Asks shown next) (v ∷ a) = shown v ∷ []
shown_by Rests a = []

-- it waits, or is over
abbrev pub IsStuck : {C : Type 0} → Move C → List ℤ → Type 0
IsStuck (Goes shown next) a = ⊥
IsStuck (Asks shown next) [] = Unit {0}
IsStuck (Asks shown next) (v ∷ a) = ⊥
IsStuck Rests a = Unit {0}

module _ {C : Type 0} where
  pub after_stuck : (m : Move C) (c : C) (a : List ℤ) → IsStuck m a → after_move m c a ≡ (c, a)
  after_stuck (Goes shown next) c a stuck = absurd stuck
  after_stuck (Asks shown next) c [] stuck = refl
  after_stuck (Asks shown next) c (v ∷ a) stuck = absurd stuck
  after_stuck Rests c a stuck = refl

  shown_stuck : (m : Move C) (a : List ℤ) → IsStuck m a → shown_by m a ≡ []
  shown_stuck (Goes shown next) a stuck = absurd stuck
  shown_stuck (Asks shown next) [] stuck = refl
  shown_stuck (Asks shown next) (v ∷ a) stuck = absurd stuck
  shown_stuck Rests a stuck = refl

  module _ (step : C → Move C) where
    stays : (n : ℕ) (c : C) (a : List ℤ) → IsStuck (step c) a → reached step n c a ≡ (c, a)
    stays zero c a stuck = refl
    stays (suc n) c a stuck = ap (λ (p : C × List ℤ). reached step n p.0 p.1) (after_stuck (step c) c a stuck) ∙ stays n c a stuck

    pub reached-next : (n : ℕ) (c : C) (a : List ℤ)
        → reached step (suc n) c a ≡ after_move (step (reached step n c a).0) (reached step n c a).0 (reached step n c a).1
    reached-next zero c a = refl
    reached-next (suc n) c a = let p = after_move (step c) c a in reached-next n p.0 p.1

    shown_stuck_at : (n : ℕ) (c : C) (a : List ℤ) → IsStuck (step c) a → shown_by (step (reached step n c a).0) (reached step n c a).1 ≡ []
    shown_stuck_at n c a stuck = ap (λ (p : C × List ℤ). shown_by (step p.0) p.1) (stays n c a stuck) ∙ shown_stuck (step c) a stuck

    follows_first : (n : ℕ) (m : Move C) (c : C) (a : List ℤ) → step c ≡ m
        → ((d : C) (b : List ℤ) → events_of step (suc n) d b ≡ events_of step n d b ++ shown_by (step (reached step n d b).0) (reached step n d b).1)
        → follow m a (events_of step (suc n)) ≡ follow m a (events_of step n) ++ shown_by (step (reached step n (after_move m c a).0 (after_move m c a).1).0) (reached step n (after_move m c a).0 (after_move m c a).1).1
    follows_first n (Goes shown next) c a is more = ap (λ es. shown ++ es) (more next a) ∙ sym (append_assoc shown (events_of step n next a) _)
    follows_first n (Asks shown next) c [] is more =
        sym (shown_stuck_at n c [] (subst (λ m. IsStuck m []) (sym is) tt))
    follows_first n (Asks shown next) c (v ∷ a) is more = ap (λ es. shown v ∷ es) (more (next v) a)
    follows_first n Rests c a is more = sym (shown_stuck_at n c a (subst (λ m. IsStuck m a) (sym is) tt))

    pub events-next : (n : ℕ) (c : C) (a : List ℤ)
        → events_of step (suc n) c a ≡ events_of step n c a ++ shown_by (step (reached step n c a).0) (reached step n c a).1
    events-next zero c a = at_once (step c) a
      where
        at_once : (m : Move C) (a : List ℤ) → follow m a (λ d b. []) ≡ shown_by m a
        at_once (Goes shown next) a = append-nil shown
        at_once (Asks shown next) [] = refl
        at_once (Asks shown next) (v ∷ a) = refl
        at_once Rests a = refl
    events-next (suc n) c a = follows_first n (step c) c a refl (λ d b. events-next n d b)

abbrev pub IsStill : Step → Type 0
IsStill Quiet = ⊥
IsStill (Shown e) = ⊥
IsStill Waiting = Unit {0}
IsStill Stopped = Unit {0}

-- what a machine that makes a move shows, and where it comes
pub record IsMade {C : Type 0} (m : Move C) (c : C) (a : List ℤ) (s : Step) (d : C) (b : List ℤ) : Type 0 where
  pub after : after_move m c a ≡ (d, b)
  pub shown : shown_by m a ≡ shown_of s
  pub stuck : IsStill s → IsStuck m a

pub made : {C : Type 0} (m : Move C) (c : C) (a : List ℤ) (s : Step) (d : C) (b : List ℤ) → Makes m c a s d b → IsMade m c a s d b
made (Goes [] next) c a Quiet d b h = record { after = ap₂ (λ e f. (e, f)) (sym h.0) (sym h.1); shown = refl; stuck = λ still. absurd still }
made (Goes (e ∷ []) next) c a (Shown x) d b h = record { after = ap₂ (λ e f. (e, f)) (sym h.1) (sym h.2); shown = ap (λ y. y ∷ []) (sym h.0); stuck = λ still. absurd still }
made (Asks shown next) c [] Waiting d b h = record { after = ap₂ (λ e f. (e, f)) (sym h.0) (sym h.1); shown = refl; stuck = λ still. tt }
made (Asks shown next) c (v ∷ a) (Shown x) d b h = record { after = ap₂ (λ e f. (e, f)) (sym h.1) (sym h.2); shown = ap (λ y. y ∷ []) (sym h.0); stuck = λ still. absurd still }
made Rests c a Stopped d b h = record { after = ap₂ (λ e f. (e, f)) (sym h.0) (sym h.1); shown = refl; stuck = λ still. tt }
made m c a s d b h = absurd h
