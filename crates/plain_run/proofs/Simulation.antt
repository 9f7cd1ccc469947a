-- A machine that is matched step by step by another one shows the same prefixes.
use Rattle.std.proofs.Common.{◌≡◌, ℕ, zero, suc, ◌<◌, ◌≤◌, ℤ, List, [], ◌∷◌, ◌++◌, refl, sym, ap, ◌∙◌, arith, append_assoc, ◌↔◌}
use Rattle.c_lang.specs.declared.event.Event.{Event}
use Rattle.plain_run.specs.Moves.{Move, Goes, Asks, Rests, follow, events_of, Shows}

module _ {D : Type 0} (step : D → Move D) where
  -- from d the machine shows these events and comes to e, in one step or more, without an answer
  pub record Leads (d : D) (shown : List Event) (e : D) : Type 0 where
    pub by : (n : ℕ) (a : List ℤ) → (m : ℕ) × (n < m) × (events_of step m d a ≡ shown ++ events_of step n e a)

  -- the same, silently, or in no step
  pub record Comes (d e : D) : Type 0 where
    pub by : (n : ℕ) (a : List ℤ) → (m : ℕ) × (n ≤ m) × (events_of step m d a ≡ events_of step n e a)

  -- with the answer v it shows an event and comes to e
  pub record Takes (d : D) (v : ℤ) (shown : Event) (e : D) : Type 0 where
    pub by : (n : ℕ) (a : List ℤ) → (m : ℕ) × (n < m) × (events_of step m d (v ∷ a) ≡ shown ∷ events_of step n e a)

  -- without an answer it shows nothing more
  pub record Waits (d : D) : Type 0 where
    pub by : (n : ℕ) → (m : ℕ) × (n ≤ m) × (events_of step m d [] ≡ [])

  -- it shows nothing more
  pub record Ends (d : D) : Type 0 where
    pub by : (n : ℕ) (a : List ℤ) → (m : ℕ) × (n ≤ m) × (events_of step m d a ≡ [])

  stay : (d : D) → Comes d d
  stay d = record { by = λ n a. (n, omega arith, refl) }

  -- one step
  pub goes_once : (d e : D) (shown : List Event) → step d ≡ Goes shown e → Leads d shown e
  goes_once d e shown is = record { by = λ n a. (suc n, omega arith, ap (λ x. follow x a (events_of step n)) is) }

  pub leads_on : (d e f : D) (one two : List Event) → Leads d one e → Leads e two f → Leads d (one ++ two) f
  leads_on d e f one two p q = record {
    by = λ n a. let y = q.by n a in let x = p.by y.0 a in
        (x.0, omega (arith, x.1, y.1), x.2 ∙ ap (λ l. one ++ l) y.2 ∙ sym (append_assoc one two (events_of step n f a)));
  }

  pub then_leads : (d e f : D) (shown : List Event) → Comes d e → Leads e shown f → Leads d shown f
  then_leads d e f shown p q = record {
    by = λ n a. let y = q.by n a in let x = p.by y.0 a in (x.0, omega (arith, x.1, y.1), x.2 ∙ y.2);
  }

  pub silently : (d e : D) → Leads d [] e → Comes d e
  silently d e p = record { by = λ n a. let x = p.by n a in (x.0, omega (arith, x.1), x.2) }

  pub comes_on : (d e f : D) → Comes d e → Comes e f → Comes d f
  comes_on d e f p q = record {
    by = λ n a. let y = q.by n a in let x = p.by y.0 a in (x.0, omega (arith, x.1, y.1), x.2 ∙ y.2);
  }

  pub takes_once : (d : D) (shown : ℤ → Event) (next : ℤ → D) (v : ℤ) → step d ≡ Asks shown next → Takes d v (shown v) (next v)
  takes_once d shown next v is =
      record { by = λ n a. (suc n, omega arith, ap (λ x. follow x (v ∷ a) (events_of step n)) is) }

  pub comes_takes : (d e f : D) (v : ℤ) (shown : Event) → Comes d e → Takes e v shown f → Takes d v shown f
  comes_takes d e f v shown p q = record {
    by = λ n a. let y = q.by n a in let x = p.by y.0 (v ∷ a) in (x.0, omega (arith, x.1, y.1), x.2 ∙ y.2);
  }

  pub takes_comes : (d e f : D) (v : ℤ) (shown : Event) → Takes d v shown e → Comes e f → Takes d v shown f
  takes_comes d e f v shown p q = record {
    by = λ n a. let y = q.by n a in let x = p.by y.0 a in
        (x.0, omega (arith, x.1, y.1), x.2 ∙ ap (λ l. shown ∷ l) y.2);
  }

  pub waits_there : (d : D) (shown : ℤ → Event) (next : ℤ → D) → step d ≡ Asks shown next → Waits d
  waits_there d shown next is =
      record { by = λ n. (suc n, omega arith, ap (λ x. follow x [] (events_of step n)) is) }

  pub comes_waits : (d e : D) → Comes d e → Waits e → Waits d
  comes_waits d e p q = record {
    by = λ n. let y = q.by n in let x = p.by y.0 [] in (x.0, omega (arith, x.1, y.1), x.2 ∙ y.2);
  }

  pub ends_there : (d : D) → step d ≡ Rests → Ends d
  ends_there d is =
      record { by = λ n a. (suc n, omega arith, ap (λ x. follow x a (events_of step n)) is) }

  pub comes_ends : (d e : D) → Comes d e → Ends e → Ends d
  comes_ends d e p q = record {
    by = λ n a. let y = q.by n a in let x = p.by y.0 a in (x.0, omega (arith, x.1, y.1), x.2 ∙ y.2);
  }

  move_longer : (m k : ℕ) → ((d : D) (a : List ℤ) → (rest : List Event) × (events_of step k d a ≡ events_of step m d a ++ rest))
      → (x : Move D) (b : List ℤ) → (rest : List Event) × (follow x b (events_of step k) ≡ follow x b (events_of step m) ++ rest)
  move_longer m k more (Goes shown next) b =
      let r = more next b in
      (r.0, ap (λ l. shown ++ l) r.1 ∙ sym (append_assoc shown (events_of step m next b) r.0))
  move_longer m k more (Asks shown next) [] = ([], refl)
  move_longer m k more (Asks shown next) (v ∷ b) =
      let r = more (next v) b in (r.0, ap (λ l. shown v ∷ l) r.1)
  move_longer m k more Rests b = ([], refl)

  -- more steps show the same and then maybe more
  pub longer : (m k : ℕ) (d : D) (a : List ℤ) → m ≤ k → (rest : List Event) × (events_of step k d a ≡ events_of step m d a ++ rest)
  longer zero k d a le = (events_of step k d a, refl)
  longer (suc m) zero d a le = absurd (omega arith)
  longer (suc m) (suc k) d a le = move_longer m k (λ e b. longer m k e b (omega arith)) (step d) a

module _ {C D : Type 0} (first : C → Move C) (second : D → Move D) (R : C → D → Type 0) where
  -- what the second machine owes for a move of the first
  abbrev pub Matches : Move C → D → Type 0
  Matches (Goes shown next) d = (e : D) × (Leads second d shown e) × R next e
  Matches (Asks shown next) d =
      Waits second d × ((v : ℤ) → (e : D) × (Takes second d v (shown v) e) × R (next v) e)
  Matches Rests d = Ends second d

  -- silent steps may come before
  pub matches_after : (x : Move C) (d e : D) → Comes second d e → Matches x e → Matches x d
  matches_after (Goes shown next) d e comes h = (h.0, then_leads second d e h.0 shown comes h.1, h.2)
  matches_after (Asks shown next) d e comes h = (
    comes_waits second d e comes h.0,
    λ v. let t = h.1 v in (t.0, comes_takes second d e t.0 v (shown v) comes t.1, t.2),
  )
  matches_after Rests d e comes h = comes_ends second d e comes h

  move_follows : (n : ℕ) → ((c : C) (d : D) (a : List ℤ) → R c d → (m : ℕ) × (n ≤ m) × (events_of second m d a ≡ events_of first n c a))
      → (d : D) (x : Move C) (b : List ℤ) → Matches x d → (m : ℕ) × (suc n ≤ m) × (events_of second m d b ≡ follow x b (events_of first n))
  move_follows n go d (Goes shown next) b h =
      let y = go next h.0 b h.2 in
      let x = h.1.by y.0 b in
      (x.0, omega (arith, x.1, y.1), x.2 ∙ ap (λ l. shown ++ l) y.2)
  move_follows n go d (Asks shown next) [] h = h.0.by (suc n)
  move_follows n go d (Asks shown next) (v ∷ b) h =
      let t = h.1 v in
      let y = go (next v) t.0 b t.2 in
      let x = t.1.by y.0 b in
      (x.0, omega (arith, x.1, y.1), x.2 ∙ ap (λ l. shown v ∷ l) y.2)
  move_follows n go d Rests b h = h.by (suc n) b

  module _ (matched : (c : C) (d : D) → R c d → Matches (first c) d) where
    pub follows : (n : ℕ) (c : C) (d : D) (a : List ℤ) → R c d → (m : ℕ) × (n ≤ m) × (events_of second m d a ≡ events_of first n c a)
    follows zero c d a r = (0, omega arith, refl)
    follows (suc n) c d a r = move_follows n (follows n) d (first c) a (matched c d r)

    pub forth : (c : C) (d : D) (a : List ℤ) (h : List Event) → R c d → Shows first c a h → Shows second d a h
    forth c d a h r o = let f = follows o.0 c d a r in (f.0, (o.1.0, f.2 ∙ o.1.1))

    pub back : (c : C) (d : D) (a : List ℤ) (h : List Event) → R c d → Shows second d a h → Shows first c a h
    back c d a h r o =
        let f = follows o.0 c d a r in
        let l = longer second o.0 f.0 d a f.1 in
        (o.0, (o.1.0 ++ l.0, sym f.2 ∙ l.1 ∙ ap (λ e. e ++ l.0) o.1.1 ∙ append_assoc h o.1.0 l.0))

-- what each configuration after a move has
abbrev pub Holds : {C : Type 0} → (C → Type 0) → Move C → Type 0
Holds I (Goes shown next) = I next
Holds I (Asks shown next) = (v : ℤ) → I (next v)
Holds I Rests = Unit {0}

-- a fact that the first machine keeps may be used at each step
module _ {C D : Type 0} (first : C → Move C) (second : D → Move D) (R : C → D → Type 0) (I : C → Type 0) where
  abbrev pub Both : C → D → Type 0
  Both c d = R c d × I c

  pub with_kept : (x : Move C) (d : D) → Matches first second R x d → Holds I x → Matches first second Both x d
  with_kept (Goes shown next) d h k = (h.0, h.1, (h.2, k))
  with_kept (Asks shown next) d h k = (h.0, λ v. let t = h.1 v in (t.0, t.1, (t.2, k v)))
  with_kept Rests d h k = h

  -- the second machine comes to a configuration that the first one's is related to
  pub same_from : ((c : C) (d : D) → R c d → I c → Matches first second R (first c) d) → ((c : C) → I c → Holds I (first c))
      → (c : C) (d e : D) → Comes second d e → R c e → I c → (a : List ℤ) (h : List Event) → Shows second d a h ↔ Shows first c a h
  same_from matched kept c d e comes r i a h = (back_from, forth_from)
    where
      catch : (n : ℕ) → (m : ℕ) × (n ≤ m) × (events_of second m d a ≡ events_of first n c a)
      catch n =
          let y = follows first second Both (λ c d b. with_kept (first c) d (matched c d b.0 b.1) (kept c b.1)) n c e a (r, i) in
          let x = comes.by y.0 a in
          (x.0, omega (arith, x.1, y.1), x.2 ∙ y.2)

      forth_from : Shows first c a h → Shows second d a h
      forth_from o = let f = catch o.0 in (f.0, (o.1.0, f.2 ∙ o.1.1))

      back_from : Shows second d a h → Shows first c a h
      back_from o =
          let f = catch o.0 in
          let l = longer second o.0 f.0 d a f.1 in
          (o.0, (o.1.0 ++ l.0, sym f.2 ∙ l.1 ∙ ap (λ x. x ++ l.0) o.1.1 ∙ append_assoc h o.1.0 l.0))
