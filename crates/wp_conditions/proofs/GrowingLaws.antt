-- Laws of a list that grows up to a limit.
use Rattle.std.proofs.Common.{◌≡◌, ◌⊎◌, inl, inr, ℕ, ◌+◌, ◌-◌, ◌<◌, ◌≤◌, Bool, true, false, if◌then◌else◌, is_none, min, ◌^◌, List, [], ◌∷◌, ◌++◌, map, flat_map, Option, Some, None, refl, sym, ap, ◌∙◌, arith}
use Rattle.std.proofs.lemmas.Bool.{le-leb, lt-leb, cases_lt}
use Rattle.std.proofs.Math.Nat.{min-eq_left, min-eq_right, min-le_left}
use Rattle.std.proofs.lemmas.List.{map-append}
use Rattle.c_lang.specs.declared.program.Func.{Func}
use Rattle.c_lang.specs.declared.program.Program.{Program}
use Rattle.terms.specs.declared.fact.Fact.{Fact}
use Rattle.terms.specs.declared.fact.Fact.TheVariants as fact
use Rattle.terms.specs.declared.sequent.Sequent.{Sequent}
use Rattle.terms.specs.Sizes.{fact_size, sequent_size}
use Rattle.weakest_preconditions.specs.Wp.{Condition}
use Rattle.weakest_preconditions.specs.Sorts.{sequent}
use Rattle.weakest_preconditions.specs.Conditions.{node_limit, sequents_size}
use Rattle.condition_sorts.specs.Sorted.{with_sorts}
use Rattle.wp_conditions.specs.Code.Growing.{within, pushed, grown, grown_each, room_in, HasRoom, with_one, pushed_sequent}

pub size_of_last : (l : List Sequent) (s : Sequent) → sequents_size (l ++ (s ∷ [])) ≡ sequents_size l + sequent_size s
size_of_last [] s = omega arith
size_of_last (x ∷ l) s = let rest : sequents_size (l ++ (s ∷ [])) ≡ sequents_size l + sequent_size s = size_of_last l s in omega (arith, rest)

-- with the sequent's size added, where there is room for it
pub grows : (full : Bool) (l : List Sequent) (s : Sequent) (nodes size : ℕ) → HasRoom (if full then None else Some l) (sequent_size s)
    → nodes ≡ sequents_size l → sequents_size l ≤ node_limit → size ≡ min (sequent_size s) (2 ^ 64 - 1)
    → (nodes + size ≡ sequents_size (l ++ (s ∷ []))) × (sequents_size (l ++ (s ∷ [])) ≤ node_limit)
grows true l s nodes size room counted small capped = absurd room
grows false l s nodes size room counted small capped =
    let last : sequents_size (l ++ (s ∷ [])) ≡ sequents_size l + sequent_size s = size_of_last l s in
    let fits : sequent_size s ≤ 2 ^ 64 - 1 = omega (arith, room) in
    let whole : size ≡ sequent_size s = capped ∙ min-eq_left fits in
    (omega (arith, last, whole, counted), omega (arith, last, room, small))

fits_one : (l : List Sequent) (s : Sequent) → sequents_size l + sequent_size s ≤ node_limit → within (l ++ (s ∷ [])) ≡ Some (l ++ (s ∷ []))
fits_one l s fits =
    let last : sequents_size (l ++ (s ∷ [])) ≡ sequents_size l + sequent_size s = size_of_last l s in
    ap (λ b. if b then Some (l ++ (s ∷ [])) else None) (le-leb (sequents_size (l ++ (s ∷ []))) node_limit (omega (arith, last, fits)))

too_large : (l : List Sequent) (s : Sequent) → node_limit < sequents_size l + sequent_size s → within (l ++ (s ∷ [])) ≡ None
too_large l s large =
    let last : sequents_size (l ++ (s ∷ [])) ≡ sequents_size l + sequent_size s = size_of_last l s in
    ap (λ b. if b then Some (l ++ (s ∷ [])) else None) (lt-leb (sequents_size (l ++ (s ∷ []))) node_limit (omega (arith, last, large)))

a_fact : (f : Fact) → 1 ≤ fact_size f
a_fact (fact.Plain f) = omega arith
a_fact (fact.All x lo hi f) = omega arith

module _ (p : Program) (f : Func) (s : Condition) where
  size : ℕ
  size = sequent_size (sequent p f s)

  -- the size of a condition, which is more than 0
  pub some_size : 1 ≤ sequent_size (sequent p f s)
  some_size = let goal : 1 ≤ fact_size s.goal = a_fact s.goal in omega (arith, goal)

  pub has_room : (m : Option (List Sequent)) → is_none m ≡ false → sequent_size (sequent p f s) ≤ room_in m → HasRoom m (sequent_size (sequent p f s))
  has_room None some fits = absurd cc
  has_room (Some l) some fits = fits

  pub one_more : (m : Option (List Sequent)) → is_none m ≡ false → sequent_size (sequent p f s) ≤ room_in m → with_one m (sequent p f s) ≡ pushed p f m s
  one_more None some fits = absurd cc
  one_more (Some l) some fits = sym (fits_one l (sequent p f s) (omega (arith, fits, some_size)))

  pub none_more : (m : Option (List Sequent)) → room_in m < sequent_size (sequent p f s) → None ≡ pushed p f m s
  none_more None large = refl
  none_more (Some l) large = sym (too_large l (sequent p f s) (omega (arith, large)))

pub grown_append : (p : Program) (f : Func) (m : Option (List Sequent)) (a b : List Condition) → grown p f m (a ++ b) ≡ grown p f (grown p f m a) b
grown_append p f m [] b = refl
grown_append p f m (s ∷ a) b = grown_append p f (pushed p f m s) a b

pub each_is : {X : Type 0} (p : Program) (f : Func) (m : Option (List Sequent)) (g : Condition → Condition) (make : X → List Condition) (xs : List X)
    → grown_each p f m (λ x. map g (make x)) xs ≡ grown p f m (map g (flat_map make xs))
each_is p f m g make [] = refl
each_is p f m g make (x ∷ xs) =
    each_is p f (grown p f m (map g (make x))) g make xs
    ∙ sym (grown_append p f m (map g (make x)) (map g (flat_map make xs)))
    ∙ ap (grown p f m) (sym (map-append g (make x) (flat_map make xs)))

-- once it is too large it stays so
pub full_stays : (p : Program) (f : Func) (l : List Condition) → grown p f None l ≡ None
full_stays p f [] = refl
full_stays p f (s ∷ l) = full_stays p f l

-- a size that stands still at its limit, beside the room
room_small : (m : Option (List Sequent)) → room_in m ≤ 16777216
room_small None = omega arith
room_small (Some l) = omega arith

pub size_within : (m : Option (List Sequent)) (size real : ℕ) → size ≡ min real (2 ^ 64 - 1) → size ≤ room_in m → real ≤ room_in m
size_within m size real is fits = by (cases_lt real (2 ^ 64 - 1))
  where
    small : room_in m ≤ 16777216
    small = room_small m

    by : (real < 2 ^ 64 - 1) ⊎ (2 ^ 64 - 1 ≤ real) → real ≤ room_in m
    by (inl less) = let whole : size ≡ real = is ∙ min-eq_left (omega (arith, less)) in omega (arith, whole, fits)
    by (inr large) = let whole : size ≡ 2 ^ 64 - 1 = is ∙ min-eq_right large in absurd (omega (arith, whole, fits, small))

pub size_past : (m : Option (List Sequent)) (size real : ℕ) → size ≡ min real (2 ^ 64 - 1) → room_in m < size → room_in m < real
size_past m size real is past = let least : min real (2 ^ 64 - 1) ≤ real = min-le_left real (2 ^ 64 - 1) in omega (arith, is, least, past)

module _ (p : Program) (f : Func) (s : Sequent) where
  sequent_some : 1 ≤ sequent_size s
  sequent_some = let goal : 1 ≤ fact_size s.goal = a_fact s.goal in omega (arith, goal)

  pub sequent_room : (m : Option (List Sequent)) → is_none m ≡ false → sequent_size s ≤ room_in m → HasRoom m (sequent_size s)
  sequent_room None some fits = absurd cc
  sequent_room (Some l) some fits = fits

  pub one_sequent : (m : Option (List Sequent)) → is_none m ≡ false → sequent_size s ≤ room_in m → with_one m (with_sorts p f s) ≡ pushed_sequent p f m s
  one_sequent None some fits = absurd cc
  one_sequent (Some l) some fits = sym (fits_one l (with_sorts p f s) (omega (arith, fits, sequent_some)))

  pub no_sequent : (m : Option (List Sequent)) → room_in m < sequent_size s → None ≡ pushed_sequent p f m s
  no_sequent None large = refl
  no_sequent (Some l) large = sym (too_large l (with_sorts p f s) (omega (arith, large)))
