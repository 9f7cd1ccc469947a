-- The list of a whole program, one function after the other.
use Rattle.std.proofs.Common.{◌≡◌, ◌⊎◌, inl, inr, ℕ, ◌+◌, ◌<◌, ◌≤◌, Bool, true, false, not, ◌||◌, min, nat_lt, if◌then◌else◌, is_none, List, [], ◌∷◌, ◌++◌, map, flat_map, length, drop, get_or, Option, Some, None, refl, sym, ap, ap₂, subst, ◌∙◌, arith}
use Rattle.std.proofs.lemmas.Bool.{le-leb, lt-leb, lt-ltb, le-ltb, cases_lt}
use Rattle.std.proofs.Math.Nat.{min-eq_left, min-eq_right, min-le_left}
use Rattle.std.proofs.lemmas.List.{append_assoc, append-nil, length-map, at_drop_more, at_drop_all}
use Rattle.c_lang.specs.declared.program.Func.{Func}
use Rattle.c_lang.specs.declared.program.Program.{Program}
use Rattle.terms.specs.declared.sequent.Sequent.{Sequent}
use Rattle.weakest_preconditions.specs.Wp.{Condition}
use Rattle.weakest_preconditions.specs.Sorts.{sequent}
use Rattle.weakest_preconditions.specs.Conditions.{Part, function_conditions, function_part, initial_condition, initial_conditions, initial_part, main_name, condition_limit, node_limit, sequents_size, first_too_many, parts, conds}
use Rattle.c_lang.specs.Programs.{func_named}
use Rattle.c_lang.specs.declared.unit.Pos.{Pos}
use Rattle.loop_invariants.specs.Hints.{Hints}
use Rattle.loop_invariants.specs.Context.{context_of}
use Rattle.annotated_bodies.specs.Sources.{Sources, context_in}
use Rattle.symbolic_state.specs.Steps.{without_sorts}
use Rattle.wp_conditions.specs.Code.Growing.{within, pushed, grown, grown_sequents}
use Rattle.wp_conditions.specs.Code.Functions.{IsAdded}
use Rattle.wp_conditions.specs.Code.Whole.{IsWithin, so_far, sequents_of, IsOneRun, IsRun, Runs, initial_of, IsStart}
use Rattle.wp_conditions.proofs.GrowingLaws.{full_stays}

pub size_of_both : (l m : List Sequent) → sequents_size (l ++ m) ≡ sequents_size l + sequents_size m
size_of_both [] m = omega arith
size_of_both (s ∷ l) m = let rest : sequents_size (l ++ m) ≡ sequents_size l + sequents_size m = size_of_both l m in omega (arith, rest)

fits : (l : List Sequent) → sequents_size l ≤ node_limit → within l ≡ Some l
fits l small = ap (λ b. if b then Some l else None) (le-leb (sequents_size l) node_limit small)

past : (l : List Sequent) → node_limit < sequents_size l → within l ≡ None
past l large = ap (λ b. if b then Some l else None) (lt-leb (sequents_size l) node_limit large)

module _ (p : Program) (f : Func) where
  -- a list that grows is within its limit exactly where its end is
  pub grown_is : (l : List Sequent) (cs : List Condition) → sequents_size l ≤ node_limit → grown p f (Some l) cs ≡ within (l ++ map (sequent p f) cs)
  grown_is l [] small = sym (fits l small) ∙ ap within (sym (append-nil l))
  grown_is l (s ∷ cs) small = by (cases_lt node_limit (sequents_size (l ++ (sequent p f s ∷ []))))
      (λ room. grown_is (l ++ (sequent p f s ∷ [])) cs room)
    where
      longer : (l ++ (sequent p f s ∷ [])) ++ map (sequent p f) cs ≡ l ++ (sequent p f s ∷ map (sequent p f) cs)
      longer = append_assoc l (sequent p f s ∷ []) (map (sequent p f) cs)

      by : (node_limit < sequents_size (l ++ (sequent p f s ∷ []))) ⊎ (sequents_size (l ++ (sequent p f s ∷ [])) ≤ node_limit)
          → (sequents_size (l ++ (sequent p f s ∷ [])) ≤ node_limit → grown p f (Some (l ++ (sequent p f s ∷ []))) cs ≡ within ((l ++ (sequent p f s ∷ [])) ++ map (sequent p f) cs))
          → grown p f (within (l ++ (sequent p f s ∷ []))) cs ≡ within (l ++ (sequent p f s ∷ map (sequent p f) cs))
      by (inl large) rest =
          let whole : sequents_size ((l ++ (sequent p f s ∷ [])) ++ map (sequent p f) cs) ≡ sequents_size (l ++ (sequent p f s ∷ [])) + sequents_size (map (sequent p f) cs)
          = size_of_both (l ++ (sequent p f s ∷ [])) (map (sequent p f) cs) in
          ap (λ m. grown p f m cs) (past (l ++ (sequent p f s ∷ [])) large) ∙ full_stays p f cs
          ∙ sym (past ((l ++ (sequent p f s ∷ [])) ++ map (sequent p f) cs) (omega (arith, large, whole))) ∙ ap within longer
      by (inr small_still) rest =
          ap (λ m. grown p f m cs) (fits (l ++ (sequent p f s ∷ [])) small_still) ∙ rest small_still ∙ ap within longer

module _ (s : Sources) (f : Func) (l : List Sequent) where
  count : ℕ
  count = length (sequents_of s f)

  -- too many conditions
  pub too_many : condition_limit < length (function_conditions (context_in s) f) → (m : Option (List Sequent)) → IsOneRun s l f m false
  too_many large m parts =
      let same : length (sequents_of s f) ≡ length (function_conditions (context_in s) f) = length-map (function_conditions (context_in s) f) (sequent s.0 f) in
      ap (λ b. if b || nat_lt node_limit (sequents_size l + sequents_size (sequents_of s f)) then Some f.pos
      else first_too_many (sequents_size l + sequents_size (sequents_of s f)) parts) (lt-ltb condition_limit (0 + length (sequents_of s f)) (omega (arith, large, same)))

  -- few enough, and what there is then
  pub added : length (function_conditions (context_in s) f) ≤ condition_limit → sequents_size l ≤ node_limit
      → (m : Option (List Sequent)) → m ≡ grown s.0 f (Some l) (function_conditions (context_in s) f) → (b : Bool) → b ≡ is_none m → IsOneRun s l f m (not b)
  added few small m is b full = by (cases_lt node_limit (sequents_size (l ++ sequents_of s f)))
    where
      same : length (sequents_of s f) ≡ length (function_conditions (context_in s) f)
      same = length-map (function_conditions (context_in s) f) (sequent s.0 f)

      whole : sequents_size (l ++ sequents_of s f) ≡ sequents_size l + sequents_size (sequents_of s f)
      whole = size_of_both l (sequents_of s f)

      made : m ≡ within (l ++ sequents_of s f)
      made = is ∙ grown_is s.0 f l (function_conditions (context_in s) f) small

      not_many : nat_lt condition_limit (0 + length (sequents_of s f)) ≡ false
      not_many = le-ltb condition_limit (0 + length (sequents_of s f)) (omega (arith, same, few))

      by : (node_limit < sequents_size (l ++ sequents_of s f)) ⊎ (sequents_size (l ++ sequents_of s f) ≤ node_limit) → IsOneRun s l f m (not b)
      by (inl large) =
          let none : b ≡ true = full ∙ ap is_none (made ∙ past (l ++ sequents_of s f) large) in
          subst (λ c. IsOneRun s l f m (not c)) (sym none)
          (λ parts. ap (λ c. if c || nat_lt node_limit (sequents_size l + sequents_size (sequents_of s f)) then Some f.pos
          else first_too_many (sequents_size l + sequents_size (sequents_of s f)) parts) not_many
          ∙ ap (λ c. if c then Some f.pos else first_too_many (sequents_size l + sequents_size (sequents_of s f)) parts)
          (lt-ltb node_limit (sequents_size l + sequents_size (sequents_of s f)) (omega (arith, large, whole))))
      by (inr room) =
          let is_made : m ≡ Some (l ++ sequents_of s f) = made ∙ fits (l ++ sequents_of s f) room in
          let some : b ≡ false = full ∙ ap is_none is_made in
          subst (λ c. IsOneRun s l f m (not c)) (sym some) (
            is_made,
            subst IsWithin (sym is_made) room,
            (λ parts. ap (λ c. if c || nat_lt node_limit (sequents_size l + sequents_size (sequents_of s f)) then Some f.pos
                else first_too_many (sequents_size l + sequents_size (sequents_of s f)) parts) not_many
                ∙ ap (λ c. if c then Some f.pos else first_too_many (sequents_size l + sequents_size (sequents_of s f)) parts)
                (le-ltb node_limit (sequents_size l + sequents_size (sequents_of s f)) (omega (arith, room, whole)))
                ∙ ap (λ n. first_too_many n parts) (sym whole)),
          )

within_some : (m : Option (List Sequent)) → IsWithin m → m ≡ Some (so_far m)
within_some None w = absurd w
within_some (Some l) w = refl

within_small : (m : Option (List Sequent)) → IsWithin m → sequents_size (so_far m) ≤ node_limit
within_small None w = absurd w
within_small (Some l) w = w

-- what adding a function answers
pub one_added : (s : Sources) (f : Func) (old new : Option (List Sequent)) → IsWithin old → IsAdded s f old new true → (b : Bool) → b ≡ is_none new
    → IsOneRun s (so_far old) f new (not b)
one_added s f old new w a b full = added s f (so_far old) a.0 (within_small old w) new
    (a.1 ∙ ap (λ m. grown s.0 f m (function_conditions (context_in s) f)) (within_some old w)) b full

pub one_refused : (s : Sources) (f : Func) (old new : Option (List Sequent)) → IsAdded s f old new false → IsOneRun s (so_far old) f new false
one_refused s f old new a = too_many s f (so_far old) a new

-- ---- several functions

pub begins : (s : Sources) (m : Option (List Sequent)) (fs : List Func) → IsWithin m → Runs s m fs m fs
begins s m fs w = record { within = w; list = refl; parts = λ ps. refl }

pub goes_on : (s : Sources) (m0 m new : Option (List Sequent)) (fs rest : List Func) (f : Func) → Runs s m0 fs m (f ∷ rest) → IsOneRun s (so_far m) f new true
    → Runs s m0 fs new rest
goes_on s m0 m new fs rest f r one =
    let far : so_far new ≡ so_far m ++ sequents_of s f = ap so_far one.0 in
    record {
      within = one.1;
      list = ap (λ l. l ++ flat_map (sequents_of s) rest) far ∙ append_assoc (so_far m) (sequents_of s f) (flat_map (sequents_of s) rest) ∙ r.list;
      parts = λ ps. ap (λ l. first_too_many (sequents_size l) (map (function_part s.0 (context_in s)) rest ++ ps)) far
          ∙ sym (one.2 (map (function_part s.0 (context_in s)) rest ++ ps)) ∙ r.parts ps;
    }

pub stops : (s : Sources) (m0 m new : Option (List Sequent)) (fs rest : List Func) (f : Func) → Runs s m0 fs m (f ∷ rest) → IsOneRun s (so_far m) f new false
    → IsRun s (so_far m0) fs new (Some f.pos)
stops s m0 m new fs rest f r one ps = sym (r.parts ps) ∙ one (map (function_part s.0 (context_in s)) rest ++ ps)

pub ends : (s : Sources) (m0 m : Option (List Sequent)) (fs : List Func) → Runs s m0 fs m [] → IsRun s (so_far m0) fs m None
ends s m0 m fs r =
    let whole : so_far m ≡ so_far m0 ++ flat_map (sequents_of s) fs = sym (append-nil (so_far m)) ∙ r.list in
    (within_some m r.within ∙ ap Some whole, r.within, (λ ps. sym (r.parts ps) ∙ ap (λ l. first_too_many (sequents_size l) ps) whole))

-- ---- places in a list of functions

pub one_left : (all : List Func) (i : ℕ) (f : Func) → i < length all → f ≡ get_or all i f → drop i all ≡ f ∷ drop (i + 1) all
one_left all i f here is = at_drop_more (λ (l : List Func). l) all i f here ∙ ap (λ x. x ∷ drop (i + 1) all) (sym is)

pub none_left : (all : List Func) (i : ℕ) → length all ≤ i → drop i all ≡ []
none_left all i past = at_drop_all (λ (l : List Func). l) all i past

-- ---- the start

pub sequents_grown : (p : Program) (f : Func) (m : Option (List Sequent)) (cs : List Condition) → grown_sequents p f m (map without_sorts cs) ≡ grown p f m cs
sequents_grown p f m [] = refl
sequents_grown p f None (s ∷ cs) = sequents_grown p f None cs
sequents_grown p f (Some l) (s ∷ cs) = sequents_grown p f (pushed p f (Some l) s) cs

module _ (s : Sources) (main : Func) (l : List Sequent) where
  before : ℕ
  before = length (function_conditions (context_in s) main)

  start_count : length (initial_of s main) ≡ length ((context_in s).needs main_name)
  start_count = length-map (initial_conditions s.0 (context_in s) main) (sequent s.0 main) ∙ length-map ((context_in s).needs main_name) (initial_condition s.0 main.pos)

  pub start_refused : condition_limit < length (function_conditions (context_in s) main) + length ((context_in s).needs main_name) → (m : Option (List Sequent)) → IsStart s l main m false
  start_refused large m =
      ap (λ b. if b || nat_lt node_limit (sequents_size l + sequents_size (initial_of s main)) then Some main.pos else None)
      (lt-ltb condition_limit (length (function_conditions (context_in s) main) + length (initial_of s main)) (omega (arith, large, start_count)))

  pub started : length (function_conditions (context_in s) main) + length ((context_in s).needs main_name) ≤ condition_limit → sequents_size l ≤ node_limit
      → (m : Option (List Sequent)) → m ≡ grown s.0 main (Some l) (initial_conditions s.0 (context_in s) main) → (b : Bool) → b ≡ is_none m → IsStart s l main m (not b)
  started few small m is b full = by (cases_lt node_limit (sequents_size (l ++ initial_of s main)))
    where
      whole : sequents_size (l ++ initial_of s main) ≡ sequents_size l + sequents_size (initial_of s main)
      whole = size_of_both l (initial_of s main)

      made : m ≡ within (l ++ initial_of s main)
      made = is ∙ grown_is s.0 main l (initial_conditions s.0 (context_in s) main) small

      not_many : nat_lt condition_limit (length (function_conditions (context_in s) main) + length (initial_of s main)) ≡ false
      not_many = le-ltb condition_limit (length (function_conditions (context_in s) main) + length (initial_of s main)) (omega (arith, start_count, few))

      by : (node_limit < sequents_size (l ++ initial_of s main)) ⊎ (sequents_size (l ++ initial_of s main) ≤ node_limit) → IsStart s l main m (not b)
      by (inl large) =
          let none : b ≡ true = full ∙ ap is_none (made ∙ past (l ++ initial_of s main) large) in
          subst (λ c. IsStart s l main m (not c)) (sym none)
          (ap (λ c. if c || nat_lt node_limit (sequents_size l + sequents_size (initial_of s main)) then Some main.pos else None) not_many
          ∙ ap (λ c. if c then Some main.pos else None) (lt-ltb node_limit (sequents_size l + sequents_size (initial_of s main)) (omega (arith, large, whole))))
      by (inr room) =
          let is_made : m ≡ Some (l ++ initial_of s main) = made ∙ fits (l ++ initial_of s main) room in
          let some : b ≡ false = full ∙ ap is_none is_made in
          subst (λ c. IsStart s l main m (not c)) (sym some) (
            is_made,
            (ap (λ c. if c || nat_lt node_limit (sequents_size l + sequents_size (initial_of s main)) then Some main.pos else None) not_many
                ∙ ap (λ c. if c then Some main.pos else None) (le-ltb node_limit (sequents_size l + sequents_size (initial_of s main)) (omega (arith, room, whole)))),
          )

pub start_made : (s : Sources) (main : Func) (old new : Option (List Sequent)) → IsWithin old
    → length (function_conditions (context_in s) main) + length ((context_in s).needs main_name) ≤ condition_limit
    → new ≡ grown_sequents s.0 main old (map without_sorts (map (initial_condition s.0 main.pos) ((context_in s).needs main_name))) → (b : Bool) → b ≡ is_none new
    → IsStart s (so_far old) main new (not b)
start_made s main old new w few is b full = started s main (so_far old) few (within_small old w) new
    (is ∙ sequents_grown s.0 main old (initial_conditions s.0 (context_in s) main)
    ∙ ap (λ m. grown s.0 main m (initial_conditions s.0 (context_in s) main)) (within_some old w)) b full

-- the sum of two counts that may stand still
pub sum_past : (n k count : ℕ) → n ≡ min count 18446744073709551615 → 4096 < min (n + k) 18446744073709551615 → 4096 < count + k
sum_past n k count is large =
    let least : min count 18446744073709551615 ≤ count = min-le_left count 18446744073709551615 in
    let sum : min (n + k) 18446744073709551615 ≤ n + k = min-le_left (n + k) 18446744073709551615 in
    omega (arith, is, large, least, sum)

pub sum_small : (n k count : ℕ) → n ≡ min count 18446744073709551615 → min (n + k) 18446744073709551615 ≤ 4096 → count + k ≤ 4096
sum_small n k count is small = by (cases_lt (n + k) 18446744073709551615)
  where
    by : (n + k < 18446744073709551615) ⊎ (18446744073709551615 ≤ n + k) → count + k ≤ 4096
    by (inl less) =
        let whole : min (n + k) 18446744073709551615 ≡ n + k = min-eq_left (omega (arith, less)) in
        let all : n + k ≤ 4096 = omega (arith, whole, small) in
        by_count all (cases_lt count 18446744073709551615)
      where
        by_count : n + k ≤ 4096 → (count < 18446744073709551615) ⊎ (18446744073709551615 ≤ count) → count + k ≤ 4096
        by_count all (inl less) = let same : n ≡ count = is ∙ min-eq_left (omega (arith, less)) in omega (arith, same, all)
        by_count all (inr large) = let same : n ≡ 18446744073709551615 = is ∙ min-eq_right large in absurd (omega (arith, same, all))
    by (inr large) = let whole : min (n + k) 18446744073709551615 ≡ 18446744073709551615 = min-eq_right large in absurd (omega (arith, whole, small))

-- ---- the whole list

some_is : {a b : List Sequent} → Some a ≡ Some b → a ≡ b
some_is e = ap so_far e

all_parts : (s : Sources) (fs : List Func) (ps : List Part) → flat_map (λ part. part.conditions) (map (function_part s.0 (context_in s)) fs ++ ps)
    ≡ flat_map (sequents_of s) fs ++ flat_map (λ part. part.conditions) ps
all_parts s [] ps = refl
all_parts s (f ∷ fs) ps =
    ap (λ l. sequents_of s f ++ l) (all_parts s fs ps)
    ∙ sym (append_assoc (sequents_of s f) (flat_map (sequents_of s) fs) (flat_map (λ part. part.conditions) ps))

module _ (p : Program) (hints : Hints) (m : Option (List Sequent)) where
  s : Sources
  s = (p, hints)

  parts_are : (o : Option Func) → func_named p.funcs main_name ≡ o → parts p hints ≡ map (function_part p (context_of p hints)) p.funcs ++ initial_part p (context_of p hints) o
  parts_are o e = ap (λ x. map (function_part p (context_of p hints)) p.funcs ++ initial_part p (context_of p hints) x) e

  -- there is no function that starts the program
  pub all_made : IsRun (p, hints) [] p.funcs m None → func_named p.funcs main_name ≡ None
      → (list : List Sequent) → m ≡ Some list → (list ≡ conds p hints) × (first_too_many 0 (parts p hints) ≡ None)
  all_made run none list is =
      let here : list ≡ flat_map (sequents_of (p, hints)) p.funcs = some_is (sym is ∙ run.0) in
      let whole : parts p hints ≡ map (function_part p (context_of p hints)) p.funcs ++ [] = parts_are None none in (
        here ∙ sym (append-nil (flat_map (sequents_of (p, hints)) p.funcs)) ∙ sym (all_parts (p, hints) p.funcs []) ∙ ap (flat_map (λ part. part.conditions)) (sym whole),
        ap (first_too_many 0) whole ∙ run.2 [],
      )

  -- a function starts it
  pub all_started : (main : Func) (new : Option (List Sequent)) → IsRun (p, hints) [] p.funcs m None → func_named p.funcs main_name ≡ Some main
      → IsStart (p, hints) (so_far m) main new true → (list : List Sequent) → new ≡ Some list → (list ≡ conds p hints) × (first_too_many 0 (parts p hints) ≡ None)
  all_started main new run some start list is =
      let far : so_far m ≡ flat_map (sequents_of (p, hints)) p.funcs = ap so_far run.0 in
      let here : list ≡ so_far m ++ initial_of (p, hints) main = some_is (sym is ∙ start.0) in
      let last : List Part = initial_part p (context_of p hints) (Some main) in
      let whole : parts p hints ≡ map (function_part p (context_of p hints)) p.funcs ++ last = parts_are (Some main) some in (
        here ∙ ap₂ (λ l k. l ++ k) far (sym (append-nil (initial_of (p, hints) main))) ∙ sym (all_parts (p, hints) p.funcs last) ∙ ap (flat_map (λ part. part.conditions)) (sym whole),
        ap (first_too_many 0) whole ∙ run.2 last ∙ ap (λ l. first_too_many (sequents_size l) last) (sym far) ∙ start.1,
      )

  pub stopped_in_function : (pos : Pos) → IsRun (p, hints) [] p.funcs m (Some pos) → first_too_many 0 (parts p hints) ≡ Some pos
  stopped_in_function pos run = run (initial_part p (context_of p hints) (func_named p.funcs main_name))

  pub stopped_at_start : (main : Func) (new : Option (List Sequent)) → IsRun (p, hints) [] p.funcs m None → func_named p.funcs main_name ≡ Some main
      → IsStart (p, hints) (so_far m) main new false → first_too_many 0 (parts p hints) ≡ Some main.pos
  stopped_at_start main new run some start =
      let far : so_far m ≡ flat_map (sequents_of (p, hints)) p.funcs = ap so_far run.0 in
      let last : List Part = initial_part p (context_of p hints) (Some main) in
      ap (first_too_many 0) (parts_are (Some main) some) ∙ run.2 last ∙ ap (λ l. first_too_many (sequents_size l) last) (sym far) ∙ start
