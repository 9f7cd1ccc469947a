-- What typing adds to what is written: declarations are narrow, and in a pick results go to what is declared. What is
-- written and typed is good.
use Rattle.std.specs.Prelude.{⊤, ◌≡◌, Bool, true, false, cond, bytes_eq, List, [], ◌∷◌, map, Option, Some, None}
use Rattle.std.proofs.Common.{refl, sym, ap, subst, ◌∙◌, arith}
use Rattle.std.specs.List.{Contains}
use Rattle.std.specs.Option.{is_some, option_or}
use Rattle.c_lang.specs.Names.{Bytes}
use Rattle.c_lang.specs.Trees.{Expression, literal, variable, element, function, null, negation, logical_not, binary, Statement, Statements, skip, set, set_element, call, call_by, if_else, while_loop, break_loop, return_with, assert_that, input, output, point, choice, force, pick, none, more}
use Rattle.c_lang.specs.declared.unit.Unit.{Unit}
use Rattle.c_lang.specs.declared.stmt.Kind.{Kind}
use Rattle.c_lang.specs.declared.stmt.Kind.TheVariants.{Int, Fp}
use Rattle.c_lang.specs.declared.stmt.Dest.{Dest}
use Rattle.c_lang.specs.declared.stmt.Dest.TheVariants.{Nowhere, Into, Fresh}
use Rattle.c_types.specs.Functions.{with_param, with_params}
use Rattle.c_types.specs.Names.{Means, Cell, Array, Code, Refused, Entries, found, meant, added}
use Rattle.c_types.specs.Scopes.{Picks, Scope, Block, with_dest}
use Rattle.c_types.specs.Scopes as scopes
use Rattle.c_types.specs.Statements.{dest_of, scope_after, block_in, entered, after_block}
use Rattle.c_types.specs.Typing.{IsNarrow, IsCell, IsDest, IsPicked, IsPick, IsTypedStatement, AreTyped}
use Rattle.merged_program.proofs.AddedNames.{found_added}
use Rattle.merge_printer.proofs.Fitting.{KindFits, DestFits, TargetFits}
use Rattle.written_laws.specs.Destinations.{OfResult, IsLocal}
use Rattle.written_laws.specs.Literals.{HasInts, HaveInts, ReturnsInts}
use Rattle.written_laws.specs.SourceNames.{HasNames, HaveNames, ReturnsNames, DestHasNames}
use Rattle.written_laws.specs.Walk.{Context, told, told_all, in_loop, in_pick, past, past_all, Throughout, ThroughoutAll}
use Rattle.written_laws.specs.Walk as walk
use Rattle.written_laws.proofs.Scopes.{at_front, further, same_bytes}
use Rattle.written_laws.proofs.StatementFits.{IsFit, IsTarget}
use Rattle.merged_texts.proofs.NameFits.{source_name, source_word}
use Rattle.merged_texts.proofs.SourceStatements.{IsSound, AreSound, ReturnsSound, IsHere, ResultFits, IsGood}

abbrev IsNarrowDest : Dest → Type 0
IsNarrowDest Nowhere = ⊤
IsNarrowDest (Into x) = ⊤
IsNarrowDest (Fresh k x) = KindFits k

abbrev Declares : Statement → Type 0
Declares (set p d e) = IsNarrowDest d
Declares (call p d f es) = IsNarrowDest d
Declares (call_by p d x es) = IsNarrowDest d
Declares (input p d) = IsNarrowDest d
Declares (choice p d k) = IsNarrowDest d
Declares s = ⊤

pub record IsPlacedWell (at : Context) (s : Statement) : Type 0 where
  pub declares : Declares s
  pub picked : at.in_pick ≡ true → OfResult (IsHere at) s

pub kind_fits : (k : Kind) → IsNarrow k → KindFits k
kind_fits Int h = tt
kind_fits (Fp n) h = h

narrow_dest : (block : Block) (scope : Scope) (d : Dest) → IsDest block scope d → IsNarrowDest d
narrow_dest block scope Nowhere h = tt
narrow_dest block scope (Into x) h = tt
narrow_dest block scope (Fresh k x) h = kind_fits k h.1

-- ---- what is declared stays so

still_dest : (names : List Bytes) (d : Dest) (x : Bytes) → Contains names x → Contains (walk.with_dest names d) x
still_dest names Nowhere x h = h
still_dest names (Into y) x h = h
still_dest names (Fresh k y) x h = further y x names h

mutual
  pub still_told : (names : List Bytes) (s : Statement) (x : Bytes) → Contains names x → Contains (told names s) x
  still_told names (if_else p e a b) x h = still_all (told_all names a) b x (still_all names a x h)
  still_told names (while_loop p e a) x h = still_all names a x h
  still_told names (set p d e) x h = still_dest names d x h
  still_told names (call p d f es) x h = still_dest names d x h
  still_told names (call_by p d y es) x h = still_dest names d x h
  still_told names (input p d) x h = still_dest names d x h
  still_told names (choice p d k) x h = still_dest names d x h
  still_told names (skip p) x h = h
  still_told names (set_element p a i e) x h = h
  still_told names (break_loop p) x h = h
  still_told names (return_with p e) x h = h
  still_told names (assert_that p e) x h = h
  still_told names (output p e) x h = h
  still_told names (point p k) x h = h
  still_told names (force p) x h = h
  still_told names (pick p a b) x h = h

  still_all : (names : List Bytes) (ss : Statements) (x : Bytes) → Contains names x → Contains (told_all names ss) x
  still_all names none x h = h
  still_all names (more s ss) x h = still_all (told names s) ss x (still_told names s x h)

-- ---- parameters and locals that are in scope are declared

abbrev pub AreTold : Entries → List Bytes → Type 0
AreTold locals names = (x : Bytes) → is_some (found locals x) ≡ true → Contains names x

added_told : (locals : Entries) (names : List Bytes) (x : Bytes) (m : Means) → Contains names x → AreTold locals names → AreTold (added locals x m) names
added_told locals names x m there h y e = by_case (found locals y) (bytes_eq y x) refl refl (sym (ap is_some (found_added locals y x m)) ∙ e)
  where
    by_case : (o : Option Means) (b : Bool) → found locals y ≡ o → bytes_eq y x ≡ b → is_some (option_or o (cond b (Some m) None)) ≡ true → Contains names y
    by_case (Some n) b is same k = h y (ap is_some is)
    by_case None true is same k = subst (λ (z : Bytes). Contains names z) (sym (same_bytes y x same)) there
    by_case None false is same k = absurd cc

dest_told : (locals : Entries) (names : List Bytes) (d : Dest) → AreTold locals names → AreTold (with_dest locals d) (walk.with_dest names d)
dest_told locals names Nowhere h = h
dest_told locals names (Into x) h = h
dest_told locals names (Fresh k x) h = added_told locals (x ∷ names) x (Cell k) (at_front x names) (λ y e. further x y names (h y e))

told_after : (locals : Entries) (names : List Bytes) (s : Statement) → AreTold locals names → AreTold (with_dest locals (dest_of s)) (told names s)
told_after locals names (set p d e) h = dest_told locals names d h
told_after locals names (call p d f es) h = dest_told locals names d h
told_after locals names (call_by p d x es) h = dest_told locals names d h
told_after locals names (input p d) h = dest_told locals names d h
told_after locals names (choice p d k) h = dest_told locals names d h
told_after locals names (if_else p e a b) h = λ x there. still_told names (if_else p e a b) x (h x there)
told_after locals names (while_loop p e a) h = λ x there. still_told names (while_loop p e a) x (h x there)
told_after locals names (skip p) h = h
told_after locals names (set_element p a i e) h = h
told_after locals names (break_loop p) h = h
told_after locals names (return_with p e) h = h
told_after locals names (assert_that p e) h = h
told_after locals names (output p e) h = h
told_after locals names (point p k) h = h
told_after locals names (force p) h = h
told_after locals names (pick p a b) h = h

pub params_told : (ps : List (Kind × Bytes)) (scope : Scope) (names : List Bytes) → ((x : Bytes) → Contains (map (λ (q : Kind × Bytes). q.1) ps) x → Contains names x)
    → AreTold scope.locals names → AreTold (with_params scope ps).locals names
params_told [] scope names within h = h
params_told (p ∷ ps) scope names within h =
    let rest = map (λ (q : Kind × Bytes). q.1) ps in
    params_told ps (with_param scope p) names (λ x there. within x (further p.1 x rest there)) (added_told scope.locals names p.1 (Cell p.0) (within p.1 (at_front p.1 rest)) h)

-- ---- picks

abbrev pub IsNoCell : Option Means → Type 0
IsNoCell None = ⊤
IsNoCell (Some (Cell k)) = ⊥
IsNoCell (Some Array) = ⊤
IsNoCell (Some (Code params gives value denied)) = ⊤
IsNoCell (Some (Refused n)) = ⊤

-- none of these names is a cell
abbrev pub HaveNoCells : Entries → Type 0
HaveNoCells es = (x : Bytes) → IsNoCell (found es x)

-- nor any name that the calls of a pick see in the whole unit
abbrev pub SeeNoCells : Option Picks → Type 0
SeeNoCells None = ⊤
SeeNoCells (Some names) = HaveNoCells names.after × HaveNoCells names.before

pub params_see : (ps : List (Kind × Bytes)) (scope : Scope) → SeeNoCells scope.picks → SeeNoCells (with_params scope ps).picks
params_see [] scope h = h
params_see (p ∷ ps) scope h = params_see ps (with_param scope p) h

-- so a cell in scope is a parameter or a local
is_local : (o l : Option Means) → IsNoCell o → IsCell (meant (option_or o l)) → is_some l ≡ true
is_local None None n h = absurd h
is_local None (Some m) n h = refl
is_local (Some (Cell k)) l n h = absurd n
is_local (Some Array) l n h = absurd h
is_local (Some (Code params gives value denied)) l n h = absurd h
is_local (Some (Refused n)) l n' h = absurd h

module _ (block : Block) (scope : Scope) (at : Context) (told_here : AreTold scope.locals at.declared) where
  picked_dest : (outside : Entries) → HaveNoCells outside → (d : Dest) → IsDest block (scopes.in_pick scope outside) d → IsHere at d
  picked_dest outside cells Nowhere h = tt
  picked_dest outside cells (Into x) h = told_here x (is_local (found outside x) (found scope.locals x) (cells x) h)
  picked_dest outside cells (Fresh k x) h = tt

  picked_placed : (outside : Entries) → HaveNoCells outside → (s : Statement) → IsPicked block scope outside s → Throughout IsPlacedWell (in_pick at) s
  picked_placed outside cells (call p d f es) h =
      record { declares = narrow_dest block (scopes.in_pick scope outside) d h.0; picked = λ e. picked_dest outside cells d h.0 }
  picked_placed outside cells _ h = absurd h

  both_placed : (o : Option Picks) → SeeNoCells o → (a b : Statement) → IsPick block scope o a b → Throughout IsPlacedWell (in_pick at) a × Throughout IsPlacedWell (in_pick at) b
  both_placed None cells a b h = absurd h
  both_placed (Some names) cells a b h = (picked_placed names.after cells.0 a h.0, picked_placed names.before cells.1 b h.1)

-- ---- the walk

-- outside of picks
no_pick : {X : Type 0} (at : Context) → at.in_pick ≡ false → at.in_pick ≡ true → X
no_pick at free e = let never : true ≡ false = sym e ∙ free in absurd cc

mutual
  statement_placed : (block : Block) (scope : Scope) (at : Context) (s : Statement) → at.in_pick ≡ false → SeeNoCells scope.picks → AreTold scope.locals at.declared
      → IsTypedStatement block scope s → Throughout IsPlacedWell at s
  statement_placed block scope at (skip p) free cells here h = record { declares = tt; picked = no_pick at free }
  statement_placed block scope at (set p d e) free cells here h = record { declares = narrow_dest block scope d h.0; picked = no_pick at free }
  statement_placed block scope at (set_element p a i e) free cells here h = record { declares = tt; picked = no_pick at free }
  statement_placed block scope at (call p d f es) free cells here h = record { declares = narrow_dest block scope d h.0; picked = no_pick at free }
  statement_placed block scope at (call_by p d x es) free cells here h = record { declares = narrow_dest block scope d h.0; picked = no_pick at free }
  statement_placed block scope at (if_else p e xs ys) free cells here h = (
    record { declares = tt; picked = no_pick at free },
    placed (block_in scope) (entered scope xs) at xs free cells here h.1,
    placed (block_in scope) (entered (after_block scope xs) ys) (past_all at xs) ys free cells (λ x there. still_all at.declared xs x (here x there)) h.2,
  )
  statement_placed block scope at (while_loop p e xs) free cells here h =
      (record { declares = tt; picked = no_pick at free }, placed (block_in scope) (entered scope xs) (in_loop at) xs free cells here h.1)
  statement_placed block scope at (break_loop p) free cells here h = record { declares = tt; picked = no_pick at free }
  statement_placed block scope at (return_with p e) free cells here h = record { declares = tt; picked = no_pick at free }
  statement_placed block scope at (assert_that p e) free cells here h = record { declares = tt; picked = no_pick at free }
  statement_placed block scope at (input p d) free cells here h = record { declares = narrow_dest block scope d h.0; picked = no_pick at free }
  statement_placed block scope at (output p e) free cells here h = record { declares = tt; picked = no_pick at free }
  statement_placed block scope at (point p k) free cells here h = record { declares = tt; picked = no_pick at free }
  statement_placed block scope at (choice p d k) free cells here h = record { declares = narrow_dest block scope d h.0; picked = no_pick at free }
  statement_placed block scope at (force p) free cells here h = record { declares = tt; picked = no_pick at free }
  statement_placed block scope at (pick p a b) free cells here h =
      let calls = both_placed block scope at here scope.picks cells a b h in
      (record { declares = tt; picked = no_pick at free }, calls.0, calls.1)

  pub placed : (block : Block) (scope : Scope) (at : Context) (ss : Statements) → at.in_pick ≡ false → SeeNoCells scope.picks → AreTold scope.locals at.declared
      → AreTyped block scope ss → ThroughoutAll IsPlacedWell at ss
  placed block scope at none free cells here h = tt
  placed block scope at (more s ss) free cells here h =
      (statement_placed block scope at s free cells here h.0, placed block (scope_after scope s) (past at s) ss free cells (told_after scope.locals at.declared s here) h.1)

-- ---- what is written and typed is good

module _ (u : Unit) where
  sound : (e : Expression) → HasInts e → HasNames u e → IsSound e
  sound (literal z) h k = h
  sound (variable x) h k = source_name u x k
  sound (element a i) h k = (source_word u a k.0, sound i h k.1)
  sound (function f) h k = source_word u f k
  sound null h k = (0, refl, omega arith)
  sound (negation e) h k = sound e h k
  sound (logical_not e) h k = sound e h k
  sound (binary o a b) h k = (sound a h.0 k.0, sound b h.1 k.1)

  all_sound : (es : List Expression) → HaveInts es → HaveNames u es → AreSound es
  all_sound [] h k = tt
  all_sound (e ∷ es) h k = (sound e h.0 k.0, all_sound es h.1 k.1)

  return_sound : (e : Option Expression) → ReturnsInts e → ReturnsNames u e → ReturnsSound e
  return_sound None h k = tt
  return_sound (Some e) h k = sound e h k

  dest_fits : (d : Dest) → DestHasNames u d → IsNarrowDest d → DestFits d
  dest_fits Nowhere h k = tt
  dest_fits (Into x) h k = source_word u x h
  dest_fits (Fresh kind x) h k = (k, source_name u x h)

  target_fits : (d : Dest) → IsTarget d → DestHasNames u d → IsNarrowDest d → TargetFits d
  target_fits Nowhere target h k = absurd target
  target_fits (Into x) target h k = source_word u x h
  target_fits (Fresh kind x) target h k = (k, source_name u x h)

  module _ (at : Context) where
    -- outside of picks by what is written, in picks by typing
    here : (d : Dest) → IsLocal at d → (at.in_pick ≡ true → IsHere at d) → IsHere at d
    here Nowhere h k = tt
    here (Into x) h k = by_test at.in_pick refl
      where
        by_test : (b : Bool) → at.in_pick ≡ b → Contains at.declared x
        by_test true e = k e
        by_test false e = h e
    here (Fresh kind x) h k = tt

    result_fits : (d : Dest) → DestHasNames u d → IsNarrowDest d → IsLocal at d → (at.in_pick ≡ true → IsHere at d) → ResultFits at d
    result_fits d h k local picked = (dest_fits d h k, here d local picked)

  pub is_good : (at : Context) (s : Statement) → IsFit u at s → IsPlacedWell at s → IsGood at s
  is_good at (skip p) h k = tt
  is_good at (set p d e) h k = (target_fits d h.target h.words.0 k.declares, sound e h.ints h.words.1)
  is_good at (set_element p a i e) h k = (source_word u a h.words.0, sound i h.ints.0 h.words.1, sound e h.ints.1 h.words.2)
  is_good at (call p d f es) h k = (result_fits at d h.words.0 k.declares h.results k.picked, source_word u f h.words.1, all_sound es h.ints h.words.2)
  is_good at (call_by p d x es) h k = (result_fits at d h.words.0 k.declares h.results k.picked, source_word u x h.words.1, all_sound es h.ints h.words.2)
  is_good at (if_else p e a b) h k = sound e h.ints h.words
  is_good at (while_loop p e a) h k = sound e h.ints h.words
  is_good at (break_loop p) h k = h.breaks
  is_good at (return_with p e) h k = return_sound e h.ints h.words
  is_good at (assert_that p e) h k = sound e h.ints h.words
  is_good at (input p d) h k = result_fits at d h.words k.declares h.results k.picked
  is_good at (output p e) h k = sound e h.ints h.words
  is_good at (point p n) h k = h.ints
  is_good at (choice p d n) h k = (result_fits at d h.words k.declares h.results k.picked, h.ints)
  is_good at (force p) h k = tt
  is_good at (pick p a b) h k = tt
