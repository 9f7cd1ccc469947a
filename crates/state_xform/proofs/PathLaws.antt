-- What the walk finds is what holds of all paths.
use Rattle.std.specs.Prelude.{◌≡◌, Bool, true, false, ◌&&◌, ◌||◌, List, [], ◌∷◌, map, bytes_eq}
use Rattle.std.proofs.Common.{refl, sym, ap, ap₂, ◌∙◌}
use Rattle.std.specs.List.{list_any, list_all, flat_map}
use Rattle.std.proofs.lemmas.List.Folds.{list_all-append, list_any-append}
use Rattle.c_lang.specs.Names.{Bytes}
use Rattle.c_lang.specs.Trees.{Statement, Statements, skip, set, set_element, call, call_by, if_else, while_loop, break_loop, return_with, assert_that, input, output, point, choice, force, pick, none, more}
use Rattle.c_lang.specs.declared.stmt.Dest.{Dest}
use Rattle.c_lang.specs.declared.stmt.Dest.TheVariants.{Nowhere, Into, Fresh}
use Rattle.state_xform.specs.Paths.{Path, behind, returned, broken, set_by, goes_on, returned_among, extended, followed_by, paths_of, paths_in, sets_behind, sets_returned, always_set}
use Rattle.state_xform.specs.Code.Walk.{Sets, found, joined, either, is_set, walk, walk_all}

-- ---- tests

and_true : (b : Bool) → (b && true) ≡ b
and_true true = refl
and_true false = refl

or_false : (b : Bool) → (b || false) ≡ b
or_false true = refl
or_false false = refl

or_true : (b : Bool) → (b || true) ≡ true
or_true true = refl
or_true false = refl

-- over a choice, and over one more
or_and : (a b c : Bool) → (a || (b && c)) ≡ ((a || b) && (a || c))
or_and true b c = refl
or_and false b c = refl

-- ---- one path followed by all of these

module _ (x : Bytes) where
  abbrev all_behind : List Path → Bool
  all_behind ps = list_all (sets_behind x) ps

  abbrev all_returned : List Path → Bool
  all_returned ps = list_all (sets_returned x) ps

  abbrev are_set : List Bytes → Bool
  are_set names = list_any (bytes_eq x) names

  one-behind : (names : List Bytes) (q : Path) → sets_behind x (extended names q) ≡ (are_set names || sets_behind x q)
  one-behind names (behind others) = list_any-append (bytes_eq x) names others
  one-behind names (returned others) = sym (or_true (are_set names))
  one-behind names (broken others) = sym (or_true (are_set names))

  one-returned : (names : List Bytes) (q : Path) → sets_returned x (extended names q) ≡ (are_set names || sets_returned x q)
  one-returned names (behind others) = sym (or_true (are_set names))
  one-returned names (returned others) = list_any-append (bytes_eq x) names others
  one-returned names (broken others) = sym (or_true (are_set names))

  extended-all : (sets : Path → Bool) (names : List Bytes) → ((q : Path) → sets (extended names q) ≡ (are_set names || sets q)) → (qs : List Path)
      → list_all sets (map (extended names) qs) ≡ (are_set names || list_all sets qs)
  extended-all sets names one [] = sym (or_true (are_set names))
  extended-all sets names one (q ∷ qs) = ap₂ (λ a b. a && b) (one q) (extended-all sets names one qs) ∙ sym (or_and (are_set names) (sets q) (list_all sets qs))

  behind-all : (ps qs : List Path) → all_behind (flat_map (followed_by qs) ps) ≡ (all_behind ps || all_behind qs)
  behind-all [] qs = refl
  behind-all (behind names ∷ ps) qs =
      list_all-append (sets_behind x) (map (extended names) qs) (flat_map (followed_by qs) ps)
      ∙ ap₂ (λ a b. a && b) (extended-all (sets_behind x) names (one-behind names) qs) (behind-all ps qs)
      ∙ factored (are_set names) (all_behind ps) (all_behind qs)
    where
      factored : (a b c : Bool) → ((a || c) && (b || c)) ≡ ((a && b) || c)
      factored true true c = refl
      factored true false c = refl
      factored false true true = refl
      factored false true false = refl
      factored false false true = refl
      factored false false false = refl
  behind-all (returned names ∷ ps) qs = behind-all ps qs
  behind-all (broken names ∷ ps) qs = behind-all ps qs

  returned-all : (ps qs : List Path) → all_returned (flat_map (followed_by qs) ps) ≡ (all_returned ps && (all_behind ps || all_returned qs))
  returned-all [] qs = refl
  returned-all (behind names ∷ ps) qs =
      list_all-append (sets_returned x) (map (extended names) qs) (flat_map (followed_by qs) ps)
      ∙ ap₂ (λ a b. a && b) (extended-all (sets_returned x) names (one-returned names) qs) (returned-all ps qs)
      ∙ factored (are_set names) (all_returned ps) (all_behind ps) (all_returned qs)
    where
      factored : (a r b c : Bool) → ((a || c) && (r && (b || c))) ≡ (r && ((a && b) || c))
      factored true true b c = refl
      factored true false b c = refl
      factored false true true true = refl
      factored false true true false = refl
      factored false true false true = refl
      factored false true false false = refl
      factored false false b true = refl
      factored false false b false = refl
  returned-all (returned names ∷ ps) qs = ap (λ b. are_set names && b) (returned-all ps qs) ∙ grouped (are_set names) (all_returned ps) (all_behind ps || all_returned qs)
    where
      grouped : (a r b : Bool) → (a && (r && b)) ≡ ((a && r) && b)
      grouped true r b = refl
      grouped false r b = refl
  returned-all (broken names ∷ ps) qs = returned-all ps qs

  -- ---- loops

  returned-alone : (ps : List Path) → all_returned (returned_among ps) ≡ all_returned ps
  returned-alone [] = refl
  returned-alone (behind names ∷ ps) = returned-alone ps
  returned-alone (returned names ∷ ps) = ap (λ b. are_set names && b) (returned-alone ps)
  returned-alone (broken names ∷ ps) = returned-alone ps

  -- ---- statements

  abbrev all_of : List Path → Sets
  all_of ps = found (all_behind ps) (all_returned ps)

  set-by : (d : Dest) → all_of (goes_on (set_by d)) ≡ found (is_set d x) true
  set-by Nowhere = refl
  set-by (Into y) = ap (λ b. found b true) (and_true (bytes_eq x y || false) ∙ or_false (bytes_eq x y))
  set-by (Fresh k y) = refl

  mutual
    walk-is : (s : Statement) → all_of (paths_of s) ≡ walk x s
    walk-is (set p d e) = set-by d
    walk-is (if_else p e a b) =
        ap₂ found (list_all-append (sets_behind x) (paths_in a) (paths_in b)) (list_all-append (sets_returned x) (paths_in a) (paths_in b))
        ∙ ap₂ either (walk-all a) (walk-all b)
    walk-is (while_loop p e a) = ap (λ r. found false r) (returned-alone (paths_in a) ∙ ap (λ (w : Sets). w.returned) (walk-all a))
    walk-is (break_loop p) = refl
    walk-is (return_with p e) = refl
    walk-is (skip p) = refl
    walk-is (set_element p a i e) = refl
    walk-is (call p d f es) = refl
    walk-is (call_by p d y es) = refl
    walk-is (assert_that p e) = refl
    walk-is (input p d) = refl
    walk-is (output p e) = refl
    walk-is (point p k) = refl
    walk-is (choice p d k) = refl
    walk-is (force p) = refl
    walk-is (pick p a b) = refl

    walk-all : (ss : Statements) → all_of (paths_in ss) ≡ walk_all x ss
    walk-all none = refl
    walk-all (more s ss) =
        ap₂ found (behind-all (paths_of s) (paths_in ss)) (returned-all (paths_of s) (paths_in ss))
        ∙ ap₂ joined (walk-is s) (walk-all ss)

pub always-set : (x : Bytes) (ss : Statements) (w : Sets) → w ≡ walk_all x ss → (w.behind && w.returned) ≡ always_set x ss
always-set x ss w is = ap (λ (v : Sets). v.behind && v.returned) (is ∙ sym (walk-all x ss))
