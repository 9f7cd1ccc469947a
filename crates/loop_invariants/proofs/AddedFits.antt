-- Hints that fit a program still do with an invariant more that may stand at its loop.
use Rattle.std.proofs.Common.{◌≡◌, ℕ, ◌==◌, Bool, true, false, not, ◌&&◌, if◌then◌else◌, List, [], ◌∷◌, ◌++◌, map, flat_map, length, Option, Some, None, All, refl, ap, ap₂, ◌∙◌}
use Rattle.std.specs.List.{list_any}
use Rattle.std.specs.Str.{bytes_eq}
use Rattle.std.proofs.lemmas.Bool.Decides.{Decides-eqb}
use Rattle.std.proofs.lemmas.List.Elements.{All-cons, All-nil, All-head, All-tail, All-append}
use Rattle.std.proofs.lemmas.Slice.Eq.{bytes_eq-Decides}
use Rattle.c_lang.specs.Names.{Bytes}
use Rattle.c_lang.specs.Trees.{Statement, Statements, statements, statement_of}
use Rattle.c_lang.specs.Trees as tree
use Rattle.c_lang.specs.declared.unit.Pos.{Pos}
use Rattle.c_lang.specs.declared.program.Func.{Func}
use Rattle.c_lang.specs.declared.program.Program.{Program}
use Rattle.terms.specs.declared.fact.Fact.{Fact}
use Rattle.loop_invariants.specs.declared.hints.LoopInvariants.{LoopInvariants}
use Rattle.loop_invariants.specs.Hints.{Hints}
use Rattle.loop_invariants.specs.Context.{Context, context_of}
use Rattle.loop_invariants.specs.SetNames.{set_by, is_among, sets, sets_in}
use Rattle.loop_invariants.specs.Clauses.{Place, loop_place}
use Rattle.loop_invariants.specs.Assigned.{lists_too_few, first_too_few}
use Rattle.loop_invariants.specs.Fitting.{MayStand, AreInvariants, Fit}
use Rattle.loop_invariants.specs.Adding.{is_of, with_invariant, added, may_be_added, may_stand_at}

-- ---- what statements set is read of contracts alone

module _ (c d : Context) (assigns : c.assigns ≡ d.assigns) (reached : c.reached ≡ d.reached) where
  mutual
    same_sets : (s : Statement) → sets c s ≡ sets d s
    same_sets (tree.set p to e) = refl
    same_sets (tree.set_element p a i e) = refl
    same_sets (tree.call p to f es) = ap (λ g. set_by to ++ g f) assigns
    same_sets (tree.call_by p to x es) = ap₂ (λ g h. set_by to ++ flat_map g (h (length es))) assigns reached
    same_sets (tree.if_else p e a b) = ap₂ (λ xs ys. xs ++ ys) (same_sets_in a) (same_sets_in b)
    same_sets (tree.while_loop p e a) = same_sets_in a
    same_sets (tree.input p to) = refl
    same_sets (tree.choice p to k) = refl
    same_sets (tree.skip p) = refl
    same_sets (tree.break_loop p) = refl
    same_sets (tree.return_with p e) = refl
    same_sets (tree.assert_that p e) = refl
    same_sets (tree.output p e) = refl
    same_sets (tree.point p k) = refl
    same_sets (tree.force p) = refl
    same_sets (tree.pick p a b) = refl

    pub same_sets_in : (ss : Statements) → sets_in c ss ≡ sets_in d ss
    same_sets_in tree.none = refl
    same_sets_in (tree.more s ss) = ap₂ (λ xs ys. xs ++ ys) (same_sets s) (same_sets_in ss)

module _ (p : Program) (hints : Hints) (func : Bytes) (number : ℕ) (f : Fact) where
  abbrev before : Context
  before = context_of p hints

  abbrev after : Context
  after = context_of p (added hints func number f)

  same_test : (d : Func) → lists_too_few after d ≡ lists_too_few before d
  same_test d = ap (λ set. list_any (λ x. is_among x before.globals && not (is_among x (before.assigns d.name))) set)
      (same_sets_in after before refl refl (statements (map statement_of d.body)))

  same_first : (ds : List Func) → first_too_few after ds ≡ first_too_few before ds
  same_first [] = refl
  same_first (d ∷ ds) = ap₂ (λ (b : Bool) (rest : Option Pos). if b then Some d.pos else rest) (same_test d) (same_first ds)

-- ---- the invariants

one_more : (p : Program) (at : Option Place) (fs : List Fact) (f : Fact) → AreInvariants p at fs → may_stand_at p at f ≡ true → AreInvariants p at (fs ++ (f ∷ []))
one_more p None fs f are may = are
one_more p (Some at) fs f are may = All-append (MayStand p at) fs (f ∷ []) are (All-cons (MayStand p at) f [] may (All-nil (MayStand p at)))

first_one : (p : Program) (at : Option Place) (f : Fact) → may_stand_at p at f ≡ true → AreInvariants p at (f ∷ [])
first_one p None f may = absurd (differ may)
  where
    differ : false ≡ true → ⊥
    differ e = cc
first_one p (Some at) f may = All-cons (MayStand p at) f [] may (All-nil (MayStand p at))

both_true : (a b : Bool) → (a && b) ≡ true → (a ≡ true) × (b ≡ true)
both_true true b e = (refl, e)
both_true false b e = cc

module _ (p : Program) (func : Bytes) (number : ℕ) (f : Fact) (may : may_be_added p func number f ≡ true) where
  there : (l : LoopInvariants) → is_of func number l ≡ true → may_stand_at p (loop_place p l.func l.number) f ≡ true
  there l is =
      let parts : ((l.number == number) ≡ true) × (bytes_eq l.func func ≡ true) = both_true (l.number == number) (bytes_eq l.func func) is in
      let same_number : l.number ≡ number = (Decides-eqb l.number number).0 parts.0 in
      let same_func : l.func ≡ func = (bytes_eq-Decides l.func func).0 parts.1 in
      ap₂ (λ g n. may_stand_at p (loop_place p g n) f) same_func same_number ∙ may

  all_hold : (ls : List LoopInvariants) → All (λ l. AreInvariants p (loop_place p l.func l.number) l.facts) ls
      → All (λ l. AreInvariants p (loop_place p l.func l.number) l.facts) (with_invariant ls func number f)
  all_hold [] all = All-cons (λ l. AreInvariants p (loop_place p l.func l.number) l.facts) _ [] (first_one p (loop_place p func number) f may)
      (All-nil (λ l. AreInvariants p (loop_place p l.func l.number) l.facts))
  all_hold (l ∷ ls) all = by (is_of func number l) refl (all_hold ls (All-tail (λ l. AreInvariants p (loop_place p l.func l.number) l.facts) l ls all))
    where
      by : (b : Bool) → is_of func number l ≡ b → All (λ l. AreInvariants p (loop_place p l.func l.number) l.facts) (with_invariant ls func number f)
          → All (λ l. AreInvariants p (loop_place p l.func l.number) l.facts)
          (if b then (record l { facts = l.facts ++ (f ∷ []) }) ∷ ls else l ∷ with_invariant ls func number f)
      by true is rest = All-cons (λ l. AreInvariants p (loop_place p l.func l.number) l.facts) _ ls
          (one_more p (loop_place p l.func l.number) l.facts f (All-head (λ l. AreInvariants p (loop_place p l.func l.number) l.facts) l ls all) (there l is))
          (All-tail (λ l. AreInvariants p (loop_place p l.func l.number) l.facts) l ls all)
      by false is rest = All-cons (λ l. AreInvariants p (loop_place p l.func l.number) l.facts) l _
          (All-head (λ l. AreInvariants p (loop_place p l.func l.number) l.facts) l ls all) rest

  pub added_fits : (hints : Hints) → Fit p hints → Fit p (added hints func number f)
  added_fits hints fit = record {
    contracts = fit.contracts;
    loops = all_hold hints.loops fit.loops;
    cells = same_first p hints func number f p.funcs ∙ fit.cells;
  }
