-- How a function's statements are annotated, in the order of the text.
use Rattle.std.specs.Prelude.{ℕ, suc, Bool, true, if◌then◌else◌, List, [], ◌∷◌, ◌++◌, map, length}
use Rattle.c_lang.specs.Names.{Bytes}
use Rattle.c_lang.specs.Trees.{Statement, Statements}
use Rattle.c_lang.specs.Trees as tree
use Rattle.c_lang.specs.declared.stmt.Dest.{Dest}
use Rattle.c_lang.specs.declared.stmt.Dest.TheVariants as dest
use Rattle.terms.specs.declared.sym.Sym.{Sym}
use Rattle.loop_invariants.specs.EntryNames.{result_base}
use Rattle.loop_invariants.specs.Context.{Context}
use Rattle.loop_invariants.specs.SetNames.{is_among, set_by, sets_in, reached_assigns}
use Rattle.weakest_preconditions.specs.Annotated.{Annotated, aside, set, set_element, call, call_by, if_else, while_loop, break_loop, return_with, assert_that, input, output, choice, Body, none, more}

-- how many loops begin before a statement, and how many statements before it give a base a fresh name
pub record Place : Type 0 where
  pub loops : ℕ
  pub counts : Bytes → ℕ

abbrev pub start : Place
start = record { loops = 0; counts = λ x. 0 }

-- behind a statement that gives these bases fresh names
abbrev pub renewed : List Bytes → Place → Place
renewed bases at = record at { counts = λ x. if is_among x bases then suc (at.counts x) else at.counts x }

-- the fresh names that a statement at this place gives
abbrev pub fresh : Place → List Bytes → List Sym
fresh at bases = map (λ x. record { base = x; count = suc (at.counts x) }) bases

-- the base of a call's result; that of a function without result has none
abbrev pub result_of : Dest → Bool → List Bytes
result_of dest.Nowhere gives = if gives then result_base ∷ [] else []
result_of (dest.Into x) gives = x ∷ []
result_of (dest.Fresh k x) gives = x ∷ []

-- the place at which the body of a loop begins
abbrev pub inside : Context → Statements → Place → Place
inside c a at = record (renewed (sets_in c a) at) { loops = suc at.loops }

-- the place behind a statement; a loop's own names come before those of its body
abbrev mutual
  pub past : Context → Statement → Place → Place
  past c (tree.call p d f es) at = renewed (result_of d (c.gives f) ++ c.assigns f) at
  past c (tree.call_by p d x es) at = renewed (result_of d true ++ reached_assigns c (length es)) at
  past c (tree.if_else p e a b) at = past_all c b (past_all c a at)
  past c (tree.while_loop p e a) at = past_all c a (inside c a at)
  past c (tree.input p d) at = renewed (set_by d) at
  past c (tree.choice p d k) at = renewed (set_by d) at
  past c (tree.skip p) at = at
  past c (tree.set p d e) at = at
  past c (tree.set_element p a i e) at = at
  past c (tree.break_loop p) at = at
  past c (tree.return_with p e) at = at
  past c (tree.assert_that p e) at = at
  past c (tree.output p e) at = at
  past c (tree.point p k) at = at
  past c (tree.force p) at = at
  past c (tree.pick p a b) at = at

  pub past_all : Context → Statements → Place → Place
  past_all c tree.none at = at
  past_all c (tree.more s ss) at = past_all c ss (past c s at)

-- the statements of the function `func`, from a place on
abbrev mutual
  pub annotated : Context → Bytes → Place → Statement → Annotated
  annotated c func at (tree.set p d e) = set p d e
  annotated c func at (tree.set_element p a i e) = set_element p a i e
  annotated c func at (tree.call p d f es) = call p d f es (fresh at (result_of d (c.gives f))) (fresh at (c.assigns f))
  annotated c func at (tree.call_by p d x es) = call_by p d x es (fresh at (result_of d true)) (fresh at (reached_assigns c (length es)))
  annotated c func at (tree.if_else p e a b) = if_else p e (annotated_all c func at a) (annotated_all c func (past_all c a at) b)
  annotated c func at (tree.while_loop p e a) =
      while_loop p e (annotated_all c func (inside c a at) a) (c.invariants func (suc at.loops)) (fresh at (sets_in c a))
  annotated c func at (tree.break_loop p) = break_loop p
  annotated c func at (tree.return_with p e) = return_with p e
  annotated c func at (tree.assert_that p e) = assert_that p e
  annotated c func at (tree.input p d) = input p d (fresh at (set_by d))
  annotated c func at (tree.output p e) = output p e
  annotated c func at (tree.choice p d k) = choice p d k (fresh at (set_by d))
  annotated c func at (tree.skip p) = aside (tree.skip p)
  annotated c func at (tree.point p k) = aside (tree.point p k)
  annotated c func at (tree.force p) = aside (tree.force p)
  annotated c func at (tree.pick p a b) = aside (tree.pick p a b)

  pub annotated_all : Context → Bytes → Place → Statements → Body
  annotated_all c func at tree.none = none
  annotated_all c func at (tree.more s ss) = more (annotated c func at s) (annotated_all c func (past c s at) ss)
