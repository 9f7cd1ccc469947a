-- The same list, made from the front: what stands round a condition is carried along, and each condition is finished
-- when it is made.
use Rattle.std.specs.Prelude.{◌≡◌, pos, List, [], ◌∷◌, ◌++◌, map, length, Some, None}
use Rattle.c_lang.specs.Names.{Bytes}
use Rattle.terms.specs.declared.sym.Sym.{Sym}
use Rattle.terms.specs.declared.fact.Fact.{Fact}
use Rattle.terms.specs.declared.fact.Fact.TheVariants as fact
use Rattle.terms.specs.declared.sequent.What.TheVariants as what
use Rattle.terms.specs.Trees.{TermTree, number, name, FormTree, equal, denied}
use Rattle.terms.specs.Replacing.{Change, replaced_fact}
use Rattle.expression_conditions.specs.Meanings.{val, form, current}
use Rattle.expression_conditions.specs.Owed.{own, own_all, own_element}
use Rattle.weakest_preconditions.specs.Changing.{change, setting_at, storing, renewing, returning}
use Rattle.loop_invariants.specs.Context.{Context}
use Rattle.weakest_preconditions.specs.Annotated.{Annotated, aside, set, set_element, call, call_by, if_else, while_loop, break_loop, return_with, assert_that, input, output, choice, Body, none, more}
use Rattle.weakest_preconditions.specs.Wp.{Condition, changed, under, goal_of, goals, owed_at, promised, asked, is_function, cells_of}

-- what stands round a condition: hypotheses and changes, the innermost applied first
abbrev pub Round : Type 0
Round = Condition → Condition

-- what is made, in every surrounding
abbrev pub Maker : Type 0
Maker = Round → List Condition

-- it makes this list
abbrev pub Makes : Maker → List Condition → Type 0
Makes make l = (k : Round) → make k ≡ map k l

abbrev pub given : FormTree → Round → Round
given h k s = k (under (fact.Plain h) s)

abbrev pub under_all : List Fact → Round
under_all [] s = s
under_all (h ∷ hs) s = under h (under_all hs s)

abbrev pub behind : Change → Round → Round
behind c k s = k (changed c s)

-- behind a call of f
abbrev pub behind_call : Context → Bytes → List TermTree → List Sym → List Sym → Round → Round
behind_call c f args result cells k s = k (under_all (map (replaced_fact (change (returning c.globals args result cells))) (c.promises f))
    (changed (change (renewing (result ++ cells))) s))

-- where a loop goes round once more, or ends
abbrev pub in_loop : List Fact → List Sym → Round → Round
in_loop invariants fresh k s = k (changed (change (renewing fresh)) (under_all invariants s))

-- what is made for each function that a pointer may reach
abbrev pub for_each : List Bytes → (Bytes → List Condition) → List Condition
for_each [] make = []
for_each (f ∷ fs) make = make f ++ for_each fs make

abbrev mutual
  pub walk : Context → Bytes → Annotated → Maker → Maker → Round → List Condition
  walk c func (aside s) next brk k = next k
  walk c func (set p d e) next brk k =
      map k (map (owed_at p) (own c.numbers e)) ++ next (behind (change (setting_at d (val c.numbers e))) k)
  walk c func (set_element p a i e) next brk k = map k (map (owed_at p) (own_element c.numbers a i e))
      ++ next (behind (change (storing a (val c.numbers i) (val c.numbers e))) k)
  walk c func (assert_that p e) next brk k = map k (map (owed_at p) (own c.numbers e))
      ++ (k (goal_of p what.Assert (fact.Plain (form c.numbers e))) ∷ next (given (form c.numbers e) k))
  walk c func (output p e) next brk k = map k (map (owed_at p) (own c.numbers e)) ++ next k
  walk c func (if_else p e a b) next brk k = map k (map (owed_at p) (own c.numbers e))
      ++ (walk_all c func a next brk (given (form c.numbers e) k) ++ walk_all c func b next brk (given (denied (form c.numbers e)) k))
  walk c func (while_loop p e a invariants fresh) next brk k = map k (goals p what.InvariantEntry invariants)
      ++ (map (in_loop invariants fresh k) (map (owed_at p) (own c.numbers e))
      ++ (walk_all c func a (λ j. map j (goals p what.InvariantKept invariants)) next (given (form c.numbers e) (in_loop invariants fresh k))
      ++ next (given (denied (form c.numbers e)) (in_loop invariants fresh k))))
  walk c func (break_loop p) next brk k = brk k
  walk c func (return_with p None) next brk k = map k (goals p what.Ensures (c.promises func))
  walk c func (return_with p (Some e)) next brk k =
      map k (map (owed_at p) (own c.numbers e)) ++ map k (promised c func p (val c.numbers e))
  walk c func (input p d fresh) next brk k = next (behind (change (renewing fresh)) k)
  walk c func (choice p d n fresh) next brk k = next (behind (change (renewing fresh)) k)
  walk c func (call p d f es result cells) next brk k = map k (map (owed_at p) (own_all c.numbers es))
      ++ (map k (asked c p f (map (val c.numbers) es)) ++ next (behind_call c f (map (val c.numbers) es) result cells k))
  walk c func (call_by p d x es result cells) next brk k = map k (map (owed_at p) (own_all c.numbers es))
      ++ (k (goal_of p what.NullCall (fact.Plain (denied (equal (name (current x)) (number (pos 0))))))
      ∷ (for_each (c.reached (length es)) (λ f. map (given (is_function c x f) k) (asked c p f (map (val c.numbers) es)))
      ++ for_each (c.reached (length es)) (λ f. next (behind_call c f (map (val c.numbers) es) result (cells_of c f cells) (given (is_function c x f) k)))))

  pub walk_all : Context → Bytes → Body → Maker → Maker → Round → List Condition
  walk_all c func none next brk k = next k
  walk_all c func (more t ts) next brk k = walk c func t (walk_all c func ts next brk) brk k
