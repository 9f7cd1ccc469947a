-- The conditions of a statement, in front of those of what follows it: what has to hold before it, so that all of
-- these hold.
use Rattle.std.specs.Prelude.{pos, List, [], ◌∷◌, ◌++◌, map, flat_map, filter, length, Some, None}
use Rattle.c_lang.specs.Names.{Bytes}
use Rattle.c_lang.specs.declared.unit.Pos.{Pos}
use Rattle.terms.specs.declared.sym.Sym.{Sym}
use Rattle.terms.specs.declared.fact.Fact.{Fact}
use Rattle.terms.specs.declared.fact.Fact.TheVariants as fact
use Rattle.terms.specs.declared.sequent.Label.{Label}
use Rattle.terms.specs.declared.sequent.What.{What}
use Rattle.terms.specs.declared.sequent.What.TheVariants as what
use Rattle.terms.specs.Trees.{TermTree, number, name, FormTree, equal, denied}
use Rattle.terms.specs.Replacing.{Change, replaced_fact}
use Rattle.expression_conditions.specs.Meanings.{val, form, current}
use Rattle.expression_conditions.specs.Owed.{Owed, own, own_all, own_element}
use Rattle.loop_invariants.specs.EntryNames.{result_base}
use Rattle.weakest_preconditions.specs.Changing.{change, setting, setting_at, storing, renewing, passing, returning}
use Rattle.loop_invariants.specs.Context.{Context}
use Rattle.loop_invariants.specs.SetNames.{is_among}
use Rattle.weakest_preconditions.specs.Annotated.{Annotated, aside, set, set_element, call, call_by, if_else, while_loop, break_loop, return_with, assert_that, input, output, choice, Body, none, more}

-- a condition without its sorts, which are told by its names
pub record Condition : Type 0 where
  pub hyps : List Fact
  pub goal : Fact
  pub label : Label

abbrev pub changed : Change → Condition → Condition
changed c s = record s { hyps = map (replaced_fact c) s.hyps; goal = replaced_fact c s.goal }

abbrev pub under : Fact → Condition → Condition
under h s = record s { hyps = h ∷ s.hyps }

abbrev pub implies : FormTree → List Condition → List Condition
implies h l = map (under (fact.Plain h)) l

abbrev pub all_imply : List Fact → List Condition → List Condition
all_imply [] l = l
all_imply (h ∷ hs) l = map (under h) (all_imply hs l)

abbrev pub goal_of : Pos → What → Fact → Condition
goal_of p w f = record { hyps = []; goal = f; label = record { pos = p; what = w } }

abbrev pub goals : Pos → What → List Fact → List Condition
goals p w fs = map (goal_of p w) fs

abbrev pub owed_at : Pos → Owed → Condition
owed_at p o = record { hyps = map fact.Plain o.given; goal = fact.Plain o.goal; label = record { pos = p; what = o.what } }

-- what a function promises, where it ends with this result
abbrev pub promised : Context → Bytes → Pos → TermTree → List Condition
promised c func p t = map (changed (change (setting result_base t))) (goals p what.Ensures (c.promises func))

-- what a call of f asks
abbrev pub asked : Context → Pos → Bytes → List TermTree → List Condition
asked c p f args = map (changed (change (passing args))) (goals p what.Requires (c.needs f))

-- what follows a call of f
abbrev pub returned : Context → Bytes → List TermTree → List Sym → List Sym → List Condition → List Condition
returned c f args result cells next = all_imply (map (replaced_fact (change (returning c.globals args result cells))) (c.promises f))
    (map (changed (change (renewing (result ++ cells)))) next)

-- the pointer is the function f
abbrev pub is_function : Context → Bytes → Bytes → FormTree
is_function c x f = equal (name (current x)) (number (c.numbers.function f))

-- the fresh names of the cells that f may change
abbrev pub cells_of : Context → Bytes → List Sym → List Sym
cells_of c f cells = filter (λ x. is_among x.base (c.assigns f)) cells

-- `func` is the function in whose body the statement stands; `next` is what follows it, `brk` what follows the loop
abbrev mutual
  pub wp : Context → Bytes → Annotated → List Condition → List Condition → List Condition
  wp c func (aside s) next brk = next
  wp c func (set p d e) next brk = map (owed_at p) (own c.numbers e) ++ map (changed (change (setting_at d (val c.numbers e)))) next
  wp c func (set_element p a i e) next brk = map (owed_at p) (own_element c.numbers a i e)
      ++ map (changed (change (storing a (val c.numbers i) (val c.numbers e)))) next
  wp c func (assert_that p e) next brk = map (owed_at p) (own c.numbers e)
      ++ (goal_of p what.Assert (fact.Plain (form c.numbers e)) ∷ implies (form c.numbers e) next)
  wp c func (output p e) next brk = map (owed_at p) (own c.numbers e) ++ next
  wp c func (if_else p e a b) next brk = map (owed_at p) (own c.numbers e)
      ++ (implies (form c.numbers e) (wp_all c func a next brk) ++ implies (denied (form c.numbers e)) (wp_all c func b next brk))
  wp c func (while_loop p e a invariants fresh) next brk = goals p what.InvariantEntry invariants
      ++ map (changed (change (renewing fresh))) (all_imply invariants (map (owed_at p) (own c.numbers e)
      ++ (implies (form c.numbers e) (wp_all c func a (goals p what.InvariantKept invariants) next)
      ++ implies (denied (form c.numbers e)) next)))
  wp c func (break_loop p) next brk = brk
  wp c func (return_with p None) next brk = goals p what.Ensures (c.promises func)
  wp c func (return_with p (Some e)) next brk = map (owed_at p) (own c.numbers e) ++ promised c func p (val c.numbers e)
  wp c func (input p d fresh) next brk = map (changed (change (renewing fresh))) next
  wp c func (choice p d k fresh) next brk = map (changed (change (renewing fresh))) next
  wp c func (call p d f es result cells) next brk = map (owed_at p) (own_all c.numbers es)
      ++ (asked c p f (map (val c.numbers) es) ++ returned c f (map (val c.numbers) es) result cells next)
  wp c func (call_by p d x es result cells) next brk = map (owed_at p) (own_all c.numbers es)
      ++ (goal_of p what.NullCall (fact.Plain (denied (equal (name (current x)) (number (pos 0)))))
      ∷ (flat_map (λ f. implies (is_function c x f) (asked c p f (map (val c.numbers) es))) (c.reached (length es))
      ++ flat_map (λ f. implies (is_function c x f) (returned c f (map (val c.numbers) es) result (cells_of c f cells) next)) (c.reached (length es))))

  pub wp_all : Context → Bytes → Body → List Condition → List Condition → List Condition
  wp_all c func none next brk = next
  wp_all c func (more t ts) next brk = wp c func t (wp_all c func ts next brk) brk
