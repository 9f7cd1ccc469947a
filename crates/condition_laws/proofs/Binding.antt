-- The conditions of statements bind the bound number alone, where those that follow them do.
use Rattle.std.proofs.Common.{List, [], ◌∷◌, ◌++◌, map, length, Some, None}
use Rattle.std.specs.Prelude.{⊤, flat_map}
use Rattle.c_lang.specs.Names.{Bytes}
use Rattle.c_lang.specs.declared.unit.Pos.{Pos}
use Rattle.terms.specs.declared.sym.Sym.{Sym}
use Rattle.terms.specs.declared.fact.Fact.{Fact}
use Rattle.terms.specs.declared.fact.Fact.TheVariants as fact
use Rattle.terms.specs.declared.sequent.What.{What}
use Rattle.terms.specs.declared.sequent.What.TheVariants as what
use Rattle.terms.specs.Trees.{TermTree, FormTree, denied}
use Rattle.terms.specs.Replacing.{Change, replaced_fact}
use Rattle.expression_conditions.specs.Meanings.{val, form}
use Rattle.expression_conditions.specs.Owed.{Owed, own, own_all, own_element}
use Rattle.loop_invariants.specs.Binding.{BindsBound}
use Rattle.loop_invariants.specs.Context.{Context}
use Rattle.loop_invariants.specs.EntryNames.{result_base}
use Rattle.weakest_preconditions.specs.Changing.{change, setting, setting_at, storing, renewing, passing, returning}
use Rattle.weakest_preconditions.specs.Annotated.{Annotated, aside, set, set_element, call, call_by, if_else, while_loop, break_loop, return_with, assert_that, input, output, choice, Body, none, more}
use Rattle.weakest_preconditions.specs.Wp.{Condition, changed, under, implies, all_imply, goals, owed_at, promised, asked, returned, is_function, cells_of, wp, wp_all}
use Rattle.condition_laws.proofs.Changed.{AllBind, ConditionsBind}

-- the contracts of functions bind the bound number alone
pub record ContractsBind (c : Context) : Type 0 where
  pub needs : (f : Bytes) → AllBind (c.needs f)
  pub promises : (f : Bytes) → AllBind (c.promises f)

-- and so do the invariants of loops
abbrev mutual
  pub InvariantsBind : Annotated → Type 0
  InvariantsBind (if_else p e a b) = InvariantsBindIn a × InvariantsBindIn b
  InvariantsBind (while_loop p e a invariants fresh) = AllBind invariants × InvariantsBindIn a
  InvariantsBind (aside s) = ⊤
  InvariantsBind (set p d e) = ⊤
  InvariantsBind (set_element p a i e) = ⊤
  InvariantsBind (call p d f es result cells) = ⊤
  InvariantsBind (call_by p d x es result cells) = ⊤
  InvariantsBind (break_loop p) = ⊤
  InvariantsBind (return_with p e) = ⊤
  InvariantsBind (assert_that p e) = ⊤
  InvariantsBind (input p d fresh) = ⊤
  InvariantsBind (output p e) = ⊤
  InvariantsBind (choice p d k fresh) = ⊤

  pub InvariantsBindIn : Body → Type 0
  InvariantsBindIn none = ⊤
  InvariantsBindIn (more t ts) = InvariantsBind t × InvariantsBindIn ts

-- ---- the parts of a list

append_binds : (l m : List Condition) → ConditionsBind l → ConditionsBind m → ConditionsBind (l ++ m)
append_binds [] m h i = i
append_binds (s ∷ l) m h i = (h.0, append_binds l m h.1 i)

replaced_binds : (c : Change) (f : Fact) → BindsBound f → BindsBound (replaced_fact c f)
replaced_binds c (fact.Plain f) h = tt
replaced_binds c (fact.All x lo hi f) h = h

all_replaced_bind : (c : Change) (fs : List Fact) → AllBind fs → AllBind (map (replaced_fact c) fs)
all_replaced_bind c [] h = tt
all_replaced_bind c (f ∷ fs) h = (replaced_binds c f h.0, all_replaced_bind c fs h.1)

pub changed_binds : (c : Change) (l : List Condition) → ConditionsBind l → ConditionsBind (map (changed c) l)
changed_binds c [] h = tt
changed_binds c (s ∷ l) h = ((all_replaced_bind c s.hyps h.0.0, replaced_binds c s.goal h.0.1), changed_binds c l h.1)

under_binds : (f : Fact) (l : List Condition) → BindsBound f → ConditionsBind l → ConditionsBind (map (under f) l)
under_binds f [] b h = tt
under_binds f (s ∷ l) b h = (((b, h.0.0), h.0.1), under_binds f l b h.1)

pub all_imply_bind : (fs : List Fact) (l : List Condition) → AllBind fs → ConditionsBind l → ConditionsBind (all_imply fs l)
all_imply_bind [] l b h = h
all_imply_bind (f ∷ fs) l b h = under_binds f (all_imply fs l) b.0 (all_imply_bind fs l b.1 h)

pub goals_bind : (p : Pos) (w : What) (fs : List Fact) → AllBind fs → ConditionsBind (goals p w fs)
goals_bind p w [] h = tt
goals_bind p w (f ∷ fs) h = ((tt, h.0), goals_bind p w fs h.1)

plain_bind : (fs : List FormTree) → AllBind (map fact.Plain fs)
plain_bind [] = tt
plain_bind (f ∷ fs) = (tt, plain_bind fs)

owed_bind : (p : Pos) (os : List Owed) → ConditionsBind (map (owed_at p) os)
owed_bind p [] = tt
owed_bind p (o ∷ os) = ((plain_bind o.given, tt), owed_bind p os)

each_binds : (make : Bytes → List Condition) → ((f : Bytes) → ConditionsBind (make f)) → (fs : List Bytes) → ConditionsBind (flat_map make fs)
each_binds make h [] = tt
each_binds make h (f ∷ fs) = append_binds (make f) (flat_map make fs) (h f) (each_binds make h fs)

-- ---- statements

module _ (c : Context) (func : Bytes) (contracts : ContractsBind c) where
  asked_binds : (p : Pos) (f : Bytes) (args : List TermTree) → ConditionsBind (asked c p f args)
  asked_binds p f args = changed_binds (change (passing args)) (goals p what.Requires (c.needs f)) (goals_bind p what.Requires (c.needs f) (contracts.needs f))

  returned_binds : (f : Bytes) (args : List TermTree) (result cells : List Sym) (next : List Condition) → ConditionsBind next → ConditionsBind (returned c f args result cells next)
  returned_binds f args result cells next h =
      all_imply_bind (map (replaced_fact (change (returning c.globals args result cells))) (c.promises f)) (map (changed (change (renewing (result ++ cells)))) next)
      (all_replaced_bind (change (returning c.globals args result cells)) (c.promises f) (contracts.promises f))
      (changed_binds (change (renewing (result ++ cells))) next h)

  promised_binds : (p : Pos) (t : TermTree) → ConditionsBind (promised c func p t)
  promised_binds p t = changed_binds (change (setting result_base t)) (goals p what.Ensures (c.promises func)) (goals_bind p what.Ensures (c.promises func) (contracts.promises func))

  mutual
    pub wp_binds : (t : Annotated) (next brk : List Condition) → InvariantsBind t → ConditionsBind next → ConditionsBind brk → ConditionsBind (wp c func t next brk)
    wp_binds (aside s) next brk h n b = n
    wp_binds (set p d e) next brk h n b =
        append_binds (map (owed_at p) (own c.numbers e)) (map (changed (change (setting_at d (val c.numbers e)))) next)
        (owed_bind p (own c.numbers e)) (changed_binds (change (setting_at d (val c.numbers e))) next n)
    wp_binds (set_element p a i e) next brk h n b =
        append_binds (map (owed_at p) (own_element c.numbers a i e)) (map (changed (change (storing a (val c.numbers i) (val c.numbers e)))) next)
        (owed_bind p (own_element c.numbers a i e)) (changed_binds (change (storing a (val c.numbers i) (val c.numbers e))) next n)
    wp_binds (assert_that p e) next brk h n b = append_binds (map (owed_at p) (own c.numbers e)) _ (owed_bind p (own c.numbers e))
        ((tt, tt), under_binds (fact.Plain (form c.numbers e)) next tt n)
    wp_binds (output p e) next brk h n b = append_binds (map (owed_at p) (own c.numbers e)) next (owed_bind p (own c.numbers e)) n
    wp_binds (if_else p e a b) next brk h n k = append_binds (map (owed_at p) (own c.numbers e)) _ (owed_bind p (own c.numbers e))
        (append_binds (implies (form c.numbers e) (wp_all c func a next brk)) (implies (denied (form c.numbers e)) (wp_all c func b next brk))
        (under_binds (fact.Plain (form c.numbers e)) (wp_all c func a next brk) tt (wp_all_binds a next brk h.0 n k))
        (under_binds (fact.Plain (denied (form c.numbers e))) (wp_all c func b next brk) tt (wp_all_binds b next brk h.1 n k)))
    wp_binds (while_loop p e a invariants fresh) next brk h n b =
        append_binds (goals p what.InvariantEntry invariants) _ (goals_bind p what.InvariantEntry invariants h.0)
        (changed_binds (change (renewing fresh)) _ (all_imply_bind invariants _ h.0
        (append_binds (map (owed_at p) (own c.numbers e)) _ (owed_bind p (own c.numbers e))
        (append_binds (implies (form c.numbers e) (wp_all c func a (goals p what.InvariantKept invariants) next)) (implies (denied (form c.numbers e)) next)
        (under_binds (fact.Plain (form c.numbers e)) (wp_all c func a (goals p what.InvariantKept invariants) next) tt
        (wp_all_binds a (goals p what.InvariantKept invariants) next h.1 (goals_bind p what.InvariantKept invariants h.0) n))
        (under_binds (fact.Plain (denied (form c.numbers e))) next tt n)))))
    wp_binds (break_loop p) next brk h n b = b
    wp_binds (return_with p None) next brk h n b = goals_bind p what.Ensures (c.promises func) (contracts.promises func)
    wp_binds (return_with p (Some e)) next brk h n b = append_binds (map (owed_at p) (own c.numbers e)) (promised c func p (val c.numbers e))
        (owed_bind p (own c.numbers e)) (promised_binds p (val c.numbers e))
    wp_binds (input p d fresh) next brk h n b = changed_binds (change (renewing fresh)) next n
    wp_binds (choice p d k fresh) next brk h n b = changed_binds (change (renewing fresh)) next n
    wp_binds (call p d f es result cells) next brk h n b = append_binds (map (owed_at p) (own_all c.numbers es)) _ (owed_bind p (own_all c.numbers es))
        (append_binds (asked c p f (map (val c.numbers) es)) (returned c f (map (val c.numbers) es) result cells next)
        (asked_binds p f (map (val c.numbers) es)) (returned_binds f (map (val c.numbers) es) result cells next n))
    wp_binds (call_by p d x es result cells) next brk h n b = append_binds (map (owed_at p) (own_all c.numbers es)) _ (owed_bind p (own_all c.numbers es)) (
      (tt, tt),
      append_binds (flat_map (λ f. implies (is_function c x f) (asked c p f (map (val c.numbers) es))) (c.reached (length es))) _
          (each_binds (λ f. implies (is_function c x f) (asked c p f (map (val c.numbers) es)))
          (λ f. under_binds (fact.Plain (is_function c x f)) (asked c p f (map (val c.numbers) es)) tt (asked_binds p f (map (val c.numbers) es))) (c.reached (length es)))
          (each_binds (λ f. implies (is_function c x f) (returned c f (map (val c.numbers) es) result (cells_of c f cells) next))
          (λ f. under_binds (fact.Plain (is_function c x f)) (returned c f (map (val c.numbers) es) result (cells_of c f cells) next) tt
          (returned_binds f (map (val c.numbers) es) result (cells_of c f cells) next n)) (c.reached (length es))),
    )

    pub wp_all_binds : (b : Body) (next brk : List Condition) → InvariantsBindIn b → ConditionsBind next → ConditionsBind brk → ConditionsBind (wp_all c func b next brk)
    wp_all_binds none next brk h n k = n
    wp_all_binds (more t ts) next brk h n k = wp_binds t (wp_all c func ts next brk) brk h.0 (wp_all_binds ts next brk h.1 n k) k
