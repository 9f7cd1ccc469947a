-- The count is the length of the list.
use Rattle.std.proofs.Common.{◌≡◌, ℕ, suc, ◌+◌, List, [], ◌∷◌, ◌++◌, map, flat_map, length, Some, None, refl, ap, ap₂, ◌∙◌}
use Rattle.std.proofs.lemmas.List.{length-append}
use Rattle.c_lang.specs.Names.{Bytes}
use Rattle.terms.specs.declared.sym.Sym.{Sym}
use Rattle.terms.specs.declared.fact.Fact.{Fact}
use Rattle.terms.specs.Trees.{TermTree}
use Rattle.expression_conditions.specs.Meanings.{val}
use Rattle.expression_conditions.specs.Owed.{own, own_all, own_element}
use Rattle.loop_invariants.specs.Context.{Context}
use Rattle.weakest_preconditions.specs.Annotated.{Annotated, aside, set, set_element, call, call_by, if_else, while_loop, break_loop, return_with, assert_that, input, output, choice, Body, none, more}
use Rattle.terms.specs.Replacing.{replaced_fact}
use Rattle.weakest_preconditions.specs.Changing.{change, renewing, returning}
use Rattle.weakest_preconditions.specs.Wp.{Condition, changed, under, all_imply, owed_at, asked, returned, cells_of, wp, wp_all}
use Rattle.weakest_preconditions.specs.Counted.{counted, counted_all, asked_count, once_each}

pub mapped : {A B : Type 0} (f : A → B) (l : List A) → length (map f l) ≡ length l
mapped f [] = refl
mapped f (x ∷ xs) = ap suc (mapped f xs)

pub all_implied : (hs : List Fact) (l : List Condition) → length (all_imply hs l) ≡ length l
all_implied [] l = refl
all_implied (h ∷ hs) l = mapped (under h) (all_imply hs l) ∙ all_implied hs l

-- two lists one after the other
pub counts : {A : Type 0} (a b : List A) (m n : ℕ) → length a ≡ m → length b ≡ n → length (a ++ b) ≡ m + n
counts a b m n e f = length-append a b ∙ ap₂ (λ m n. m + n) e f

pub returned_count : (c : Context) (f : Bytes) (args : List TermTree) (result cells : List Sym) (next : List Condition) →
    length (returned c f args result cells next) ≡ length next
returned_count c f args result cells next =
    all_implied (map (replaced_fact (change (returning c.globals args result cells))) (c.promises f)) (map (changed (change (renewing (result ++ cells)))) next)
    ∙ mapped (changed (change (renewing (result ++ cells)))) next

pub asked_is : (c : Context) (p : _) (f : Bytes) (args : List TermTree) → length (asked c p f args) ≡ length (c.needs f)
asked_is c p f args = mapped _ _ ∙ mapped _ (c.needs f)

pub asked_each : (c : Context) (make : Bytes → List Condition) → ((f : Bytes) → length (make f) ≡ length (c.needs f)) → (fs : List Bytes) →
    length (flat_map make fs) ≡ asked_count c fs
asked_each c make same [] = refl
asked_each c make same (f ∷ fs) = counts (make f) (flat_map make fs) _ _ (same f) (asked_each c make same fs)

pub each_once : (n : ℕ) (make : Bytes → List Condition) → ((f : Bytes) → length (make f) ≡ n) → (fs : List Bytes) →
    length (flat_map make fs) ≡ once_each fs n
each_once n make same [] = refl
each_once n make same (f ∷ fs) = counts (make f) (flat_map make fs) n _ (same f) (each_once n make same fs)

mutual
  pub counted_is : (c : Context) (func : Bytes) (t : Annotated) (N B : List Condition) →
      length (wp c func t N B) ≡ counted c func t (length N) (length B)
  counted_is c func (aside s) N B = refl
  counted_is c func (set p d e) N B = counts _ _ _ _ (mapped (owed_at p) (own c.numbers e)) (mapped _ N)
  counted_is c func (set_element p a i e) N B = counts _ _ _ _ (mapped (owed_at p) (own_element c.numbers a i e)) (mapped _ N)
  counted_is c func (assert_that p e) N B = counts _ _ _ _ (mapped (owed_at p) (own c.numbers e)) (ap suc (mapped _ N))
  counted_is c func (output p e) N B = counts _ _ _ _ (mapped (owed_at p) (own c.numbers e)) refl
  counted_is c func (if_else p e x y) N B = counts _ _ _ _ (mapped (owed_at p) (own c.numbers e))
      (counts _ _ _ _ (mapped _ (wp_all c func x N B) ∙ counted_all_is c func x N B) (mapped _ (wp_all c func y N B) ∙ counted_all_is c func y N B))
  counted_is c func (while_loop p e x invariants fresh) N B = counts _ _ _ _ (mapped _ invariants)
      (mapped _ _ ∙ all_implied invariants _ ∙ counts _ _ _ _ (mapped (owed_at p) (own c.numbers e))
      (counts _ _ _ _ (mapped _ _ ∙ counted_all_is c func x _ N ∙ ap (λ m. counted_all c func x m (length N)) (mapped _ invariants)) (mapped _ N)))
  counted_is c func (break_loop p) N B = refl
  counted_is c func (return_with p None) N B = mapped _ (c.promises func)
  counted_is c func (return_with p (Some e)) N B = counts _ _ _ _ (mapped (owed_at p) (own c.numbers e)) (mapped _ _ ∙ mapped _ (c.promises func))
  counted_is c func (input p d fresh) N B = mapped _ N
  counted_is c func (choice p d k fresh) N B = mapped _ N
  counted_is c func (call p d f es result cells) N B = counts _ _ _ _ (mapped (owed_at p) (own_all c.numbers es))
      (counts _ _ _ _ (asked_is c p f (map (val c.numbers) es)) (returned_count c f (map (val c.numbers) es) result cells N))
  counted_is c func (call_by p d x es result cells) N B = counts _ _ _ _ (mapped (owed_at p) (own_all c.numbers es)) (ap suc (counts _ _ _ _
      (asked_each c _ (λ f. mapped _ _ ∙ asked_is c p f (map (val c.numbers) es)) (c.reached (length es)))
      (each_once (length N) _ (λ f. mapped _ _ ∙ returned_count c f (map (val c.numbers) es) result (cells_of c f cells) N) (c.reached (length es)))))

  pub counted_all_is : (c : Context) (func : Bytes) (t : Body) (N B : List Condition) →
      length (wp_all c func t N B) ≡ counted_all c func t (length N) (length B)
  counted_all_is c func none N B = refl
  counted_all_is c func (more t ts) N B =
      counted_is c func t (wp_all c func ts N B) B ∙ ap (λ m. counted c func t m (length B)) (counted_all_is c func ts N B)
