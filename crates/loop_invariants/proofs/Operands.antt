-- Formulas with one operator more.
use Rattle.std.proofs.Common.{◌≡◌, ◌≤◌, ℕ, suc, ◌-◌, Bool, true, false, ◌&&◌, sym, ap, ◌∙◌, subst, arith}
use Rattle.terms.specs.Trees.{TermTree, read, ArrayTree, FormTree, denied}
use Rattle.loop_invariants.specs.Clauses.{Names, may_be_term, may_be_array, may_be_form}
use Rattle.loop_invariants.specs.Code.Allowed.{are_terms, are_forms}

-- what n less one comes to
pub above : (n m : ℕ) → 1 ≤ n → m ≡ n - 1 → suc m ≡ n
above n m le e = omega (arith)

-- a first test, and a second one where it holds
pub both_hold : (a b x r : Bool) → x ≡ a → x ≡ true → r ≡ b → r ≡ (a && b)
both_hold a b x r e t f = f ∙ ap (λ y. y && b) (sym t ∙ e)

pub first_fails : (a b x : Bool) → x ≡ a → x ≡ false → x ≡ (a && b)
first_fails a b x e t = t ∙ ap (λ y. y && b) (sym t ∙ e)

module _ (names : Names) (n m : ℕ) (le : 1 ≤ n) (e : m ≡ n - 1) where
  pub terms_under : (t u : TermTree) (r : Bool) → r ≡ (may_be_term names m t && may_be_term names m u) → r ≡ are_terms names n t u
  terms_under t u r is = subst (λ k. r ≡ are_terms names k t u) (above n m le e) is

  pub element_under : (a : ArrayTree) (i : TermTree) (r : Bool) → r ≡ (may_be_array names a && may_be_term names m i) → r ≡ may_be_term names n (read a i)
  element_under a i r is = subst (λ k. r ≡ may_be_term names k (read a i)) (above n m le e) is

  pub forms_under : (f g : FormTree) (r : Bool) → r ≡ (may_be_form names m f && may_be_form names m g) → r ≡ are_forms names n f g
  forms_under f g r is = subst (λ k. r ≡ are_forms names k f g) (above n m le e) is

  pub denied_under : (f : FormTree) (r : Bool) → r ≡ may_be_form names m f → r ≡ may_be_form names n (denied f)
  denied_under f r is = subst (λ k. r ≡ may_be_form names k (denied f)) (above n m le e) is
