-- The values of a name where all pairs of a step are added, and where they are taken back.
use Rattle.std.proofs.Common.{◌≡◌, ℕ, suc, ◌+◌, Bool, true, false, ◌&&◌, nat_eq, find, bytes_eq, if◌then◌else◌, List, [], ◌∷◌, ◌++◌, slice_get, Option, Some, None, refl, sym, ap, ◌∙◌, arith}
use Rattle.c_lang.specs.Names.{Bytes}
use Rattle.terms.specs.declared.sym.Sym.{Sym}
use Rattle.terms.specs.Symbols.{same_sym}
use Rattle.expression_conditions.specs.Meanings.{current}
use Rattle.symbolic_state.specs.declared.bindings.Binding.{Binding}
use Rattle.symbolic_state.specs.Code.Bindings.{ends_at, front, bound, unbound}
use Rattle.symbolic_state.specs.Code.Values.{own_value, bound_by, unbound_by, AreCurrent}
use Rattle.symbolic_state.proofs.BindingLaws.{ends_at-last}
use Rattle.std.proofs.lemmas.Bool.{eq-eqb}

-- the test of a pair whose name is a current value
pub same_base : (x : Bytes) (p : Sym) → p.count ≡ 0 → same_sym p (current x) ≡ bytes_eq p.base x
same_base x p zero_count = ap (λ c. bytes_eq p.base x && nat_eq c 0) zero_count ∙ by (bytes_eq p.base x)
  where
    by : (b : Bool) → (b && true) ≡ b
    by true = refl
    by false = refl

module _ {T : Type 0} (n : ℕ) (x : Bytes) where
  abbrev first : List (Sym × T) → Option (Sym × T)
  first ps = find (λ p. same_sym p.0 (current x)) ps

  -- a value of the step is there already
  full : (k : ℕ) (ps : List (Sym × T)) (bs : List Binding) → ends_at n bs ≡ true → bound_by n k ps x bs ≡ bs
  full k [] bs ends = refl
  full k (p ∷ ps) bs ends = by (bytes_eq p.0.base x) (full (suc k) ps bs ends)
    where
      by : (b : Bool) → bound_by n (suc k) ps x bs ≡ bs → bound_by n (suc k) ps x (if b then bound bs (own_value n k) else bs) ≡ bs
      by true rest = ap (λ c. bound_by n (suc k) ps x (if c then bs else bs ++ (own_value n k ∷ []))) ends ∙ rest
      by false rest = rest

  pub bound_none : (k : ℕ) (ps : List (Sym × T)) (bs : List Binding) → AreCurrent ps → first ps ≡ None → bound_by n k ps x bs ≡ bs
  bound_none k [] bs are none = refl
  bound_none k (p ∷ ps) bs are none = by (same_sym p.0 (current x)) (sym (same_base x p.0 are.0)) none (λ e. bound_none (suc k) ps bs are.1 e)
    where
      by : (b : Bool) → bytes_eq p.0.base x ≡ b → (if b then Some p else first ps) ≡ None → (first ps ≡ None → bound_by n (suc k) ps x bs ≡ bs)
          → bound_by n (suc k) ps x (if bytes_eq p.0.base x then bound bs (own_value n k) else bs) ≡ bs
      by true e none rest = absurd cc
      by false e none rest = ap (λ b. bound_by n (suc k) ps x (if b then bound bs (own_value n k) else bs)) e ∙ rest none

  pub record At (k : ℕ) (ps : List (Sym × T)) (bs : List Binding) (q : Sym × T) : Type 0 where
    pub place : ℕ
    pub there : slice_get ps place ≡ Some q
    pub is : bound_by n k ps x bs ≡ bs ++ (own_value n (k + place) ∷ [])

  pub bound_some : (k : ℕ) (ps : List (Sym × T)) (bs : List Binding) (q : Sym × T) → AreCurrent ps → first ps ≡ Some q → ends_at n bs ≡ false → At k ps bs q
  bound_some k [] bs q are some ends = absurd cc
  bound_some k (p ∷ ps) bs q are some ends = by (same_sym p.0 (current x)) (sym (same_base x p.0 are.0)) some (λ e. bound_some (suc k) ps bs q are.1 e ends)
    where
      added : List Binding
      added = bs ++ (own_value n k ∷ [])

      by : (b : Bool) → bytes_eq p.0.base x ≡ b → (if b then Some p else first ps) ≡ Some q → (first ps ≡ Some q → At (suc k) ps bs q) → At k (p ∷ ps) bs q
      by true e some rest = record {
        place = 0;
        there = some;
        is = ap (λ b. bound_by n (suc k) ps x (if b then bound bs (own_value n k) else bs)) e
            ∙ ap (λ c. bound_by n (suc k) ps x (if c then bs else added)) ends
            ∙ full (suc k) ps added (ends_at-last n bs (own_value n k) ∙ eq-eqb n n refl)
            ∙ ap (λ j. bs ++ (own_value n j ∷ [])) zero_more;
      }
        where
          zero_more : k ≡ k + 0
          zero_more = omega arith
      by false e some rest =
          let at = rest some in
          let more : suc k + at.place ≡ k + suc at.place = omega arith in
          record {
            place = suc at.place;
            there = at.there;
            is = ap (λ b. bound_by n (suc k) ps x (if b then bound bs (own_value n k) else bs)) e ∙ at.is ∙ ap (λ j. bs ++ (own_value n j ∷ [])) more;
          }

  -- ---- taken back

  pub unbound_none : (ps : List (Sym × T)) (bs : List Binding) → AreCurrent ps → first ps ≡ None → unbound_by n ps x bs ≡ bs
  unbound_none [] bs are none = refl
  unbound_none (p ∷ ps) bs are none = by (same_sym p.0 (current x)) (sym (same_base x p.0 are.0)) none (λ e. unbound_none ps bs are.1 e)
    where
      by : (b : Bool) → bytes_eq p.0.base x ≡ b → (if b then Some p else first ps) ≡ None → (first ps ≡ None → unbound_by n ps x bs ≡ bs)
          → unbound_by n ps x (if bytes_eq p.0.base x then unbound n bs else bs) ≡ bs
      by true e none rest = absurd cc
      by false e none rest = ap (λ b. unbound_by n ps x (if b then unbound n bs else bs)) e ∙ rest none

  -- nothing of the step is left
  empty : (ps : List (Sym × T)) (bs : List Binding) → ends_at n bs ≡ false → unbound_by n ps x bs ≡ bs
  empty [] bs ends = refl
  empty (p ∷ ps) bs ends = by (bytes_eq p.0.base x) (empty ps bs ends)
    where
      by : (b : Bool) → unbound_by n ps x bs ≡ bs → unbound_by n ps x (if b then unbound n bs else bs) ≡ bs
      by true rest = ap (λ c. unbound_by n ps x (if c then front bs else bs)) ends ∙ rest
      by false rest = rest

  pub unbound_some : (ps : List (Sym × T)) (bs : List Binding) (q : Sym × T) → AreCurrent ps → first ps ≡ Some q → ends_at n (unbound n bs) ≡ false
      → unbound_by n ps x bs ≡ unbound n bs
  unbound_some [] bs q are some ends = absurd cc
  unbound_some (p ∷ ps) bs q are some ends = by (same_sym p.0 (current x)) (sym (same_base x p.0 are.0)) some (λ e. unbound_some ps bs q are.1 e ends)
    where
      by : (b : Bool) → bytes_eq p.0.base x ≡ b → (if b then Some p else first ps) ≡ Some q → (first ps ≡ Some q → unbound_by n ps x bs ≡ unbound n bs)
          → unbound_by n ps x (if bytes_eq p.0.base x then unbound n bs else bs) ≡ unbound n bs
      by true e some rest = ap (λ b. unbound_by n ps x (if b then unbound n bs else bs)) e ∙ empty ps (unbound n bs) ends
      by false e some rest = ap (λ b. unbound_by n ps x (if b then unbound n bs else bs)) e ∙ rest some
