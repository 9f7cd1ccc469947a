-- The changes of all steps replace current values alone.
use Rattle.std.proofs.Common.{◌≡◌, ℕ, suc, List, [], ◌∷◌, ◌++◌, map, refl}
use Rattle.c_lang.specs.Names.{Bytes}
use Rattle.terms.specs.declared.sym.Sym.{Sym}
use Rattle.terms.specs.Trees.{TermTree, name, array}
use Rattle.expression_conditions.specs.Meanings.{current}
use Rattle.loop_invariants.specs.EntryNames.{global_at_entry}
use Rattle.weakest_preconditions.specs.Changing.{entry_values, passing, renewing, entering}
use Rattle.symbolic_state.specs.Code.Values.{AreCurrent, IsCurrent}

mapped : {T X : Type 0} (f : X → Sym) (g : X → T) (xs : List X) → ((x : X) → (f x).count ≡ 0) → AreCurrent (map (λ x. (f x, g x)) xs)
mapped f g [] counts = tt
mapped f g (x ∷ xs) counts = (counts x, mapped f g xs counts)

append : {T : Type 0} (ps qs : List (Sym × T)) → AreCurrent ps → AreCurrent qs → AreCurrent (ps ++ qs)
append [] qs a b = b
append (p ∷ ps) qs a b = (a.0, append ps qs a.1 b)

entries : (k : ℕ) (ts : List TermTree) → AreCurrent (entry_values k ts)
entries k [] = tt
entries k (t ∷ ts) = (refl, entries (suc k) ts)

pub renewing_current : (fresh : List Sym) → IsCurrent (renewing fresh)
renewing_current fresh = (mapped (λ (x : Sym). current x.base) name fresh (λ x. refl), mapped (λ (x : Sym). current x.base) array fresh (λ x. refl))

pub passing_current : (args : List TermTree) → IsCurrent (passing args)
passing_current args = (entries 1 args, tt)

pub entering_current : (globals params : List Bytes) → IsCurrent (entering globals params)
entering_current globals params = (
  append (map (λ g. (global_at_entry g, name (current g))) globals) (entry_values 1 (map (λ x. name (current x)) params))
      (mapped global_at_entry (λ g. name (current g)) globals (λ g. refl)) (entries 1 (map (λ x. name (current x)) params)),
  mapped global_at_entry (λ g. array (current g)) globals (λ g. refl),
)
