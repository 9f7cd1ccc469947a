-- What stands in for names while a body is gone through. The bound number of a fact stays.
use Rattle.std.specs.Prelude.{ℕ, suc, List, [], ◌∷◌, ◌++◌, map}
use Rattle.c_lang.specs.Names.{Bytes}
use Rattle.c_lang.specs.declared.stmt.Dest.{Dest}
use Rattle.c_lang.specs.declared.stmt.Dest.TheVariants as dest
use Rattle.terms.specs.declared.sym.Sym.{Sym}
use Rattle.terms.specs.declared.changes.Changes.{Changes}
use Rattle.terms.specs.Trees.{TermTree, name, array, stored}
use Rattle.terms.specs.Replacing.{Change, change_in, below, replaced_term, replaced_array}
use Rattle.expression_conditions.specs.Meanings.{current}
use Rattle.loop_invariants.specs.EntryNames.{parameter_at_entry, global_at_entry, result_base, bound}

-- these names are replaced, all at once, but never the bound one
abbrev pub change : Changes → Change
change c = below bound (change_in c)

-- one change and then another one around it
abbrev pub composed : Change → Change → Change
composed outer inner = record {
  number = λ x. replaced_term outer (inner.number x);
  array = λ x. replaced_array outer (inner.array x);
}

abbrev pub nothing : Change
nothing = record { number = name; array = array }

-- the current value of x
abbrev pub setting : Bytes → TermTree → Changes
setting x t = record { numbers = (current x, t) ∷ []; arrays = [] }

abbrev pub setting_at : Dest → TermTree → Changes
setting_at dest.Nowhere t = record { numbers = []; arrays = [] }
setting_at (dest.Into x) t = setting x t
setting_at (dest.Fresh k x) t = setting x t

-- the current value of the array a with t at the index i
abbrev pub storing : Bytes → TermTree → TermTree → Changes
storing a i t = record { numbers = []; arrays = (current a, stored (array (current a)) i t) ∷ [] }

-- each of these names for the current value of its base
abbrev pub renewing : List Sym → Changes
renewing fresh = record {
  numbers = map (λ x. (current x.base, name x)) fresh;
  arrays = map (λ x. (current x.base, array x)) fresh;
}

-- the values at entry of the parameters from the k-th on
abbrev pub entry_values : ℕ → List TermTree → List (Sym × TermTree)
entry_values k [] = []
entry_values k (t ∷ ts) = (parameter_at_entry k, t) ∷ entry_values (suc k) ts

-- the parameters at entry have these values
abbrev pub passing : List TermTree → Changes
passing args = record { numbers = entry_values 1 args; arrays = [] }

-- A call comes to its end: the cells that it may change and its result have fresh names, a global at entry is
-- what it is now, and a parameter at entry is its argument.
abbrev pub returning : List Bytes → List TermTree → List Sym → List Sym → Changes
returning globals args result cells = record {
  numbers = map (λ x. (current result_base, name x)) result
      ++ (map (λ x. (current x.base, name x)) cells
      ++ (map (λ g. (global_at_entry g, name (current g))) globals ++ entry_values 1 args));
  arrays = map (λ x. (current x.base, array x)) cells ++ map (λ g. (global_at_entry g, array (current g))) globals;
}

-- A body begins: a global and a parameter at entry are what they are now.
abbrev pub entering : List Bytes → List Bytes → Changes
entering globals params = record {
  numbers = map (λ g. (global_at_entry g, name (current g))) globals ++ entry_values 1 (map (λ x. name (current x)) params);
  arrays = map (λ g. (global_at_entry g, array (current g))) globals;
}
