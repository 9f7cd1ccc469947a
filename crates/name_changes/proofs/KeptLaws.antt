-- Changes that leave the bound number.
use Rattle.std.proofs.Common.{◌≡◌, Bool, true, false, find, if◌then◌else◌, Option, Some, unwrap_or, refl, ap}
use Rattle.std.specs.Option.{option_map}
use Rattle.terms.specs.declared.sym.Sym.{Sym}
use Rattle.terms.specs.declared.changes.Changes.{Changes}
use Rattle.terms.specs.Symbols.{same_sym}
use Rattle.terms.specs.Code.SymbolLaws.{same_sym-equal}
use Rattle.terms.specs.Trees.{TermTree, name}
use Rattle.terms.specs.Replacing.{change_in}
use Rattle.loop_invariants.specs.EntryNames.{bound}
use Rattle.weakest_preconditions.specs.Changing.{change}
use Rattle.name_changes.specs.Kept.{keeping_bound}

-- the pair of the bound number is the same as leaving it
pub keeping_is : (c : Changes) → change_in (keeping_bound c) ≡ change c
keeping_is c = λ i. record { number = λ x. numbers x i; array = (change_in c).array }
  where
    by : (x : Sym) (b : Bool) (rest : Option (Sym × TermTree)) → same_sym bound x ≡ b
        → unwrap_or (option_map (λ p. p.1) (if b then Some (bound, name bound) else rest)) (name x)
        ≡ (if b then name x else unwrap_or (option_map (λ p. p.1) rest) (name x))
    by x true rest e = ap name (same_sym-equal bound x e)
    by x false rest e = refl

    numbers : (x : Sym) → (change_in (keeping_bound c)).number x ≡ (change c).number x
    numbers x = by x (same_sym bound x) (find (λ p. same_sym p.0 x) c.numbers) refl
