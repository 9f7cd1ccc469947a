-- What stands in for names at the start, found name by name.
use Rattle.std.proofs.Common.{◌≡◌, ℤ, Bool, true, false, ◌&&◌, if◌then◌else◌, List, [], ◌∷◌, ◌++◌, map, find, Option, Some, None, unwrap_or, refl, sym, ap, ◌∙◌}
use Rattle.std.specs.Prelude.{nat_eq}
use Rattle.std.specs.Option.{option_map}
use Rattle.std.specs.Str.{bytes_eq}
use Rattle.c_lang.specs.Programs.{global_named}
use Rattle.c_lang.specs.declared.program.GlobalVar.{GlobalVar}
use Rattle.c_lang.specs.declared.program.Program.{Program}
use Rattle.terms.specs.declared.sym.Sym.{Sym}
use Rattle.terms.specs.declared.node.Node.{Node}
use Rattle.terms.specs.declared.node.NodeKind.{NodeKind}
use Rattle.terms.specs.declared.node.NodeKind.TheVariants as kind
use Rattle.terms.specs.Symbols.{same_sym}
use Rattle.terms.specs.Trees.{TermTree, number, name}
use Rattle.terms.specs.Nodes.{term_nodes}
use Rattle.terms.specs.Code.Rewriting.{operands_size, put_operator, put_node}
use Rattle.expression_conditions.specs.Meanings.{current}
use Rattle.loop_invariants.specs.EntryNames.{bound}
use Rattle.weakest_preconditions.specs.Changing.{change}
use Rattle.weakest_preconditions.specs.Conditions.{initial_number, initial_numbers}
use Rattle.initial_conditions.specs.Code.Numbers.{number_at_start, name_or_number, kind_at_start}

-- a name, or the number that it is, as a term
abbrev term_of : Sym → Option ℤ → TermTree
term_of x None = name x
term_of x (Some z) = number z

module _ (p : Program) where
  abbrev pairs : List GlobalVar → List (Sym × TermTree)
  pairs gs = map (λ g. (current g.name, number (initial_number p g.shape))) gs

  abbrev named : List GlobalVar → Sym → Option ℤ
  named gs x = option_map (λ g. initial_number p g.shape) (global_named gs x.base)

  -- the first pair of a name is that of the first global
  looked_up : (x : Sym) (gs : List GlobalVar) → unwrap_or (option_map (λ e. e.1) (find (λ e. same_sym e.0 x) (pairs gs))) (name x)
      ≡ term_of x (if nat_eq 0 x.count then named gs x else None)
  looked_up x [] = nothing (nat_eq 0 x.count)
    where
      nothing : (zero : Bool) → name x ≡ term_of x (if zero then None else None)
      nothing true = refl
      nothing false = refl
  looked_up x (g ∷ gs) = by (bytes_eq g.name x.base) (nat_eq 0 x.count) (looked_up x gs)
    where
      by : (b zero : Bool)
          → unwrap_or (option_map (λ e. e.1) (find (λ e. same_sym e.0 x) (pairs gs))) (name x) ≡ term_of x (if zero then named gs x else None)
          → unwrap_or (option_map (λ e. e.1) (if b && zero then Some (current g.name, number (initial_number p g.shape)) else find (λ e. same_sym e.0 x) (pairs gs))) (name x)
          ≡ term_of x (if zero then option_map (λ h. initial_number p h.shape) (if b then Some g else global_named gs x.base) else None)
      by true true rest = refl
      by false true rest = rest
      by true false rest = rest
      by false false rest = rest

  -- what stands in for a name
  stands_in : (x : Sym) → (change (initial_numbers p)).number x ≡ term_of x (number_at_start p x)
  stands_in x = by (same_sym bound x)
    where
      by : (b : Bool) → (if b then name x else unwrap_or (option_map (λ e. e.1) (find (λ e. same_sym e.0 x) (pairs p.globals))) (name x))
          ≡ term_of x (if b then None else (if nat_eq 0 x.count then named p.globals x else None))
      by true = refl
      by false = looked_up x p.globals

  name_is_put : (ns : List Node) (x : Sym) (z : Option ℤ) → ns ++ term_nodes (term_of x z) ≡ put_operator ns (name_or_number x z)
  unfolding put_operator operands_size
  name_is_put ns x None = refl
  name_is_put ns x (Some z) = refl

  -- what becomes of a node
  pub node_is_put : (ns : List Node) (k : NodeKind) → put_operator ns (kind_at_start p k) ≡ put_node (change (initial_numbers p)) ns k
  unfolding put_node put_operator operands_size
  node_is_put ns (kind.Of x) = sym (ap (λ t. ns ++ term_nodes t) (stands_in x) ∙ name_is_put ns x (number_at_start p x))
  node_is_put ns (kind.Base x) = refl
  node_is_put ns (kind.Num z) = refl
  node_is_put ns kind.Add = refl
  node_is_put ns kind.Sub = refl
  node_is_put ns kind.Mul = refl
  node_is_put ns kind.Div = refl
  node_is_put ns kind.Rem = refl
  node_is_put ns kind.Read = refl
  node_is_put ns kind.Truth = refl
  node_is_put ns kind.Store = refl
  node_is_put ns kind.True = refl
  node_is_put ns kind.False = refl
  node_is_put ns kind.Le = refl
  node_is_put ns kind.Eq = refl
  node_is_put ns kind.Not = refl
  node_is_put ns kind.And = refl
  node_is_put ns kind.Or = refl
