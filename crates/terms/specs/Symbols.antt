-- When two names of formulas are the same.
use Rattle.std.specs.Prelude.{Bool, ◌&&◌, nat_eq, bytes_eq}
use Rattle.terms.specs.declared.sym.Sym.{Sym}

abbrev pub same_sym : Sym → Sym → Bool
same_sym x y = bytes_eq x.base y.base && nat_eq x.count y.count
