-- The names in formulas that no program has: they speak of a call's entry and result, and of a bound number.
use Rattle.std.specs.Prelude.{ℕ, codes, ◌++◌}
use Rattle.std.specs.Fmt.{decimal}
use Rattle.c_lang.specs.Names.{Bytes}
use Rattle.terms.specs.declared.sym.Sym.{Sym}
use Rattle.expression_conditions.specs.Meanings.{current}

abbrev pub parameter_text : ℕ → Bytes
parameter_text k = codes "$" ++ decimal k

-- the value at entry of the k-th parameter, counted from 1
abbrev pub parameter_at_entry : ℕ → Sym
parameter_at_entry k = current (parameter_text k)

abbrev pub entry_text : Bytes → Bytes
entry_text g = codes "pre(" ++ (g ++ codes ")")

-- the value at entry of a global
abbrev pub global_at_entry : Bytes → Sym
global_at_entry g = current (entry_text g)

abbrev pub result_base : Bytes
result_base = codes "$r"

-- the number that a fact binds
abbrev pub bound : Sym
bound = current (codes "$")
