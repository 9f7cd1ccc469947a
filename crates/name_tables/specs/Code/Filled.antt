-- Tables that have the first declaration of each name.
use Rattle.std.specs.Prelude.{◌≡◌, ℕ, List, unwrap_or}
use Rattle.std.specs.Borrow.{Bor}
use Rattle.std.specs.Option.{option_map}
use Rattle.c_lang.specs.Names.{Bytes}
use Rattle.c_lang.specs.Programs.{global_named, func_named}
use Rattle.c_lang.specs.declared.program.Func.{Func}
use Rattle.c_lang.specs.declared.program.GlobalVar.{GlobalVar}
use Rattle.name_tables.specs.declared.names.Numbered.{Numbered}
use Rattle.name_tables.specs.declared.table.NameTable.{NameTable}
use Rattle.name_tables.specs.Declarations.{number_from}
use Rattle.name_tables.specs.Tables.{found}

abbrev pub HasGlobals : NameTable (Bor GlobalVar) → List GlobalVar → Type 0
HasGlobals table globals = (x : Bytes) → option_map (λ g. g.now) (found table x) ≡ global_named globals x

-- functions with their numbers, the first of which is n
pub record HasFuncs (table : NameTable Numbered) (n : ℕ) (funcs : List Func) : Type 0 where
  pub named : (x : Bytes) → option_map (λ f. f.func.now) (found table x) ≡ func_named funcs x
  pub numbered : (x : Bytes) → unwrap_or (option_map (λ f. f.number) (found table x)) 0 ≡ number_from n funcs x
