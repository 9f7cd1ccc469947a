-- What a table of globals stands for.
use Rattle.std.specs.Prelude.{◌≡◌, List}
use Rattle.std.specs.Borrow.{Bor}
use Rattle.std.specs.Option.{option_map}
use Rattle.c_lang.specs.Names.{Bytes}
use Rattle.c_lang.specs.Programs.{global_named}
use Rattle.c_lang.specs.declared.program.GlobalVar.{GlobalVar}
use Rattle.plain_run.specs.Code.Names.{found}

abbrev pub HasGlobals : List (Bor Bytes × Bor GlobalVar) → List GlobalVar → Type 0
HasGlobals entries globals = (x : Bytes) → option_map (λ g. g.now) (found entries x) ≡ global_named globals x
