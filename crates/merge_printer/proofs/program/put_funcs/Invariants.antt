use Rattle.std.proofs.Common.{◌≡◌, ◌++◌, take}
use Rattle.std.specs.List.{flat_map}
use Rattle.merge_printer.specs.Programs.{func_text}
use Rattle.merge_printer.proofs.program.put_funcs.Given as goal

abbrev pub invariant-loop-func : goal.invariant-loop-func
invariant-loop-func l = l.out.items ≡ l.initial.out.items ++ flat_map func_text (take l.func-index l.funcs)
