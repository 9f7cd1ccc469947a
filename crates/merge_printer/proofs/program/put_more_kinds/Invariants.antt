use Rattle.std.proofs.Common.{◌≡◌, ◌+◌, ◌++◌, drop}
use Rattle.merge_printer.specs.Programs.{more_kinds}
use Rattle.merge_printer.proofs.program.put_more_kinds.Given as goal

abbrev pub invariant-loop-index : goal.invariant-loop-index
invariant-loop-index l = l.out.items ++ more_kinds (l.index + 2) (drop l.index l.kinds) ≡ l.initial.out.items ++ more_kinds 2 l.kinds
