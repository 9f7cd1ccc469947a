use Rattle.std.proofs.Common.{◌≡◌, ◌++◌, take}
use Rattle.std.specs.List.{flat_map}
use Rattle.merge_printer.specs.Programs.{proto_text}
use Rattle.merge_printer.proofs.program.put_protos.Given as goal

abbrev pub invariant-loop-proto : goal.invariant-loop-proto
invariant-loop-proto l = l.out.items ≡ l.initial.out.items ++ flat_map proto_text (take l.proto-index l.protos)
