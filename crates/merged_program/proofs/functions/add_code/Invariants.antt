use Rattle.std.proofs.Common.{◌≡◌, ◌++◌, drop, map}
use Rattle.update_semantics.specs.Linked.{provenance_of}
use Rattle.merged_program.specs.Code.Built.{code_func}
use Rattle.merged_program.proofs.functions.add_code.Given as goal

abbrev pub invariant-loop-f : goal.invariant-loop-f
invariant-loop-f l =
    l.all ++ map (code_func l.meanings (provenance_of l.origin)) (drop l.f-index l.funcs)
    ≡ l.initial.all ++ map (code_func l.meanings (provenance_of l.origin)) l.funcs
