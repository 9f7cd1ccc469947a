use Rattle.std.proofs.Common.{◌≡◌, drop}
use Rattle.c_lang.specs.Kinds.{same_kinds}
use Rattle.c_lang.proofs.stmt.same_kinds.Given as goal

-- the lists are the same exactly where what is left of them is
abbrev pub invariant-loop-kind : goal.invariant-loop-kind
invariant-loop-kind l = same_kinds l.left l.right ≡ same_kinds (drop l.kind-index l.left) l.others
