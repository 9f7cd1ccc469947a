use Rattle.std.proofs.Common.{◌++◌, ◌∙◌, List, ℕ, sym, ap, append_assoc, arith}
use Rattle.merge_printer.proofs.Ints.{more_ints_step}
use Rattle.merge_printer.proofs.declarations.put_more_ints.Goals as goal

pub loop-left-preserved : goal.loop-left-preserved
loop-left-preserved c =
    rw c.in_ok-put_text.ensures
    (append_assoc c.loop-left.out.items _ _
    ∙ ap (λ (rest : List ℕ). c.loop-left.out.items ++ rest) (sym (more_ints_step c.loop-left.left (omega arith)))
    ∙ c.loop-left.invariant)
