use Rattle.std.proofs.Common.{◌≡◌, ◌++◌, ◌∙◌, length, sym, ap, append-nil, arith}
use Rattle.c_lang.specs.Names.{Bytes}
use Rattle.formula_texts.proofs.StackLaws.{nothing_left}
use Rattle.formula_texts.proofs.write.put_all.Goals as goal

pub returns : goal.returns
returns c =
    let out = c.loop-top.out.items in
    let empty : length c.loop-top.stack.items ≡ 0 = omega (arith, c.in_default.ensures.cases) in
    sym (append-nil out) ∙ ap (λ (t : Bytes). out ++ t) (sym (nothing_left c.loop-top.stack.items empty)) ∙ c.loop-top.invariant
