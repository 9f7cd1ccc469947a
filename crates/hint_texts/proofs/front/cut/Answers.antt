use Rattle.std.proofs.Common.{◌+◌, ◌<◌, length, arith}
use Rattle.std.proofs.lemmas.List.{take_rest}
use Rattle.std.proofs.lemmas.Bool.Decides.{nat_tests}
use Rattle.hint_texts.specs.Code.Reading as spec
use Rattle.hint_texts.proofs.CutLaws.{cut_found}
use Rattle.hint_texts.proofs.front.cut.Goals as goal

pub returns-clause-value : goal.returns-clause-value
returns-clause-value c =
    let ts = c.args.tokens.now in
    let n = c.length_to-end.result in
    let e = c.length_to-end.ensures.value in
    let few : n < length ts = grind (arith, nat_tests, c.if-end-tokens.false, c.length_to-end.ensures.within) in
    let fewer : spec.length_to c.args.closing ts < length ts = rw (← e) few in
    rw (take_rest ts (n + 1), e) (cut_found c.args.closing ts fewer)
