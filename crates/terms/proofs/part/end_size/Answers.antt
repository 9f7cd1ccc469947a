use Rattle.std.proofs.Common.{◌∙◌, ap, sym}
use Rattle.terms.specs.Code.Operands.{end_size}
use Rattle.terms.proofs.OperandLaws.{end_size-last}
use Rattle.terms.proofs.part.end_size.Goals as goal

pub returns-in-Some-clause-size : goal.returns-in-Some-clause-size
returns-in-Some-clause-size c = sym (ap end_size c.in-Some.ensures.cases.0 ∙ end_size-last c.in-Some.field-0-1.now c.in-Some.node.now)
