use Rattle.std.proofs.Common.{to_z, of_z, w32, ◌≡◌, FitsSigned, Ok, sym, ap, ◌∙◌, rules}
use Rattle.std.proofs.lemmas.Int.{to_z-of_z}
use Rattle.c_lang.specs.Values.{Num, is_zero, negated, truth}
use Rattle.plain_run.specs.Code.Arithmetic as ints
use Rattle.plain_run.specs.Code.Scopes.{look_in}
use Rattle.plain_run.specs.Values.{number_of}
use Rattle.plain_run.proofs.ArithmeticLaws.{number-seen, numbered-negated}
use Rattle.plain_run.proofs.EvalLaws.{in_literal, in_variable, in_element, element_fails, in_negation, negation_fails, in_not, not_fails, in_binary, binary_fails, open_right, right_fails, joined-settled, value}
use Rattle.plain_run.proofs.eval.Scope.+eval.Goals as goal

pub eval-returns-in-Lit : goal.eval-returns-in-Lit
eval-returns-in-Lit g t c =
    let R = g.E.Look.rules c.args.self.now.environment.now in
    let look = look_in g.E.Look.seen R (g.E.Look.state c.args.self.now.environment.now) c.args.self.now.frame.now in
    let fits : FitsSigned w32 c.in-Lit.number = search rules in
    ap (λ z. Ok (Num z)) (to_z-of_z w32 c.in-Lit.number fits) ∙ in_literal R.access.same look c.in-Lit.is

pub eval-returns-in-Var : goal.eval-returns-in-Var
eval-returns-in-Var g t c =
    let R = g.E.Look.rules c.args.self.now.environment.now in
    let look = look_in g.E.Look.seen R (g.E.Look.state c.args.self.now.environment.now) c.args.self.now.frame.now in
    in_variable R.access.same look c.in-Var.is (c.known.ensures look.code ∙ c.value.ensures)

pub eval-returns-in-Ok : goal.eval-returns-in-Ok
eval-returns-in-Ok g t c =
    let R = g.E.Look.rules c.args.self.now.environment.now in
    let look = look_in g.E.Look.seen R (g.E.Look.state c.args.self.now.environment.now) c.args.self.now.frame.now in
    let at : to_z w32 (of_z w32 c.number.result) ≡ number_of c.in-Ok.index = search rules in
    in_element R.access.same look c.in-Elem.is c.get.ensures c.in-Ok.ensures (at ∙ sym (number-seen _ c.in-Ok.index)) c.element.ensures

pub eval-returns-in-Err : goal.eval-returns-in-Err
eval-returns-in-Err g t c =
    let R = g.E.Look.rules c.args.self.now.environment.now in
    let look = look_in g.E.Look.seen R (g.E.Look.state c.args.self.now.environment.now) c.args.self.now.frame.now in
    element_fails R.access.same look c.in-Elem.is c.get.ensures c.in-Err.ensures

pub eval-returns-in-Ok-eval : goal.eval-returns-in-Ok-eval
eval-returns-in-Ok-eval g t c =
    let R = g.E.Look.rules c.args.self.now.environment.now in
    let look = look_in g.E.Look.seen R (g.E.Look.state c.args.self.now.environment.now) c.args.self.now.frame.now in
    let is : c.negated.result ≡ ints.negated (number_of c.in-Ok-eval.operand) = search rules in
    in_negation R.access.same look c.in-Neg.is c.get-in-Neg.ensures c.in-Ok-eval.ensures
    (c.answer.ensures look.code ∙ ap ints.numbered is ∙ numbered-negated (number_of c.in-Ok-eval.operand) ∙ ap negated (sym (number-seen _ c.in-Ok-eval.operand)))

pub eval-returns-in-Err-eval : goal.eval-returns-in-Err-eval
eval-returns-in-Err-eval g t c =
    let R = g.E.Look.rules c.args.self.now.environment.now in
    let look = look_in g.E.Look.seen R (g.E.Look.state c.args.self.now.environment.now) c.args.self.now.frame.now in
    negation_fails R.access.same look c.in-Neg.is c.get-in-Neg.ensures c.in-Err-eval.ensures

pub eval-returns-in-Ok-eval-2 : goal.eval-returns-in-Ok-eval-2
eval-returns-in-Ok-eval-2 g t c =
    let R = g.E.Look.rules c.args.self.now.environment.now in
    let look = look_in g.E.Look.seen R (g.E.Look.state c.args.self.now.environment.now) c.args.self.now.frame.now in
    let is : to_z w32 (of_z w32 c.truth.result) ≡ ints.truth (is_zero (number_of c.in-Ok-eval-2.operand)) = search rules in
    in_not R.access.same look c.in-Not.is c.get-in-Not.ensures c.in-Ok-eval-2.ensures
    (ap (λ z. Ok (Num z)) is ∙ ap (λ n. truth (is_zero n)) (sym (number-seen _ c.in-Ok-eval-2.operand)))

pub eval-returns-in-Err-eval-2 : goal.eval-returns-in-Err-eval-2
eval-returns-in-Err-eval-2 g t c =
    let R = g.E.Look.rules c.args.self.now.environment.now in
    let look = look_in g.E.Look.seen R (g.E.Look.state c.args.self.now.environment.now) c.args.self.now.frame.now in
    not_fails R.access.same look c.in-Not.is c.get-in-Not.ensures c.in-Err-eval-2.ensures

pub eval-returns-in-Ok-eval-3 : goal.eval-returns-in-Ok-eval-3
eval-returns-in-Ok-eval-3 g t c =
    let R = g.E.Look.rules c.args.self.now.environment.now in
    let look = look_in g.E.Look.seen R (g.E.Look.state c.args.self.now.environment.now) c.args.self.now.frame.now in
    in_binary R.access.same look c.in-Bin.is c.get-in-Bin.ensures c.get-in-Ok-eval-3.ensures c.in-Ok-eval-3.ensures c.joined.ensures

pub eval-returns-in-Err-eval-3 : goal.eval-returns-in-Err-eval-3
eval-returns-in-Err-eval-3 g t c =
    let R = g.E.Look.rules c.args.self.now.environment.now in
    let look = look_in g.E.Look.seen R (g.E.Look.state c.args.self.now.environment.now) c.args.self.now.frame.now in
    binary_fails R.access.same look _ c.in-Bin.is c.get-in-Bin.ensures c.in-Err-eval-3.ensures

pub joined-returns-in-Some : goal.joined-returns-in-Some
joined-returns-in-Some g t c =
    let R = g.E.Look.rules c.args.self.now.environment.now in
    let look = look_in g.E.Look.seen R (g.E.Look.state c.args.self.now.environment.now) c.args.self.now.frame.now in
    let fits : FitsSigned w32 c.in-Some.number = search rules in
    let left : to_z w32 (of_z w32 c.number.result) ≡ number_of c.args.left = search rules in
    ap (λ z. Ok (Num z)) (to_z-of_z w32 c.in-Some.number fits)
    ∙ joined-settled R.access.same c.args.op _ (value R.access.same look c.args.right.now) c.in-Some.number (c.in-Some.ensures ∙ ap (ints.settled c.args.op) (left ∙ sym (number-seen _ c.args.left)))

pub joined-returns-in-Ok : goal.joined-returns-in-Ok
joined-returns-in-Ok g t c =
    let R = g.E.Look.rules c.args.self.now.environment.now in
    let look = look_in g.E.Look.seen R (g.E.Look.state c.args.self.now.environment.now) c.args.self.now.frame.now in
    let left : to_z w32 (of_z w32 c.number.result) ≡ number_of c.args.left = search rules in
    open_right R.access.same look c.args.right.now c.args.op _ c.applied.ensures c.in-Ok.ensures (c.in-None.ensures ∙ ap (ints.settled c.args.op) (left ∙ sym (number-seen _ c.args.left)))

pub joined-returns-in-Err : goal.joined-returns-in-Err
joined-returns-in-Err g t c =
    let R = g.E.Look.rules c.args.self.now.environment.now in
    let look = look_in g.E.Look.seen R (g.E.Look.state c.args.self.now.environment.now) c.args.self.now.frame.now in
    let left : to_z w32 (of_z w32 c.number.result) ≡ number_of c.args.left = search rules in
    right_fails R.access.same look c.args.right.now c.args.op _ c.in-Err.ensures (c.in-None.ensures ∙ ap (ints.settled c.args.op) (left ∙ sym (number-seen _ c.args.left)))
